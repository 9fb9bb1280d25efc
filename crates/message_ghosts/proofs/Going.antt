-- The ghosts beside the trees that p sends q, each tested by its own neighbours, are those of the rule.
use Prim.Native.Nat.{ℕ, ◌+◌, ◌-◌, ◌≤◌, ◌<◌}
use native.Mathlib.Omega.{arith}
use mathlib.Core.Path.{◌≡◌, refl, sym, ◌∙◌}
use mathlib.Core.Bool.{Bool, true, false, not, ◌||◌, and-true, or-true}
use mathlib.Core.List.{List}
use lib.Dec.{ltb, eqb}
use borrow.Author.Tests.{ltb-true, eqb-true, eqb-false, lt-ltb, eq-eqb, ne_eqb}
use Rattle.encoding.specs.Below.{any_below, least_below}
use Rattle.encoding.proofs.Below.{tests, either, clash, and_fst, and_snd, and_intro, iff_eq, any_at, any_intro, least_is, least_below_lem}
use Rattle.offsets.specs.Table.{ranks, trees, holds}
use Rattle.pattern.specs.Sender.{Tables, sender, sends, sent_first, sent_count}
use Rattle.pattern.proofs.Counting.{range_true}
use Rattle.pattern.proofs.Senders.{sender_holds, sender_self, sender_rises, sends_true, sends_in}
use Rattle.pattern.proofs.Sets.{new_below, one_range, sent_in}
use Rattle.records.specs.Shape.{face_count}
use Rattle.records.specs.Record.{shape_of, neighbour_of, face_of}
use Rattle.part.specs.Ghosts.{is_ghost}
use Rattle.part.specs.Part.{part_holds, part_core}
use Rattle.part_theorems.proofs.SoundParts.{part_tree_lem, part_held, part_answered, part_there}
use Rattle.message.specs.Build.{part_record}
use Rattle.message.specs.Rule.{sends_beside, considers, sends_ghost, ghost_goes}
use Rattle.message.specs.Means.{ghost_sender}
use Rattle.message.proofs.Ghosts.{beside_at, beside_in, no_ghost_sender, one_ghost_sender, sends_considers}
use Rattle.message_ghosts.specs.Means.{Sending, sent_before, beside_before, goes, goes_across, goes_beside, goes_from}

module _ (part old new : List ℕ) (p q : ℕ) (s : Sending part old new p q) where
  abbrev core : ℕ → List ℕ
  core = part_core part

  abbrev T : Tables old new
  T = s.pair.tables

  abbrev Q : q < ranks old
  Q = s.pair.receiver_below

  -- ---- one ghost

  abbrev low : ℕ
  low = sent_first old new p q

  abbrev count : ℕ
  count = sent_count old new p q

  -- what p sends q is in the range from p to q
  in_range_lem : (t : ℕ) → sends old new p q t ≡ true → (low ≤ t) × (t < low + count)
  in_range_lem t e =
      let l : t < trees old = new_below old new T q t Q (sends_true old new T p q t e).0 in
      range_true low (low + count) t (sym (one_range old new T p q s.pair.sender_below Q t l) ∙ e)

  -- p sends q a tree: then the trees that q gets from itself, or from a rank below p, are those that q held and those below the first from p
  module _ (t : ℕ) (sent : sends old new p q t ≡ true) where
    -- the first tree from p is one from p
    first-sent : sends old new p q low ≡ true
    first-sent = let r = in_range_lem t sent in sent_in old new T p q s.pair.sender_below Q low (omega arith) (omega (arith, r.0, r.1))

    first_below : low < trees old
    first_below = new_below old new T q low Q (sends_true old new T p q low first-sent).0

    first-sender : sender old low q ≡ p
    first-sender = (sends_true old new T p q low first-sent).1

    -- what q gets from a rank below p is below it
    below_first : (h : ℕ) → h < trees old → sender old h q < p → h < low
    below_first h l c = either (ltb h low) (λ e. ltb-true h low e) (λ e. absurd (omega (tests, first-sender, sender_rises old new T low h q (omega tests) l Q)))

    -- and what is below it, q gets from such a rank
    first_above : (h : ℕ) → holds new q h ≡ true → h < low → sender old h q < p
    first_above h e c =
        let m : sender old h q ≤ p = rw (first-sender) at (sender_rises old new T h low q (omega arith) first_below Q) in
        either (eqb (sender old h q) p)
        (λ d.
        let x : sends old new p q h ≡ true = rw (eqb-true (sender old h q) p d) at (sends_in old new T q h e) in
        absurd (omega (arith, (in_range_lem h x).0)))
        (λ d. omega (arith, eqb-false (sender old h q) p d))

    before-from : (r h : ℕ) → sends old new r q h ≡ true → (eqb r q || ltb r p) ≡ true → sent_before old new q low h ≡ true
    unfolding sent_before
    before-from r h e d =
        let x = sends_true old new T r q h e in
        let l : h < trees old = new_below old new T q h Q x.0 in
        either (eqb r q)
        (λ i.
        let own : holds old q h ≡ true = rw (x.1, eqb-true r q i) at (sender_holds old new T h q l Q) in
        rw (x.0, own))
        (λ i. rw (x.0, lt-ltb h low (below_first h l (rw x.1 (ltb-true r p (rw i at d)))), or-true))

    before_at : (h : ℕ) → sent_before old new q low h ≡ true → (sends old new (sender old h q) q h ≡ true) × ((eqb (sender old h q) q || ltb (sender old h q) p) ≡ true)
    unfolding sent_before
    before_at h e =
        let has : holds new q h ≡ true = and_fst (holds new q h) _ e in
        let rest : (holds old q h || ltb h low) ≡ true = and_snd (holds new q h) _ e in (
          sends_in old new T q h has,
          either (holds old q h)
              (λ o. rw (sender_self old new T h q o, eq-eqb q q refl))
              (λ o. rw (lt-ltb (sender old h q) p (first_above h has (ltb-true h low (rw o at rest))), or-true)),
        )

  module _ (g : ℕ) (beside : sends_beside core old new p q g ≡ true) where
    abbrev faces : ℕ
    faces = face_count (shape_of (core g))

    abbrev before : Bool
    before = beside_before part old new q low g faces

    -- another sender of a neighbour of g is seen at that neighbour
    other-seen : (r : ℕ) → sends_beside core old new r q g ≡ true → (eqb r q || ltb r p) ≡ true → before ≡ true
    unfolding beside_before
    other-seen r e d =
        let near = beside_at core old new p q g beside in
        let a = beside_at core old new r q g e in
        any_intro faces (λ f. sent_before old new q low (neighbour_of (core g) f)) a.0 a.1 (before-from (neighbour_of (core g) near.0) near.2 r (neighbour_of (core g) a.0) a.2 d)

    -- and what is seen there is another sender
    seen_other : before ≡ true → (r : ℕ) × (sends_beside core old new r q g ≡ true) × ((eqb r q || ltb r p) ≡ true)
    unfolding beside_before
    seen_other e =
        let a = any_at faces (λ f. sent_before old new q low (neighbour_of (core g) f)) e in
        let h : ℕ = neighbour_of (core g) a.0 in
        let near = beside_at core old new p q g beside in
        let b = before_at (neighbour_of (core g) near.0) near.2 h a.2 in
        (sender old h q, beside_in core old new (sender old h q) q g a.0 a.1 b.0, b.1)

    abbrev least : ℕ
    least = least_below (ranks old) (λ r. sends_beside core old new r q g)

    -- p is the one sender of g where there is no other
    chosen : eqb p (ghost_sender core old new q g) ≡ (eqb p q || not before)
    unfolding ghost_sender
    chosen =
        either (eqb p q)
        (λ e.
        let same : p ≡ q = eqb-true p q e in
        let own : sends_beside core old new q q g ≡ true = rw same at beside in
        rw (e, own) e)
        (λ e.
        rw e
        (either before
        (λ b.
        let o = seen_other b in
        let r : ℕ = o.0 in
        rw b
        (either (sends_beside core old new q q g)
        (λ own. rw own e)
        (λ own. rw own
        (either (eqb r q)
        (λ d. clash (rw (eqb-true r q d) at o.1) own)
        (λ d.
        let less : r < p = ltb-true r p (rw d at o.2) in
        ne_eqb p least (λ x. clash o.1 (least_below_lem (ranks old) (λ r. sends_beside core old new r q g) r (omega arith))))))))
        (λ b.
        let own : sends_beside core old new q q g ≡ false =
        either (sends_beside core old new q q g) (λ c. clash (other-seen q c (rw (eq-eqb q q refl))) b) (λ c. c) in
        let is : least ≡ p =
        least_is (ranks old) (λ r. sends_beside core old new r q g) p s.pair.sender_below beside
        (λ r l. either (sends_beside core old new r q g) (λ c. clash (other-seen r c (either (eqb r q) (λ x. rw x) (λ x. rw x (lt-ltb r p l)))) b) (λ c. c)) in
        rw (b, own, is) (eq-eqb p p refl))))

    -- a tree beside one that p sends q is a ghost of q where q hasn't it
    ghost_is_lem : is_ghost core new q g ≡ not (holds new q g)
    unfolding is_ghost
    ghost_is_lem =
        let a = beside_at core old new p q g beside in
        let h : holds new q (neighbour_of (core g) a.0) ≡ true = (sends_true old new T p q (neighbour_of (core g) a.0) a.2).0 in
        rw (any_intro faces (λ f. holds new q (neighbour_of (core g) f)) a.0 a.1 h, and-true)

    -- p sends it where the test says so
    goes-is : sends_ghost core old new p q g ≡ goes part old new p q low g
    unfolding goes
    goes-is =
        either (holds new q g)
        (λ e. rw e (no_ghost_sender core old new p q g (rw e at ghost_is_lem)))
        (λ e. rw e (one_ghost_sender core old new T q g Q (rw e at ghost_is_lem) p ∙ chosen))

  -- ---- all ghosts

  -- a tree that p sends q is held
  pub sent_held : (t : ℕ) → sends old new p q t ≡ true → holds old p t ≡ true
  sent_held t e =
      let d = sends_true old new T p q t e in
      rw d.1 at (sender_holds old new T t q (new_below old new T q t Q d.0) Q)

  abbrev goes_with_lem : ℕ → Bool
  goes_with_lem = ghost_goes core old new (part_holds part) (part_record part) p q

  -- what is across a face of a tree sent and passes the test goes
  goes-there : (t f k : ℕ) → sends old new p q t ≡ true → f < face_count (shape_of (core t)) → goes_across part old new p q low t f k ≡ true → goes_with_lem k ≡ true
  unfolding goes_across ghost_goes
  goes-there t f k e h g =
      let own : holds old p t ≡ true = sent_held t e in
      let has : part_holds part t ≡ true = part_tree_lem part old p s.sound t own in
      let is : k ≡ neighbour_of (core t) f = eqb-true k (neighbour_of (core t) f) (and_fst (eqb k (neighbour_of (core t) f)) _ g) in
      let hand : part_holds part (neighbour_of (core t) f) ≡ true = part_held part old p s.sound t has f h own in
      let back : neighbour_of (core (neighbour_of (core t) f)) (face_of (core t) f) ≡ t = (part_answered part old p s.sound t has f h hand).0 in
      let there = part_there part old p s.sound t has f h hand in
      let beside : sends_beside core old new p q k ≡ true =
      rw is (beside_in core old new p q (neighbour_of (core t) f) (face_of (core t) f) there (rw back e)) in
      and_intro (part_holds part k) (sends_ghost core old new p q k) (rw is hand) (goes-is k beside ∙ and_snd (eqb k (neighbour_of (core t) f)) (goes part old new p q low k) g)

  -- what goes is across a face of a tree sent
  goes_back : (k : ℕ) → goes_with_lem k ≡ true
      → (t : ℕ) × (f : ℕ) × (sends old new p q t ≡ true) × (f < face_count (shape_of (core t))) × (goes_across part old new p q low t f k ≡ true)
  unfolding goes_across ghost_goes considers
  goes_back k g =
      let hand : part_holds part k ≡ true = and_fst (part_holds part k) _ g in
      let sent : sends_ghost core old new p q k ≡ true = and_snd (part_holds part k) (sends_ghost core old new p q k) g in
      let beside : sends_beside core old new p q k ≡ true = and_fst (sends_beside core old new p q k) _ (sends_considers core old new p q k sent) in
      let a = beside_at core old new p q k beside in
      let f : ℕ = a.0 in
      let t : ℕ = neighbour_of (core k) f in
      let has : part_holds part t ≡ true = part_tree_lem part old p s.sound t (sent_held t a.2) in
      let back = (part_answered part old p s.sound k hand f a.1 has).0 in
      let there = part_there part old p s.sound k hand f a.1 has in
      (t, face_of (core k) f, a.2, there, and_intro (eqb k (neighbour_of (core t) (face_of (core k) f))) (goes part old new p q low k) (eq-eqb k (neighbour_of (core t) (face_of (core k) f)) (sym back)) (sym (goes-is k beside) ∙ sent))

  -- the ghosts across the faces of the trees sent are those that go
  pub goes_with : (k : ℕ) → goes_from part old new p q (sent_first old new p q) (sent_count old new p q) k
      ≡ ghost_goes (part_core part) old new (part_holds part) (part_record part) p q k
  unfolding goes_from goes_beside
  goes_with k =
      let near : ℕ → Bool = λ i. any_below (face_count (shape_of (core (low + i)))) (λ f. goes_across part old new p q low (low + i) f k) in
      iff_eq (any_below count near) (goes_with_lem k)
      (λ e.
      let a = any_at count near e in
      let t : ℕ = low + a.0 in
      let b = any_at (face_count (shape_of (core t))) (λ f. goes_across part old new p q low t f k) a.2 in
      goes-there t b.0 k (sent_in old new T p q s.pair.sender_below Q t (omega arith) (omega (arith, a.1))) b.1 b.2)
      (λ e.
      let b = goes_back k e in
      let t : ℕ = b.0 in
      let f : ℕ = b.1 in
      let sent : sends old new p q t ≡ true = b.2 in
      let r = in_range_lem t sent in
      let is : low + (t - low) ≡ t = omega (arith, r.0) in
      any_intro count near (t - low) (omega (arith, r.0, r.1))
      (rw is (any_intro (face_count (shape_of (core t))) (λ f. goes_across part old new p q low t f k) f b.3 b.4)))
