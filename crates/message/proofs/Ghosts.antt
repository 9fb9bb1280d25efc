-- Laws of who sends a tree and who sends a ghost.
use Prim.Native.Nat.{ℕ, ◌<◌}
use mathlib.Core.Path.{◌≡◌, refl, sym, ◌∙◌}
use mathlib.Core.Bool.{Bool, true, false, cond, not, ◌&&◌, ◌||◌, and-true, and-false}
use mathlib.Core.List.{List}
use lib.Dec.{ltb, eqb}
use borrow.Author.Tests.{eqb-true, lt-ltb, eq-eqb}
use Rattle.encoding.specs.Below.{any_below, least_below}
use Rattle.encoding.proofs.Below.{either, and_fst, and_snd, any_at, any_intro, least_lt, least_at, least_same}
use Rattle.offsets.specs.Table.{ranks, trees, holds}
use Rattle.records.specs.Shape.{face_count}
use Rattle.records.specs.Record.{shape_of, neighbour_of}
use Rattle.pattern.specs.Sender.{Tables, sender, sends}
use Rattle.pattern.specs.Sets.{sends_to}
use Rattle.pattern.proofs.Senders.{sender_lt, sender_holds, sends_true, sends_in}
use Rattle.pattern.proofs.Sets.{new_below}
use Rattle.mesh.specs.Mesh.{mesh_trees, mesh_core, mesh_record}
use Rattle.part.specs.Ghosts.{is_ghost}
use Rattle.message.specs.Rule.{sends_beside, considers, sends_ghost, ghost_goes}
use Rattle.message.specs.Means.{ghost_sender}

-- ---- trees

module _ (old new : List ℕ) (T : Tables old new) where
  -- no two ranks send q the same tree
  sends-once : (p p' q k : ℕ) → sends old new p q k ≡ true → sends old new p' q k ≡ true → p ≡ p'
  sends-once p p' q k e d = sym (sends_true old new T p q k e).1 ∙ (sends_true old new T p' q k d).1

  -- the rank that sends q a tree is below P
  pub sender_below : (p q k : ℕ) → q < ranks old → sends old new p q k ≡ true → p < ranks old
  sender_below p q k l e =
      let s = sends_true old new T p q k e in
      rw (← s.1) (sender_lt old new T k q (new_below old new T q k l s.0) l)

  -- a rank that sends q one tree sends q a tree
  pub sends_some : (p q k : ℕ) → q < ranks old → sends old new p q k ≡ true → sends_to old new p q ≡ true
  unfolding sends_to sends
  sends_some p q k l e = any_intro (trees old) (sends old new p q) k (new_below old new T q k l (sends_true old new T p q k e).0) e

  -- each tree of f'(q) is among the trees of one message to q
  pub tree_one_message : (q k : ℕ) → q < ranks old → holds new q k ≡ true
      → (p : ℕ) × (p < ranks old) × (sends old new p q k ≡ true) × (sends_to old new p q ≡ true) × ((r : ℕ) → sends old new r q k ≡ true → r ≡ p)
  tree_one_message q k l e =
      let s = sends_in old new T q k e in
      let p = sender old k q in
      (p, sender_below p q k l s, s, sends_some p q k l s, (λ r d. sends-once r p q k d s))

-- ---- ghosts

-- the rule's choice is q where it is considered, else the least that is
choice : (P p q : ℕ) (f : ℕ → Bool) → any_below P f ≡ true → (f p && (eqb p q || (not (f q) && eqb p (least_below P f)))) ≡ eqb p (cond (f q) q (least_below P f))
choice P p q f a =
    either (f q)
    (λ e. rw e (either (eqb p q) (λ d. rw (d, eqb-true p q d, e)) (λ d. rw (d, and-false))))
    (λ e. rw e
    (either (eqb p (least_below P f))
    (λ d. let s : f p ≡ true = rw (eqb-true p (least_below P f) d) (least_at P f a) in rw (s, d) (either (eqb p q) (λ c. rw c) (λ c. rw c)))
    (λ d. either (eqb p q) (λ c. rw (c, d, eqb-true p q c, e)) (λ c. rw (c, d, and-false)))))

module _ (core : ℕ → List ℕ) (old new : List ℕ) where
  -- p sends q a face neighbour of g, by the face
  pub beside_at : (p q g : ℕ) → sends_beside core old new p q g ≡ true
      → (f : ℕ) × (f < face_count (shape_of (core g))) × (sends old new p q (neighbour_of (core g) f) ≡ true)
  unfolding sends_beside
  beside_at p q g e = any_at (face_count (shape_of (core g))) (λ f. sends old new p q (neighbour_of (core g) f)) e

  -- and back
  pub beside_in : (p q g f : ℕ) → f < face_count (shape_of (core g)) → sends old new p q (neighbour_of (core g) f) ≡ true → sends_beside core old new p q g ≡ true
  unfolding sends_beside
  beside_in p q g f h e = any_intro (face_count (shape_of (core g))) (λ f. sends old new p q (neighbour_of (core g) f)) f h e

  -- what isn't a ghost of q is sent by nobody
  pub no_ghost_sender : (p q g : ℕ) → is_ghost core new q g ≡ false → sends_ghost core old new p q g ≡ false
  unfolding sends_ghost considers
  no_ghost_sender p q g e = rw (e, and-false (sends_beside core old new p q g))

  -- of a ghost, considering it is sending a neighbour of it
  considers-beside : (p q g : ℕ) → is_ghost core new q g ≡ true → considers core old new p q g ≡ sends_beside core old new p q g
  unfolding considers
  considers-beside p q g e = rw (e, and-true)

  module _ (T : Tables old new) (q g : ℕ) (rank : q < ranks old) (ghostly : is_ghost core new q g ≡ true) where
    -- some rank sends q a neighbour of its ghost
    some-sender : any_below (ranks old) (λ r. sends_beside core old new r q g) ≡ true
    unfolding is_ghost
    some-sender =
        let a = any_at (face_count (shape_of (core g))) (λ f. holds new q (neighbour_of (core g) f)) (and_snd (not (holds new q g)) _ ghostly) in
        let k = neighbour_of (core g) a.0 in
        let r = sender old k q in
        any_intro (ranks old) (λ r. sends_beside core old new r q g) r (sender_lt old new T k q (new_below old new T q k rank a.2) rank)
        (beside_in r q g a.0 a.1 (sends_in old new T q k a.2))

    -- the sender of a ghost is a rank
    pub ghost_sender_lt : ghost_sender core old new q g < ranks old
    unfolding ghost_sender
    ghost_sender_lt = either (sends_beside core old new q q g) (λ e. rw e rank) (λ e. rw e (least_lt (ranks old) (λ r. sends_beside core old new r q g) some-sender))

    -- it sends q a neighbour of the ghost
    ghost-sender-beside : sends_beside core old new (ghost_sender core old new q g) q g ≡ true
    unfolding ghost_sender
    ghost-sender-beside = either (sends_beside core old new q q g) (λ e. rw (e, e)) (λ e. rw e (least_at (ranks old) (λ r. sends_beside core old new r q g) some-sender))

    -- that rank and no other sends it
    pub one_ghost_sender : (p : ℕ) → sends_ghost core old new p q g ≡ eqb p (ghost_sender core old new q g)
    unfolding sends_ghost ghost_sender
    one_ghost_sender p =
        rw (considers-beside p q g ghostly, considers-beside q q g ghostly, least_same (ranks old) (λ r. considers core old new r q g) (λ r. sends_beside core old new r q g) (λ r l. considers-beside r q g ghostly))
        (choice (ranks old) p q (λ r. sends_beside core old new r q g) some-sender)

    -- it sends q a tree
    pub ghost_sender_sends : sends_to old new (ghost_sender core old new q g) q ≡ true
    ghost_sender_sends =
        let a = beside_at (ghost_sender core old new q g) q g ghost-sender-beside in
        sends_some old new T (ghost_sender core old new q g) q (neighbour_of (core g) a.0) rank a.2

  -- ---- what goes

  -- a ghost that p sends q is one that p considers
  pub sends_considers : (p q g : ℕ) → sends_ghost core old new p q g ≡ true → considers core old new p q g ≡ true
  unfolding sends_ghost
  sends_considers p q g e = and_fst (considers core old new p q g) _ e

  -- what p considers for q is a ghost of q
  pub considers_ghost : (p q g : ℕ) → considers core old new p q g ≡ true → is_ghost core new q g ≡ true
  unfolding considers
  considers_ghost p q g e = and_snd (sends_beside core old new p q g) (is_ghost core new q g) e

  -- a rank that considers a tree holds it, or has it as a ghost under the old table
  pub considers_held : (T : Tables old new) (p q g : ℕ) → q < ranks old → considers core old new p q g ≡ true → (holds old p g || is_ghost core old p g) ≡ true
  unfolding considers is_ghost
  considers_held T p q g l e =
      let a = beside_at p q g (and_fst (sends_beside core old new p q g) _ e) in
      let k = neighbour_of (core g) a.0 in
      let s = sends_true old new T p q k a.2 in
      let h : holds old p k ≡ true = rw s.1 at (sender_holds old new T k q (new_below old new T q k l s.0) l) in
      let b = any_intro (face_count (shape_of (core g))) (λ f. holds old p (neighbour_of (core g) f)) a.0 a.1 h in
      either (holds old p g) (λ d. rw d) (λ d. rw (d, b))

-- each ghost of q under f' is among the ghosts of one message to q by the rule on a whole mesh, and that message exists
pub ghost_one_message : (mesh old new : List ℕ) → Tables old new → (q g : ℕ) → q < ranks old → g < mesh_trees mesh → is_ghost (mesh_core mesh) new q g ≡ true
    → (p : ℕ) × (p < ranks old) × (ghost_goes (mesh_core mesh) old new (λ k. ltb k (mesh_trees mesh)) (mesh_record mesh) p q g ≡ true) × (sends_to old new p q ≡ true)
    × ((r : ℕ) → ghost_goes (mesh_core mesh) old new (λ k. ltb k (mesh_trees mesh)) (mesh_record mesh) r q g ≡ true → r ≡ p)
unfolding ghost_goes
ghost_one_message mesh old new T q g l h e =
    let core = mesh_core mesh in
    let p = ghost_sender core old new q g in
    let at-hand = lt-ltb g (mesh_trees mesh) h in (
      p,
      ghost_sender_lt core old new T q g l e,
      rw (at-hand, one_ghost_sender core old new T q g l e p) (eq-eqb p p refl),
      ghost_sender_sends core old new T q g l e,
      (λ r d. eqb-true r p (sym (one_ghost_sender core old new T q g l e r) ∙ and_snd (ltb g (mesh_trees mesh)) (sends_ghost core old new r q g) d)),
    )
