-- Laws of the marks: room for them, and what the sets mean together.
use Prim.Native.Nat.{ℕ, ◌+◌, ◌-◌, ◌*◌, ◌≤◌, ◌<◌}
use native.Mathlib.Omega.{arith}
use mathlib.Core.Path.{◌≡◌, refl, sym, ap, ◌∙◌}
use mathlib.Core.Bool.{Bool, true, false, not, ◌&&◌}
use mathlib.Core.List.{List}
use lib.Dec.{eqb}
use lib.ListN.{length, take, replicate, length-replicate, replicate-append-replicate}
use lib.Seq.{take_at}
use borrow.Author.Tests.{eqb-true, eq-eqb}
use Rattle.encoding.specs.Below.{any_below}
use Rattle.encoding.specs.Pieces.{Bytes}
use Rattle.encoding.proofs.Below.{either, clash, and_fst, and_snd, and_intro, iff_eq, any_at, any_intro}
use Rattle.bits.specs.Bits.{in_set}
use Rattle.bits.proofs.Bits.{in_none}
use Rattle.offsets.specs.Table.{first_tree, tree_count, holds}
use Rattle.offsets.proofs.Tables.{trees_high, count_add}
use Rattle.pattern.specs.Sender.{Tables, sent_first, sent_count}
use Rattle.pattern.proofs.Senders.{holds_true, sends_true}
use Rattle.pattern.proofs.Sets.{sent_in}
use Rattle.records.specs.Shape.{face_count}
use Rattle.records.specs.Record.{shape_of, neighbour_of}
use Rattle.part.specs.Layout.{part_header}
use Rattle.part.specs.Means.{in_range}
use Rattle.part.specs.Part.{part_first, part_count, part_ghost_count, part_core}
use Rattle.part_theorems.proofs.SoundParts.{part_header_lem, part_length}
use Rattle.positions.specs.Means.{Added}
use Rattle.part_cut.specs.Means.{out_faces, out_trees}
use Rattle.message_ghosts.specs.Means.{mark_words, number_in, record_in, Room, Marks, Sending, Known, Near, Empty, NearRoom, goes, goes_across, goes_beside, goes_from, goes_near}
use Rattle.message_ghosts.proofs.Going.{sent_held, goes_with}
use Rattle.message_ghosts.proofs.Ranging.{range_both}
use Rattle.message_ghosts.proofs.Records.{tree_number, tree_next, records_few}
use Rattle.message_ghosts.proofs.Walking.{faces_same}

-- ---- room for the marks

pub room_kept : {old before after : List ℕ} → Room old before → length after ≡ length before → Room old after
room_kept r e = record { enough = omega (arith, r.enough); few = omega (arith, r.few) }

cleared_length : (marks : List ℕ) {ws : List ℕ} → ws ≡ replicate (length marks) 0 → length ws ≡ length marks
cleared_length marks z = ap length z ∙ length-replicate {A = ℕ} (length marks) 0

pub room_cleared : {old marks ws : List ℕ} → Room old marks → ws ≡ replicate (length marks) 0 → Room old ws
room_cleared {old} {marks} r z = room_kept r (cleared_length marks z)

-- the first words of an array of 0
pub prefix_none : (n : ℕ) {words : ℕ} → words ≤ n → take words (replicate {A = ℕ} n 0) ≡ replicate words 0
prefix_none n {words} h =
    let e : words + (n - words) ≡ n = omega arith in
    ap (λ (k : ℕ). take words (replicate {A = ℕ} k 0)) (sym e) ∙ ap (take words) (sym (replicate-append-replicate {A = ℕ} words (n - words) 0))
    ∙ take_at (replicate words 0) (replicate (n - words) 0) words (length-replicate {A = ℕ} words 0)

pub prefix_length : (n : ℕ) {words : ℕ} → words ≤ n → length (take words (replicate {A = ℕ} n 0)) ≡ words
prefix_length n {words} h = ap length (prefix_none n h) ∙ length-replicate {A = ℕ} words 0

-- are a set with no member
pub prefix_empty : (part : List ℕ) (n : ℕ) {words : ℕ} → words ≤ n → part_count part + part_ghost_count part ≤ 64 * words → words ≤ mark_words → Empty part (take words (replicate {A = ℕ} n 0))
prefix_empty part n {words} h e l =
    record {
      enough = omega (arith, prefix_length n h);
      few = omega (arith, prefix_length n h);
      none = λ j. ap (λ (ws : List ℕ). in_set ws j) (prefix_none n h) ∙ in_none words j;
    }

-- ---- the trees sent

module _ (part old new : List ℕ) (p q : ℕ) (s : Sending part old new p q) where
  abbrev T : Tables old new
  T = s.pair.tables

  -- the header can be read
  pub header_fits : part_header ≤ length part
  header_fits = omega (arith, part_length part old p s.sound)

  -- words for all records
  pub words_few : Bytes part → (count ghosts : ℕ) → count ≡ part_count part → ghosts ≡ part_ghost_count part → count + ghosts ≤ 1048576
  words_few b count ghosts c g =
      omega (arith, c, g, records_few part old new p q (part_count part) (record { sending = s; bytes = b; counted = refl }), trees_high old T.old_bytes T.old_ranks T.old_valid)

  -- nothing is sent
  pub none_sent : (marks ws : List ℕ) (n : ℕ) → Room old marks → ws ≡ replicate (length marks) 0 → n ≡ sent_count old new p q → n ≡ 0 → Marks part old new p q ws
  unfolding goes_from any_below
  none_sent marks ws n r z m e =
      let d : sent_count old new p q ≡ 0 = omega arith in
      record {
        room = room_cleared r z;
        member = λ k. ap (λ (m : List ℕ). in_set m k) z ∙ in_none (length marks) k
            ∙ rw d at (goes_with part old new p q s k);
      }

  -- all ghosts that go are marked, and no others
  pub all_marked : (marks ws after : List ℕ) (low n : ℕ) → Room old marks → ws ≡ replicate (length marks) 0 → low ≡ sent_first old new p q → n ≡ sent_count old new p q
      → Added ws (goes_from part old new p q low n) after → Marks part old new p q after
  all_marked marks ws after low n r z b m x =
      record {
        room = room_kept r (x.same_length ∙ cleared_length marks z);
        member = λ k. x.members k ∙ rw (ap (λ (m : List ℕ). in_set m k) z ∙ in_none (length marks) k, b, m) (goes_with part old new p q s k);
      }

  module _ (own count low n start : ℕ) (bytes : Bytes part) (starts : own ≡ part_first part) (counted : count ≡ part_count part) (begins : low ≡ sent_first old new p q) (many : n ≡ sent_count old new p q) where
    abbrev known : Known part old new p q count
    known = record { sending = s; bytes = bytes; counted = counted }

    -- a tree sent is one of the part's
    sent-range : (i : ℕ) → i < n → (part_first part ≤ low + i) × (low + i < part_first part + part_count part)
    sent-range i h =
        let e = part_header_lem part old p s.sound in
        let f : part_first part ≡ first_tree old p = e.first_tree_lem in
        let m : part_count part ≡ tree_count old p = e.tree_count_lem in
        let r = holds_true old p (low + i) (sent_held part old new p q s (low + i) (sent_in old new T p q s.pair.sender_below s.pair.receiver_below (low + i) (omega arith) (omega arith))) in
        (omega (arith, r.0), omega (arith, r.1, count_add old T.old_bytes T.old_ranks T.old_valid p s.pair.sender_below))

    pub sent_from : 0 < n → own ≤ low
    sent_from h = omega (arith, (sent-range 0 h).0)

    module _ (some : 0 < n) (local : start + own ≡ low) where
      in-part : start + n ≤ count
      in-part = omega (arith, (sent-range (n - 1) (omega arith)).1)

      pub sent_small : start + n < 4294967296
      sent_small = omega (arith, in-part, words_few bytes count (part_ghost_count part) counted refl)

      module _ (near₀ : List ℕ) (empty : Empty part near₀) where
        pub near_room : NearRoom part old new p q count start (start + n) near₀
        near_room = record { known = known; range = omega arith; within = in-part; room = omega (arith, empty.enough) }

        module _ (near : List ℕ) (added : Added near₀ (out_trees (record_in part count) start (start + n) (start + n - start)) near) where
          abbrev faces : ℕ → ℕ
          faces x = face_count (shape_of (record_in part count (start + x)))

          abbrev next : ℕ → ℕ → ℕ
          next x f = neighbour_of (record_in part count (start + x)) f

          abbrev outside : ℕ → Bool
          outside j = not (in_range start (start + n) j)

          in_near : (j : ℕ) → in_set near j ≡ out_trees (record_in part count) start (start + n) (start + n - start) j
          in_near j = added.members j ∙ rw (empty.none j)

          -- a member is across a face of a tree sent
          near-at : (j : ℕ) → in_set near j ≡ true → (x : ℕ) × (x < n) × (f : ℕ) × (f < faces x) × (next x f ≡ j)
          unfolding out_trees out_faces
          near-at j e =
              let a = any_at (start + n - start) (λ x. any_below (faces x) (λ f. outside (next x f) && eqb (next x f) j)) (sym (in_near j) ∙ e) in
              let b = any_at (faces a.0) (λ f. outside (next a.0 f) && eqb (next a.0 f) j) a.2 in
              (a.0, omega (arith, a.1), b.0, b.1, eqb-true (next a.0 b.0) j (and_snd (outside (next a.0 b.0)) (eqb (next a.0 b.0) j) b.2))

          -- and what is across a face is one, where it isn't sent itself
          near-in : (x f : ℕ) → x < n → f < faces x → in_range start (start + n) (next x f) ≡ false → in_set near (next x f) ≡ true
          unfolding out_trees out_faces
          near-in x f h l e =
              in_near (next x f)
              ∙ any_intro (start + n - start) (λ y. any_below (faces y) (λ g. outside (next y g) && eqb (next y g) (next x f))) x (omega arith)
              (any_intro (faces x) (λ g. outside (next x g) && eqb (next x g) (next x f)) f l (rw (e, eq-eqb (next x f) (next x f) refl)))

          tree_is : (x : ℕ) → part_first part + (start + x) ≡ low + x
          tree_is x = omega arith

          faces-is : (x : ℕ) → x < n → faces x ≡ face_count (shape_of (part_core part (low + x)))
          faces-is x h = rw (← tree_is x) (faces_same part old new p q count known (start + x) (omega (arith, in-part)))

          -- the record there, and its number
          next-is : (x f : ℕ) → x < n → f < faces x → (next x f < count + part_ghost_count part) × (number_in part count (next x f) ≡ neighbour_of (part_core part (low + x)) f)
          next-is x f h l =
              rw (← tree_is x) (tree_next part old new p q count known (start + x) f (omega (arith, in-part)) (rw (tree_is x, ← faces-is x h) l))

          pub near_known : length near₀ ≤ 16384 → Near part count near
          near_known few =
              record {
                few = omega (arith, added.same_length);
                low = λ j e. let a = near-at j e in rw a.4 at (next-is a.0 a.2 a.1 a.3).0;
              }

          -- a tree sent doesn't go
          sent-stays : (j : ℕ) → in_range start (start + n) j ≡ true → goes part old new p q low (number_in part count j) ≡ false
          unfolding goes
          sent-stays j e =
              let r = range_both start (start + n) j e in
              let i : number_in part count j ≡ part_first part + j = tree_number part old new p q count known j (omega (arith, in-part, r.1)) in
              let h : holds new q (part_first part + j) ≡ true =
              (sends_true old new T p q (part_first part + j) (sent_in old new T p q s.pair.sender_below s.pair.receiver_below (part_first part + j) (omega (arith, r.0)) (omega (arith, r.1)))).0 in
              rw (i, h)

          -- the members that go are what goes beside the trees sent
          near-goes : (k : ℕ) → goes_near part old new p q low count near (64 * length near) k ≡ goes_from part old new p q low n k
          unfolding goes_near goes_from goes_beside goes_across
          near-goes k =
              let test : ℕ → Bool = λ i. in_set near i && (eqb (number_in part count i) k && goes part old new p q low k) in
              let face : ℕ → ℕ → Bool = λ x f. eqb k (neighbour_of (part_core part (low + x)) f) && goes part old new p q low k in
              let all : ℕ → ℕ = λ x. face_count (shape_of (part_core part (low + x))) in
              iff_eq (any_below (64 * length near) test) (any_below n (λ x. any_below (all x) (face x)))
              (λ e.
              let a = any_at (64 * length near) test e in
              let j : ℕ = a.0 in
              let rest = and_snd (in_set near j) (eqb (number_in part count j) k && goes part old new p q low k) a.2 in
              let b = near-at j (and_fst (in_set near j) (eqb (number_in part count j) k && goes part old new p q low k) a.2) in
              let is : k ≡ neighbour_of (part_core part (low + b.0)) b.2 =
              sym (eqb-true (number_in part count j) k (and_fst (eqb (number_in part count j) k) (goes part old new p q low k) rest)) ∙ ap (number_in part count) (sym b.4) ∙ (next-is b.0 b.2 b.1 b.3).1 in
              any_intro n (λ x. any_below (all x) (face x)) b.0 b.1
              (any_intro (all b.0) (face b.0) b.2 (rw (← faces-is b.0 b.1) b.3)
              (and_intro (eqb k (neighbour_of (part_core part (low + b.0)) b.2)) (goes part old new p q low k) (eq-eqb k (neighbour_of (part_core part (low + b.0)) b.2) is)
              (and_snd (eqb (number_in part count j) k) (goes part old new p q low k) rest))))
              (λ e.
              let a = any_at n (λ x. any_below (all x) (face x)) e in
              let x : ℕ = a.0 in
              let b = any_at (all x) (face x) a.2 in
              let f : ℕ = b.0 in
              let l : f < faces x = rw (faces-is x a.1) b.1 in
              let j : ℕ = next x f in
              let d = next-is x f a.1 l in
              let g : goes part old new p q low k ≡ true = and_snd (eqb k (neighbour_of (part_core part (low + x)) f)) (goes part old new p q low k) b.2 in
              let is : number_in part count j ≡ k = d.1 ∙ sym (eqb-true k (neighbour_of (part_core part (low + x)) f) (and_fst (eqb k (neighbour_of (part_core part (low + x)) f)) (goes part old new p q low k) b.2)) in
              let out : in_range start (start + n) j ≡ false =
              either (in_range start (start + n) j) (λ c. clash g (rw is at (sent-stays j c))) (λ c. c) in
              any_intro (64 * length near) test j (omega (arith, d.0, empty.enough, added.same_length, counted))
              (and_intro (in_set near j) (eqb (number_in part count j) k && goes part old new p q low k) (near-in x f a.1 l out)
              (and_intro (eqb (number_in part count j) k) (goes part old new p q low k) (eq-eqb (number_in part count j) k is) g)))

          pub sent_marked : {marks₀ marks : List ℕ} → Added marks₀ (goes_near part old new p q low count near (64 * length near)) marks → Added marks₀ (goes_from part old new p q low n) marks
          sent_marked x = record { same_length = x.same_length; members = λ k. x.members k ∙ rw (near-goes k) }
