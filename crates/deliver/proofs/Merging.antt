-- The loop that merges ghosts in place, from the back.
use Prim.Native.Nat.{ℕ, zero, suc, ◌+◌, ◌-◌, ◌*◌, ◌≤◌, ◌<◌}
use native.Mathlib.Nat.{le_refl}
use native.Mathlib.Omega.{arith}
use mathlib.Core.Path.{◌≡◌, refl, sym, ap, ◌∙◌}
use mathlib.Core.Bool.{Bool, true, false}
use mathlib.Core.List.{List, ◌++◌, append_assoc}
use lib.Dec.{ltb, eqb}
use lib.ListN.{length, take, drop, length-append, take-append-drop}
use lib.Seq.{length-take-le, take-add, drop_at}
use borrow.Author.Tests.{eqb-false, ne_eqb}
use Rattle.encoding.specs.Pieces.{piece, splice}
use Rattle.encoding.proofs.Below.{either, clash}
use Rattle.encoding.proofs.Pieces.{piece_length, piece_below, length_splice}
use Rattle.records.specs.Record.{core_size, number_of}
use Rattle.records.proofs.Forms.{piece_piece}
use Rattle.area.specs.Layout.{slots_of}
use Rattle.area.specs.Means.{core_at}
use Rattle.area_theorems.proofs.Joined.{slots_length, slots_piece}
use Rattle.deliver.specs.Means.{merged_with, merged, held_last, LastRoom, MergeRoom}

-- ---- the merge from the back

module _ (r s : ℕ → List ℕ) where
  -- nothing came
  merged-none : (i : ℕ) → merged r s i 0 ≡ slots_of r i
  unfolding merged merged_with slots_of
  merged-none zero = refl
  merged-none (suc i) = ap (λ (l : List ℕ). l ++ r i) (merged-none i)

  -- the last held ghost goes last
  merged-held : (i j : ℕ) → 0 < j → held_last r s i j ≡ true → merged r s i j ≡ merged r s (i - 1) j ++ r (i - 1)
  unfolding merged merged_with held_last
  merged-held zero j b t = clash t refl
  merged-held (suc i) zero b t = absurd (omega arith)
  merged-held (suc i) (suc j) b t =
      let ei : suc i - 1 ≡ i = omega arith in
      let ej : suc j - 1 ≡ j = omega arith in
      let u : ltb (number_of (s j)) (number_of (r i)) ≡ true = rw (ei, ej, ne_eqb (suc i) 0 (λ z. omega arith)) at t in
      rw (ei, u)

  -- the last one that came goes last
  merged-came : (i j : ℕ) → 0 < j → held_last r s i j ≡ false → merged r s i j ≡ merged r s i (j - 1) ++ s (j - 1)
  unfolding merged merged_with held_last slots_of
  merged-came i zero b t = absurd (omega arith)
  merged-came zero (suc j) b t = let ej : suc j - 1 ≡ j = omega arith in rw ej
  merged-came (suc i) (suc j) b t =
      let ei : suc i - 1 ≡ i = omega arith in
      let ej : suc j - 1 ≡ j = omega arith in
      let u : ltb (number_of (s j)) (number_of (r i)) ≡ false = rw (ei, ej, ne_eqb (suc i) 0 (λ z. omega arith)) at t in
      rw (ej, u)

  -- a held one goes last only where one is left
  pub held_some : (i j : ℕ) {b : Bool} → b ≡ held_last r s i j → b ≡ true → 0 < i
  unfolding held_last
  held_some zero j e t = clash t e
  held_some (suc i) j e t = omega arith

  with_length : (x : List ℕ) (i : ℕ) (rest : ℕ → List ℕ) → length x ≡ core_size
      → ((j : ℕ) → ((l : ℕ) → l < j → length (s l) ≡ core_size) → length (rest j) ≡ core_size * (i + j))
      → (j : ℕ) → ((l : ℕ) → l < j → length (s l) ≡ core_size) → length (merged_with s rest x j) ≡ core_size * (suc i + j)
  unfolding merged_with
  with_length x i rest e q zero b = rw length-append (omega (arith, q 0 b))
  with_length x i rest e q (suc j) b =
      either (ltb (number_of (s j)) (number_of x))
      (λ t. rw (t, length-append) (omega (arith, q (suc j) b)))
      (λ t. rw (t, length-append) (omega (arith, with_length x i rest e q j (λ l h. b l (omega arith)), b j (le_refl (suc j)))))

  merged-length : (i : ℕ) → ((l : ℕ) → l < i → length (r l) ≡ core_size) → (j : ℕ) → ((l : ℕ) → l < j → length (s l) ≡ core_size) → length (merged r s i j) ≡ core_size * (i + j)
  unfolding merged
  merged-length zero a j b = slots_length s core_size j b ∙ omega arith
  merged-length (suc i) a j b = with_length (r i) i (merged r s i) (a i (le_refl (suc i))) (merged-length i (λ l h. a l (omega arith))) j b

-- ---- what the test finds

pub last_none : (r s : ℕ → List ℕ) (i j : ℕ) → i ≡ 0 → false ≡ held_last r s i j
unfolding held_last
last_none r s i j e = rw e

pub last_read : (a m : List ℕ) (at i from j : ℕ) {x y : ℕ} → (i ≡ 0 → ⊥) → x ≡ number_of (piece a (at + core_size * (i - 1)) core_size) → y ≡ number_of (piece m (from + core_size * (j - 1)) core_size)
    → ltb y x ≡ held_last (core_at a at) (core_at m from) i j
unfolding held_last core_at
last_read a m at i from j n e d = rw (ne_eqb i 0 n, e, d)

-- ---- what a splice leaves

-- what stands from its place on
splice_from : (bs : List ℕ) (off : ℕ) (p : List ℕ) → off ≤ length bs → drop off (splice bs off p) ≡ p ++ drop (off + length p) bs
unfolding splice
splice_from bs off p h = drop_at (take off bs) (p ++ drop (off + length p) bs) off (length-take-le off bs h)

-- a record x stored before what stands from byte `next` on
stored : {a' z : List ℕ} (a : List ℕ) (off next : ℕ) (x y : List ℕ) → z ≡ y ++ x → length x ≡ core_size → next ≡ off + core_size → off ≤ length a → a' ≡ splice a off x
    → z ++ drop next a ≡ y ++ drop off a'
stored a off next x y e l n h s = rw (s, splice_from a off x h, e, l, n, append_assoc)

-- a record of what is kept
kept_piece : (a b : List ℕ) (n off w : ℕ) → off + w ≤ n → piece a 0 n ≡ piece b 0 n → piece a off w ≡ piece b off w
kept_piece a b n off w h e =
    let z : 0 + off ≡ off = omega arith in
    let f : (c : List ℕ) → piece (piece c 0 n) off w ≡ piece c off w = λ c. piece_piece c 0 n off w h ∙ ap (λ (m : ℕ). piece c m w) z in
    sym (f a) ∙ ap (λ (l : List ℕ). piece l off w) e ∙ f b

-- what is in front of a piece, and the piece
front_piece : (bs : List ℕ) (at n : ℕ) → take at bs ++ piece bs at n ≡ take (at + n) bs
unfolding piece
front_piece bs at n = sym (take-add at n bs)

-- a list whose first n are those of another
rejoin : (a b : List ℕ) (n : ℕ) → piece a 0 n ≡ piece b 0 n → take n b ++ drop n a ≡ a
unfolding piece
rejoin a b n e = rw (← e) (take-append-drop n a)

-- ---- the loop

-- i held ghosts and j that came are left: slots below i are as at the start, and what is left merged, with what stands behind it, is the end
pub record Merging (a₀ : List ℕ) (at held : ℕ) (m : List ℕ) (from came i j : ℕ) (a : List ℕ) : Type 0 where
  pub held_left : i ≤ held
  pub came_left : j ≤ came
  pub same_length : length a ≡ length a₀
  pub kept : piece a 0 (at + core_size * i) ≡ piece a₀ 0 (at + core_size * i)
  pub ahead : splice a₀ at (merged (core_at a₀ at) (core_at m from) held came)
      ≡ take at a₀ ++ (merged (core_at a₀ at) (core_at m from) i j ++ drop (at + core_size * (i + j)) a)

module _ (a₀ : List ℕ) (at held : ℕ) (m : List ℕ) (from came : ℕ) (room : MergeRoom a₀ at held m from came) where
  abbrev r : ℕ → List ℕ
  r = core_at a₀ at

  abbrev s : ℕ → List ℕ
  s = core_at m from

  pub merge_start : Merging a₀ at held m from came held came a₀
  unfolding splice core_at
  merge_start =
      let l : length (merged r s held came) ≡ core_size * (held + came) =
      merged-length r s held (λ i h. piece_length a₀ (at + core_size * i) core_size (omega (arith, room.slots))) came (λ j h. piece_length m (from + core_size * j) core_size (omega (arith, room.records))) in
      record { held_left = omega arith; came_left = omega arith; same_length = refl; kept = refl; ahead = rw l }

  module _ {i j : ℕ} {a : List ℕ} (M : Merging a₀ at held m from came i j a) where
    left-room : at + core_size * (i + j) ≤ length a₀
    left-room = omega (arith, room.slots, M.held_left, M.came_left)

    pub last_room : 0 < j → LastRoom a at i m from j
    last_room h = record { slots = omega (arith, left-room, M.same_length); records = omega (arith, room.records, M.came_left); some = h }

    slot_same : (l : ℕ) → l < i → core_at a at l ≡ r l
    unfolding core_at
    slot_same l h = kept_piece a a₀ (at + core_size * i) (at + core_size * l) core_size (omega arith) M.kept

    last-same : held_last (core_at a at) s i j ≡ held_last r s i j
    unfolding held_last
    last-same =
        either (eqb i 0) (λ z. rw z)
        (λ z. let n = eqb-false i 0 z in rw (z, slot_same (i - 1) (omega arith)))

    -- slots below a store at or above them are as before
    below-store : {a' : List ℕ} (n off : ℕ) (x : List ℕ) → n ≤ i → at + core_size * n ≤ off → off + length x ≤ length a → a' ≡ splice a off x
        → piece a' 0 (at + core_size * n) ≡ piece a₀ 0 (at + core_size * n)
    below-store {a'} n off x l h k e =
        ap (λ (c : List ℕ). piece c 0 (at + core_size * n)) e
        ∙ (piece_below a off x 0 (at + core_size * n) k (omega arith) ∙ kept_piece a a₀ (at + core_size * i) 0 (at + core_size * n) (omega arith) M.kept)

    pub held_turn : {b : Bool} {a' : List ℕ} → 0 < j → b ≡ held_last (core_at a at) s i j → b ≡ true
        → a' ≡ splice a (at + core_size * (i - 1 + j)) (piece a (at + core_size * (i - 1)) core_size) → Merging a₀ at held m from came (i - 1) j a'
    unfolding core_at
    held_turn {b} {a'} h e t w =
        let u : held_last r s i j ≡ true = sym last-same ∙ (sym e ∙ t) in
        let p : 0 < i = held_some r s i j refl u in
        let x : List ℕ = piece a (at + core_size * (i - 1)) core_size in
        let off : ℕ = at + core_size * (i - 1 + j) in
        let fits = left-room in
        let long = M.same_length in
        let l : length x ≡ core_size = piece_length a (at + core_size * (i - 1)) core_size (omega arith) in
        let d : merged r s i j ≡ merged r s (i - 1) j ++ x = merged-held r s i j h u ∙ ap (λ (y : List ℕ). merged r s (i - 1) j ++ y) (sym (slot_same (i - 1) (omega arith))) in
        record {
          held_left = omega (arith, M.held_left);
          came_left = M.came_left;
          same_length = ap length w ∙ (length_splice a off x (omega arith) ∙ M.same_length);
          kept = below-store (i - 1) off x (omega arith) (omega arith) (omega arith) w;
          ahead = M.ahead ∙ ap (λ (y : List ℕ). take at a₀ ++ y) (stored a off (at + core_size * (i + j)) x (merged r s (i - 1) j) d l (omega arith) (omega arith) w);
        }

    pub came_turn : {b : Bool} {a' : List ℕ} → 0 < j → b ≡ held_last (core_at a at) s i j → b ≡ false
        → a' ≡ splice a (at + core_size * (i + (j - 1))) (piece m (from + core_size * (j - 1)) core_size) → Merging a₀ at held m from came i (j - 1) a'
    unfolding core_at
    came_turn {b} {a'} h e t w =
        let u : held_last r s i j ≡ false = sym last-same ∙ (sym e ∙ t) in
        let x : List ℕ = piece m (from + core_size * (j - 1)) core_size in
        let off : ℕ = at + core_size * (i + (j - 1)) in
        let fits = left-room in
        let long = M.same_length in
        let l : length x ≡ core_size = piece_length m (from + core_size * (j - 1)) core_size (omega (arith, room.records, M.came_left)) in
        record {
          held_left = M.held_left;
          came_left = omega (arith, M.came_left);
          same_length = ap length w ∙ (length_splice a off x (omega arith) ∙ M.same_length);
          kept = below-store i off x (omega arith) (omega arith) (omega arith) w;
          ahead = M.ahead ∙ ap (λ (y : List ℕ). take at a₀ ++ y) (stored a off (at + core_size * (i + j)) x (merged r s i (j - 1)) (merged-came r s i j h u) l (omega arith) (omega arith) w);
        }

    pub merge_done : j ≤ 0 → a ≡ splice a₀ at (merged r s held came)
    unfolding core_at
    merge_done h =
        let z : j ≡ 0 = omega arith in
        let n : ℕ = at + core_size * i in
        let e : at + core_size * (i + j) ≡ n = omega arith in
        let k : merged r s i j ≡ piece a₀ at (core_size * i) = ap (merged r s i) z ∙ (merged-none r s i ∙ slots_piece a₀ at core_size i) in
        sym (M.ahead ∙ rw (k, e, ← append_assoc (take at a₀) (piece a₀ at (core_size * i)) (drop n a), front_piece a₀ at (core_size * i)) (rejoin a a₀ n M.kept))
