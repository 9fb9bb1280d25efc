-- Laws of the ghosts of a message.
use Prim.Native.Nat.{ℕ, ◌+◌, ◌-◌, ◌*◌, ◌≤◌, ◌<◌}
use native.Mathlib.Omega.{arith}
use mathlib.Core.Path.{◌≡◌, refl, sym, ap, ap₂, ◌∙◌}
use mathlib.Core.Bool.{Bool, true, false, cond, ◌||◌}
use mathlib.Core.List.{List}
use lib.Dec.{leb, ltb, eqb}
use lib.ListN.{length, get_or}
use borrow.Author.Tests.{leb-true, ltb-true, lt-ltb, eqb-true, eqb-false}
use Rattle.encoding.specs.Below.{any_below, least_below, count_below, sum_below}
use Rattle.encoding.specs.Numbers.{u32_at}
use Rattle.encoding.specs.Pieces.{piece, splice}
use Rattle.encoding.proofs.Below.{either, tests, and_fst, and_snd, count_same, count_none, count_initial, sum_more, least_lt, count_add}
use Rattle.bits.specs.Bits.{bit_of, in_set}
use Rattle.bits.proofs.Bits.{bit_zero, set_count}
use Rattle.records.specs.Record.{core_size, number_of}
use Rattle.part.specs.Layout.{tree_place, ghost_place}
use Rattle.part.specs.Cut.{renamed}
use Rattle.part.specs.Means.{is_local, ghost_is, held, held_core, in_range, Ascending, number_at, smaller, ghost_core, ghost_has}
use Rattle.part.specs.Part.{part_first, part_count, part_ghost_count, stored_tree, stored_ghost, global_number, global_tree, part_holds, part_core}
use Rattle.part.proofs.Search.{Between, number_there, search_past, search_other, search_found}
use Rattle.message_build.specs.Means.{RecordRoom, Searchable, Past, GhostRoom}

-- ---- one record, found by its number

range_both : (first end k : ℕ) → in_range first end k ≡ true → (first ≤ k) × (k < end)
unfolding in_range
range_both first end k e = (leb-true first k (and_fst (leb first k) (ltb k end) e), ltb-true k end (and_snd (leb first k) (ltb k end) e))

-- the records from the first that isn't known to be smaller
module _ (bs : List ℕ) (at count low number : ℕ) (asc : Ascending bs at count) where
  pub past_between : Past bs at count low number → Between bs at count number low count
  past_between p = record { order = p.within; bound = omega arith; below = p.below; above = λ i h l. absurd (omega arith) }

  module _ (so_far : Between bs at count number low count) {here : ℕ} (is-here : here ≡ at + core_size * low) where
    number_behind : (i : ℕ) → number_at bs here i ≡ number_at bs at (low + i)
    unfolding number_at
    number_behind i =
        let e : here + core_size * i ≡ at + core_size * (low + i) = omega arith in
        ap (u32_at bs) e

    pub rest_ascending : Ascending bs here (count - low)
    rest_ascending =
        record {
          fits = omega (arith, asc.fits, so_far.order);
          ascends = λ i j h l. rw (number_behind i, number_behind j) (asc.ascends (low + i) (low + j) (omega arith) (omega arith));
        }

    pub rest_found : {p : ℕ} → p ≡ smaller bs here (count - low) number → p ≤ count - low → (low + p ≡ smaller bs at count number) × (low + p ≤ count)
    unfolding smaller
    rest_found {p} e h =
        let f : ℕ → Bool = λ i. ltb (number_at bs at i) number in
        let s : low + (count - low) ≡ count = omega (arith, so_far.order) in
        let a : count_below low f ≡ low = count_initial low f low (omega arith) (λ i l. lt-ltb (number_at bs at i) number (so_far.below i l)) (λ i l q. absurd (omega arith)) in
        let b : count_below (count - low) (λ i. f (low + i)) ≡ p =
        count_same (count - low) (λ i. f (low + i)) (λ i. ltb (number_at bs here i) number) (λ i l. ap (λ (x : ℕ). ltb x number) (sym (number_behind i))) ∙ sym e in
        (sym (ap (λ (n : ℕ). count_below n f) (sym s) ∙ count_add low (count - low) f ∙ ap₂ (λ (x y : ℕ). x + y) a b), omega (arith, so_far.order))

pub past_none : (bs : List ℕ) (at count number : ℕ) → Past bs at count 0 number
past_none bs at count number = record { within = omega arith; below = λ i h. absurd (omega arith) }

pub past_at : {bs : List ℕ} {at place count from k : ℕ} → at ≡ place → Past bs place count from k → Past bs at count from k
past_at e p = rw e p

-- for a larger number
pub past_on : {bs : List ℕ} {at count from k next : ℕ} → Past bs at count from k → k < next → Past bs at count from next
past_on p h = record { within = p.within; below = λ i l. omega (arith, p.below i l) }

-- a number that some ghost has is found
module _ (part : List ℕ) (n g k : ℕ) (known : Ascending part (ghost_place n 0) g) (some : any_below g (ghost_has (ghost_core part n) k) ≡ true)
    {at p : ℕ} (from : at ≡ ghost_place n 0) (position : p ≡ smaller part at g k) where
  least-less : least_below g (ghost_has (ghost_core part n) k) < g
  least-less = least_lt g (ghost_has (ghost_core part n) k) some

  found_below : p < g
  found_below = either (ltb p g) (λ t. ltb-true p g t) (λ t. absurd (omega (arith, least-less, search_past part n g known from k position (omega tests))))

  found_number : number_of (piece part (ghost_place n p) core_size) ≡ k
  found_number =
      let v : ℕ = number_of (piece part (ghost_place n p) core_size) in
      either (eqb v k) (λ t. eqb-true v k t) (λ t. absurd (omega (arith, least-less, search_other part n g known from k position refl refl (eqb-false v k t))))

  pub found_is : p ≡ least_below g (ghost_has (ghost_core part n) k)
  found_is = search_found part n g known from k position refl refl found_below found_number

  -- those before it are smaller
  pub found_past : Past part (ghost_place n 0) g p k
  unfolding ghost_core
  found_past = record { within = omega (arith, found_below); below = λ i l. omega (arith, known.ascends i p l found_below, number_there part n g p, found_number) }

-- as the code looks a record up
module _ (part : List ℕ) (k : ℕ) where
  abbrev inside : Bool
  inside = in_range (part_first part) (part_first part + part_count part) k

  abbrev named : ℕ → Bool
  named = ghost_has (ghost_core part (part_count part)) k

  holds_read : part_holds part k ≡ (inside || any_below (part_ghost_count part) named)
  unfolding part_holds held is_local in_range ghost_is ghost_has stored_ghost ghost_core
  holds_read = refl

  core-read : part_core part k ≡ cond inside (global_tree part (k - part_first part)) (ghost_core part (part_count part) (least_below (part_ghost_count part) named))
  unfolding part_core held_core is_local in_range ghost_is ghost_has stored_ghost ghost_core
  core-read = refl

module _ (part : List ℕ) (count ghosts faces first k : ℕ) (known : Searchable part count ghosts faces first) {b : Bool} (test : b ≡ in_range first (first + count) k) where
  test-is : b ≡ inside part k
  test-is = rw (known.is_first, known.opened.is_count) at test

  pub core_local : b ≡ true → renamed (global_number part) faces (piece part (tree_place (k - first)) core_size) ≡ part_core part k
  unfolding global_tree stored_tree
  core_local h = rw (core-read part k, ← test-is, h, known.is_faces, known.is_first)

  module _ (out : b ≡ false) where
    some-ghost : part_holds part k ≡ true → any_below ghosts (ghost_has (ghost_core part count) k) ≡ true
    some-ghost e = rw (known.opened.is_count, known.opened.is_ghosts) (rw (holds_read part k, ← test-is, out) at e)

    core-found : {p : ℕ} → p ≡ least_below ghosts (ghost_has (ghost_core part count) k) → piece part (ghost_place count p) core_size ≡ part_core part k
    unfolding ghost_core
    core-found e = rw (core-read part k, ← test-is, out, e, known.opened.is_count, known.opened.is_ghosts)

module _ (part out : List ℕ) (count ghosts faces first k to : ℕ) (room : GhostRoom part out count ghosts faces first k to) {b : Bool} (test : b ≡ in_range first (first + count) k) where
  pub local_room : {from : ℕ} → b ≡ true → from ≡ tree_place (k - first) → RecordRoom part out count ghosts faces core_size from to
  local_room h e =
      let l = range_both first (first + count) k (sym test ∙ h) in
      record {
        opened = room.known.opened;
        faced = room.known.faced;
        source = omega (arith, room.known.opened.long, l.0, l.1);
        target = room.target;
      }

  module _ (outside : b ≡ false) {at p : ℕ} (from : at ≡ ghost_place count 0) (position : p ≡ smaller part at ghosts k) where
    some : any_below ghosts (ghost_has (ghost_core part count) k) ≡ true
    some = some-ghost part count ghosts faces first k room.known test outside room.has

    pub ghost_source : {there : ℕ} → there ≡ ghost_place count p → there + core_size ≤ length part
    ghost_source e = omega (arith, room.known.opened.long, found_below part count ghosts k room.known.ascending some from position)

    pub ghost_past : Past part (ghost_place count 0) ghosts p k
    ghost_past = found_past part count ghosts k room.known.ascending some from position

    pub ghost_copied : {there : ℕ} {last : List ℕ} → there ≡ ghost_place count p → last ≡ splice out to (piece part there core_size) → last ≡ splice out to (part_core part k)
    ghost_copied e w =
        w ∙ ap (λ (o : ℕ). splice out to (piece part o core_size)) e
        ∙ ap (splice out to) (core-found part count ghosts faces first k room.known test outside (found_is part count ghosts k room.known.ascending some from position))

-- ---- how many there are

-- the loop: the members in the words before word i are counted
pub record Counted (ws : List ℕ) (i count : ℕ) : Type 0 where
  pub within : i ≤ length ws
  pub many : count ≡ count_below (64 * i) (in_set ws)
  pub few : count ≤ 64 * i

module _ (ws : List ℕ) where
  abbrev ones_at : ℕ → ℕ
  ones_at i = count_below 64 (bit_of (get_or ws i 0))

  pub count_start : Counted ws 0 0
  unfolding sum_below
  count_start = record { within = omega arith; many = set_count ws 0; few = omega arith }

  pub count_word : {i count ones : ℕ} → Counted ws i count → i < length ws → ones ≡ count_below 64 (bit_of (get_or ws i 0)) → ones ≤ 64 → Counted ws (i + 1) (count + ones)
  count_word {i} {count} {ones} c h e l =
      record {
        within = omega arith;
        many = ap₂ (λ (a b : ℕ). a + b) (c.many ∙ sym (set_count ws i)) e ∙ sym (sum_more i ones_at) ∙ set_count ws (i + 1);
        few = omega (arith, c.few);
      }

  -- a word without members
  pub count_skip : {i count : ℕ} → Counted ws i count → i < length ws → get_or ws i 0 ≡ 0 → Counted ws (i + 1) count
  count_skip {i} {count} c h z =
      let none : 0 ≡ count_below 64 (bit_of (get_or ws i 0)) = sym (ap (λ (w : ℕ). count_below 64 (bit_of w)) z ∙ count_none 64 (bit_of 0) (λ b l. bit_zero b)) in
      let next = count_word c h none (omega arith) in
      record { within = next.within; many = omega (arith, next.many); few = omega (arith, c.few) }

  pub count_end : {i count : ℕ} → Counted ws i count → length ws ≤ i → count ≡ count_below (64 * length ws) (in_set ws)
  count_end {i} c h =
      let e : i ≡ length ws = omega (arith, c.within) in
      rw e at c.many
