-- What the functions that look at the links of ghosts find is what the definitions say.
use Prim.Native.Nat.{ℕ, ◌+◌, ◌*◌, ◌≤◌, ◌<◌}
use native.Mathlib.Numerals.{add-one}
use native.Mathlib.Omega.{arith}
use mathlib.Core.Path.{◌≡◌, refl, sym, ap, ◌∙◌}
use mathlib.Core.Bool.{Bool, true, false, not, ◌&&◌, ◌||◌, and-false}
use mathlib.Core.List.{List}
use lib.Dec.{leb, ltb, eqb}
use borrow.Author.Tests.{ltb-true, lt-ltb, le-ltb}
use Rattle.std.specs.Prelude.{Some}
use Rattle.mesh.specs.declared.sound.Counts.{Counts}
use Rattle.encoding.specs.Below.{all_below, any_below, count_below, least_below, sum_below}
use Rattle.encoding.specs.Pieces.{piece}
use Rattle.encoding.proofs.Below.{tests, either, all_fails, all_to, and_fst, any_same, least_lt, least_same}
use Rattle.bits.specs.Bits.{in_set}
use Rattle.records.specs.Shape.{face_count}
use Rattle.records.specs.Record.{core_size, number_of, shape_of, neighbour_of, boundary_ok}
use Rattle.records.proofs.Forms.{number_at_lem}
use Rattle.mesh.specs.Link.{orientation_ok}
use Rattle.mesh.specs.Means.{link_by_dimension, SeenAs}
use Rattle.part.specs.Means.{in_range, neighbour_in, number_at, ghost_has}
use Rattle.positions.specs.Means.{has_number, some_has, position_of, member_position, Indexed}
use Rattle.positions.proofs.Positions.{index_position}
use Rattle.ghost_links.specs.Means.{core_from, form_alone, ghost_up, ghost_down, ghost_listed, ghost_ups, ghost_downs, ghost_low, ghost_answered, ghost_face_down, ghost_from_one_end}

-- no more, or less
pub not_leb : (a b : ℕ) → not (leb a b) ≡ ltb b a
not_leb a b = either (leb a b) (λ q. rw q (sym (le-ltb b a (omega tests)))) (λ q. rw q (sym (lt-ltb b a (omega tests))))

-- ---- the index

-- the number of ghost i as the search reads it
pub number_there : (bs : List ℕ) (at i : ℕ) → number_at bs at i ≡ number_of (core_from bs at i)
unfolding number_at core_from
number_there bs at i = sym (number_at_lem bs (at + core_size * i))

module _ (bs : List ℕ) (at : ℕ) {g : ℕ} {ws behind : List ℕ} (x : Indexed bs at g ws behind) (k : ℕ) where
  -- members are the numbers of ghosts
  pub marked_is : in_set ws k ≡ any_below g (ghost_has (core_from bs at) k)
  unfolding some_has has_number ghost_has
  marked_is = x.members k ∙ any_same g (has_number bs at k) (ghost_has (core_from bs at) k) (λ i h. ap (λ (m : ℕ). eqb m k) (number_there bs at i))

  -- the ghost that is looked up
  pub position_is : {p : ℕ} → p ≡ member_position ws g k → p ≡ least_below g (ghost_has (core_from bs at) k)
  unfolding position_of has_number ghost_has
  position_is e = e ∙ index_position x k ∙ least_same g (has_number bs at k) (ghost_has (core_from bs at) k) (λ i h. ap (λ (m : ℕ). eqb m k) (number_there bs at i))

-- ---- the links of a ghost

module _ (bs : List ℕ) (at j f : ℕ) {k : ℕ} (read : k ≡ neighbour_of (piece bs (at + core_size * j) core_size) f) where
  pub low_read : {o : Bool} (K : ℕ) → o ≡ orientation_ok (piece bs (at + core_size * j) core_size) f → (ltb k K && o) ≡ ghost_low (core_from bs at) K j f
  unfolding ghost_low core_from
  low_read K e = rw (← read, e)

  pub met_more : {m b : Bool} (first n : ℕ) → m ≡ any_below f (neighbour_in first (first + n) (core_from bs at j)) → b ≡ in_range first (first + n) k → (m || b) ≡ any_below (f + 1) (neighbour_in first (first + n) (core_from bs at j))
  unfolding any_below neighbour_in core_from
  met_more first n met test = rw (add-one f, met, test, read)

module _ (bs : List ℕ) (at g j f : ℕ) {k : ℕ} (read : k ≡ neighbour_of (piece bs (at + core_size * j) core_size) f) where
  module _ {own : ℕ} (number : own ≡ number_of (piece bs (at + core_size * j) core_size)) where
    -- whether the neighbour is held stands in a set
    module _ {h : Bool} (held : h ≡ any_below g (ghost_has (core_from bs at) k)) where
      pub up_ghost : {b : Bool} (first n : ℕ) → b ≡ in_range first (first + n) k → (b || (h && not (leb k own))) ≡ ghost_up first n g (core_from bs at) j f
      unfolding ghost_up core_from
      up_ghost first n e = rw (← read, ← number, held, e, not_leb k own)

      pub down_ghost : (h && ltb k own) ≡ ghost_down g (core_from bs at) j f
      unfolding ghost_down core_from
      down_ghost = rw (← read, ← number, held)

      pub listed_ghost : (h && leb k own) ≡ ghost_listed g (core_from bs at) j f
      unfolding ghost_listed core_from
      listed_ghost = rw (← read, ← number, held)

    -- the rules of a link to a ghost
    module _ (D : ℕ) {b : Bool} (edge : b ≡ boundary_ok own (piece bs (at + core_size * j) core_size) f) where
      pub answered_not : b ≡ false → false ≡ ghost_answered (link_by_dimension D) g (core_from bs at) j f
      unfolding ghost_answered core_from
      answered_not h = rw (← number, ← edge, h)

      pub answered_read : {p : ℕ} {r : Bool} → b ≡ true → p ≡ least_below g (ghost_has (core_from bs at) k)
          → r ≡ link_by_dimension D own (piece bs (at + core_size * j) core_size) f (piece bs (at + core_size * p) core_size) → r ≡ ghost_answered (link_by_dimension D) g (core_from bs at) j f
      unfolding ghost_answered core_from
      answered_read h position e = rw (← number, ← edge, h, ← read, ← position, e)

  here : neighbour_of (core_from bs at j) f ≡ k
  unfolding core_from
  here = sym read

  -- a ghost that is listed is there
  pub listed_there : {p : ℕ} → ghost_listed g (core_from bs at) j f ≡ true → p ≡ least_below g (ghost_has (core_from bs at) k) → p < g
  unfolding ghost_listed
  listed_there e position =
      let same : neighbour_of (core_from bs at j) f ≡ k = here in
      let held : any_below g (ghost_has (core_from bs at) k) ≡ true = rw same at (and_fst (any_below g (ghost_has (core_from bs at) (neighbour_of (core_from bs at j) f))) _ e) in
      rw position (least_lt g (ghost_has (core_from bs at) k) held)

module _ (D g j : ℕ) (ghostly : ℕ → List ℕ) where
  pub not_listed : (f : ℕ) → ghost_listed g ghostly j f ≡ false → ghost_face_down (link_by_dimension D) g ghostly j f ≡ true
  unfolding ghost_face_down
  not_listed f e = rw e

  pub listed_is : (f : ℕ) → ghost_listed g ghostly j f ≡ true → ghost_face_down (link_by_dimension D) g ghostly j f ≡ ghost_answered (link_by_dimension D) g ghostly j f
  unfolding ghost_face_down
  listed_is f e = rw e

-- a link that fails by itself, and one that doesn't
pub low_fails : (n : ℕ) (f : ℕ → Bool) (b : Bool) (i : ℕ) → i < n → f i ≡ false → (all_below n f && b) ≡ false
low_fails n f b i h e = ap (λ (x : Bool). x && b) (all_fails n f i h e)

pub low_under : (k K : ℕ) (o : Bool) {room : ℕ} → (ltb k K && o) ≡ true → K ≤ room → k < room
low_under k K o e h = omega (arith, ltb-true k K (and_fst (ltb k K) o e))

-- ---- what is seen of a ghost

-- the loop over the faces of a ghost has come to its end: none leads into the range, or one does
pub seen_unmet : {met : Bool} (n face : ℕ) (f m : ℕ → Bool) → face ≤ n → n ≤ face → met ≡ any_below face m → met ≡ false → (all_below n f && any_below n m) ≡ false
seen_unmet n face f m h k e q =
    let same : n ≡ face = omega arith in
    rw (same, ← e, q, and-false)

pub seen_met : {seen : Counts} {met : Bool} (n face : ℕ) (f m p q : ℕ → Bool) → face ≤ n → n ≤ face → n ≤ 6 → all_below face f ≡ true → met ≡ any_below face m → met ≡ true → (seen.ups ≡ count_below face p) × (seen.ups ≤ face) → (seen.downs ≡ count_below face q) × (seen.downs ≤ face)
    → SeenAs (all_below n f && any_below n m) (count_below n p) (count_below n q) 6 (Some seen)
seen_met n face f m p q h k six a e passes u v =
    let same : n ≡ face = omega arith in
    let few : face ≤ 6 = omega arith in
    rw same ((rw (a, ← e, passes), record { upward = u.0; downward = v.0; few = (omega (arith, u.1), omega (arith, v.1)) }))

module _ (bs : List ℕ) (at D first n g K j : ℕ) where
  pub ghost_off : {a : Bool} → a ≡ form_alone D (piece bs (at + core_size * j) core_size) → a ≡ false → ghost_from_one_end (link_by_dimension D) g (core_from bs at) first n D K j ≡ false
  unfolding ghost_from_one_end core_from
  ghost_off e h = rw (← e, h)

  alone-here : {a : Bool} → a ≡ form_alone D (piece bs (at + core_size * j) core_size) → form_alone D (core_from bs at j) ≡ a
  unfolding core_from
  alone-here e = sym e

  module _ {shape faces : ℕ} (shaped : shape ≡ shape_of (piece bs (at + core_size * j) core_size)) (counted : faces ≡ face_count shape) where
    faces-here : face_count (shape_of (core_from bs at j)) ≡ faces
    unfolding core_from
    faces-here = sym (counted ∙ ap face_count shaped)

    pub ghost_unsorted : (all_below faces (ghost_low (core_from bs at) K j) && any_below faces (neighbour_in first (first + n) (core_from bs at j))) ≡ false
        → ghost_from_one_end (link_by_dimension D) g (core_from bs at) first n D K j ≡ false
    unfolding ghost_from_one_end
    ghost_unsorted h = rw (faces-here, h, and-false)

    pub ghost_unanswered : all_below faces (ghost_face_down (link_by_dimension D) g (core_from bs at) j) ≡ false → ghost_from_one_end (link_by_dimension D) g (core_from bs at) first n D K j ≡ false
    unfolding ghost_from_one_end
    ghost_unanswered h = rw (faces-here, h, and-false)

    pub ghost_seen_lem : {a : Bool} {seen : Counts} → a ≡ form_alone D (piece bs (at + core_size * j) core_size) → a ≡ true → all_below faces (ghost_face_down (link_by_dimension D) g (core_from bs at) j) ≡ true
        → SeenAs (all_below faces (ghost_low (core_from bs at) K j) && any_below faces (neighbour_in first (first + n) (core_from bs at j))) (count_below faces (ghost_up first n g (core_from bs at) j)) (count_below faces (ghost_down g (core_from bs at) j)) 6 (Some seen)
        → SeenAs (ghost_from_one_end (link_by_dimension D) g (core_from bs at) first n D K j) (ghost_ups first n g (core_from bs at) j) (ghost_downs g (core_from bs at) j) 6 (Some seen)
    unfolding ghost_from_one_end ghost_ups ghost_downs
    ghost_seen_lem e h l s =
        let x : form_alone D (core_from bs at j) ≡ true = alone-here e ∙ h in
        rw (faces-here, x, s.0, l) (refl, s.1)

-- ---- over all records

pub summed_all : {seen : Counts} (n i : ℕ) (f : ℕ → Bool) (p q : ℕ → ℕ) → i ≤ n → n ≤ i → all_below i f ≡ true → (seen.ups ≡ sum_below i p) × (seen.ups ≤ 6 * i) → (seen.downs ≡ sum_below i q) × (seen.downs ≤ 6 * i)
    → SeenAs (all_below n f) (sum_below n p) (sum_below n q) (6 * n) (Some seen)
summed_all n i f p q h k a u v =
    let e : i ≡ n = omega arith in
    (all_to n f i h k a, record { upward = rw (← e) u.0; downward = rw (← e) v.0; few = (omega (arith, u.1), omega (arith, v.1)) })
