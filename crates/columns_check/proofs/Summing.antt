-- Loops over the records of a column file that also count: how many links lead up and down.
use Prim.Native.Nat.{ℕ, ◌+◌, ◌*◌, ◌≤◌, ◌<◌}
use native.Mathlib.Omega.{arith}
use mathlib.Core.Path.{◌≡◌, refl, sym, ◌∙◌}
use mathlib.Core.Bool.{Bool, true, false, and-false}
use mathlib.Core.List.{List}
use lib.Dec.{eqb}
use Rattle.encoding.specs.Below.{all_below, count_below, sum_below}
use Rattle.encoding.proofs.Below.{either, clash, and_fst, and_snd, and_intro, all_at, all_add, all_intro, all_fails, all_to, count_add}
use Rattle.std.specs.Prelude.{Some}
use Rattle.mesh.specs.Means.{SeenAs}
use Rattle.mesh.specs.declared.sound.Counts.{Counts}
use Rattle.ghost_links.specs.Means.{ghost_answered}
use Rattle.columns_read.specs.Means.{tree_side, tree_side_up, tree_side_down}
use Rattle.columns_check.specs.Means.{from, ghost_side, ghost_side_low, ghost_side_up, ghost_side_down, ghost_side_listed, ghost_side_linked, faces_sound, faces_up, faces_down, links_sound}

-- a loop that has come to its end
pub counted_all : {seen : Counts} (n i : ℕ) (f p q : ℕ → Bool) → i ≤ n → n ≤ i → n < 4294967296 → all_below i f ≡ true → (seen.ups ≡ count_below i p) × (seen.ups ≤ 6 * i) → (seen.downs ≡ count_below i q) × (seen.downs ≤ 6 * i)
    → SeenAs (all_below n f) (count_below n p) (count_below n q) 25769803776 (Some seen)
counted_all n i f p q h k few a u v =
    let e : i ≡ n = omega arith in
    (all_to n f i h k a, record { upward = rw (← e) u.0; downward = rw (← e) v.0; few = (omega (arith, u.1), omega (arith, v.1)) })

-- ---- from a record on

pub from_is : (p : ℕ → Bool) (s m : ℕ) → from p s m ≡ p (s + m)
unfolding from
from_is p s m = refl

-- m more of those that count
pub count_block : {ups t : ℕ} (j m : ℕ) (p : ℕ → Bool) → ups ≡ count_below j p → t ≡ count_below m (from p j) → ups + t ≡ count_below (j + m) p
unfolding from
count_block j m p u t = rw (u, t) (sym (count_add j m p))

module _ (link : ℕ → List ℕ → ℕ → List ℕ → Bool) (first n g : ℕ) (tree ghostly : ℕ → List ℕ) (D K f : ℕ) where
  pub ghosts_more : (j m : ℕ) → all_below j (ghost_side link first n g tree ghostly D K f) ≡ true → all_below m (from (ghost_side_low K ghostly f) j) ≡ true → all_below m (from (ghost_side_linked link first n g tree ghostly D K f) j) ≡ true
      → all_below (j + m) (ghost_side link first n g tree ghostly D K f) ≡ true
  unfolding ghost_side from
  ghosts_more j m h a b =
      all_add j m (ghost_side link first n g tree ghostly D K f)
      ∙ and_intro (all_below j (ghost_side link first n g tree ghostly D K f)) _ h
      (all_intro m (λ i. ghost_side link first n g tree ghostly D K f (j + i))
      (λ i l. and_intro (ghost_side_low K ghostly f (j + i)) _ (all_at m (λ i. ghost_side_low K ghostly f (j + i)) a i l) (all_at m (λ i. ghost_side_linked link first n g tree ghostly D K f (j + i)) b i l)))

  module _ (j m : ℕ) (fits : j + m ≤ g) where
    pub low_fails : all_below m (from (ghost_side_low K ghostly f) j) ≡ false → all_below g (ghost_side link first n g tree ghostly D K f) ≡ false
    unfolding ghost_side from
    low_fails e =
        either (all_below g (ghost_side link first n g tree ghostly D K f))
        (λ h. clash (all_intro m (λ i. ghost_side_low K ghostly f (j + i)) (λ i l. and_fst (ghost_side_low K ghostly f (j + i)) _ (all_at g (ghost_side link first n g tree ghostly D K f) h (j + i) (omega arith)))) e)
        (λ h. h)

    pub linked_fails : all_below m (from (ghost_side_linked link first n g tree ghostly D K f) j) ≡ false → all_below g (ghost_side link first n g tree ghostly D K f) ≡ false
    unfolding ghost_side from
    linked_fails e =
        either (all_below g (ghost_side link first n g tree ghostly D K f))
        (λ h. clash (all_intro m (λ i. ghost_side_linked link first n g tree ghostly D K f (j + i)) (λ i l. and_snd (ghost_side_low K ghostly f (j + i)) _ (all_at g (ghost_side link first n g tree ghostly D K f) h (j + i) (omega arith)))) e)
        (λ h. h)

  -- those of a list
  module _ (s : ℕ) where
    pub not_listed : (m : ℕ) → from (ghost_side_listed g ghostly f) s m ≡ false → from (ghost_side_linked link first n g tree ghostly D K f) s m ≡ true
    unfolding from ghost_side_linked
    not_listed m e = rw e

    pub listed_is : {r : Bool} (m : ℕ) → from (ghost_side_listed g ghostly f) s m ≡ true → r ≡ ghost_answered link g ghostly (s + m) f → from (ghost_side_linked link first n g tree ghostly D K f) s m ≡ r
    unfolding from ghost_side_linked
    listed_is m e h = rw (e, h)

-- ---- face by face

module _ (link : ℕ → List ℕ → ℕ → List ℕ → Bool) (first n g : ℕ) (tree ghostly : ℕ → List ℕ) (D K : ℕ) where
  -- what the loops over trees and over ghosts found of a face
  module _ (f : ℕ) where
    pub face_trees : all_below n (tree_side link first n g tree ghostly D K f) ≡ false → faces_sound link first n g tree ghostly D K f ≡ false
    unfolding faces_sound
    face_trees e = rw e

    pub face_ghosts : all_below g (ghost_side link first n g tree ghostly D K f) ≡ false → faces_sound link first n g tree ghostly D K f ≡ false
    unfolding faces_sound
    face_ghosts e = rw (e, and-false)

    pub face_both : {own others : Counts} → SeenAs (all_below n (tree_side link first n g tree ghostly D K f)) (count_below n (tree_side_up n tree f)) (count_below n (tree_side_down n tree f)) 25769803776 (Some own)
        → SeenAs (all_below g (ghost_side link first n g tree ghostly D K f)) (count_below g (ghost_side_up first n g ghostly f)) (count_below g (ghost_side_down g ghostly f)) 25769803776 (Some others)
        → SeenAs (faces_sound link first n g tree ghostly D K f) (faces_up link first n g tree ghostly D K f) (faces_down link first n g tree ghostly D K f) 51539607552 (Some (record { ups = own.ups + others.ups; downs = own.downs + others.downs }))
    unfolding faces_sound faces_up faces_down
    face_both trees ghosts =
        let u = trees.1 in
        let v = ghosts.1 in
        (rw (trees.0, ghosts.0), record { upward = rw (u.upward, v.upward); downward = rw (u.downward, v.downward); few = (omega (arith, u.few.0, v.few.0), omega (arith, u.few.1, v.few.1)) })

  pub links_fail : (f : ℕ) → f < 6 → faces_sound link first n g tree ghostly D K f ≡ false → false ≡ links_sound link first n g tree ghostly D K
  unfolding links_sound
  links_fail f h e = rw (all_fails 6 (faces_sound link first n g tree ghostly D K) f h e)

  pub links_all : {ups downs : ℕ} (f : ℕ) → f ≤ 6 → 6 ≤ f → all_below f (faces_sound link first n g tree ghostly D K) ≡ true → ups ≡ sum_below f (faces_up link first n g tree ghostly D K) → downs ≡ sum_below f (faces_down link first n g tree ghostly D K)
      → eqb ups downs ≡ links_sound link first n g tree ghostly D K
  unfolding links_sound
  links_all f h k a u v =
      let e : f ≡ 6 = omega arith in
      rw (all_to 6 (faces_sound link first n g tree ghostly D K) f h k a, u, v, e)
