-- Laws of the ghosts of a rank.
use Prim.Native.Nat.{ℕ, suc, ◌<◌}
use mathlib.Core.Path.{◌≡◌, refl, sym, ap, ◌∙◌}
use mathlib.Core.Bool.{Bool, true, false, cond, not, ◌&&◌}
use mathlib.Core.List.{List, [], ◌∷◌, ◌++◌, append-nil, append_assoc}
use lib.Dec.{ltb, eqb}
use lib.ListN.{get_or}
use borrow.Author.Tests.{ltb-true, eqb-true, eq-eqb}
use Rattle.encoding.specs.Below.{any_below, kept_below, member}
use Rattle.encoding.proofs.Below.{either, and_fst, and_snd, and_intro, iff_eq, any_at, any_intro, kept_member, kept_at, kept_found, kept_ascends}
use Rattle.offsets.specs.Table.{holds}
use Rattle.records.specs.Shape.{face_count}
use Rattle.records.specs.Record.{shape_of, neighbour_of}
use Rattle.mesh.specs.Mesh.{mesh_trees, mesh_core, mesh_sound, face_neighbour}
use Rattle.mesh.proofs.Soundness.{neighbour_below, neighbours_both}
use Rattle.part.specs.Ghosts.{is_ghost, ghosts_of, ghost_position}
use Rattle.part.specs.Means.{beside_rank}
use Rattle.part.specs.Cut.{cores_of, part_ghosts}

-- ---- the cores of the ghosts, made from their list

module _ (core : ℕ → List ℕ) where
  cores-append : (xs ys : List ℕ) → cores_of core (xs ++ ys) ≡ cores_of core xs ++ cores_of core ys
  unfolding cores_of
  cores-append [] ys = refl
  cores-append (k ∷ ks) ys = ap (λ (r : List ℕ). core k ++ r) (cores-append ks ys) ∙ sym (append_assoc (core k) (cores_of core ks) (cores_of core ys))

  cores-one : (b : Bool) (k : ℕ) → cores_of core (cond b (k ∷ []) []) ≡ cond b (core k) []
  unfolding cores_of
  cores-one true k = append-nil (core k)
  cores-one false k = refl

module _ (mesh table : List ℕ) (rank : ℕ) where
  -- none below 0
  pub ghosts_none : part_ghosts mesh table rank 0 ≡ []
  unfolding part_ghosts ghosts_of kept_below cores_of
  ghosts_none = refl

  -- below k + 1 there is k too, if it is one
  pub ghosts_next : (k : ℕ) → part_ghosts mesh table rank (suc k) ≡ part_ghosts mesh table rank k ++ cond (is_ghost (mesh_core mesh) table rank k) (mesh_core mesh k) []
  unfolding part_ghosts ghosts_of kept_below
  ghosts_next k =
      cores-append (mesh_core mesh) (kept_below k (is_ghost (mesh_core mesh) table rank)) (cond (is_ghost (mesh_core mesh) table rank k) (k ∷ []) [])
      ∙ ap (λ (r : List ℕ). cores_of (mesh_core mesh) (kept_below k (is_ghost (mesh_core mesh) table rank)) ++ r) (cores-one (mesh_core mesh) (is_ghost (mesh_core mesh) table rank k) k)

-- ---- the list

module _ (core : ℕ → List ℕ) (table : List ℕ) (rank : ℕ) where
  -- the list has the ghosts below K and nothing else
  pub ghost_member : (K k : ℕ) → member k (ghosts_of core table rank K) ≡ (ltb k K && is_ghost core table rank k)
  unfolding ghosts_of
  ghost_member K k = kept_member K (is_ghost core table rank) k

  -- a ghost stands at its position
  pub ghost_at : (K k d : ℕ) → k < K → is_ghost core table rank k ≡ true → get_or (ghosts_of core table rank K) (ghost_position core table rank k) d ≡ k
  unfolding ghosts_of ghost_position
  ghost_at K k d h e = kept_at K (is_ghost core table rank) k h e d

  -- ghost j is a ghost below K, and j is its position
  pub ghost_found : (K j d : ℕ) → j < ghost_position core table rank K
      → (get_or (ghosts_of core table rank K) j d < K) × (is_ghost core table rank (get_or (ghosts_of core table rank K) j d) ≡ true) × (ghost_position core table rank (get_or (ghosts_of core table rank K) j d) ≡ j)
  unfolding ghosts_of ghost_position
  ghost_found K j d h = kept_found K (is_ghost core table rank) j d h

  -- ghosts ascend
  pub ghosts_ascend : (K i j d : ℕ) → i < j → j < ghost_position core table rank K → get_or (ghosts_of core table rank K) i d < get_or (ghosts_of core table rank K) j d
  unfolding ghosts_of ghost_position
  ghosts_ascend K i j d h l = kept_ascends K (is_ghost core table rank) i j d h l

  -- each stands there once
  pub ghost_once : (K i j d : ℕ) → i < ghost_position core table rank K → j < ghost_position core table rank K
      → get_or (ghosts_of core table rank K) i d ≡ get_or (ghosts_of core table rank K) j d → i ≡ j
  ghost_once K i j d h l e = sym (ghost_found K i d h).2 ∙ ap (ghost_position core table rank) e ∙ (ghost_found K j d l).2

module _ (m : List ℕ) (sound : mesh_sound m ≡ true) (table : List ℕ) (rank : ℕ) where
  module _ (k : ℕ) (tree : k < mesh_trees m) where
    links : Bool
    links = any_below (face_count (shape_of (mesh_core m k))) (λ f. holds table rank (neighbour_of (mesh_core m k) f))

    -- a link of k into f(rank) is answered by a link of a tree of f(rank) to k
    to : links ≡ true → beside_rank (mesh_core m) table rank (mesh_trees m) k ≡ true
    unfolding links beside_rank face_neighbour
    to e =
        let a = any_at (face_count (shape_of (mesh_core m k))) (λ f. holds table rank (neighbour_of (mesh_core m k) f)) e in
        let n = neighbour_of (mesh_core m k) a.0 in
        let l : n < mesh_trees m = neighbour_below m sound k tree a.0 a.1 in
        let t : face_neighbour (mesh_core m) k n ≡ true = any_intro (face_count (shape_of (mesh_core m k))) (λ f. eqb (neighbour_of (mesh_core m k) f) n) a.0 a.1 (eq-eqb n n refl) in
        any_intro (mesh_trees m) (λ n. holds table rank n && face_neighbour (mesh_core m) n k) n l
        (and_intro (holds table rank n) (face_neighbour (mesh_core m) n k) a.2 (neighbours_both m sound n k l tree ∙ t))

    back : beside_rank (mesh_core m) table rank (mesh_trees m) k ≡ true → links ≡ true
    unfolding links beside_rank face_neighbour
    back e =
        let b = any_at (mesh_trees m) (λ n. holds table rank n && face_neighbour (mesh_core m) n k) e in
        let n = b.0 in
        let t : face_neighbour (mesh_core m) k n ≡ true = neighbours_both m sound k n tree b.1 ∙ and_snd (holds table rank n) (face_neighbour (mesh_core m) n k) b.2 in
        let a = any_at (face_count (shape_of (mesh_core m k))) (λ f. eqb (neighbour_of (mesh_core m k) f) n) t in
        let q : neighbour_of (mesh_core m k) a.0 ≡ n = eqb-true _ _ a.2 in
        any_intro (face_count (shape_of (mesh_core m k))) (λ f. holds table rank (neighbour_of (mesh_core m k) f)) a.0 a.1
        (rw q (and_fst (holds table rank n) (face_neighbour (mesh_core m) n k) b.2))

    -- a tree of a sound mesh is a ghost where it is outside f(rank) and a face neighbour of a tree of f(rank)
    pub ghost_is_lem : is_ghost (mesh_core m) table rank k ≡ (not (holds table rank k) && beside_rank (mesh_core m) table rank (mesh_trees m) k)
    unfolding is_ghost links
    ghost_is_lem = ap (λ b. not (holds table rank k) && b) (iff_eq links (beside_rank (mesh_core m) table rank (mesh_trees m) k) to back)

  -- the list has those below K and nothing else
  pub ghosts_exact_lem : (k : ℕ) → member k (ghosts_of (mesh_core m) table rank (mesh_trees m)) ≡ (ltb k (mesh_trees m) && (not (holds table rank k) && beside_rank (mesh_core m) table rank (mesh_trees m) k))
  ghosts_exact_lem k = ghost_member (mesh_core m) table rank (mesh_trees m) k ∙ either (ltb k (mesh_trees m)) (λ p. rw (p, ghost_is_lem k (ltb-true _ _ p))) (λ p. rw p)
