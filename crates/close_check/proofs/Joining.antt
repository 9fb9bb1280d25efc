-- Where an area is sound and every due sender is heard, the tests left for its records say that they are those of a sound part.
use Prim.Native.Nat.{ℕ, ◌+◌, ◌-◌, ◌≤◌, ◌<◌}
use native.Mathlib.Omega.{arith}
use mathlib.Core.Path.{◌≡◌, refl, sym, ap₂, ◌∙◌}
use mathlib.Core.Bool.{Bool, true, false, ◌&&◌}
use mathlib.Core.List.{List}
use lib.Dec.{eqb}
use borrow.Author.Tests.{eqb-false, lt-ltb}
use Rattle.encoding.specs.Pieces.{Bytes}
use Rattle.encoding.proofs.Below.{and_fst, either, all_same}
use Rattle.offsets.specs.Limits.{max_trees}
use Rattle.offsets.specs.Table.{first_tree}
use Rattle.offsets.proofs.Tables.{trees_high}
use Rattle.records.specs.Shape.{shape_ok, face_count}
use Rattle.records.specs.Record.{number_of, shape_of, in_form}
use Rattle.records.proofs.Forms.{form_shape}
use Rattle.part.specs.Means.{is_local, tree_link, ghost_link, local_sound, ghost_after, ghost_beside, ghost_sound, view_sound, in_range, neighbour_in}
use Rattle.mesh.specs.Means.{link_by_dimension, link_between}
use Rattle.area.specs.Layout.{slots_place, ghost_slots_place}
use Rattle.area.specs.Area.{area_dimension, area_k, area_p, area_rank, area_count, area_ghosts, area_old, area_new, area_first, tree_slot_core, ghost_slot, area_sound}
use Rattle.area.specs.Close.{all_heard}
use Rattle.area.specs.Means.{HeaderHolds}
use Rattle.area.proofs.Headers.{slots_place_is}
use Rattle.area.proofs.Ranges.{range_trees}
use Rattle.area.proofs.Soundness.{sound_holds}
use Rattle.area_theorems.proofs.Kept.{Ghosts}
use Rattle.area_theorems.proofs.Zones.{few_trees}
use Rattle.area_theorems.proofs.Again.{area_parts, sound_ghosts}
use Rattle.close_check.specs.Means.{tree_from, ghost_from, Slots, SlotsNumbered, link_of_tree, link_of_ghost, tree_joins, ghost_joins, records_join, join_sound, Complete}
use Rattle.close_check.proofs.AreaSlots.{range_is, tree_slot_lem, tree_number}
use Rattle.close_check.proofs.Links.{tree_link_is, ghost_link_is}
use Rattle.close_check.proofs.ByDimension.{records_by_dimension}

module _ (a : List ℕ) (bytes : Bytes a) (sound : area_sound a ≡ true) where
  H : HeaderHolds a
  H = sound_holds a sound bytes

  abbrev at : ℕ
  at = slots_place (area_p a)

  abbrev n : ℕ
  n = area_count a

  abbrev g : ℕ
  g = area_ghosts a

  -- the first tree
  abbrev first : ℕ
  first = area_first a

  abbrev tree : ℕ → List ℕ
  tree = tree_from a (slots_place (area_p a))

  abbrev ghostly : ℕ → List ℕ
  ghostly = ghost_from a (slots_place (area_p a)) (area_count a)

  pub range_most : area_first a + area_count a ≤ max_trees
  range_most = omega (arith, range_trees a H, trees_high (area_old a) H.tables.old_bytes H.tables.old_ranks H.tables.old_valid)

  -- ---- the ghosts

  held-ghosts : Ghosts (area_k a) (area_new a) (area_rank a) (area_ghosts a) (ghost_from a (slots_place (area_p a)) (area_count a))
  unfolding ghost_from ghost_slot ghost_slots_place
  held-ghosts = sound_ghosts a bytes sound

  ghost_outside : (j : ℕ) → j < area_ghosts a → in_range (area_first a) (area_first a + area_count a) (number_of (ghost_from a (slots_place (area_p a)) (area_count a) j)) ≡ false
  ghost_outside j h = range_is a bytes sound (number_of (ghost_from a (slots_place (area_p a)) (area_count a) j)) ∙ held-ghosts.outside j h

  ghost-behind : (j : ℕ) → j < area_ghosts a → ghost_after first n g tree ghostly j ≡ true
  unfolding ghost_after
  ghost-behind j h =
      either (eqb j 0) (λ e. rw e)
      (λ e. let z : (j ≡ 0 → ⊥) = eqb-false j 0 e in
      rw e (lt-ltb (number_of (ghostly (j - 1))) (number_of (ghostly j)) (held-ghosts.ascends (j - 1) j (omega arith) h)))

  -- ---- the trees

  module _ (all : all_heard a ≡ true) where
    form-number : (i : ℕ) → i < area_count a → (in_form (area_first a + i) (tree_from a (slots_place (area_p a)) i) && eqb (number_of (tree_from a (slots_place (area_p a)) i)) (area_first a + i)) ≡ true
    unfolding tree_slot_core tree_from
    form-number = tree_slot_lem a bytes sound all

    tree-numbered : (i : ℕ) → i < area_count a → number_of (tree_from a (slots_place (area_p a)) i) ≡ area_first a + i
    unfolding tree_slot_core tree_from
    tree-numbered = tree_number a bytes sound all

    area-slots : Slots a (slots_place (area_p a)) (area_first a) (area_count a) (area_ghosts a)
    area-slots =
        record {
          fits = omega (arith, slots_place_is (area_p a), H.long, (area_parts a sound).fit);
          most = range_most;
          numbered = tree-numbered;
          outside = ghost_outside;
          ascends = held-ghosts.ascends;
        }

    tree-formed : (i : ℕ) → i < area_count a → in_form (area_first a + i) (tree_from a (slots_place (area_p a)) i) ≡ true
    tree-formed i h = and_fst (in_form (first + i) (tree i)) (eqb (number_of (tree i)) (first + i)) (form-number i h)

    tree-shaped : (i : ℕ) → i < area_count a → shape_ok (shape_of (tree_from a (slots_place (area_p a)) i)) ≡ true
    tree-shaped i h = form_shape (first + i) (tree i) (tree-formed i h)

    ghost-shaped : (j : ℕ) → j < area_ghosts a → shape_ok (shape_of (ghost_from a (slots_place (area_p a)) (area_count a) j)) ≡ true
    ghost-shaped j h = form_shape (number_of (ghostly j)) (ghostly j) (held-ghosts.form j h)

    pub area_numbered : SlotsNumbered a (slots_place (area_p a)) (area_first a) (area_count a) (area_ghosts a) (area_k a)
    area_numbered =
        record {
          slots = area-slots;
          below = held-ghosts.below;
          range = omega (arith, H.trees_are, range_trees a H);
          trees_formed = tree-formed;
          ghosts_formed = held-ghosts.form;
          few = omega (arith, H.trees_are, trees_high (area_old a) H.tables.old_bytes H.tables.old_ranks H.tables.old_valid);
        }

    tree-same : (D i : ℕ) → i < area_count a → local_sound first n g tree ghostly D i ≡ tree_joins link_between a at first n g D i
    unfolding local_sound tree_joins
    tree-same D i h =
        rw (
          form-number i h,
          all_same (face_count (shape_of (tree i))) (tree_link first n g tree ghostly (first + i)) (link_of_tree link_between a at first n g i) (λ f l. tree_link_is a at first n g area-slots i h f),
        )

    ghost-same : (D j : ℕ) → j < area_ghosts a → ghost_sound first n g tree ghostly D (area_k a) j ≡ ghost_joins link_between a at first n g D (area_k a) j
    unfolding ghost_sound ghost_joins ghost_beside neighbour_in is_local in_range
    ghost-same D j h =
        rw (
          held-ghosts.form j h,
          lt-ltb (number_of (ghostly j)) (area_k a) (held-ghosts.below j h),
          ghost_outside j h,
          ghost-behind j h,
          all_same (face_count (shape_of (ghostly j))) (ghost_link first n g tree ghostly (area_k a) (number_of (ghostly j))) (link_of_ghost link_between a at first n g (area_k a) j) (λ f l. ghost_link_is a at first n g area-slots j h (area_k a) f),
        )

    -- ---- the part

    join-view : join_sound a ≡ view_sound first n g tree ghostly (area_dimension a) (area_k a)
    unfolding join_sound tree_slot_core ghost_slot ghost_slots_place tree_from ghost_from
    join-view = refl

    pub join_is : join_sound a ≡ records_join (link_by_dimension (area_dimension a)) a at first n g (area_dimension a) (area_k a)
    unfolding view_sound records_join
    join_is =
        join-view
        ∙ ap₂ (λ (x y : Bool). x && y)
        (all_same n (local_sound first n g tree ghostly (area_dimension a)) (tree_joins link_between a at first n g (area_dimension a)) (tree-same (area_dimension a)))
        (all_same g (ghost_sound first n g tree ghostly (area_dimension a) (area_k a)) (ghost_joins link_between a at first n g (area_dimension a) (area_k a)) (ghost-same (area_dimension a)))
        ∙ sym (records_by_dimension (area_dimension a) a at first n g (area_k a) tree-shaped ghost-shaped)

-- the same with what the code has read
module _ (a : List ℕ) (bytes : Bytes a) (C : Complete a (area_new a)) {P at first n g : ℕ} (is_first : first ≡ area_first a) (is_p : P ≡ area_p a) (is_at : at ≡ slots_place P) (is_n : n ≡ area_count a) (is_g : g ≡ area_ghosts a) where
  pub numbered_read : {K : ℕ} → K ≡ area_k a → SlotsNumbered a at first n g K
  numbered_read k = rw (is_at, is_p, is_first, is_n, is_g, k) (area_numbered a bytes C.sound C.all)

  pub join_read : {D K : ℕ} {r : Bool} → D ≡ area_dimension a → K ≡ area_k a → r ≡ records_join (link_by_dimension D) a at first n g D K → r ≡ join_sound a
  join_read d k e = e ∙ rw (is_at, is_p, is_first, is_n, is_g, d, k) (sym (join_is a bytes C.sound C.all))

-- the first tree of the new range, read from the new table
pub first_read : {a new : List ℕ} → HeaderHolds a → new ≡ area_new a → {rank f : ℕ} → rank ≡ area_rank a → f ≡ first_tree new rank → (f ≡ area_first a) × (f + area_count a ≤ max_trees)
unfolding area_first
first_read {a} h e {rank} {f} r t =
    let s : f ≡ first_tree (area_new a) (area_rank a) = rw (← e, ← r) t in
    (s, omega (arith, range_trees a h, few_trees _ _ h.tables))
