-- Nothing is wrong with the records of a part exactly where they are sound.
use Prim.Native.Nat.{ℕ, ◌+◌, ◌-◌, ◌<◌}
use native.Mathlib.Omega.{arith}
use native.Mathlib.Nat.{add-sub_cancel_left}
use mathlib.Core.Path.{◌≡◌, refl, sym, ap, ◌∙◌}
use mathlib.Core.Bool.{Bool, true, false, cond, not, ◌&&◌}
use mathlib.Core.List.{List}
use lib.Dec.{eqb, leb, ltb}
use borrow.Author.Tests.{lt-ltb, le-ltb, eq-eqb}
use Rattle.encoding.specs.Below.{all_below, any_below, least_below}
use Rattle.encoding.specs.Pieces.{Bytes}
use Rattle.encoding.proofs.Below.{either, iff_eq, and_fst, and_snd, and_intro, all_at, all_intro, all_add, all_same, any_none, least_none}
use Rattle.records.specs.Shape.{dimension_of, face_count}
use Rattle.records.specs.Record.{number_of, shape_of, neighbour_of, in_form}
use Rattle.mesh.specs.Link.{orientation_ok}
use Rattle.mesh.specs.Means.{link_between}
use Rattle.part.specs.View.{View, ghost_ascends}
use Rattle.part.specs.Means.{in_range, neighbour_in, ghost_core, ghost_has, RankKnown}
use Rattle.part.specs.Part.{part_dimension, part_k, part_first, part_count, part_ghost_count, stored_tree, stored_ghost, view_of, part_sound}
use Rattle.part_check.specs.Means.{tree_to, tree_face, tree_stored, tree_numbered, ghost_behind, ghost_numbered, numbers_sound, ghost_to, ghost_face, ghost_stored, records_sound}
use Rattle.part_check.proofs.Checking.{sound_read}
use Rattle.part_check.proofs.ByDimension.{records_by_dimension}
use Rattle.faults.specs.Answer.{Wrong, wrong}
use Rattle.faults.specs.Record.{record_kind, face_kind, first_face, record_wrong}
use Rattle.faults.proofs.Firsts.{quiet, quiet_at}
use Rattle.faults.proofs.Right.{link_right, record_right_is}
use Rattle.part_fault.specs.Wrong.{tree_order_in, tree_to_in, tree_face_in, tree_wrong_in, ghost_order_in, found_in, ghost_to_in, ghost_face_in, ghost_beside_in, ghost_wrong_in, wrong_in}
use Rattle.part_fault.specs.Calls.{part_headed}

far_zero : (b o : Bool) → eqb (cond b (cond o 0 14) 13) 0 ≡ (b && o)
far_zero true true = refl
far_zero true false = refl
far_zero false o = refl

beside_zero : (w : Wrong) (b : Bool) → eqb (cond (eqb w.kind 0) (wrong (cond b 0 17) 0) w).kind 0 ≡ (eqb w.kind 0 && b)
beside_zero w true = either (eqb w.kind 0) (λ e. rw e) (λ e. rw (e, e))
beside_zero w false = either (eqb w.kind 0) (λ e. rw e) (λ e. rw (e, e))

swap_tree : (a b c d : Bool) → (a && b && c && d) ≡ (b && (a && c && d))
swap_tree true true c d = refl
swap_tree true false c d = refl
swap_tree false true c d = refl
swap_tree false false c d = refl

swap_ghost : (a b c d e : Bool) → (a && b && c && d && e) ≡ (b && (a && c && e && d))
swap_ghost true true true true true = refl
swap_ghost true true true true false = refl
swap_ghost true true true false true = refl
swap_ghost true true true false false = refl
swap_ghost true true false d e = refl
swap_ghost true false c d e = refl
swap_ghost false true c d e = refl
swap_ghost false false c d e = refl

module _ (v : View) where
  abbrev number : ℕ → Bool
  number = tree_numbered v.first v.stored

  abbrev sound_tree : ℕ → Bool
  sound_tree = tree_stored link_between v.n v.g v.stored v.ghost v.dimension

  abbrev order : ℕ → Bool
  order = ghost_numbered v.first v.n v.ghost v.K

  abbrev sound_ghost : ℕ → Bool
  sound_ghost = ghost_stored link_between v.first v.n v.g v.stored v.ghost v.dimension v.K

  -- ---- trees

  tree-to-right : (i f m : ℕ) → eqb (tree_to_in v i f m) 0 ≡ tree_to link_between v.n v.g v.stored v.ghost i f m
  unfolding tree_to_in tree_to
  tree-to-right i f m =
      either (ltb m v.n)
      (λ p. rw p (link_right i (v.stored i) f (v.stored m)))
      (λ p. either (ltb (m - v.n) v.g) (λ q. rw (p, q) (link_right (number_of (v.stored i)) (v.stored i) f (v.ghost (m - v.n)))) (λ q. rw (p, q)))

  pub tree_right : (i : ℕ) → eqb (tree_wrong_in v i).kind 0 ≡ (tree_numbered v.first v.stored i && tree_stored link_between v.n v.g v.stored v.ghost v.dimension i)
  unfolding tree_wrong_in tree_face_in tree_order_in tree_numbered tree_stored tree_face
  tree_right i =
      let r : List ℕ = v.stored i in
      let o : Bool = eqb (number_of r) (v.first + i) in
      let d : Bool = eqb (dimension_of (shape_of r)) v.dimension in
      record_right_is o v.dimension i r (λ f. tree_to_in v i f (neighbour_of r f))
      ∙ ap (λ (b : Bool). in_form i r && o && d && b) (all_same (face_count (shape_of r)) (λ f. eqb (tree_to_in v i f (neighbour_of r f)) 0) (λ f. tree_to link_between v.n v.g v.stored v.ghost i f (neighbour_of r f)) (λ f h. tree-to-right i f (neighbour_of r f)))
      ∙ swap_tree (in_form i r) o d (all_below (face_count (shape_of r)) (λ f. tree_to link_between v.n v.g v.stored v.ghost i f (neighbour_of r f)))

  -- ---- ghosts

  order_same : (j : ℕ) → ghost_order_in v j ≡ order j
  unfolding ghost_order_in ghost_ascends ghost_numbered ghost_behind in_range
  order_same j = refl

  -- whatever the other ghosts are
  ghost-half : (j : ℕ)
      → eqb (ghost_wrong_in v j).kind 0
      ≡ (in_form (number_of (v.ghost j)) (v.ghost j) && ghost_order_in v j && eqb (dimension_of (shape_of (v.ghost j))) v.dimension
      && all_below (face_count (shape_of (v.ghost j))) (λ f. eqb (ghost_to_in v j f (neighbour_of (v.ghost j) f)) 0) && ghost_beside_in v j)
  unfolding ghost_wrong_in ghost_face_in
  ghost-half j =
      let r : List ℕ = v.ghost j in
      beside_zero (record_wrong (record_kind (ghost_order_in v j) v.dimension r) (first_face (face_kind (number_of r) r (λ f. ghost_to_in v j f (neighbour_of r f))))) (ghost_beside_in v j)
      ∙ ap (λ (b : Bool). b && ghost_beside_in v j) (record_right_is (ghost_order_in v j) v.dimension (number_of r) r (λ f. ghost_to_in v j f (neighbour_of r f)))

  ghost-order : (j : ℕ) → (ghost_wrong_in v j).kind ≡ 0 → order j ≡ true
  ghost-order j e =
      let r : List ℕ = v.ghost j in
      let f : Bool = in_form (number_of r) r in
      let d : Bool = eqb (dimension_of (shape_of r)) v.dimension in
      let l : Bool = all_below (face_count (shape_of r)) (λ f. eqb (ghost_to_in v j f (neighbour_of r f)) 0) in
      let o : Bool = ghost_order_in v j in
      let h : (f && o && d && l && ghost_beside_in v j) ≡ true = sym (ghost-half j) ∙ eq-eqb (ghost_wrong_in v j).kind 0 e in
      sym (order_same j) ∙ and_snd f o (and_fst (f && o) d (and_fst (f && o && d) l (and_fst (f && o && d && l) (ghost_beside_in v j) h)))

  -- the links of a ghost are followed among the ghosts that are found
  ghost-to-right : (j f k : ℕ) → eqb (ghost_to_in v j f k) 0 ≡ ghost_to link_between v.first v.n (found_in v) v.stored v.ghost v.K j f k
  unfolding ghost_to_in ghost_to in_range ghost_has
  ghost-to-right j f k =
      let here : Bool = leb v.first k && ltb k (v.first + v.n) in
      let has : ℕ → Bool = λ m. eqb (number_of (v.ghost m)) k in
      either here
      (λ p. rw p (link_right (v.n + j) (v.ghost j) f (v.stored (k - v.first))))
      (λ p. either (any_below (found_in v) has)
      (λ q. rw (p, q) (link_right (number_of (v.ghost j)) (v.ghost j) f (v.ghost (least_below (found_in v) has))))
      (λ q. rw (p, q) (far_zero (ltb k v.K) (orientation_ok (v.ghost j) f))))

  pub ghost_right : (j : ℕ)
      → eqb (ghost_wrong_in v j).kind 0
      ≡ (ghost_numbered v.first v.n v.ghost v.K j && ghost_stored link_between v.first v.n (found_in v) v.stored v.ghost v.dimension v.K j)
  unfolding ghost_stored ghost_face neighbour_in in_range ghost_beside_in
  ghost_right j =
      let r : List ℕ = v.ghost j in
      let d : Bool = eqb (dimension_of (shape_of r)) v.dimension in
      let b : Bool = ghost_beside_in v j in
      let l : Bool = all_below (face_count (shape_of r)) (λ f. ghost_to link_between v.first v.n (found_in v) v.stored v.ghost v.K j f (neighbour_of r f)) in
      ghost-half j
      ∙ ap (λ (x : Bool). in_form (number_of r) r && ghost_order_in v j && d && x && b)
      (all_same (face_count (shape_of r)) (λ f. eqb (ghost_to_in v j f (neighbour_of r f)) 0) (λ f. ghost_to link_between v.first v.n (found_in v) v.stored v.ghost v.K j f (neighbour_of r f)) (λ f h. ghost-to-right j f (neighbour_of r f)))
      ∙ swap_ghost (in_form (number_of r) r) (ghost_order_in v j) d l b
      ∙ ap (λ (x : Bool). x && (in_form (number_of r) r && d && b && l)) (order_same j)

  -- all ghosts are found where all are in order
  pub found_all : all_below v.g order ≡ true → found_in v ≡ v.g
  unfolding found_in
  found_all e =
      least_none v.g (λ j. not (ghost_order_in v j)) (any_none v.g (λ j. not (ghost_order_in v j)) (λ j h. rw (order_same j, all_at v.g order e j h)))

  all_right : all_below v.g order ≡ true → (j : ℕ) → eqb (ghost_wrong_in v j).kind 0 ≡ (order j && sound_ghost j)
  all_right e j = ghost_right j ∙ ap (λ (g : ℕ). order j && ghost_stored link_between v.first v.n g v.stored v.ghost v.dimension v.K j) (found_all e)

  -- ---- all records

  at-tree : (i : ℕ) → i < v.n → wrong_in v i ≡ tree_wrong_in v i
  unfolding wrong_in
  at-tree i h = rw (lt-ltb i v.n h)

  at_ghost : (j : ℕ) → wrong_in v (v.n + j) ≡ ghost_wrong_in v j
  unfolding wrong_in
  at_ghost j = rw (le-ltb (v.n + j) v.n (omega arith), add-sub_cancel_left v.n j)

  abbrev kinds : ℕ → ℕ
  kinds i = (wrong_in v i).kind

  abbrev sound : Bool
  sound = records_sound link_between v.first v.n v.g v.stored v.ghost v.dimension v.K

  to-sound : quiet kinds (v.n + v.g) ≡ true → sound ≡ true
  unfolding records_sound numbers_sound
  to-sound q =
      let tree : (i : ℕ) → i < v.n → (number i && sound_tree i) ≡ true =
      λ i h. sym (tree_right i) ∙ eq-eqb (tree_wrong_in v i).kind 0 (sym (ap (λ (w : Wrong). w.kind) (at-tree i h)) ∙ quiet_at kinds (v.n + v.g) q i (omega arith)) in
      let zero : (j : ℕ) → j < v.g → (ghost_wrong_in v j).kind ≡ 0 = λ j h. sym (ap (λ (w : Wrong). w.kind) (at_ghost j)) ∙ quiet_at kinds (v.n + v.g) q (v.n + j) (omega arith) in
      let orders : all_below v.g order ≡ true = all_intro v.g order (λ j h. ghost-order j (zero j h)) in
      let ghost : (j : ℕ) → j < v.g → (order j && sound_ghost j) ≡ true = λ j h. sym (all_right orders j) ∙ eq-eqb (ghost_wrong_in v j).kind 0 (zero j h) in
      and_intro (all_below v.n number && all_below v.g order) (all_below v.n sound_tree && all_below v.g sound_ghost)
      (and_intro (all_below v.n number) (all_below v.g order) (all_intro v.n number (λ i h. and_fst (number i) (sound_tree i) (tree i h))) orders)
      (and_intro (all_below v.n sound_tree) (all_below v.g sound_ghost)
      (all_intro v.n sound_tree (λ i h. and_snd (number i) (sound_tree i) (tree i h)))
      (all_intro v.g sound_ghost (λ j h. and_snd (order j) (sound_ghost j) (ghost j h))))

  of-sound : sound ≡ true → quiet kinds (v.n + v.g) ≡ true
  unfolding records_sound numbers_sound quiet
  of-sound e =
      let numbers : (all_below v.n number && all_below v.g order) ≡ true = and_fst (all_below v.n number && all_below v.g order) (all_below v.n sound_tree && all_below v.g sound_ghost) e in
      let records : (all_below v.n sound_tree && all_below v.g sound_ghost) ≡ true = and_snd (all_below v.n number && all_below v.g order) (all_below v.n sound_tree && all_below v.g sound_ghost) e in
      let orders : all_below v.g order ≡ true = and_snd (all_below v.n number) (all_below v.g order) numbers in
      let tree : (i : ℕ) → i < v.n → eqb (kinds i) 0 ≡ true =
      λ i h. ap (λ (w : Wrong). eqb w.kind 0) (at-tree i h) ∙ tree_right i
      ∙ and_intro (number i) (sound_tree i) (all_at v.n number (and_fst (all_below v.n number) (all_below v.g order) numbers) i h) (all_at v.n sound_tree (and_fst (all_below v.n sound_tree) (all_below v.g sound_ghost) records) i h) in
      let ghost : (j : ℕ) → j < v.g → eqb (kinds (v.n + j)) 0 ≡ true =
      λ j h. ap (λ (w : Wrong). eqb w.kind 0) (at_ghost j) ∙ all_right orders j
      ∙ and_intro (order j) (sound_ghost j) (all_at v.g order orders j h) (all_at v.g sound_ghost (and_snd (all_below v.n sound_tree) (all_below v.g sound_ghost) records) j h) in
      all_add v.n v.g (λ i. eqb (kinds i) 0)
      ∙ and_intro (all_below v.n (λ i. eqb (kinds i) 0)) (all_below v.g (λ j. eqb (kinds (v.n + j)) 0)) (all_intro v.n (λ i. eqb (kinds i) 0) tree) (all_intro v.g (λ j. eqb (kinds (v.n + j)) 0) ghost)

  pub records_right : quiet (λ i. (wrong_in v i).kind) (v.n + v.g) ≡ records_sound link_between v.first v.n v.g v.stored v.ghost v.dimension v.K
  records_right = iff_eq (quiet kinds (v.n + v.g)) sound to-sound of-sound

-- a part with a sound header, for a valid table and a rank of it
module _ (part table : List ℕ) (rank : ℕ) (bytes : Bytes part) (table_bytes : Bytes table) (known : RankKnown table rank) where
  pub part_right : part_headed part table rank ≡ true → quiet (λ i. (wrong_in (view_of part) i).kind) (part_count part + part_ghost_count part) ≡ part_sound part table rank
  unfolding stored_ghost ghost_core
  part_right h =
      records_right (view_of part)
      ∙ sym (records_by_dimension (part_dimension part) (part_first part) (part_count part) (part_ghost_count part) (part_k part) (stored_tree part) (ghost_core part (part_count part)))
      ∙ sound_read part table rank table_bytes known refl h bytes refl refl refl refl refl refl
