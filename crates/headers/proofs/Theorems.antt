-- No field is wrong exactly where the header's part of soundness holds.
use Prim.Native.Nat.{ℕ, ◌+◌, ◌*◌}
use native.Mathlib.Omega.{arith}
use mathlib.Core.Path.{◌≡◌, refl, sym, ap, ◌∙◌}
use mathlib.Core.Bool.{Bool, true, false, cond, not, ◌&&◌}
use mathlib.Core.List.{List, [], ◌∷◌}
use lib.Dec.{eqb, leb, ltb}
use lib.ListN.{length}
use borrow.Author.Tests.{leb-false, eq-eqb, not-true}
use Rattle.encoding.specs.Numbers.{u32_at}
use Rattle.encoding.specs.Refusal.{first_failed}
use Rattle.encoding.proofs.Below.{either, and_fst, and_snd}
use Rattle.offsets.specs.Limits.{tree_count_ok}
use Rattle.offsets.specs.Table.{ranks, ranks_ok, valid, trees, first_tree, tree_count}
use Rattle.records.specs.Record.{tree_size}
use Rattle.mesh.specs.Mesh.{mesh_header, mesh_dimension, mesh_trees, dimension_ok, header_sound, mesh_sound, mesh_refusal}
use Rattle.mesh.proofs.Checking.{header_short}
use Rattle.part.specs.Layout.{part_header, part_size}
use Rattle.part.specs.Part.{part_dimension, part_k, part_first, part_count, part_ghost_count, part_header_sound, part_sound}
use Rattle.part.specs.Checks.{rank_checks}
use Rattle.part_check.specs.Calls.{part_refusal}
use Rattle.part_check.proofs.Checking.{head_short}
use Rattle.headers.specs.declared.answer.WrongField.{WrongField}
use Rattle.headers.specs.Answer.{Field, none_wrong, wrong_at, wrong_or, first_wrong}
use Rattle.headers.specs.Fields.{part_fields, mesh_fields}
use Rattle.headers.specs.Calls.{header_answer, part_header_of, mesh_header_of}
use Rattle.headers.specs.Theorems.{PartHeaderAsSound, MeshHeaderAsSound, PartHeaderAccepted, MeshHeaderAccepted}

-- ---- lists of fields

-- every field is right
all_right : List Field → Bool
all_right [] = true
all_right (f ∷ fs) = f.right && all_right fs

-- no field has the number 0, which says that none is wrong
numbered : List Field → Bool
numbered [] = true
numbered (f ∷ fs) = not (eqb f.number 0) && numbered fs

or_rest : (b : Bool) (n due found : ℕ) (rest : WrongField) → not (eqb n 0) ≡ true → eqb (cond b rest (wrong_at n due found)).field 0 ≡ (b && eqb rest.field 0)
or_rest true n due found rest e = refl
or_rest false n due found rest e = not-true (eqb n 0) e

none_is : (fs : List Field) → numbered fs ≡ true → eqb (first_wrong fs).field 0 ≡ all_right fs
unfolding first_wrong wrong_or all_right numbered
none_is [] e = refl
none_is (f ∷ fs) e =
    or_rest f.right f.number f.due f.found (first_wrong fs) (and_fst _ _ e) ∙ ap (λ b. f.right && b) (none_is fs (and_snd (not (eqb f.number 0)) _ e))

all_none : (fs : List Field) → all_right fs ≡ true → first_wrong fs ≡ none_wrong
unfolding first_wrong wrong_or all_right
all_none [] e = refl
all_none (f ∷ fs) e = rw (and_fst f.right _ e) (all_none fs (and_snd f.right _ e))

-- a wrong field is no refusal
pub wrong_refuses : (fs : List Field) → (first_wrong fs).refusal ≡ 0
unfolding first_wrong wrong_or
wrong_refuses [] = refl
wrong_refuses (f ∷ fs) = either f.right (λ e. rw e (wrong_refuses fs)) (λ e. rw e)

-- ---- a part

eight : (a b d e f g h i : Bool) → (a && (b && (d && (e && (f && (g && (h && (i && true)))))))) ≡ (a && b && d && e && f && g && h && i)
eight true true true true true true true true = refl
eight true true true true true true true false = refl
eight true true true true true true false i = refl
eight true true true true true false h i = refl
eight true true true true false g h i = refl
eight true true true false f g h i = refl
eight true true false e f g h i = refl
eight true false d e f g h i = refl
eight false b d e f g h i = refl

module _ (part table : List ℕ) (rank : ℕ) where
  abbrev headed : Bool
  headed = part_header_sound part table rank && eqb (length part) (part_size (part_count part) (part_ghost_count part))

  -- the fields behind the first are those of soundness
  part_long : (leb part_header (length part) && headed) ≡ all_right (part_fields part table rank)
  unfolding part_fields part_header_sound all_right
  part_long =
      ap (λ b. leb part_header (length part) && b)
      (sym
      (eight (dimension_ok (part_dimension part)) (eqb (part_k part) (trees table)) (eqb (u32_at part 8) (ranks table)) (eqb (u32_at part 12) rank) (eqb (part_first part) (first_tree table rank))
      (eqb (part_count part) (tree_count table rank)) (eqb (u32_at part 28) 0) (eqb (length part) (part_size (part_count part) (part_ghost_count part)))))

  part-numbered : numbered (part_fields part table rank) ≡ true
  unfolding part_fields numbered
  part-numbered = refl

  part_right : all_right (part_fields part table rank) ≡ headed
  part_right =
      sym part_long
      ∙ either (leb part_header (length part)) (λ h. rw h) (λ h. rw h (head_short part table rank (leb-false _ _ h)))

four_pass : (a b d s : Bool) → ◌≡◌ {A = ℕ} (cond a (cond b (cond d (cond s 0 8) 5) 3) 2) 0 → (◌≡◌ {A = ℕ} (cond a (cond b (cond d 0 5) 3) 2) 0) × (s ≡ true)
four_pass true true true true e = (refl, refl)
four_pass true true true false e = absurd (omega arith)
four_pass true true false s e = absurd (omega arith)
four_pass true false d s e = absurd (omega arith)
four_pass false b d s e = absurd (omega arith)

pub part_header_as_sound : PartHeaderAsSound
unfolding part_header_of header_answer
part_header_as_sound part table rank e = rw (eq-eqb _ 0 e) (none_is (part_fields part table rank) (part-numbered part table rank) ∙ part_right part table rank)

pub part_header_accepted : PartHeaderAccepted
unfolding part_header_of header_answer part_refusal first_failed rank_checks part_sound
part_header_accepted part table rank e =
    let p = four_pass (ranks_ok table) (valid table) (ltb rank (ranks table)) (part_sound part table rank) e in
    rw (eq-eqb _ 0 p.0) (all_none (part_fields part table rank) (part_right part table rank ∙ and_fst _ _ p.1))

-- ---- a whole mesh

three : (a b d : Bool) → (a && (b && (d && true))) ≡ (a && b && d)
three true true true = refl
three true true false = refl
three true false d = refl
three false b d = refl

module _ (m : List ℕ) where
  mesh_long : (leb mesh_header (length m) && header_sound m) ≡ all_right (mesh_fields m)
  unfolding mesh_fields header_sound all_right
  mesh_long =
      ap (λ b. leb mesh_header (length m) && b)
      (sym (three (dimension_ok (mesh_dimension m)) (tree_count_ok (mesh_trees m)) (eqb (length m) (mesh_header + tree_size * mesh_trees m))))

  mesh-numbered : numbered (mesh_fields m) ≡ true
  unfolding mesh_fields numbered
  mesh-numbered = refl

  mesh-right : all_right (mesh_fields m) ≡ header_sound m
  mesh-right = sym mesh_long ∙ either (leb mesh_header (length m)) (λ h. rw h) (λ h. rw h (sym (header_short m (leb-false _ _ h))))

two_pass : (s : Bool) → ◌≡◌ {A = ℕ} (cond s 0 7) 0 → s ≡ true
two_pass true e = refl
two_pass false e = absurd (omega arith)

pub mesh_header_as_sound : MeshHeaderAsSound
unfolding mesh_header_of
mesh_header_as_sound m = none_is (mesh_fields m) (mesh-numbered m) ∙ mesh-right m

pub mesh_header_accepted : MeshHeaderAccepted
unfolding mesh_header_of mesh_refusal first_failed mesh_sound
mesh_header_accepted m e = all_none (mesh_fields m) (mesh-right m ∙ and_fst (header_sound m) _ (two_pass (mesh_sound m) e))
