-- What the code finds from the first field to the last is the first wrong field of the list.
use Prim.Native.Nat.{ℕ, ◌+◌, ◌-◌, ◌*◌}
use mathlib.Core.Path.{◌≡◌, refl, ◌∙◌}
use mathlib.Core.Bool.{Bool, true, false}
use mathlib.Core.List.{List, [], ◌∷◌}
use lib.ListN.{length}
use borrow.Author.Tests.{eq-eqb, ne_eqb}
use Rattle.encoding.specs.Numbers.{u32_at}
use Rattle.encoding.specs.Refusal.{first_failed}
use Rattle.offsets.specs.Limits.{tree_count_ok}
use Rattle.offsets.specs.Table.{ranks, entry, trees, first_tree, end_tree, tree_count}
use Rattle.records.specs.Record.{tree_size}
use Rattle.mesh.specs.Mesh.{mesh_header, mesh_dimension, mesh_trees, dimension_ok}
use Rattle.part.specs.Layout.{part_header, ghost_place}
use Rattle.part.specs.Part.{part_dimension, part_k, part_first, part_count, part_ghost_count}
use Rattle.part.specs.Checks.{rank_checks}
use Rattle.headers.specs.declared.answer.WrongField.{WrongField}
use Rattle.headers.specs.declared.answer.Wrong.{Wrong}
use Rattle.headers.specs.Answer.{Field, at_least, one_of, exactly, header_refused, wrong_at, wrong_or, first_wrong}
use Rattle.headers.specs.Means.{Checked, checked_of}
use Rattle.headers.specs.Answers.{wrong_of}
use Rattle.std.specs.Result.{result_err}
use Rattle.std.specs.Prelude.{Ok, Err}
use Rattle.std.specs.declared.result.Result.{Result}
use Rattle.headers.specs.Fields.{part_fields, mesh_fields}
use Rattle.headers.specs.Calls.{header_answer, part_header_of}

-- ---- a field

pub skip : (f : Field) (fs : List Field) {a : WrongField} → f.right ≡ true → a ≡ first_wrong fs → a ≡ first_wrong (f ∷ fs)
unfolding first_wrong wrong_or
skip f fs h e = rw h e

pub stop : (f : Field) (fs : List Field) {a : WrongField} → (f.right ≡ false) × (a ≡ wrong_at f.number f.due f.found) → a ≡ first_wrong (f ∷ fs)
unfolding first_wrong wrong_or
stop f fs h = h.1 ∙ rw h.0

-- the last of several
pub last : (f : Field) (r : Result (Unit {0}) Wrong) → Checked f r → checked_of r ≡ first_wrong (f ∷ [])
unfolding first_wrong wrong_or
last f (Ok _) h = rw h
last f (Err w) h = h.1 ∙ rw h.0

-- what is wrong is the error alone
pub of_error : (r : Result (Unit {0}) Wrong) → wrong_of (result_err r) ≡ checked_of r
of_error (Ok _) = refl
of_error (Err w) = refl

-- ---- a part

-- the fields as the code reads them
abbrev pub read_part : (size d K T p P q rank f first n count z due : ℕ) → Bool → List Field
read_part size d K T p P q rank f first n count z due b =
    at_least 1 part_header size
    ∷ one_of 2 b d
    ∷ exactly 3 T K
    ∷ exactly 4 P p
    ∷ exactly 5 rank q
    ∷ exactly 6 first f
    ∷ exactly 7 count n
    ∷ exactly 8 0 z
    ∷ exactly 9 due size
    ∷ []

module _ (part table : List ℕ) (rank : ℕ) where
  module _ {P T first end d n g due : ℕ} (is_p : P ≡ ranks table) (is_t : T ≡ entry table P) (is_first : first ≡ first_tree table rank) (is_end : end ≡ end_tree table rank)
      (is-d : d ≡ part_dimension part) (is_n : n ≡ part_count part) (is_g : g ≡ part_ghost_count part) (is-due : due ≡ ghost_place n g)
      {z f q p K : ℕ} (is-z : z ≡ u32_at part 28) (is_f : f ≡ part_first part) (is-q : q ≡ u32_at part 12) (is-p : p ≡ u32_at part 8) (is-K : K ≡ part_k part) {b : Bool} (is_b : b ≡ dimension_ok d) where
    pub part_read : {a : WrongField} → a ≡ first_wrong (read_part (length part) d K T p P q rank f first n (end - first) z due b) → a ≡ first_wrong (part_fields part table rank)
    unfolding part_fields trees tree_count
    part_read e = e ∙ rw (is_b, is-K, is-p, is-q, is_f, is-z, is-due, is_g, is_n, is-d, is_end, is_first, is_t, is_p)

  module _ {r : ℕ} (checked : r ≡ first_failed (rank_checks table rank)) {a : WrongField} where
    pub part_refused : (r ≡ 0 → ⊥) → a ≡ header_refused r → a ≡ part_header_of part table rank
    unfolding part_header_of header_answer
    part_refused h e = e ∙ rw (← checked, ne_eqb r 0 h)

    pub part_answered : r ≡ 0 → a ≡ first_wrong (part_fields part table rank) → a ≡ part_header_of part table rank
    unfolding part_header_of header_answer
    part_answered h e = e ∙ rw (← checked, eq-eqb r 0 h)

-- ---- a whole mesh

abbrev pub read_mesh : (size d K due : ℕ) → Bool → Bool → List Field
read_mesh size d K due b c = at_least 1 mesh_header size ∷ one_of 2 b d ∷ one_of 3 c K ∷ exactly 9 due size ∷ []

module _ (m : List ℕ) where
  pub mesh_read : {d K due : ℕ} {b c : Bool} {a : WrongField} → d ≡ mesh_dimension m → K ≡ mesh_trees m → due ≡ mesh_header + tree_size * K → b ≡ dimension_ok d → c ≡ tree_count_ok K
      → a ≡ first_wrong (read_mesh (length m) d K due b c) → a ≡ first_wrong (mesh_fields m)
  unfolding mesh_fields
  mesh_read is-d is-K is-due is_b is_c e = e ∙ rw (is_c, is_b, is-due, is-K, is-d)
