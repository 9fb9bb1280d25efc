-- What the calls write.
use native.Mathlib.Numerals.{add-one}
use Prim.Native.Nat.{min, ℕ, zero, suc, ◌+◌, ◌*◌, ◌/◌, ◌≤◌}
use native.Mathlib.Omega.{arith}
use mathlib.Core.Path.{◌≡◌, refl, sym, ap, ◌∙◌}
use mathlib.Core.Bool.{true}
use mathlib.Core.List.{List, ◌++◌}
use lib.Dec.{leb}
use lib.ListN.{length, drop, length-append}
use Rattle.encoding.specs.Header.{eight_bytes}
use Rattle.encoding.specs.Numbers.{le_bytes, put_u32, put_u64, le_put}
use Rattle.encoding.specs.Pieces.{piece, splice}
use Rattle.encoding.proofs.Below.{tests, either}
use Rattle.encoding.proofs.Numbers.{bytes_length, length_put, put_next}
use Rattle.encoding.proofs.Pieces.{splice_none, length_splice, splice_drop, splice_then, piece_same}
use Rattle.offsets.specs.Table.{table_length, ranks, entry, trees, first_tree}
use Rattle.records.proofs.Rows.{splice_inside}
use Rattle.part.specs.Layout.{part_header, header_bytes}
use Rattle.part.specs.Part.{part_sound}
use Rattle.part.proofs.Records.{header_length}
use Rattle.part_theorems.proofs.SoundParts.{part_length}
use Rattle.restart.specs.Restart.{padded_entry, padded_entries, padded_table, empty_part, relabelled}

-- ---- a table of n ranks

pub entries_length : (t : List ℕ) (n : ℕ) → length (padded_entries t n) ≡ 8 * n
unfolding padded_entries
entries_length t zero = refl
entries_length t (suc n) = rw (length-append, bytes_length 8 (padded_entry t n), entries_length t n) (omega arith)

pub padded_length : (t : List ℕ) (n : ℕ) → length (padded_table t n) ≡ table_length n
unfolding padded_table
padded_length t n = entries_length t (n + 1)

-- the entry that is copied
pub entry_read : (t : List ℕ) (p : ℕ) {P e : ℕ} → P ≡ ranks t → e ≡ entry t (min p P) → e ≡ padded_entry t p
unfolding padded_entry trees
entry_read t p {P} is-P f =
    either (leb p (ranks t))
    (λ q. let m : min p P ≡ p = omega tests in rw (q, f, m))
    (λ q. let m : min p P ≡ ranks t = omega tests in rw (q, f, m))

-- the first p entries are written
pub record Padding (t dst₀ : List ℕ) (p : ℕ) (dst : List ℕ) : Type 0 where
  pub same_length : length dst ≡ length dst₀
  pub begins : dst ≡ splice dst₀ 0 (padded_entries t p)

module _ (t dst₀ : List ℕ) where
  pub padding_start : Padding t dst₀ 0 dst₀
  unfolding padded_entries
  padding_start = record { same_length = refl; begins = sym (splice_none dst₀ 0) }

  padded_next : (p : ℕ) → padded_entries t (p + 1) ≡ padded_entries t p ++ le_bytes 8 (padded_entry t p)
  unfolding padded_entries
  padded_next p = rw add-one

  pub padding_more : {p e : ℕ} {dst next : List ℕ} → Padding t dst₀ p dst → 8 * p + 8 ≤ length dst₀ → e ≡ padded_entry t p → next ≡ put_u64 dst (8 * p) e → Padding t dst₀ (p + 1) next
  padding_more {p} {e} {dst} s room f put =
      record {
        same_length = ap length put ∙ length_put 8 dst (8 * p) e (omega (arith, s.same_length)) ∙ s.same_length;
        begins =
            put ∙ ap (λ (d : List ℕ). put_u64 d (8 * p) e) s.begins
            ∙ put_next 8 e (8 * p) dst₀ (padded_entries t p) (entries_length t p) (omega arith)
            ∙ ap (λ (v : ℕ). splice dst₀ 0 (padded_entries t p ++ le_bytes 8 v)) f
            ∙ ap (splice dst₀ 0) (sym (padded_next p));
      }

  pub padding_done : (n : ℕ) {p : ℕ} {dst : List ℕ} → Padding t dst₀ p dst → p ≡ n + 1 → dst ≡ splice dst₀ 0 (padded_table t n)
  unfolding padded_table
  padding_done n s e = s.begins ∙ ap (λ (m : ℕ). splice dst₀ 0 (padded_entries t m)) e

-- ---- a part without trees

module _ (t : List ℕ) (p dimension : ℕ) where
  pub empty_length : length (empty_part t p dimension) ≡ part_header
  unfolding empty_part
  empty_length = header_length dimension (trees t) (ranks t) p (first_tree t p) 0 0

  pub empty_written : (out : List ℕ) {K P first : ℕ} {last : List ℕ} → K ≡ trees t → P ≡ ranks t → first ≡ first_tree t p
      → last ≡ splice out 0 (eight_bytes dimension K P p first 0 0 0) → last ≡ splice out 0 (empty_part t p dimension)
  unfolding empty_part header_bytes
  empty_written out k r f e = e ∙ rw (k, r, f)

-- ---- a part under another table and rank

-- a sound part is whole words
pub record PartWords (part : List ℕ) : Type 0 where
  pub whole : length part ≡ 8 * (length part / 8)
  pub long : 32 ≤ length part

pub part_words : (part t : List ℕ) (p : ℕ) → part_sound part t p ≡ true → PartWords part
part_words part t p sound = record { whole = omega (arith, part_length part t p sound); long = omega (arith, part_length part t p sound) }

pub part_long : (part t : List ℕ) (p : ℕ) → part_sound part t p ≡ true → 32 ≤ length part
part_long part t p sound = omega (arith, part_length part t p sound)

pub splice_front : (bs p : List ℕ) {x : List ℕ} → x ≡ p → x ++ drop (length p) bs ≡ splice bs 0 p
unfolding splice
splice_front bs p e = let z : 0 + length p ≡ length p = omega arith in rw (e, z)

-- what is written over other bytes
splice_over : (bs a b : List ℕ) → length a ≡ length b → length a ≤ length bs → splice (splice bs 0 a) 0 b ≡ splice bs 0 b
splice_over bs a b e h =
    let z : 0 + length a ≡ length a = omega arith in
    let d : drop (length a) (splice bs 0 a) ≡ drop (length a) bs = rw z at (splice_drop bs 0 a (omega arith)) in
    sym (splice_front (splice bs 0 a) b refl) ∙ ap (λ (l : List ℕ). b ++ l) (rw e at d) ∙ splice_front bs b refl

label_length : (o : List ℕ) (q : ℕ) → length (le_bytes 4 (ranks o) ++ le_bytes 4 q) ≡ 8
label_length o q = rw (length-append, bytes_length 4 (ranks o), bytes_length 4 q)

pub relabelled_length : (part o : List ℕ) (q : ℕ) → 32 ≤ length part → length (relabelled part o q) ≡ length part
unfolding relabelled
relabelled_length part o q h = length_splice part 8 (le_bytes 4 (ranks o) ++ le_bytes 4 q) (omega (arith, label_length o q))

pub relabel_written : (part o out : List ℕ) (q : ℕ) {Q : ℕ} {o1 o2 o3 : List ℕ} → 32 ≤ length part → length part ≤ length out → Q ≡ ranks o
    → o1 ≡ splice out 0 part → o2 ≡ put_u32 o1 8 Q → o3 ≡ put_u32 o2 12 q → o3 ≡ splice out 0 (relabelled part o q)
unfolding relabelled le_put
relabel_written part o out q {Q} {o1} {o2} {o3} h r is-Q s1 e2 e3 =
    let label : List ℕ = le_bytes 4 (ranks o) ++ le_bytes 4 q in
    let l : length label ≡ 8 = label_length o q in
    let long : length o1 ≡ length out = ap length s1 ∙ length_splice out 0 part (omega arith) in
    let s3 : o3 ≡ splice o1 8 label = splice_then o1 8 4 (le_bytes 4 (ranks o)) (le_bytes 4 q) (bytes_length 4 (ranks o)) (omega arith) (e2 ∙ ap (λ (m : ℕ). splice o1 8 (le_bytes 4 m)) is-Q) e3 in
    let held : piece o1 0 (length part) ≡ part = ap (λ (m : List ℕ). piece m 0 (length part)) s1 ∙ piece_same out 0 part (omega arith) in
    let i : splice o1 0 (splice part 8 label) ≡ splice o1 8 label = rw held at (splice_inside o1 0 (length part) 8 label (omega arith) (omega arith)) in
    s3 ∙ sym i ∙ ap (λ (m : List ℕ). splice m 0 (splice part 8 label)) s1
    ∙ splice_over out part (splice part 8 label) (sym (length_splice part 8 label (omega arith))) r
