-- Loops over a list of trees whose strings stand end to end.
use Prim.Native.Nat.{ℕ, zero, suc, ◌+◌, ◌-◌, ◌≤◌, ◌<◌}
use native.Mathlib.Numerals.{add-one}
use native.Mathlib.Omega.{arith}
use mathlib.Core.Path.{◌≡◌, refl, sym, ap, ◌∙◌}
use mathlib.Core.Bool.{Bool, true, false, ◌&&◌, and-false}
use mathlib.Core.List.{List, [], ◌∷◌}
use lib.Dec.{leb, eqb}
use lib.ListN.{length, get_or, take, drop, set, length-append, length-set}
use borrow.Author.Tests.{lt-leb, le-leb, eq-eqb, ne_eqb, leb-true, eqb-true}
use Rattle.encoding.specs.Answer.{written, count_refused, count_answer}
use Rattle.encoding.specs.Refusal.{first_failed}
use Rattle.encoding.specs.Below.{all_below, sum_below}
use Rattle.encoding.specs.Pieces.{piece, splice}
use Rattle.encoding.proofs.Below.{either, and_fst, and_snd, all_at, all_more, all_fails, sum_more, sum_mono}
use Rattle.encoding.proofs.Pieces.{splice_none, splice_cons, splice_next, length_splice}
use Rattle.leaf_shares.specs.Leaves.{max_leaves}
use Rattle.offsets.specs.Limits.{tree_count_ok}
use Rattle.std.specs.Prelude.{None, Some, IsSome}
use Rattle.std.specs.declared.option.Option.{Option}
use Rattle.encoding.specs.declared.refusal.Refusal.{Refusal}
use Rattle.encoding.specs.Refusals.{refusal_number}
use Rattle.encoding.proofs.Refusals.{number_positive}
use Rattle.refinement.specs.declared.walk.TreeLeaves.{TreeLeaves}
use Rattle.refinement.specs.Reading.{string_ok}
use Rattle.refinement.specs.Calls.{tree_leaves}
use Rattle.refinement_list.specs.Calls.{list_below, string_start, string_of, trees_ok, shapes_ok, strings_ok, count_of, counts_fit, count_list, counts_refusal, leaf_counts}
use Rattle.refinement.specs.Means.Trees.{tree_of}
use Rattle.refinement_list.specs.Means.{strings_refusal, Walkable}
use Rattle.refinement.proofs.Counts.{tree_ok, tree_none, tree_count_lem}

start_more : (lengths : List ℕ) (i : ℕ) → string_start lengths (i + 1) ≡ string_start lengths i + get_or lengths i 0
unfolding string_start
start_more lengths i = sum_more i (λ k. get_or lengths k 0)

start_mono : (lengths : List ℕ) (i j : ℕ) → i ≤ j → string_start lengths i ≤ string_start lengths j
unfolding string_start
start_mono lengths i j h = sum_mono i j (λ k. get_or lengths k 0) h

-- the lent part of the bytes is the tree's string
part_string : (lengths bits : List ℕ) (at n i : ℕ) → at ≡ string_start lengths i → n ≡ get_or lengths i 0 → take (at + n - at) (drop at bits) ≡ string_of lengths bits i
unfolding string_of piece
part_string lengths bits at n i p q = let e : at + n - at ≡ n = omega arith in rw (e, p, q)

-- ---- the survey

-- how far the survey has come
pub record Surveyed (shapes lengths bits : List ℕ) (small : Bool) (at i : ℕ) : Type 0 where
  pub within : i ≤ length shapes
  pub begins : at ≡ string_start lengths i
  pub inside : at ≤ length bits
  pub strings : all_below i (λ k. string_ok (get_or shapes k 0) (string_of lengths bits k)) ≡ true
  pub counts : small ≡ all_below i (λ k. leb (count_of shapes lengths bits k) max_leaves)

module _ (shapes lengths bits : List ℕ) where
  not-ordered : strings_ok shapes lengths bits ≡ false → 23 ≡ strings_refusal shapes lengths bits
  unfolding strings_refusal first_failed
  not-ordered e = rw e

  pub surveyed_start : Surveyed shapes lengths bits true 0 0
  unfolding all_below string_start sum_below
  surveyed_start = record { within = omega arith; begins = refl; inside = omega arith; strings = refl; counts = refl }

  module _ (small : Bool) (at i : ℕ) (v : Surveyed shapes lengths bits small at i) where
    -- a string that ends behind the bytes
    pub surveyed_short : (n : ℕ) → i < length shapes → n ≡ get_or lengths i 0 → length bits - at < n → 23 ≡ strings_refusal shapes lengths bits
    unfolding strings_ok
    surveyed_short n h q l =
        let m : string_start lengths (i + 1) ≤ string_start lengths (length shapes) = start_mono lengths (i + 1) (length shapes) (omega arith) in
        let f : eqb (string_start lengths (length shapes)) (length bits) ≡ false =
        ne_eqb (string_start lengths (length shapes)) (length bits) (λ z. omega (arith, start_more lengths i, v.begins, v.inside)) in
        not-ordered (rw f)

    -- bytes that are left
    pub surveyed_left : length shapes ≤ i → at < length bits → 23 ≡ strings_refusal shapes lengths bits
    unfolding strings_ok
    surveyed_left h l =
        let e : i ≡ length shapes = omega (arith, v.within) in
        let f : eqb (string_start lengths (length shapes)) (length bits) ≡ false =
        ne_eqb (string_start lengths (length shapes)) (length bits) (λ z. omega (arith, rw e at v.begins)) in
        not-ordered (rw f)

    pub surveyed_done : length shapes ≤ i → length bits ≤ at → (strings_ok shapes lengths bits ≡ true) × (small ≡ counts_fit shapes lengths bits)
    unfolding strings_ok counts_fit
    surveyed_done h l =
        let e : i ≡ length shapes = omega (arith, v.within) in
        let f : eqb (string_start lengths (length shapes)) (length bits) ≡ true =
        eq-eqb (string_start lengths (length shapes)) (length bits) (omega (arith, rw e at v.begins, v.inside)) in
        (rw (f, rw e at v.strings), rw e at v.counts)

    pub surveyed_large : length shapes ≤ i → length bits ≤ at → small ≡ false → 25 ≡ strings_refusal shapes lengths bits
    unfolding strings_refusal first_failed
    surveyed_large h l z = let d = surveyed_done h l in rw (d.0, ← d.1, z)

    pub surveyed_fit : length shapes ≤ i → length bits ≤ at → small ≡ true → 0 ≡ strings_refusal shapes lengths bits
    unfolding strings_refusal first_failed
    surveyed_fit h l z = let d = surveyed_done h l in rw (d.0, ← d.1, z)

    module _ (n : ℕ) (h : i < length shapes) (q : n ≡ get_or lengths i 0) where
      here : take (at + n - at) (drop at bits) ≡ string_of lengths bits i
      here = part_string lengths bits at n i v.begins q

      -- a string that isn't in order
      pub surveyed_bad : None ≡ tree_of (get_or shapes i 0) (take (at + n - at) (drop at bits)) → 23 ≡ strings_refusal shapes lengths bits
      unfolding strings_ok
      surveyed_bad t =
          let f : all_below (length shapes) (λ k. string_ok (get_or shapes k 0) (string_of lengths bits k)) ≡ false =
          all_fails (length shapes) (λ k. string_ok (get_or shapes k 0) (string_of lengths bits k)) i h (tree_none (get_or shapes i 0) (string_of lengths bits i) (rw here at t)) in
          not-ordered (rw (f, and-false))

      module _ (r : TreeLeaves) (t : Some r ≡ tree_of (get_or shapes i 0) (take (at + n - at) (drop at bits))) where
        this : Some r ≡ tree_of (get_or shapes i 0) (string_of lengths bits i)
        this = rw here at t

        surveyed-count : r.upright + r.inverted ≡ tree_leaves (get_or shapes i 0) (string_of lengths bits i) → (small && leb (r.upright + r.inverted) 16777216) ≡ all_below (i + 1) (λ k. leb (count_of shapes lengths bits k) max_leaves)
        unfolding count_of all_below
        surveyed-count z = rw (z, v.counts, add-one)

        pub surveyed_turn : n ≤ length bits - at → Surveyed shapes lengths bits (small && leb (r.upright + r.inverted) 16777216) (at + n) (i + 1)
        surveyed_turn l =
            record {
              within = omega arith;
              begins = omega (arith, start_more lengths i, v.begins);
              inside = omega (arith, v.inside);
              strings = all_more i (λ k. string_ok (get_or shapes k 0) (string_of lengths bits k)) v.strings (tree_ok (get_or shapes i 0) (string_of lengths bits i) r this);
              counts = surveyed-count (tree_count_lem (get_or shapes i 0) (string_of lengths bits i) r this);
            }

-- ---- the counts

pub below_length : (n : ℕ) (g : ℕ → ℕ) → length (list_below n g) ≡ n
unfolding list_below
below_length zero g = refl
below_length (suc n) g = length-append (list_below n g) (g n ∷ []) ∙ omega (arith, below_length n g)

set_splice : (out : List ℕ) (i x : ℕ) → i < length out → set out i x ≡ splice out i (x ∷ [])
set_splice out i x h = sym (splice_cons out i x [] h ∙ splice_none (set out i x) (suc i))

write_next : (out : List ℕ) (g : ℕ → ℕ) (i : ℕ) → i < length out → set (splice out 0 (list_below i g)) i (g i) ≡ splice out 0 (list_below (i + 1) g)
unfolding list_below
write_next out g i h =
    let l : length (list_below i g) ≡ i = below_length i g in
    let m : length (splice out 0 (list_below i g)) ≡ length out = length_splice out 0 (list_below i g) (omega arith) in
    let z : 0 + length (list_below i g) ≡ i = omega arith in
    set_splice (splice out 0 (list_below i g)) i (g i) (omega arith)
    ∙ (ap (λ (k : ℕ). splice (splice out 0 (list_below i g)) k (g i ∷ [])) (sym z) ∙ (splice_next out 0 (list_below i g) (g i ∷ []) (omega arith) ∙ rw add-one))

-- how far the writing has come
pub record Writing (shapes lengths bits out₀ out : List ℕ) (at i : ℕ) : Type 0 where
  pub within : i ≤ length shapes
  pub begins : at ≡ string_start lengths i
  pub same : length out ≡ length out₀
  pub done : out ≡ splice out₀ 0 (list_below i (count_of shapes lengths bits))

module _ (shapes lengths bits : List ℕ) (ready : Walkable shapes lengths bits) where
  -- each string lies within the bytes
  pub string_inside : (at i : ℕ) → at ≡ string_start lengths i → i < length shapes → at + get_or lengths i 0 ≤ length bits
  unfolding strings_ok
  string_inside at i b h =
      let e : string_start lengths (length shapes) ≡ length bits =
      eqb-true (string_start lengths (length shapes)) (length bits)
      (and_fst (eqb (string_start lengths (length shapes)) (length bits)) (all_below (length shapes) (λ k. string_ok (get_or shapes k 0) (string_of lengths bits k))) ready.strings) in
      omega (arith, start_more lengths i, start_mono lengths (i + 1) (length shapes) (omega arith))

  ready-string : (i : ℕ) → i < length shapes → string_ok (get_or shapes i 0) (string_of lengths bits i) ≡ true
  unfolding strings_ok
  ready-string i h =
      all_at (length shapes) (λ k. string_ok (get_or shapes k 0) (string_of lengths bits k))
      (and_snd (eqb (string_start lengths (length shapes)) (length bits)) (all_below (length shapes) (λ k. string_ok (get_or shapes k 0) (string_of lengths bits k))) ready.strings) i h

  ready-count : (i : ℕ) → i < length shapes → count_of shapes lengths bits i ≤ 16777216
  unfolding counts_fit
  ready-count i h = leb-true (count_of shapes lengths bits i) 16777216 (all_at (length shapes) (λ k. leb (count_of shapes lengths bits k) max_leaves) ready.counts i h)

  pub writing_start : (out : List ℕ) → Writing shapes lengths bits out out 0 0
  unfolding string_start sum_below list_below
  writing_start out = record { within = omega arith; begins = refl; same = refl; done = sym (splice_none out 0) }

  -- so it has leaves
  pub string_there : (at i n : ℕ) → at ≡ string_start lengths i → i < length shapes → n ≡ get_or lengths i 0
      → {o : Option TreeLeaves} → o ≡ tree_of (get_or shapes i 0) (take (at + n - at) (drop at bits)) → IsSome o
  unfolding tree_of
  string_there at i n b h q e = rw (e, part_string lengths bits at n i b q, ready-string i h)

  module _ (at i n : ℕ) (r : TreeLeaves) (b : at ≡ string_start lengths i) (h : i < length shapes) (q : n ≡ get_or lengths i 0)
      (t : Some r ≡ tree_of (get_or shapes i 0) (take (at + n - at) (drop at bits))) where
    pub written_count : r.upright + r.inverted ≡ count_of shapes lengths bits i
    unfolding count_of
    written_count = tree_count_lem (get_or shapes i 0) (string_of lengths bits i) r (rw (part_string lengths bits at n i b q) at t)

    pub written_small : r.upright + r.inverted ≤ 16777216
    written_small = omega (arith, written_count, ready-count i h)

    pub writing_turn : (out₀ out : List ℕ) → Writing shapes lengths bits out₀ out at i → length shapes ≤ length out₀ → Writing shapes lengths bits out₀ (set out i (r.upright + r.inverted)) (at + n) (i + 1)
    writing_turn out₀ out v l =
        record {
          within = omega arith;
          begins = omega (arith, start_more lengths i);
          same = length-set out i (r.upright + r.inverted) ∙ v.same;
          done = rw (v.done, written_count) (write_next out₀ (count_of shapes lengths bits) i (omega arith));
        }

  pub writing_done : (out₀ out : List ℕ) (at i : ℕ) → Writing shapes lengths bits out₀ out at i → length shapes ≤ i → out ≡ splice out₀ 0 (count_list shapes lengths bits)
  unfolding count_list
  writing_done out₀ out at i v h = let e : i ≡ length shapes = omega (arith, v.within) in v.done ∙ rw e

-- ---- the answers

module _ (shapes lengths bits : List ℕ) (to : trees_ok shapes lengths ≡ true) where
  pub trees_same : length lengths ≡ length shapes
  unfolding trees_ok
  trees_same = eqb-true (length lengths) (length shapes) (and_fst (eqb (length lengths) (length shapes)) (tree_count_ok (length shapes)) to)

  pub trees_few : length shapes ≤ 1048576
  unfolding trees_ok tree_count_ok
  trees_few =
      leb-true (length shapes) 1048576
      (and_snd (leb 1 (length shapes)) (leb (length shapes) 1048576) (and_snd (eqb (length lengths) (length shapes)) (tree_count_ok (length shapes)) to))

  pub strings_ready : 0 ≡ strings_refusal shapes lengths bits → Walkable shapes lengths bits
  unfolding strings_refusal first_failed
  strings_ready e =
      either (strings_ok shapes lengths bits)
      (λ p. either (counts_fit shapes lengths bits)
      (λ q. record { same_length = trees_same; strings = p; counts = q })
      (λ q. absurd (let z : ◌≡◌ {A = ℕ} 0 25 = rw (p, q) at e in omega arith)))
      (λ p. absurd (let z : ◌≡◌ {A = ℕ} 0 23 = rw p at e in omega arith))

-- the checks in their order
module _ (shapes lengths bits out : List ℕ) where
  pub refused_trees : trees_ok shapes lengths ≡ false → (count_refused 6, out) ≡ leaf_counts shapes lengths bits out
  unfolding leaf_counts counts_refusal count_answer written first_failed
  refused_trees h = rw h

  module _ (t : trees_ok shapes lengths ≡ true) where
    pub refused_shapes : shapes_ok shapes ≡ false → (count_refused 24, out) ≡ leaf_counts shapes lengths bits out
    unfolding leaf_counts counts_refusal count_answer written first_failed
    refused_shapes h = rw (t, h)

    module _ (h : shapes_ok shapes ≡ true) where
      pub refused_strings : (e : Refusal) → refusal_number e ≡ strings_refusal shapes lengths bits → (count_refused (refusal_number e), out) ≡ leaf_counts shapes lengths bits out
      unfolding leaf_counts counts_refusal count_answer written strings_refusal first_failed
      refused_strings e q =
          either (strings_ok shapes lengths bits)
          (λ p. either (counts_fit shapes lengths bits)
          (λ k. absurd (number_positive e (rw (p, k) at q)))
          (λ k. let z : refusal_number e ≡ 25 = rw (p, k) at q in rw (t, h, p, k, z)))
          (λ p. let z : refusal_number e ≡ 23 = rw p at q in rw (t, h, p, z))

      module _ (w : Walkable shapes lengths bits) where
        pub refused_room : length out < length shapes → (count_refused 22, out) ≡ leaf_counts shapes lengths bits out
        unfolding leaf_counts counts_refusal count_answer written first_failed
        refused_room l = rw (t, h, w.strings, w.counts, lt-leb (length shapes) (length out) l)

        pub all_counted : {last : List ℕ} → last ≡ splice out 0 (count_list shapes lengths bits) → length shapes ≤ length out
            → (record { refusal = 0; count = length shapes }, last) ≡ leaf_counts shapes lengths bits out
        unfolding leaf_counts counts_refusal count_answer written first_failed
        all_counted e l = rw (e, t, h, w.strings, w.counts, le-leb (length shapes) (length out) l)
