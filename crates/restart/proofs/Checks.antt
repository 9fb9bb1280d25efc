-- The checks of the calls, in their order.
use Prim.Native.Nat.{ℕ, ◌+◌, ◌≤◌, ◌<◌}
use mathlib.Core.Path.{◌≡◌, refl, sym, ◌∙◌}
use mathlib.Core.Bool.{Bool, true, false, cond, ◌&&◌}
use mathlib.Core.List.{List}
use lib.Dec.{ltb, eqb}
use native.Mathlib.Omega.{arith}
use borrow.Author.Tests.{lt-ltb, le-ltb, ltb-true}
use Rattle.encoding.specs.Below.{all_below}
use Rattle.encoding.specs.Refusal.{first_failed}
use Rattle.encoding.proofs.Below.{and_fst, and_snd, all_at, either, all_intro, all_more, all_fails}
use Rattle.offsets.specs.Limits.{rank_count_ok}
use Rattle.offsets.specs.Table.{ranks, ranks_ok, valid, tree_count}
use Rattle.mesh.specs.Mesh.{dimension_ok}
use Rattle.part.specs.Checks.{rank_checks}
use Rattle.part.specs.Means.{RankKnown}
use Rattle.part.specs.Part.{part_sound}
use Rattle.part.proofs.Checks.{three_fail, rank_known}
use Rattle.restart.specs.Restart.{in_or_empty, left_out_empty, same_trees}
use Rattle.restart.specs.Calls.{pad_checks, empty_checks, pair_checks, relabel_checks}
use Rattle.restart.specs.Means.{ValidTable}
use Rattle.restart.proofs.Answers.{numbered, all_pass, first_fails, none_fails, rest_decides}

-- two tests that pass
pub both : {a b x y : Bool} → a ≡ x → b ≡ y → (a && b) ≡ true → (x ≡ true) × (y ≡ true)
both {a} {b} p q h = (sym p ∙ and_fst a b h, sym q ∙ and_snd a b h)

-- ---- a table of n ranks

module _ (t : List ℕ) (n : ℕ) where
  -- the ranks that are left in
  pub out_start : (p : ℕ) → p ≤ n → all_below p (in_or_empty t n) ≡ true
  unfolding in_or_empty
  out_start p l = all_intro p (in_or_empty t n) (λ q h. rw (lt-ltb q n (omega arith)))

  pub out_more : (p : ℕ) {b : Bool} → all_below p (in_or_empty t n) ≡ true → b ≡ eqb (tree_count t p) 0 → b ≡ true → all_below (p + 1) (in_or_empty t n) ≡ true
  unfolding in_or_empty
  out_more p a e h = all_more p (in_or_empty t n) a (either (ltb p n) (λ q. rw q) (λ q. rw (q, ← e) h))

  module _ {P : ℕ} (is_p : P ≡ ranks t) where
    pub out_stop : {p : ℕ} {b : Bool} → n ≤ p → p < P → b ≡ eqb (tree_count t p) 0 → b ≡ false → false ≡ left_out_empty t n
    unfolding left_out_empty in_or_empty
    out_stop {p} m l e h = rw (← is_p) (sym (all_fails P (in_or_empty t n) p l (rw (le-ltb p n m, ← e) h)))

    pub out_done : {p : ℕ} → P ≤ p → all_below p (in_or_empty t n) ≡ true → true ≡ left_out_empty t n
    unfolding left_out_empty
    out_done {p} h a = rw (← is_p) (sym (all_intro P (in_or_empty t n) (λ q l. all_at p (in_or_empty t n) a q (omega arith))))

  pub pad_numbered : numbered (pad_checks t n) ≡ true
  unfolding pad_checks numbered
  pad_numbered = refl

  -- what is known where none fails
  pub record PadKnown : Type 0 where
    pub is_table : ValidTable t
    pub ranks_fit : rank_count_ok n ≡ true
    pub left_empty : left_out_empty t n ≡ true

  pub pad_known : first_failed (pad_checks t n) ≡ 0 → PadKnown
  unfolding pad_checks all_pass
  pad_known e =
      let a = none_fails (pad_checks t n) pad_numbered e in
      let b = and_fst (ranks_ok t && rank_count_ok n) _ a in
      let d = and_snd (ranks_ok t && rank_count_ok n) (valid t && (left_out_empty t n && true)) a in
      record {
        is_table = record { counted = and_fst (ranks_ok t) (rank_count_ok n) b; checked = and_fst (valid t) _ d };
        ranks_fit = and_snd (ranks_ok t) (rank_count_ok n) b;
        left_empty = and_fst (left_out_empty t n) true (and_snd (valid t) (left_out_empty t n && true) d);
      }

-- ---- a part without trees

module _ (t : List ℕ) (p dimension : ℕ) where
  pub empty_numbered : numbered (empty_checks t p dimension) ≡ true
  unfolding empty_checks numbered
  empty_numbered = refl

  module _ {r : ℕ} (checked : r ≡ first_failed (rank_checks t p)) where
    pub empty_rank : (r ≡ 0 → ⊥) → r ≡ first_failed (empty_checks t p dimension)
    unfolding empty_checks first_failed rank_checks
    empty_rank h =
        three_fail (ranks_ok t) (valid t) (ltb p (ranks t)) (ltb p (ranks t) && dimension_ok dimension) (cond (eqb (tree_count t p) 0) 0 64) (λ e. rw e) checked h

    module _ (ok : r ≡ 0) where
      k : RankKnown t p
      k = rank_known t p checked ok

      pub empty_dimension : {d : Bool} → d ≡ dimension_ok dimension → d ≡ false → 5 ≡ first_failed (empty_checks t p dimension)
      unfolding empty_checks first_failed
      empty_dimension e h = rw (k.counted, k.checked, lt-ltb p (ranks t) k.below, ← e, h)

      pub empty_last : {d b : Bool} → d ≡ dimension_ok dimension → d ≡ true → b ≡ eqb (tree_count t p) 0 → cond b 0 64 ≡ first_failed (empty_checks t p dimension)
      unfolding empty_checks first_failed
      empty_last e h f = rw (k.counted, k.checked, lt-ltb p (ranks t) k.below, ← e, h, f)

  -- what is known where none fails
  pub record EmptyKnown : Type 0 where
    pub rank_is : RankKnown t p
    pub dimension_fits : dimension_ok dimension ≡ true
    pub no_trees : eqb (tree_count t p) 0 ≡ true

  pub empty_known : first_failed (empty_checks t p dimension) ≡ 0 → EmptyKnown
  unfolding empty_checks all_pass
  empty_known e =
      let five : Bool = ltb p (ranks t) && dimension_ok dimension in
      let last : Bool = eqb (tree_count t p) 0 in
      let a = none_fails (empty_checks t p dimension) empty_numbered e in
      let b = and_snd (ranks_ok t) (valid t && (five && (last && true))) a in
      let d = and_snd (valid t) (five && (last && true)) b in
      let f = and_fst five (last && true) d in
      record {
        rank_is = record { counted = and_fst (ranks_ok t) _ a; checked = and_fst (valid t) _ b; below = ltb-true p (ranks t) (and_fst (ltb p (ranks t)) (dimension_ok dimension) f) };
        dimension_fits = and_snd (ltb p (ranks t)) (dimension_ok dimension) f;
        no_trees = and_fst last true (and_snd five (last && true) d);
      }

-- ---- a part under another table and rank

module _ (t : List ℕ) (p : ℕ) (o : List ℕ) (q : ℕ) where
  pair-numbered : numbered (pair_checks t p o q) ≡ true
  unfolding pair_checks numbered
  pair-numbered = refl

  pub record PairKnown : Type 0 where
    pub rank_is : RankKnown t p
    pub other_is : RankKnown o q

  pub pair_known : first_failed (pair_checks t p o q) ≡ 0 → PairKnown
  unfolding pair_checks all_pass
  pair_known e =
      let two : Bool = ranks_ok t && ranks_ok o in
      let three : Bool = valid t && valid o in
      let five : Bool = ltb p (ranks t) && ltb q (ranks o) in
      let a = none_fails (pair_checks t p o q) pair-numbered e in
      let x = and_fst two (three && (five && true)) a in
      let b = and_snd two (three && (five && true)) a in
      let y = and_fst three (five && true) b in
      let z = and_fst five true (and_snd three (five && true) b) in
      record {
        rank_is = record { counted = and_fst (ranks_ok t) (ranks_ok o) x; checked = and_fst (valid t) (valid o) y; below = ltb-true p (ranks t) (and_fst (ltb p (ranks t)) (ltb q (ranks o)) z) };
        other_is = record { counted = and_snd (ranks_ok t) (ranks_ok o) x; checked = and_snd (valid t) (valid o) y; below = ltb-true q (ranks o) (and_snd (ltb p (ranks t)) (ltb q (ranks o)) z) };
      }

  module _ (part : List ℕ) where
    pub relabel_numbered : numbered (relabel_checks part t p o q) ≡ true
    unfolding relabel_checks pair_checks numbered
    relabel_numbered = refl

    module _ {r : ℕ} (checked : r ≡ first_failed (pair_checks t p o q)) where
      pub relabel_pair : (r ≡ 0 → ⊥) → r ≡ first_failed (relabel_checks part t p o q)
      unfolding relabel_checks
      relabel_pair h = checked ∙ first_fails (pair_checks t p o q) _ (λ z. h (checked ∙ z))

      module _ (ok : r ≡ 0) where
        rest : first_failed (relabel_checks part t p o q) ≡ cond (part_sound part t p) (cond (same_trees t p o q) 0 65) 8
        unfolding relabel_checks first_failed
        rest = rest_decides (pair_checks t p o q) _ (none_fails (pair_checks t p o q) pair-numbered (sym checked ∙ ok))

        pub relabel_part_fails : {s : Bool} → s ≡ part_sound part t p → s ≡ false → 8 ≡ first_failed (relabel_checks part t p o q)
        relabel_part_fails e h = rw (rest, ← e, h)

        pub relabel_last : {s b : Bool} → s ≡ part_sound part t p → s ≡ true → b ≡ same_trees t p o q → cond b 0 65 ≡ first_failed (relabel_checks part t p o q)
        relabel_last e h f = rw (rest, ← e, h, f)

    -- what is known where none fails
    pub record RelabelKnown : Type 0 where
      pub pair_is : PairKnown
      pub is_sound : part_sound part t p ≡ true
      pub same_range : same_trees t p o q ≡ true

    pub relabel_known : first_failed (relabel_checks part t p o q) ≡ 0 → RelabelKnown
    unfolding relabel_checks pair_checks all_pass
    relabel_known e =
        let two : Bool = ranks_ok t && ranks_ok o in
        let three : Bool = valid t && valid o in
        let five : Bool = ltb p (ranks t) && ltb q (ranks o) in
        let eight : Bool = part_sound part t p in
        let last : Bool = same_trees t p o q in
        let a = none_fails (relabel_checks part t p o q) relabel_numbered e in
        let x = and_fst two (three && (five && (eight && (last && true)))) a in
        let b = and_snd two (three && (five && (eight && (last && true)))) a in
        let y = and_fst three (five && (eight && (last && true))) b in
        let d = and_snd three (five && (eight && (last && true))) b in
        let z = and_fst five (eight && (last && true)) d in
        let w = and_snd five (eight && (last && true)) d in
        record {
          pair_is =
              record {
                rank_is = record { counted = and_fst (ranks_ok t) (ranks_ok o) x; checked = and_fst (valid t) (valid o) y; below = ltb-true p (ranks t) (and_fst (ltb p (ranks t)) (ltb q (ranks o)) z) };
                other_is = record { counted = and_snd (ranks_ok t) (ranks_ok o) x; checked = and_snd (valid t) (valid o) y; below = ltb-true q (ranks o) (and_snd (ltb p (ranks t)) (ltb q (ranks o)) z) };
              };
          is_sound = and_fst eight (last && true) w;
          same_range = and_fst last true (and_snd eight (last && true) w);
        }
