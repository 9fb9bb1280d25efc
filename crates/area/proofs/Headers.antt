-- Laws of the header of an area and of the tables in it.
use Prim.Native.Nat.{ℕ, ◌+◌, ◌-◌, ◌*◌, ◌≤◌, ◌<◌}
use native.Mathlib.Omega.{arith}
use mathlib.Core.Path.{◌≡◌, refl, sym, ap, ap₂, ◌∙◌}
use mathlib.Core.Bool.{Bool, true, false, ◌&&◌}
use mathlib.Core.List.{List}
use lib.Dec.{leb, ltb, eqb}
use lib.ListN.{length, take, drop}
use borrow.Author.Tests.{ltb-true, leb-true, leb-false, eqb-true, le-leb, lt-leb, eq-eqb}
use Rattle.encoding.specs.Numbers.{u32_at}
use Rattle.encoding.specs.Pieces.{piece, Bytes}
use Rattle.encoding.proofs.Below.{either, and_fst, and_snd}
use Rattle.encoding.proofs.Pieces.{piece_length, bytes_piece}
use Rattle.offsets.specs.Limits.{max_ranks, rank_count_ok}
use Rattle.offsets.specs.Table.{ranks, ranks_ok, valid, trees, tree_count}
use Rattle.offsets.proofs.Tables.{ranks_within}
use Rattle.records.specs.Record.{core_size, tree_size}
use Rattle.mesh.specs.Mesh.{dimension_ok}
use Rattle.area.specs.Layout.{heard_words, new_place, words_place, slots_place, ghost_slots_place, area_size}
use Rattle.area.specs.Area.{area_dimension, area_k, area_p, area_rank, area_count, area_old, area_new, area_bound, area_header_sound}
use Rattle.area.specs.Means.{tables_end, words_end, RankIn, TablesRoom, SizedArea, tables_fit, HeaderHolds, Tabled}
use Rattle.area.proofs.Ranges.{range_fits_lem, count_high_lem}

-- ---- a table in a buffer

module _ (a : List ℕ) (off P : ℕ) (ok : rank_count_ok P ≡ true) (fits : off + 8 * (P + 1) ≤ length a) where
  table_ranks : ranks (piece a off (8 * (P + 1))) ≡ P
  unfolding ranks
  table_ranks = rw (piece_length a off (8 * (P + 1)) fits) (omega arith)

  table-ok : ranks_ok (piece a off (8 * (P + 1))) ≡ true
  unfolding ranks_ok
  table-ok = rw (table_ranks, piece_length a off (8 * (P + 1)) fits, eq-eqb (8 * (P + 1)) (8 * (P + 1)) refl) ok

-- ---- how long an area is

-- up to 1,024 ranks there are 16 words of heard senders
pub few_words : (P : ℕ) → P ≤ 1024 → heard_words P ≡ 16
unfolding heard_words
few_words P h = rw (le-leb P 1024 h)

-- above there are 256
pub many_words : (P : ℕ) → 1024 < P → heard_words P ≡ 256
unfolding heard_words
many_words P h = rw (lt-leb P 1024 h)

-- the words have a bit for each rank
pub words_enough_lem : (P : ℕ) → P ≤ max_ranks → P ≤ 64 * heard_words P
words_enough_lem P h =
    either (leb P 1024)
    (λ e. let l : P ≤ 1024 = leb-true P 1024 e in omega (arith, few_words P l))
    (λ e. let l : 1024 < P = leb-false P 1024 e in omega (arith, many_words P l))

-- and there are at most 256
pub word_below : (P w : ℕ) → w < heard_words P → w < 256
word_below P w h =
    either (leb P 1024)
    (λ e. omega (arith, few_words P (leb-true P 1024 e)))
    (λ e. omega (arith, many_words P (leb-false P 1024 e)))

pub words_place_is : (P : ℕ) → words_place P ≡ tables_end P
unfolding words_place new_place
words_place_is P = omega arith

pub slots_place_is : (P : ℕ) → slots_place P ≡ words_end P
unfolding slots_place
slots_place_is P = omega (arith, words_place_is P)

pub ghosts_place_is : (P n : ℕ) → ghost_slots_place P n ≡ words_end P + tree_size * n
unfolding ghost_slots_place
ghosts_place_is P n = omega (arith, slots_place_is P)

pub size_low : (dimension P n : ℕ) → words_end P + tree_size * n ≤ area_size dimension P n
unfolding area_size
size_low dimension P n = omega (arith, ghosts_place_is P n)

-- its zones are in the buffer
pub size_long : (a : List ℕ) → area_size (area_dimension a) (area_p a) (area_count a) ≤ length a → words_end (area_p a) + tree_size * area_count a + core_size * area_bound a ≤ length a
unfolding area_size area_bound
size_long a h = omega (arith, ghosts_place_is (area_p a) (area_count a))

-- ---- the tables, lent as parts of the area

module _ (a : List ℕ) {P middle end : ℕ} (is_p : P ≡ area_p a) (is-middle : middle ≡ new_place P) (is_end : end ≡ words_place P) where
  pub tables_lent : (take (middle - 32) (drop 32 a) ≡ area_old a) × (take (end - middle) (drop middle a) ≡ area_new a)
  unfolding area_old area_new piece new_place words_place
  tables_lent =
      let e : middle - 32 ≡ 8 * (area_p a + 1) = omega arith in
      let n : end - middle ≡ 8 * (area_p a + 1) = omega arith in
      let d : middle ≡ 32 + 8 * (area_p a + 1) = omega arith in
      (ap (λ (m : ℕ). take m (drop 32 a)) e, ap₂ (λ (m o : ℕ). take m (drop o a)) n d)

pub tables_room : {a : List ℕ} → HeaderHolds a → TablesRoom a
tables_room h = record { few = h.ranks_high; tables_long = omega (arith, h.long) }

pub tabled : {a old new : List ℕ} → (old ≡ area_old a) × (new ≡ area_new a) → HeaderHolds a → Tabled a old new
tabled t h = record { header = h; is_old = t.0; is_new = t.1 }

module _ (a : List ℕ) {P : ℕ} (is_p : P ≡ area_p a) where
  pub sized_room : (d n : ℕ) {size : ℕ} {b : Bool} → b ≡ rank_count_ok P → b ≡ true → size ≡ area_size d P n → size ≤ length a → TablesRoom a
  sized_room d n r ok s h = record { few = omega (arith, ranks_within P (sym r ∙ ok)); tables_long = omega (arith, size_low d P n, ap words_end is_p) }

  pub sized_area : {dimension n size : ℕ} {b : Bool} {old new : List ℕ} → (old ≡ area_old a) × (new ≡ area_new a) → dimension ≡ area_dimension a → n ≡ area_count a → b ≡ rank_count_ok P → b ≡ true → size ≡ area_size dimension P n → size ≤ length a
      → SizedArea a old new
  sized_area t d m r ok s h = record { ranks_fit = rw (← is_p) (sym r ∙ ok); long = rw (← d, ← is_p, ← m, ← s) h; is_old = t.0; is_new = t.1 }

module _ {a old new : List ℕ} (s : SizedArea a old new) where
  pub sized_long : words_end (area_p a) + tree_size * area_count a + core_size * area_bound a ≤ length a
  sized_long = size_long a s.long

  pub sized_old : (ranks old ≡ area_p a) × (ranks_ok old ≡ true)
  unfolding area_old
  sized_old = let h : 32 + 8 * (area_p a + 1) ≤ length a = omega (arith, sized_long) in rw s.is_old (table_ranks a 32 (area_p a) s.ranks_fit h, table-ok a 32 (area_p a) s.ranks_fit h)

  pub sized_new : (ranks new ≡ area_p a) × (ranks_ok new ≡ true)
  unfolding area_new new_place
  sized_new =
      let h : 32 + 8 * (area_p a + 1) + 8 * (area_p a + 1) ≤ length a = omega (arith, sized_long) in
      rw s.is_new (table_ranks a (32 + 8 * (area_p a + 1)) (area_p a) s.ranks_fit h, table-ok a (32 + 8 * (area_p a + 1)) (area_p a) s.ranks_fit h)

  pub fit_read : {k tO tN rank P : ℕ} {vO vN : Bool} → k ≡ area_k a → vO ≡ valid old → vN ≡ valid new → tO ≡ trees old → tN ≡ trees new → rank ≡ area_rank a → P ≡ area_p a
      → (vO && vN && eqb tO k && eqb tN k && ltb rank P) ≡ tables_fit a
  unfolding tables_fit
  fit_read e1 e2 e3 e4 e5 e6 e7 = rw (e2, e3, e4, e5, e1, e6, e7, s.is_old, s.is_new)

  -- the rank of an area whose tables fit
  pub fit_rank : {rank : ℕ} → rank ≡ area_rank a → tables_fit a ≡ true → RankIn new rank
  unfolding tables_fit
  fit_rank e t =
      let v : (valid (area_old a) && valid (area_new a)) ≡ true = and_fst _ _ (and_fst _ _ (and_fst _ _ t)) in
      let l : area_rank a < area_p a =
      ltb-true (area_rank a) (area_p a) (and_snd (valid (area_old a) && valid (area_new a) && eqb (trees (area_old a)) (area_k a) && eqb (trees (area_new a)) (area_k a)) (ltb (area_rank a) (area_p a)) t) in
      record { ranks_fit = sized_new.1; is_valid = rw s.is_new (and_snd (valid (area_old a)) (valid (area_new a)) v); rank_below = omega (arith, sized_new.0) }

-- ---- the header's tests in the order of the code

regroup : (A vO vN tO tN l c z : Bool) → (A && vO && vN && tO && tN && l && c && z) ≡ (A && ((vO && vN && tO && tN && l) && c && z))
regroup true vO vN tO tN l c z = refl
regroup false vO vN tO tN l c z = refl

module _ (a : List ℕ) where
  abbrev sizes : Bool
  sizes = leb 32 (length a) && dimension_ok (area_dimension a) && rank_count_ok (area_p a) && leb (area_size (area_dimension a) (area_p a) (area_count a)) (length a)

  abbrev rest : Bool
  rest = tables_fit a && eqb (area_count a) (tree_count (area_new a) (area_rank a)) && eqb (u32_at a 28) 0

  header_is : area_header_sound a ≡ (sizes && rest)
  unfolding area_header_sound tables_fit
  header_is =
      regroup sizes (valid (area_old a)) (valid (area_new a)) (eqb (trees (area_old a)) (area_k a)) (eqb (trees (area_new a)) (area_k a)) (ltb (area_rank a) (area_p a)) (eqb (area_count a) (tree_count (area_new a) (area_rank a))) (eqb (u32_at a 28) 0)

  pub header_short : length a < 32 → false ≡ area_header_sound a
  header_short h = rw (header_is, lt-leb 32 (length a) h)

  module _ (h : 32 ≤ length a) {dimension : ℕ} (is-d : dimension ≡ area_dimension a) {b : Bool} (is_b : b ≡ dimension_ok dimension) where
    pub header_dimension : b ≡ false → false ≡ area_header_sound a
    header_dimension f = rw (header_is, le-leb 32 (length a) h, ← is-d, ← is_b, f)

    module _ (ok-b : b ≡ true) {P : ℕ} (is_p : P ≡ area_p a) {r : Bool} (is-r : r ≡ rank_count_ok P) where
      pub header_ranks : r ≡ false → false ≡ area_header_sound a
      header_ranks f = rw (header_is, le-leb 32 (length a) h, ← is-d, ← is_b, ok-b, ← is_p, ← is-r, f)

      module _ (ok-r : r ≡ true) {d n size : ℕ} (is-d2 : d ≡ area_dimension a) (is_n : n ≡ area_count a) (is-size : size ≡ area_size d P n) where
        dimension-passes : dimension_ok (area_dimension a) ≡ true
        dimension-passes = rw (← is-d) (sym is_b ∙ ok-b)

        ranks_pass : rank_count_ok (area_p a) ≡ true
        ranks_pass = rw (← is_p) (sym is-r ∙ ok-r)

        size_is : area_size (area_dimension a) (area_p a) (area_count a) ≡ size
        size_is = rw (← is-d2, ← is_p, ← is_n) (sym is-size)

        pub header_size : length a < size → false ≡ area_header_sound a
        header_size f = rw (header_is, le-leb 32 (length a) h, dimension-passes, ranks_pass, size_is, lt-leb size (length a) f)

        module _ (long : size ≤ length a) {t : Bool} (is-t : t ≡ tables_fit a) where
          header-rest : area_header_sound a ≡ rest
          header-rest = rw (header_is, le-leb 32 (length a) h, dimension-passes, ranks_pass, size_is, le-leb size (length a) long)

          pub header_tables : t ≡ false → false ≡ area_header_sound a
          header_tables f = rw (header-rest, ← is-t, f)

          pub header_read : t ≡ true → {new : List ℕ} {rank m c w : ℕ} → new ≡ area_new a → rank ≡ area_rank a → m ≡ area_count a → c ≡ tree_count new rank → w ≡ u32_at a 28 → (eqb m c && eqb w 0) ≡ area_header_sound a
          header_read ok-t e1 e2 e3 e4 e5 = rw (header-rest, ← is-t, ok-t, e4, e3, e5, e1, e2)

  -- what a sound header tells
  pub header_holds : Bytes a → area_header_sound a ≡ true → HeaderHolds a
  unfolding tables_fit area_old area_new
  header_holds b e =
      let both : (sizes && rest) ≡ true = sym header_is ∙ e in
      let s : sizes ≡ true = and_fst sizes rest both in
      let r : rest ≡ true = and_snd sizes rest both in
      let t : tables_fit a ≡ true = and_fst _ _ (and_fst _ _ r) in
      let c : area_count a ≡ tree_count (area_new a) (area_rank a) = eqb-true _ _ (and_snd (tables_fit a) _ (and_fst _ _ r)) in
      let p : rank_count_ok (area_p a) ≡ true = and_snd (leb 32 (length a) && dimension_ok (area_dimension a)) (rank_count_ok (area_p a)) (and_fst _ _ s) in
      let l : area_size (area_dimension a) (area_p a) (area_count a) ≤ length a =
      leb-true _ _ (and_snd (leb 32 (length a) && dimension_ok (area_dimension a) && rank_count_ok (area_p a)) (leb (area_size (area_dimension a) (area_p a) (area_count a)) (length a)) s) in
      let sized : SizedArea a (area_old a) (area_new a) = record { ranks_fit = p; long = l; is_old = refl; is_new = refl } in
      let v2 : (valid (area_old a) && valid (area_new a)) ≡ true = and_fst _ _ (and_fst _ _ (and_fst _ _ t)) in
      let tO : trees (area_old a) ≡ area_k a = eqb-true _ _ (and_snd (valid (area_old a) && valid (area_new a)) (eqb (trees (area_old a)) (area_k a)) (and_fst _ _ (and_fst _ _ t))) in
      let tN : trees (area_new a) ≡ area_k a =
      eqb-true _ _ (and_snd (valid (area_old a) && valid (area_new a) && eqb (trees (area_old a)) (area_k a)) (eqb (trees (area_new a)) (area_k a)) (and_fst _ _ t)) in
      let f : RankIn (area_new a) (area_rank a) = fit_rank sized refl t in
      let bN : Bytes (area_new a) = bytes_piece a _ _ b in
      record {
        tables = record {
          old_bytes = bytes_piece a _ _ b;
          new_bytes = bN;
          old_ranks = (sized_old sized).1;
          new_ranks = (sized_new sized).1;
          old_valid = and_fst (valid (area_old a)) (valid (area_new a)) v2;
          new_valid = and_snd (valid (area_old a)) (valid (area_new a)) v2;
          same_ranks = (sized_new sized).0 ∙ sym (sized_old sized).0;
          same_trees = tN ∙ sym tO;
        };
        ranks_are = (sized_old sized).0;
        trees_are = tO;
        rank_below = omega (arith, f.rank_below, (sized_new sized).0);
        count_is = c;
        ranks_high = (ranks_within (area_p a) p).1;
        count_high = rw c (count_high_lem (range_fits_lem (area_new a) (area_rank a) bN f));
        words_enough = words_enough_lem (area_p a) (ranks_within (area_p a) p).1;
        long = sized_long sized;
      }
