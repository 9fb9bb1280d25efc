-- Laws of opening an area: its checks, its length, and what is written.
use Prim.Native.Nat.{ℕ, zero, suc, ◌+◌, ◌-◌, ◌*◌, ◌≤◌, ◌<◌}
use native.Mathlib.Omega.{arith}
use mathlib.Core.Path.{◌≡◌, refl, sym, ap, ap₂, ◌∙◌}
use mathlib.Core.Bool.{Bool, true, false, cond, ◌&&◌}
use mathlib.Core.List.{List, [], ◌∷◌, ◌++◌, append_assoc}
use lib.Dec.{leb, ltb, eqb}
use borrow.Rule.Slice.PartMut.{put_mid}
use lib.ListN.{length, take, drop, replicate, length-take, length-drop, length-append, length-replicate, replicate-append-replicate}
use borrow.Author.Tests.{ltb-true, eqb-true, lt-ltb, le-ltb, le-leb, lt-leb, eq-eqb, ne_eqb}
use Rattle.encoding.specs.Answer.{length_refused, length_answer, written, write_answer}
use Rattle.encoding.specs.Header.{eight_bytes}
use Rattle.encoding.specs.Numbers.{le_bytes}
use Rattle.encoding.specs.Pieces.{splice, Bytes}
use Rattle.encoding.specs.Refusal.{Check, check, first_failed}
use Rattle.encoding.proofs.Below.{either, clash, and_fst, sum_none}
use Rattle.encoding.proofs.Numbers.{bytes_length}
use Rattle.encoding.proofs.Pieces.{splice_then}
use Rattle.offsets.specs.Table.{ranks, trees, tree_count}
use Rattle.offsets.proofs.OnePass.{ranks_known}
use Rattle.pattern.specs.Calls.{table_checks}
use Rattle.pattern.specs.Sender.{Tables}
use Rattle.pattern.proofs.Answers.{tables_agree}
use Rattle.records.specs.Record.{core_size, tree_size}
use Rattle.records.specs.Shape.{faces_in}
use Rattle.mesh.specs.Mesh.{dimension_ok}
use Rattle.area.specs.Layout.{heard_words, ghost_bound, new_place, words_place, slots_place, ghost_slots_place, area_size, area_header_bytes, word_of, words_of, slots_of, area_with}
use Rattle.area.specs.Open.{fresh_area}
use Rattle.area_open.specs.Calls.{open_checks, area_length_of, open_area_of}
use Rattle.area.specs.Means.{tables_end, RankIn}
use Rattle.area_open.specs.Means.{AreaRoom}
use Rattle.area.proofs.Copying.{part_written, part_length}

-- ---- lists of checks

-- every check of the list has a number of document 01's
pub IsNumbered : List Check → Type 0
IsNumbered [] = Unit {0}
IsNumbered (c ∷ cs) = (0 < c.number) × IsNumbered cs

-- the checks behind others count where those pass
pub checks_then : (xs ys : List Check) → IsNumbered xs → first_failed (xs ++ ys) ≡ cond (eqb (first_failed xs) 0) (first_failed ys) (first_failed xs)
unfolding first_failed IsNumbered
checks_then [] ys n = refl
checks_then (c ∷ cs) ys n =
    either c.passes (λ t. rw t (checks_then cs ys n.1)) (λ t. rw (t, ne_eqb c.number 0 (λ z. omega (arith, n.0))))

pub one_check : (b : Bool) (n : ℕ) → first_failed (check b n ∷ []) ≡ cond b 0 n
unfolding first_failed
one_check b n = refl

passes : (b : Bool) (r n : ℕ) → cond (eqb r 0) (cond b 0 (suc n)) r ≡ 0 → (r ≡ 0) × (b ≡ true)
passes b r n e =
    either (eqb r 0)
    (λ z. (eqb-true r 0 z, either b (λ t. t) (λ t. absurd (omega (arith, rw (z, t) at e)))))
    (λ z. clash (eq-eqb r 0 (rw z at e)) z)

-- ---- a rank's trees

-- a rank of two tables is one of the new table
pub rank_in : {old new : List ℕ} {p : ℕ} → Tables old new → p < ranks old → RankIn new p
rank_in T h = record { ranks_fit = T.new_ranks; is_valid = T.new_valid; rank_below = omega (arith, T.same_ranks) }

-- ---- the tables

module _ {old new : List ℕ} (T : Tables old new) where
  old-long : length old ≡ 8 * (ranks old + 1)
  old-long = (ranks_known old T.old_ranks).size

  new-long : length new ≡ 8 * (ranks old + 1)
  new-long = (ranks_known new T.new_ranks).size ∙ ap (λ (P : ℕ). 8 * (P + 1)) T.same_ranks

-- what is written is in the buffer
pub record OpenFits (old new out : List ℕ) (P size : ℕ) : Type 0 where
  pub old_long : length old ≡ 8 * (P + 1)
  pub new_long : length new ≡ 8 * (P + 1)
  pub zones : tables_end P ≤ size
  pub room : size ≤ length out

pub open_fits : {old new out : List ℕ} {rank dimension P n size : ℕ} → AreaRoom old new rank dimension out → P ≡ ranks old → n ≡ tree_count new rank → size ≡ area_size dimension P n → OpenFits old new out P size
unfolding area_size ghost_slots_place slots_place words_place new_place
open_fits f p m s =
    record { old_long = rw p (old-long f.tables); new_long = rw p (new-long f.tables); zones = omega arith; room = rw (s, p, m) f.room }

-- the writes behind the header: both tables, and zeros
module _ (o : List ℕ) {old new out p : List ℕ} {P size middle from : ℕ} (f : OpenFits old new out P size) (m : middle ≡ 32 + 8 * (P + 1)) (e : from ≡ tables_end P) (same : length o ≡ length out) (is_p : p ≡ old) where
  pub old_put : put_mid 32 (middle - 32) o p ≡ splice o 32 old
  old_put = part_written o 32 (middle - 32) is_p (omega (arith, f.old_long))

  pub old_put_length : length (put_mid 32 (middle - 32) o p) ≡ length out
  old_put_length = part_length o 32 (middle - 32) is_p (omega (arith, f.old_long)) (omega (arith, f.zones, f.room)) ∙ same

  module _ {q : List ℕ} (is_q : q ≡ new) where
    pub new_put : put_mid middle (from - middle) (put_mid 32 (middle - 32) o p) q ≡ splice (put_mid 32 (middle - 32) o p) middle new
    new_put = part_written (put_mid 32 (middle - 32) o p) middle (from - middle) is_q (omega (arith, f.new_long))

    pub new_put_length : length (put_mid middle (from - middle) (put_mid 32 (middle - 32) o p) q) ≡ length out
    new_put_length =
        part_length (put_mid 32 (middle - 32) o p) middle (from - middle) is_q (omega (arith, f.new_long)) (omega (arith, f.zones, f.room, old_put_length))
        ∙ old_put_length

    pub zeros_put : {z : List ℕ} → z ≡ replicate (length (take (size - from) (drop from (put_mid middle (from - middle) (put_mid 32 (middle - 32) o p) q)))) 0
        → put_mid from (size - from) (put_mid middle (from - middle) (put_mid 32 (middle - 32) o p) q) z ≡ splice (put_mid middle (from - middle) (put_mid 32 (middle - 32) o p) q) from (replicate (size - from) 0)
    zeros_put r =
        let w : List ℕ = put_mid middle (from - middle) (put_mid 32 (middle - 32) o p) q in
        let l : length (take (size - from) (drop from w)) ≡ size - from = rw (length-take, length-drop, new_put_length) (omega (arith, f.zones, f.room)) in
        part_written w from (size - from) (r ∙ ap (λ (n : ℕ). replicate n 0) l) (length-replicate _ _)

-- ---- the checks

tables_numbered : (old new : List ℕ) → IsNumbered (table_checks old new)
unfolding IsNumbered table_checks
tables_numbered old new = (omega arith, (omega arith, (omega arith, tt)))

module _ (old new : List ℕ) (rank dimension : ℕ) where
  pub open_numbered : IsNumbered (open_checks old new rank dimension)
  unfolding IsNumbered open_checks table_checks
  open_numbered = (omega arith, (omega arith, (omega arith, (omega arith, tt))))

  open-checked : first_failed (open_checks old new rank dimension) ≡ cond (eqb (first_failed (table_checks old new)) 0) (cond (ltb rank (ranks old) && dimension_ok dimension) 0 5) (first_failed (table_checks old new))
  unfolding open_checks
  open-checked = checks_then (table_checks old new) _ (tables_numbered old new) ∙ rw (one_check (ltb rank (ranks old) && dimension_ok dimension) 5)

  module _ {r : ℕ} (tables : r ≡ first_failed (table_checks old new)) where
    pub fails_tables : (r ≡ 0 → ⊥) → r ≡ first_failed (open_checks old new rank dimension)
    fails_tables h = rw (open-checked, ← tables, ne_eqb r 0 h)

    module _ (ok : r ≡ 0) {P : ℕ} (is_p : P ≡ ranks old) where
      pub fails_rank : P ≤ rank → 5 ≡ first_failed (open_checks old new rank dimension)
      fails_rank h = rw (open-checked, ← tables, ok, ← is_p, le-ltb rank P h)

      module _ (below : rank < P) {d : Bool} (is-d : d ≡ dimension_ok dimension) where
        pub fails_dimension : d ≡ false → 5 ≡ first_failed (open_checks old new rank dimension)
        fails_dimension h = rw (open-checked, ← tables, ok, ← is_p, lt-ltb rank P below, ← is-d, h)

        pub none_fails : d ≡ true → 0 ≡ first_failed (open_checks old new rank dimension)
        none_fails h = rw (open-checked, ← tables, ok, ← is_p, lt-ltb rank P below, ← is-d, h)

  -- what holds where no check fails
  pub record Openable : Type 0 where
    pub tables : Tables old new
    pub rank_below : rank < ranks old

  pub openable : {r : ℕ} → r ≡ first_failed (open_checks old new rank dimension) → Bytes old → Bytes new → r ≡ 0 → Openable
  openable e b b' z =
      let p = passes (ltb rank (ranks old) && dimension_ok dimension) (first_failed (table_checks old new)) 4 (sym open-checked ∙ sym e ∙ z) in
      record {
        tables = tables_agree old new (first_failed (table_checks old new)) refl b b' p.0;
        rank_below = ltb-true rank (ranks old) (and_fst (ltb rank (ranks old)) (dimension_ok dimension) p.1);
      }

-- ---- the fresh area

-- with no sender heard the words are zeros
pub words_none_heard : (n : ℕ) → words_of (λ s. false) n ≡ replicate (8 * n) 0
unfolding words_of word_of le_bytes
words_none_heard zero = refl
words_none_heard (suc n) =
    let e : 8 * n + 8 ≡ 8 * suc n = omega arith in
    rw (words_none_heard n, sum_none 64) (replicate-append-replicate (8 * n) 8 0 ∙ ap (λ (m : ℕ). replicate m 0) e)

-- slots of zeros are zeros
pub slots_zero : (n : ℕ) → slots_of (λ i. replicate tree_size 0) n ≡ replicate (tree_size * n) 0
unfolding slots_of
slots_zero zero = refl
slots_zero (suc n) =
    let e : tree_size * n + tree_size ≡ tree_size * suc n = omega arith in
    rw (slots_zero n) (replicate-append-replicate (tree_size * n) tree_size 0 ∙ ap (λ (m : ℕ). replicate m 0) e)

pub area_header_length : (epoch dimension K P rank n g : ℕ) → length (area_header_bytes epoch dimension K P rank n g) ≡ 32
unfolding area_header_bytes
area_header_length epoch dimension K P rank n g = simp (length-append, bytes_length)

module _ (old new : List ℕ) (rank dimension epoch : ℕ) where
  -- the bytes behind the tables
  abbrev zeros : ℕ
  zeros = area_size dimension (ranks old) (tree_count new rank) - words_place (ranks old)

  -- a fresh area is its header, both tables, and zeros
  pub fresh_is : fresh_area old new rank dimension epoch ≡ area_header_bytes epoch dimension (trees old) (ranks old) rank (tree_count new rank) 0 ++ (old ++ (new ++ replicate zeros 0))
  unfolding fresh_area area_with area_size ghost_slots_place slots_place
  fresh_is =
      let n : ℕ = tree_count new rank in
      let B : ℕ = ghost_bound (faces_in dimension) n in
      let W : ℕ = heard_words (ranks old) in
      let e : 8 * W + (tree_size * n + core_size * (B - 0)) ≡ zeros = omega arith in
      let G : List ℕ = replicate (core_size * (B - 0)) 0 in
      let z : words_of (λ s. false) W ++ (slots_of (λ i. replicate tree_size 0) n ++ G) ≡ replicate zeros 0 =
      ap₂ (λ (a b : List ℕ). a ++ (b ++ G)) (words_none_heard W) (slots_zero n)
      ∙ ap (λ (b : List ℕ). replicate (8 * W) 0 ++ b) (replicate-append-replicate (tree_size * n) (core_size * (B - 0)) 0)
      ∙ replicate-append-replicate (8 * W) (tree_size * n + core_size * (B - 0)) 0
      ∙ ap (λ (m : ℕ). replicate m 0) e in
      ap (λ (x : List ℕ). area_header_bytes epoch dimension (trees old) (ranks old) rank n 0 ++ (old ++ (new ++ x))) z

  module _ (T : Tables old new) where
    -- and as long as document 01's zones
    pub fresh_length : length (fresh_area old new rank dimension epoch) ≡ area_size dimension (ranks old) (tree_count new rank)
    unfolding area_size ghost_slots_place slots_place words_place new_place
    fresh_length =
        rw (fresh_is, length-append, area_header_length _ _ _ _ _ _ _, length-append, old-long T, length-append, new-long T, length-replicate)
        (omega arith)

    follow : {mid last : List ℕ} (bs : List ℕ) (n : ℕ) (a b : List ℕ) → length a ≡ n → n ≤ length bs → mid ≡ splice bs 0 a → last ≡ splice mid n b → last ≡ splice bs 0 (a ++ b)
    follow {mid} bs n a b l h p q =
        let z : n ≡ 0 + n = omega arith in
        splice_then bs 0 n a b l (omega arith) p (q ∙ ap (λ (m : ℕ). splice mid m b) z)

    -- the four writes
    pub fresh_written : (out : List ℕ) → area_size dimension (ranks old) (tree_count new rank) ≤ length out
        → {P K n middle from to : ℕ} {o1 o2 o3 o4 : List ℕ} → P ≡ ranks old → K ≡ trees old → n ≡ tree_count new rank → middle ≡ new_place P → from ≡ words_place P → to ≡ area_size dimension P n
        → o1 ≡ splice out 0 (eight_bytes epoch dimension K P rank n 0 0) → o2 ≡ splice o1 32 old → o3 ≡ splice o2 middle new → o4 ≡ splice o3 from (replicate (to - from) 0)
        → o4 ≡ splice out 0 (fresh_area old new rank dimension epoch)
    unfolding area_header_bytes area_size ghost_slots_place slots_place words_place new_place
    fresh_written out room {P} {K} {n} {middle} {from} {to} {o1} {o2} {o3} {o4} p k m mi fr t e1 e2 e3 e4 =
        let H : List ℕ = area_header_bytes epoch dimension (trees old) (ranks old) rank (tree_count new rank) 0 in
        let Z : List ℕ = replicate zeros 0 in
        let lH : length H ≡ 32 = area_header_length _ _ _ _ _ _ _ in
        let lo = old-long T in
        let ln = new-long T in
        let q1 : o1 ≡ splice out 0 H = rw (p, k, m) at e1 in
        let q2 : o2 ≡ splice out 0 (H ++ old) = follow out 32 H old lH (omega arith) q1 e2 in
        let l2 : length (H ++ old) ≡ middle = rw (length-append, lH, lo, mi, p) (omega arith) in
        let q3 : o3 ≡ splice out 0 ((H ++ old) ++ new) = follow out middle (H ++ old) new l2 (omega arith) q2 e3 in
        let l3 : length ((H ++ old) ++ new) ≡ from = rw (length-append, l2, ln, mi, fr, p) (omega arith) in
        let d : to - from ≡ zeros = rw (t, fr, p, m) in
        let q4 : o4 ≡ splice out 0 (((H ++ old) ++ new) ++ Z) = follow out from ((H ++ old) ++ new) Z l3 (omega arith) q3 (e4 ∙ ap (λ (x : ℕ). splice o3 from (replicate x 0)) d) in
        let j : ((H ++ old) ++ new) ++ Z ≡ H ++ (old ++ (new ++ Z)) = simp append_assoc in
        q4 ∙ ap (splice out 0) (j ∙ sym fresh_is)

-- ---- the calls

module _ (old new : List ℕ) (rank dimension : ℕ) {r : ℕ} (checked : r ≡ first_failed (open_checks old new rank dimension)) where
  pub length_refused_lem : (r ≡ 0 → ⊥) → length_refused r ≡ area_length_of old new rank dimension
  unfolding area_length_of length_answer
  length_refused_lem h = rw (← checked, ne_eqb r 0 h)

  module _ (epoch : ℕ) (out : List ℕ) where
    with-room : first_failed (open_checks old new rank dimension ++ (check (leb (area_size dimension (ranks old) (tree_count new rank)) (length out)) 22 ∷ []))
        ≡ cond (eqb r 0) (cond (leb (area_size dimension (ranks old) (tree_count new rank)) (length out)) 0 22) r
    with-room =
        let b : Bool = leb (area_size dimension (ranks old) (tree_count new rank)) (length out) in
        checks_then (open_checks old new rank dimension) (check b 22 ∷ []) (open_numbered old new rank dimension) ∙ rw (one_check b 22, checked)

    pub open_refused : (r ≡ 0 → ⊥) → (length_refused r, out) ≡ open_area_of old new rank dimension epoch out
    unfolding open_area_of write_answer length_answer written
    open_refused h = rw (with-room, ne_eqb r 0 h, ne_eqb r 0 h)

  module _ (ok : r ≡ 0) {P n size : ℕ} (is_p : P ≡ ranks old) (is_n : n ≡ tree_count new rank) (is-size : size ≡ area_size dimension P n) where
    sized : size ≡ area_size dimension (ranks old) (tree_count new rank)
    sized = is-size ∙ ap₂ (area_size dimension) is_p is_n

    pub length_read : record { refusal = 0; length = size } ≡ area_length_of old new rank dimension
    unfolding area_length_of length_answer
    length_read = rw (← checked, ok, ← sized)

    module _ (epoch : ℕ) (out : List ℕ) where
      pub open_short : length out < size → (length_refused 22, out) ≡ open_area_of old new rank dimension epoch out
      unfolding open_area_of write_answer length_answer written
      open_short h = rw (with-room epoch out, ok, ← sized, lt-leb size (length out) h)

      module _ (b : Bytes old) (b' : Bytes new) (long : size ≤ length out) where
        pub area_room : AreaRoom old new rank dimension out
        area_room =
            let o = openable old new rank dimension checked b b' ok in
            record { tables = o.tables; rank_below = o.rank_below; room = omega (arith, sized) }

        pub open_done : {last : List ℕ} → last ≡ splice out 0 (fresh_area old new rank dimension epoch) → (record { refusal = 0; length = size }, last) ≡ open_area_of old new rank dimension epoch out
        unfolding open_area_of write_answer length_answer written
        open_done e = rw (with-room epoch out, ok, ← sized, le-leb size (length out) long, e, fresh_length old new rank dimension epoch area_room.tables, ← sized)
