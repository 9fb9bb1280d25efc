-- Laws of the output: what is written, how long it is, and which moves it lists.
use Prim.Native.Nat.{ℕ, zero, suc, ◌+◌, ◌-◌, ◌*◌, ◌/◌, ◌%◌, ◌^◌, ◌≤◌, ◌<◌}
use native.Mathlib.Nat.{zero-add, add-zero, pow-suc}
use native.Mathlib.Numerals.{add-one}
use native.Mathlib.Omega.{arith}
use mathlib.Core.Path.{◌≡◌, refl, sym, ap, ◌∙◌}
use mathlib.Core.Bool.{true, false, cond}
use mathlib.Core.List.{List, [], ◌∷◌, ◌++◌, append_assoc}
use lib.Dec.{ltb}
use lib.ListN.{length, set, length-append}
use borrow.Author.Tests.{lt-ltb, le-ltb, lt-leb, le-leb}
use Rattle.encoding.specs.Below.{any_below, count_below, sum_below}
use Rattle.encoding.specs.Pieces.{splice}
use Rattle.encoding.specs.Refusal.{first_failed}
use Rattle.encoding.specs.Answer.{length_answer, written, write_answer}
use Rattle.encoding.proofs.Below.{either, any_none, any_false, sum_le, count_le, count_zero, count_none}
use Rattle.encoding.proofs.Pieces.{splice_none, splice_cons, splice_then, length_splice}
use Rattle.offsets.specs.Table.{ranks, trees}
use Rattle.offsets.proofs.Tables.{never_falls, ranks_high_lem, trees_high}
use Rattle.pattern.specs.Sender.{sends, sent_first, sent_count}
use Rattle.pattern.specs.Sets.{sends_to}
use Rattle.pattern.specs.Means.{PairOf}
use Rattle.pattern.proofs.Sets.{sent_below}
use Rattle.plan_read.specs.Text.{digits_of, decimal, number_limit, ranks_word}
use Rattle.plan_write.specs.Moves.{plan_ranks, trees_word, move_word, messages_word, line_text, move_text, moves_from, moves_text, move_count, moves_output}
use Rattle.plan_write.specs.Means.{Put, Fits, FitsNumber, Small, FitsRow, FitsPair, FitsFrom, FitsMoves, PlanTables, SmallOutput, FitsOutput, number_text, row_text, pair_text, output_answer}
use Rattle.plan_read.proofs.Decimals.{decimal_most}

-- ---- numbers

-- more room than its digits take changes no number
digits_more : (w n : ℕ) → n < 10 ^ suc w → digits_of (suc (suc w)) n ≡ digits_of (suc w) n
unfolding digits_of
digits_more zero n h = rw (lt-ltb n 10 h)
digits_more (suc w) n h =
    let e : 10 ^ suc (suc w) ≡ 10 ^ suc w * 10 = pow-suc 10 (suc w) in
    either (ltb n 10) (λ t. rw t) (λ f. rw (f, digits_more w (n / 10) (omega arith)))

-- a number below 10 is one digit
pub decimal_one : (n : ℕ) → n < 10 → decimal n ≡ (48 + n) ∷ []
unfolding decimal digits_of
decimal_one n h = rw (lt-ltb n 10 h)

-- any other is its tenth and one digit more
pub decimal_more : (n : ℕ) → 10 ≤ n → n < number_limit → decimal n ≡ decimal (n / 10) ++ ((48 + n % 10) ∷ [])
unfolding decimal digits_of
decimal_more n h l = rw (le-ltb n 10 h, ← digits_more 6 (n / 10) (omega arith))

-- ---- texts written one behind the other

-- nothing is written
pub put_none : (out : List ℕ) (at : ℕ) → Put out out at at []
put_none out at = record { wrote = sym (splice_none out at); behind = sym (add-zero at) }

-- one byte is stored
pub put_byte : (out : List ℕ) (at b : ℕ) → Fits out at (b ∷ []) → Put out (set out at b) at (at + 1) (b ∷ [])
put_byte out at b h = record { wrote = sym (splice_cons out at b [] (omega (arith, h.room)) ∙ splice_none (set out at b) (suc at)); behind = refl }

-- equal texts
pub put_as : {a b : List ℕ} {at n : ℕ} {s t : List ℕ} → s ≡ t → Put a b at n s → Put a b at n t
put_as e p = rw e at p

pub fits_as : {out : List ℕ} {at : ℕ} {s t : List ℕ} → s ≡ t → Fits out at s → Fits out at t
fits_as e h = rw e at h

-- room for two texts is room for the first, and behind it for the second
pub fits_first : {out : List ℕ} {at : ℕ} (s t : List ℕ) → Fits out at (s ++ t) → Fits out at s
fits_first s t h = record { room = omega (arith, length-append s t, h.room) }

module _ {a b : List ℕ} {at n : ℕ} {s : List ℕ} (p : Put a b at n s) (t : List ℕ) (h : Fits a at (s ++ t)) where
  pub fits_next : Fits b n t
  fits_next =
      let l : length b ≡ length a = ap length p.wrote ∙ length_splice a at s (fits_first s t h).room in
      record { room = omega (arith, length-append s t, p.behind, h.room) }

  -- two texts in a row are one
  pub put_then : {c : List ℕ} {m : ℕ} → Put b c n m t → Put a c at m (s ++ t)
  put_then q =
      record {
        wrote = splice_then a at (length s) s t refl (fits_first s t h).room p.wrote (rw p.behind at q.wrote);
        behind = omega (arith, length-append s t, p.behind, q.behind);
      }

-- ---- the digits of a number, written one behind the other

-- how many, one for each tenth
pub length_more : (n m count : ℕ) → m < number_limit → 10 ≤ m → count + length (decimal m) ≡ length (decimal n) + 1 → count + 1 + length (decimal (m / 10)) ≡ length (decimal n) + 1
length_more n m count l h e = omega (arith, ap length (decimal_more m h l), length-append (decimal (m / 10)) ((48 + m % 10) ∷ []))

-- room for a number of more digits than one: for its tenth, and a digit behind it
pub fits_tenth : {out : List ℕ} {at n : ℕ} → 10 ≤ n → FitsNumber out at n (decimal n) → Fits out at (decimal (n / 10) ++ ((48 + n % 10) ∷ []))
fits_tenth {out} {at} {n} h r = fits_as (decimal_more n h r.small) r.fits

-- ---- a text that grows by a piece at each turn of a loop

module _ (N : ℕ) (f g : ℕ → List ℕ) (more : (i : ℕ) → i < N → f (i + 1) ≡ f i ++ g i) where
  -- no turn makes it shorter
  shorter : (i n : ℕ) → i ≤ n → n ≤ N → length (f i) ≤ length (f n)
  shorter = never_falls N (λ i. length (f i)) (λ i h. omega (arith, rw add-one at (ap length (more i h) ∙ length-append (f i) (g i))))

  module _ {a b : List ℕ} {at n : ℕ} (i : ℕ) (h : i < N) (r : Fits a at (f N)) (p : Put a b at n (f i)) where
    fits_more : Fits a at (f i ++ g i)
    fits_more = fits_as (more i h) (record { room = omega (arith, shorter (i + 1) N (omega arith) (omega arith), r.room) })

    -- a turn has room for its piece, and grows the text by it
    pub fits_turn : Fits b n (g i)
    fits_turn = fits_next p _ fits_more

    pub put_turn : {c : List ℕ} {m : ℕ} → Put b c n m (g i) → Put a c at m (f (i + 1))
    put_turn q = put_as (sym (more i h)) (put_then p _ fits_more q)

-- ---- moves

-- a move written as a word and four numbers
module _ {out : List ℕ} {at p q first last : ℕ} (r : FitsRow out at p q first last) where
  fits-row : Fits out at (move_word ++ (number_text p 44 ++ (number_text q 44 ++ (number_text first 44 ++ number_text last 10))))
  unfolding row_text
  fits-row = r.fits

  pub row_word : Fits out at move_word
  row_word = fits_first move_word _ fits-row

  module _ {o1 : List ℕ} {n1 : ℕ} (w : Put out o1 at n1 move_word) where
    tail1 : Fits o1 n1 (number_text p 44 ++ (number_text q 44 ++ (number_text first 44 ++ number_text last 10)))
    tail1 = fits_next w _ fits-row

    pub row_sender : FitsNumber o1 n1 p (number_text p 44)
    row_sender = record { small = r.small.sender; fits = fits_first (number_text p 44) _ tail1 }

    module _ {o2 : List ℕ} {n2 : ℕ} (x : Put o1 o2 n1 n2 (number_text p 44)) where
      tail2 : Fits o2 n2 (number_text q 44 ++ (number_text first 44 ++ number_text last 10))
      tail2 = fits_next x _ tail1

      pub row_receiver : FitsNumber o2 n2 q (number_text q 44)
      row_receiver = record { small = r.small.receiver; fits = fits_first (number_text q 44) _ tail2 }

      module _ {o3 : List ℕ} {n3 : ℕ} (y : Put o2 o3 n2 n3 (number_text q 44)) where
        tail3 : Fits o3 n3 (number_text first 44 ++ number_text last 10)
        tail3 = fits_next y _ tail2

        pub row_first : FitsNumber o3 n3 first (number_text first 44)
        row_first = record { small = r.small.first_tree; fits = fits_first (number_text first 44) _ tail3 }

        module _ {o4 : List ℕ} {n4 : ℕ} (z : Put o3 o4 n3 n4 (number_text first 44)) where
          pub row_last : FitsNumber o4 n4 last (number_text last 10)
          row_last = record { small = r.small.last_tree; fits = fits_next z _ tail3 }

          pub row_done : {o5 : List ℕ} {n5 : ℕ} → Put o4 o5 n4 n5 (number_text last 10) → Put out o5 at n5 (row_text p q first last)
          unfolding row_text
          row_done l = put_then w _ fits-row (put_then x _ tail1 (put_then y _ tail2 (put_then z _ tail3 l)))

-- the length of a row
pub row_length : (p q first last : ℕ) → length (row_text p q first last) ≡ 9 + length (decimal p) + length (decimal q) + length (decimal first) + length (decimal last)
unfolding row_text number_text
row_length p q first last = simp length-append (omega arith)

module _ (old new : List ℕ) where
  -- a move as a row
  pub move_row : (p q : ℕ) → move_text old new p q ≡ row_text p q (sent_first old new p q) (sent_first old new p q + sent_count old new p q - 1)
  unfolding move_text row_text number_text
  move_row p q = simp append_assoc

  -- a move has at most 41 bytes
  pub move_most : (p q : ℕ) → length (move_text old new p q) ≤ 41
  move_most p q =
      let a = sent_first old new p q in
      let b = sent_first old new p q + sent_count old new p q - 1 in
      omega (arith, ap length (move_row p q), row_length p q a b, decimal_most p, decimal_most q, decimal_most a, decimal_most b)

  -- a pair without a tree has none
  pub pair_most : (p q : ℕ) → length (pair_text old new p q) ≤ 41 * cond (sends_to old new p q) 1 0
  unfolding pair_text
  pair_most p q = either (sends_to old new p q) (λ t. rw t (move_most p q)) (λ f. rw f (omega arith))

  -- the moves from p grow by a pair, and all moves by those of a sender
  pub from_more : (p q : ℕ) → moves_from old new p (q + 1) ≡ moves_from old new p q ++ pair_text old new p q
  unfolding moves_from pair_text
  from_more p q = rw add-one

  pub text_more : (p : ℕ) → moves_text old new (p + 1) ≡ moves_text old new p ++ moves_from old new p (ranks old)
  unfolding moves_text
  text_more p = rw add-one

  -- and so do the lengths
  pub from_length : (p q : ℕ) → length (moves_from old new p (q + 1)) ≡ length (moves_from old new p q) + length (pair_text old new p q)
  from_length p q = rw (from_more p q) (length-append (moves_from old new p q) (pair_text old new p q))

  pub text_length : (p : ℕ) → length (moves_text old new (p + 1)) ≡ length (moves_text old new p) + length (moves_from old new p (ranks old))
  text_length p = rw (text_more p) (length-append (moves_text old new p) (moves_from old new p (ranks old)))

  -- 41 bytes at most for each move
  pub from_most : (p n : ℕ) → length (moves_from old new p n) ≤ 41 * count_below n (sends_to old new p)
  unfolding moves_from count_below
  from_most p zero = omega arith
  from_most p (suc n) = omega (arith, rw add-one at (from_length p n), from_most p n, pair_most p n)

  pub text_most : (n : ℕ) → length (moves_text old new n) ≤ 41 * sum_below n (λ p. count_below (ranks old) (sends_to old new p))
  unfolding moves_text sum_below
  text_most zero = omega arith
  text_most (suc n) = omega (arith, rw add-one at (text_length n), text_most n, from_most n (ranks old))

  -- at most one move for each pair of ranks
  pub moves_most : (n : ℕ) → n ≤ plan_ranks → ranks old ≤ plan_ranks → sum_below n (λ p. count_below (ranks old) (sends_to old new p)) ≤ plan_ranks * plan_ranks
  moves_most n h r =
      omega (arith, sum_le n (λ p. count_below (ranks old) (sends_to old new p)) plan_ranks (λ p _. omega (arith, count_le (ranks old) (sends_to old new p))))

-- with no tree there is no move
pub pair_none : (old new : List ℕ) (p q : ℕ) → sends_to old new p q ≡ false → pair_text old new p q ≡ []
unfolding pair_text
pair_none old new p q e = rw e

-- the trees from p to q: the first and how many
module _ {old new : List ℕ} {p q first count : ℕ} (P : PairOf old new p q) (a : first ≡ sent_first old new p q) (b : count ≡ sent_count old new p q) where
  -- none is sent
  pub pair_unsent : count ≡ 0 → sends_to old new p q ≡ false
  unfolding sends_to sent_count sends
  pair_unsent e = any_none (trees old) (sends old new p q) (count_zero (trees old) (sends old new p q) (sym b ∙ e))

  pub pair_sent : (count ≡ 0 → ⊥) → sends_to old new p q ≡ true
  unfolding sends_to sent_count sends
  pair_sent n =
      either (any_below (trees old) (sends old new p q)) (λ t. t)
      (λ f. absurd (n (b ∙ count_none (trees old) (sends old new p q) (any_false (trees old) (sends old new p q) f))))

  module _ (n : count ≡ 0 → ⊥) where
    -- else the move is the row of the two ranks, the first and the last tree
    pub pair_some : pair_text old new p q ≡ row_text p q first (first + count - 1)
    unfolding pair_text
    pair_some = rw (pair_sent n, a, b) (move_row old new p q)

    pub pair_small : Small p q first (first + count - 1)
    pair_small =
        let T = P.tables in
        let m = ranks_high_lem old T.old_bytes T.old_ranks T.old_valid in
        let k = trees_high old T.old_bytes T.old_ranks T.old_valid in
        let u = sent_below old new T p q P.sender_below P.receiver_below in
        let l = P.sender_below in
        let r = P.receiver_below in
        record { sender = omega arith; receiver = omega arith; first_tree = omega arith; last_tree = omega arith }

-- a turn of the loop over the receivers of p
module _ {old new a b : List ℕ} {at n p : ℕ} (r : FitsFrom old new a at p) (q : ℕ) (h : q < ranks old) (w : Put a b at n (moves_from old new p q)) where
  pub from_fits : FitsPair old new b n p q
  from_fits =
      record {
        pair = record { tables = r.rank.tables; sender_below = r.rank.rank_below; receiver_below = h };
        fits = fits_turn (ranks old) (moves_from old new p) (pair_text old new p) (λ i _. from_more old new p i) q h r.fits w;
      }

  pub from_turn : {c : List ℕ} {m : ℕ} → Put b c n m (pair_text old new p q) → Put a c at m (moves_from old new p (q + 1))
  from_turn = put_turn (ranks old) (moves_from old new p) (pair_text old new p) (λ i _. from_more old new p i) q h r.fits w

-- a turn of the loop over the senders
module _ {old new a b : List ℕ} {at n : ℕ} (r : FitsMoves old new a at) (p : ℕ) (h : p < ranks old) (w : Put a b at n (moves_text old new p)) where
  pub text_fits : FitsFrom old new b n p
  text_fits =
      record {
        rank = record { tables = r.tables; rank_below = h };
        fits = fits_turn (ranks old) (moves_text old new) (λ i. moves_from old new i (ranks old)) (λ i _. text_more old new i) p h r.fits w;
      }

  pub text_turn : {c : List ℕ} {m : ℕ} → Put b c n m (moves_from old new p (ranks old)) → Put a c at m (moves_text old new (p + 1))
  text_turn = put_turn (ranks old) (moves_text old new) (λ i. moves_from old new i (ranks old)) (λ i _. text_more old new i) p h r.fits w

-- ---- the output

-- the length of a line
pub line_length : (word : List ℕ) (n : ℕ) → length (line_text word n) ≡ length word + length (decimal n) + 1
unfolding line_text
line_length word n = simp length-append (omega arith)

module _ (old new : List ℕ) where
  -- the length of the output
  pub output_length : length (moves_output old new)
      ≡ length (line_text ranks_word (ranks old)) + length (line_text trees_word (trees old)) + length (moves_text old new (ranks old)) + length (line_text messages_word (move_count old new))
  unfolding moves_output
  output_length = simp length-append (omega arith)

  -- its numbers have at most 8 digits
  pub output_small : {P K bytes moves : ℕ} → PlanTables old new → P ≡ ranks old → K ≡ trees old → bytes ≡ length (moves_text old new (ranks old)) → moves ≡ move_count old new → SmallOutput P K bytes moves
  unfolding move_count
  output_small T p k l m =
      let A = T.agree in
      let r = T.few in
      let t = trees_high old A.old_bytes A.old_ranks A.old_valid in
      let c = moves_most old new (ranks old) r r in
      record { ranks_small = omega arith; trees_small = omega arith; bytes_small = omega (arith, text_most old new (ranks old)); moves_small = omega arith }

-- the length that the code computes
module _ (old new : List ℕ) {P K bytes moves n : ℕ} (p : P ≡ ranks old) (k : K ≡ trees old) (l : bytes ≡ length (moves_text old new (ranks old))) (m : moves ≡ move_count old new)
    (e : n ≡ length (line_text ranks_word P) + length (line_text trees_word K) + bytes + length (line_text messages_word moves)) where
  pub output_is : n ≡ length (moves_output old new)
  output_is = e ∙ rw (p, k, l, m) (sym (output_length old new))

-- the output written as two lines, the moves and a line
module _ {old new out : List ℕ} {moves P : ℕ} (r : FitsOutput old new out moves) (p : P ≡ ranks old) where
  module _ {K : ℕ} (k : K ≡ trees old) where
    small : SmallOutput P K (length (moves_text old new (ranks old))) moves
    small = output_small old new r.tables p k refl r.counted

    joined : line_text ranks_word P ++ (line_text trees_word K ++ (moves_text old new (ranks old) ++ line_text messages_word moves)) ≡ moves_output old new
    unfolding moves_output
    joined = rw (p, k, r.counted)

    rest0 : Fits out 0 (line_text ranks_word P ++ (line_text trees_word K ++ (moves_text old new (ranks old) ++ line_text messages_word moves)))
    rest0 = fits_as (sym joined) r.fits

  pub output_ranks : FitsNumber out 0 P (line_text ranks_word P)
  output_ranks = record { small = (small refl).ranks_small; fits = fits_first (line_text ranks_word P) _ (rest0 refl) }

  module _ {o1 : List ℕ} {n1 K : ℕ} (w : Put out o1 0 n1 (line_text ranks_word P)) (k : K ≡ trees old) where
    rest1 : Fits o1 n1 (line_text trees_word K ++ (moves_text old new (ranks old) ++ line_text messages_word moves))
    rest1 = fits_next w _ (rest0 k)

    pub output_trees : FitsNumber o1 n1 K (line_text trees_word K)
    output_trees = record { small = (small k).trees_small; fits = fits_first (line_text trees_word K) _ rest1 }

    module _ {o2 : List ℕ} {n2 : ℕ} (x : Put o1 o2 n1 n2 (line_text trees_word K)) where
      rest2 : Fits o2 n2 (moves_text old new (ranks old) ++ line_text messages_word moves)
      rest2 = fits_next x _ rest1

      pub output_moves : FitsMoves old new o2 n2
      output_moves = record { tables = r.tables.agree; fits = fits_first (moves_text old new (ranks old)) _ rest2 }

      module _ {o3 : List ℕ} {n3 : ℕ} (y : Put o2 o3 n2 n3 (moves_text old new (ranks old))) where
        pub output_count : FitsNumber o3 n3 moves (line_text messages_word moves)
        output_count = record { small = (small k).moves_small; fits = fits_next y _ rest2 }

        pub output_done : {o4 : List ℕ} {n4 : ℕ} → Put o3 o4 n3 n4 (line_text messages_word moves) → Put out o4 0 n4 (moves_output old new)
        output_done z = put_as (joined k) (put_then w _ (rest0 k) (put_then x _ rest1 (put_then y _ rest2 z)))

-- a buffer that is too short stays as it was
pub answer_short : (output out : List ℕ) → length out < length output → (record { refusal = 22; length = 0 }, out) ≡ output_answer output out
unfolding output_answer write_answer length_answer written first_failed
answer_short output out h = rw (lt-leb (length output) (length out) h)

-- one that is long enough begins with the output
pub answer_done : {out last : List ℕ} {end : ℕ} (output : List ℕ) → Fits out 0 output → Put out last 0 end output → (record { refusal = 0; length = end }, last) ≡ output_answer output out
unfolding output_answer write_answer length_answer written first_failed
answer_done {out} output h p = rw (le-leb (length output) (length out) (omega (arith, h.room)), p.wrote, p.behind) (ap (λ n. (record { refusal = 0; length = n }, splice out 0 output)) (zero-add (length output)))
