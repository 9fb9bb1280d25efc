-- The ones in the words of heard senders are the ranks heard.
use Prim.Native.Nat.{ℕ, zero, suc, ◌+◌, ◌-◌, ◌*◌, ◌/◌, ◌%◌, ◌≤◌, ◌<◌}
use native.Mathlib.Nat.{mul-zero, add-zero}
use native.Mathlib.Omega.{arith}
use mathlib.Core.Path.{◌≡◌, refl, sym, ap, ◌∙◌}
use mathlib.Core.Bool.{Bool, true, false}
use mathlib.Core.List.{List}
use lib.ListN.{length}
use Rattle.encoding.specs.Below.{count_below, sum_below}
use Rattle.encoding.specs.Numbers.{u64_at}
use Rattle.encoding.proofs.Below.{either, sum_more, count_same, count_none, count_add}
use Rattle.pattern.specs.Means.{rank_set}
use Rattle.pattern.specs.Sets.{receive_set}
use Rattle.pattern.proofs.Answers.{set_receives}
use Rattle.bits.specs.Bits.{bit_of}
use Rattle.area.specs.Layout.{heard_words, words_place}
use Rattle.area.specs.Area.{area_p, area_rank, area_old, area_new, heard, area_sound}
use Rattle.area_open.specs.Calls.{progress_of}
use Rattle.area.proofs.Soundness.{heard_rank}
use Rattle.area.specs.Means.{HeaderHolds, Tabled}
use Rattle.area_open.specs.Means.{heard_ones}

module _ (a : List ℕ) where
  -- ---- the words

  -- the senders of word i are its bits
  in_word : (i b : ℕ) → b < 64 → heard a (64 * i + b) ≡ bit_of (u64_at a (words_place (area_p a) + 8 * i)) b
  unfolding heard
  in_word i b h =
      let q : (64 * i + b) / 64 ≡ i = omega arith in
      let r : (64 * i + b) % 64 ≡ b = omega arith in
      rw (q, r)

  none-counted : (f : ℕ → Bool) → 0 ≡ count_below 0 f
  unfolding count_below
  none-counted f = refl

  -- the ones of n words are the heard senders below 64 n
  pub ones_heard : (n : ℕ) → heard_ones a n ≡ count_below (64 * n) (heard a)
  unfolding heard_ones sum_below
  ones_heard zero = rw mul-zero (none-counted (heard a))
  ones_heard (suc n) =
      let e : 64 * suc n ≡ 64 * n + 64 = omega arith in
      rw (
        e,
        count_add (64 * n) 64 (heard a),
        ones_heard n,
        count_same 64 (λ b. heard a (64 * n + b)) (bit_of (u64_at a (words_place (area_p a) + 8 * n))) (in_word n),
      )

  -- one more word
  pub ones_more : (w : ℕ) {P at h word o : ℕ} → P ≡ area_p a → at ≡ words_place P → h ≡ heard_ones a w → word ≡ u64_at a (at + 8 * w) → o ≡ count_below 64 (bit_of word) → h + o ≡ heard_ones a (w + 1)
  unfolding heard_ones
  ones_more w {P} {at} {h} {word} {o} p e s r c =
      let t : o ≡ count_below 64 (bit_of (u64_at a (words_place (area_p a) + 8 * w))) = c ∙ ap (λ (x : ℕ). count_below 64 (bit_of x)) (r ∙ ap (λ (x : ℕ). u64_at a (x + 8 * w)) (e ∙ ap words_place p)) in
      rw (s, t) (sym (sum_more w (λ i. count_below 64 (bit_of (u64_at a (words_place (area_p a) + 8 * i))))))

  pub ones_none : 0 ≡ heard_ones a 0
  unfolding heard_ones sum_below
  ones_none = refl

  pub ones_end : {h w words P : ℕ} → P ≡ area_p a → words ≡ heard_words P → w ≤ words → words ≤ w → h ≡ heard_ones a w → h ≡ heard_ones a (heard_words (area_p a))
  ones_end {h} {w} {words} p q l m e =
      let z : w ≡ words = omega arith in
      e ∙ ap (heard_ones a) (z ∙ q ∙ ap heard_words p)

  -- ---- a sound area

  module _ (sound : area_sound a ≡ true) where
    -- no other bit is set
    pub heard_count : area_p a ≤ 64 * heard_words (area_p a) → heard_ones a (heard_words (area_p a)) ≡ count_below (area_p a) (heard a)
    heard_count l =
        let more : ℕ = 64 * heard_words (area_p a) - area_p a in
        let e : 64 * heard_words (area_p a) ≡ area_p a + more = omega arith in
        let z : count_below more (λ i. heard a (area_p a + i)) ≡ 0 =
        count_none more (λ i. heard a (area_p a + i))
        (λ i m. either (heard a (area_p a + i)) (λ t. absurd (omega (arith, (heard_rank a sound (area_p a + i) (omega arith) t).0))) (λ t. t)) in
        ones_heard (heard_words (area_p a)) ∙ ap (λ (m : ℕ). count_below m (heard a)) e ∙ count_add (area_p a) more (heard a) ∙ rw z (add-zero (count_below (area_p a) (heard a)))

    pub progress_read : HeaderHolds a → {old new : List ℕ} {rank h d : ℕ} → Tabled a old new → rank ≡ area_rank a → h ≡ heard_ones a (heard_words (area_p a)) → d ≡ length (rank_set old new rank false)
        → record { refusal = 0; heard = h; due = d } ≡ progress_of a
    unfolding progress_of
    progress_read H {old} {new} {rank} {h} {d} t r e q =
        let c : d ≡ length (receive_set (area_old a) (area_new a) (area_rank a)) = q ∙ ap length (set_receives old new rank) ∙ rw (t.is_old, t.is_new, r) in
        rw (sound, e, heard_count H.words_enough, c)

  pub progress_refused : area_sound a ≡ false → record { refusal = 10; heard = 0; due = 0 } ≡ progress_of a
  unfolding progress_of
  progress_refused e = rw e
