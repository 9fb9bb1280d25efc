-- Laws of the area's tables, lent with it.
use Prim.Native.Nat.{ℕ, ◌+◌, ◌*◌, ◌/◌, ◌%◌, ◌≤◌, ◌<◌}
use native.Mathlib.Omega.{arith}
use mathlib.Core.Path.{◌≡◌, sym, ◌∙◌}
use mathlib.Core.Bool.{Bool, false}
use mathlib.Core.List.{List}
use lib.ListN.{length}
use Rattle.encoding.specs.Numbers.{u64_at}
use Rattle.offsets.proofs.OnePass.{ranks_known}
use Rattle.pattern.specs.Means.{PairOf, RankOf}
use Rattle.bits.specs.Bits.{bit_of}
use Rattle.bits.proofs.Bits.{bit_zero}
use Rattle.area.specs.Layout.{words_place}
use Rattle.area.specs.Area.{area_p, area_rank, area_new, heard}
use Rattle.area.specs.Means.{Tabled}

pub heard_read : (a : List ℕ) (s : ℕ) {P at w : ℕ} {b : Bool} → P ≡ area_p a → at ≡ words_place P → w ≡ u64_at a (at + 8 * (s / 64)) → b ≡ bit_of w (s % 64) → b ≡ heard a s
unfolding heard
heard_read a s p e r t = rw (t, r, e, p)

-- in a word of zeros nobody is heard
pub word_silent : (a : List ℕ) (w b : ℕ) {P at v : ℕ} → P ≡ area_p a → at ≡ words_place P → v ≡ u64_at a (at + 8 * w) → v ≡ 0 → b < 64 → heard a (64 * w + b) ≡ false
unfolding heard
word_silent a w b p e r z l =
    let q : (64 * w + b) / 64 ≡ w = omega arith in
    let u : u64_at a (words_place (area_p a) + 8 * w) ≡ 0 = rw (← p, ← e) (sym r ∙ z) in
    rw (q, u) (bit_zero ((64 * w + b) % 64))

module _ {a old new : List ℕ} (t : Tabled a old new) where
  -- the area's rank and another
  pub tabled_pair : {s rank : ℕ} → s < area_p a → rank ≡ area_rank a → PairOf old new s rank
  tabled_pair l e =
      rw (t.is_old, t.is_new, e)
      (record {
        tables = t.header.tables;
        sender_below = omega (arith, t.header.ranks_are);
        receiver_below = omega (arith, t.header.ranks_are, t.header.rank_below);
      })

  -- the new table has the rank's entries
  pub tabled_long : {rank : ℕ} → rank ≡ area_rank a → 8 * (rank + 1 + 1) ≤ length new
  tabled_long e =
      rw t.is_new
      (omega (arith, (ranks_known (area_new a) t.header.tables.new_ranks).size, t.header.tables.same_ranks, t.header.ranks_are, t.header.rank_below))

-- the area's rank under its tables
pub tabled_rank : {a old new : List ℕ} {rank : ℕ} → Tabled a old new → rank ≡ area_rank a → RankOf old new rank
tabled_rank t e =
    rw (t.is_old, t.is_new, e)
    (record { tables = t.header.tables; rank_below = omega (arith, t.header.ranks_are, t.header.rank_below) })
