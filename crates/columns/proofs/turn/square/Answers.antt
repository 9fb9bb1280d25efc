use Prim.Native.Nat.{ℕ}
use native.Mathlib.Omega.{arith}
use lib.ListN.{replicate, length-replicate}
use Rattle.columns.proofs.Squares.{buffer_rows, square_moved}
use Rattle.columns.proofs.turn.square.Goals as goal

pub rows-requires-2 : goal.rows-requires-2
rows-requires-2 c =
    let pre = c.requires in
    (buffer_rows _ (omega arith), pre.1)

pub returns : goal.returns
returns c =
    let pre = c.requires in
    let rows = c.rows in
    let shuffle = c.shuffle in
    let shuffle2 = c.shuffle-2 in
    let shuffle3 = c.shuffle-3 in
    let shuffle4 = c.shuffle-4 in
    let rows2 = c.rows-2 in
    square_moved _ _ _ _ _ _ (replicate 256 0) (length-replicate {A = ℕ} 256 0) pre.1 rows.ensures shuffle.ensures shuffle2.ensures shuffle3.ensures shuffle4.ensures rows2.ensures
