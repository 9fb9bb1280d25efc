use native.Mathlib.Omega.{arith}
use Rattle.columns.proofs.Squares.{two_words}
use Rattle.columns.proofs.turn.copy16.Goals as goal

pub read_u64-low-requires : goal.read_u64-low-requires
read_u64-low-requires c = omega (arith, c.requires.0.at 15 (omega arith))

pub overflow_add-from : goal.overflow_add-from
overflow_add-from c = omega (arith, c.requires.0.at 15 (omega arith))

pub read_u64-high-requires : goal.read_u64-high-requires
read_u64-high-requires c = omega (arith, c.requires.0.at 15 (omega arith))

pub write_u64-requires : goal.write_u64-requires
write_u64-requires c = omega (arith, c.requires.1.at 15 (omega arith))

pub overflow_add-to : goal.overflow_add-to
overflow_add-to c = omega (arith, c.requires.1.at 15 (omega arith))

pub write_u64-requires-2 : goal.write_u64-requires-2
write_u64-requires-2 c = omega (arith, c.requires.1.at 15 (omega arith))

pub returns : goal.returns
returns c =
    let read_u64 = c.read_u64-low in
    let read-u642 = c.read_u64-high in
    let write-u64 = c.write_u64 in
    let write-u642 = c.write_u64-2 in
    two_words _ _ _ _ (λ i. (c.type_inv.src i).fits) (omega (arith, c.requires.0.at 15 (omega arith))) (omega (arith, c.requires.1.at 15 (omega arith)))
    read_u64.ensures read-u642.ensures write-u64.ensures write-u642.ensures
