use native.Mathlib.Omega.{arith}
use Rattle.encoding.proofs.Copying.{copy_start, copy_more, copy_done}
use Rattle.encoding.proofs.bytes.copy_words.Goals as goal

pub loop-i-init : goal.loop-i-init
loop-i-init c = copy_start _ _ _ c.requires.0 c.requires.1

pub loop-i-preserved : goal.loop-i-preserved
loop-i-preserved c =
    copy_more _ _ _ c.requires.0 c.requires.1 (λ i. (c.shared_slice_known-1.given i).fits) c.loop-i.invariant c.loop-i-test.true c.read_u64-word.ensures c.write_u64.ensures

pub returns : goal.returns
returns c = copy_done _ _ _ c.requires.0 c.requires.1 c.loop-i.invariant (omega arith)
