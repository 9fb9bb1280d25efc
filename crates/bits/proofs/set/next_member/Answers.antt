use Prim.Native.Nat.{◌*◌}
use mathlib.Core.Path.{◌≡◌, refl}
use native.Mathlib.Omega.{arith}
use lib.ListN.{length}
use Rattle.bits.proofs.Scanning.{word_clear, member_near, member_found, member_none, whole_clear, whole_near, whole_found}
use Rattle.bits.proofs.set.next_member.Goals as goal

pub returns-then-n-k : goal.returns-then-n-k
returns-then-n-k c =
    let args = c.args in
    member_none args.ws.now args.k args.k (λ j p q. absurd (omega arith)) (omega arith) (omega arith) (omega arith)

pub overflow_add-result : goal.overflow_add-result
overflow_add-result c =
    let args = c.args in
    let shared-slice-known = c.shared_slice_known-1 in
    omega (arith, member_near args.ws.now args.k args.k (λ j p q. absurd (omega arith)) refl (shared-slice-known.given _).fits c.if-rest-ne0.true)

pub returns-then-rest-ne0 : goal.returns-then-rest-ne0
returns-then-rest-ne0 c =
    let args = c.args in
    let shared-slice-known = c.shared_slice_known-1 in
    member_found args.ws.now args.k args.k (λ j p q. absurd (omega arith)) refl (shared-slice-known.given _).fits c.if-rest-ne0.true (omega arith) (omega arith)

pub loop-i-init : goal.loop-i-init
loop-i-init c =
    let args = c.args in
    (omega arith, word_clear args.ws.now args.k args.k (λ j p q. absurd (omega arith)) refl c.if-rest-ne0.false)

pub overflow_add-result-then-word-ne0 : goal.overflow_add-result-then-word-ne0
overflow_add-result-then-word-ne0 c =
    let args = c.args in
    let loop = c.loop-i in
    let shared-slice-known = c.shared_slice_known-1 in
    omega (arith, whole_near args.ws.now loop.i args.k loop.invariant.1 refl (shared-slice-known.given _).fits c.if-word-ne0.true)

pub returns-then-word-ne0 : goal.returns-then-word-ne0
returns-then-word-ne0 c =
    let args = c.args in
    let loop = c.loop-i in
    let shared-slice-known = c.shared_slice_known-1 in
    whole_found args.ws.now loop.i args.k loop.invariant.1 refl (shared-slice-known.given _).fits c.if-word-ne0.true loop.invariant.0 (omega arith)

pub loop-i-preserved : goal.loop-i-preserved
loop-i-preserved c =
    let args = c.args in
    let loop = c.loop-i in
    (omega arith, whole_clear args.ws.now loop.i args.k loop.invariant.1 refl c.if-word-ne0.false)

pub returns : goal.returns
returns c =
    let loop = c.loop-i in
    let args = c.args in
    let e : 64 * loop.i ≡ 64 * length args.ws.now = omega arith in rw e at (member_none args.ws.now (64 * loop.i) args.k loop.invariant.1 loop.invariant.0 (omega arith) (omega arith))
