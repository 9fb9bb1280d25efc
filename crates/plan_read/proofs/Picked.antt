-- What an answer tells that is `Some` where a test passes.
use Rattle.std.proofs.Common.{Some, None}
use Rattle.std.specs.declared.option.Option.{Option}
use Prim.Native.Nat.{ℕ}
use mathlib.Core.Path.{◌≡◌, refl}
use mathlib.Core.Bool.{Bool, true, false, cond}
use Rattle.plan_read.specs.Means.{Number, number_to}

pub some_picked : {A : Type 0} (b : Bool) {x y : A} → Some x ≡ cond b (Some y) None → (b ≡ true) × (x ≡ y)
some_picked true e = (refl, cc)
some_picked false e = absurd cc

pub none_picked : {A : Type 0} (b : Bool) (y : A) → None ≡ cond b (Some y) None → b ≡ false
none_picked true y e = absurd cc
none_picked false y e = refl

-- a number, where one was read
pub number_picked : {value : Option ℕ} {next v : ℕ} {r : Number} → value ≡ Some v → number_to value next ≡ r → number_to (Some v) next ≡ r
number_picked p e = rw p at e

-- a place where none was
pub number_missed : {value : Option ℕ} (next : ℕ) {r : Number} → value ≡ None → number_to value next ≡ r → r.ok ≡ false
number_missed next {r} p e = let f : number_to None next ≡ r = rw p at e in rw (← f)
