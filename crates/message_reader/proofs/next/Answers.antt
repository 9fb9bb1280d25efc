use Prim.Native.Nat.{ℕ}
use mathlib.Core.Path.{◌≡◌}
use mathlib.Core.List.{List}
use denote.Ref.{Bor}
use Rattle.message.specs.Reading.{record_at, remain_after}
use Rattle.message_reader.specs.Handing.{place_after, next_of, step_seen}
use Rattle.message_reader.specs.declared.Reader.{Reader}
use Rattle.message_reader.specs.declared.Step.{Step}
use Rattle.message_reader.proofs.next.Goals as goal

-- the step, when the next place is k
abbrev made : Reader → Bor (List ℕ) → ℕ → ℕ → Step
made d p n k = record { piece = p; remain = n; reader = record { message = d.message; at = k } }

step_is : (d : Reader) (p : Bor (List ℕ)) (n k : ℕ) → p.now ≡ record_at d.message.now d.at → n ≡ remain_after d.message.now d.at → k ≡ place_after d.message.now d.at → step_seen (made d p n k) ≡ next_of d
unfolding next_of
step_is d p n k e f g = λ i. (e i, (f i, record { message = d.message; at = g i }))

pub returns : goal.returns
returns c = step_is c.args.reader c.record_at-piece.result c.remain_after-remain.result c.place_after-onward.result c.record_at-piece.ensures c.remain_after-remain.ensures c.place_after-onward.ensures
