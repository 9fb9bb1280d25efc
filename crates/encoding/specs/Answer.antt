-- The answer of a call that writes an object into a lent buffer, that says how long it is, or that counts.
use Rattle.std.specs.Prelude.{ℕ, cond, List, eqb, length}
use Rattle.encoding.specs.declared.answer.Length.{Length}
use Rattle.encoding.specs.declared.answer.Count.{Count}
use Rattle.encoding.specs.Pieces.{splice}

-- the refusal alone
abbrev pub length_refused : ℕ → Length
length_refused refusal = record { refusal = refusal; length = 0 }

-- the length n, or the refusal alone
unfoldable pub length_answer : ℕ → ℕ → Length
length_answer refusal n = cond (eqb refusal 0) (record { refusal = 0; length = n }) (length_refused refusal)

-- the buffer: the object and the bytes behind it, or as it was
unfoldable pub written : ℕ → List ℕ → List ℕ → List ℕ
written refusal object out = cond (eqb refusal 0) (splice out 0 object) out

-- both of a call that writes an object
unfoldable pub write_answer : ℕ → List ℕ → List ℕ → Length × List ℕ
write_answer refusal object out = (length_answer refusal (length object), written refusal object out)

-- the refusal alone
abbrev pub count_refused : ℕ → Count
count_refused refusal = record { refusal = refusal; count = 0 }

-- the count n, or the refusal alone
unfoldable pub count_answer : ℕ → ℕ → Count
count_answer refusal n = cond (eqb refusal 0) (record { refusal = 0; count = n }) (count_refused refusal)
