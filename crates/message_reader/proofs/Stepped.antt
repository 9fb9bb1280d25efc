-- A call of `next` by a function with plain parameters: what is known of its result.
use mathlib.Core.Path.{◌≡◌, ap}
use Prim.Native.Nat.{ℕ}
use mathlib.Core.List.{List}
use denote.Ref.{Bor}
use Rattle.message.specs.Reading.{record_at}
use Rattle.message_reader.specs.Handing.{next_of, step_seen, following_of}
use Rattle.message_reader.specs.declared.place.Following.{Following}
use Rattle.message_reader.specs.declared.Reader.{Reader}
use Rattle.message_reader.specs.declared.Step.{Step}

-- a reader over a lent message, at a place
abbrev pub reader : Bor (List ℕ) → ℕ → Reader
reader s n = record { message = s; at = n }

-- what is had of a step
module _ (s : Bor (List ℕ)) (n : ℕ) (t : Step) (e : step_seen t ≡ next_of (reader s n)) where
  pub piece_is : t.piece.now ≡ record_at s.now n
  unfolding next_of
  piece_is = ap (λ (x : List ℕ × (ℕ × Reader)). x.0) e

  pub following_is : ◌≡◌ {A = Following} (record { remain = t.remain; at = t.reader.at }) (following_of s.now n)
  unfolding next_of following_of
  following_is = ap (λ (x : List ℕ × (ℕ × Reader)). record { remain = x.1.0; at = x.1.1.at }) e
