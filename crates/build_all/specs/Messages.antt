-- The messages from a rank's part to all that it sends to.
use Rattle.std.specs.Prelude.{ℕ, List, [], ◌∷◌, ◌++◌}
use Rattle.pattern.specs.Sets.{send_set}
use Rattle.message.specs.Build.{part_message}

-- the messages to the ranks of a list, end to end
unfoldable pub joined_messages : (ℕ → List ℕ) → List ℕ → List ℕ
joined_messages message [] = []
joined_messages message (q ∷ qs) = message q ++ joined_messages message qs

-- from p's part to every rank of its send set, ascending by receiver
unfoldable pub all_messages : List ℕ → List ℕ → List ℕ → ℕ → ℕ → List ℕ
all_messages part old new p epoch = joined_messages (λ q. part_message part old new p q epoch) (send_set old new p)
