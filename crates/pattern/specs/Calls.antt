-- What each public call answers, refusals included, and what it leaves in the lent list.
use Rattle.std.specs.Prelude.{ℕ, cond, ◌&&◌, List, [], ◌∷◌, ◌++◌, leb, ltb, eqb, pos, length}
use Rattle.encoding.specs.Answer.{written}
use Rattle.encoding.specs.Refusal.{Check, check, first_failed}
use Rattle.offsets.specs.Calls.{range_answer}
use Rattle.offsets.specs.declared.Range.{Range}
use Rattle.offsets.specs.Table.{ranks, ranks_ok, trees, valid}
use Rattle.pattern.specs.declared.Ranks.{Ranks}
use Rattle.pattern.specs.declared.SenderAnswer.{SenderAnswer}
use Rattle.pattern.specs.Sender.{sender_to, sender_number, sent_first, sent_count}
use Rattle.pattern.specs.Sets.{send_set, receive_set, smallest, largest}

-- the checks of two tables
unfoldable pub table_checks : List ℕ → List ℕ → List Check
table_checks old new =
    check (ranks_ok old && ranks_ok new) 2 ∷ check (valid old && valid new) 3 ∷ check (eqb (ranks old) (ranks new) && eqb (trees old) (trees new)) 4 ∷ []

-- the sender of a tree to a rank
unfoldable pub sender_refusal : List ℕ → List ℕ → ℕ → ℕ → ℕ
sender_refusal old new k q = first_failed (table_checks old new ++ (check (ltb k (trees old) && ltb q (ranks old)) 5 ∷ []))

unfoldable pub sender_of : List ℕ → List ℕ → ℕ → ℕ → SenderAnswer
sender_of old new k q =
    cond (eqb (sender_refusal old new k q) 0)
    (record { refusal = 0; sender = sender_number (sender_to old new k q) })
    (record { refusal = sender_refusal old new k q; sender = pos 0 })

-- the trees from one rank to another
unfoldable pub sent_refusal : List ℕ → List ℕ → ℕ → ℕ → ℕ
sent_refusal old new p q = first_failed (table_checks old new ++ (check (ltb p (ranks old) && ltb q (ranks old)) 5 ∷ []))

unfoldable pub trees_sent : List ℕ → List ℕ → ℕ → ℕ → Range
trees_sent old new p q = range_answer (sent_refusal old new p q) (sent_first old new p q) (sent_count old new p q)

-- a set written into the lent list, which has room for it
unfoldable pub set_refusal : List ℕ → List ℕ → ℕ → List ℕ → List ℕ → ℕ
set_refusal old new rank set out = first_failed (table_checks old new ++ (check (ltb rank (ranks old)) 5 ∷ check (leb (length set) (length out)) 22 ∷ []))

unfoldable pub ranks_answer : ℕ → List ℕ → Ranks
ranks_answer refusal set =
    cond (eqb refusal 0)
    (record { refusal = 0; count = length set; smallest = smallest set; largest = largest set })
    (record { refusal = refusal; count = 0; smallest = pos 0; largest = pos 0 })

unfoldable pub set_answer : ℕ → List ℕ → List ℕ → Ranks × List ℕ
set_answer refusal set out = (ranks_answer refusal set, written refusal set out)

unfoldable pub send_set_of : List ℕ → List ℕ → ℕ → List ℕ → Ranks × List ℕ
send_set_of old new p out = set_answer (set_refusal old new p (send_set old new p) out) (send_set old new p) out

unfoldable pub receive_set_of : List ℕ → List ℕ → ℕ → List ℕ → Ranks × List ℕ
receive_set_of old new q out = set_answer (set_refusal old new q (receive_set old new q) out) (receive_set old new q) out
