-- Demand 3 for lists in which any run of deliveries is one deliver_all.
use Rattle.std.specs.Prelude.{ℕ, ◌≤◌, ◌≡◌, true, cond, ◌&&◌, List, [], ◌∷◌, ◌++◌, leb, length, take}
use Rattle.message.specs.Layout.{in_layout}
use Rattle.deliver_all.specs.Messages.{messages_in}
use Rattle.deliver_all.specs.Calls.{max_messages, deliver_all_of}
use Rattle.repartition.specs.Run.{Run, Setting}
use Rattle.repartition.specs.Lists.{Call, deliver, Answer, delivery, AllIn, AllBuilt, message_of, opened, area_after, answer_of, answers_of}
use Rattle.repartition.specs.Demand.{size, bytes_after, TwoLists}

-- a single call; or deliver_all of the messages from ranks p to ranks q, and the lent list of answers
pub data ManyCall : Type 0 where
  one : Call → ManyCall
  all : List (ℕ × ℕ) → List ℕ → ManyCall

-- messages end to end
unfoldable pub end_to_end : List (List ℕ) → List ℕ
end_to_end [] = []
end_to_end (m ∷ ms) = m ++ end_to_end ms

-- promised: messages in layout that stand end to end are parted into just these
abbrev pub PartedBack : Type 0
PartedBack = (ms : List (List ℕ)) → AllIn (λ m. in_layout m ≡ true) ms → messages_in (end_to_end ms) ≡ ms

-- the entries of a list of answers, each as that of a delivery
unfoldable pub deliveries_told : List ℕ → List Answer
deliveries_told [] = []
deliveries_told (r ∷ rs) = delivery r ∷ deliveries_told rs

-- the deliveries that it stands for
unfoldable pub deliveries : List (ℕ × ℕ) → List Call
deliveries [] = []
deliveries (e ∷ es) = deliver e.0 e.1 ∷ deliveries es

-- every call that a list names, and those that it makes: a deliver_all with a list of answers too short for its messages delivers none
unfoldable pub named_by : ManyCall → List Call
named_by (one c) = c ∷ []
named_by (all es answers) = deliveries es

unfoldable pub made_by : ManyCall → List Call
made_by (one c) = c ∷ []
made_by (all es answers) = cond (leb (length es) (length answers) && leb (length es) max_messages) (deliveries es) []

unfoldable pub named : List ManyCall → List Call
named [] = []
named (c ∷ cs) = named_by c ++ named cs

unfoldable pub made : List ManyCall → List Call
made [] = []
made (c ∷ cs) = made_by c ++ made cs

module _ (run : Run) where
  unfoldable pub messages_of : List (ℕ × ℕ) → List (List ℕ)
  messages_of [] = []
  messages_of (e ∷ es) = message_of run e.0 e.1 ∷ messages_of es

  -- what a call does to the area, and what it answers: deliver_all one answer for each message
  unfoldable pub area_after_many : List ℕ → ManyCall → List ℕ
  area_after_many a (one c) = area_after run a c
  area_after_many a (all es answers) = (deliver_all_of a (end_to_end (messages_of es)) answers).1.0

  unfoldable pub answers_of_many : List ℕ → ManyCall → List Answer
  answers_of_many a (one c) = answer_of run a c ∷ []
  answers_of_many a (all es answers) =
      deliveries_told
      (take (deliver_all_of a (end_to_end (messages_of es)) answers).0.count (deliver_all_of a (end_to_end (messages_of es)) answers).1.1)

  unfoldable pub area_after_manys : List ℕ → List ManyCall → List ℕ
  area_after_manys a [] = a
  area_after_manys a (c ∷ cs) = area_after_manys (area_after_many a c) cs

  unfoldable pub answers_of_manys : List ℕ → List ManyCall → List Answer
  answers_of_manys a [] = []
  answers_of_manys a (c ∷ cs) = answers_of_many a c ++ answers_of_manys (area_after_many a c) cs

  -- the area and all answers are those of the single calls
  pub record AsSingle (b : List ℕ) (cs : List ManyCall) : Type 0 where
    pub area : area_after_manys (opened run b).1 cs ≡ bytes_after run b (made cs)
    pub answers : answers_of_manys (opened run b).1 cs ≡ answers_of run (opened run b).1 (made cs)

-- Demand 3, where any run of deliveries is one deliver_all: the areas and the answers are those of the lists of single calls, and of these demand 3 is so
abbrev pub Demand3Runs : Type 0
Demand3Runs =
    (run : Run) → Setting run → (b c : List ℕ) → size run ≤ length b → size run ≤ length c
    → (cs ds : List ManyCall) → AllBuilt run (named cs) → AllBuilt run (named ds)
    → TwoLists run b c (made cs) (made ds) × (AsSingle run b cs × AsSingle run c ds)
