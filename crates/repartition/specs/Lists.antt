-- Lists of deliver and close calls on one area: what they do, by the values in the contracts of deliver and close, and what the calls alone say.
use Rattle.std.specs.Prelude.{ℕ, ◌+◌, ◌<◌, Bool, true, false, cond, ◌&&◌, ◌||◌, ◌≡◌, List, [], ◌∷◌, leb, eqb, length}
use Rattle.encoding.specs.Answer.{write_answer}
use Rattle.encoding.specs.Below.{all_below}
use Rattle.encoding.specs.Pieces.{piece}
use Rattle.encoding.specs.declared.answer.Length.{Length}
use Rattle.offsets.specs.Table.{ranks}
use Rattle.pattern.specs.Sets.{sends_to, gets_from}
use Rattle.records.specs.Record.{tree_size, number_of}
use Rattle.mesh.specs.Mesh.{mesh_dimension}
use Rattle.part.specs.Cut.{cut_part}
use Rattle.message.specs.Layout.{message_tree_place, message_trees, message_ghosts, message_tree, message_ghost}
use Rattle.message.specs.Build.{part_message}
use Rattle.area_open.specs.Calls.{open_area_of}
use Rattle.area.specs.Deliver.{among, deliver_of}
use Rattle.area.specs.Close.{close_of}
use Rattle.repartition.specs.Run.{Run}

-- a call: deliver the message from rank p to rank q, or close into a buffer
pub data Call : Type 0 where
  deliver : ℕ → ℕ → Call
  close : List ℕ → Call

-- its answer: a refusal or 0, or the length and the buffer
pub data Answer : Type 0 where
  delivery : ℕ → Answer
  closing : Length × List ℕ → Answer

-- how many elements of a list pass a test
unfoldable pub count_in : {A : Type 0} → (A → Bool) → List A → ℕ
count_in f [] = 0
count_in f (x ∷ xs) = cond (f x) 1 0 + count_in f xs

-- something is so of each element of a list
unfoldable pub AllIn : {A : Type 0} → (A → Type 0) → List A → Type 0
AllIn Q [] = Unit {0}
AllIn Q (x ∷ xs) = Q x × AllIn Q xs

-- tree k came in a message if its number is among the trees there, a ghost if its number is among the ghosts there
unfoldable pub tree_in : ℕ → List ℕ → Bool
tree_in k m = among (message_trees m) (message_tree m) k

unfoldable pub ghost_with : ℕ → List ℕ → Bool
ghost_with k m = among (message_ghosts m) (message_ghost m) k

-- each tree record of a message that has number k is r, and each ghost record
unfoldable pub TreeIs : ℕ → List ℕ → List ℕ → Type 0
TreeIs k r m = (i : ℕ) → i < message_trees m → number_of (message_tree m i) ≡ k → piece m (message_tree_place i) tree_size ≡ r

unfoldable pub GhostIs : ℕ → List ℕ → List ℕ → Type 0
GhostIs k r m = (j : ℕ) → j < message_ghosts m → number_of (message_ghost m j) ≡ k → message_ghost m j ≡ r

-- nobody is heard
unfoldable pub nobody : ℕ → Bool
nobody s = false

module _ (run : Run) where
  -- p builds a message for q: both are ranks and p sends q a tree
  pub record Built (p q : ℕ) : Type 0 where
    pub sender_below : p < ranks run.old
    pub receiver_below : q < ranks run.old
    pub sends_tree : sends_to run.old run.new p q ≡ true

  -- every delivery of the list is the message that an old rank built
  unfoldable pub AllBuilt : List Call → Type 0
  AllBuilt [] = Unit {0}
  AllBuilt (deliver p q ∷ cs) = Built p q × AllBuilt cs
  AllBuilt (close out ∷ cs) = AllBuilt cs

  -- the message that p builds for q from its part of the mesh
  unfoldable pub message_of : ℕ → ℕ → List ℕ
  message_of p q = part_message (cut_part run.mesh run.old p) run.old run.new p q run.epoch

  -- the open call on a buffer, for the mesh's dimension: its answer, and the buffer after it
  unfoldable pub opened : List ℕ → Length × List ℕ
  opened buffer = open_area_of run.old run.new run.rank (mesh_dimension run.mesh) run.epoch buffer

  -- what a call does to the area
  unfoldable pub area_after : List ℕ → Call → List ℕ
  area_after a (deliver p q) = (deliver_of a (message_of p q)).1
  area_after a (close out) = a

  -- and what it answers
  unfoldable pub answer_of : List ℕ → Call → Answer
  answer_of a (deliver p q) = delivery (deliver_of a (message_of p q)).0
  answer_of a (close out) = closing (close_of a out)

  -- each call gets the area as the last one left it
  unfoldable pub area_after_all : List ℕ → List Call → List ℕ
  area_after_all a [] = a
  area_after_all a (c ∷ cs) = area_after_all (area_after a c) cs

  unfoldable pub answers_of : List ℕ → List Call → List Answer
  answers_of a [] = []
  answers_of a (c ∷ cs) = answer_of a c ∷ answers_of (area_after a c) cs

  -- the messages that a list's calls accept, in their order
  unfoldable pub accepted_by : List ℕ → List Call → List (List ℕ)
  accepted_by a [] = []
  accepted_by a (deliver p q ∷ cs) =
      cond (eqb (deliver_of a (message_of p q)).0 0) (message_of p q ∷ accepted_by (area_after a (deliver p q)) cs) (accepted_by (area_after a (deliver p q)) cs)
  accepted_by a (close out ∷ cs) = accepted_by (area_after a (close out)) cs

  -- who is heard after a call, and after a list: the senders whose messages for the rank were delivered
  unfoldable pub hears : (ℕ → Bool) → Call → ℕ → Bool
  hears H (deliver p q) s = H s || (eqb q run.rank && eqb s p)
  hears H (close out) s = H s

  unfoldable pub hears_all : (ℕ → Bool) → List Call → ℕ → Bool
  hears_all H [] = H
  hears_all H (c ∷ cs) = hears_all (hears H c) cs

  -- every sender of the receive set is heard
  unfoldable pub all_due : (ℕ → Bool) → Bool
  all_due H = all_below (ranks run.old) (λ s. cond (gets_from run.old run.new run.rank s) (H s) true)

  -- the part of the rank under the new table
  abbrev pub new_part : List ℕ
  new_part = cut_part run.mesh run.new run.rank

  -- what document 01 says that a call answers, once H are heard: a delivery for another rank gets 13, a repeated one 15, every other is accepted; a close gets 20 until all are heard, then 22 if its buffer is shorter than the part, else it writes the new table's part
  unfoldable pub due : (ℕ → Bool) → Call → Answer
  due H (deliver p q) = delivery (cond (eqb q run.rank) (cond (H p) 15 0) 13)
  due H (close out) = closing (write_answer (cond (all_due H) (cond (leb (length new_part) (length out)) 0 22) 20) new_part out)

  unfoldable pub due_all : (ℕ → Bool) → List Call → List Answer
  due_all H [] = []
  due_all H (c ∷ cs) = due H c ∷ due_all (hears H c) cs
