-- Document 02, C-17: how many words an area has for its heard senders, and that equal areas mean equal sets of heard senders, whatever the number of words.
use Rattle.std.specs.Prelude.{ℕ, zero, suc, ◌+◌, ◌-◌, ◌*◌, ◌≤◌, ◌<◌, Bool, true, cond, ◌&&◌, ◌≡◌, List, [], ◌++◌, replicate, take}
use Rattle.encoding.specs.Below.{any_below, count_below}
use Rattle.offsets.specs.Limits.{rank_count_ok}
use Rattle.offsets.specs.Table.{ranks, trees, first_tree, tree_count}
use Rattle.pattern.specs.Sender.{sender}
use Rattle.records.specs.Shape.{faces_in}
use Rattle.records.specs.Record.{core_size, tree_size}
use Rattle.mesh.specs.Mesh.{mesh_dimension, mesh_trees, mesh_core, mesh_record}
use Rattle.message.specs.Rule.{sends_ghost}
use Rattle.area.specs.Layout.{heard_words, ghost_bound, area_header_bytes, words_of, slots_of, area_with}
use Rattle.repartition.specs.Run.{Run}
use Rattle.repartition.specs.Demand.{size, heard_by, bytes_after}
use Rattle.repartition.specs.AfterList.{EveryList}

-- 16 words up to 1,024 ranks, 256 above, and a bit for each rank
abbrev pub BothWidths : Type 0
BothWidths = (P : ℕ) → rank_count_ok P ≡ true → (P ≤ 1024 → heard_words P ≡ 16) × (1024 < P → heard_words P ≡ 256) × (P ≤ 64 * heard_words P)

-- the senders that are heard are ranks
abbrev pub RanksAlone : ℕ → (ℕ → Bool) → Type 0
RanksAlone P H = (s : ℕ) → H s ≡ true → s < P

-- W words with a bit for each of P ranks: those of two sets of ranks are equal exactly where the sets are
abbrev pub EqualWords : Type 0
EqualWords =
    (P W : ℕ) → P ≤ 64 * W → (H₁ H₂ : ℕ → Bool) → RanksAlone P H₁ → RanksAlone P H₂
    → (((s : ℕ) → s < P → H₁ s ≡ H₂ s) → words_of H₁ W ≡ words_of H₂ W) × (words_of H₁ W ≡ words_of H₂ W → (s : ℕ) → s < P → H₁ s ≡ H₂ s)

-- ---- areas with W words

-- an area as document 01 lays it out, with W words for the heard senders
unfoldable pub area_over : ℕ → ℕ → ℕ → List ℕ → List ℕ → ℕ → (ℕ → Bool) → (ℕ → List ℕ) → ℕ → List ℕ → List ℕ
area_over W epoch dimension old new rank heard slot g ghosts =
    area_header_bytes epoch dimension (trees old) (ranks old) rank (tree_count new rank) g
    ++ (old ++ (new ++ (words_of heard W ++ (slots_of slot (tree_count new rank)
    ++ (ghosts ++ replicate (core_size * (ghost_bound (faces_in dimension) (tree_count new rank) - g)) 0)))))

-- the areas of the calls are those with `heard_words P` words
abbrev pub WordsOfArea : Type 0
WordsOfArea =
    (epoch dimension : ℕ) (old new : List ℕ) (rank : ℕ) (heard : ℕ → Bool) (slot : ℕ → List ℕ) (g : ℕ) (ghosts : List ℕ)
    → area_with epoch dimension old new rank heard slot g ghosts ≡ area_over (heard_words (ranks old)) epoch dimension old new rank heard slot g ghosts

-- ---- the area of a run in which the senders H are heard

module _ (run : Run) (H : ℕ → Bool) where
  -- tree slot i: the mesh's record where its sender is heard, else zero
  unfoldable pub slot_heard : ℕ → List ℕ
  slot_heard i =
      let k : ℕ = first_tree run.new run.rank + i in
      cond (H (sender run.old k run.rank)) (mesh_record run.mesh k) (replicate tree_size 0)

  -- a heard rank sends ghost g by the rule
  unfoldable pub ghost_came : ℕ → Bool
  ghost_came g = any_below (ranks run.old) (λ p. H p && sends_ghost (mesh_core run.mesh) run.old run.new p run.rank g)

  -- the cores of those below k, ascending
  unfoldable pub ghosts_came : ℕ → List ℕ
  ghosts_came zero = []
  ghosts_came (suc k) = ghosts_came k ++ cond (ghost_came k) (mesh_core run.mesh k) []

  -- the area with W words
  unfoldable pub area_heard : ℕ → List ℕ
  area_heard W =
      area_over W run.epoch (mesh_dimension run.mesh) run.old run.new run.rank H slot_heard
      (count_below (mesh_trees run.mesh) ghost_came) (ghosts_came (mesh_trees run.mesh))

-- with `heard_words P` words it is the area of demand 3: that after every list of calls, by who is heard
abbrev pub AreaAfter : Type 0
AreaAfter = EveryList (λ run b cs. take (size run) (bytes_after run b cs) ≡ area_heard run (heard_by run cs) (heard_words (ranks run.old)))

-- with any number of words that has a bit for each rank, two areas are equal in every byte exactly where the same senders are heard
abbrev pub EqualAreas : Type 0
EqualAreas =
    (run : Run) (W : ℕ) → ranks run.old ≤ 64 * W → (H₁ H₂ : ℕ → Bool) → RanksAlone (ranks run.old) H₁ → RanksAlone (ranks run.old) H₂
    → (((s : ℕ) → H₁ s ≡ H₂ s) → area_heard run H₁ W ≡ area_heard run H₂ W) × (area_heard run H₁ W ≡ area_heard run H₂ W → (s : ℕ) → H₁ s ≡ H₂ s)
