-- The words of heard senders, and areas, over their number.
use Prim.Native.Nat.{ℕ, zero, suc, ◌+◌, ◌*◌, ◌/◌, ◌%◌, ◌≤◌, ◌<◌}
use native.Mathlib.Nat.{mod-lt}
use native.Mathlib.Omega.{arith}
use mathlib.Core.Path.{◌≡◌, refl, sym, ap, fun_ext, ◌∙◌}
use mathlib.Core.Bool.{Bool, true, ◌&&◌, and-false}
use mathlib.Core.List.{List}
use lib.Dec.{eqb}
use lib.ListN.{length, take, drop}
use lib.Seq.{take_at, drop_at}
use borrow.Author.Tests.{eqb-true, eq-eqb}
use Rattle.encoding.specs.Numbers.{le_value, le_bytes}
use Rattle.encoding.specs.Pieces.{piece}
use Rattle.encoding.specs.Below.{any_below}
use Rattle.encoding.proofs.Below.{either, iff_eq, and_fst, and_snd, any_at, any_intro, any_none}
use Rattle.encoding.proofs.Numbers.{bytes_length, value_bytes}
use Rattle.offsets.proofs.Tables.{ranks_within}
use Rattle.bits.specs.Bits.{bit_of}
use Rattle.offsets.specs.Table.{ranks, trees, tree_count}
use Rattle.mesh.specs.Mesh.{mesh_trees, mesh_core}
use Rattle.part.specs.Ghosts.{is_ghost}
use Rattle.message.specs.Rule.{sends_ghost}
use Rattle.message.specs.Means.{ghost_sender}
use Rattle.message.proofs.Ghosts.{no_ghost_sender, ghost_sender_lt, one_ghost_sender}
use Rattle.area.specs.Layout.{heard_words, area_header_bytes, word_of, words_of, area_with}
use Rattle.area.proofs.Headers.{few_words, many_words, words_enough_lem}
use Rattle.area_open.proofs.Opening.{area_header_length}
use Rattle.area_theorems.proofs.Joined.{slots_length, slots_at}
use Rattle.area_theorems.proofs.Heard.{word_small, word_bit, words_slots, words_same}
use Rattle.repartition.specs.Run.{Run, Setting}
use Rattle.repartition.specs.Demand.{heard_by}
use Rattle.repartition.specs.Words.{BothWidths, EqualWords, area_over, WordsOfArea, ghost_came, ghosts_came, area_heard, AreaAfter, EqualAreas}
use Rattle.repartition.proofs.Canonical.{ghost_heard, ghosts_heard, canonical}
use Rattle.repartition.proofs.Demand.{area_is}

pub both_widths : BothWidths
both_widths P e = (few_words P, many_words P, words_enough_lem P (ranks_within P e).1)

-- bit s mod 64 of word s div 64
abbrev bit_in : List ℕ → ℕ → Bool
bit_in ws s = bit_of (le_value (piece ws (8 * (s / 64)) 8)) (s % 64)

-- sender s is read back from W words
bit_read : (H : ℕ → Bool) (W s : ℕ) → s < 64 * W → bit_in (words_of H W) s ≡ H s
bit_read H W s h =
    let w : ℕ = s / 64 in
    let e : 64 * w + s % 64 ≡ s = omega arith in
    let p : piece (words_of H W) (8 * w) 8 ≡ le_bytes 8 (word_of H w) =
    ap (λ (l : List ℕ). piece l (8 * w) 8) (words_slots H W) ∙ slots_at (λ v. le_bytes 8 (word_of H v)) 8 W (λ v l. bytes_length 8 (word_of H v)) w (omega arith) in
    rw (p, value_bytes 8 (word_of H w) (word_small H w)) (word_bit H w (s % 64) (mod-lt s (omega arith)) ∙ ap H e)

pub equal_words : EqualWords
equal_words P W l H₁ H₂ b₁ b₂ = (
  λ same. words_same H₁ H₂ W (λ s h. iff_eq (H₁ s) (H₂ s) (λ t. sym (same s (b₁ s t)) ∙ t) (λ t. same s (b₂ s t) ∙ t)),
  λ e s h. sym (bit_read H₁ W s (omega arith)) ∙ (ap (λ (ws : List ℕ). bit_in ws s) e ∙ bit_read H₂ W s (omega arith)),
)

-- ---- areas

pub words_of_area : WordsOfArea
unfolding area_with area_over
words_of_area epoch dimension old new rank heard slot g ghosts = refl

words_long : (H : ℕ → Bool) (W : ℕ) → length (words_of H W) ≡ 8 * W
words_long H W = rw (words_slots H W) (slots_length (λ w. le_bytes 8 (word_of H w)) 8 W (λ w l. bytes_length 8 (word_of H w)))

-- the words are read back from an area, after its header and both tables
words_in : (W epoch dimension : ℕ) (old new : List ℕ) (rank : ℕ) (H : ℕ → Bool) (slot : ℕ → List ℕ) (g : ℕ) (ghosts : List ℕ)
    → take (8 * W) (drop (length new) (drop (length old) (drop 32 (area_over W epoch dimension old new rank H slot g ghosts)))) ≡ words_of H W
unfolding area_over
words_in W epoch dimension old new rank H slot g ghosts =
    rw (
      drop_at (area_header_bytes epoch dimension (trees old) (ranks old) rank (tree_count new rank) g) _ 32 (area_header_length epoch dimension (trees old) (ranks old) rank (tree_count new rank) g),
      drop_at old _ (length old) refl,
      drop_at new _ (length new) refl,
    )
    (take_at (words_of H W) _ (8 * W) (words_long H W))

module _ (run : Run) where
  -- the words of an area
  abbrev words_of_area_lem : ℕ → List ℕ → List ℕ
  words_of_area_lem W a = take (8 * W) (drop (length run.new) (drop (length run.old) (drop 32 a)))

  words-heard : (H : ℕ → Bool) (W : ℕ) → words_of_area_lem W (area_heard run H W) ≡ words_of H W
  unfolding area_heard
  words-heard H W = words_in W _ _ run.old run.new _ H _ _ _

  -- equal words of two sets of ranks, equal sets
  sets-equal : (W : ℕ) → ranks run.old ≤ 64 * W → (H₁ H₂ : ℕ → Bool) → ((s : ℕ) → H₁ s ≡ true → s < ranks run.old) → ((s : ℕ) → H₂ s ≡ true → s < ranks run.old) → words_of H₁ W ≡ words_of H₂ W → (s : ℕ) → H₁ s ≡ H₂ s
  sets-equal W l H₁ H₂ b₁ b₂ e s =
      let same = (equal_words (ranks run.old) W l H₁ H₂ b₁ b₂).1 e in
      iff_eq (H₁ s) (H₂ s) (λ t. sym (same s (b₁ s t)) ∙ t) (λ t. same s (b₂ s t) ∙ t)

pub equal_areas : EqualAreas
equal_areas run W l H₁ H₂ b₁ b₂ = (
  λ same. ap (λ (H : ℕ → Bool). area_heard run H W) (fun_ext same),
  λ e. sets-equal run W l H₁ H₂ b₁ b₂ (sym (words-heard run H₁ W) ∙ (ap (words_of_area_lem run W) e ∙ words-heard run H₂ W)),
)

-- ---- the area of demand 3

module _ (run : Run) (S : Setting run) (H : ℕ → Bool) where
  abbrev core : ℕ → List ℕ
  core = mesh_core run.mesh

  abbrev P : ℕ
  P = ranks run.old

  -- a ghost's one sender is heard exactly where a heard rank sends it
  ghost-came : (g : ℕ) → ghost_heard run H g ≡ ghost_came run H g
  unfolding ghost_heard ghost_came
  ghost-came g =
      either (is_ghost core run.new run.rank g)
      (λ t.
      let q : ℕ = ghost_sender core run.old run.new run.rank g in
      let one : (p : ℕ) → sends_ghost core run.old run.new p run.rank g ≡ eqb p q = one_ghost_sender core run.old run.new S.tables run.rank g S.rank_below t in
      let below : q < P = ghost_sender_lt core run.old run.new S.tables run.rank g S.rank_below t in
      let sent : ℕ → Bool = λ p. H p && sends_ghost core run.old run.new p run.rank g in
      rw t
      (iff_eq (H q) (any_below P sent)
      (λ h. any_intro P sent q below (rw (h, one q) (eq-eqb q q refl)))
      (λ a.
      let w = any_at P sent a in
      let is : w.0 ≡ q = eqb-true w.0 q (sym (one w.0) ∙ and_snd (H w.0) _ w.2) in
      rw is at (and_fst (H w.0) _ w.2))))
      (λ t.
      rw t
      (sym (any_none P (λ p. H p && sends_ghost core run.old run.new p run.rank g)
      (λ p h. rw (no_ghost_sender core run.old run.new p run.rank g t, and-false)))))

  ghosts-came : (k : ℕ) → ghosts_heard run H k ≡ ghosts_came run H k
  unfolding ghosts_heard ghosts_came
  ghosts-came zero = refl
  ghosts-came (suc k) = rw (ghosts-came k, ghost-came k)

  area-came : canonical run H ≡ area_heard run H (heard_words P)
  unfolding canonical area_heard area_with area_over
  area-came = rw (fun_ext ghost-came, ghosts-came (mesh_trees run.mesh))

pub area_after_lem : AreaAfter
area_after_lem run S b long cs built = area_is run S b long cs built ∙ area-came run S (heard_by run cs)
