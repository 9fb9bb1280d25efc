-- The numbers of ghosts, as they are read and as their index needs them.
use Prim.Native.Nat.{ℕ, zero, suc, ◌+◌, ◌-◌, ◌*◌, ◌≤◌, ◌<◌}
use native.Mathlib.Omega.{arith}
use mathlib.Core.Path.{◌≡◌}
use mathlib.Core.Bool.{Bool, true, false, not, ◌&&◌}
use mathlib.Core.List.{List}
use lib.Dec.{ltb, eqb}
use lib.ListN.{length}
use borrow.Author.Tests.{ltb-true, eq-eqb, ne_eqb}
use Rattle.encoding.specs.Below.{all_below}
use Rattle.encoding.specs.Pieces.{piece}
use Rattle.encoding.proofs.Below.{tests, either, clash, below_suc, and_fst, and_snd, all_at}
use Rattle.offsets.specs.Limits.{max_trees}
use Rattle.records.specs.Record.{core_size, number_of}
use Rattle.part.specs.Means.{in_range}
use Rattle.positions.specs.Means.{Indexed, Numbered as NumbersBelow}
use Rattle.ghost_links.specs.Means.{core_from, GhostsMarked}
use Rattle.ghost_links.proofs.Checking.{number_there}
use Rattle.linked.specs.declared.layout.Records.{Records}
use Rattle.linked.specs.Means.{ghost_of, ghost_after, ghost_numbered, Laid, Marked, Numbered}

-- numbers that ascend and are below K are no more than K
module _ (number : ℕ → ℕ) (g K : ℕ) (ascends : (i j : ℕ) → i < j → j < g → number i < number j) (below : (j : ℕ) → j < g → number j < K) where
  over : (j : ℕ) → j < g → j ≤ number j
  over zero h = omega arith
  over (suc j) h = omega (arith, over j (omega arith), ascends j (suc j) (omega arith) h)

  pub few_ascending : g ≤ K
  few_ascending = either (ltb K g) (λ p. let h : K < g = omega tests in omega (arith, over K h, below K h)) (λ p. omega tests)

module _ (bs : List ℕ) (x : Records) where
  pub after_none : (j : ℕ) → j ≡ 0 → true ≡ ghost_after bs x j
  unfolding ghost_after
  after_none j h = rw (eq-eqb j 0 h)

  module _ (j : ℕ) {v : ℕ} (read : v ≡ number_of (piece bs (x.tail + core_size * j) core_size)) where
    number_is : v ≡ number_of (ghost_of bs x j)
    unfolding ghost_of core_from
    number_is = read

    pub after_read : {w : ℕ} → (j ≡ 0 → ⊥) → w ≡ number_of (piece bs (x.tail + core_size * (j - 1)) core_size) → ltb w v ≡ ghost_after bs x j
    unfolding ghost_after ghost_of core_from
    after_read h e = rw (ne_eqb j 0 h, ← read, e)

    pub numbered_read : {b a : Bool} → b ≡ in_range x.first.0 (x.first.0 + x.count) v → a ≡ ghost_after bs x j → (ltb v x.trees && not b && a) ≡ ghost_numbered bs x j
    unfolding ghost_numbered
    numbered_read p q = rw (← number_is, p, q)

  -- where every ghost passes
  module _ (all : all_below x.ghosts (ghost_numbered bs x) ≡ true) where
    abbrev number : ℕ → ℕ
    number j = number_of (ghost_of bs x j)

    abbrev inside : ℕ → Bool
    inside j = in_range x.first.0 (x.first.0 + x.count) (number j)

    three : (j : ℕ) → j < x.ghosts → (ltb (number j) x.trees && not (inside j) && ghost_after bs x j) ≡ true
    unfolding ghost_numbered
    three j h = all_at x.ghosts (ghost_numbered bs x) all j h

    low : (j : ℕ) → j < x.ghosts → number j < x.trees
    low j h = ltb-true _ _ (and_fst (ltb (number j) x.trees) _ (and_fst (ltb (number j) x.trees && not (inside j)) _ (three j h)))

    outer : (j : ℕ) → j < x.ghosts → inside j ≡ false
    outer j h =
        let e : not (inside j) ≡ true = and_snd (ltb (number j) x.trees) _ (and_fst (ltb (number j) x.trees && not (inside j)) _ (three j h)) in
        either (inside j) (λ p. clash e (rw p)) (λ p. p)

    after : (j : ℕ) → suc j < x.ghosts → number j < number (suc j)
    unfolding ghost_after
    after j h =
        let e : ghost_after bs x (suc j) ≡ true = and_snd (ltb (number (suc j)) x.trees && not (inside (suc j))) _ (three (suc j) h) in
        let other : eqb (suc j) 0 ≡ false = ne_eqb (suc j) 0 (λ w. omega arith) in
        let same : suc j - 1 ≡ j = omega arith in
        ltb-true _ _ (rw (other, same) at e)

    ascend : (i j : ℕ) → i < j → j < x.ghosts → number i < number j
    ascend i zero h l = absurd (omega arith)
    ascend i (suc j) h l = below_suc i j h (λ p. omega (arith, ascend i j p (omega arith), after j l)) (λ e. rw e (after j l))

    pub few_ghosts : x.ghosts ≤ x.trees
    few_ghosts = few_ascending number x.ghosts x.trees ascend low

    pub numbered : x.first.0 + x.count ≤ x.trees → x.trees ≤ max_trees → Numbered bs x
    numbered w k = record { within = w; least = k; few = few_ghosts; below = low; outside = outer; ascends = ascend }

  module _ (L : Laid bs x) (N : Numbered bs x) where
    -- for their index
    pub numbers_below : NumbersBelow bs x.tail x.ghosts x.trees
    unfolding ghost_of
    numbers_below =
        record {
          ascending = record {
            fits = L.ghosts;
            ascends = λ i j h l. rw (number_there bs x.tail i, number_there bs x.tail j) (N.ascends i j h l);
          };
          low = λ i h. rw (number_there bs x.tail i) (N.below i h);
        }

    pub marked : {marks behind : List ℕ} → Indexed bs x.tail x.ghosts marks behind → Marked bs x marks behind
    marked i = record { laid = L; few = omega (arith, N.few, N.least); indexed = i }

    pub ghosts_marked : {marks behind : List ℕ} → Indexed bs x.tail x.ghosts marks behind → x.trees ≤ 64 * length marks → GhostsMarked bs x.tail x.ghosts x.first.0 x.count x.trees marks behind
    ghosts_marked i h = record { fits = L.ghosts; low = L.most; room = h; indexed = i }
