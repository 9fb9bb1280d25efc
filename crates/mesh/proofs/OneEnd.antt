-- Links looked at from one end. Each link leads up, down or to neither; the answer to a link up leads down, and the other way round. Where each link down obeys the rule, and as many lead up as down, each link up is the answer to one down, and obeys the rule too.
use Prim.Native.Nat.{ℕ, ◌+◌, ◌*◌, ◌/◌, ◌%◌, ◌≤◌, ◌<◌}
use native.Mathlib.Omega.{arith}
use mathlib.Core.Path.{◌≡◌, sym, ◌∙◌}
use mathlib.Core.Bool.{Bool, true, ◌&&◌}
use lib.Dec.{ltb}
use borrow.Author.Tests.{ltb-true, lt-ltb}
use Rattle.encoding.specs.Below.{count_below, sum_below}
use Rattle.encoding.proofs.Below.{and_fst, and_snd, and_intro}
use Rattle.mesh.proofs.Counting.{Paired, count_paired, all_hit, count_rows}

-- N records, of which record i has so many faces; across its face f is face `at i f` of record `to i f`
module _ (N : ℕ) (faces : ℕ → ℕ) (to at : ℕ → ℕ → ℕ) (rule : ℕ → ℕ → Bool) where
  -- every link that passes a obeys the rule
  abbrev pub Obeys : (ℕ → ℕ → Bool) → Type 0
  Obeys a = (i f : ℕ) → i < N → f < faces i → a i f ≡ true → rule i f ≡ true

  -- where a link that passes a obeys the rule, its answer passes b, leads back and obeys the rule
  abbrev pub Turns : (ℕ → ℕ → Bool) → (ℕ → ℕ → Bool) → Type 0
  Turns a b =
      (i f : ℕ)
      → i < N
      → f < faces i
      → a i f ≡ true
      → rule i f ≡ true
      → (to i f < N) × (at i f < faces (to i f)) × (to (to i f) (at i f) ≡ i) × (at (to i f) (at i f) ≡ f) × (rule (to i f) (at i f) ≡ true) × (b (to i f) (at i f) ≡ true)

  module _ (few : (i : ℕ) → faces i ≤ 6) (low : (i f : ℕ) → at i f < 6) where
    -- ---- links by number: face f of record i has 6 i + f

    -- the link that answers
    abbrev across : ℕ → ℕ
    across x = to (x / 6) (x % 6) * 6 + at (x / 6) (x % 6)

    -- a test of the links that are there
    abbrev among : (ℕ → ℕ → Bool) → ℕ → Bool
    among a x = ltb (x % 6) (faces (x / 6)) && a (x / 6) (x % 6)

    across-at : (i f : ℕ) → f < 6 → across (i * 6 + f) ≡ to i f * 6 + at i f
    across-at i f h =
        let q : (i * 6 + f) / 6 ≡ i = omega arith in
        let r : (i * 6 + f) % 6 ≡ f = omega arith in
        rw (q, r)

    among_at : (a : ℕ → ℕ → Bool) (i f : ℕ) → f < 6 → among a (i * 6 + f) ≡ (ltb f (faces i) && a i f)
    among_at a i f h =
        let q : (i * 6 + f) / 6 ≡ i = omega arith in
        let r : (i * 6 + f) % 6 ≡ f = omega arith in
        rw (q, r)

    counted : (a : ℕ → ℕ → Bool) → count_below (N * 6) (among a) ≡ sum_below N (λ i. count_below (faces i) (a i))
    counted a = count_rows N 6 faces a few (among a) (among_at a)

    paired : (a b : ℕ → ℕ → Bool) → Obeys a → Turns a b → Paired (N * 6) (among a) (among b) across
    paired a b obeys turns x h e =
        let i : ℕ = x / 6 in
        let f : ℕ = x % 6 in
        let passes : a i f ≡ true = and_snd (ltb f (faces i)) (a i f) e in
        let face : f < faces i = ltb-true f (faces i) (and_fst (ltb f (faces i)) (a i f) e) in
        let inside : i < N = omega arith in
        let s = turns i f inside face passes (obeys i f inside face passes) in
        let small : at i f < 6 = low i f in
        let below : to i f * 6 + at i f < N * 6 = omega (arith, s.0) in
        (below, among_at b (to i f) (at i f) small ∙ and_intro (ltb (at i f) (faces (to i f))) _ (lt-ltb _ _ s.1) s.5, across-at (to i f) (at i f) small ∙ (rw (s.2, s.3) (omega arith)))

    module _ (up down : ℕ → ℕ → Bool) (turn-down : Turns down up) where
      -- where all obey the rule, as many lead up as down
      pub as_many : Turns up down → Obeys up → Obeys down → sum_below N (λ i. count_below (faces i) (up i)) ≡ sum_below N (λ i. count_below (faces i) (down i))
      as_many turn_up ups downs =
          sym (counted up) ∙ count_paired (N * 6) (among up) (among down) across (paired up down ups turn_up) (paired down up downs turn-down) ∙ counted down

      -- where those down do, and as many lead up as down, all do
      pub ups_obey : Obeys down → sum_below N (λ i. count_below (faces i) (up i)) ≡ sum_below N (λ i. count_below (faces i) (down i)) → Obeys up
      ups_obey downs same i f inside face e =
          let six : f < 6 = omega (arith, few i) in
          let small : at i f < 6 = low i f in
          let answers : Paired (N * 6) (among up) (among down) across =
          all_hit (N * 6) (among down) (among up) across (paired down up downs turn-down) (counted down ∙ sym same ∙ sym (counted up)) in
          let s = answers (i * 6 + f) (omega arith) (among_at up i f six ∙ and_intro (ltb f (faces i)) _ (lt-ltb f (faces i) face) e) in
          let n : ℕ = to i f in
          let g : ℕ = at i f in
          let there : across (i * 6 + f) ≡ n * 6 + g = across-at i f six in
          let below : n * 6 + g < N * 6 = rw there at s.0 in
          let passes : (ltb g (faces n) && down n g) ≡ true = sym (among_at down n g small) ∙ (rw there at s.1) in
          let back : to n g * 6 + at n g ≡ i * 6 + f = sym (across-at n g small) ∙ (rw there at s.2) in
          let less : n < N = omega arith in
          let has : g < faces n = ltb-true g (faces n) (and_fst (ltb g (faces n)) _ passes) in
          let leads : down n g ≡ true = and_snd (ltb g (faces n)) _ passes in
          let turned = turn-down n g less has leads (downs n g less has leads) in
          let tiny : at n g < 6 = low n g in
          let same-record : to n g ≡ i = omega arith in
          let same_face : at n g ≡ f = omega arith in
          rw (same-record, same_face) at turned.4
