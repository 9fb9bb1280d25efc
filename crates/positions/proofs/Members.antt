-- Laws of the records of a set's members, and of a loop that writes them ascending.
use Prim.Native.Nat.{ℕ, zero, suc, ◌+◌, ◌-◌, ◌*◌, ◌≤◌, ◌<◌}
use native.Mathlib.Nat.{add-zero}
use native.Mathlib.Numerals.{add-one}
use native.Mathlib.Omega.{arith}
use mathlib.Core.Path.{◌≡◌, refl, sym, ap, ◌∙◌}
use mathlib.Core.Bool.{Bool, true, false, cond}
use mathlib.Core.List.{List, [], ◌++◌, append-nil}
use lib.ListN.{length, length-append}
use Rattle.encoding.specs.Below.{count_below}
use Rattle.encoding.specs.Pieces.{splice}
use Rattle.encoding.proofs.Below.{either, count_more, count_mono, count_none, count_add}
use Rattle.encoding.proofs.Pieces.{length_splice, splice_none, splice_then}
use Rattle.bits.specs.Bits.{least_from}
use Rattle.bits.proofs.Scanning.{from_le, from_most, from_at, from_below}
use Rattle.records.specs.Record.{core_size}
use Rattle.positions.specs.Means.{cores_below}

-- ---- the cores

module _ (core : ℕ → List ℕ) (f : ℕ → Bool) where
  pub cores_more : (k : ℕ) → cores_below core f (k + 1) ≡ cores_below core f k ++ cond (f k) (core k) []
  unfolding cores_below
  cores_more k = rw add-one

  -- where none passes, nothing is added
  pub cores_gap : (a d : ℕ) → ((i : ℕ) → a ≤ i → i < a + d → f i ≡ false) → cores_below core f (a + d) ≡ cores_below core f a
  cores_gap a zero h = ap (cores_below core f) (add-zero a)
  cores_gap a (suc d) h =
      let e : a + suc d ≡ a + d + 1 = omega arith in
      rw (e, cores_more (a + d), h (a + d) (omega arith) (omega arith)) (append-nil (cores_below core f (a + d)) ∙ cores_gap a d (λ i p q. h i p (omega arith)))

  pub count_gap : (a d : ℕ) → ((i : ℕ) → a ≤ i → i < a + d → f i ≡ false) → count_below (a + d) f ≡ count_below a f
  count_gap a d h = rw (count_add a d f, count_none d (λ i. f (a + i)) (λ i p. h (a + i) (omega arith) (omega arith))) (add-zero (count_below a f))

  module _ (long : (k : ℕ) → f k ≡ true → length (core k) ≡ core_size) where
    pub cores_long : (k : ℕ) → length (cores_below core f k) ≡ core_size * count_below k f
    unfolding cores_below count_below
    cores_long zero = refl
    cores_long (suc k) =
        either (f k)
        (λ t. rw (length-append, cores_long k, t) (omega (arith, long k t)))
        (λ t. rw (length-append, cores_long k, t) (omega arith))

-- ---- the loop

-- the next member is behind
pub member_behind : (N k : ℕ) (f : ℕ → Bool) {next : ℕ} → next ≡ least_from N (k + 1) f → k < next
member_behind N k f e = omega (arith, from_le N (k + 1) f)

-- the cores of the members below k are written, k is the next member, and goes to byte to
pub record Going (core : ℕ → List ℕ) (f : ℕ → Bool) (N : ℕ) (out₀ : List ℕ) (at to k : ℕ) (out : List ℕ) : Type 0 where
  pub within : k ≤ N
  pub member : k < N → f k ≡ true
  pub place : to ≡ at + core_size * count_below k f
  pub same_length : length out ≡ length out₀
  pub written : out ≡ splice out₀ at (cores_below core f k)

module _ (core : ℕ → List ℕ) (f : ℕ → Bool) (N : ℕ) (out₀ : List ℕ) (at : ℕ) (long : (k : ℕ) → f k ≡ true → length (core k) ≡ core_size) (room : at + core_size * count_below N f ≤ length out₀) where
  -- on to the next member from j
  onward : {to j k : ℕ} {out : List ℕ} → j ≤ N → k ≡ least_from N j f → to ≡ at + core_size * count_below j f → length out ≡ length out₀ → out ≡ splice out₀ at (cores_below core f j) → Going core f N out₀ at to k out
  onward {to} {j} {k} {out} h e place same written =
      let low : j ≤ k = rw e (from_le N j f) in
      let most : k ≤ j + (N - j) = rw e (from_most N j f) in
      let s : j + (k - j) ≡ k = omega arith in
      let none : (i : ℕ) → j ≤ i → i < j + (k - j) → f i ≡ false = λ i p q. from_below N j f i p (rw e at (rw s at q)) in
      let c : count_below k f ≡ count_below j f = ap (λ (m : ℕ). count_below m f) (sym s) ∙ count_gap core f j (k - j) none in
      let w : cores_below core f k ≡ cores_below core f j = ap (cores_below core f) (sym s) ∙ cores_gap core f j (k - j) none in
      record {
        within = omega arith;
        member = λ l. rw e (from_at N j f (rw e at l));
        place = place ∙ ap (λ (m : ℕ). at + core_size * m) (sym c);
        same_length = same;
        written = written ∙ ap (splice out₀ at) (sym w);
      }

  pub ghosts_start : {k : ℕ} → k ≡ least_from N 0 f → Going core f N out₀ at at k out₀
  unfolding cores_below count_below
  ghosts_start e = onward {j = 0} (omega arith) e (omega arith) refl (sym (splice_none out₀ at))

  module _ {to k : ℕ} {out : List ℕ} (so_far : Going core f N out₀ at to k out) (more : k < N) where
    one : count_below (k + 1) f ≡ count_below k f + 1
    one = rw (count_more k f, so_far.member more)

    pub ghosts_room : to + core_size ≤ length out
    ghosts_room = omega (arith, one, count_mono (k + 1) N f (omega arith), so_far.place, so_far.same_length)

    pub ghosts_next : {next : ℕ} {last : List ℕ} → last ≡ splice out to (core k) → next ≡ least_from N (k + 1) f → Going core f N out₀ at (to + core_size) next last
    ghosts_next {next} {last} p e =
        let m : ℕ = count_below k f in
        let W : List ℕ = cores_below core f k in
        let l : length (core k) ≡ core_size = long k (so_far.member more) in
        let d : cores_below core f (k + 1) ≡ W ++ core k = rw (cores_more core f k, so_far.member more) in
        let q : last ≡ splice out (at + core_size * m) (core k) = p ∙ ap (λ (o : ℕ). splice out o (core k)) so_far.place in
        onward {j = k + 1} (omega arith) e (rw one (omega (arith, so_far.place)))
        (ap length p ∙ length_splice out to (core k) (omega (arith, ghosts_room)) ∙ so_far.same_length)
        (splice_then out₀ at (core_size * m) W (core k) (cores_long core f long k) (omega (arith, ghosts_room, so_far.place, so_far.same_length)) so_far.written q ∙ ap (splice out₀ at) (sym d))

  pub ghosts_end : {to k : ℕ} {out : List ℕ} → Going core f N out₀ at to k out → N ≤ k → out ≡ splice out₀ at (cores_below core f N)
  ghosts_end {to} {k} s h =
      let e : k ≡ N = omega (arith, s.within) in
      rw e at s.written
