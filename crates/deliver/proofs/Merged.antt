-- Two ascending lists of ghosts without a number in common, merged from the back, are the records of the numbers in either list, in order.
use Prim.Native.Nat.{ℕ, zero, suc, ◌≤◌, ◌<◌}
use native.Mathlib.Nat.{le_refl}
use native.Mathlib.Omega.{arith}
use mathlib.Core.Path.{◌≡◌, refl, sym, ap, ◌∙◌}
use mathlib.Core.Bool.{Bool, true, false, or-false}
use mathlib.Core.List.{List, [], ◌++◌, append-nil}
use lib.Dec.{ltb}
use borrow.Author.Tests.{ltb-true, ltb-false, ne_eqb}
use Rattle.encoding.specs.Below.{any_below, least_below}
use Rattle.encoding.specs.Pieces.{Bytes}
use Rattle.encoding.proofs.Below.{either, clash, below_suc}
use Rattle.records.specs.Record.{number_of}
use Rattle.area.specs.Area.{area_k, area_rank, area_ghosts, area_new, ghost_slot}
use Rattle.message.specs.Layout.{message_ghosts, message_ghost}
use Rattle.area.specs.Layout.{slots_of}
use Rattle.area.specs.Deliver.{among, one_of, ghosts_after}
use Rattle.area_theorems.proofs.Kept.{Ghosts, kept_records, records_same, among_one, among_at, among_none, in_either, of_either}
use Rattle.area_theorems.proofs.Again.{sound_ghosts}
use Rattle.area_theorems.proofs.Delivered.{Accepted, after_kept, delivery_ghosts, delivery_apart}
use Rattle.deliver.specs.Means.{merged_with, merged}

-- ---- the records of the numbers that pass

-- numbers from n on that fail add nothing
kept_cut : (n K : ℕ) (f : ℕ → Bool) (q : ℕ → List ℕ) → n ≤ K → ((k : ℕ) → n ≤ k → k < K → f k ≡ false) → kept_records K f q ≡ kept_records n f q
unfolding kept_records
kept_cut n zero f q l h = let e : n ≡ 0 = omega arith in rw e
kept_cut n (suc K) f q l h =
    below_suc n (suc K) (omega arith)
    (λ a. rw (h K (omega arith) (le_refl (suc K)), append-nil (kept_records K f q)) (kept_cut n K f q (omega arith) (λ k u v. h k u (omega arith))))
    (λ e. rw e)

-- the record x of the largest number k that passes goes last
kept_last : (K k : ℕ) (f f' : ℕ → Bool) (q q' : ℕ → List ℕ) (x : List ℕ) → k < K → f' k ≡ true → q' k ≡ x
    → ((l : ℕ) → l < k → f' l ≡ f l) → ((l : ℕ) → l < k → f' l ≡ true → q' l ≡ q l)
    → ((l : ℕ) → k < l → f' l ≡ false) → ((l : ℕ) → k ≤ l → f l ≡ false)
    → kept_records K f' q' ≡ kept_records K f q ++ x
unfolding kept_records
kept_last K k f f' q q' x h t e s u more from =
    let c : kept_records K f' q' ≡ kept_records (suc k) f' q' = kept_cut (suc k) K f' q' h (λ l a b. more l a) in
    let d : kept_records K f q ≡ kept_records k f q = kept_cut k K f q (omega arith) (λ l a b. from l a) in
    c ∙ rw (t, e, d, records_same k f' f q' q s u)

-- ---- the last of ascending records

among_past : (count : ℕ) (r : ℕ → List ℕ) (b l : ℕ) → ((j : ℕ) → j < count → number_of (r j) < b) → b ≤ l → among count r l ≡ false
among_past count r b l h k = among_none count r l (λ j i q. omega (arith, h j i))

module _ (n : ℕ) (r : ℕ → List ℕ) (up : (i : ℕ) → i < n → number_of (r i) < number_of (r n)) where
  abbrev top : ℕ
  top = number_of (r n)

  top-among : among (suc n) r (number_of (r n)) ≡ true
  top-among = among_at (suc n) r n (le_refl (suc n))

  top_one : one_of (suc n) r (number_of (r n)) ≡ r n
  top_one =
      let o = among_one (suc n) r top top-among in
      below_suc o.place n o.inside (λ a. absurd (omega (arith, up o.place a, o.numbered))) (λ e. o.is_record ∙ ap r e)

  -- below its number all is as without it
  less-among : (l : ℕ) → l < number_of (r n) → among (suc n) r l ≡ among n r l
  unfolding among any_below
  less-among l h = rw (ne_eqb (number_of (r n)) l (λ z. omega arith), or-false (among n r l))

  less_one : (l : ℕ) → among n r l ≡ true → one_of (suc n) r l ≡ one_of n r l
  unfolding among one_of least_below
  less_one l t = rw t

  -- and above it there is none
  more-among : (l : ℕ) → number_of (r n) < l → among (suc n) r l ≡ false
  more-among l h = among_past (suc n) r (suc top) l (λ j i. below_suc j n i (λ a. omega (arith, up j a)) (λ e. rw e (le_refl (suc top)))) h

-- ---- the merge

module _ (K : ℕ) (new : List ℕ) (rank g h : ℕ) (r s : ℕ → List ℕ) (G : Ghosts K new rank g r) (F : Ghosts K new rank h s)
    (apart : (j : ℕ) → j < h → among g r (number_of (s j)) ≡ false) where
  abbrev both : ℕ → ℕ → List ℕ
  both i j = kept_records K (in_either i r j s) (of_either i r j s)

  held_up : (i : ℕ) → i < g → (l : ℕ) → l < i → number_of (r l) < number_of (r i)
  held_up i a l c = G.ascends l i c a

  came_up : (j : ℕ) → j < h → (l : ℕ) → l < j → number_of (s l) < number_of (s j)
  came_up j a l c = F.ascends l j c a

  -- no held ghost has the number of one that came
  differ : (i j : ℕ) → i < g → j < h → number_of (r i) ≡ number_of (s j) → ⊥
  differ i j a b e = clash (rw e at (among_at g r i a)) (apart j b)

  held-last : (i j : ℕ) → i < g → ((l : ℕ) → l < j → number_of (s l) < number_of (r i)) → both (suc i) j ≡ both i j ++ r i
  held-last i j a low =
      let k : ℕ = number_of (r i) in
      let up = held_up i a in
      kept_last K k (in_either i r j s) (in_either (suc i) r j s) (of_either i r j s) (of_either (suc i) r j s) (r i)
      (G.below i a)
      (rw (top-among i r up))
      (rw (top-among i r up) (top_one i r up))
      (λ l c. rw (less-among i r up l c))
      (λ l c t. either (among i r l) (λ u. rw (less-among i r up l c, u) (less_one i r up l u)) (λ u. rw (less-among i r up l c, u)))
      (λ l c. rw (more-among i r up l c) (among_past j s k l low (omega arith)))
      (λ l c. rw (among_past i r k l up c) (among_past j s k l low c))

  came-last : (i j : ℕ) → j < h → ((l : ℕ) → l < i → number_of (r l) < number_of (s j)) → both i (suc j) ≡ both i j ++ s j
  came-last i j a low =
      let k : ℕ = number_of (s j) in
      let up = came_up j a in
      let none : among i r k ≡ false = among_past i r k k low (le_refl k) in
      kept_last K k (in_either i r j s) (in_either i r (suc j) s) (of_either i r j s) (of_either i r (suc j) s) (s j)
      (F.below j a)
      (rw (none, top-among j s up))
      (rw none (top_one j s up))
      (λ l c. rw (less-among j s up l c))
      (λ l c t. either (among i r l) (λ u. rw u)
      (λ u. let v : among j s l ≡ true = rw (u, less-among j s up l c) at t in rw u (less_one j s up l v)))
      (λ l c. rw (among_past i r k l low (omega arith)) (more-among j s up l c))
      (λ l c. rw (among_past i r k l low c) (among_past j s k l up c))

  both-none : both 0 0 ≡ []
  unfolding kept_records among any_below
  both-none = kept_cut 0 K (in_either 0 r 0 s) (of_either 0 r 0 s) (omega arith) (λ k a b. refl)

  merged-came : (j : ℕ) → j ≤ h → slots_of s j ≡ both 0 j
  unfolding slots_of
  merged-came zero a = sym both-none
  merged-came (suc j) a = ap (λ (l : List ℕ). l ++ s j) (merged-came j (omega arith)) ∙ sym (came-last 0 j a (λ l c. absurd (omega arith)))

  merged-next : (i : ℕ) → i < g → (rest : ℕ → List ℕ) → ((j : ℕ) → j ≤ h → rest j ≡ both i j) → (j : ℕ) → j ≤ h → merged_with s rest (r i) j ≡ both (suc i) j
  unfolding merged_with
  merged-next i a rest e zero b = ap (λ (l : List ℕ). l ++ r i) (e 0 b) ∙ sym (held-last i 0 a (λ l c. absurd (omega arith)))
  merged-next i a rest e (suc j) b =
      either (ltb (number_of (s j)) (number_of (r i)))
      (λ t. let z = ltb-true (number_of (s j)) (number_of (r i)) t in
      rw t
      (ap (λ (l : List ℕ). l ++ r i) (e (suc j) b)
      ∙ sym (held-last i (suc j) a (λ l c. below_suc l j c (λ q. omega (arith, came_up j b l q)) (λ q. rw q z)))))
      (λ t. let z = ltb-false (number_of (s j)) (number_of (r i)) t in
      let y : number_of (r i) < number_of (s j) = omega (arith, differ i j a b) in
      rw t
      (ap (λ (l : List ℕ). l ++ s j) (merged-next i a rest e j (omega arith))
      ∙ sym (came-last (suc i) j b (λ l c. below_suc l i c (λ q. omega (arith, held_up i a l q)) (λ q. rw q y)))))

  -- the merge of the first i and the first j
  pub merged_both : (i : ℕ) → i ≤ g → (j : ℕ) → j ≤ h → merged r s i j ≡ kept_records K (in_either i r j s) (of_either i r j s)
  unfolding merged
  merged_both zero a j b = merged-came j b
  merged_both (suc i) a j b = merged-next i a (merged r s i) (merged_both i (omega arith)) j b

-- the ghosts after an accepted delivery
pub merged_after : (a m : List ℕ) → Bytes a → Accepted a m → merged (ghost_slot a) (message_ghost m) (area_ghosts a) (message_ghosts m) ≡ ghosts_after a m (area_k a)
merged_after a m b A =
    let g : ℕ = area_ghosts a in
    let h : ℕ = message_ghosts m in
    merged_both (area_k a) (area_new a) (area_rank a) g h (ghost_slot a) (message_ghost m) (sound_ghosts a b A.area_ok) (delivery_ghosts a m b A) (delivery_apart a m b A) g (le_refl g) h (le_refl h)
    ∙ sym (after_kept a m (area_k a))
