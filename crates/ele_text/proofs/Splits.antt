-- Pieces of a text by its first separator.
use Prim.Native.Nat.{ℕ, suc, ◌+◌, ◌-◌, ◌≤◌, ◌<◌}
use mathlib.Core.Path.{◌≡◌, refl, sym, ap, ◌∙◌}
use mathlib.Core.Bool.{true, false}
use mathlib.Core.List.{List, [], ◌∷◌}
use native.Mathlib.Omega.{arith}
use native.Mathlib.Nat.{add-zero, zero-add}
use native.Mathlib.Numerals.{add-one}
use lib.ListN.{length, get_or, take, drop, drop_of_length-le, length-drop}
use lib.Seq.{drop-cons, drop-drop, take_all}
use Rattle.encoding.proofs.Below.{either}
use Rattle.ele_text.specs.Text.{is_either, on_first, pieces, is_empty, first_piece}
use Rattle.ele_text.specs.Means.{until_either}

module _ (x y : ℕ) where
  pub until_most : (s : List ℕ) → until_either x y s ≤ length s
  unfolding until_either
  until_most [] = omega arith
  until_most (b ∷ s) = either (is_either x y b) (λ p. rw p (omega arith)) (λ p. rw p (omega (arith, until_most s)))

  -- a separator comes
  pub pieces_more : (s : List ℕ) → until_either x y s < length s → pieces x y s ≡ take (until_either x y s) s ∷ pieces x y (drop (suc (until_either x y s)) s)
  unfolding until_either pieces on_first
  pieces_more [] h = absurd (omega arith)
  pieces_more (b ∷ s) h =
      either (is_either x y b)
      (λ p. rw p)
      (λ p. rw (p, pieces_more s (let k : suc (until_either x y s) < suc (length s) = rw p at h in omega arith)))

  -- no separator comes
  pub pieces_last : (s : List ℕ) → length s ≤ until_either x y s → pieces x y s ≡ s ∷ []
  unfolding until_either pieces on_first
  pieces_last [] h = refl
  pieces_last (b ∷ s) h =
      either (is_either x y b)
      (λ p. absurd (let k : suc (length s) ≤ 0 = rw p at h in omega arith))
      (λ p. rw (p, pieces_last s (let k : suc (length s) ≤ suc (until_either x y s) = rw p at h in omega arith)))

  -- ---- a walk to the first separator, i bytes passed

  abbrev pub Passed : List ℕ → ℕ → Type 0
  Passed s i = (i ≤ length s) × (until_either x y s ≡ i + until_either x y (drop i s))

  pub until_none : (s : List ℕ) → Passed s 0
  until_none s = (omega arith, sym (zero-add (until_either x y s)))

  -- the separator stands here
  pub until_here : (s : List ℕ) (i : ℕ) → Passed s i → i < length s → is_either x y (get_or s i 0) ≡ true → i ≡ until_either x y s
  unfolding until_either
  until_here s i h l e = sym (h.1 ∙ rw (drop-cons s i 0 l, e, add-zero))

  -- it doesn't
  pub until_on : (s : List ℕ) (i : ℕ) → Passed s i → i < length s → is_either x y (get_or s i 0) ≡ false → Passed s (i + 1)
  unfolding until_either
  until_on s i h l e =
      let q : until_either x y (drop i s) ≡ suc (until_either x y (drop (suc i) s)) = rw (drop-cons s i 0 l, e) in
      let a : i + 1 ≡ suc i = add-one i in
      (omega arith, rw a (h.1 ∙ rw q (omega arith)))

  pub until_end : (s : List ℕ) (i : ℕ) → Passed s i → length s ≤ i → length s ≡ until_either x y s
  unfolding until_either
  until_end s i h l = let q : i ≡ length s = omega (arith, h.0) in sym (h.1 ∙ rw (drop_of_length-le s l, add-zero, q))

  -- ---- the piece at a place, u bytes long

  module _ (s : List ℕ) (at u : ℕ) (h : at ≤ length s) (e : u ≡ until_either x y (take (length s - at) (drop at s))) where
    rest : take (length s - at) (drop at s) ≡ drop at s
    rest = take_all (length s - at) (drop at s) (omega (arith, length-drop at s))

    long : u ≡ until_either x y (drop at s)
    long = e ∙ ap (until_either x y) rest

    pub split_most : at + u ≤ length s
    split_most = omega (arith, until_most (drop at s), length-drop at s, long)

    back : at + u - at ≡ u
    back = omega arith

    -- the last
    pub split_last : at + u ≡ length s → pieces x y (drop at s) ≡ take (at + u - at) (drop at s) ∷ []
    split_last q =
        pieces_last (drop at s) (omega (arith, length-drop at s, long)) ∙ rw (back, take_all u (drop at s) (omega (arith, length-drop at s)))

    -- others follow
    pub split_more : (at + u ≡ length s → ⊥) → pieces x y (drop at s) ≡ take (at + u - at) (drop at s) ∷ pieces x y (drop (at + u + 1) s)
    split_more q =
        let l : until_either x y (drop at s) < length (drop at s) = omega (arith, split_most, length-drop at s, long) in
        let n : at + u + 1 ≡ at + suc u = omega arith in
        rw (back, n) (rw (← long, drop-drop (suc u) at s) at (pieces_more (drop at s) l))

  -- what stands in front of the first separator
  pub first_piece_lem : (s : List ℕ) → first_piece (pieces x y s) ≡ take (until_either x y s) s
  unfolding until_either pieces on_first first_piece
  first_piece_lem [] = refl
  first_piece_lem (b ∷ s) = either (is_either x y b) (λ p. rw p) (λ p. rw (p, on_first_lem b (pieces x y s), first_piece_lem s))
    where
      on_first_lem : (b : ℕ) (ps : List (List ℕ)) → first_piece (on_first b ps) ≡ b ∷ first_piece ps
      on_first_lem b [] = refl
      on_first_lem b (p ∷ ps) = refl

  -- there is always a piece
  pub pieces_some : (s : List ℕ) → is_empty (pieces x y s) ≡ false
  unfolding pieces on_first is_empty
  pieces_some [] = refl
  pieces_some (b ∷ s) = either (is_either x y b) (λ p. rw p) (λ p. rw p (on_some b (pieces x y s)))
    where
      on_some : (b : ℕ) (ps : List (List ℕ)) → is_empty (on_first b ps) ≡ false
      on_some b [] = refl
      on_some b (p ∷ ps) = refl
