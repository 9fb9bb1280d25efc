-- The links between faces make a sound mesh where no three faces have one vertex set.
use Prim.Native.Nat.{ℕ, suc, ◌+◌, ◌-◌, ◌*◌, ◌/◌, ◌%◌, ◌≤◌, ◌<◌}
use mathlib.Core.Path.{◌≡◌, refl, sym, ap, ◌∙◌}
use mathlib.Core.Bool.{true, false, not, ◌&&◌}
use mathlib.Core.List.{List, [], ◌∷◌}
use native.Mathlib.Omega.{arith}
use lib.Dec.{ltb, eqb}
use lib.ListN.{length}
use borrow.Author.Tests.{lt-ltb, eqb-true, eqb-false, ne_eqb, not-true, le-leb}
use Rattle.encoding.specs.Below.{any_below}
use Rattle.encoding.proofs.Below.{tests, either, clash, and_fst, and_snd, and_intro, any_intro}
use Rattle.offsets.specs.Limits.{tree_count_ok}
use Rattle.records.specs.Shape.{face_count, corners_of, corners}
use Rattle.mesh_build.specs.Build.{NewLink, face_row, tree_rows, LinksFit}
use Rattle.ele_text.specs.Text.{max_triangles}
use Rattle.ele_faces.specs.Faces.{first_vertex, same_set, three_faces, meets_face, partner, turn_of, face_link}
use Rattle.ele_mesh.specs.Means.{link_row, Drawn}
use Rattle.ele_faces.proofs.Pairs.{same_turned, same_on, turn_turned}
use Rattle.ele_mesh.proofs.Latest.{latest_most, latest_passes, latest_least}

-- ---- three faces

module _ (vs : List ℕ) where
  -- in ascending order
  pub three_rising : (f g h : ℕ) → f < g → g < h → h < length vs → same_set vs h g ≡ true → same_set vs h f ≡ true → three_faces vs ≡ true
  unfolding three_faces
  three_rising f g h l m n p q =
      any_intro (length vs) (λ h. any_below h (λ g. same_set vs h g && any_below g (same_set vs h))) h n
      (any_intro h (λ g. same_set vs h g && any_below g (same_set vs h)) g m (and_intro (same_set vs h g) _ p (any_intro g (same_set vs h) f l q)))

  -- in any order
  three-any : (x y z : ℕ) → x < length vs → y < length vs → z < length vs → (y ≡ x → ⊥) → (z ≡ x → ⊥) → (y ≡ z → ⊥) → same_set vs x y ≡ true → same_set vs x z ≡ true
      → three_faces vs ≡ true
  three-any x y z lx ly lz nyx nzx nyz p q =
      let yx : same_set vs y x ≡ true = same_turned vs x y p in
      let zx : same_set vs z x ≡ true = same_turned vs x z q in
      let yz : same_set vs y z ≡ true = same_on vs y x z yx q in
      let zy : same_set vs z y ≡ true = same_on vs z x y zx p in
      either (ltb x y)
      (λ a. either (ltb y z)
      (λ b. three_rising x y z (omega tests) (omega tests) lz zy zx)
      (λ b. either (ltb x z) (λ c. three_rising x z y (omega tests) (omega tests) ly yz yx) (λ c. three_rising z x y (omega tests) (omega tests) ly yx yz)))
      (λ a. either (ltb y z)
      (λ b. either (ltb x z) (λ c. three_rising y x z (omega tests) (omega tests) lz zx zy) (λ c. three_rising y z x (omega tests) (omega tests) lx q p))
      (λ b. three_rising z y x (omega tests) (omega tests) lx p q))

-- ---- partners

pub meets_other : (vs : List ℕ) (f g : ℕ) → meets_face vs f g ≡ true → g ≡ f → ⊥
unfolding meets_face
meets_other vs f g e = eqb-false g f (not-true (eqb g f) (and_fst (not (eqb g f)) _ e))

pub meets_same : (vs : List ℕ) (f g : ℕ) → meets_face vs f g ≡ true → same_set vs f g ≡ true
unfolding meets_face
meets_same vs f g e = and_snd (not (eqb g f)) _ e

pub meets_intro : (vs : List ℕ) (f g : ℕ) → (g ≡ f → ⊥) → same_set vs f g ≡ true → meets_face vs f g ≡ true
unfolding meets_face
meets_intro vs f g n e = and_intro (not (eqb g f)) (same_set vs f g) (ap not (ne_eqb g f n)) e

module _ (vs : List ℕ) (f : ℕ) where
  pub partner_most : partner vs f ≤ length vs
  unfolding partner
  partner_most = latest_most (length vs) (meets_face vs f)

  pub partner_meets : (g : ℕ) → partner vs f ≡ suc g → meets_face vs f g ≡ true
  unfolding partner
  partner_meets g e = latest_passes (length vs) (meets_face vs f) g e

  partner-there : (g : ℕ) → g < length vs → meets_face vs f g ≡ true → g < partner vs f
  unfolding partner
  partner-there g l e = latest_least (length vs) (meets_face vs f) g l e

  -- none, or one
  pub partner_cases : {C : Type 0} → (partner vs f ≡ 0 → C) → ((g : ℕ) → partner vs f ≡ suc g → C) → C
  partner_cases h k = either (eqb (partner vs f) 0) (λ e. h (eqb-true (partner vs f) 0 e)) (λ e. k (partner vs f - 1) (let n : (partner vs f ≡ 0) → ⊥ = eqb-false (partner vs f) 0 e in omega arith))

  -- a face that meets f is its partner
  pub partner_is : three_faces vs ≡ false → f < length vs → (g : ℕ) → g < length vs → meets_face vs f g ≡ true → partner vs f ≡ suc g
  partner_is none l g m e =
      partner_cases
      (λ z. absurd (omega (arith, partner-there g m e)))
      (λ h z. either (eqb g h)
      (λ q. z ∙ ap suc (sym (eqb-true g h q)))
      (λ q. clash
      (three-any vs f g h l m (omega (arith, partner_most)) (meets_other vs f g e) (meets_other vs f h (partner_meets h z)) (eqb-false g h q) (meets_same vs f g e) (meets_same vs f h (partner_meets h z)))
      none))

-- a face is its partner's partner
partner_back : (vs : List ℕ) → three_faces vs ≡ false → (f g : ℕ) → f < length vs → partner vs f ≡ suc g → partner vs g ≡ suc f
partner_back vs none f g l e =
    let m : meets_face vs f g ≡ true = partner_meets vs f g e in
    partner_is vs g none (omega (arith, partner_most vs f)) f l (meets_intro vs g f (λ q. meets_other vs f g m (sym q)) (same_turned vs f g (meets_same vs f g m)))

-- ---- links

module _ (vs : List ℕ) (t i : ℕ) where
  pub link_alone : partner vs (3 * t + i) ≡ 0 → face_link vs t i ≡ record { neighbour = t; face = i; orientation = 0 }
  unfolding face_link
  link_alone e = rw e

  pub link_joined : (g : ℕ) → partner vs (3 * t + i) ≡ suc g → face_link vs t i ≡ record { neighbour = g / 3; face = g % 3; orientation = turn_of vs (3 * t + i) g }
  unfolding face_link
  link_joined g e = let s : suc g - 1 ≡ g = omega arith in rw (e, s, ne_eqb (suc g) 0 (λ q. omega arith))

  pub link_none : 0 ≡ partner vs (3 * t + i) → t ∷ i ∷ 0 ∷ [] ≡ link_row (face_link vs t i)
  link_none e = rw (link_alone (sym e))

  pub link_some : {g o : ℕ} → suc g ≡ partner vs (3 * t + i) → o ≡ turn_of vs (3 * t + i) g → g / 3 ∷ g % 3 ∷ o ∷ [] ≡ link_row (face_link vs t i)
  link_some {g} {o} e q = rw (link_joined g (sym e), q)

pub three_rows : (link : ℕ → NewLink) {a b c : List ℕ} → a ≡ link_row (link 0) → b ≡ link_row (link 1) → c ≡ link_row (link 2)
    → a ∷ b ∷ c ∷ (4294967295 ∷ 0 ∷ 0 ∷ []) ∷ (4294967295 ∷ 0 ∷ 0 ∷ []) ∷ (4294967295 ∷ 0 ∷ 0 ∷ []) ∷ [] ≡ tree_rows 1 link
unfolding tree_rows face_row face_count
three_rows link p q r = rw (p, q, r)

turn_below : (vs : List ℕ) (f g : ℕ) → turn_of vs f g < 2
unfolding turn_of
turn_below vs f g = either (eqb (first_vertex vs f) (first_vertex vs g)) (λ p. rw p (omega arith)) (λ p. rw p (omega arith))

pub three_faces_lem : face_count 1 ≡ 3
unfolding face_count
three_faces_lem = refl

corners_two : (f : ℕ) → f < 3 → corners 1 f ≡ 2
unfolding corners corners_of face_count
corners_two f h = rw (lt-ltb f 3 h)

module _ (vs : List ℕ) (n : ℕ) (some : 1 ≤ n) (most : n ≤ max_triangles) (many : length vs ≡ 3 * n) (pairs : three_faces vs ≡ false) where
  inside : (k f : ℕ) → k < n → f < 3 → 3 * k + f < length vs
  inside k f h l = omega arith

  below : (k f : ℕ) → k < n → f < 3 → (face_link vs k f).neighbour < n
  below k f h l =
      partner_cases vs (3 * k + f)
      (λ z. rw (link_alone vs k f z) h)
      (λ g z. rw (link_joined vs k f g z) (omega (arith, partner_most vs (3 * k + f))))

  turned : (k f : ℕ) → k < n → f < 3 → (face_link vs k f).orientation < corners 1 f
  turned k f h l =
      partner_cases vs (3 * k + f)
      (λ z. rw (link_alone vs k f z, corners_two f l) (omega arith))
      (λ g z. rw (link_joined vs k f g z, corners_two f l) (turn_below vs (3 * k + f) g))

  alike : (k f : ℕ) → k < n → f < 3 → corners 1 f ≡ corners 1 (face_link vs k f).face
  alike k f h l =
      partner_cases vs (3 * k + f)
      (λ z. rw (link_alone vs k f z))
      (λ g z. rw (link_joined vs k f g z, corners_two f l, corners_two (g % 3) (omega arith)))

  answers : (k f : ℕ) → k < n → f < 3
      → face_link vs (face_link vs k f).neighbour (face_link vs k f).face ≡ record { neighbour = k; face = f; orientation = (face_link vs k f).orientation }
  answers k f h l =
      partner_cases vs (3 * k + f)
      (λ z. rw (link_alone vs k f z, link_alone vs k f z))
      (λ g z. rw (link_joined vs k f g z) (back g z))
    where
      back : (g : ℕ) → partner vs (3 * k + f) ≡ suc g → face_link vs (g / 3) (g % 3) ≡ record { neighbour = k; face = f; orientation = turn_of vs (3 * k + f) g }
      back g z =
          let p : 3 * (g / 3) + g % 3 ≡ g = omega arith in
          let q : partner vs (3 * (g / 3) + g % 3) ≡ suc (3 * k + f) = rw p (partner_back vs pairs (3 * k + f) g (inside k f h l) z) in
          let d : (3 * k + f) / 3 ≡ k = omega arith in
          let m : (3 * k + f) % 3 ≡ f = omega arith in
          rw (link_joined vs (g / 3) (g % 3) (3 * k + f) q, p, d, m, turn_turned vs g (3 * k + f))

  boundary : (k f : ℕ) → k < n → f < 3 → (face_link vs k f).neighbour ≡ k → (face_link vs k f).face ≡ f → (face_link vs k f).orientation ≡ 0
  boundary k f h l p q =
      partner_cases vs (3 * k + f)
      (λ z. rw (link_alone vs k f z))
      (λ g z. let a : g / 3 ≡ k = rw (link_joined vs k f g z) at p in
      let b : g % 3 ≡ f = rw (link_joined vs k f g z) at q in
      absurd (meets_other vs (3 * k + f) g (partner_meets vs (3 * k + f) g z) (omega arith)))

  pub links_fit : LinksFit 1 (face_link vs) n
  unfolding tree_count_ok
  links_fit =
      record {
        shape_there = omega arith;
        trees = and_intro _ _ (le-leb 1 n some) (le-leb n 1048576 (omega arith));
        below = λ k f h l. below k f h (rw three_faces_lem at l);
        turned = λ k f h l. turned k f h (rw three_faces_lem at l);
        alike = λ k f h l. alike k f h (rw three_faces_lem at l);
        answers = λ k f h l. answers k f h (rw three_faces_lem at l);
        boundary = λ k f h l. boundary k f h (rw three_faces_lem at l);
      }

pub drawn_fit : {vs : List ℕ} {m : ℕ} {heads links : List ℕ} {n : ℕ} → Drawn vs m heads links n → LinksFit 1 (face_link vs) n
drawn_fit {vs} {m} {heads} {links} {n} d = links_fit vs n d.some (omega (arith, d.ready.whole.most, d.many)) d.many d.pairs

pub length_on : {a b c : ℕ} → b ≡ c → a ≡ b → a ≡ c
length_on p q = q ∙ p
