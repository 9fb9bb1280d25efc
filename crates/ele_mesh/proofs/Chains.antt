-- Chains of faces with one hash, and walks along them.
use Prim.Native.Nat.{ℕ, suc, ◌+◌, ◌-◌, ◌*◌, ◌/◌, ◌≤◌, ◌<◌}
use mathlib.Core.Path.{◌≡◌, refl, sym, ap, ◌∙◌}
use mathlib.Core.Bool.{Bool, true, false, cond, not, ◌&&◌, ◌||◌}
use mathlib.Core.List.{List}
use native.Mathlib.Nat.{zero-add, add-zero}
use native.Mathlib.Numerals.{add-one}
use native.Mathlib.Omega.{arith}
use lib.Dec.{leb, eqb}
use mir.Val.{bool_byte}
use lib.ListN.{length, get_or, set, length-set, replicate}
use Rattle.std.proofs.lemmas.List.{get_or-replicate}
use lib.Seq.{get_or-set_same, get_or-set_other}
use borrow.Author.Tests.{eqb-true, eqb-false, eq-eqb, ne_eqb, le-leb, lt-leb}
use Rattle.encoding.specs.Below.{all_below, any_below, count_below}
use Rattle.encoding.proofs.Below.{either, and_snd, count_le, count_more, all_same, all_more, all_fails, all_to, any_not}
use Rattle.ele_text.specs.Text.{max_triangles}
use Rattle.ele_faces.specs.Faces.{corner_of, vertex_twice, vertices_differ, same_set, three_faces, latest_below, meets_face, partner}
use Rattle.ele_faces.specs.Means.{hash_of, Whole}
use Rattle.ele_mesh.specs.Means.{hashes, latest_hashed, Modulus, Chained, Blank, Ready}
use Rattle.ele_faces.proofs.Pairs.{same_hash}
use Rattle.ele_mesh.proofs.Latest.{latest_most, latest_passes, latest_through, count_through, two_count}

-- ---- making chains

-- f faces are chained so far
pub record Chaining (vs : List ℕ) (m : ℕ) (heads₀ links₀ heads links : List ℕ) (f : ℕ) : Type 0 where
  pub within : f ≤ length vs
  pub heads_same : length heads ≡ length heads₀
  pub links_same : length links ≡ length links₀
  pub hashed : hashes ≤ length heads
  pub faces : 3 * max_triangles ≤ length links
  pub chains : Chained vs m heads links f

pub chaining_none : (vs : List ℕ) (m : ℕ) (heads links : List ℕ) → Modulus m → hashes ≤ length heads → 3 * max_triangles ≤ length links → Blank heads hashes → Chaining vs m heads links heads links 0
unfolding latest_hashed latest_below
chaining_none vs m heads links o a b u =
    record {
      within = omega arith;
      heads_same = refl;
      links_same = refl;
      hashed = a;
      faces = b;
      chains = record { head = λ h l. u h (omega (arith, o.most)); link = λ f h. absurd (omega arith) };
    }

module _ (vs : List ℕ) (m f h : ℕ) where
  latest-same : hash_of vs m f ≡ h → latest_hashed vs m (suc f) h ≡ suc f
  unfolding latest_hashed latest_below
  latest-same e = rw (eq-eqb (hash_of vs m f) h e)

  latest-other : (hash_of vs m f ≡ h → ⊥) → latest_hashed vs m (suc f) h ≡ latest_hashed vs m f h
  unfolding latest_hashed latest_below
  latest-other e = rw (ne_eqb (hash_of vs m f) h e)

module _ (vs : List ℕ) (m : ℕ) {heads₀ links₀ heads links : List ℕ} {f : ℕ} (c : Chaining vs m heads₀ links₀ heads links f) (w : Whole vs) (o : Modulus m) (l : f < length vs) {h : ℕ} (e : h ≡ hash_of vs m f)
    (b : h < m) where
  pub chaining_more : Chaining vs m heads₀ links₀ (set heads h (f + 1)) (set links f (get_or heads h 0)) (f + 1)
  chaining_more =
      record {
        within = omega arith;
        heads_same = length-set heads h (f + 1) ∙ c.heads_same;
        links_same = length-set links f (get_or heads h 0) ∙ c.links_same;
        hashed = rw length-set c.hashed;
        faces = rw length-set c.faces;
        chains = record { head = head_more; link = link-more };
      }
    where
      head_more : (k : ℕ) → k < m → get_or (set heads h (f + 1)) k 0 ≡ latest_hashed vs m (f + 1) k
      head_more k n =
          either (eqb k h)
          (λ p. let q : k ≡ h = eqb-true k h p in
          rw (q, get_or-set_same heads h (f + 1) 0 (omega (arith, c.hashed, o.most)), add-one f) (sym (latest-same vs m f h (sym e))))
          (λ p. let q : (k ≡ h) → ⊥ = eqb-false k h p in
          rw (get_or-set_other heads h k (f + 1) 0 q, add-one f) (c.chains.head k n ∙ sym (latest-other vs m f k (λ z. q (sym z ∙ sym e)))))

      link-more : (g : ℕ) → g < f + 1 → get_or (set links f (get_or heads h 0)) g 0 ≡ latest_hashed vs m g (hash_of vs m g)
      link-more g n =
          either (eqb g f)
          (λ p. let q : g ≡ f = eqb-true g f p in
          rw (q, get_or-set_same links f (get_or heads h 0) 0 (omega (arith, c.faces, w.most)), ← e) (c.chains.head h b))
          (λ p. let q : (g ≡ f) → ⊥ = eqb-false g f p in
          rw (get_or-set_other links f g (get_or heads h 0) 0 q) (c.chains.link g (omega arith)))

pub chaining_done : (vs : List ℕ) (m : ℕ) {heads₀ links₀ heads links : List ℕ} {f : ℕ} → Chaining vs m heads₀ links₀ heads links f → Whole vs → Modulus m → length vs ≤ f → Ready vs m heads links
chaining_done vs m {heads₀} {links₀} {heads} {links} {f} c w o l =
    let e : f ≡ length vs = omega (arith, c.within) in
    record { whole = w; modulus = o; hashed = c.hashed; faces = c.faces; chains = rw (← e) c.chains }

-- ---- walking along a chain

-- a test as a number
pub one_if : (b : Bool) {c : Bool} → b ≡ c → bool_byte b ≡ cond c 1 0
one_if true e = rw (← e)
one_if false e = rw (← e)

pub one_most : (b : Bool) → bool_byte b ≤ 1
one_most true = omega arith
one_most false = omega arith

module _ (vs : List ℕ) (m : ℕ) (heads links : List ℕ) (r : Ready vs m heads links) (f : ℕ) (l : f < length vs) where
  -- the place is that of a face with the hash of f, or the end
  abbrev pub Hashed : ℕ → Type 0
  Hashed at = (c : ℕ) → at ≡ suc c → hash_of vs m c ≡ hash_of vs m f

  latest-hashed : (n : ℕ) {a : ℕ} → a ≡ latest_hashed vs m n (hash_of vs m f) → Hashed a
  unfolding latest_hashed
  latest-hashed n e c q = eqb-true (hash_of vs m c) (hash_of vs m f) (latest_passes n (λ g. eqb (hash_of vs m g) (hash_of vs m f)) c (sym e ∙ q))

  latest-below : (n : ℕ) {a : ℕ} → a ≡ latest_hashed vs m n (hash_of vs m f) → a ≤ n
  unfolding latest_hashed
  latest-below n e = omega (arith, latest_most n (λ g. eqb (hash_of vs m g) (hash_of vs m f)))

  next-hashed : (at : ℕ) {a : ℕ} → 0 < at → at ≤ length vs → Hashed at → a ≡ get_or links (at - 1) 0 → a ≡ latest_hashed vs m (at - 1) (hash_of vs m f)
  next-hashed at p n h e =
      let s : at ≡ suc (at - 1) = omega arith in
      e ∙ (r.chains.link (at - 1) (omega arith) ∙ ap (latest_hashed vs m (at - 1)) (h (at - 1) s))

  same-hashed : (g : ℕ) → same_set vs f g ≡ true → eqb (hash_of vs m g) (hash_of vs m f) ≡ true
  same-hashed g e = eq-eqb (hash_of vs m g) (hash_of vs m f) (same_hash vs m f g e)

  -- n faces with the vertex set are behind, those below `at` to come
  pub record Counted (n at : ℕ) : Type 0 where
    pub below : at ≤ f
    pub hashed : Hashed at
    pub counted : count_below f (same_set vs f) ≡ n + count_below at (same_set vs f)

  count-on : (n : ℕ) {a : ℕ} → a ≡ latest_hashed vs m n (hash_of vs m f) → count_below n (same_set vs f) ≡ count_below a (same_set vs f)
  unfolding latest_hashed
  count-on n e = count_through (same_set vs f) (λ g. eqb (hash_of vs m g) (hash_of vs m f)) n same-hashed ∙ ap (λ (k : ℕ). count_below k (same_set vs f)) (sym e)

  pub counted_start : {a : ℕ} → a ≡ get_or links f 0 → Counted 0 a
  counted_start e =
      let q = e ∙ r.chains.link f l in
      record { below = latest-below f q; hashed = latest-hashed f q; counted = count-on f q ∙ sym (zero-add (count_below _ (same_set vs f))) }

  pub counted_small : {n at : ℕ} → Counted n at → n ≤ 3 * max_triangles
  counted_small c = omega (arith, c.counted, count_le f (same_set vs f), r.whole.most)

  module _ {n at : ℕ} (c : Counted n at) (p : 0 < at) {b : ℕ} (eb : b ≡ cond (same_set vs f (at - 1)) 1 0) {a : ℕ} (ea : a ≡ get_or links (at - 1) 0) where
    next : a ≡ latest_hashed vs m (at - 1) (hash_of vs m f)
    next = next-hashed at p (omega (arith, c.below)) c.hashed ea

    pub counted_less : a < at
    counted_less = omega (arith, latest-below (at - 1) next)

    pub counted_more : Counted (n + b) a
    counted_more =
        let s : count_below at (same_set vs f) ≡ count_below (at - 1) (same_set vs f) + cond (same_set vs f (at - 1)) 1 0 = step in
        record { below = omega (arith, latest-below (at - 1) next, c.below); hashed = latest-hashed (at - 1) next; counted = omega (arith, c.counted, count-on (at - 1) next) }
      where
        step : count_below at (same_set vs f) ≡ count_below (at - 1) (same_set vs f) + cond (same_set vs f (at - 1)) 1 0
        step = let k : at ≡ at - 1 + 1 = omega arith in ap (λ (i : ℕ). count_below i (same_set vs f)) k ∙ count_more (at - 1) (same_set vs f)

  pub counted_done : {n at : ℕ} → Counted n at → at ≤ 0 → n ≡ count_below f (same_set vs f)
  unfolding count_below
  counted_done {n} {at} c z =
      let k : at ≡ 0 = omega arith in
      let s : count_below at (same_set vs f) ≡ 0 = rw k in
      omega (arith, c.counted)

  -- the face that f meets is below `at`
  pub record Sought (at : ℕ) : Type 0 where
    pub below : at ≤ length vs
    pub hashed : Hashed at
    pub sought : partner vs f ≡ latest_below at (meets_face vs f)

  meets-hashed : (g : ℕ) → meets_face vs f g ≡ true → eqb (hash_of vs m g) (hash_of vs m f) ≡ true
  unfolding meets_face
  meets-hashed g e = same-hashed g (and_snd (not (eqb g f)) _ e)

  seek-on : (n : ℕ) {a : ℕ} → a ≡ latest_hashed vs m n (hash_of vs m f) → latest_below n (meets_face vs f) ≡ latest_below a (meets_face vs f)
  unfolding latest_hashed
  seek-on n e = latest_through (meets_face vs f) (λ g. eqb (hash_of vs m g) (hash_of vs m f)) n meets-hashed ∙ ap (λ (k : ℕ). latest_below k (meets_face vs f)) (sym e)

  pub sought_start : {h : ℕ} → h ≡ hash_of vs m f → h < m → {a : ℕ} → a ≡ get_or heads h 0 → Sought a
  unfolding partner
  sought_start {h} eh b e =
      let q = e ∙ (r.chains.head h b ∙ ap (latest_hashed vs m (length vs)) eh) in
      record { below = latest-below (length vs) q; hashed = latest-hashed (length vs) q; sought = seek-on (length vs) q }

  module _ {at : ℕ} (c : Sought at) (p : 0 < at) {b : Bool} (eb : b ≡ same_set vs f (at - 1)) where
    back : at ≡ suc (at - 1)
    back = omega arith

    pub sought_found : (not (eqb (at - 1) f) && b) ≡ true → suc (at - 1) ≡ partner vs f
    unfolding latest_below meets_face
    sought_found t =
        let s : latest_below (suc (at - 1)) (meets_face vs f) ≡ suc (at - 1) = rw (← eb, t) in
        sym (c.sought ∙ (ap (λ (i : ℕ). latest_below i (meets_face vs f)) back ∙ s))

    module _ (t : (not (eqb (at - 1) f) && b) ≡ false) {a : ℕ} (ea : a ≡ get_or links (at - 1) 0) where
      onward : a ≡ latest_hashed vs m (at - 1) (hash_of vs m f)
      onward = next-hashed at p c.below c.hashed ea

      pub sought_less : a < at
      sought_less = omega (arith, latest-below (at - 1) onward)

      pub sought_more : Sought a
      unfolding latest_below meets_face
      sought_more =
          let s : latest_below (suc (at - 1)) (meets_face vs f) ≡ latest_below (at - 1) (meets_face vs f) = rw (← eb, t) in
          record {
            below = omega (arith, latest-below (at - 1) onward, c.below);
            hashed = latest-hashed (at - 1) onward;
            sought = c.sought ∙ (ap (λ (i : ℕ). latest_below i (meets_face vs f)) back ∙ (s ∙ seek-on (at - 1) onward));
          }

  pub sought_none : {at : ℕ} → Sought at → at ≤ 0 → 0 ≡ partner vs f
  unfolding latest_below
  sought_none {at} c z = let k : at ≡ 0 = omega arith in sym (c.sought ∙ rw k)

-- ---- three faces

pub edges_pairs : (vs : List ℕ) → all_below (length vs) (λ f. leb (count_below f (same_set vs f)) 1) ≡ not (three_faces vs)
unfolding three_faces
edges_pairs vs =
    all_same (length vs) (λ f. leb (count_below f (same_set vs f)) 1) (λ h. not (any_below h (λ g. same_set vs h g && any_below g (same_set vs h)))) (λ i m. two_count i (same_set vs i))
    ∙ rw (any_not (length vs) (λ h. any_below h (λ g. same_set vs h g && any_below g (same_set vs h)))) (sym (twice (all_below (length vs) (λ h. not (any_below h (λ g. same_set vs h g && any_below g (same_set vs h)))))))
  where
    twice : (b : Bool) → not (not b) ≡ b
    twice true = refl
    twice false = refl

-- ---- vertices twice

module _ (vs : List ℕ) (t : ℕ) {a b c : ℕ} (ea : a ≡ get_or vs (3 * t) 0) (eb : b ≡ get_or vs (3 * t + 1) 0) (ec : c ≡ get_or vs (3 * t + 2) 0) where
  twice-read : (eqb a b || (eqb a c || eqb b c)) ≡ vertex_twice vs t
  unfolding vertex_twice corner_of
  twice-read = rw (ea, eb, ec, add-zero)

  pub differ_more : all_below t (λ t. not (vertex_twice vs t)) ≡ true → (eqb a b || (eqb a c || eqb b c)) ≡ false → all_below (t + 1) (λ t. not (vertex_twice vs t)) ≡ true
  differ_more h e = all_more t (λ t. not (vertex_twice vs t)) h (ap not (sym twice-read ∙ e))

  pub differ_not : t < length vs / 3 → (eqb a b || (eqb a c || eqb b c)) ≡ true → false ≡ vertices_differ vs
  unfolding vertices_differ
  differ_not l e = sym (all_fails (length vs / 3) (λ t. not (vertex_twice vs t)) t l (ap not (sym twice-read ∙ e)))

pub differ_none : (vs : List ℕ) → all_below 0 (λ t. not (vertex_twice vs t)) ≡ true
unfolding all_below
differ_none vs = refl

pub differ_all : (vs : List ℕ) (t : ℕ) → t ≤ length vs / 3 → length vs / 3 ≤ t → all_below t (λ t. not (vertex_twice vs t)) ≡ true → true ≡ vertices_differ vs
unfolding vertices_differ
differ_all vs t l m h = sym (all_to (length vs / 3) (λ t. not (vertex_twice vs t)) t l m h)

-- ---- the check of edges

module _ (vs : List ℕ) where
  -- at most one face before it has the vertex set of face f
  abbrev pub paired : ℕ → Bool
  paired f = leb (count_below f (same_set vs f)) 1

  pub paired_none : all_below 0 paired ≡ true
  unfolding all_below
  paired_none = refl

  module _ (f : ℕ) {n : ℕ} (e : n ≡ count_below f (same_set vs f)) where
    pub paired_more : all_below f paired ≡ true → n ≤ 1 → all_below (f + 1) paired ≡ true
    paired_more h l = all_more f paired h (le-leb (count_below f (same_set vs f)) 1 (omega arith))

    pub paired_not : f < length vs → 1 < n → false ≡ all_below (length vs) paired
    paired_not l h = sym (all_fails (length vs) paired f l (lt-leb (count_below f (same_set vs f)) 1 (omega arith)))

-- ---- clearing

pub blank_filled : (n : ℕ) {heads : List ℕ} → hashes ≤ n → heads ≡ replicate n 0 → Blank heads hashes
blank_filled n a e h l = ap (λ (bs : List ℕ). get_or bs h 0) e ∙ get_or-replicate n h 0 0 (omega arith)
