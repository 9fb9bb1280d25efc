-- Laws of records: reading them in place, their codes, their form, and which bytes they read.
use Prim.Native.Nat.{ℕ, zero, suc, ◌+◌, ◌-◌, ◌*◌, ◌≤◌, ◌<◌}
use native.Mathlib.Nat.{zero-add, suc-add, add-zero, mod-lt}
use native.Mathlib.Omega.{arith}
use mathlib.Core.Path.{◌≡◌, refl, sym, ap, ap₂, ◌∙◌}
use mathlib.Core.Bool.{Bool, true, false, not, ◌&&◌, ◌||◌}
use mathlib.Core.List.{List, [], ◌∷◌}
use lib.Dec.{eqb, ltb}
use lib.ListN.{length, get_or, take, drop, get_or-eq_default}
use lib.Seq.{take-nil, take-take, drop-drop}
use borrow.Author.Tests.{not-true, eqb-true, eq-eqb, lt-ltb, le-ltb}
use Rattle.encoding.specs.Below.{all_below, any_below}
use Rattle.encoding.specs.Pieces.{piece, Bytes}
use Rattle.encoding.specs.Numbers.{le_value, le_at, u32_at}
use Rattle.encoding.specs.Words.{zero_at}
use Rattle.encoding.proofs.Below.{tests, either, and_fst, and_snd, and_intro, all_at, all_intro, all_same, any_false}
use Rattle.encoding.proofs.Pieces.{piece_at, piece_past}
use Rattle.encoding.proofs.Numbers.{at_step, at_none, at_one, at_bound}
use Rattle.records.specs.Shape.{shape_ok, dimension_of, face_count}
use Rattle.records.specs.Record.{core_size, unused, region_limit, number_of, shape_of, neighbour_of, code_of, faces_of, face_of, orientation_of, region_of, region_ok, zeros_ok, unused_ok, to_itself, boundary_ok, in_form}
use Rattle.records.specs.Means.{face_form, unused_from, leads_to, alike_form, plain_form}
use Rattle.records.proofs.Shapes.{count_six, count_faces, faces_positive, faces_six, faces_either}

-- ---- records in a buffer

pub drop_take : (j m : ℕ) (l : List ℕ) → drop j (take (j + m) l) ≡ take m (drop j l)
drop_take zero m l = rw zero-add
drop_take (suc j) m [] = rw (suc-add, take-nil)
drop_take (suc j) m (x ∷ l) = rw suc-add (drop_take j m l)

-- a piece of a piece is a piece of the buffer
pub piece_piece : (bs : List ℕ) (off n j w : ℕ) → j + w ≤ n → piece (piece bs off n) j w ≡ piece bs (off + j) w
unfolding piece
piece_piece bs off n j w h =
    let e : n ≡ j + (n - j) = omega arith in
    let d : drop j (take n (drop off bs)) ≡ take (n - j) (drop j (drop off bs)) = ap (λ (m : ℕ). drop j (take m (drop off bs))) e ∙ drop_take j (n - j) (drop off bs) in
    rw (d, take-take w (n - j) (drop j (drop off bs)) (omega arith), drop-drop)

-- a number in a piece is the number in the buffer
pub at_piece : (w : ℕ) (bs : List ℕ) (off n j : ℕ) → j + w ≤ n → le_at w (piece bs off n) j ≡ le_at w bs (off + j)
unfolding le_at
at_piece w bs off n j h = ap le_value (piece_piece bs off n j w h)

-- what the record at byte `at` has, as it stands in the buffer
module _ (bs : List ℕ) (at : ℕ) where
  pub number_at_lem : number_of (piece bs at core_size) ≡ u32_at bs at
  unfolding number_of
  number_at_lem = at_piece 4 bs at 40 0 (omega arith) ∙ ap (u32_at bs) (add-zero at)

  pub shape_at : shape_of (piece bs at core_size) ≡ get_or bs (at + 4) 0
  unfolding shape_of
  shape_at = piece_at bs at 40 4 (omega arith)

  pub neighbour_at : (f : ℕ) → f < 6 → neighbour_of (piece bs at core_size) f ≡ u32_at bs (at + (8 + 4 * f))
  unfolding neighbour_of
  neighbour_at f h = at_piece 4 bs at 40 (8 + 4 * f) (omega arith)

  pub code_at : (f : ℕ) → f < 6 → code_of (piece bs at core_size) f ≡ get_or bs (at + (32 + f)) 0
  unfolding code_of
  code_at f h = piece_at bs at 40 (32 + f) (omega arith)

  pub zeros_at : zeros_ok (piece bs at core_size) ≡ (zero_at bs (at + 5) && zero_at bs (at + 6) && zero_at bs (at + 7))
  unfolding zeros_ok
  zeros_at = rw (piece_at bs at 40 5 (omega arith), piece_at bs at 40 6 (omega arith), piece_at bs at 40 7 (omega arith))

  pub region_at : at + core_size ≤ length bs → region_of (piece bs at core_size) ≡ get_or bs (at + 38) 0 + 256 * get_or bs (at + 39) 0
  unfolding region_of
  region_at h =
      let s : suc (at + 38) ≡ at + 39 = omega arith in
      at_piece 2 bs at 40 38 (omega arith)
      ∙ (at_step 1 bs (at + 38) (omega arith) ∙ ap (λ (x : ℕ). get_or bs (at + 38) 0 + 256 * x) (at_one bs (suc (at + 38)) ∙ ap (λ (i : ℕ). get_or bs i 0) s))

-- ---- numbers and codes of one record

module _ (r : List ℕ) where
  -- numbers and neighbours have 32 bits, codes 8
  pub number_word : Bytes r → number_of r < 4294967296
  unfolding number_of
  number_word b = at_bound 4 r 0 b

  pub neighbour_word : (f : ℕ) → Bytes r → neighbour_of r f < 4294967296
  unfolding neighbour_of
  neighbour_word f b = at_bound 4 r (8 + 4 * f) b

  pub code_byte : (f : ℕ) → Bytes r → code_of r f < 256
  unfolding code_of
  code_byte f b = b (32 + f)

  -- F is positive, at most 6, and no less than the shape's faces
  pub faces_of_positive : 0 < faces_of r
  unfolding faces_of
  faces_of_positive = faces_positive (dimension_of (shape_of r))

  pub faces_of_six : faces_of r ≤ 6
  unfolding faces_of
  faces_of_six = faces_six (dimension_of (shape_of r))

  pub count_faces_of : face_count (shape_of r) ≤ faces_of r
  unfolding faces_of
  count_faces_of = count_faces (shape_of r)

  -- the neighbour's face is below F, and the code is orientation × F + that face
  pub face_below : (f : ℕ) → face_of r f < faces_of r
  unfolding face_of
  face_below f = mod-lt (code_of r f) faces_of_positive

  pub face_six : (f : ℕ) → face_of r f < 6
  face_six f = omega (arith, face_below f, faces_of_six)

-- ---- the parts of the form

module _ (own : ℕ) (r : List ℕ) where
  -- the form is the shape, the zero bytes, the region and the six faces
  form-is : in_form own r ≡ (shape_ok (shape_of r) && zeros_ok r && region_ok r && all_below 6 (face_form own r))
  unfolding in_form face_form
  form-is = refl

  form-face : in_form own r ≡ true → (f : ℕ) → f < 6 → face_form own r f ≡ true
  form-face e = all_at 6 (face_form own r) (and_snd (shape_ok (shape_of r) && zeros_ok r && region_ok r) (all_below 6 (face_form own r)) (sym form-is ∙ e))

  form-first : in_form own r ≡ true → (shape_ok (shape_of r) && zeros_ok r && region_ok r) ≡ true
  form-first e = and_fst (shape_ok (shape_of r) && zeros_ok r && region_ok r) (all_below 6 (face_form own r)) (sym form-is ∙ e)

  form-second : in_form own r ≡ true → (shape_ok (shape_of r) && zeros_ok r) ≡ true
  form-second e = and_fst (shape_ok (shape_of r) && zeros_ok r) (region_ok r) (form-first e)

  pub form_shape : in_form own r ≡ true → shape_ok (shape_of r) ≡ true
  form_shape e = and_fst (shape_ok (shape_of r)) (zeros_ok r) (form-second e)

  pub form_zeros : in_form own r ≡ true → zeros_ok r ≡ true
  form_zeros e = and_snd (shape_ok (shape_of r)) (zeros_ok r) (form-second e)

  pub form_region : in_form own r ≡ true → region_ok r ≡ true
  form_region e = and_snd (shape_ok (shape_of r) && zeros_ok r) (region_ok r) (form-first e)

  -- a face that the shape has
  pub form_used : in_form own r ≡ true → (f : ℕ) → f < face_count (shape_of r) → boundary_ok own r f ≡ true
  unfolding face_form
  form_used e f h = rw (lt-ltb f (face_count (shape_of r)) h) at (form-face e f (omega (arith, count_six (shape_of r))))

  -- and one that it doesn't have
  pub form_unused : in_form own r ≡ true → (f : ℕ) → face_count (shape_of r) ≤ f → f < 6 → unused_ok r f ≡ true
  unfolding face_form
  form_unused e f h k = rw (le-ltb f (face_count (shape_of r)) h) at (form-face e f k)

  -- the parts make the form
  pub form_intro : shape_ok (shape_of r) ≡ true → zeros_ok r ≡ true → region_ok r ≡ true → ((f : ℕ) → f < face_count (shape_of r) → boundary_ok own r f ≡ true)
      → ((f : ℕ) → face_count (shape_of r) ≤ f → f < 6 → unused_ok r f ≡ true) → in_form own r ≡ true
  unfolding face_form
  form_intro s z t u n =
      let face : (f : ℕ) → f < 6 → face_form own r f ≡ true =
      λ f h. either (ltb f (face_count (shape_of r))) (λ p. rw p (u f (omega tests))) (λ p. rw p (n f (omega tests) h)) in
      form-is
      ∙ and_intro (shape_ok (shape_of r) && zeros_ok r && region_ok r) (all_below 6 (face_form own r))
      (and_intro (shape_ok (shape_of r) && zeros_ok r) (region_ok r) (and_intro (shape_ok (shape_of r)) (zeros_ok r) s z) t) (all_intro 6 (face_form own r) face)

  -- as the check finds it: the shape, the zero bytes and the region, then the faces
  module _ {shape : ℕ} {a b c : Bool} (is : shape ≡ shape_of r) (p : a ≡ shape_ok shape) (q : b ≡ zeros_ok r) (t : c ≡ region_ok r) where
    pub form_fails : (a && b && c) ≡ false → false ≡ in_form own r
    form_fails e = let fails : (shape_ok (shape_of r) && zeros_ok r && region_ok r) ≡ false = rw (p, is, q, t) at e in rw (form-is, fails)

    pub form_passes : (a && b && c) ≡ true → {d : Bool} → d ≡ all_below 6 (face_form own r) → d ≡ in_form own r
    form_passes e f = let passes : (shape_ok (shape_of r) && zeros_ok r && region_ok r) ≡ true = rw (p, is, q, t) at e in rw (form-is, passes, f)

  -- a link to the own number and the own face has orientation 0
  pub boundary_test : (f : ℕ) → neighbour_of r f ≡ own → face_of r f ≡ f → boundary_ok own r f ≡ eqb (orientation_of r f) 0
  unfolding boundary_ok to_itself
  boundary_test f n e = rw (eq-eqb (neighbour_of r f) own n, eq-eqb (face_of r f) f e)

  pub boundary_zero : (f : ℕ) → boundary_ok own r f ≡ true → neighbour_of r f ≡ own → face_of r f ≡ f → orientation_of r f ≡ 0
  boundary_zero f b n e = eqb-true (orientation_of r f) 0 (sym (boundary_test f n e) ∙ b)

-- a face without use has the unused neighbour and code 0
pub unused_neighbour : (r : List ℕ) (f : ℕ) → unused_ok r f ≡ true → neighbour_of r f ≡ unused
unfolding unused_ok
unused_neighbour r f e = eqb-true (neighbour_of r f) unused (and_fst (eqb (neighbour_of r f) unused) (eqb (code_of r f) 0) e)

pub unused_code : (r : List ℕ) (f : ℕ) → unused_ok r f ≡ true → code_of r f ≡ 0
unfolding unused_ok
unused_code r f e = eqb-true (code_of r f) 0 (and_snd (eqb (neighbour_of r f) unused) (eqb (code_of r f) 0) e)

-- ---- which bytes are read

-- a number past the end is 0
at_past : (w : ℕ) (bs : List ℕ) (off : ℕ) → length bs ≤ off → le_at w bs off ≡ 0
unfolding le_at le_value
at_past w bs off h = rw (piece_past bs off w h)

-- the first byte and the rest, also past the end
at_any : (w : ℕ) (bs : List ℕ) (off : ℕ) → le_at (suc w) bs off ≡ get_or bs off 0 + 256 * le_at w bs (suc off)
at_any w bs off =
    either (ltb off (length bs))
    (λ p. at_step w bs off (omega tests))
    (λ p. let l : length bs ≤ off = omega tests in rw (at_past (suc w) bs off l, get_or-eq_default bs 0 l, at_past w bs (suc off) (omega arith)))

-- a number reads its own bytes alone
pub at_agree : (w : ℕ) (r s : List ℕ) (off : ℕ) → ((i : ℕ) → i < w → get_or r (off + i) 0 ≡ get_or s (off + i) 0) → le_at w r off ≡ le_at w s off
at_agree zero r s off h = at_none r off ∙ sym (at_none s off)
at_agree (suc w) r s off h =
    let first : get_or r off 0 ≡ get_or s off 0 = rw add-zero at (h 0 (omega arith)) in
    let rest : le_at w r (suc off) ≡ le_at w s (suc off) =
    at_agree w r s (suc off) (λ i l. let e : suc off + i ≡ off + suc i = omega arith in rw e (h (suc i) (omega arith))) in
    rw (at_any w r off, at_any w s off, first, rest)

-- two records with the same bytes 0 to 4 and 8 to 37
pub record SameLinks (r s : List ℕ) : Type 0 where
  pub low : (i : ℕ) → i < 5 → get_or r i 0 ≡ get_or s i 0
  pub high : (i : ℕ) → 8 ≤ i → i < 38 → get_or r i 0 ≡ get_or s i 0

-- have the same number, shape and links: neither the zero bytes nor the region is read
module _ (r s : List ℕ) (h : SameLinks r s) where
  pub same_number : number_of r ≡ number_of s
  unfolding number_of
  same_number = at_agree 4 r s 0 (λ i l. rw zero-add (h.low i (omega arith)))

  pub same_shape : shape_of r ≡ shape_of s
  unfolding shape_of
  same_shape = h.low 4 (omega arith)

  pub same_faces : faces_of r ≡ faces_of s
  unfolding faces_of
  same_faces = rw same_shape

  pub same_neighbour : (f : ℕ) → f < 6 → neighbour_of r f ≡ neighbour_of s f
  unfolding neighbour_of
  same_neighbour f k = at_agree 4 r s (8 + 4 * f) (λ i l. h.high (8 + 4 * f + i) (omega arith) (omega arith))

  pub same_code : (f : ℕ) → f < 6 → code_of r f ≡ code_of s f
  unfolding code_of
  same_code f k = h.high (32 + f) (omega arith) (omega arith)

  pub same_face : (f : ℕ) → f < 6 → face_of r f ≡ face_of s f
  unfolding face_of
  same_face f k = rw (same_code f k, same_faces)

  pub same_orientation : (f : ℕ) → f < 6 → orientation_of r f ≡ orientation_of s f
  unfolding orientation_of
  same_orientation f k = rw (same_code f k, same_faces)

  same-face-form : (own f : ℕ) → f < 6 → face_form own r f ≡ face_form own s f
  unfolding face_form boundary_ok to_itself unused_ok
  same-face-form own f k = rw (same_shape, same_neighbour f k, same_face f k, same_orientation f k, same_code f k)

  -- their forms differ in the zero bytes and the region alone
  pub same_form : zeros_ok r ≡ zeros_ok s → region_ok r ≡ region_ok s → (own : ℕ) → in_form own r ≡ in_form own s
  same_form z t own =
      form-is own r
      ∙ (ap₂ ◌&&◌ (ap₂ ◌&&◌ (ap₂ ◌&&◌ (ap shape_ok same_shape) z) t) (all_same 6 (face_form own r) (face_form own s) (same-face-form own))
      ∙ sym (form-is own s))

-- the form reads bytes 38 and 39 through `region_ok` alone: linked records may differ in their regions
pub region_alone : (r s : List ℕ) → ((i : ℕ) → i < 38 → get_or r i 0 ≡ get_or s i 0) → region_ok r ≡ region_ok s → (own : ℕ) → in_form own r ≡ in_form own s
unfolding zeros_ok
region_alone r s h t =
    same_form r s (record { low = λ i l. h i (omega arith); high = λ i k l. h i l })
    (rw (h 5 (omega arith), h 6 (omega arith), h 7 (omega arith))) t

-- a region in form is below the limit
pub region_below : (r : List ℕ) → region_ok r ≡ true → region_of r < region_limit
unfolding region_ok
region_below r e = omega tests

-- F is 6 where it isn't 4
pub faces_other : (r : List ℕ) → (faces_of r ≡ 4 → ⊥) → faces_of r ≡ 6
unfolding faces_of
faces_other r h = faces_either (dimension_of (shape_of r)) (λ e. absurd (h e)) (λ e. e)

-- ---- faces without use, and faces that lead elsewhere

-- faces before those without use
pub unused_first : (c : ℕ) (r : List ℕ) → all_below c (unused_from c r) ≡ true
unfolding unused_from
unused_first c r = all_intro c (unused_from c r) (λ f h. rw (lt-ltb f c h))

pub unused_is : {b : Bool} (c : ℕ) (r : List ℕ) (f : ℕ) → c ≤ f → b ≡ unused_ok r f → unused_from c r f ≡ b
unfolding unused_from
unused_is c r f h e = rw (le-ltb f c h) (sym e)

-- the six neighbours compared with a number
pub leads_read : {a b d e g h : ℕ} (k : ℕ) (r : List ℕ) → a ≡ neighbour_of r 0 → b ≡ neighbour_of r 1 → d ≡ neighbour_of r 2 → e ≡ neighbour_of r 3 → g ≡ neighbour_of r 4 → h ≡ neighbour_of r 5
    → (eqb a k || eqb b k || eqb d k || eqb e k || eqb g k || eqb h k) ≡ any_below 6 (leads_to k r)
unfolding any_below leads_to
leads_read k r p q s t u v = rw (p, q, s, t, u, v)

-- where no face leads to the record itself, those that it has are in form
pub faces_elsewhere : {faces : ℕ} {b : Bool} (own : ℕ) (r : List ℕ) → faces ≡ face_count (shape_of r) → any_below 6 (leads_to own r) ≡ false → b ≡ all_below 6 (unused_from faces r) → b ≡ all_below 6 (face_form own r)
unfolding face_form unused_from boundary_ok to_itself leads_to
faces_elsewhere own r c none e =
    e
    ∙ all_same 6 _ _
    (λ f h.
    let other : eqb (neighbour_of r f) own ≡ false = any_false 6 (λ f. eqb (neighbour_of r f) own) none f h in
    rw (c, other))

-- ---- records of one shape

module _ (s c k : ℕ) (r : List ℕ) where
  pub alike_read : {number shape : ℕ} {z g u : Bool} → number ≡ number_of r → shape ≡ shape_of r → z ≡ zeros_ok r → g ≡ region_ok r → u ≡ all_below 6 (unused_from c r) → (eqb number k && eqb shape s && z && g && u) ≡ alike_form s c k r
  unfolding alike_form
  alike_read n shape z g u = rw (n, shape, z, g, u)

  module _ (e : alike_form s c k r ≡ true) where
    abbrev numbered : Bool
    numbered = eqb (number_of r) k

    abbrev shaped : Bool
    shaped = eqb (shape_of r) s

    alike-four : (numbered && shaped && zeros_ok r && region_ok r) ≡ true
    unfolding alike_form
    alike-four = and_fst (numbered && shaped && zeros_ok r && region_ok r) (all_below 6 (unused_from c r)) e

    alike-three : (numbered && shaped && zeros_ok r) ≡ true
    alike-three = and_fst (numbered && shaped && zeros_ok r) (region_ok r) alike-four

    alike-two : (numbered && shaped) ≡ true
    alike-two = and_fst (numbered && shaped) (zeros_ok r) alike-three

    pub alike_used : all_below 6 (unused_from c r) ≡ true
    unfolding alike_form
    alike_used = and_snd (numbered && shaped && zeros_ok r && region_ok r) (all_below 6 (unused_from c r)) e

    pub alike_region : region_ok r ≡ true
    alike_region = and_snd (numbered && shaped && zeros_ok r) (region_ok r) alike-four

    pub alike_zeros : zeros_ok r ≡ true
    alike_zeros = and_snd (numbered && shaped) (zeros_ok r) alike-three

    pub alike_number : number_of r ≡ k
    alike_number = eqb-true (number_of r) k (and_fst numbered shaped alike-two)

    pub alike_shape : shape_of r ≡ s
    alike_shape = eqb-true (shape_of r) s (and_snd numbered shaped alike-two)

    -- where its boundaries are in form, it is
    pub alike_form_lem : (own : ℕ) → shape_ok s ≡ true → c ≡ face_count s → ((f : ℕ) → f < c → boundary_ok own r f ≡ true) → in_form own r ≡ true
    unfolding unused_from
    alike_form_lem own sound counted edge =
        let here : face_count (shape_of r) ≡ c = ap face_count alike_shape ∙ sym counted in
        form_intro own r (rw alike_shape sound) alike_zeros alike_region (λ f h. edge f (omega (arith, here))) (λ f h l. rw (le-ltb f c (omega (arith, here))) at (all_at 6 (unused_from c r) alike_used f l))

-- a hexahedron has six faces
module _ (k : ℕ) (r : List ℕ) (e : alike_form 2 6 k r ≡ true) where
  pub hexahedron_faces : face_count (shape_of r) ≡ 6
  unfolding face_count
  hexahedron_faces = rw (alike_shape 2 6 k r e)

  pub hexahedron_form : (own : ℕ) → ((f : ℕ) → f < 6 → boundary_ok own r f ≡ true) → in_form own r ≡ true
  unfolding shape_ok face_count
  hexahedron_form own edge = alike_form_lem 2 6 k r e own refl refl edge

-- none of whose faces leads to itself
module _ (own : ℕ) (r : List ℕ) where
  pub plain_read : {h l : Bool} → h ≡ alike_form 2 6 own r → l ≡ any_below 6 (leads_to own r) → (h && not l) ≡ plain_form own r
  unfolding plain_form
  plain_read h l = rw (h, l)

  module _ (e : plain_form own r ≡ true) where
    plain-hexahedron : alike_form 2 6 own r ≡ true
    unfolding plain_form
    plain-hexahedron = and_fst (alike_form 2 6 own r) (not (any_below 6 (leads_to own r))) e

    elsewhere : any_below 6 (leads_to own r) ≡ false
    unfolding plain_form
    elsewhere = not-true (any_below 6 (leads_to own r)) (and_snd (alike_form 2 6 own r) (not (any_below 6 (leads_to own r))) e)

    pub plain_number : number_of r ≡ own
    plain_number = alike_number 2 6 own r plain-hexahedron

    pub plain_form_lem : in_form own r ≡ true
    unfolding boundary_ok to_itself leads_to
    plain_form_lem =
        hexahedron_form own r plain-hexahedron own
        (λ f h.
        let other : eqb (neighbour_of r f) own ≡ false = any_false 6 (λ f. eqb (neighbour_of r f) own) elsewhere f h in
        rw other)
