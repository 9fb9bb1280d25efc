-- What is read is exactly what `render` writes. `drop at text` is what stands from a place on.
use Prim.Native.Nat.{ℕ, zero, suc, ◌+◌, ◌-◌, ◌*◌, ◌^◌, ◌≤◌, ◌<◌}
use mathlib.Core.Path.{◌≡◌, refl, sym, ap, ◌∙◌}
use mathlib.Core.Bool.{true, false, not, ◌&&◌, ◌||◌}
use mathlib.Core.List.{List, [], ◌∷◌, ◌++◌, append_assoc, append-nil}
use native.Mathlib.Nat.{add-zero}
use native.Mathlib.Numerals.{add-one}
use native.Mathlib.Omega.{arith}
use lib.Dec.{leb, ltb, eqb}
use lib.ListN.{length, get_or, drop, length-append, length-drop, take-append-drop, get_or-append, get_or-eq_default}
use lib.Seq.{drop-drop, drop_at, take_at, get_or_at, get_or-drop, drop-cons, drop-length, ext_get_or}
use borrow.Author.Tests.{ltb-true, leb-true, eqb-true, not-true, not-false, le-leb, lt-leb, lt-ltb, eq-eqb, ne_eqb}
use Rattle.encoding.specs.Pieces.{piece}
use Rattle.encoding.proofs.Below.{tests, either, clash, and_fst, and_snd, and_intro, all_at, all_intro, least_is, least_le, least_below_lem}
use Rattle.encoding.proofs.Pieces.{piece_length, piece_at}
use Rattle.encoding.specs.Numbers.{le_bytes}
use Rattle.encoding.proofs.Numbers.{bytes_length}
use Rattle.offsets.specs.Table.{negative, magnitude, table_bytes}
use Rattle.offsets.proofs.Tables.{plain_magnitude}
use Rattle.plan_read.specs.Text.{Rendered, decimal, number_limit, entry_text, entry_fits, list_text, ranks_word, old_word, new_word, render, Input, input_limit}
use Rattle.plan_read.specs.Means.{byte_at, is_digit, digit_count, value_of, Number, digits_ok, read_number, negated, read_entry, Entries, before, read_list, word_at, read_ranks, read_old, read_new, form_ok, parse, digit_count_ok}
use Rattle.plan_read.proofs.Decimals.{Digits, digit_range, decimal_digit, decimal_least, decimal_most, decimal_plain, decimal_value, decimal_limit, decimal_of}

-- ---- places

-- the bytes from a place on
pub bytes_from : (text : List ℕ) (at : ℕ) (rest : List ℕ) → drop at text ≡ rest → (i : ℕ) → byte_at text (at + i) ≡ get_or rest i 0
bytes_from text at rest e i = sym (get_or-drop at text i 0) ∙ ap (λ (l : List ℕ). get_or l i 0) e

-- the byte at a place
pub byte_here : (text : List ℕ) (at : ℕ) (rest : List ℕ) → drop at text ≡ rest → byte_at text at ≡ get_or rest 0 0
byte_here text at rest e = rw add-zero at (bytes_from text at rest e 0)

-- the place behind what stands there
pub place_behind : (text : List ℕ) (at : ℕ) (a rest : List ℕ) → drop at text ≡ a ++ rest → drop (at + length a) text ≡ rest
place_behind text at a rest e = sym (drop-drop (length a) at text) ∙ (ap (drop (length a)) e ∙ drop_at a rest (length a) refl)

-- how many bytes stand from a place on
pub from_length : (text : List ℕ) (at : ℕ) (a rest : List ℕ) → drop at text ≡ a ++ rest → length text - at ≡ length a + length rest
from_length text at a rest e = sym (length-drop at text) ∙ (ap length e ∙ length-append a rest)

-- a place with a byte that isn't 0 is within the text
pub byte_within : (text : List ℕ) (at : ℕ) → 0 < byte_at text at → at < length text
byte_within text at h =
    either (ltb at (length text)) (ltb-true at (length text))
    (λ p. let z : byte_at text at ≡ 0 = get_or-eq_default text 0 (omega tests) in absurd (omega arith))

-- such a byte, and what stands behind it
pub byte_sound : (text : List ℕ) (at b : ℕ) → 0 < b → byte_at text at ≡ b → drop at text ≡ b ∷ drop (at + 1) text
byte_sound text at b h e = rw (add-one, drop-cons text at 0 (byte_within text at (rw e h)), e)

-- what stands behind a, put for its text
join : {l c d : List ℕ} (a : List ℕ) → l ≡ a ++ c → c ≡ d → l ≡ a ++ d
join a p q = p ∙ ap (λ (r : List ℕ). a ++ r) q

-- ---- words

pub word_read : (text : List ℕ) (at : ℕ) (word rest : List ℕ) → drop at text ≡ word ++ rest → word_at text at word ≡ true
unfolding word_at
word_read text at word rest e =
    all_intro (length word) (λ i. eqb (byte_at text (at + i)) (get_or word i 0))
    (λ i h. eq-eqb (byte_at text (at + i)) (get_or word i 0) (bytes_from text at (word ++ rest) e i ∙ get_or-append word rest 0 i h))

-- the bytes of a word whose last byte isn't 0
pub word_piece : (text : List ℕ) (at : ℕ) (word : List ℕ) → 0 < get_or word (length word - 1) 0 → word_at text at word ≡ true
    → (at + length word ≤ length text) × (piece text at (length word) ≡ word)
unfolding word_at
word_piece text at word h e =
    let same : (i : ℕ) → i < length word → byte_at text (at + i) ≡ get_or word i 0 =
    λ i l. eqb-true (byte_at text (at + i)) (get_or word i 0) (all_at (length word) (λ i. eqb (byte_at text (at + i)) (get_or word i 0)) e i l) in
    let some : length word - 1 < length word = byte_within word (length word - 1) h in
    let last : at + (length word - 1) < length text = byte_within text (at + (length word - 1)) (rw (same (length word - 1) some) h) in
    let l : length (piece text at (length word)) ≡ length word = piece_length text at (length word) (omega arith) in
    (omega arith, ext_get_or 0 (piece text at (length word)) word l (λ i m. piece_at text at (length word) i (omega arith) ∙ same i (omega arith)))

-- a word that is the bytes from a place on stands there
pub piece_word : (text : List ℕ) (at : ℕ) (word : List ℕ) → word ≡ piece text at (length word) → word_at text at word ≡ true
unfolding word_at
piece_word text at word e =
    all_intro (length word) (λ i. eqb (byte_at text (at + i)) (get_or word i 0))
    (λ i h. eq-eqb (byte_at text (at + i)) (get_or word i 0) (sym (piece_at text at (length word) i h) ∙ sym (ap (λ (l : List ℕ). get_or l i 0) e)))

-- a word whose last byte isn't 0
pub word_sound_lem : (text : List ℕ) (at : ℕ) (word : List ℕ) → 0 < get_or word (length word - 1) 0 → word_at text at word ≡ true
    → drop at text ≡ word ++ drop (at + length word) text
unfolding piece
word_sound_lem text at word h e =
    let p : piece text at (length word) ≡ word = (word_piece text at word h e).1 in
    join word (rw p at (sym (take-append-drop (length word) (drop at text)))) (drop-drop (length word) at text)

-- ---- numbers

pub count_read : (text : List ℕ) (at : ℕ) (ds : List ℕ) (b : ℕ) (post : List ℕ) → Digits ds → is_digit b ≡ false → drop at text ≡ ds ++ (b ∷ post)
    → digit_count text at ≡ length ds
unfolding digit_count
count_read text at ds b post h n e =
    least_is (length text - at) (λ i. not (is_digit (byte_at text (at + i)))) (length ds)
    (omega (arith, from_length text at ds (b ∷ post) e))
    (rw (bytes_from text at (ds ++ (b ∷ post)) e (length ds), get_or_at ds b post 0 (length ds) refl, n))
    (λ j l. rw (bytes_from text at (ds ++ (b ∷ post)) e j, get_or-append ds (b ∷ post) 0 j l, h j l))

-- what is counted are digits
pub count_digits : (text : List ℕ) (at i : ℕ) → i < digit_count text at → is_digit (byte_at text (at + i)) ≡ true
unfolding digit_count
count_digits text at i h = not-false _ (least_below_lem (length text - at) (λ i. not (is_digit (byte_at text (at + i)))) i h)

-- a count of digits that may stand for a number, where b is the first of them
module _ (n b : ℕ) where
  counted : 1 ≤ n → n ≤ 8 → (2 ≤ n → eqb b 48 ≡ false) → digit_count_ok n b ≡ true
  counted l m p =
      and_intro _ _ (and_intro _ _ (le-leb 1 n l) (le-leb n 8 m))
      (either (eqb n 1) (λ e. rw e) (λ e. rw (e, p (either (leb 2 n) (leb-true 2 n) (λ f. clash (eq-eqb n 1 (omega tests)) e)))))

  pub uncounted : digit_count_ok n b ≡ true → (1 ≤ n) × (n ≤ 8) × (2 ≤ n → eqb b 48 ≡ false)
  uncounted e =
      let t : (leb 1 n && leb n 8) ≡ true = and_fst _ (eqb n 1 || not (eqb b 48)) e in (
        leb-true 1 n (and_fst _ (leb n 8) t),
        leb-true n 8 (and_snd (leb 1 n) _ t),
        λ l. not-true _ (rw (ne_eqb n 1 (λ q. omega arith)) at (and_snd (leb 1 n && leb n 8) (eqb n 1 || not (eqb b 48)) e)),
      )

pub number_read : (text : List ℕ) (at n b : ℕ) (post : List ℕ) → n < number_limit → is_digit b ≡ false → drop at text ≡ decimal n ++ (b ∷ post)
    → read_number text at ≡ record { ok = true; value = n; next = at + length (decimal n) }
unfolding read_number digits_ok piece
number_read text at n b post l d e =
    let c : digit_count text at ≡ length (decimal n) = count_read text at (decimal n) b post (decimal_digit n) d e in
    let f : byte_at text at ≡ get_or (decimal n) 0 0 = byte_here text at (decimal n ++ (b ∷ post)) e ∙ get_or-append (decimal n) (b ∷ post) 0 0 (decimal_least n) in
    rw (c, f, counted (length (decimal n)) (get_or (decimal n) 0 0) (decimal_least n) (decimal_most n) (decimal_plain n l), e, take_at (decimal n) (b ∷ post) (length (decimal n)) refl, decimal_value n l)

-- a number that was read stands there
pub number_sound : (text : List ℕ) (at : ℕ) → (read_number text at).ok ≡ true
    → ((read_number text at).value < number_limit) × (drop at text ≡ decimal (read_number text at).value ++ drop (read_number text at).next text)
unfolding read_number digits_ok digit_count piece
number_sound text at e =
    let n : ℕ = digit_count text at in
    let ds : List ℕ = piece text at n in
    let u : (1 ≤ n) × (n ≤ 8) × (2 ≤ n → eqb (byte_at text at) 48 ≡ false) = uncounted n (byte_at text at) e in
    let m : n ≤ length text - at = least_le (length text - at) (λ i. not (is_digit (byte_at text (at + i)))) in
    let l : length ds ≡ n = piece_length text at n (omega arith) in
    let h : Digits ds = λ i k. rw (piece_at text at n i (omega arith)) (count_digits text at i (omega arith)) in
    let f : get_or ds 0 0 ≡ byte_at text at = rw add-zero at (piece_at text at n 0 u.0) in
    let v : decimal (value_of 0 ds) ≡ ds = decimal_of ds h (omega arith) (omega arith) (λ k. rw f (u.2 (omega arith))) in
    rw e (
      decimal_limit ds h (omega arith),
      rw v (join ds (sym (take-append-drop n (drop at text))) (drop-drop n at text)),
    )

-- ---- entries

minus_magnitude : (v : ℕ) → negative v ≡ true → magnitude v ≡ 2 ^ 64 - v
unfolding magnitude
minus_magnitude v p = rw p

-- a number behind a minus sign
negated_of : (n : Number) → n.ok ≡ true → 0 < n.value → negated n ≡ record { ok = true; value = 2 ^ 64 - n.value; next = n.next }
unfolding negated
negated_of n e h = rw (e, lt-ltb 0 n.value h)

entry_fits_lem : (v : ℕ) → entry_fits v ≡ true → (v < 2 ^ 64) × (magnitude v < number_limit)
unfolding entry_fits
entry_fits_lem v e = (ltb-true v (2 ^ 64) (and_fst _ _ e), ltb-true (magnitude v) number_limit (and_snd (ltb v (2 ^ 64)) _ e))

fits_entry : (v : ℕ) → v < 2 ^ 64 → magnitude v < number_limit → entry_fits v ≡ true
unfolding entry_fits
fits_entry v h k = and_intro _ _ (lt-ltb v (2 ^ 64) h) (lt-ltb (magnitude v) number_limit k)

pub entry_least : (v : ℕ) → 1 ≤ length (entry_text v)
unfolding entry_text
entry_least v = either (negative v) (λ p. rw p (omega arith)) (λ p. rw p (decimal_least v))

pub entry_read : (text : List ℕ) (at v b : ℕ) (post : List ℕ) → entry_fits v ≡ true → is_digit b ≡ false → drop at text ≡ entry_text v ++ (b ∷ post)
    → read_entry text at ≡ record { ok = true; value = v; next = at + length (entry_text v) }
unfolding read_entry entry_text
entry_read text at v b post k d e =
    let f : (v < 2 ^ 64) × (magnitude v < number_limit) = entry_fits_lem v k in
    either (negative v)
    (λ p.
    let t : drop at text ≡ 45 ∷ (decimal (magnitude v) ++ (b ∷ post)) = rw p at e in
    let m : magnitude v ≡ 2 ^ 64 - v = minus_magnitude v p in
    let r : read_number text (at + 1) ≡ record { ok = true; value = magnitude v; next = at + 1 + length (decimal (magnitude v)) } =
    number_read text (at + 1) (magnitude v) b post f.1 d (place_behind text at (45 ∷ []) (decimal (magnitude v) ++ (b ∷ post)) t) in
    let w : 2 ^ 64 - magnitude v ≡ v = omega arith in
    let n : at + 1 + length (decimal (magnitude v)) ≡ at + suc (length (decimal (magnitude v))) = omega arith in
    rw (byte_here text at (45 ∷ (decimal (magnitude v) ++ (b ∷ post))) t, r, negated_of (record { ok = true; value = magnitude v; next = at + 1 + length (decimal (magnitude v)) }) refl (omega arith), w, n, p))
    (λ p.
    let t : drop at text ≡ decimal v ++ (b ∷ post) = rw p at e in
    let m : magnitude v ≡ v = plain_magnitude v p in
    let c : byte_at text at ≡ get_or (decimal v) 0 0 = byte_here text at (decimal v ++ (b ∷ post)) t ∙ get_or-append (decimal v) (b ∷ post) 0 0 (decimal_least v) in
    let g : (48 ≤ get_or (decimal v) 0 0) × (get_or (decimal v) 0 0 ≤ 57) = digit_range (get_or (decimal v) 0 0) (decimal_digit v 0 (decimal_least v)) in
    rw (c, ne_eqb (get_or (decimal v) 0 0) 45 (λ q. omega arith), p) (number_read text at v b post (omega arith) d t))

-- the text of -m
minus_text : (m : ℕ) → 0 < m → m < number_limit → (entry_fits (2 ^ 64 - m) ≡ true) × (entry_text (2 ^ 64 - m) ≡ 45 ∷ decimal m)
unfolding entry_text negative
minus_text m h k =
    let p : negative (2 ^ 64 - m) ≡ true = le-leb (2 ^ 63) (2 ^ 64 - m) (omega arith) in
    let e : magnitude (2 ^ 64 - m) ≡ m = minus_magnitude (2 ^ 64 - m) p ∙ omega arith in
    (fits_entry (2 ^ 64 - m) (omega arith) (omega arith), rw (p, e))

-- the text of a number that isn't negative
plain_text : (v : ℕ) → v < number_limit → (entry_fits v ≡ true) × (entry_text v ≡ decimal v)
unfolding entry_text negative
plain_text v k =
    let p : negative v ≡ false = lt-leb (2 ^ 63) v (omega arith) in
    let e : magnitude v ≡ v = plain_magnitude v p in
    (fits_entry v (omega arith) (omega arith), rw p)

-- an entry stands at a place
abbrev pub EntryAt : List ℕ → ℕ → Number → Type 0
EntryAt text at n = (entry_fits n.value ≡ true) × (drop at text ≡ entry_text n.value ++ drop n.next text)

pub entry_sound : (text : List ℕ) (at : ℕ) → (read_entry text at).ok ≡ true → EntryAt text at (read_entry text at)
unfolding read_entry negated
entry_sound text at e =
    either (eqb (byte_at text at) 45)
    (λ p.
    let n : Number = read_number text (at + 1) in
    let o : (n.ok && ltb 0 n.value) ≡ true = rw p at e in
    let h : 0 < n.value = ltb-true 0 n.value (and_snd n.ok _ o) in
    let s : (n.value < number_limit) × (drop (at + 1) text ≡ decimal n.value ++ drop n.next text) = number_sound text (at + 1) (and_fst _ (ltb 0 n.value) o) in
    let t : (entry_fits (2 ^ 64 - n.value) ≡ true) × (entry_text (2 ^ 64 - n.value) ≡ 45 ∷ decimal n.value) = minus_text n.value h s.0 in
    rw (p, o, t.1) (t.0, join (45 ∷ []) (byte_sound text at 45 (omega arith) (eqb-true (byte_at text at) 45 p)) s.1))
    (λ p.
    let n : Number = read_number text at in
    let s : (n.value < number_limit) × (drop at text ≡ decimal n.value ++ drop n.next text) = number_sound text at (rw p at e) in
    let t : (entry_fits n.value ≡ true) × (entry_text n.value ≡ decimal n.value) = plain_text n.value s.0 in
    rw (p, t.1) (t.0, s.1))

-- ---- lists

-- every entry has at most 8 digits
abbrev pub Fit : List ℕ → Type 0
Fit vs = (i : ℕ) → i < length vs → entry_fits (get_or vs i 0) ≡ true

fit_cons : (v : ℕ) (vs : List ℕ) → entry_fits v ≡ true → Fit vs → Fit (v ∷ vs)
fit_cons v vs h k zero l = h
fit_cons v vs h k (suc i) l = k i (omega arith)

list_more : (v : ℕ) (vs : List ℕ) → 1 ≤ length vs → list_text (v ∷ vs) ≡ entry_text v ++ (44 ∷ list_text vs)
unfolding list_text
list_more v [] h = absurd (omega arith)
list_more v (w ∷ vs) h = refl

-- a list has no fewer bytes than entries
pub list_least : (vs : List ℕ) → length vs ≤ length (list_text vs)
unfolding list_text
list_least [] = omega arith
list_least (v ∷ []) = entry_least v
list_least (v ∷ w ∷ vs) = simp length-append (omega (arith, entry_least v, list_least (w ∷ vs)))

-- comma and LF are no digits
comma : is_digit 44 ≡ false
unfolding is_digit
comma = refl

line_feed : is_digit 10 ≡ false
unfolding is_digit
line_feed = refl

pub list_read : (most : ℕ) (text : List ℕ) (at : ℕ) (vs post : List ℕ) → 1 ≤ length vs → length vs ≤ most → Fit vs → drop at text ≡ list_text vs ++ (10 ∷ post)
    → read_list most text at ≡ record { ok = true; values = vs; next = at + length (list_text vs) + 1 }
unfolding read_list list_text before
list_read zero text at vs post l m f e = absurd (omega arith)
list_read (suc most) text at [] post l m f e = absurd (omega arith)
list_read (suc most) text at (v ∷ []) post l m f e =
    let r : read_entry text at ≡ record { ok = true; value = v; next = at + length (entry_text v) } = entry_read text at v 10 post (f 0 l) line_feed e in
    rw (r, byte_here text (at + length (entry_text v)) (10 ∷ post) (place_behind text at (entry_text v) (10 ∷ post) e))
list_read (suc most) text at (v ∷ w ∷ vs) post l m f e =
    let rest : List ℕ = list_text (w ∷ vs) ++ (10 ∷ post) in
    let t : drop at text ≡ entry_text v ++ (44 ∷ rest) = e ∙ append_assoc (entry_text v) (44 ∷ list_text (w ∷ vs)) (10 ∷ post) in
    let r : read_entry text at ≡ record { ok = true; value = v; next = at + length (entry_text v) } = entry_read text at v 44 rest (f 0 (omega arith)) comma t in
    let b : drop (at + length (entry_text v)) text ≡ 44 ∷ rest = place_behind text at (entry_text v) (44 ∷ rest) t in
    let i : read_list most text (at + length (entry_text v) + 1) ≡ record { ok = true; values = w ∷ vs; next = at + length (entry_text v) + 1 + length (list_text (w ∷ vs)) + 1 } =
    list_read most text (at + length (entry_text v) + 1) (w ∷ vs) post (omega arith) (omega arith) (λ i k. f (suc i) (omega arith)) (place_behind text (at + length (entry_text v)) (44 ∷ []) rest b) in
    let n : at + length (entry_text v) + 1 + length (list_text (w ∷ vs)) + 1 ≡ at + length (entry_text v ++ (44 ∷ list_text (w ∷ vs))) + 1 = simp length-append (omega arith) in
    rw (r, byte_here text (at + length (entry_text v)) (44 ∷ rest) b, i, n)

-- a list and its LF stand at a place
pub record ListAt (text : List ℕ) (at : ℕ) (es : Entries) : Type 0 where
  pub some : 1 ≤ length es.values
  pub fit : Fit es.values
  pub stands : drop at text ≡ list_text es.values ++ (10 ∷ drop es.next text)

-- one entry and LF
list_last : (text : List ℕ) (at : ℕ) (n : Number) → EntryAt text at n → byte_at text n.next ≡ 10 → ListAt text at (record { ok = true; values = n.value ∷ []; next = n.next + 1 })
unfolding list_text
list_last text at n e b =
    record {
      some = omega arith;
      fit = fit_cons n.value [] e.0 (λ i l. absurd (omega arith));
      stands = join (entry_text n.value) e.1 (byte_sound text n.next 10 (omega arith) b);
    }

-- an entry, a comma and a list
list_before : (text : List ℕ) (at : ℕ) (n : Number) (es : Entries) → EntryAt text at n → byte_at text n.next ≡ 44 → es.ok ≡ true → ListAt text (n.next + 1) es
    → ListAt text at (before n.value es)
unfolding before
list_before text at n es e b o l =
    rw o
    record {
      some = omega arith;
      fit = fit_cons n.value es.values e.0 l.fit;
      stands =
          rw (list_more n.value es.values l.some, append_assoc)
          (join (entry_text n.value) e.1 (join (44 ∷ []) (byte_sound text n.next 44 (omega arith) b) l.stands));
    }

pub before_ok : (v : ℕ) (es : Entries) → (before v es).ok ≡ es.ok
unfolding before
before_ok v es = either es.ok (λ p. rw p) (λ p. rw p)

pub list_sound : (most : ℕ) (text : List ℕ) (at : ℕ) → (read_list most text at).ok ≡ true → ListAt text at (read_list most text at)
unfolding read_list
list_sound zero text at e = clash e refl
list_sound (suc most) text at e =
    let n : Number = read_entry text at in
    let es : Entries = read_list most text (n.next + 1) in
    either n.ok
    (λ p.
    let s : EntryAt text at n = entry_sound text at p in
    either (eqb (byte_at text n.next) 44)
    (λ q. let o : es.ok ≡ true = sym (before_ok n.value es) ∙ (rw (p, q) at e) in
    rw (p, q) (list_before text at n es s (eqb-true (byte_at text n.next) 44 q) o (list_sound most text (n.next + 1) o)))
    (λ q. either (eqb (byte_at text n.next) 10)
    (λ r. rw (p, q, r) (list_last text at n s (eqb-true (byte_at text n.next) 10 r)))
    (λ r. clash (rw (p, q, r) at e) refl)))
    (λ p. clash (rw p at e) refl)

-- ---- tables

-- 8 bytes for each entry
pub table_length_lem : (vs : List ℕ) → length (table_bytes vs) ≡ 8 * length vs
unfolding table_bytes
table_length_lem [] = refl
table_length_lem (v ∷ vs) = rw (length-append, bytes_length, table_length_lem vs) (omega arith)

-- one more entry
pub table_snoc : (vs : List ℕ) (v : ℕ) → table_bytes (vs ++ (v ∷ [])) ≡ table_bytes vs ++ le_bytes 8 v
unfolding table_bytes
table_snoc [] v = append-nil (le_bytes 8 v)
table_snoc (w ∷ vs) v = rw (table_snoc vs v, append_assoc)

-- ---- the input

-- a text that `render` writes is read back
module _ (text : List ℕ) (P : ℕ) (old new : List ℕ) (i : Input P old new) (e : text ≡ render P old new) where
  -- what stands from each list on
  newLine : List ℕ
  newLine = list_text new ++ (10 ∷ [])

  oldLine : List ℕ
  oldLine = list_text old ++ (10 ∷ (new_word ++ newLine))

  at-start : drop 0 text ≡ ranks_word ++ (decimal P ++ (10 ∷ (old_word ++ oldLine)))
  unfolding render oldLine newLine
  at-start = e

  at-ranks : drop 6 text ≡ decimal P ++ (10 ∷ (old_word ++ oldLine))
  at-ranks = place_behind text 0 ranks_word (decimal P ++ (10 ∷ (old_word ++ oldLine))) at-start

  ranks-read : read_ranks text ≡ record { ok = true; value = P; next = 6 + length (decimal P) }
  unfolding read_ranks
  ranks-read = number_read text 6 P 10 (old_word ++ oldLine) (ltb-true P number_limit i.ranks_fit) line_feed at-ranks

  after-ranks : drop (6 + length (decimal P)) text ≡ 10 ∷ (old_word ++ oldLine)
  after-ranks = place_behind text 6 (decimal P) (10 ∷ (old_word ++ oldLine)) at-ranks

  at-old-word : drop (6 + length (decimal P) + 1) text ≡ old_word ++ oldLine
  at-old-word = place_behind text (6 + length (decimal P)) (10 ∷ []) (old_word ++ oldLine) after-ranks

  at_old : drop (6 + length (decimal P) + 5) text ≡ oldLine
  at_old = place_behind text (6 + length (decimal P)) (10 ∷ old_word) oldLine after-ranks

  -- the place of the new line
  new_place : ℕ
  new_place = 6 + length (decimal P) + 5 + length (list_text old) + 1

  old-read : read_old text ≡ record { ok = true; values = old; next = new_place }
  unfolding read_old oldLine new_place
  old-read =
      rw ranks-read
      (list_read (length text) text (6 + length (decimal P) + 5) old (new_word ++ newLine) (omega (arith, i.old_count))
      (omega (arith, list_least old, from_length text (6 + length (decimal P) + 5) (list_text old) (10 ∷ (new_word ++ newLine)) at_old))
      (all_at (length old) (λ j. entry_fits (get_or old j 0)) i.old_fit) at_old)

  at-new-word : drop new_place text ≡ new_word ++ newLine
  unfolding new_place oldLine
  at-new-word =
      place_behind text (6 + length (decimal P) + 5 + length (list_text old)) (10 ∷ []) (new_word ++ newLine)
      (place_behind text (6 + length (decimal P) + 5) (list_text old) (10 ∷ (new_word ++ newLine)) at_old)

  at_new : drop (new_place + 4) text ≡ newLine
  at_new = place_behind text new_place new_word newLine at-new-word

  new-length : length text - (new_place + 4) ≡ length (list_text new) + 1
  unfolding newLine
  new-length = from_length text (new_place + 4) (list_text new) (10 ∷ []) at_new

  new-read : read_new text ≡ record { ok = true; values = new; next = length text }
  unfolding read_new newLine
  new-read =
      let n : new_place + 4 + length (list_text new) + 1 ≡ length text = omega (arith, new-length) in
      rw old-read
      (rw n at
      (list_read (length text) text (new_place + 4) new [] (omega (arith, i.new_count)) (omega (arith, list_least new, new-length))
      (all_at (length new) (λ j. entry_fits (get_or new j 0)) i.new_fit) at_new))

  pub form_read : length text ≤ input_limit → form_ok text ≡ true
  unfolding form_ok
  form_read l =
      let size : leb (length text) input_limit ≡ true = le-leb (length text) input_limit l in
      let ranksLine : word_at text 0 ranks_word ≡ true = word_read text 0 ranks_word (decimal P ++ (10 ∷ (old_word ++ oldLine))) at-start in
      let ranks_ok : (read_ranks text).ok ≡ true = rw ranks-read in
      let ranks_end : byte_at text (read_ranks text).next ≡ 10 = rw ranks-read (byte_here text (6 + length (decimal P)) (10 ∷ (old_word ++ oldLine)) after-ranks) in
      let old_name : word_at text ((read_ranks text).next + 1) old_word ≡ true = rw ranks-read (word_read text (6 + length (decimal P) + 1) old_word oldLine at-old-word) in
      let oldOk : (read_old text).ok ≡ true = rw old-read in
      let new_name : word_at text (read_old text).next new_word ≡ true = rw old-read (word_read text new_place new_word newLine at-new-word) in
      let newOk : (read_new text).ok ≡ true = rw new-read in
      let end : eqb (read_new text).next (length text) ≡ true = eq-eqb (read_new text).next (length text) (rw new-read) in
      let old_many : eqb (length (read_old text).values) ((read_ranks text).value + 1) ≡ true = eq-eqb (length (read_old text).values) ((read_ranks text).value + 1) (rw (old-read, ranks-read) i.old_count) in
      let new_many : eqb (length (read_new text).values) ((read_ranks text).value + 1) ≡ true = eq-eqb (length (read_new text).values) ((read_ranks text).value + 1) (rw (new-read, ranks-read) i.new_count) in
      rw (size, ranksLine, ranks_ok, ranks_end, old_name, oldOk, new_name, newOk, end, old_many, new_many)

  pub parse_read : length text ≤ input_limit → parse text ≡ record { ok = true; ranks = P; old = old; new = new }
  unfolding parse
  parse_read l = rw (form_read l, ranks-read, old-read, new-read)

-- parsing a render gives back what went in
pub parse_render : (P : ℕ) (old new : List ℕ) → Input P old new → length (render P old new) ≤ input_limit
    → parse (render P old new) ≡ record { ok = true; ranks = P; old = old; new = new }
parse_render P old new i l = parse_read (render P old new) P old new i refl l

-- the tests of the form, one by one
pub record Formed (text : List ℕ) : Type 0 where
  pub size : length text ≤ input_limit
  pub ranks_name : word_at text 0 ranks_word ≡ true
  pub ranks_read : (read_ranks text).ok ≡ true
  pub ranks_end : byte_at text (read_ranks text).next ≡ 10
  pub old_name : word_at text ((read_ranks text).next + 1) old_word ≡ true
  pub old_read : (read_old text).ok ≡ true
  pub new_name : word_at text (read_old text).next new_word ≡ true
  pub new_read : (read_new text).ok ≡ true
  pub end : (read_new text).next ≡ length text
  pub old_many : length (read_old text).values ≡ (read_ranks text).value + 1
  pub new_many : length (read_new text).values ≡ (read_ranks text).value + 1

pub formed : (text : List ℕ) → form_ok text ≡ true → Formed text
unfolding form_ok
formed text ok =
    record {
      size = leb-true (length text) input_limit (search (and_fst, and_snd) depth 9);
      ranks_name = search (and_fst, and_snd) depth 9;
      ranks_read = search (and_fst, and_snd) depth 9;
      ranks_end = eqb-true (byte_at text (read_ranks text).next) 10 (search (and_fst, and_snd) depth 9);
      old_name = search (and_fst, and_snd) depth 9;
      old_read = search (and_fst, and_snd) depth 9;
      new_name = search (and_fst, and_snd) depth 9;
      new_read = search (and_fst, and_snd) depth 9;
      end = eqb-true (read_new text).next (length text) (search (and_fst, and_snd) depth 9);
      old_many = eqb-true (length (read_old text).values) ((read_ranks text).value + 1) (search (and_fst, and_snd) depth 9);
      new_many = eqb-true (length (read_new text).values) ((read_ranks text).value + 1) (search (and_fst, and_snd) depth 9);
    }

module _ (text : List ℕ) (ok : form_ok text ≡ true) where
  old-at : ListAt text ((read_ranks text).next + 5) (read_old text)
  unfolding read_old
  old-at = list_sound (length text) text ((read_ranks text).next + 5) (formed text ok).old_read

  new-at : ListAt text ((read_old text).next + 4) (read_new text)
  unfolding read_new
  new-at = list_sound (length text) text ((read_old text).next + 4) (formed text ok).new_read

  ranks-at : ((read_ranks text).value < number_limit) × (drop 6 text ≡ decimal (read_ranks text).value ++ drop (read_ranks text).next text)
  unfolding read_ranks
  ranks-at = number_sound text 6 (formed text ok).ranks_read

  -- what stands from each line on
  new_line : drop (read_old text).next text ≡ new_word ++ (list_text (read_new text).values ++ (10 ∷ []))
  new_line =
      let f = formed text ok in
      join new_word (word_sound_lem text (read_old text).next new_word (omega arith) f.new_name)
      (join (list_text (read_new text).values) new-at.stands (ap (λ (l : List ℕ). 10 ∷ l) (rw f.end (drop-length text))))

  old-line : drop ((read_ranks text).next + 1) text ≡ old_word ++ (list_text (read_old text).values ++ (10 ∷ drop (read_old text).next text))
  old-line =
      let p : (read_ranks text).next + 1 + 4 ≡ (read_ranks text).next + 5 = omega arith in
      join old_word (rw p at (word_sound_lem text ((read_ranks text).next + 1) old_word (omega arith) (formed text ok).old_name)) old-at.stands

  -- a text in form is the render of what it says
  pub render_parse : Input (parse text).ranks (parse text).old (parse text).new × (text ≡ render (parse text).ranks (parse text).old (parse text).new)
  unfolding parse render
  render_parse =
      let f = formed text ok in (
        record {
          ranks_fit = lt-ltb (read_ranks text).value number_limit ranks-at.0;
          old_count = f.old_many;
          new_count = f.new_many;
          old_fit = all_intro (length (read_old text).values) (λ i. entry_fits (get_or (read_old text).values i 0)) old-at.fit;
          new_fit = all_intro (length (read_new text).values) (λ i. entry_fits (get_or (read_new text).values i 0)) new-at.fit;
        },
        join ranks_word (word_sound_lem text 0 ranks_word (omega arith) f.ranks_name)
            (join (decimal (read_ranks text).value) ranks-at.1
            (join (10 ∷ []) (byte_sound text (read_ranks text).next 10 (omega arith) f.ranks_end)
            (join old_word old-line (ap (λ (l : List ℕ). list_text (read_old text).values ++ (10 ∷ l)) new_line)))),
      )

-- a text is in form exactly where it is one
pub form_exact : (text : List ℕ) → (form_ok text ≡ true → Rendered text) × (Rendered text → form_ok text ≡ true)
form_exact text = (
  λ ok. ((formed text ok).size, (parse text).ranks, (parse text).old, (parse text).new, (render_parse text ok).0, (render_parse text ok).1),
  λ r. form_read text r.1 r.2 r.3 r.4 r.5 r.0,
)
