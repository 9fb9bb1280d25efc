-- A list that is read entry by entry: what has been read, and what is left to read.
use Rattle.std.proofs.Common.{Some, None}
use Prim.Native.Nat.{ℕ, zero, suc, ◌+◌, ◌-◌, ◌*◌, ◌/◌, ◌≤◌, ◌<◌}
use mathlib.Core.Path.{◌≡◌, refl, sym, ap, ◌∙◌}
use mathlib.Core.Bool.{true, false, cond}
use mathlib.Core.List.{List, [], ◌∷◌, ◌++◌, append_assoc}
use native.Mathlib.Nat.{zero-add, sub-zero}
use native.Mathlib.Omega.{arith}
use lib.Dec.{ltb, eqb}
use lib.ListN.{length, drop, length-append, length-drop}
use borrow.Author.Tests.{lt-ltb, ne_eqb}
use Rattle.encoding.specs.Pieces.{splice}
use Rattle.encoding.specs.Numbers.{le_put, le_bytes}
use Rattle.encoding.proofs.Below.{tests, either, clash}
use Rattle.encoding.proofs.Pieces.{splice_none, splice_then}
use Rattle.encoding.proofs.Numbers.{length_put}
use Rattle.offsets.specs.Table.{table_bytes}
use Rattle.plan_read.specs.Text.{entry_text}
use Rattle.plan_read.specs.Means.{byte_at, Number, read_entry, Entries, no_entries, before, read_list, stored, number_to, ListRead}
use Rattle.plan_read.proofs.Grammar.{byte_within, entry_least, entry_sound, from_length, before_ok, table_length_lem, table_snoc}

-- ---- one entry

module _ (text : List ℕ) (at : ℕ) where
  no-entry : (most : ℕ) → (read_entry text at).ok ≡ false → read_list most text at ≡ no_entries
  unfolding read_list
  no-entry zero p = refl
  no-entry (suc most) p = rw p

  module _ (most : ℕ) (ok : (read_entry text at).ok ≡ true) where
    comma : byte_at text (read_entry text at).next ≡ 44 → read_list (suc most) text at ≡ before (read_entry text at).value (read_list most text ((read_entry text at).next + 1))
    unfolding read_list
    comma e = rw (ok, e)

    line_feed : byte_at text (read_entry text at).next ≡ 10
        → read_list (suc most) text at ≡ record { ok = true; values = (read_entry text at).value ∷ []; next = (read_entry text at).next + 1 }
    unfolding read_list
    line_feed e = rw (ok, e)

    neither : (byte_at text (read_entry text at).next ≡ 44 → ⊥) → (byte_at text (read_entry text at).next ≡ 10 → ⊥) → read_list (suc most) text at ≡ no_entries
    unfolding read_list
    neither p q = rw (ok, ne_eqb (byte_at text (read_entry text at).next) 44 p, ne_eqb (byte_at text (read_entry text at).next) 10 q)

  -- an entry begins within the text and ends behind its place
  entry-moves : (read_entry text at).ok ≡ true → (at < length text) × (at < (read_entry text at).next)
  entry-moves ok =
      let n : Number = read_entry text at in
      let l : length text - at ≡ length (entry_text n.value) + length (drop n.next text) = from_length text at (entry_text n.value) (drop n.next text) (entry_sound text at ok).1 in
      let m : length (drop n.next text) ≡ length text - n.next = length-drop n.next text in
      let k : 1 ≤ length (entry_text n.value) = entry_least n.value in
      (omega arith, omega arith)

-- ---- lists

before_none : (v : ℕ) (es : Entries) → es.ok ≡ false → before v es ≡ no_entries
unfolding before
before_none v es p = rw p

-- a list that isn't read says nothing
list_none : (most : ℕ) (text : List ℕ) (at : ℕ) → (read_list most text at).ok ≡ false → read_list most text at ≡ no_entries
unfolding read_list
list_none zero text at e = refl
list_none (suc most) text at e =
    let n : Number = read_entry text at in
    either n.ok
    (λ p. either (eqb (byte_at text n.next) 44)
    (λ q. rw (p, q) (before_none n.value (read_list most text (n.next + 1)) (sym (before_ok n.value (read_list most text (n.next + 1))) ∙ rw (p, q) at e)))
    (λ q. either (eqb (byte_at text n.next) 10) (λ r. clash refl (rw (p, q, r) at e)) (λ r. rw (p, q, r))))
    (λ p. rw p)

-- entries in front of a list
pub prefixed : List ℕ → Entries → Entries
prefixed vs es = cond es.ok (record { ok = true; values = vs ++ es.values; next = es.next }) no_entries

prefixed_none : (es : Entries) → (es.ok ≡ false → es ≡ no_entries) → prefixed [] es ≡ es
unfolding prefixed
prefixed_none es f =
    either es.ok
    (λ p. rw p)
    (λ p. let e : prefixed [] es ≡ no_entries = rw p in e ∙ sym (f p))

prefixed_before : (vs : List ℕ) (v : ℕ) (es : Entries) → prefixed vs (before v es) ≡ prefixed (vs ++ (v ∷ [])) es
unfolding prefixed before
prefixed_before vs v es = either es.ok (λ p. rw (p, append_assoc)) (λ p. rw p)

-- ---- tables

-- a store keeps the length
stored_length : (t : List ℕ) (i v : ℕ) → length (stored t i v) ≡ length t
unfolding stored
stored_length t i v = either (ltb i (length t / 8)) (λ p. rw p (length_put 8 t (8 * i) v (omega tests))) (λ p. rw p)

-- a store where there is room
stored_at : (t : List ℕ) (i v : ℕ) → 8 * (i + 1) ≤ length t → stored t i v ≡ splice t (8 * i) (le_bytes 8 v)
unfolding stored le_put
stored_at t i v h = rw (lt-ltb i (length t / 8) (omega arith))

-- ---- turns

-- so far `count` entries are read, up to a place, and stored
pub record Reading (text : List ℕ) (at : ℕ) (entry : List ℕ) (count place : ℕ) (table : List ℕ) : Type 0 where
  pub values : List ℕ
  pub many : length values ≡ count
  pub ahead : count ≤ place
  pub left : read_list (length text) text at ≡ prefixed values (read_list (length text - count) text place)
  pub size : length table ≡ length entry
  pub filled : 8 * count ≤ length entry → table ≡ splice entry 0 (table_bytes values)

pub reading_none : (text : List ℕ) (at : ℕ) (entry : List ℕ) → Reading text at entry 0 at entry
unfolding table_bytes
reading_none text at entry =
    record {
      values = [];
      many = refl;
      ahead = omega arith;
      left = rw sub-zero (sym (prefixed_none (read_list (length text) text at) (list_none (length text) text at)));
      size = refl;
      filled = λ h. sym (splice_none entry 0);
    }

module _ {text : List ℕ} {at : ℕ} {entry : List ℕ} {count place : ℕ} {table : List ℕ} (s : Reading text at entry count place table) where
  -- nothing is read
  failed : {exit : List ℕ} → read_list (length text - count) text place ≡ no_entries → ListRead text (read_list (length text) text at) entry exit None
  unfolding prefixed
  failed e =
      let z : read_list (length text) text at ≡ no_entries = s.left ∙ rw e in
      rw z record { gives = refl; within = omega arith; filled = λ p h. clash p refl }

  pub reading_refused : (read_entry text place).ok ≡ false → ListRead text (read_list (length text) text at) entry table None
  reading_refused p = failed (no-entry text place (length text - count) p)

  module _ {v next : ℕ} (en : number_to (Some v) next ≡ read_entry text place) where
    read : (read_entry text place).ok ≡ true
    read = rw (← en)

    -- the entry begins within the text and ends behind its place
    pub reading_moves : (place < length text) × (place < next)
    reading_moves = let m = entry-moves text place read in rw (← en) at m

    -- the entries left are one fewer
    fewer : length text - count ≡ suc (length text - (count + 1))
    fewer = omega (arith, reading_moves, s.ahead)

    module _ {exit : List ℕ} (et : exit ≡ stored table count v) {b : ℕ} (eb : b ≡ byte_at text next) where
      behind : (x : ℕ) → b ≡ x → byte_at text (read_entry text place).next ≡ x
      behind x p = rw (← en) (sym eb ∙ p)

      not_behind : (x : ℕ) → (b ≡ x → ⊥) → byte_at text (read_entry text place).next ≡ x → ⊥
      not_behind x p q = p (eb ∙ rw (← en) at q)

      -- a byte that isn't 0 is within the text
      pub reading_within : 0 < b → next < length text
      reading_within h = byte_within text next (omega arith)

      pub exit_size : length exit ≡ length entry
      exit_size = ap length et ∙ (stored_length table count v ∙ s.size)

      exit-filled : 8 * (count + 1) ≤ length entry → exit ≡ splice entry 0 (table_bytes (s.values ++ (v ∷ [])))
      exit-filled h =
          let w : exit ≡ splice table (0 + 8 * count) (le_bytes 8 v) = rw zero-add (et ∙ stored_at table count v (omega (arith, s.size))) in
          rw (table_snoc s.values v)
          (splice_then entry 0 (8 * count) (table_bytes s.values) (le_bytes 8 v) (table_length_lem s.values ∙ ap (λ (k : ℕ). 8 * k) s.many) (omega arith) (s.filled (omega arith)) w)

      one_more : length (s.values ++ (v ∷ [])) ≡ count + 1
      one_more = rw (length-append, s.many)

      -- LF ends the list
      pub reading_last : b ≡ 10 → ListRead text (read_list (length text) text at) entry exit (Some (record { count = count + 1; next = next + 1 }))
      unfolding prefixed
      reading_last p =
          let z : read_list (length text) text at ≡ record { ok = true; values = s.values ++ (v ∷ []); next = next + 1 } =
          s.left ∙ rw (fewer, line_feed text place (length text - (count + 1)) read (behind 10 p), ← en) in
          let w : next < length text = reading_within (omega arith) in
          rw z
          record { gives = rw one_more; within = omega arith; filled = λ q h. exit-filled (rw one_more at h) }

      -- any other byte but a comma
      pub reading_broken : (b ≡ 10 → ⊥) → (b ≡ 44 → ⊥) → ListRead text (read_list (length text) text at) entry exit None
      reading_broken p q = failed (rw fewer (neither text place (length text - (count + 1)) read (not_behind 44 q) (not_behind 10 p)))

      -- a comma
      pub reading_more : b ≡ 44 → Reading text at entry (count + 1) (next + 1) exit
      reading_more p =
          record {
            values = s.values ++ (v ∷ []);
            many = one_more;
            ahead = omega (arith, reading_moves, s.ahead);
            left =
                s.left
                ∙ rw (fewer, comma text place (length text - (count + 1)) read (behind 44 p), ← en) (prefixed_before s.values v (read_list (length text - (count + 1)) text (next + 1)));
            size = exit_size;
            filled = exit-filled;
          }
