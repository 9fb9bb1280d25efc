-- Means, no part of what is promised: reading the input, so that each call's answer is one equation, and what the reader's functions hand on. A text is in form exactly where it is
-- `Rendered`, and gives back what was rendered: `form-exact` and `parse-render` (proofs/Grammar.antt).
use Rattle.std.specs.Prelude.{ℕ, zero, suc, ◌+◌, ◌-◌, ◌*◌, ◌/◌, ◌^◌, ◌≤◌, ◌≡◌, Bool, true, false, cond, not, ◌&&◌, ◌||◌, List, [], ◌∷◌, leb, ltb, eqb, length, get_or, Some, None}
use Rattle.std.specs.declared.option.Option.{Option}
use Rattle.encoding.specs.Below.{all_below, least_below}
use Rattle.encoding.specs.Pieces.{piece, splice}
use Rattle.encoding.specs.Numbers.{put_u64}
use Rattle.offsets.specs.Table.{table_length, table_bytes}
use Rattle.plan_read.specs.declared.number.Numeral.{Numeral}
use Rattle.plan_read.specs.declared.input.Counted.{Counted}
use Rattle.plan_read.specs.Text.{input_limit, ranks_word, old_word, new_word}

-- ---- what a text says

-- the byte at a place; 0, which no line holds, past the end
abbrev pub byte_at : List ℕ → ℕ → ℕ
byte_at text at = get_or text at 0

unfoldable pub is_digit : ℕ → Bool
is_digit b = leb 48 b && leb b 57

-- how many digits stand from a place on
unfoldable pub digit_count : List ℕ → ℕ → ℕ
digit_count text at = least_below (length text - at) (λ i. not (is_digit (byte_at text (at + i))))

-- the number that digits stand for, after the number v in front of them
unfoldable pub value_of : ℕ → List ℕ → ℕ
value_of v [] = v
value_of v (d ∷ ds) = value_of (10 * v + (d - 48)) ds

-- a number that was read, and the place behind it
pub record Number : Type 0 where
  pub ok : Bool
  pub value : ℕ
  pub next : ℕ

-- 1 to 8 digits, no zero in front
unfoldable pub digits_ok : List ℕ → ℕ → Bool
digits_ok text at = leb 1 (digit_count text at) && leb (digit_count text at) 8 && (eqb (digit_count text at) 1 || not (eqb (byte_at text at) 48))

unfoldable pub read_number : List ℕ → ℕ → Number
read_number text at =
    record { ok = digits_ok text at; value = cond (digits_ok text at) (value_of 0 (piece text at (digit_count text at))) 0; next = at + digit_count text at }

-- the number behind a minus sign, as its 64 bits; there is no -0
unfoldable pub negated : Number → Number
negated n = record { ok = n.ok && ltb 0 n.value; value = cond (n.ok && ltb 0 n.value) (2 ^ 64 - n.value) 0; next = n.next }

-- an entry of a table
unfoldable pub read_entry : List ℕ → ℕ → Number
read_entry text at = cond (eqb (byte_at text at) 45) (negated (read_number text (at + 1))) (read_number text at)

-- a list that was read, and the place behind its LF
pub record Entries : Type 0 where
  pub ok : Bool
  pub values : List ℕ
  pub next : ℕ

abbrev pub no_entries : Entries
no_entries = record { ok = false; values = []; next = 0 }

-- an entry in front of others
unfoldable pub before : ℕ → Entries → Entries
before v es = cond es.ok (record { ok = true; values = v ∷ es.values; next = es.next }) no_entries

-- a list of at most so many entries, with commas between them and LF behind the last
unfoldable pub read_list : ℕ → List ℕ → ℕ → Entries
read_list zero text at = no_entries
read_list (suc most) text at =
    cond (read_entry text at).ok
    (cond (eqb (byte_at text (read_entry text at).next) 44)
    (before (read_entry text at).value (read_list most text ((read_entry text at).next + 1)))
    (cond (eqb (byte_at text (read_entry text at).next) 10)
    (record { ok = true; values = (read_entry text at).value ∷ []; next = (read_entry text at).next + 1 })
    no_entries))
    no_entries

-- the word stands at the place
unfoldable pub word_at : List ℕ → ℕ → List ℕ → Bool
word_at text at word = all_below (length word) (λ i. eqb (byte_at text (at + i)) (get_or word i 0))

-- what the input says
pub record Parsed : Type 0 where
  pub ok : Bool
  pub ranks : ℕ
  pub old : List ℕ
  pub new : List ℕ

-- the three places that the lines before decide
unfoldable pub read_ranks : List ℕ → Number
read_ranks text = read_number text 6

unfoldable pub read_old : List ℕ → Entries
read_old text = read_list (length text) text ((read_ranks text).next + 5)

unfoldable pub read_new : List ℕ → Entries
read_new text = read_list (length text) text ((read_old text).next + 4)

-- the three lines, each with its word and LF, nothing behind them, and as many entries as ranks + 1
unfoldable pub form_ok : List ℕ → Bool
form_ok text =
    leb (length text) input_limit
    && (word_at text 0 ranks_word && (read_ranks text).ok && eqb (byte_at text (read_ranks text).next) 10)
    && (word_at text ((read_ranks text).next + 1) old_word && (read_old text).ok)
    && (word_at text (read_old text).next new_word && (read_new text).ok)
    && eqb (read_new text).next (length text)
    && (eqb (length (read_old text).values) ((read_ranks text).value + 1) && eqb (length (read_new text).values) ((read_ranks text).value + 1))

unfoldable pub parse : List ℕ → Parsed
parse text = record { ok = form_ok text; ranks = (read_ranks text).value; old = (read_old text).values; new = (read_new text).values }

-- ---- what the functions hand on

-- a number, where one was read, and the place behind its digits
abbrev pub number_to : Option ℕ → ℕ → Number
number_to None next = record { ok = false; value = 0; next = next }
number_to (Some v) next = record { ok = true; value = v; next = next }

-- the same of what a function hands on
abbrev pub numeral_of : Numeral → Number
numeral_of n = number_to n.value n.next

-- a count of digits that a number may have, where b is the first
abbrev pub digit_count_ok : ℕ → ℕ → Bool
digit_count_ok n b = leb 1 n && leb n 8 && (eqb n 1 || not (eqb b 48))

-- the table t with entry i, where there is room for it
unfoldable pub stored : List ℕ → ℕ → ℕ → List ℕ
stored t i v = cond (ltb i (length t / 8)) (put_u64 t (8 * i) v) t

-- the place behind a word that stands at a place
abbrev pub place_behind : List ℕ → ℕ → List ℕ → Option ℕ
place_behind text at word = cond (word_at text at word) (Some (at + length word)) None

-- a list, as it is counted
abbrev pub counted_of : Entries → Option Counted
counted_of es = cond es.ok (Some (record { count = length es.values; next = es.next })) None

-- the list es of a text, as it is counted, and the table that it leaves where there is room for all its entries
pub record ListRead (text : List ℕ) (es : Entries) (entry exit : List ℕ) (r : Option Counted) : Type 0 where
  pub gives : r ≡ counted_of es
  pub within : es.next ≤ length text
  pub filled : es.ok ≡ true → 8 * length es.values ≤ length entry → exit ≡ splice entry 0 (table_bytes es.values)

-- a list at the start of a table that has room for P + 1 entries
abbrev pub Fills : ℕ → List ℕ → List ℕ → List ℕ → Type 0
Fills P values entry exit = table_length P ≤ length entry → exit ≡ splice entry 0 (table_bytes values)

-- what the whole input says, and the tables that it leaves
pub record InputRead (text old_entry old_exit new_entry new_exit : List ℕ) (r : Option ℕ) : Type 0 where
  pub gives : r ≡ cond (form_ok text) (Some (parse text).ranks) None
  pub old : form_ok text ≡ true → Fills (parse text).ranks (parse text).old old_entry old_exit
  pub new : form_ok text ≡ true → Fills (parse text).ranks (parse text).new new_entry new_exit
