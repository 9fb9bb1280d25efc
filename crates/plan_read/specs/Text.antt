-- Numbers and tables as text, in ASCII: 10 is LF, 44 comma, 45 minus, 48 to 57 the digits, 61 equals.
use Rattle.std.specs.Prelude.{ℕ, zero, suc, ◌+◌, ◌/◌, ◌%◌, ◌^◌, ◌≤◌, ◌≡◌, Bool, true, cond, ◌&&◌, List, [], ◌∷◌, ◌++◌, ltb, length, get_or}
use Rattle.encoding.specs.Below.{all_below}
use Rattle.offsets.specs.Table.{negative, magnitude}

-- n in decimal, with no leading zeros, in at most w digits
unfoldable pub digits_of : ℕ → ℕ → List ℕ
digits_of zero n = []
digits_of (suc w) n = cond (ltb n 10) ((48 + n) ∷ []) (digits_of w (n / 10) ++ ((48 + n % 10) ∷ []))

-- numbers have at most 8 digits
unfoldable pub decimal : ℕ → List ℕ
decimal n = digits_of 8 n

abbrev pub number_limit : ℕ
number_limit = 100000000

-- a table's entry, given by its 64 bits: the sign is no digit
unfoldable pub entry_text : ℕ → List ℕ
entry_text v = cond (negative v) (45 ∷ decimal (magnitude v)) (decimal v)

-- an entry that such a text can give: at most 8 digits
unfoldable pub entry_fits : ℕ → Bool
entry_fits v = ltb v (2 ^ 64) && ltb (magnitude v) number_limit

-- entries, each but the last with a comma behind it
unfoldable pub list_text : List ℕ → List ℕ
list_text [] = []
list_text (v ∷ []) = entry_text v
list_text (v ∷ w ∷ vs) = entry_text v ++ (44 ∷ list_text (w ∷ vs))

-- `ranks=`: r, a, n, k, s, =
abbrev pub ranks_word : List ℕ
ranks_word = 114 ∷ 97 ∷ 110 ∷ 107 ∷ 115 ∷ 61 ∷ []

-- `old=`: o, l, d, =
abbrev pub old_word : List ℕ
old_word = 111 ∷ 108 ∷ 100 ∷ 61 ∷ []

-- `new=`: n, e, w, =
abbrev pub new_word : List ℕ
new_word = 110 ∷ 101 ∷ 119 ∷ 61 ∷ []

-- the three lines of the input
unfoldable pub render : ℕ → List ℕ → List ℕ → List ℕ
render P old new = ranks_word ++ (decimal P ++ (10 ∷ (old_word ++ (list_text old ++ (10 ∷ (new_word ++ (list_text new ++ (10 ∷ []))))))))

-- what the text of the program's input may stand for: P, and two lists of P + 1 numbers of at most 8 digits
pub record Input (P : ℕ) (old new : List ℕ) : Type 0 where
  pub ranks_fit : ltb P number_limit ≡ true
  pub old_count : length old ≡ P + 1
  pub new_count : length new ≡ P + 1
  pub old_fit : all_below (length old) (λ i. entry_fits (get_or old i 0)) ≡ true
  pub new_fit : all_below (length new) (λ i. entry_fits (get_or new i 0)) ≡ true

-- the most bytes that an input may have
abbrev pub input_limit : ℕ
input_limit = 32768

-- a well-formed text: what `render` writes for such an input, within that limit
abbrev pub Rendered : List ℕ → Type 0
Rendered text = (length text ≤ input_limit) × (P : ℕ) × (old : List ℕ) × (new : List ℕ) × Input P old new × (text ≡ render P old new)
