-- An area: epoch, dimension, K, P, rank, n, ghost count, 0 (each u32); both tables; words of heard senders; n tree slots; ghost slots.
use Rattle.std.specs.Prelude.{ℕ, zero, suc, ◌+◌, ◌-◌, ◌*◌, ◌^◌, Bool, cond, List, [], ◌++◌, leb, replicate}
use Rattle.encoding.specs.Below.{sum_below}
use Rattle.encoding.specs.Header.{eight_bytes}
use Rattle.encoding.specs.Numbers.{le_bytes}
use Rattle.offsets.specs.Table.{ranks, trees, tree_count}
use Rattle.records.specs.Shape.{faces_in}
use Rattle.records.specs.Record.{core_size, tree_size}

abbrev pub area_header : ℕ
area_header = 32

-- document 02, C-17: how many words of 64 bits hold the heard senders of P ranks, 16 up to 1,024 ranks, 256 above
unfoldable pub heard_words : ℕ → ℕ
heard_words P = cond (leb P 1024) 16 256

-- how many ghosts n trees with F faces can have; an area of n trees has so many ghost slots
unfoldable pub ghost_bound : ℕ → ℕ → ℕ
ghost_bound F n = F * n

-- where the zones of an area for P ranks and n trees begin
abbrev pub old_place : ℕ
old_place = area_header

unfoldable pub new_place : ℕ → ℕ
new_place P = old_place + 8 * (P + 1)

unfoldable pub words_place : ℕ → ℕ
words_place P = new_place P + 8 * (P + 1)

unfoldable pub slots_place : ℕ → ℕ
slots_place P = words_place P + 8 * heard_words P

unfoldable pub ghost_slots_place : ℕ → ℕ → ℕ
ghost_slots_place P n = slots_place P + tree_size * n

-- an area ends with its last slot
unfoldable pub area_size : ℕ → ℕ → ℕ → ℕ
area_size dimension P n = ghost_slots_place P n + core_size * ghost_bound (faces_in dimension) n

-- the header
unfoldable pub area_header_bytes : ℕ → ℕ → ℕ → ℕ → ℕ → ℕ → ℕ → List ℕ
area_header_bytes epoch dimension K P rank n g = eight_bytes epoch dimension K P rank n g 0

-- word w of the heard senders: bit s mod 64 of word s div 64 is set for a heard sender s
unfoldable pub word_of : (ℕ → Bool) → ℕ → ℕ
word_of heard w = sum_below 64 (λ b. cond (heard (64 * w + b)) (2 ^ b) 0)

unfoldable pub words_of : (ℕ → Bool) → ℕ → List ℕ
words_of heard zero = []
words_of heard (suc n) = words_of heard n ++ le_bytes 8 (word_of heard n)

-- the first n tree slots
unfoldable pub slots_of : (ℕ → List ℕ) → ℕ → List ℕ
slots_of slot zero = []
slots_of slot (suc n) = slots_of slot n ++ slot n

-- the area of an epoch, a dimension, two tables and a rank with these senders heard, tree slots and g ghosts; every other slot is zero
unfoldable pub area_with : ℕ → ℕ → List ℕ → List ℕ → ℕ → (ℕ → Bool) → (ℕ → List ℕ) → ℕ → List ℕ → List ℕ
area_with epoch dimension old new rank heard slot g ghosts =
    area_header_bytes epoch dimension (trees old) (ranks old) rank (tree_count new rank) g
    ++ (old ++ (new ++ (words_of heard (heard_words (ranks old)) ++ (slots_of slot (tree_count new rank)
    ++ (ghosts ++ replicate (core_size * (ghost_bound (faces_in dimension) (tree_count new rank) - g)) 0)))))
