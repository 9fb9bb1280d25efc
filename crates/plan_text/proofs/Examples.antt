-- Document 01's example of the program, computed on the definitions.
use Prim.Native.Nat.{ℕ, ◌-◌, ◌^◌}
use mathlib.Core.Path.{◌≡◌, refl}
use mathlib.Core.List.{List, [], ◌∷◌}
use Rattle.encoding.specs.Below.{all_below, any_below, count_below, least_below, sum_below}
use Rattle.encoding.specs.Pieces.{piece}
use Rattle.encoding.specs.Numbers.{le_value, le_bytes, le_at}
use Rattle.encoding.specs.Refusal.{first_failed}
use Rattle.offsets.specs.Limits.{rank_count_ok, tree_count_ok}
use Rattle.offsets.specs.Table.{ranks, ranks_ok, entry, negative, magnitude, first_of, trees, first_tree, end_tree, holds, entries_within, counts_ok, valid, table_bytes}
use Rattle.pattern.specs.Sender.{distance, nearest, sender, sends, sent_count, sent_first}
use Rattle.pattern.specs.Sets.{sends_to}
use Rattle.pattern.specs.Calls.{table_checks}
use Rattle.plan_read.specs.Text.{digits_of, decimal, entry_text, list_text, render}
use Rattle.plan_read.specs.Means.{is_digit, digit_count, value_of, digits_ok, read_number, negated, read_entry, before, read_list, word_at, read_ranks, read_old, read_new, form_ok, parse}
use Rattle.plan_write.specs.Moves.{line_text, move_text, moves_from, moves_text, move_count, moves_output}
use Rattle.plan_text.specs.Plan.{plan_ranks_ok, plan_refusal, plan_moves, plan_output}

-- its input
abbrev input : List ℕ
input =
    -- ranks=3
    114 ∷ 97 ∷ 110 ∷ 107 ∷ 115 ∷ 61 ∷ 51 ∷ 10 ∷
    -- old=0,-2,3,5
    111 ∷ 108 ∷ 100 ∷ 61 ∷ 48 ∷ 44 ∷ 45 ∷ 50 ∷ 44 ∷ 51 ∷ 44 ∷ 53 ∷ 10 ∷
    -- new=0,-3,-4,5
    110 ∷ 101 ∷ 119 ∷ 61 ∷ 48 ∷ 44 ∷ 45 ∷ 51 ∷ 44 ∷ 45 ∷ 52 ∷ 44 ∷ 53 ∷ 10 ∷ []

-- its output
abbrev output : List ℕ
output =
    -- ranks=3
    114 ∷ 97 ∷ 110 ∷ 107 ∷ 115 ∷ 61 ∷ 51 ∷ 10 ∷
    -- trees=5
    116 ∷ 114 ∷ 101 ∷ 101 ∷ 115 ∷ 61 ∷ 53 ∷ 10 ∷
    -- move=0,0,0,1
    109 ∷ 111 ∷ 118 ∷ 101 ∷ 61 ∷ 48 ∷ 44 ∷ 48 ∷ 44 ∷ 48 ∷ 44 ∷ 49 ∷ 10 ∷
    -- move=1,0,2,2
    109 ∷ 111 ∷ 118 ∷ 101 ∷ 61 ∷ 49 ∷ 44 ∷ 48 ∷ 44 ∷ 50 ∷ 44 ∷ 50 ∷ 10 ∷
    -- move=1,1,2,2
    109 ∷ 111 ∷ 118 ∷ 101 ∷ 61 ∷ 49 ∷ 44 ∷ 49 ∷ 44 ∷ 50 ∷ 44 ∷ 50 ∷ 10 ∷
    -- move=2,1,3,3
    109 ∷ 111 ∷ 118 ∷ 101 ∷ 61 ∷ 50 ∷ 44 ∷ 49 ∷ 44 ∷ 51 ∷ 44 ∷ 51 ∷ 10 ∷
    -- move=2,2,3,4
    109 ∷ 111 ∷ 118 ∷ 101 ∷ 61 ∷ 50 ∷ 44 ∷ 50 ∷ 44 ∷ 51 ∷ 44 ∷ 52 ∷ 10 ∷
    -- messages=5
    109 ∷ 101 ∷ 115 ∷ 115 ∷ 97 ∷ 103 ∷ 101 ∷ 115 ∷ 61 ∷ 53 ∷ 10 ∷ []

-- the input is rendered from P = 3 and two tables; an entry below 0 stands by its 64 bits
pub example_rendered : render 3 (0 ∷ (2 ^ 64 - 2) ∷ 3 ∷ 5 ∷ []) (0 ∷ (2 ^ 64 - 3) ∷ (2 ^ 64 - 4) ∷ 5 ∷ []) ≡ input
unfolding render list_text entry_text decimal digits_of negative magnitude
example_rendered = refl

pub plan_example : plan_output input ≡ output
unfolding plan_output plan_moves plan_refusal plan_ranks_ok moves_output move_count moves_text moves_from move_text line_text parse form_ok read_new read_old read_ranks word_at read_list before read_entry negated read_number digits_ok value_of digit_count is_digit decimal digits_of table_checks sends_to sent_first sent_count sends sender nearest distance table_bytes valid counts_ok entries_within holds end_tree first_tree trees first_of magnitude negative entry ranks_ok ranks tree_count_ok rank_count_ok first_failed le_at le_bytes le_value piece all_below any_below count_below least_below sum_below
plan_example = refl
