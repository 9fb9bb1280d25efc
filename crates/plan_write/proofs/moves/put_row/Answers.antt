use Rattle.plan_write.proofs.Writing.{row_word, row_sender, row_receiver, row_first, row_last, row_done}
use Rattle.plan_write.proofs.moves.put_row.Goals as goal

pub put_word-a-requires : goal.put_word-a-requires
put_word-a-requires c = row_word c.requires

pub put_number-b-requires : goal.put_number-b-requires
put_number-b-requires c = row_sender c.requires c.put_word-a.ensures

pub put_number-c-requires : goal.put_number-c-requires
put_number-c-requires c =
    let pre = c.requires in
    let put_word = c.put_word-a in
    let put-number = c.put_number-b in
    row_receiver pre put_word.ensures put-number.ensures

pub put_number-d-requires : goal.put_number-d-requires
put_number-d-requires c =
    let pre = c.requires in
    let put_word = c.put_word-a in
    let put-number = c.put_number-b in
    let put-number2 = c.put_number-c in
    row_first pre put_word.ensures put-number.ensures put-number2.ensures

pub put_number-requires : goal.put_number-requires
put_number-requires c =
    let pre = c.requires in
    let put_word = c.put_word-a in
    let put-number = c.put_number-b in
    let put-number2 = c.put_number-c in
    let put-number3 = c.put_number-d in
    row_last pre put_word.ensures put-number.ensures put-number2.ensures put-number3.ensures

pub returns : goal.returns
returns c =
    let pre = c.requires in
    let put_word = c.put_word-a in
    let put-number = c.put_number-b in
    let put-number2 = c.put_number-c in
    let put-number3 = c.put_number-d in
    let put-number4 = c.put_number in
    row_done pre put_word.ensures put-number.ensures put-number2.ensures put-number3.ensures put-number4.ensures
