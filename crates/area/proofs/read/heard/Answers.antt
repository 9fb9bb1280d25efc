use Rattle.area.proofs.Tabled.{heard_read}
use Rattle.area.proofs.read.heard.Goals as goal

pub returns : goal.returns
returns c =
    let ranks = c.ranks in
    let words-place = c.words_place in
    let read_u64 = c.read_u64 in
    heard_read _ _ ranks.ensures words-place.ensures.0 read_u64.ensures c.bit.ensures
