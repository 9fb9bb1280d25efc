use Rattle.area.proofs.Headers.{sized_room, sized_area, fit_rank, header_short, header_dimension, header_ranks, header_size, header_tables, header_read}
use Rattle.offsets.proofs.Tables.{ranks_within}
use mathlib.Core.Path.{sym, ◌∙◌}
use Rattle.area.proofs.header.header_sound.Goals as goal

pub returns-then-area-lt32 : goal.returns-then-area-lt32
returns-then-area-lt32 c = header_short _ c.if-area-lt32.true

pub returns-then-not-dimension_ok : goal.returns-then-not-dimension_ok
returns-then-not-dimension_ok c =
    let if1 = c.if-area-lt32 in
    let dimension = c.dimension in
    let dimension_ok_call = c.dimension_ok in
    header_dimension _ if1.false dimension.ensures dimension_ok_call.ensures (c.if-not-dimension_ok.true)

pub returns-then-not-rank_count_ok : goal.returns-then-not-rank_count_ok
returns-then-not-rank_count_ok c =
    let if1 = c.if-area-lt32 in
    let dimension = c.dimension in
    let dimension_ok_call = c.dimension_ok in
    let if2 = c.if-not-dimension_ok in
    let ranks = c.ranks-ranks in
    let rank-count-ok = c.rank_count_ok in
    header_ranks _ if1.false dimension.ensures dimension_ok_call.ensures (if2.false) ranks.ensures rank-count-ok.ensures (c.if-not-rank_count_ok.true)

pub area_size-requires : goal.area_size-requires
area_size-requires c = (ranks_within _ (sym c.rank_count_ok.ensures ∙ c.if-not-rank_count_ok.false)).1

pub returns-then-area-area_size : goal.returns-then-area-area_size
returns-then-area-area_size c =
    let if1 = c.if-area-lt32 in
    let dimension = c.dimension in
    let dimension_ok_call = c.dimension_ok in
    let if2 = c.if-not-dimension_ok in
    let ranks = c.ranks-ranks in
    let rank-count-ok = c.rank_count_ok in
    let if3 = c.if-not-rank_count_ok in
    let dimension2 = c.dimension-2 in
    let count = c.count in
    let area-size = c.area_size in
    header_size _ if1.false dimension.ensures dimension_ok_call.ensures (if2.false) ranks.ensures rank-count-ok.ensures (if3.false) dimension2.ensures count.ensures area-size.ensures c.if-area-area_size.true

pub tables_of-tables-requires : goal.tables_of-tables-requires
tables_of-tables-requires c =
    let ranks = c.ranks-ranks in
    let rank-count-ok = c.rank_count_ok in
    let area-size = c.area_size in
    sized_room _ ranks.ensures _ _ rank-count-ok.ensures c.if-not-rank_count_ok.false area-size.ensures c.if-area-area_size.false

pub tables_fit-requires : goal.tables_fit-requires
tables_fit-requires c =
    let ranks = c.ranks-ranks in
    let tables = c.tables_of-tables in
    let dimension2 = c.dimension-2 in
    let count = c.count in
    let rank-count-ok = c.rank_count_ok in
    let if3 = c.if-not-rank_count_ok in
    let area-size = c.area_size in
    let if4 = c.if-area-area_size in
    sized_area _ ranks.ensures tables.ensures dimension2.ensures count.ensures rank-count-ok.ensures (if3.false) area-size.ensures if4.false

pub returns-then-not-tables_fit : goal.returns-then-not-tables_fit
returns-then-not-tables_fit c =
    let if1 = c.if-area-lt32 in
    let dimension = c.dimension in
    let dimension_ok_call = c.dimension_ok in
    let if2 = c.if-not-dimension_ok in
    let ranks = c.ranks-ranks in
    let rank-count-ok = c.rank_count_ok in
    let if3 = c.if-not-rank_count_ok in
    let dimension2 = c.dimension-2 in
    let count = c.count in
    let area-size = c.area_size in
    let if4 = c.if-area-area_size in
    let tables-fit = c.tables_fit in
    header_tables _ if1.false dimension.ensures dimension_ok_call.ensures (if2.false) ranks.ensures rank-count-ok.ensures (if3.false) dimension2.ensures count.ensures area-size.ensures if4.false tables-fit.ensures (c.if-not-tables_fit.true)

pub tree_count-requires : goal.tree_count-requires
tree_count-requires c =
    let ranks = c.ranks-ranks in
    let tables = c.tables_of-tables in
    let dimension2 = c.dimension-2 in
    let count = c.count in
    let rank-count-ok = c.rank_count_ok in
    let if3 = c.if-not-rank_count_ok in
    let area-size = c.area_size in
    let if4 = c.if-area-area_size in
    let tables-fit = c.tables_fit in
    let if5 = c.if-not-tables_fit in
    fit_rank (sized_area _ ranks.ensures tables.ensures dimension2.ensures count.ensures rank-count-ok.ensures (if3.false) area-size.ensures if4.false) c.rank.ensures (sym tables-fit.ensures ∙ if5.false)

pub returns : goal.returns
returns c =
    let if1 = c.if-area-lt32 in
    let dimension = c.dimension in
    let dimension_ok_call = c.dimension_ok in
    let if2 = c.if-not-dimension_ok in
    let ranks = c.ranks-ranks in
    let rank-count-ok = c.rank_count_ok in
    let if3 = c.if-not-rank_count_ok in
    let dimension2 = c.dimension-2 in
    let count = c.count in
    let area-size = c.area_size in
    let if4 = c.if-area-area_size in
    let tables-fit = c.tables_fit in
    let if5 = c.if-not-tables_fit in
    let tables = c.tables_of-tables in
    let rank = c.rank in
    let count2 = c.count-2 in
    let tree_count_call = c.tree_count in
    header_read _ if1.false dimension.ensures dimension_ok_call.ensures (if2.false) ranks.ensures rank-count-ok.ensures (if3.false) dimension2.ensures
    count.ensures area-size.ensures if4.false tables-fit.ensures (if5.false)
    (sized_area _ ranks.ensures tables.ensures dimension2.ensures count.ensures rank-count-ok.ensures (if3.false) area-size.ensures if4.false).is_new
    rank.ensures count2.ensures tree_count_call.ensures.0 c.read_u32.ensures
