use mathlib.Core.Path.{sym, ◌∙◌}
use Rattle.offsets_write.proofs.room.check_ranks.Goals as goal

pub returns-then-not-rank_count_ok : goal.returns-then-not-rank_count_ok
returns-then-not-rank_count_ok c = rw (sym c.rank_count_ok.ensures ∙ c.if-not-rank_count_ok.true)

pub returns : goal.returns
returns c = rw (sym c.rank_count_ok.ensures ∙ c.if-not-rank_count_ok.false)
