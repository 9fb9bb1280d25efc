use Rattle.leaf_shares.proofs.LeafCounts.{begins_later, entry_walked}
use Rattle.encoding.specs.Numbers.{put_u64}
use mathlib.Core.Path.{ap, ◌∙◌}
use Rattle.leaf_shares.proofs.table.put_rank.Goals as goal

pub entry_of-entry-requires : goal.entry_of-entry-requires
entry_of-entry-requires c = begins_later _ _ c.advance-at.ensures.1

pub returns : goal.returns
returns c =
    let advance = c.advance-at in
    let entry_of = c.entry_of-entry in
    let write-u64 = c.write_u64 in
    (advance.ensures.0, advance.ensures.1, write-u64.ensures ∙ ap (put_u64 _ _) (entry_walked _ _ _ advance.ensures.0 advance.ensures.1 entry_of.ensures))
