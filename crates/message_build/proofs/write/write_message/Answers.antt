use Rattle.message.specs.Layout.{message_header_bytes}
use Rattle.message_build.proofs.Whole.{header_held, header_room, records_room, message_written}
use Rattle.message_build.proofs.write.write_message.Goals as goal

pub dimension-dimension-requires : goal.dimension-dimension-requires
dimension-dimension-requires c = header_held _ _ _ _ _ _ _ _ _ _ _ c.requires

pub trees-trees-requires : goal.trees-trees-requires
trees-trees-requires c = header_held _ _ _ _ _ _ _ _ _ _ _ c.requires

pub write_eight-requires : goal.write_eight-requires
write_eight-requires c = header_room _ _ _ _ _ _ _ _ _ _ _ c.requires

pub write_records-requires : goal.write_records-requires
unfolding message_header_bytes
write_records-requires c =
    let pre = c.requires in
    let dimension = c.dimension-dimension in
    let trees = c.trees-trees in
    let ranks = c.ranks-ranks in
    let write-eight = c.write_eight in
    records_room _ _ _ _ _ _ _ _ _ _ _ pre dimension.ensures trees.ensures ranks.ensures.0 write-eight.ensures

pub returns : goal.returns
unfolding message_header_bytes
returns c =
    let pre = c.requires in
    let dimension = c.dimension-dimension in
    let trees = c.trees-trees in
    let ranks = c.ranks-ranks in
    let write-eight = c.write_eight in
    let write-records = c.write_records in
    message_written _ _ _ _ _ _ _ _ _ _ _ pre dimension.ensures trees.ensures ranks.ensures.0 write-eight.ensures write-records.ensures
