use Rattle.mesh_build.proofs.Writing.{header_written}
use Rattle.encoding.specs.Numbers.{put_u32}
use mathlib.Core.Path.{ap, ◌∙◌}
use Rattle.mesh_build.proofs.write.header.Goals as goal

pub returns : goal.returns
returns c =
    let pre = c.requires in
    let write-u32 = c.write_u32 in
    let dimension_of_call = c.dimension_of in
    let write-u322 = c.write_u32-2 in
    header_written _ _ _ pre (write-u32.ensures ∙ ap (put_u32 _ 0) dimension_of_call.ensures) write-u322.ensures
