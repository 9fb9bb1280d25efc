use Rattle.message_build.proofs.Writing.{core_written}
use Rattle.message_build.proofs.write.write_core.Goals as goal

pub returns : goal.returns
returns c =
    let pre = c.requires in
    let copy40 = c.copy40 in
    let put-links = c.put_links in
    core_written _ _ _ _ _ pre.source pre.target copy40.ensures put-links.ensures
