use Rattle.records.proofs.Forms.{plain_read}
use Rattle.records.proofs.form.plain.Goals as goal

pub returns : goal.returns
returns c = plain_read _ _ c.alike.ensures c.leads_to.ensures
