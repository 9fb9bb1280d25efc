use Rattle.area.proofs.Soundness.{sound_holds}
use Rattle.area_open.proofs.Progressing.{progress_read, progress_refused}
use Rattle.area.proofs.Tabled.{tabled_rank}
use Rattle.area.proofs.Headers.{tables_room, tabled}
use mathlib.Core.Path.{sym, ◌∙◌}
use native.Mathlib.Omega.{arith}
use Rattle.area_open.proofs.progress_of.Goals as goal

pub returns-then-not-area_sound : goal.returns-then-not-area_sound
returns-then-not-area_sound c = progress_refused _ (sym c.area_sound.ensures ∙ c.if-not-area_sound.true)

pub heard_ones-heard-requires : goal.heard_ones-heard-requires
heard_ones-heard-requires c = sound_holds _ (sym c.area_sound.ensures ∙ c.if-not-area_sound.false) (λ i. (c.shared_slice_known-1.given i).fits)

pub tables_of-tables-requires : goal.tables_of-tables-requires
tables_of-tables-requires c = tables_room (sound_holds _ (sym c.area_sound.ensures ∙ c.if-not-area_sound.false) (λ i. (c.shared_slice_known-1.given i).fits))

pub rank-rank-requires : goal.rank-rank-requires
rank-rank-requires c = omega (arith, (sound_holds _ (sym c.area_sound.ensures ∙ c.if-not-area_sound.false) (λ i. (c.shared_slice_known-1.given i).fits)).long)

pub set_count-due-requires : goal.set_count-due-requires
set_count-due-requires c = tabled_rank (tabled c.tables_of-tables.ensures (sound_holds _ (sym c.area_sound.ensures ∙ c.if-not-area_sound.false) (λ i. (c.shared_slice_known-1.given i).fits))) c.rank-rank.ensures

pub returns : goal.returns
returns c =
    let h = sound_holds _ (sym c.area_sound.ensures ∙ c.if-not-area_sound.false) (λ i. (c.shared_slice_known-1.given i).fits) in
    progress_read _ (sym c.area_sound.ensures ∙ c.if-not-area_sound.false) h (tabled c.tables_of-tables.ensures h) c.rank-rank.ensures c.heard_ones-heard.ensures c.set_count-due.ensures.0
