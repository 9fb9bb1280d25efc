use Rattle.area_check.proofs.Checking.{area_header_fails, area_crowded, area_fails, area_read, area_fits}
use Rattle.area.proofs.Headers.{header_holds, tables_room, tabled}
use mathlib.Core.Path.{sym, ◌∙◌}
use native.Mathlib.Omega.{arith}
use Rattle.area_check.proofs.sound.area_sound.Goals as goal

pub returns-then-not-header_sound : goal.returns-then-not-header_sound
returns-then-not-header_sound c = area_header_fails _ (sym c.header_sound.ensures ∙ c.if-not-header_sound.true)

pub tables_of-tables-requires : goal.tables_of-tables-requires
tables_of-tables-requires c =
    let shared-slice-known = c.shared_slice_known-1 in
    let header-sound = c.header_sound in
    let if1 = c.if-not-header_sound in
    tables_room (header_holds _ (λ i. (shared-slice-known.given i).fits) (sym header-sound.ensures ∙ if1.false))

pub dimension-requires : goal.dimension-requires
dimension-requires c =
    let shared-slice-known = c.shared_slice_known-1 in
    let header-sound = c.header_sound in
    let if1 = c.if-not-header_sound in
    omega (arith, (header_holds _ (λ i. (shared-slice-known.given i).fits) (sym header-sound.ensures ∙ if1.false)).long)

pub count-requires : goal.count-requires
count-requires c =
    let shared-slice-known = c.shared_slice_known-1 in
    let header-sound = c.header_sound in
    let if1 = c.if-not-header_sound in
    omega (arith, (header_holds _ (λ i. (shared-slice-known.given i).fits) (sym header-sound.ensures ∙ if1.false)).long)

pub ghosts-requires : goal.ghosts-requires
ghosts-requires c =
    let shared-slice-known = c.shared_slice_known-1 in
    let header-sound = c.header_sound in
    let if1 = c.if-not-header_sound in
    omega (arith, (header_holds _ (λ i. (shared-slice-known.given i).fits) (sym header-sound.ensures ∙ if1.false)).long)

pub returns-then-ghost_bound-ghosts : goal.returns-then-ghost_bound-ghosts
returns-then-ghost_bound-ghosts c =
    let header-sound = c.header_sound in
    let if1 = c.if-not-header_sound in
    let ghosts = c.ghosts in
    let dimension = c.dimension in
    let count = c.count in
    let ghost-bound = c.ghost_bound in
    area_crowded _ (sym header-sound.ensures ∙ if1.false) ghosts.ensures dimension.ensures count.ensures ghost-bound.ensures.0 c.if-ghost_bound-ghosts.true

pub bits_sound-requires : goal.bits_sound-requires
bits_sound-requires c =
    let tables = c.tables_of-tables in
    let shared-slice-known = c.shared_slice_known-1 in
    let header-sound = c.header_sound in
    let if1 = c.if-not-header_sound in
    tabled tables.ensures (header_holds _ (λ i. (shared-slice-known.given i).fits) (sym header-sound.ensures ∙ if1.false))

pub ghosts_sound-requires : goal.ghosts_sound-requires
ghosts_sound-requires c =
    let tables = c.tables_of-tables in
    let shared-slice-known = c.shared_slice_known-1 in
    let header-sound = c.header_sound in
    let if1 = c.if-not-header_sound in
    let ghosts = c.ghosts in
    let dimension = c.dimension in
    let count = c.count in
    let ghost-bound = c.ghost_bound in
    let if2 = c.if-ghost_bound-ghosts in
    let sound = sym header-sound.ensures ∙ if1.false in (
      tabled tables.ensures (header_holds _ (λ i. (shared-slice-known.given i).fits) sound),
      area_fits _ sound ghosts.ensures dimension.ensures count.ensures ghost-bound.ensures.0 if2.false,
    )

pub returns-then-not-bits_sound-ghosts_sound : goal.returns-then-not-bits_sound-ghosts_sound
returns-then-not-bits_sound-ghosts_sound c =
    let header-sound = c.header_sound in
    let if1 = c.if-not-header_sound in
    let bits-sound = c.bits_sound in
    let ghosts-sound = c.ghosts_sound in
    area_fails _ (sym header-sound.ensures ∙ if1.false) bits-sound.ensures ghosts-sound.ensures (c.if-not-bits_sound-ghosts_sound.true)

pub ranges_sound-requires : goal.ranges_sound-requires
ranges_sound-requires c =
    let tables = c.tables_of-tables in
    let shared-slice-known = c.shared_slice_known-1 in
    let header-sound = c.header_sound in
    let if1 = c.if-not-header_sound in
    tabled tables.ensures (header_holds _ (λ i. (shared-slice-known.given i).fits) (sym header-sound.ensures ∙ if1.false))

pub returns : goal.returns
returns c =
    let header-sound = c.header_sound in
    let if1 = c.if-not-header_sound in
    let bits-sound = c.bits_sound in
    let ghosts-sound = c.ghosts_sound in
    let if3 = c.if-not-bits_sound-ghosts_sound in
    area_read _ (sym header-sound.ensures ∙ if1.false) bits-sound.ensures ghosts-sound.ensures (if3.false) c.ranges_sound.ensures
