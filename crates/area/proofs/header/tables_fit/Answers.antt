use Rattle.area.proofs.Headers.{sized_long, sized_old, sized_new, fit_read}
use native.Mathlib.Omega.{arith}
use Rattle.area.proofs.header.tables_fit.Goals as goal

pub trees-k-requires : goal.trees-k-requires
trees-k-requires c = omega (arith, sized_long c.requires)

pub valid-requires : goal.valid-requires
valid-requires c = (sized_old c.requires).1

pub valid-requires-2 : goal.valid-requires-2
valid-requires-2 c = (sized_new c.requires).1

pub trees-requires : goal.trees-requires
trees-requires c = (sized_old c.requires).1

pub trees-requires-2 : goal.trees-requires-2
trees-requires-2 c = (sized_new c.requires).1

pub rank-requires : goal.rank-requires
rank-requires c = omega (arith, sized_long c.requires)

pub ranks-requires : goal.ranks-requires
ranks-requires c = omega (arith, sized_long c.requires)

pub returns : goal.returns
returns c =
    let pre = c.requires in
    let trees = c.trees-k in
    let valid = c.valid in
    let valid2 = c.valid-2 in
    let trees2 = c.trees in
    let trees3 = c.trees-2 in
    let rank = c.rank in
    fit_read pre trees.ensures valid.ensures valid2.ensures trees2.ensures trees3.ensures rank.ensures c.ranks.ensures
