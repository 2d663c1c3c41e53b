-- `constraint_lists::measure::rooms` meets its contract: each need is one lemma of proofs/Rooms.antt.
-- Assumes nothing.
use Rattle.codegen.specs.Building.{lists}
use Rattle.builds.specs.declared.build.Which.TheVariants as which
use native.Mathlib.Omega.{arith}
use Rattle.constraint_lists.proofs.Rooms.{list-small, first-over, i-over, last-over, all_fit}
use Rattle.constraint_lists.proofs.measure.rooms.Goals as goal

pub list_size-without_plain-requires : goal.list_size-without_plain-requires
list_size-without_plain-requires c = c.requires.blocks

pub list_size-without_any-requires : goal.list_size-without_any-requires
list_size-without_any-requires c = c.requires.blocks

pub list_fits-requires : goal.list_fits-requires
list_fits-requires c = omega (arith, c.requires.blocks.steps, c.requires.all)

pub returns-then-not-list_fits : goal.returns-then-not-list_fits
returns-then-not-list_fits c = first-over _ c.requires c.list_size-without_plain.ensures c.list_size-without_any.ensures (lists c.args.first.now c.args.i.now c.args.last.now) c.list_fits.ensures c.if-not-list_fits.true

pub list_fits-requires-2 : goal.list_fits-requires-2
list_fits-requires-2 c = list-small c.args.expressions.now c.requires which.I c.list_size-without_plain.ensures

pub returns-then-not-list_fits-2 : goal.returns-then-not-list_fits-2
returns-then-not-list_fits-2 c = i-over _ c.requires c.list_size-without_plain.ensures c.list_size-without_any.ensures (lists c.args.first.now c.args.i.now c.args.last.now) c.list_fits.ensures c.if-not-list_fits.false c.list_fits-2.ensures c.if-not-list_fits-2.true

pub list_fits-requires-3 : goal.list_fits-requires-3
list_fits-requires-3 c = list-small c.args.expressions.now c.requires which.Last c.list_size-without_any.ensures

pub returns-then-not-list_fits-3 : goal.returns-then-not-list_fits-3
returns-then-not-list_fits-3 c = last-over _ c.requires c.list_size-without_plain.ensures c.list_size-without_any.ensures (lists c.args.first.now c.args.i.now c.args.last.now) c.list_fits.ensures c.if-not-list_fits.false c.list_fits-2.ensures c.if-not-list_fits-2.false c.list_fits-3.ensures c.if-not-list_fits-3.true

pub returns : goal.returns
returns c = all_fit _ c.requires c.list_size-without_plain.ensures c.list_size-without_any.ensures (lists c.args.first.now c.args.i.now c.args.last.now) c.list_fits.ensures c.if-not-list_fits.false c.list_fits-2.ensures c.if-not-list_fits-2.false c.list_fits-3.ensures c.if-not-list_fits-3.false
