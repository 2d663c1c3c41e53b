-- `fixing::temporaries::give_reference` meets its contract.
-- Assumes nothing.
use Rattle.kinds.specs.References.{ref_at}
use Rattle.fixing.specs.Laws.Giving.{no-exp, takes_none, takes-plain, takes-primed}
use Rattle.fixing.proofs.temporaries.give_reference.Goals as goal

pub returns-then-list-at-ne-EXP : goal.returns-then-list-at-ne-EXP
unfolding ref_at
returns-then-list-at-ne-EXP c = no-exp _ (ref_at c.args.list.now c.args.at) _ _ _ c.if-list-at-ne-EXP.true

pub returns-then-not-takes_temporary : goal.returns-then-not-takes_temporary
unfolding ref_at
returns-then-not-takes_temporary c = takes_none _ (ref_at c.args.list.now c.args.at) _ _ _ c.if-list-at-ne-EXP.false _ c.u16_at-id.ensures _ c.takes_temporary.ensures c.if-not-takes_temporary.true

pub returns-then-list-at-eq0 : goal.returns-then-list-at-eq0
unfolding ref_at
returns-then-list-at-eq0 c = takes-plain _ (ref_at c.args.list.now c.args.at) _ _ _ c.if-list-at-ne-EXP.false _ c.u16_at-id.ensures _ c.takes_temporary.ensures c.if-not-takes_temporary.false c.if-list-at-eq0.true _ _ c.give.ensures

pub returns : goal.returns
unfolding ref_at
returns c = takes-primed _ (ref_at c.args.list.now c.args.at) _ _ _ c.if-list-at-ne-EXP.false _ c.u16_at-id.ensures _ c.takes_temporary.ensures c.if-not-takes_temporary.false c.if-list-at-eq0.false _ _ c.give-2.ensures
