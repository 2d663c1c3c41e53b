-- `fixing::rules::RecordsJudge::judge` meets its contract: each arm of the `match` is one law of specs/Laws/Rules.antt.
-- Assumes nothing.
use Rattle.kinds.specs.References.{ref_at}
use native.Mathlib.Omega.{arith}
use Rattle.fixing.specs.Laws.Rules.{cm-there, cm-lost, tree_ruleless, below-ruled, above-ruled}
use Rattle.fixing.proofs.rules.RecordsJudge.judge.Goals as goal

pub returns-then-self-u16_at : goal.returns-then-self-u16_at
unfolding ref_at
returns-then-self-u16_at c = cm-lost _ (ref_at c.args.list.now c.args.at) (omega (arith, c.in-16.is)) (omega (arith, c.if-self-u16_at.true, c.u16_at.ensures))

pub returns-else-self-u16_at : goal.returns-else-self-u16_at
unfolding ref_at
returns-else-self-u16_at c = cm-there _ (ref_at c.args.list.now c.args.at) (omega (arith, c.in-16.is)) (omega (arith, c.if-self-u16_at.false, c.u16_at.ensures))

pub returns-in-36-to-40 : goal.returns-in-36-to-40
unfolding ref_at
returns-in-36-to-40 c = tree_ruleless _ (ref_at c.args.list.now c.args.at) (omega arith) (omega arith)

pub returns-in_default : goal.returns-in_default
unfolding ref_at
returns-in_default c = below-ruled _ (ref_at c.args.list.now c.args.at) (omega arith) (omega arith)

pub returns-in_default-2 : goal.returns-in_default-2
unfolding ref_at
returns-in_default-2 c = above-ruled _ (ref_at c.args.list.now c.args.at) (omega arith)
