-- `fixing::rewrite::GivenRewrite::rewrite` meets its contract: each arm of the `match` is one law of specs/Laws/Expressions.antt.
-- Assumes nothing.
use native.Mathlib.Omega.{arith}
use Rattle.kinds.specs.References.{ref_at}
use Rattle.fixing.specs.Laws.Expressions.{put-cm, put-exp, put_other}
use Rattle.fixing.proofs.rewrite.GivenRewrite.rewrite.Goals as goal

pub returns-in-16 : goal.returns-in-16
unfolding ref_at
returns-in-16 c = put-cm _ _ _ _ c.args.list.now c.args.at (λ i. omega (arith, c.slice_known-1.given i)) (omega (arith, c.in-16.is)) _ c.u16_at.ensures _ c.word_at-p.ensures _ c.put_u16.ensures

pub returns-in-18 : goal.returns-in-18
unfolding ref_at
returns-in-18 c = put-exp _ _ _ _ c.args.list.now c.args.at (omega (arith, c.in-18.is)) _ c.reference_at-r.ensures _ c.expression.ensures _ c.put_reference.ensures

pub returns-in_default : goal.returns-in_default
unfolding ref_at
returns-in_default c = put_other _ _ _ _ c.args.list.now c.args.at (λ i. omega (arith, c.slice_known-1.given i)) (omega arith) (omega arith)
