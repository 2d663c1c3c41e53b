-- `degree_rule::rule::is_constant` meets its contract. Assumes nothing.
use mathlib.Core.Path.{sym}
use native.Mathlib.Omega.{arith}
use Rattle.kinds.specs.Range.{within_in, within-below, within-above}
use Rattle.degree_rule.proofs.rule.is_constant.Goals as goal

pub returns-in-20-to-22 : goal.returns-in-20-to-22
returns-in-20-to-22 c = sym (within_in 20 22 c.args.kind (omega (arith, c.in-20-to-22.if-kind-lt20-own.false), omega (arith, c.in-20-to-22.if-kind-lt23-own.true)))

pub returns-in_default : goal.returns-in_default
returns-in_default c = sym (within-below 20 22 c.args.kind (omega (arith, c.in_default.if-kind-lt20-own.true)))

pub returns-in_default-2 : goal.returns-in_default-2
returns-in_default-2 c = sym (within-above 20 22 c.args.kind (omega (arith, c.in_default.if-kind-lt23-own.false)))
