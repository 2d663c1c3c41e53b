-- `step_dimensions::rule::Rule::of` meets its contract: on each range that the code tells apart the rule is one, by a test that antt computes.
-- Assumes nothing.
use native.Mathlib.Omega.{arith}
use Rattle.kinds.specs.Range.{within, value-over}
use Rattle.step_dimensions.specs.Rules.{rule_no}
use Rattle.step_dimensions.specs.Laws.Kinds.{none-low, one-next, none-mid, own-trees, none-past}
use Rattle.step_dimensions.proofs.rule.Rule.of.Goals as goal

pub returns-in-16 : goal.returns-in-16
unfolding rule_no within
returns-in-16 c = value-over rule_no 3 0x10 0x10 tt c.args.kind (omega arith)

pub returns-in-17 : goal.returns-in-17
unfolding rule_no within
returns-in-17 c = value-over rule_no 5 0x11 0x11 tt c.args.kind (omega arith)

pub returns-in-19 : goal.returns-in-19
unfolding rule_no within
returns-in-19 c = value-over rule_no 4 0x13 0x13 tt c.args.kind (omega arith)

pub returns-in-32 : goal.returns-in-32
unfolding rule_no within
returns-in-32 c = value-over rule_no 1 0x20 0x20 tt c.args.kind (omega arith)

pub returns-in-34 : goal.returns-in-34
unfolding rule_no within
returns-in-34 c = value-over rule_no 2 0x22 0x22 tt c.args.kind (omega arith)

pub returns-in-35 : goal.returns-in-35
unfolding rule_no within
returns-in-35 c = value-over rule_no 5 0x23 0x23 tt c.args.kind (omega arith)

pub returns-in-40 : goal.returns-in-40
unfolding rule_no within
returns-in-40 c = value-over rule_no 6 0x28 0x28 tt c.args.kind (omega arith)

pub returns-in-20-to-21 : goal.returns-in-20-to-21
returns-in-20-to-21 c = one-next c.args.kind (omega arith) (omega arith) (omega arith)

pub returns-in-22-to-23 : goal.returns-in-22-to-23
unfolding rule_no within
returns-in-22-to-23 c = value-over rule_no 6 0x16 0x17 tt c.args.kind (omega arith)

pub returns-in-24-to-26 : goal.returns-in-24-to-26
unfolding rule_no within
returns-in-24-to-26 c = value-over rule_no 7 0x18 0x1a tt c.args.kind (omega arith)

pub returns-in-36-to-39 : goal.returns-in-36-to-39
returns-in-36-to-39 c = own-trees c.args.kind (omega arith) (omega arith) (omega arith) (omega arith)

pub returns-in_default : goal.returns-in_default
returns-in_default c = none-low c.args.kind (omega arith) (omega arith) (omega arith)

pub returns-in_default-2 : goal.returns-in_default-2
returns-in_default-2 c = none-mid c.args.kind (omega arith) (omega arith) (omega arith)

pub returns-in_default-3 : goal.returns-in_default-3
returns-in_default-3 c = none-past c.args.kind (omega arith) (omega arith)
