-- `evaluator_step::step::value` meets its contract: each way through the code is one law of specs/Laws/Steps.antt.
-- Assumes nothing.
use mathlib.Core.Path.{sym, ◌∙◌, ap}
use Rattle.evaluator_cells.specs.Before.{known}
use Rattle.evaluator_step.specs.Laws.Steps.{read_below, gives_none, gives_one, gives-two, gives-three, gives-no-first, gives-no-second, gives-no-third}
use Rattle.evaluator_step.proofs.step.value.Goals as goal

pub returns-then-count-eq0 : goal.returns-then-count-eq0
returns-then-count-eq0 c = gives_none _ _ c.args.s _ c.read_count-count.ensures c.if-count-eq0.true

pub read-requires : goal.read-requires
read-requires c = c.requires

pub returns-in_err-a : goal.returns-in_err-a
returns-in_err-a c = rw c.from_residual.ensures (gives-no-first _ _ c.args.s _ c.read_count-count.ensures c.if-count-eq0.false (sym (ap known c.in_err-a.was) ∙ c.read.ensures))

pub returns-then-count-eq1 : goal.returns-then-count-eq1
returns-then-count-eq1 c = gives_one _ _ c.args.s _ c.read_count-count.ensures c.if-count-eq0.false _ (sym (ap known c.in_ok-a.was) ∙ c.read.ensures) c.if-count-eq1.true

pub read-requires-2 : goal.read-requires-2
read-requires-2 c = c.requires

pub returns-in_err-b : goal.returns-in_err-b
returns-in_err-b c = rw c.from_residual-in_err-b.ensures (gives-no-second _ _ c.args.s _ c.read_count-count.ensures c.if-count-eq0.false _ (sym (ap known c.in_ok-a.was) ∙ c.read.ensures) (sym (ap known c.in_err-b.was) ∙ c.read-2.ensures) c.if-count-eq1.false)

pub binary-requires : goal.binary-requires
binary-requires c = record { small = c.requires.0.modulus.small; first = read_below _ c.requires.0.modulus _ c.requires.2 _ c.requires.1 _ _ _ (sym (ap known c.in_ok-a.was) ∙ c.read.ensures); second = read_below _ c.requires.0.modulus _ c.requires.2 _ c.requires.1 _ _ _ (sym (ap known c.in_ok-b.was) ∙ c.read-2.ensures) }

pub returns-then-count-eq2 : goal.returns-then-count-eq2
returns-then-count-eq2 c = gives-two _ _ c.args.s _ c.read_count-count.ensures c.if-count-eq0.false _ _ _ (sym (ap known c.in_ok-a.was) ∙ c.read.ensures) (sym (ap known c.in_ok-b.was) ∙ c.read-2.ensures) c.if-count-eq2.true c.binary.ensures

pub read-requires-3 : goal.read-requires-3
read-requires-3 c = c.requires

pub returns-in_err-c : goal.returns-in_err-c
returns-in_err-c c = rw c.from_residual-in_err-c.ensures (gives-no-third _ _ c.args.s _ c.read_count-count.ensures c.if-count-eq0.false _ _ (sym (ap known c.in_ok-a.was) ∙ c.read.ensures) (sym (ap known c.in_ok-b.was) ∙ c.read-2.ensures) (sym (ap known c.in_err-c.was) ∙ c.read-3.ensures) c.if-count-eq1.false c.if-count-eq2.false)

pub fused-requires : goal.fused-requires
fused-requires c = record { modulus = c.requires.0.modulus; first = read_below _ c.requires.0.modulus _ c.requires.2 _ c.requires.1 _ _ _ (sym (ap known c.in_ok-a.was) ∙ c.read.ensures); second = read_below _ c.requires.0.modulus _ c.requires.2 _ c.requires.1 _ _ _ (sym (ap known c.in_ok-b.was) ∙ c.read-2.ensures); third = read_below _ c.requires.0.modulus _ c.requires.2 _ c.requires.1 _ _ _ (sym (ap known c.in_ok-c.was) ∙ c.read-3.ensures) }

pub returns : goal.returns
returns c = gives-three _ _ c.args.s _ c.read_count-count.ensures c.if-count-eq0.false _ _ _ _ (sym (ap known c.in_ok-a.was) ∙ c.read.ensures) (sym (ap known c.in_ok-b.was) ∙ c.read-2.ensures) (sym (ap known c.in_ok-c.was) ∙ c.read-3.ensures) c.if-count-eq1.false c.if-count-eq2.false c.fused.ensures
