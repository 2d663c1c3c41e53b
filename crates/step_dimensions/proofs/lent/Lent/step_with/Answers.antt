-- `step_dimensions::lent::Lent::step_with` meets its contract: each way through the code is one law of specs/Laws/Steps.antt.
-- Assumes nothing.
use mathlib.Core.Path.{◌∙◌, ap}
use Rattle.kinds.specs.AnswerLaws.{passed-on}
use Rattle.step_dimensions.specs.Answers.{stepped_says}
use Rattle.step_dimensions.specs.Laws.Steps.{no_step, stop-first, has_first, stop-second, has-second, stop-third, has-third, no_destination, sizes}
use Rattle.step_dimensions.proofs.lent.Lent.step_with.Goals as goal

pub returns-then-needed-eq0 : goal.returns-then-needed-eq0
returns-then-needed-eq0 c = no_step _ _ c.args.s _ c.sources_needed-needed.ensures c.if-needed-eq0.true

pub returns-in_err-a : goal.returns-in_err-a
returns-in_err-a c =
    ap stepped_says (passed-on _ c.from_residual.ensures.1)
    ∙ stop-first _ _ c.args.s _ c.sources_needed-needed.ensures c.if-needed-eq0.false _ c.in_err-a.ensures

pub returns-in_err-b : goal.returns-in_err-b
returns-in_err-b c =
    ap stepped_says (passed-on _ c.from_residual-in_err-b.ensures.1)
    ∙ has_first _ _ c.args.s _ c.sources_needed-needed.ensures c.if-needed-eq0.false _ c.in_ok-a.ensures _
    (stop-second _ _ _ c.args.s _ _ c.in_err-b.ensures)

pub returns-in_err-c : goal.returns-in_err-c
returns-in_err-c c =
    ap stepped_says (passed-on _ c.from_residual-in_err-c.ensures.1)
    ∙ has_first _ _ c.args.s _ c.sources_needed-needed.ensures c.if-needed-eq0.false _ c.in_ok-a.ensures _
    (has-second _ _ _ c.args.s _ _ c.in_ok-b.ensures _ (stop-third _ _ _ c.args.s _ _ _ c.in_err-c.ensures))

pub returns-then-not-is_destination : goal.returns-then-not-is_destination
returns-then-not-is_destination c =
    has_first _ _ c.args.s _ c.sources_needed-needed.ensures c.if-needed-eq0.false _ c.in_ok-a.ensures _
    (has-second _ _ _ c.args.s _ _ c.in_ok-b.ensures _
    (has-third _ _ _ c.args.s _ _ _ c.in_ok-c.ensures _ (no_destination _ c.args.s _ _ _ _ c.is_destination.ensures c.if-not-is_destination.true)))

pub returns : goal.returns
returns c =
    has_first _ _ c.args.s _ c.sources_needed-needed.ensures c.if-needed-eq0.false _ c.in_ok-a.ensures _
    (has-second _ _ _ c.args.s _ _ c.in_ok-b.ensures _
    (has-third _ _ _ c.args.s _ _ _ c.in_ok-c.ensures _ (sizes _ c.args.s _ _ _ _ c.is_destination.ensures c.if-not-is_destination.false _ c.sized_step.ensures)))
