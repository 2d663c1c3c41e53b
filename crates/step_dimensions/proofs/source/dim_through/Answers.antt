-- `step_dimensions::source::dim_through` meets its contract.
-- Assumes nothing.
use Rattle.std.proofs.Common.{◌≡◌, ◌<◌, ◌≤◌, length, get_or, sym, ◌∙◌, ap}
use Rattle.std.specs.Prelude.{Err}
use borrow.Author.Tests.{ltb-false}
use Rattle.kinds.specs.AnswerLaws.{passed-on, or-error}
use Rattle.step_dimensions.specs.StepDimensions.{positive}
use Rattle.step_dimensions.specs.Answers.{sourced_says}
use Rattle.step_dimensions.specs.Laws.Sources.{through-no-number, through-no-record, through-both}
use Rattle.step_dimensions.proofs.source.dim_through.Goals as goal

pub returns-in_err-number : goal.returns-in_err-number
returns-in_err-number c =
    ap sourced_says (passed-on _ c.from_residual.ensures.1 ∙ ap Err (or-error c.get.result _ _ c.in_err-number.ensures.value))
    ∙ through-no-number c.args.record_dims.now c.args.numbers.now c.args.id (ltb-false c.args.id (length c.args.numbers.now) (sym c.get.ensures.lookup.0 ∙ sym c.in_err-number.ensures.variant))

pub returns-in_err-dim : goal.returns-in_err-dim
returns-in_err-dim c =
    let n = (rw c.in_ok-number.ensures.ok_part at c.get.ensures.lookup).3 in
    let e : c.in_ok-number.field-0.now ≡ get_or c.args.numbers.now c.args.id 0 = n.1 0 in
    let past : length c.args.record_dims.now ≤ c.in_ok-number.field-0.now = ltb-false c.in_ok-number.field-0.now (length c.args.record_dims.now) (sym c.get-2.ensures.lookup.0 ∙ sym c.in_err-dim.ensures.variant) in
    ap sourced_says (passed-on _ c.from_residual-in_err-dim.ensures.1 ∙ ap Err (or-error c.get-2.result _ _ c.in_err-dim.ensures.value))
    ∙ through-no-record c.args.record_dims.now c.args.numbers.now c.args.id n.0 (rw e at past)

pub returns : goal.returns
returns c =
    let n = (rw c.in_ok-number.ensures.ok_part at c.get.ensures.lookup).3 in
    let e : c.in_ok-number.field-0.now ≡ get_or c.args.numbers.now c.args.id 0 = n.1 0 in
    let d = (rw c.in_ok-dim.ensures.ok_part at c.get-2.ensures.lookup).3 in
    let within : c.in_ok-number.field-0.now < length c.args.record_dims.now = d.0 in
    c.positive_dim.ensures ∙ ap positive (d.1 0 ∙ ap (λ i. get_or c.args.record_dims.now i 0) e)
    ∙ through-both c.args.record_dims.now c.args.numbers.now c.args.id n.0 (rw e at within)
