-- `step_dimensions::lent::Lent::source_dim` meets its contract: each rule is one law of specs/Laws/Sources.antt.
-- Assumes nothing.
use Rattle.std.proofs.Common.{sym, ◌∙◌, ap}
use Rattle.std.specs.Prelude.{Err, Some}
use Rattle.kinds.specs.AnswerLaws.{passed-on, or-error}
use Rattle.step_dimensions.specs.Answers.{sourced_says, given}
use Rattle.step_dimensions.specs.Rules.{rule_number}
use Rattle.step_dimensions.specs.Laws.Sources.{by-temporary, by-own, by-column, by-quotient, by_one, by_three, by-x}
use Rattle.step_dimensions.proofs.Reading.{no-rule}
use Rattle.step_dimensions.proofs.lent.Lent.source_dim.Goals as goal

pub returns-in_err-ok_or : goal.returns-in_err-ok_or
returns-in_err-ok_or c =
    ap sourced_says (passed-on _ c.from_residual.ensures.1 ∙ ap Err (or-error c.of.result _ _ c.in_err-ok_or.ensures.value))
    ∙ no-rule (given c.args.self.now) c.args.temporaries.now c.args.r c.of.result c.of.ensures (sym c.in_err-ok_or.ensures.variant)

pub returns-in-Temporary : goal.returns-in-Temporary
returns-in-Temporary c =
    let rule = ap rule_number (c.in_ok-ok_or.ensures.ok_part ∙ ap Some c.in-Temporary.is) in
    c.written_dim.ensures ∙ by-temporary (given c.args.self.now) c.args.temporaries.now c.args.r _ c.of.ensures rule

pub returns-in-Own : goal.returns-in-Own
returns-in-Own c =
    let rule = ap rule_number (c.in_ok-ok_or.ensures.ok_part ∙ ap Some c.in-Own.is) in
    c.positive_dim.ensures ∙ by-own (given c.args.self.now) c.args.temporaries.now c.args.r _ c.of.ensures rule

pub returns-in-Column : goal.returns-in-Column
returns-in-Column c =
    let rule = ap rule_number (c.in_ok-ok_or.ensures.ok_part ∙ ap Some c.in-Column.is) in
    c.dim_through.ensures ∙ by-column (given c.args.self.now) c.args.temporaries.now c.args.r _ c.of.ensures rule

pub returns-in-Quotient : goal.returns-in-Quotient
returns-in-Quotient c =
    let rule = ap rule_number (c.in_ok-ok_or.ensures.ok_part ∙ ap Some c.in-Quotient.is) in
    c.dim_through-in-Quotient.ensures ∙ by-quotient (given c.args.self.now) c.args.temporaries.now c.args.r _ c.of.ensures rule

pub returns-in-One : goal.returns-in-One
returns-in-One c =
    let rule = ap rule_number (c.in_ok-ok_or.ensures.ok_part ∙ ap Some c.in-One.is) in
    by_one (given c.args.self.now) c.args.temporaries.now c.args.r _ c.of.ensures rule

pub returns-in-Three : goal.returns-in-Three
returns-in-Three c =
    let rule = ap rule_number (c.in_ok-ok_or.ensures.ok_part ∙ ap Some c.in-Three.is) in
    by_three (given c.args.self.now) c.args.temporaries.now c.args.r _ c.of.ensures rule

pub returns-in-X : goal.returns-in-X
returns-in-X c =
    let rule = ap rule_number (c.in_ok-ok_or.ensures.ok_part ∙ ap Some c.in-X.is) in
    c.positive_dim-in-X.ensures ∙ by-x (given c.args.self.now) c.args.temporaries.now c.args.r _ c.of.ensures rule
