-- `step_dimensions::lent::Lent::known_dim` meets its contract: each rule is one law of specs/Laws/Sources.antt.
-- Assumes nothing.
use Rattle.std.proofs.Common.{refl, ◌∙◌, ap, get_or}
use Rattle.std.specs.Prelude.{Some}
use Rattle.std.specs.Option.{is_some}
use Rattle.kinds.specs.References.{ref_at}
use Rattle.step_dimensions.specs.Answers.{given}
use Rattle.step_dimensions.specs.Rules.{rule_number}
use Rattle.step_dimensions.specs.StepDimensions.{written, positive, through}
use Rattle.step_dimensions.specs.Laws.Sources.{by-temporary, by-own, by-column, by-quotient, by_one, by_three, by-x}
use Rattle.step_dimensions.specs.Laws.Known.{known-by}
use Rattle.step_dimensions.proofs.Reading.{known-from, no-rule}
use Rattle.step_dimensions.proofs.lent.Lent.known_dim.Goals as goal

pub returns-in_err-of : goal.returns-in_err-of
unfolding ref_at
returns-in_err-of c =
    known-by (given c.args.self.now) c.args.temporaries.now (ref_at c.args.list.now c.args.at) _ _ c.from_residual.ensures
    (no-rule (given c.args.self.now) c.args.temporaries.now (ref_at c.args.list.now c.args.at) c.of.result c.of.ensures (ap is_some c.in_err-of.was))

pub returns-in-Temporary : goal.returns-in-Temporary
unfolding ref_at
returns-in-Temporary c =
    known-by (given c.args.self.now) c.args.temporaries.now (ref_at c.args.list.now c.args.at) _ _ (known-from _ _ _ c.ok.ensures.value (c.written_dim.ensures ∙ ap (λ n. written (get_or c.args.temporaries.now n 0)) c.u16_at-id.ensures))
    (by-temporary (given c.args.self.now) c.args.temporaries.now (ref_at c.args.list.now c.args.at) _ c.of.ensures (ap rule_number (c.in_ok-of.was ∙ ap Some c.in-Temporary.is)))

pub returns-in-Own : goal.returns-in-Own
unfolding ref_at
returns-in-Own c =
    known-by (given c.args.self.now) c.args.temporaries.now (ref_at c.args.list.now c.args.at) _ _ (known-from _ _ _ c.ok-in-Own.ensures.value (c.positive_dim.ensures ∙ ap positive c.u16_at.ensures))
    (by-own (given c.args.self.now) c.args.temporaries.now (ref_at c.args.list.now c.args.at) _ c.of.ensures (ap rule_number (c.in_ok-of.was ∙ ap Some c.in-Own.is)))

pub returns-in-Column : goal.returns-in-Column
unfolding ref_at
returns-in-Column c =
    known-by (given c.args.self.now) c.args.temporaries.now (ref_at c.args.list.now c.args.at) _ _ (known-from _ _ _ c.ok-in-Column.ensures.value (c.dim_through.ensures ∙ ap (through c.args.self.now.record_dims.now c.args.self.now.cm_2ns.now) c.u16_at-in-Column.ensures))
    (by-column (given c.args.self.now) c.args.temporaries.now (ref_at c.args.list.now c.args.at) _ c.of.ensures (ap rule_number (c.in_ok-of.was ∙ ap Some c.in-Column.is)))

pub returns-in-Quotient : goal.returns-in-Quotient
unfolding ref_at
returns-in-Quotient c =
    known-by (given c.args.self.now) c.args.temporaries.now (ref_at c.args.list.now c.args.at) _ _ (known-from _ _ _ c.ok-in-Quotient.ensures.value (c.dim_through-in-Quotient.ensures ∙ ap (through c.args.self.now.record_dims.now c.args.self.now.qs.now) c.u16_at-in-Quotient.ensures))
    (by-quotient (given c.args.self.now) c.args.temporaries.now (ref_at c.args.list.now c.args.at) _ c.of.ensures (ap rule_number (c.in_ok-of.was ∙ ap Some c.in-Quotient.is)))

pub returns-in-One : goal.returns-in-One
unfolding ref_at
returns-in-One c =
    known-by (given c.args.self.now) c.args.temporaries.now (ref_at c.args.list.now c.args.at) _ _ refl
    (by_one (given c.args.self.now) c.args.temporaries.now (ref_at c.args.list.now c.args.at) _ c.of.ensures (ap rule_number (c.in_ok-of.was ∙ ap Some c.in-One.is)))

pub returns-in-Three : goal.returns-in-Three
unfolding ref_at
returns-in-Three c =
    known-by (given c.args.self.now) c.args.temporaries.now (ref_at c.args.list.now c.args.at) _ _ refl
    (by_three (given c.args.self.now) c.args.temporaries.now (ref_at c.args.list.now c.args.at) _ c.of.ensures (ap rule_number (c.in_ok-of.was ∙ ap Some c.in-Three.is)))

pub returns-in-X : goal.returns-in-X
unfolding ref_at
returns-in-X c =
    known-by (given c.args.self.now) c.args.temporaries.now (ref_at c.args.list.now c.args.at) _ _ (known-from _ _ _ c.ok-in-X.ensures.value c.positive_dim-in-X.ensures)
    (by-x (given c.args.self.now) c.args.temporaries.now (ref_at c.args.list.now c.args.at) _ c.of.ensures (ap rule_number (c.in_ok-of.was ∙ ap Some c.in-X.is)))
