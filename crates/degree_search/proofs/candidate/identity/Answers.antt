-- `degree_search::candidate::identity` meets its contract. Assumes nothing.
use mathlib.Core.Path.{refl}
use mathlib.Core.Path.{sym, ap, ◌∙◌}
use Rattle.degree_rule.specs.Readings.{reading_of, is_degree}
use Rattle.degree_rule.specs.Laws.{as_read}
use Rattle.degree_rule.proofs.Readings.{no-degree, degree-is}
use Rattle.degree_search.proofs.Folds.{one-passed, one-over, one-asks, one_none, one_more}
use Rattle.degree_search.proofs.candidate.identity.Goals as goal

pub passed-requires : goal.passed-requires
passed-requires c = c.requires.3.holds.whole

pub returns-in_default : goal.returns-in_default
returns-in_default c = λ l n rank a. one-passed a c.args.prior c.in_default.is c.passed.ensures

pub enter-requires : goal.enter-requires
enter-requires c = c.requires.3.holds.whole

pub returns-then-not-enter : goal.returns-then-not-enter
returns-then-not-enter c = λ l n rank a. one-over a c.args.prior c.in-Some.is c.enter.ensures c.if-not-enter.true

pub reference-code-requires : goal.reference-code-requires
reference-code-requires c = let P = c.requires in (P.0, P.1, c.args.m, P.2, one-asks P.3 c.args.prior c.in-Some.is c.enter.ensures c.if-not-enter.false refl)

pub returns-in_default-degree : goal.returns-in_default-degree
returns-in_default-degree c = λ l n rank a. one_none a c.args.prior c.in-Some.is c.enter.ensures c.if-not-enter.false refl (as_read c.reference-code.result c.decode.ensures (c.reference-code.ensures l n c.args.m rank (one-asks a c.args.prior c.in-Some.is c.enter.ensures c.if-not-enter.false refl))) (ap is_degree c.decode.ensures ∙ no-degree (reading_of c.reference-code.result) (sym c.degree.ensures ∙ c.in_default-degree.is))

pub returns : goal.returns
returns c = λ l n rank a. one_more a c.args.prior c.in-Some.is c.enter.ensures c.if-not-enter.false refl (c.reference-code.ensures l n c.args.m rank (one-asks a c.args.prior c.in-Some.is c.enter.ensures c.if-not-enter.false refl)) (degree-is (reading_of c.reference-code.result) (sym c.degree.ensures ∙ c.in-Some-degree.is)) c.max.ensures
