-- `lists::records::good_list` meets its contract: the test of each record is one of `all`.
-- Assumes nothing.
use Rattle.std.proofs.Common.{◌≡◌, refl, ◌∙◌, ne_eqb, true, false, arith, rules, tests}
use Rattle.std.proofs.lemmas.Iterator.{YieldsList-from_range, cases_from_all}
use Rattle.lists.specs.Records.{record_count}
use Rattle.lists.specs.Laws.{good-cut}
use Rattle.lists.proofs.Whole.{test, looked}
use Rattle.lists.proofs.records.good_list.Goals as goal

pub returns-then-list-eq0 : goal.returns-then-list-eq0
returns-then-list-eq0 c =
    let l = c.args.list.now in
    let n = record_count l in
    looked l _ (cases_from_all _ _ _ (λ k. test l k ≡ true) (λ k. test l k ≡ false) c.all.ensures.ran (YieldsList-from_range 0 n n refl (omega arith)) (λ x q k. search (rules, tests)) (λ x q k. search (rules, tests))) c.if-list-eq0.true

pub returns-else-list-eq0 : goal.returns-else-list-eq0
returns-else-list-eq0 c = ne_eqb _ 0 c.if-list-eq0.false ∙ good-cut _ c.if-list-eq0.false
