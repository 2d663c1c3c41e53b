-- `degree_rule::reading::passed` meets its contract. Assumes nothing.
use mathlib.Core.Path.{sym, subst}
use Rattle.degree_rule.specs.Readings.{Passed}
use Rattle.degree_rule.proofs.Readings.{pass-degree, pass-refused, pass-counted, pass-over}
use Rattle.std.proofs.lemmas.Result.{err_from_is_err_and}
use Rattle.degree_rule.proofs.reading.passed.Goals as goal
use Rattle.degree_rule.proofs.reading.passed.Goals.{else-is_none-via-then-is_none+else-not-enter, else-is_none-via-else-is_none}

pub returns-in_err-degree : goal.returns-in_err-degree
returns-in_err-degree c = let p = err_from_is_err_and c.from_residual.result c.from_residual.ensures.1 in rw (p.1, p.2) (pass-refused c.args.tally.now c.requires c.in_err-degree.was)

pub returns-then-not-enter : goal.returns-then-not-enter
returns-then-not-enter c = pass-over c.in_ok-degree.was c.if-is_none.ensures c.enter.ensures c.if-not-enter.true

pub returns : goal.returns
returns c = elim c.else-is_none.branch [
  | else-is_none-via-then-is_none+else-not-enter w ↦ subst (Passed c.args.first c.args.tally.now c.args.first) (sym w.tally-is) (pass-counted c.in_ok-degree.was w.if-is_none.ensures w.enter.ensures w.if-not-enter.false)
  | else-is_none-via-else-is_none w ↦ subst (Passed c.args.first c.args.tally.now c.args.first) (sym w.tally-is) (pass-degree c.args.tally.now c.requires c.in_ok-degree.was w.if-is_none.ensures)
]
