-- `pool::admit::admit` meets its contract. Assumes nothing.
use mathlib.Core.List.{[]}
use mathlib.Core.Path.{sym, ap, ◌∙◌}
use Rattle.std.proofs.lemmas.Result.{err_from_is_err_and}
use Rattle.pool.specs.Admitting.{shape_says}
use Rattle.pool.proofs.Admits.{refused-is, starts}
use Rattle.pool.proofs.admit.admit.Goals as goal

pub ranked-requires : goal.ranked-requires
ranked-requires c = ([], c.args.n, starts _ _ (ap shape_says (sym c.in_ok-shape_of.was) ∙ c.shape_of.ensures []) c.requires)

pub returns-in_err-shape_of : goal.returns-in_err-shape_of
returns-in_err-shape_of c = let p = err_from_is_err_and c.from_residual.result c.from_residual.ensures.1 in λ l. rw (p.1, p.2) (refused-is _ _ (ap shape_says (sym c.in_err-shape_of.was) ∙ c.shape_of.ensures l))

pub returns : goal.returns
returns c = λ l. c.ranked.ensures l _ (starts _ _ (ap shape_says (sym c.in_ok-shape_of.was) ∙ c.shape_of.ensures l) c.requires)
