-- `constraint_pool::entry::extend` meets its contract: each need is one lemma of proofs/Verdicts.antt.
-- Assumes nothing.
use mathlib.Core.Path.{sym, ap, ◌∙◌}
use Rattle.std.proofs.lemmas.Result.{err_from_is_err_and}
use Rattle.constraint_pool.specs.Judging.{fit_says}
use Rattle.constraint_pool.proofs.Verdicts.{constraint-asks, refused-given, added-given}
use Rattle.constraint_pool.proofs.entry.extend.Goals as goal

pub add_constraint-requires : goal.add_constraint-requires
add_constraint-requires c = constraint-asks c.requires.whole c.args.c c.args.vc c.requires.identities (ap fit_says (sym c.in_ok-judge.was) ∙ c.judge.ensures _ c.args.vc c.requires.whole)

pub returns-in_err-judge : goal.returns-in_err-judge
returns-in_err-judge c = let p = err_from_is_err_and c.from_residual.result c.from_residual.ensures.1 in rw (p.1, p.2) (refused-given c.requires.whole c.args.c c.args.vc c.requires.identities (ap fit_says (sym c.in_err-judge.was) ∙ c.judge.ensures _ c.args.vc c.requires.whole))

pub returns : goal.returns
returns c = added-given c.requires.whole c.args.c c.args.vc c.requires.identities (ap fit_says (sym c.in_ok-judge.was) ∙ c.judge.ensures _ c.args.vc c.requires.whole) c.add_constraint.ensures
