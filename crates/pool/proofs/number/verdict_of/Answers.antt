-- `pool::number::verdict_of` meets its contract. Assumes nothing.
use mathlib.Core.Path.{sym, ap, ◌∙◌}
use Rattle.std.proofs.lemmas.Result.{err_from_is_err_and}
use Rattle.frames.specs.Reading.{held}
use Rattle.pool.proofs.Numbers.{refused-number, read_fits, judged-number}
use Rattle.pool.proofs.number.verdict_of.Goals as goal

pub admit-requires : goal.admit-requires
admit-requires c = read_fits c.requires.3 c.in_ok-c.was

pub returns-in_err-c : goal.returns-in_err-c
returns-in_err-c c = let p = err_from_is_err_and c.from_residual.result c.from_residual.ensures.1 in λ l q x a. rw (p.1, p.2) (refused-number (ap (held _) (sym c.in_err-c.was) ∙ a.answer))

pub returns : goal.returns
returns c = λ l q x a. judged-number a c.in_ok-c.was (c.admit.ensures l)
