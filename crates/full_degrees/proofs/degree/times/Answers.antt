-- `full_degrees::degree::times` meets its contract. Assumes nothing.
use mathlib.Core.Path.{◌∙◌}
use native.Mathlib.Omega.{arith}
use Rattle.full_degrees.proofs.Codes.{times_none, times-by, times-fits}
use Rattle.full_degrees.proofs.degree.times.Goals as goal

pub returns-then-max-gt-CAP : goal.returns-then-max-gt-CAP
returns-then-max-gt-CAP c = times_none c.args.a c.args.b (omega (arith, c.max.ensures, c.if-max-gt-CAP.true))

pub overflow_add-a : goal.overflow_add-a
overflow_add-a c = omega (arith, times-fits c.args.a c.args.b (omega (arith, c.max.ensures, c.if-max-gt-CAP.false)))

pub returns : goal.returns
returns c = c.min.ensures ∙ times-by c.args.a c.args.b (omega (arith, c.max.ensures, c.if-max-gt-CAP.false))
