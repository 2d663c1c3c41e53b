-- `sets::put` meets its contract. Assumes nothing.
use mathlib.Core.Path.{◌∙◌, sym}
use native.Mathlib.Omega.{arith}
use Rattle.sets.proofs.Bits.{put_same, put-new, size_fits}
use Rattle.sets.proofs.put.Goals as goal

pub returns-then-has : goal.returns-then-has
returns-then-has c = put_same c.args.set.now c.args.e c.requires.0 c.requires.1 (sym c.has.ensures ∙ c.if-has.true)

pub overflow_add-set : goal.overflow_add-set
overflow_add-set c = omega (arith, size_fits c.args.set.now c.args.e c.requires.0 c.requires.1)

pub returns : goal.returns
returns c = put-new c.args.set.now c.args.e c.requires.0 c.requires.1 (sym c.has.ensures ∙ c.if-has.false)
