-- `plans::layout::product_at` meets its contract. Assumes nothing.
use native.Mathlib.Omega.{arith}
use Rattle.plans.specs.Places.{lookup-product, pair-product}
use Rattle.plans.proofs.layout.product_at.Goals as goal

pub returns-then-i-pu : goal.returns-then-i-pu
returns-then-i-pu c = lookup-product c.args.plan.now c.args.i c.requires.1 c.pu_count-pu.ensures c.if-i-pu.true

pub overflow_mul-result-2 : goal.overflow_mul-result-2
overflow_mul-result-2 c = omega (arith, c.requires.1)

pub overflow_add-result-2 : goal.overflow_add-result-2
overflow_add-result-2 c = omega (arith, c.requires.1, c.pe_at.ensures.low)

pub returns : goal.returns
returns c = pair-product c.args.plan.now c.args.i c.requires.1 c.pu_count-pu.ensures c.if-i-pu.false c.pe_at.ensures
