-- `map_records::products::map_products` meets its contract: the first i grand products are mapped. Assumes nothing.
use mathlib.Core.Path.{sym, ◌∙◌}
use native.Mathlib.Omega.{arith}
use Rattle.map_records.specs.Mapping.{products}
use Rattle.map_records.proofs.Pairs.{state-at}
use Rattle.map_records.proofs.products.map_products.Goals as goal

pub product_count-count-requires : goal.product_count-count-requires
product_count-count-requires c = c.requires.0.0.whole.0

pub loop-i-init : goal.loop-i-init
loop-i-init c = (omega arith, λ p s. s)

pub map_product-n-requires : goal.map_product-n-requires
map_product-n-requires c = (omega (arith, c.loop-i-test.true, c.product_count-count.ensures.is), (c.requires.0, (c.requires.1.0, c.loop-i.invariant.1 c.requires.1.0 c.requires.1.1)))

pub loop-i-smaller : goal.loop-i-smaller
loop-i-smaller c = omega (arith, c.loop-i-test.true)

pub loop-i-preserved : goal.loop-i-preserved
loop-i-preserved c = (omega (arith, c.loop-i-test.true, c.product_count-count.ensures.is), λ p s. c.map_product-n.ensures p (c.loop-i.invariant.1 p s))

pub shape_of-cmdims : goal.shape_of-cmdims
shape_of-cmdims c = (c.loop-i.invariant.1 c.requires.1.0 c.requires.1.1).holds.cm_size ∙ sym c.requires.1.1.holds.cm_size

pub shape_of-seen : goal.shape_of-seen
shape_of-seen c = (c.loop-i.invariant.1 c.requires.1.0 c.requires.1.1).tells.full ∙ sym c.requires.1.1.tells.full

pub returns : goal.returns
returns c = λ p s. state-at (products c.args.plan.now p) (c.loop-i.invariant.1 p s) (omega (arith, c.loop-i-test.false, c.loop-i.invariant.0, c.product_count-count.ensures.is))
