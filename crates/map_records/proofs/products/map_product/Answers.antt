-- `map_records::products::map_product` meets its contract: each need is one lemma of proofs/Pairs.antt. Assumes nothing.
use Prim.Native.Nat.{◌+◌}
use native.Mathlib.Omega.{arith}
use Rattle.plans.specs.Passed.{counts-agree}
use Rattle.plans.specs.Places.{number_is, product_inside}
use Rattle.map_records.specs.Agreed.{few-cms}
use Rattle.map_records.proofs.Pairs.{product-room, product-first, product-second, product-end}
use Rattle.map_records.proofs.products.map_product.Goals as goal

pub number_at-num-requires : goal.number_at-num-requires
number_at-num-requires c = omega (arith, c.requires.1.0.0.whole.1, c.product_at-at.ensures.is, product_inside c.args.plan.now c.args.i c.requires.0)

pub number_at-den-requires : goal.number_at-den-requires
number_at-den-requires c = omega (arith, c.requires.1.0.0.whole.1, c.product_at-at.ensures.is, product_inside c.args.plan.now c.args.i c.requires.0)

pub add_pair-requires : goal.add_pair-requires
add_pair-requires c = (product-room c.requires.1.0 c.requires.1.1.0 c.requires.1.1.1 c.requires.0 (number_is c.args.plan.now c.number_at-num.ensures c.product_at-at.ensures.is) (number_is c.args.plan.now c.number_at-den.ensures (omega (arith, c.product_at-at.ensures.is))), omega arith)

pub bounds-cmdims-z : goal.bounds-cmdims-z
bounds-cmdims-z c = omega (arith, c.requires.1.1.1.holds.cm_size, few-cms c.args.plan.now c.requires.1.0.0, (counts-agree c.args.plan.now c.requires.1.0.0.agree).third, c.cm1_of.ensures.is, c.cm2_of.ensures.is, c.requires.0)

pub overflow_add-n : goal.overflow_add-n
overflow_add-n c = omega (arith, product-room c.requires.1.0 c.requires.1.1.0 c.requires.1.1.1 c.requires.0 (number_is c.args.plan.now c.number_at-num.ensures c.product_at-at.ensures.is) (number_is c.args.plan.now c.number_at-den.ensures (omega (arith, c.product_at-at.ensures.is))))

pub add_column-after-requires : goal.add_column-after-requires
add_column-after-requires c = (_, _, _, product-first c.requires.1.0 c.requires.1.1.0 c.requires.1.1.1 c.requires.0 (number_is c.args.plan.now c.number_at-num.ensures c.product_at-at.ensures.is) (number_is c.args.plan.now c.number_at-den.ensures (omega (arith, c.product_at-at.ensures.is))) c.add_pair.ensures.0 c.add_pair.ensures.1 (c.cm1_of.result + c.cm2_of.result + c.args.i) (omega (arith, c.cm1_of.ensures.is, c.cm2_of.ensures.is)))

pub add_column-requires : goal.add_column-requires
add_column-requires c = (_, _, _, product-second c.requires.1.0 c.requires.1.1.0 c.requires.1.1.1 c.requires.0 (number_is c.args.plan.now c.number_at-num.ensures c.product_at-at.ensures.is) (number_is c.args.plan.now c.number_at-den.ensures (omega (arith, c.product_at-at.ensures.is))) c.add_pair.ensures.0 c.add_pair.ensures.1 (c.cm1_of.result + c.cm2_of.result + c.args.i) (omega (arith, c.cm1_of.ensures.is, c.cm2_of.ensures.is)) (c.add_column-after.ensures _ _ _ (product-first c.requires.1.0 c.requires.1.1.0 c.requires.1.1.1 c.requires.0 (number_is c.args.plan.now c.number_at-num.ensures c.product_at-at.ensures.is) (number_is c.args.plan.now c.number_at-den.ensures (omega (arith, c.product_at-at.ensures.is))) c.add_pair.ensures.0 c.add_pair.ensures.1 (c.cm1_of.result + c.cm2_of.result + c.args.i) (omega (arith, c.cm1_of.ensures.is, c.cm2_of.ensures.is)))))

pub returns : goal.returns
returns c = λ p s. product-end c.requires.1.0 p s c.requires.0 (number_is c.args.plan.now c.number_at-num.ensures c.product_at-at.ensures.is) (number_is c.args.plan.now c.number_at-den.ensures (omega (arith, c.product_at-at.ensures.is))) c.add_pair.ensures.0 c.add_pair.ensures.1 (c.cm1_of.result + c.cm2_of.result + c.args.i) (omega (arith, c.cm1_of.ensures.is, c.cm2_of.ensures.is)) (c.add_column-after.ensures _ _ _ (product-first c.requires.1.0 p s c.requires.0 (number_is c.args.plan.now c.number_at-num.ensures c.product_at-at.ensures.is) (number_is c.args.plan.now c.number_at-den.ensures (omega (arith, c.product_at-at.ensures.is))) c.add_pair.ensures.0 c.add_pair.ensures.1 (c.cm1_of.result + c.cm2_of.result + c.args.i) (omega (arith, c.cm1_of.ensures.is, c.cm2_of.ensures.is)))) (c.add_column.ensures _ _ _ (product-second c.requires.1.0 p s c.requires.0 (number_is c.args.plan.now c.number_at-num.ensures c.product_at-at.ensures.is) (number_is c.args.plan.now c.number_at-den.ensures (omega (arith, c.product_at-at.ensures.is))) c.add_pair.ensures.0 c.add_pair.ensures.1 (c.cm1_of.result + c.cm2_of.result + c.args.i) (omega (arith, c.cm1_of.ensures.is, c.cm2_of.ensures.is)) (c.add_column-after.ensures _ _ _ (product-first c.requires.1.0 p s c.requires.0 (number_is c.args.plan.now c.number_at-num.ensures c.product_at-at.ensures.is) (number_is c.args.plan.now c.number_at-den.ensures (omega (arith, c.product_at-at.ensures.is))) c.add_pair.ensures.0 c.add_pair.ensures.1 (c.cm1_of.result + c.cm2_of.result + c.args.i) (omega (arith, c.cm1_of.ensures.is, c.cm2_of.ensures.is))))))
