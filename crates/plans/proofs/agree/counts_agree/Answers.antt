-- `plans::agree::counts_agree` meets its contract. Assumes nothing.
use Rattle.plans.proofs.Checks.{cm2-not, cm3-not, cm4-by}
use Rattle.plans.proofs.agree.counts_agree.Goals as goal

pub returns-then-cm2_of-pu_count : goal.returns-then-cm2_of-pu_count
returns-then-cm2_of-pu_count c = cm2-not c.args.plan.now c.cm2_of.ensures c.pu_count.ensures c.if-cm2_of-pu_count.true

pub returns-then-cm3_of-product_count : goal.returns-then-cm3_of-product_count
returns-then-cm3_of-product_count c = cm3-not c.args.plan.now c.cm2_of.ensures c.pu_count.ensures c.if-cm2_of-pu_count.false c.cm3_of.ensures c.product_count.ensures c.im_count.ensures c.if-cm3_of-product_count.true

pub returns : goal.returns
returns c = cm4-by c.args.plan.now c.cm2_of.ensures c.pu_count.ensures c.if-cm2_of-pu_count.false c.cm3_of.ensures c.product_count.ensures c.im_count.ensures c.if-cm3_of-product_count.false c.cm4_of.ensures c.q_deg_of.ensures
