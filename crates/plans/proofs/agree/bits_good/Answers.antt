-- `plans::agree::bits_good` meets its contract. Assumes nothing.
use Rattle.plans.proofs.Checks.{bits-over, bits-under, bits-by}
use Rattle.plans.proofs.agree.bits_good.Goals as goal

pub returns-then-n_bits-gt-BITS_LIMIT : goal.returns-then-n_bits-gt-BITS_LIMIT
returns-then-n_bits-gt-BITS_LIMIT c = bits-over c.args.plan.now c.if-n_bits-gt-BITS_LIMIT.true

pub returns-then-n_bits_ext-n_bits : goal.returns-then-n_bits_ext-n_bits
returns-then-n_bits_ext-n_bits c = bits-under c.args.plan.now c.if-n_bits-gt-BITS_LIMIT.false c.if-n_bits_ext-n_bits.true

pub returns : goal.returns
returns c = bits-by c.args.plan.now c.if-n_bits-gt-BITS_LIMIT.false c.if-n_bits_ext-n_bits.false
