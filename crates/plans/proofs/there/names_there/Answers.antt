-- `plans::there::names_there` meets its contract. Assumes nothing.
use lib.Dec.{ltb}
use mathlib.Core.Path.{ap}
use Rattle.plans.specs.Agreement.{names_there}
use Rattle.plans.proofs.Checks.{first-fails, first_holds, told-not, told_so}
use mathlib.Core.Bool.{not}
use Rattle.plans.proofs.there.names_there.Goals as goal

pub returns-then-not-lookups_there : goal.returns-then-not-lookups_there
unfolding names_there
returns-then-not-lookups_there c = first-fails _ (told-not c.lookups_there.ensures (ap not c.if-not-lookups_there.true))

pub returns-then-not-products_there : goal.returns-then-not-products_there
unfolding names_there
returns-then-not-products_there c = first_holds (told_so c.lookups_there.ensures (ap not c.if-not-lookups_there.false)) (first-fails _ (told-not c.products_there.ensures (ap not c.if-not-products_there.true)))

pub returns-then-not-intermediates_there : goal.returns-then-not-intermediates_there
unfolding names_there
returns-then-not-intermediates_there c = first_holds (told_so c.lookups_there.ensures (ap not c.if-not-lookups_there.false)) (first_holds (told_so c.products_there.ensures (ap not c.if-not-products_there.false)) (first-fails _ (told-not c.intermediates_there.ensures (ap not c.if-not-intermediates_there.true))))

pub returns-then-not-q2exp_there : goal.returns-then-not-q2exp_there
unfolding names_there
returns-then-not-q2exp_there c = first_holds (told_so c.lookups_there.ensures (ap not c.if-not-lookups_there.false)) (first_holds (told_so c.products_there.ensures (ap not c.if-not-products_there.false)) (first_holds (told_so c.intermediates_there.ensures (ap not c.if-not-intermediates_there.false)) (first-fails _ (told-not c.q2exp_there.ensures (ap not c.if-not-q2exp_there.true)))))

pub returns : goal.returns
unfolding names_there
returns c = first_holds (told_so c.lookups_there.ensures (ap not c.if-not-lookups_there.false)) (first_holds (told_so c.products_there.ensures (ap not c.if-not-products_there.false)) (first_holds (told_so c.intermediates_there.ensures (ap not c.if-not-intermediates_there.false)) (first_holds (told_so c.q2exp_there.ensures (ap not c.if-not-q2exp_there.false)) (ap (λ n. ltb n c.args.m) c.c_exp_of.ensures.is))))
