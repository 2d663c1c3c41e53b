-- `plan_walks::fix::fix_planned` meets its contract: fixing with the plan's rules and records (proofs/Fixes.antt). Assumes nothing.
use mathlib.Core.Path.{refl, sym, ap}
use Rattle.std.proofs.lemmas.Result.{err_from_is_err_and}
use native.Mathlib.Omega.{arith}
use lib.ListN.{length-take}
use Rattle.fixing.specs.Answers.{fixed_says}
use Rattle.plan_walks.proofs.Fixes.{cms-asked, cms-room, cms_are, fixed-planned}
use Rattle.plan_walks.proofs.fix.fix_planned.Goals as goal

pub fill_plan_rules-requires : goal.fill_plan_rules-requires
fill_plan_rules-requires c = (c.requires.0, refl)

pub fill_cms-n-requires : goal.fill_cms-n-requires
fill_cms-n-requires c = cms-asked c.requires.0 c.requires.1

pub slice_bounds-cms-end : goal.slice_bounds-cms-end
slice_bounds-cms-end c = omega (arith, cms-room c.requires.0 c.requires.1 c.args.in_n refl c.fill_cms-n.ensures)

pub slice_bounds-fix_prover_code-end : goal.slice_bounds-fix_prover_code-end
slice_bounds-fix_prover_code-end c = simp length-take (omega (arith, cms-room c.requires.0 c.requires.1 c.args.in_n refl c.fill_cms-n.ensures))

pub returns : goal.returns
returns c = λ z a. fixed-planned z c.args.in_n (c.fill_plan_rules.ensures z) (cms_are z a c.args.in_n refl c.fill_cms-n.ensures) c.fix_prover_code.ensures (ap fixed_says (sym c.in_ok-fix_prover_code.was))

pub returns-in_err-fix_prover_code : goal.returns-in_err-fix_prover_code
returns-in_err-fix_prover_code c = λ z a. fixed-planned z c.args.in_n (c.fill_plan_rules.ensures z) (cms_are z a c.args.in_n refl c.fill_cms-n.ensures) c.fix_prover_code.ensures (let p = err_from_is_err_and c.from_residual.result c.from_residual.ensures.1 in rw (p.1, p.2) (ap fixed_says (sym c.in_err-fix_prover_code.was)))
