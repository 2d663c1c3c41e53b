-- `plan_walks::dimension::dimension_planned` meets its contract: the pass with the plan's records (proofs/Dims.antt). Assumes nothing.
use mathlib.Core.Path.{refl, sym, ap}
use mathlib.Core.Bool.{false}
use native.Mathlib.Omega.{arith}
use lib.ListN.{length-take}
use Rattle.plan_tables.specs.Listed.{listed_front, listed-size}
use Rattle.plan_walks.proofs.Fixes.{cms-asked, cms-room, cms_are, fitting}
use Rattle.std.proofs.lemmas.Result.{err_from_is_err_and}
use Rattle.plan_walks.specs.Dimension.{dimensioned_says}
use Rattle.plan_walks.proofs.Dims.{dimensioned_planned}
use Rattle.plan_walks.proofs.dimension.dimension_planned.Goals as goal

pub fill_cms-n-requires : goal.fill_cms-n-requires
fill_cms-n-requires c = cms-asked c.requires.3 c.requires.4

pub fill_qs-q-requires : goal.fill_qs-q-requires
fill_qs-q-requires c = (fitting c.requires.3).0

pub slice_bounds-cms-end : goal.slice_bounds-cms-end
slice_bounds-cms-end c = omega (arith, cms-room c.requires.3 c.requires.4 false refl c.fill_cms-n.ensures)

pub slice_bounds-lent-end : goal.slice_bounds-lent-end
slice_bounds-lent-end c = simp length-take (omega (arith, cms-room c.requires.3 c.requires.4 false refl c.fill_cms-n.ensures))

pub slice_bounds-numbers-end : goal.slice_bounds-numbers-end
slice_bounds-numbers-end c = omega (arith, c.fill_qs-q.ensures.1, listed-size c.fill_qs-q.ensures.0)

pub slice_bounds-lent-end-2 : goal.slice_bounds-lent-end-2
slice_bounds-lent-end-2 c = simp length-take (omega (arith, c.fill_qs-q.ensures.1, listed-size c.fill_qs-q.ensures.0))

pub returns : goal.returns
returns c = λ w x cs z a e. dimensioned_planned z e (cms_are z a false refl c.fill_cms-n.ensures) (listed_front c.fill_qs-q.ensures.0 (omega (arith, c.fill_qs-q.ensures.1, c.fill_qs-q.ensures.0.count))) c.set_code_dimensions.ensures (ap dimensioned_says (sym c.in_ok-set_code_dimensions.was))

pub returns-in_err-set_code_dimensions : goal.returns-in_err-set_code_dimensions
returns-in_err-set_code_dimensions c = λ w x cs z a e. dimensioned_planned z e (cms_are z a false refl c.fill_cms-n.ensures) (listed_front c.fill_qs-q.ensures.0 (omega (arith, c.fill_qs-q.ensures.1, c.fill_qs-q.ensures.0.count))) c.set_code_dimensions.ensures (let p = err_from_is_err_and c.from_residual.result c.from_residual.ensures.1 in rw (p.1, p.2) (ap dimensioned_says (sym c.in_err-set_code_dimensions.was)))
