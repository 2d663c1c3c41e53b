-- `plan_map::parts::put_expressions` meets its contract: the tables hold what the plan's mapping says (proofs/Tabling.antt). Assumes nothing.
use mathlib.Core.Path.{refl, sym}
use native.Mathlib.Omega.{arith}
use Rattle.plan_map.specs.Puts.{puts-size, rows_end}
use Rattle.plan_map.proofs.Tabling.{records-asks, table-size, expressions-put}
use Rattle.plan_map.proofs.parts.put_expressions.Goals as goal

pub fill_exp2pol-requires : goal.fill_exp2pol-requires
fill_exp2pol-requires c = (c.args.m, records-asks c.requires.1 refl)

pub slice_bounds-put_numbers-end : goal.slice_bounds-put_numbers-end
slice_bounds-put_numbers-end c = sym (table-size c.requires.1 refl refl c.record_numbers.ensures c.record_numbers-2.ensures refl c.fill_exp2pol.ensures)

pub put_numbers-requires : goal.put_numbers-requires
put_numbers-requires c = (omega (arith, c.requires.1.few_expressions, table-size c.requires.1 refl refl c.record_numbers.ensures c.record_numbers-2.ensures refl c.fill_exp2pol.ensures), omega (arith, c.requires.1.fits, puts-size c.put_columns-end.ensures, rows_end _ c.args.count c.put_columns-end.ensures 2 (λ j. refl)))

pub returns : goal.returns
returns c = λ p a. expressions-put a refl refl c.record_numbers.ensures c.record_numbers-2.ensures refl c.fill_exp2pol.ensures c.put_columns-end.ensures c.put_numbers.ensures
