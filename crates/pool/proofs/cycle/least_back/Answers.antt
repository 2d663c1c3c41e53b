-- `pool::cycle::least_back` meets its contract: each need is one lemma of proofs/Reaches.antt. The measure is how many expressions are not followed.
-- Assumes nothing.
use mathlib.Core.Path.{sym, ap, ◌∙◌}
use native.Mathlib.Omega.{arith}
use Rattle.pool.specs.Shapes.{found_at}
use Rattle.pool.specs.Laws.Nodes.{root-there}
use Rattle.pool.proofs.Reaches.{found-one, none-one, begin, round, round_less, finish}
use Rattle.pool.proofs.cycle.least_back.Goals as goal

pub bounds-marks-target : goal.bounds-marks-target
bounds-marks-target c = let P = c.requires in omega (arith, P.1, P.0.2.few_expressions)

pub loop-e-init : goal.loop-e-init
loop-e-init c = λ l n a. begin _ _ a _ c.requires.1 _

pub first_reached-requires : goal.first_reached-requires
first_reached-requires c = c.requires.0.2.few_expressions

pub returns-in_default : goal.returns-in_default
returns-in_default c = λ l n a. finish _ _ a (c.loop-e.invariant l n a) (none-one c.loop-e.marks c.args.m (ap found_at (sym c.in_default.is) ∙ c.first_reached.ensures))

pub bounds-marks-e : goal.bounds-marks-e
bounds-marks-e c = omega (arith, (found-one c.loop-e.marks c.args.m (ap found_at (sym c.in-Some.is) ∙ c.first_reached.ensures)).0, c.requires.0.2.few_expressions)

pub root-requires : goal.root-requires
root-requires c = omega (arith, (found-one c.loop-e.marks c.args.m (ap found_at (sym c.in-Some.is) ∙ c.first_reached.ensures)).0, c.requires.0.2.few_expressions)

pub mark_tree-found-requires : goal.mark_tree-found-requires
mark_tree-found-requires c = let P = c.requires in (P.0.0, c.args.expressions.now, P.0.1, c.args.m, (record { starts = P.0.2; there = root-there _ P.0.2.shaped (found-one c.loop-e.marks c.args.m (ap found_at (sym c.in-Some.is) ∙ c.first_reached.ensures)).0 c.root.ensures }))

pub loop-e-smaller : goal.loop-e-smaller
loop-e-smaller c = let P = c.requires in round_less _ _ P.0.2 (c.loop-e.invariant P.0.0 P.0.1 P.0.2) (ap found_at (sym c.in-Some.is) ∙ c.first_reached.ensures) c.root.ensures (c.mark_tree-found.ensures P.0.0 _ P.0.1 _ (record { starts = P.0.2; there = root-there _ P.0.2.shaped (found-one c.loop-e.marks c.args.m (ap found_at (sym c.in-Some.is) ∙ c.first_reached.ensures)).0 c.root.ensures }))

pub loop-e-preserved : goal.loop-e-preserved
loop-e-preserved c = λ l n a. round _ _ a (c.loop-e.invariant l n a) (ap found_at (sym c.in-Some.is) ∙ c.first_reached.ensures) c.root.ensures (c.mark_tree-found.ensures l _ n _ (record { starts = a; there = root-there _ a.shaped (found-one c.loop-e.marks c.args.m (ap found_at (sym c.in-Some.is) ∙ c.first_reached.ensures)).0 c.root.ensures }))
