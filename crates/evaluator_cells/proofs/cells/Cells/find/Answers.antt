-- `evaluator_cells::cells::Cells::find` meets its contract: the walk down the chain of the key's id.
-- Assumes nothing.
use Prim.Native.Nat.{◌-◌}
use native.Mathlib.Omega.{arith}
use Rattle.evaluator_cells.specs.Laws.Chains.{id-small, walk_begins, walk_goes_on, walk_finds, walk_ends}
use Rattle.evaluator_cells.proofs.cells.Cells.find.Goals as goal

pub offset_bounds-self-id : goal.offset_bounds-self-id
offset_bounds-self-id c = omega (arith, c.id_of-id.ensures, id-small c.args.key)

pub bounds-self-id : goal.bounds-self-id
bounds-self-id c = omega (arith, c.id_of-id.ensures, id-small c.args.key, c.requires.1.head_size)

pub overflow_cast-at : goal.overflow_cast-at
overflow_cast-at c = let p = c.requires in omega (arith, p.1.head_below c.id_of-id.result, p.1.few)

pub loop-at-init : goal.loop-at-init
loop-at-init c = λ n ch. rw c.id_of-id.ensures (walk_begins ch _)

pub overflow_sub-cell : goal.overflow_sub-cell
overflow_sub-cell c = omega arith

pub offset_bounds-self-cell : goal.offset_bounds-self-cell
offset_bounds-self-cell c = let p = c.requires in omega (arith, (c.loop-at.invariant p.0 p.1).below, p.1.few)

pub bounds-self-cell : goal.bounds-self-cell
bounds-self-cell c = let p = c.requires in omega (arith, c.loop-at-test.true, (c.loop-at.invariant p.0 p.1).below, p.1.few, p.1.key_size)

pub returns-then-self-cell : goal.returns-then-self-cell
returns-then-self-cell c = λ n ch. walk_finds ch (c.loop-at.invariant n ch) c.loop-at-test.true c.if-self-cell.true

pub offset_bounds-self-cell-in-loop-at : goal.offset_bounds-self-cell-in-loop-at
offset_bounds-self-cell-in-loop-at c = let p = c.requires in omega (arith, (c.loop-at.invariant p.0 p.1).below, p.1.few)

pub bounds-self-cell-in-loop-at : goal.bounds-self-cell-in-loop-at
bounds-self-cell-in-loop-at c = let p = c.requires in omega (arith, c.loop-at-test.true, (c.loop-at.invariant p.0 p.1).below, p.1.few, p.1.next_size)

pub overflow_cast-at-in-loop-at : goal.overflow_cast-at-in-loop-at
overflow_cast-at-in-loop-at c = let p = c.requires in omega (arith, p.1.few, c.loop-at-test.true, (c.loop-at.invariant p.0 p.1).below, p.1.next_below (c.loop-at.at - 1) (omega (arith, c.loop-at-test.true, (c.loop-at.invariant p.0 p.1).below)))

pub loop-at-smaller : goal.loop-at-smaller
loop-at-smaller c = let p = c.requires in omega (arith, c.loop-at-test.true, (c.loop-at.invariant p.0 p.1).below, p.1.next_below (c.loop-at.at - 1) (omega (arith, c.loop-at-test.true, (c.loop-at.invariant p.0 p.1).below)))

pub loop-at-preserved : goal.loop-at-preserved
loop-at-preserved c = λ n ch. walk_goes_on ch (c.loop-at.invariant n ch) c.loop-at-test.true c.if-self-cell.false

pub returns : goal.returns
returns c = λ n ch. walk_ends ch (c.loop-at.invariant n ch) c.loop-at-test.false
