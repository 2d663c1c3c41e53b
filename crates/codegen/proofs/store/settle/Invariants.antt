-- `codegen::store::settle` meets its contract: the marks before c are settled.
-- Assumes nothing.
use Prim.Native.Nat.{◌-◌}
use mathlib.Core.Path.{◌≡◌}
use lib.ListN.{length}
use Rattle.context.specs.Context.{cells}
use Rattle.codegen.proofs.Small.{Settled}
use Rattle.codegen.proofs.store.settle.Given as goal

abbrev pub invariant-loop-c : goal.invariant-loop-c
invariant-loop-c l = (size : length l.initial.marks ≡ cells) → Settled l.initial.marks size l.marks l.c

abbrev pub decreases-loop-c : goal.decreases-loop-c
decreases-loop-c l = cells - l.c
