-- `evaluator_run::presence::slot` meets its contract.
-- Assumes nothing.
use native.Mathlib.Omega.{arith}
use native.Mathlib.Nat.{mod-lt}
use Rattle.evaluator_run.specs.Laws.Marks.{class-small, slot-tmp, slot-other}
use borrow.Author.Rules.{rules}
use Rattle.evaluator_run.proofs.presence.slot.Goals as goal

pub overflow_mul-result : goal.overflow_mul-result
overflow_mul-result c = omega (arith, c.class.ensures, class-small c.args.r.kind)

pub overflow_mul-result-then-r-eq-TMP : goal.overflow_mul-result-then-r-eq-TMP
overflow_mul-result-then-r-eq-TMP c = omega (arith, c.class.ensures, class-small c.args.r.kind)

pub overflow_add-result : goal.overflow_add-result
overflow_add-result c = omega (arith, c.class.ensures, class-small c.args.r.kind)

pub returns-then-r-eq-TMP : goal.returns-then-r-eq-TMP
returns-then-r-eq-TMP c = slot-tmp c.args.r _ c.class.ensures (search rules) c.if-r-eq-TMP.true

pub overflow_mul-result-2 : goal.overflow_mul-result-2
overflow_mul-result-2 c = omega (arith, c.class-2.ensures, class-small c.args.r.kind, mod-lt c.args.r.prime {m = 2} (omega arith))

pub overflow_add-result-2 : goal.overflow_add-result-2
overflow_add-result-2 c = omega (arith, c.class-2.ensures, class-small c.args.r.kind, mod-lt c.args.r.prime {m = 2} (omega arith))

pub overflow_mul-result-3 : goal.overflow_mul-result-3
overflow_mul-result-3 c = omega (arith, c.class-2.ensures, class-small c.args.r.kind, mod-lt c.args.r.prime {m = 2} (omega arith))

pub overflow_add-result-3 : goal.overflow_add-result-3
overflow_add-result-3 c = omega (arith, c.class-2.ensures, class-small c.args.r.kind, mod-lt c.args.r.prime {m = 2} (omega arith))

pub returns : goal.returns
returns c = slot-other c.args.r _ c.class-2.ensures (search rules) c.if-r-eq-TMP.false
