-- `starkinfo_codegen::order::pil_code_gen`, `calculate_deps` and `leaf_deps` meet their contracts: each need is one lemma of
-- proofs/Orders.antt. The measure is the levels that are left, then the node. Assumes nothing.
use native.Mathlib.Omega.{arith}
use mathlib.Core.Path.{◌≡◌, refl, sym, ◌∙◌, ap}
use mathlib.Core.Bool.{false}
use Rattle.meaning.proofs.Laws.Tests.{true-false}
use Rattle.starkinfo_codegen.proofs.Orders.{rank-some, past-needs, past-quiet, other-needs, leaf-quiet, exp-out, exp-asks, exp-gives, child-falls, first_less, first-asks, first_stops, only-gives, only-quiet, second_less, second-asks, second-stops, both-gives, both-quiet, third_less, third-asks, third-gives, third-quiet, marked-gives, deps_asks, deps_less, quiet-own, out-asks, deps_stop, out-stop, marks-room, jobs-room, own-made}
use Rattle.starkinfo_codegen.proofs.order.+calculate_deps_leaf_deps_pil_code_gen.Goals as goal
use Rattle.starkinfo_codegen.proofs.order.+calculate_deps_leaf_deps_pil_code_gen.Goals.{calculate_deps-then-a, calculate_deps-else-a}

pub calculate_deps-returns-then-i-ge-NODE_LIMIT : goal.calculate_deps-returns-then-i-ge-NODE_LIMIT
calculate_deps-returns-then-i-ge-NODE_LIMIT t c = (λ b A l a. past-needs _ _ _ _ _ a c.if-i-ge-NODE_LIMIT.true, λ b A l a h q. past-quiet _ _ _ _ _ a c.if-i-ge-NODE_LIMIT.true)

pub calculate_deps-leaf_deps-requires : goal.calculate_deps-leaf_deps-requires
calculate_deps-leaf_deps-requires t c = (omega (arith, rank-some c.args.i c.if-i-ge-NODE_LIMIT.false), (c.requires, c.if-i-ge-NODE_LIMIT.false, sym c.count_of-count.ensures ∙ c.if-count-eq0.true))

pub calculate_deps-calculate_deps-a-requires : goal.calculate_deps-calculate_deps-a-requires
calculate_deps-calculate_deps-a-requires t c = (omega (arith, child-falls _ _ _ _ _ c.requires.3 c.if-i-ge-NODE_LIMIT.false c.first_child.result (first_less _ _ _ _ _ c.requires.3 c.if-i-ge-NODE_LIMIT.false c.count_of-count.ensures c.if-count-eq0.false c.first_child.ensures)), (c.requires.0, c.requires.1, c.requires.2, first-asks _ _ _ _ _ c.requires.3 c.if-i-ge-NODE_LIMIT.false c.count_of-count.ensures c.if-count-eq0.false c.first_child.ensures))

pub calculate_deps-returns-then-first-gt-JOB_LIMIT : goal.calculate_deps-returns-then-first-gt-JOB_LIMIT
calculate_deps-returns-then-first-gt-JOB_LIMIT t c = (λ b A l a. first_stops _ _ _ _ _ a c.if-i-ge-NODE_LIMIT.false c.count_of-count.ensures c.if-count-eq0.false c.first_child.ensures (c.calculate_deps-a.ensures.0 b A l (first-asks _ _ _ _ _ a c.if-i-ge-NODE_LIMIT.false c.count_of-count.ensures c.if-count-eq0.false c.first_child.ensures)) c.if-first-gt-JOB_LIMIT.true, λ b A l a h q. absurd (omega (arith, h, c.if-first-gt-JOB_LIMIT.true)))

pub calculate_deps-returns-then-count-eq1 : goal.calculate_deps-returns-then-count-eq1
calculate_deps-returns-then-count-eq1 t c = (λ b A l a. only-gives _ _ _ _ _ a c.if-i-ge-NODE_LIMIT.false c.count_of-count.ensures c.if-count-eq0.false c.first_child.ensures c.if-count-eq1.true (c.calculate_deps-a.ensures.0 b A l (first-asks _ _ _ _ _ a c.if-i-ge-NODE_LIMIT.false c.count_of-count.ensures c.if-count-eq0.false c.first_child.ensures)), λ b A l a h q. only-quiet _ _ _ _ _ a c.if-i-ge-NODE_LIMIT.false c.count_of-count.ensures c.if-count-eq0.false c.first_child.ensures c.if-count-eq1.true (c.calculate_deps-a.ensures.1 b A l (first-asks _ _ _ _ _ a c.if-i-ge-NODE_LIMIT.false c.count_of-count.ensures c.if-count-eq0.false c.first_child.ensures) c.if-first-gt-JOB_LIMIT.false q))

pub calculate_deps-calculate_deps-b-requires : goal.calculate_deps-calculate_deps-b-requires
calculate_deps-calculate_deps-b-requires t c = (omega (arith, child-falls _ _ _ _ _ c.requires.3 c.if-i-ge-NODE_LIMIT.false c.second_child.result (second_less _ _ _ _ _ c.requires.3 c.if-i-ge-NODE_LIMIT.false c.count_of-count.ensures c.if-count-eq0.false c.first_child.ensures (c.calculate_deps-a.ensures.0 c.requires.0 c.requires.1 c.requires.2 (first-asks _ _ _ _ _ c.requires.3 c.if-i-ge-NODE_LIMIT.false c.count_of-count.ensures c.if-count-eq0.false c.first_child.ensures)) c.if-first-gt-JOB_LIMIT.false c.if-count-eq1.false c.second_child.ensures)), (c.requires.0, c.requires.1, c.requires.2, second-asks _ _ _ _ _ c.requires.3 c.if-i-ge-NODE_LIMIT.false c.count_of-count.ensures c.if-count-eq0.false c.first_child.ensures (c.calculate_deps-a.ensures.0 c.requires.0 c.requires.1 c.requires.2 (first-asks _ _ _ _ _ c.requires.3 c.if-i-ge-NODE_LIMIT.false c.count_of-count.ensures c.if-count-eq0.false c.first_child.ensures)) c.if-first-gt-JOB_LIMIT.false c.if-count-eq1.false c.second_child.ensures))

pub calculate_deps-returns-then-second-gt-JOB_LIMIT : goal.calculate_deps-returns-then-second-gt-JOB_LIMIT
calculate_deps-returns-then-second-gt-JOB_LIMIT t c = (λ b A l a. second-stops _ _ _ _ _ a c.if-i-ge-NODE_LIMIT.false c.count_of-count.ensures c.if-count-eq0.false c.first_child.ensures (c.calculate_deps-a.ensures.0 b A l (first-asks _ _ _ _ _ a c.if-i-ge-NODE_LIMIT.false c.count_of-count.ensures c.if-count-eq0.false c.first_child.ensures)) c.if-first-gt-JOB_LIMIT.false c.if-count-eq1.false c.second_child.ensures (c.calculate_deps-b.ensures.0 b A l (second-asks _ _ _ _ _ a c.if-i-ge-NODE_LIMIT.false c.count_of-count.ensures c.if-count-eq0.false c.first_child.ensures (c.calculate_deps-a.ensures.0 b A l (first-asks _ _ _ _ _ a c.if-i-ge-NODE_LIMIT.false c.count_of-count.ensures c.if-count-eq0.false c.first_child.ensures)) c.if-first-gt-JOB_LIMIT.false c.if-count-eq1.false c.second_child.ensures)) c.if-second-gt-JOB_LIMIT.true, λ b A l a h q. absurd (omega (arith, h, c.if-second-gt-JOB_LIMIT.true)))

pub calculate_deps-returns-then-count-eq2 : goal.calculate_deps-returns-then-count-eq2
calculate_deps-returns-then-count-eq2 t c = (
  λ b A l a. both-gives _ _ _ _ _ a c.if-i-ge-NODE_LIMIT.false c.count_of-count.ensures c.if-count-eq0.false c.first_child.ensures (c.calculate_deps-a.ensures.0 b A l (first-asks _ _ _ _ _ a c.if-i-ge-NODE_LIMIT.false c.count_of-count.ensures c.if-count-eq0.false c.first_child.ensures)) c.if-first-gt-JOB_LIMIT.false c.if-count-eq1.false c.second_child.ensures (c.calculate_deps-b.ensures.0 b A l (second-asks _ _ _ _ _ a c.if-i-ge-NODE_LIMIT.false c.count_of-count.ensures c.if-count-eq0.false c.first_child.ensures (c.calculate_deps-a.ensures.0 b A l (first-asks _ _ _ _ _ a c.if-i-ge-NODE_LIMIT.false c.count_of-count.ensures c.if-count-eq0.false c.first_child.ensures)) c.if-first-gt-JOB_LIMIT.false c.if-count-eq1.false c.second_child.ensures)) c.if-count-eq2.true,
  λ b A l a h q. let k : (c.calculate_deps-a.result.out ≡ false) × (c.calculate_deps-b.result.out ≡ false)
      = elim c.if-a.branch [ calculate_deps-then-a w ↦ absurd (true-false w.if-a.true (sym w.out-is ∙ q)) | calculate_deps-else-a w ↦ (w.if-a.false, sym w.out-is ∙ q) ] in both-quiet _ _ _ _ _ a c.if-i-ge-NODE_LIMIT.false c.count_of-count.ensures c.if-count-eq0.false c.first_child.ensures (c.calculate_deps-a.ensures.0 b A l (first-asks _ _ _ _ _ a c.if-i-ge-NODE_LIMIT.false c.count_of-count.ensures c.if-count-eq0.false c.first_child.ensures)) c.if-first-gt-JOB_LIMIT.false c.if-count-eq1.false c.second_child.ensures (c.calculate_deps-b.ensures.0 b A l (second-asks _ _ _ _ _ a c.if-i-ge-NODE_LIMIT.false c.count_of-count.ensures c.if-count-eq0.false c.first_child.ensures (c.calculate_deps-a.ensures.0 b A l (first-asks _ _ _ _ _ a c.if-i-ge-NODE_LIMIT.false c.count_of-count.ensures c.if-count-eq0.false c.first_child.ensures)) c.if-first-gt-JOB_LIMIT.false c.if-count-eq1.false c.second_child.ensures)) c.if-count-eq2.true (c.calculate_deps-a.ensures.1 b A l (first-asks _ _ _ _ _ a c.if-i-ge-NODE_LIMIT.false c.count_of-count.ensures c.if-count-eq0.false c.first_child.ensures) c.if-first-gt-JOB_LIMIT.false k.0) (c.calculate_deps-b.ensures.1 b A l (second-asks _ _ _ _ _ a c.if-i-ge-NODE_LIMIT.false c.count_of-count.ensures c.if-count-eq0.false c.first_child.ensures (c.calculate_deps-a.ensures.0 b A l (first-asks _ _ _ _ _ a c.if-i-ge-NODE_LIMIT.false c.count_of-count.ensures c.if-count-eq0.false c.first_child.ensures)) c.if-first-gt-JOB_LIMIT.false c.if-count-eq1.false c.second_child.ensures) c.if-second-gt-JOB_LIMIT.false k.1),
)

pub calculate_deps-calculate_deps-c-requires : goal.calculate_deps-calculate_deps-c-requires
calculate_deps-calculate_deps-c-requires t c = (omega (arith, child-falls _ _ _ _ _ c.requires.3 c.if-i-ge-NODE_LIMIT.false c.third_child.result (third_less _ _ _ _ _ c.requires.3 c.if-i-ge-NODE_LIMIT.false c.count_of-count.ensures c.if-count-eq0.false c.first_child.ensures (c.calculate_deps-a.ensures.0 c.requires.0 c.requires.1 c.requires.2 (first-asks _ _ _ _ _ c.requires.3 c.if-i-ge-NODE_LIMIT.false c.count_of-count.ensures c.if-count-eq0.false c.first_child.ensures)) c.if-first-gt-JOB_LIMIT.false c.if-count-eq1.false c.second_child.ensures (c.calculate_deps-b.ensures.0 c.requires.0 c.requires.1 c.requires.2 (second-asks _ _ _ _ _ c.requires.3 c.if-i-ge-NODE_LIMIT.false c.count_of-count.ensures c.if-count-eq0.false c.first_child.ensures (c.calculate_deps-a.ensures.0 c.requires.0 c.requires.1 c.requires.2 (first-asks _ _ _ _ _ c.requires.3 c.if-i-ge-NODE_LIMIT.false c.count_of-count.ensures c.if-count-eq0.false c.first_child.ensures)) c.if-first-gt-JOB_LIMIT.false c.if-count-eq1.false c.second_child.ensures)) c.if-second-gt-JOB_LIMIT.false c.if-count-eq2.false c.third_child.ensures)), (c.requires.0, c.requires.1, c.requires.2, third-asks _ _ _ _ _ c.requires.3 c.if-i-ge-NODE_LIMIT.false c.count_of-count.ensures c.if-count-eq0.false c.first_child.ensures (c.calculate_deps-a.ensures.0 c.requires.0 c.requires.1 c.requires.2 (first-asks _ _ _ _ _ c.requires.3 c.if-i-ge-NODE_LIMIT.false c.count_of-count.ensures c.if-count-eq0.false c.first_child.ensures)) c.if-first-gt-JOB_LIMIT.false c.if-count-eq1.false c.second_child.ensures (c.calculate_deps-b.ensures.0 c.requires.0 c.requires.1 c.requires.2 (second-asks _ _ _ _ _ c.requires.3 c.if-i-ge-NODE_LIMIT.false c.count_of-count.ensures c.if-count-eq0.false c.first_child.ensures (c.calculate_deps-a.ensures.0 c.requires.0 c.requires.1 c.requires.2 (first-asks _ _ _ _ _ c.requires.3 c.if-i-ge-NODE_LIMIT.false c.count_of-count.ensures c.if-count-eq0.false c.first_child.ensures)) c.if-first-gt-JOB_LIMIT.false c.if-count-eq1.false c.second_child.ensures)) c.if-second-gt-JOB_LIMIT.false c.if-count-eq2.false c.third_child.ensures))

pub calculate_deps-returns-then-out : goal.calculate_deps-returns-then-out
calculate_deps-returns-then-out t c = (λ b A l a. third-gives _ _ _ _ _ a c.if-i-ge-NODE_LIMIT.false c.count_of-count.ensures c.if-count-eq0.false c.first_child.ensures (c.calculate_deps-a.ensures.0 b A l (first-asks _ _ _ _ _ a c.if-i-ge-NODE_LIMIT.false c.count_of-count.ensures c.if-count-eq0.false c.first_child.ensures)) c.if-first-gt-JOB_LIMIT.false c.if-count-eq1.false c.second_child.ensures (c.calculate_deps-b.ensures.0 b A l (second-asks _ _ _ _ _ a c.if-i-ge-NODE_LIMIT.false c.count_of-count.ensures c.if-count-eq0.false c.first_child.ensures (c.calculate_deps-a.ensures.0 b A l (first-asks _ _ _ _ _ a c.if-i-ge-NODE_LIMIT.false c.count_of-count.ensures c.if-count-eq0.false c.first_child.ensures)) c.if-first-gt-JOB_LIMIT.false c.if-count-eq1.false c.second_child.ensures)) c.if-second-gt-JOB_LIMIT.false c.if-count-eq2.false c.third_child.ensures (c.calculate_deps-c.ensures.0 b A l (third-asks _ _ _ _ _ a c.if-i-ge-NODE_LIMIT.false c.count_of-count.ensures c.if-count-eq0.false c.first_child.ensures (c.calculate_deps-a.ensures.0 b A l (first-asks _ _ _ _ _ a c.if-i-ge-NODE_LIMIT.false c.count_of-count.ensures c.if-count-eq0.false c.first_child.ensures)) c.if-first-gt-JOB_LIMIT.false c.if-count-eq1.false c.second_child.ensures (c.calculate_deps-b.ensures.0 b A l (second-asks _ _ _ _ _ a c.if-i-ge-NODE_LIMIT.false c.count_of-count.ensures c.if-count-eq0.false c.first_child.ensures (c.calculate_deps-a.ensures.0 b A l (first-asks _ _ _ _ _ a c.if-i-ge-NODE_LIMIT.false c.count_of-count.ensures c.if-count-eq0.false c.first_child.ensures)) c.if-first-gt-JOB_LIMIT.false c.if-count-eq1.false c.second_child.ensures)) c.if-second-gt-JOB_LIMIT.false c.if-count-eq2.false c.third_child.ensures)), λ b A l a h q. absurd (true-false c.if-out.true q))

pub calculate_deps-returns-else-out : goal.calculate_deps-returns-else-out
calculate_deps-returns-else-out t c = (
  λ b A l a. third-gives _ _ _ _ _ a c.if-i-ge-NODE_LIMIT.false c.count_of-count.ensures c.if-count-eq0.false c.first_child.ensures (c.calculate_deps-a.ensures.0 b A l (first-asks _ _ _ _ _ a c.if-i-ge-NODE_LIMIT.false c.count_of-count.ensures c.if-count-eq0.false c.first_child.ensures)) c.if-first-gt-JOB_LIMIT.false c.if-count-eq1.false c.second_child.ensures (c.calculate_deps-b.ensures.0 b A l (second-asks _ _ _ _ _ a c.if-i-ge-NODE_LIMIT.false c.count_of-count.ensures c.if-count-eq0.false c.first_child.ensures (c.calculate_deps-a.ensures.0 b A l (first-asks _ _ _ _ _ a c.if-i-ge-NODE_LIMIT.false c.count_of-count.ensures c.if-count-eq0.false c.first_child.ensures)) c.if-first-gt-JOB_LIMIT.false c.if-count-eq1.false c.second_child.ensures)) c.if-second-gt-JOB_LIMIT.false c.if-count-eq2.false c.third_child.ensures (c.calculate_deps-c.ensures.0 b A l (third-asks _ _ _ _ _ a c.if-i-ge-NODE_LIMIT.false c.count_of-count.ensures c.if-count-eq0.false c.first_child.ensures (c.calculate_deps-a.ensures.0 b A l (first-asks _ _ _ _ _ a c.if-i-ge-NODE_LIMIT.false c.count_of-count.ensures c.if-count-eq0.false c.first_child.ensures)) c.if-first-gt-JOB_LIMIT.false c.if-count-eq1.false c.second_child.ensures (c.calculate_deps-b.ensures.0 b A l (second-asks _ _ _ _ _ a c.if-i-ge-NODE_LIMIT.false c.count_of-count.ensures c.if-count-eq0.false c.first_child.ensures (c.calculate_deps-a.ensures.0 b A l (first-asks _ _ _ _ _ a c.if-i-ge-NODE_LIMIT.false c.count_of-count.ensures c.if-count-eq0.false c.first_child.ensures)) c.if-first-gt-JOB_LIMIT.false c.if-count-eq1.false c.second_child.ensures)) c.if-second-gt-JOB_LIMIT.false c.if-count-eq2.false c.third_child.ensures)),
  λ b A l a h q. let k : (c.calculate_deps-a.result.out ≡ false) × (c.calculate_deps-b.result.out ≡ false)
      = elim c.if-a.branch [ calculate_deps-then-a w ↦ absurd (true-false w.if-a.true (sym w.out-is ∙ c.if-out.false)) | calculate_deps-else-a w ↦ (w.if-a.false, sym w.out-is ∙ c.if-out.false) ] in third-quiet _ _ _ _ _ a c.if-i-ge-NODE_LIMIT.false c.count_of-count.ensures c.if-count-eq0.false c.first_child.ensures (c.calculate_deps-a.ensures.0 b A l (first-asks _ _ _ _ _ a c.if-i-ge-NODE_LIMIT.false c.count_of-count.ensures c.if-count-eq0.false c.first_child.ensures)) c.if-first-gt-JOB_LIMIT.false c.if-count-eq1.false c.second_child.ensures (c.calculate_deps-b.ensures.0 b A l (second-asks _ _ _ _ _ a c.if-i-ge-NODE_LIMIT.false c.count_of-count.ensures c.if-count-eq0.false c.first_child.ensures (c.calculate_deps-a.ensures.0 b A l (first-asks _ _ _ _ _ a c.if-i-ge-NODE_LIMIT.false c.count_of-count.ensures c.if-count-eq0.false c.first_child.ensures)) c.if-first-gt-JOB_LIMIT.false c.if-count-eq1.false c.second_child.ensures)) c.if-second-gt-JOB_LIMIT.false c.if-count-eq2.false c.third_child.ensures (c.calculate_deps-a.ensures.1 b A l (first-asks _ _ _ _ _ a c.if-i-ge-NODE_LIMIT.false c.count_of-count.ensures c.if-count-eq0.false c.first_child.ensures) c.if-first-gt-JOB_LIMIT.false k.0) (c.calculate_deps-b.ensures.1 b A l (second-asks _ _ _ _ _ a c.if-i-ge-NODE_LIMIT.false c.count_of-count.ensures c.if-count-eq0.false c.first_child.ensures (c.calculate_deps-a.ensures.0 b A l (first-asks _ _ _ _ _ a c.if-i-ge-NODE_LIMIT.false c.count_of-count.ensures c.if-count-eq0.false c.first_child.ensures)) c.if-first-gt-JOB_LIMIT.false c.if-count-eq1.false c.second_child.ensures) c.if-second-gt-JOB_LIMIT.false k.1) (c.calculate_deps-c.ensures.1 b A l (third-asks _ _ _ _ _ a c.if-i-ge-NODE_LIMIT.false c.count_of-count.ensures c.if-count-eq0.false c.first_child.ensures (c.calculate_deps-a.ensures.0 b A l (first-asks _ _ _ _ _ a c.if-i-ge-NODE_LIMIT.false c.count_of-count.ensures c.if-count-eq0.false c.first_child.ensures)) c.if-first-gt-JOB_LIMIT.false c.if-count-eq1.false c.second_child.ensures (c.calculate_deps-b.ensures.0 b A l (second-asks _ _ _ _ _ a c.if-i-ge-NODE_LIMIT.false c.count_of-count.ensures c.if-count-eq0.false c.first_child.ensures (c.calculate_deps-a.ensures.0 b A l (first-asks _ _ _ _ _ a c.if-i-ge-NODE_LIMIT.false c.count_of-count.ensures c.if-count-eq0.false c.first_child.ensures)) c.if-first-gt-JOB_LIMIT.false c.if-count-eq1.false c.second_child.ensures)) c.if-second-gt-JOB_LIMIT.false c.if-count-eq2.false c.third_child.ensures) h q),
)

pub leaf_deps-returns-then-kind-eq-EXP : goal.leaf_deps-returns-then-kind-eq-EXP
leaf_deps-returns-then-kind-eq-EXP t c = (λ b A l a. exp-out _ _ _ _ _ a c.requires.1 c.requires.2 c.next_of.ensures c.kind_of-kind.ensures c.if-kind-eq-EXP.true c.if-there-ge-ROWS.true, λ b A l a h q. absurd (omega (arith, h)))

pub leaf_deps-returns-then-there-ge-ROWS : goal.leaf_deps-returns-then-there-ge-ROWS
leaf_deps-returns-then-there-ge-ROWS t c = (λ b A l a. other-needs _ _ _ _ _ a c.requires.1 c.requires.2 c.kind_of-kind.ensures c.if-kind-eq-EXP.false, λ b A l a h q. absurd (true-false refl q))

pub leaf_deps-returns-then-kind-ne-EXP : goal.leaf_deps-returns-then-kind-ne-EXP
leaf_deps-returns-then-kind-ne-EXP t c = (λ b A l a. other-needs _ _ _ _ _ a c.requires.1 c.requires.2 c.kind_of-kind.ensures c.if-kind-ne-EXP.true, λ b A l a h q. leaf-quiet _ _ _ _ _ a c.requires.1 c.requires.2 c.next_of.ensures c.if-there-ge-ROWS.false)

pub leaf_deps-pil_code_gen-after-requires : goal.leaf_deps-pil_code_gen-after-requires
leaf_deps-pil_code_gen-after-requires t c = (omega (arith), (c.requires.0.0, c.requires.0.1, exp-asks _ _ _ _ _ c.requires.0.3 c.requires.1 c.requires.2 c.next_of.ensures c.kind_of-kind.ensures c.if-kind-ne-EXP.false c.if-there-ge-ROWS.false c.id_of-id.ensures))

pub leaf_deps-returns : goal.leaf_deps-returns
leaf_deps-returns t c = (λ b A l a. exp-gives _ _ _ _ _ a c.requires.1 c.requires.2 c.next_of.ensures c.kind_of-kind.ensures c.if-kind-ne-EXP.false c.if-there-ge-ROWS.false c.id_of-id.ensures (c.pil_code_gen-after.ensures b A (exp-asks _ _ _ _ _ a c.requires.1 c.requires.2 c.next_of.ensures c.kind_of-kind.ensures c.if-kind-ne-EXP.false c.if-there-ge-ROWS.false c.id_of-id.ensures)), λ b A l a h q. leaf-quiet _ _ _ _ _ a c.requires.1 c.requires.2 c.next_of.ensures c.if-there-ge-ROWS.false)

pub pil_code_gen-returns-then-mark-ge-MARKED : goal.pil_code_gen-returns-then-mark-ge-MARKED
pil_code_gen-returns-then-mark-ge-MARKED t c = λ b A a. marked-gives _ _ _ _ a c.args.fused c.if-mark-ge-MARKED.true

pub pil_code_gen-calculate_deps-deps-requires : goal.pil_code_gen-calculate_deps-deps-requires
pil_code_gen-calculate_deps-deps-requires t c = (omega (arith, c.requires.2.deep, deps_less _ _ _ _ c.requires.2 c.args.fused c.if-mark-ge-MARKED.false (ap (λ z. z.root) c.expression_at-root.ensures)), (c.requires.0, c.requires.1, c.requires.1.rank c.args.e, deps_asks _ _ _ _ c.requires.2 c.args.fused c.if-mark-ge-MARKED.false (ap (λ z. z.root) c.expression_at-root.ensures)))

pub pil_code_gen-returns-then-after-gt-JOB_LIMIT : goal.pil_code_gen-returns-then-after-gt-JOB_LIMIT
pil_code_gen-returns-then-after-gt-JOB_LIMIT t c = λ b A a. deps_stop _ _ _ _ a c.args.fused c.if-mark-ge-MARKED.false (ap (λ z. z.root) c.expression_at-root.ensures) (c.calculate_deps-deps.ensures.0 b A (A.rank c.args.e) (deps_asks _ _ _ _ a c.args.fused c.if-mark-ge-MARKED.false (ap (λ z. z.root) c.expression_at-root.ensures))) c.if-after-gt-JOB_LIMIT.true

pub pil_code_gen-first_seen-requires : goal.pil_code_gen-first_seen-requires
pil_code_gen-first_seen-requires t c = (c.requires.0, out-asks _ _ _ _ c.requires.2 c.args.fused c.if-mark-ge-MARKED.false (ap (λ z. z.root) c.expression_at-root.ensures))

pub pil_code_gen-returns-in-Some : goal.pil_code_gen-returns-in-Some
pil_code_gen-returns-in-Some t c = λ b A a. out-stop _ _ _ _ a c.args.fused c.if-mark-ge-MARKED.false (ap (λ z. z.root) c.expression_at-root.ensures) (c.calculate_deps-deps.ensures.0 b A (A.rank c.args.e) (deps_asks _ _ _ _ a c.args.fused c.if-mark-ge-MARKED.false (ap (λ z. z.root) c.expression_at-root.ensures))) c.if-after-gt-JOB_LIMIT.false (c.first_seen.ensures b (out-asks _ _ _ _ a c.args.fused c.if-mark-ge-MARKED.false (ap (λ z. z.root) c.expression_at-root.ensures)) (λ o. quiet-own _ _ _ _ a c.args.fused c.if-mark-ge-MARKED.false (ap (λ z. z.root) c.expression_at-root.ensures) (c.calculate_deps-deps.ensures.1 b A (A.rank c.args.e) (deps_asks _ _ _ _ a c.args.fused c.if-mark-ge-MARKED.false (ap (λ z. z.root) c.expression_at-root.ensures)) c.if-after-gt-JOB_LIMIT.false o))) c.in-Some.is

pub pil_code_gen-bounds-marks-cell-2 : goal.pil_code_gen-bounds-marks-cell-2
pil_code_gen-bounds-marks-cell-2 t c = omega (arith, marks-room _ _ _ _ c.requires.2 c.args.fused c.if-mark-ge-MARKED.false (ap (λ z. z.root) c.expression_at-root.ensures) (c.calculate_deps-deps.ensures.0 c.requires.0 c.requires.1 (c.requires.1.rank c.args.e) (deps_asks _ _ _ _ c.requires.2 c.args.fused c.if-mark-ge-MARKED.false (ap (λ z. z.root) c.expression_at-root.ensures))) c.if-after-gt-JOB_LIMIT.false (c.first_seen.ensures c.requires.0 (out-asks _ _ _ _ c.requires.2 c.args.fused c.if-mark-ge-MARKED.false (ap (λ z. z.root) c.expression_at-root.ensures)) (λ o. quiet-own _ _ _ _ c.requires.2 c.args.fused c.if-mark-ge-MARKED.false (ap (λ z. z.root) c.expression_at-root.ensures) (c.calculate_deps-deps.ensures.1 c.requires.0 c.requires.1 (c.requires.1.rank c.args.e) (deps_asks _ _ _ _ c.requires.2 c.args.fused c.if-mark-ge-MARKED.false (ap (λ z. z.root) c.expression_at-root.ensures)) c.if-after-gt-JOB_LIMIT.false o))) c.in_default.is)

pub pil_code_gen-offset_bounds-jobs-after : goal.pil_code_gen-offset_bounds-jobs-after
pil_code_gen-offset_bounds-jobs-after t c = omega (arith, jobs-room _ _ _ _ c.requires.2 c.args.fused c.if-mark-ge-MARKED.false (ap (λ z. z.root) c.expression_at-root.ensures) (c.calculate_deps-deps.ensures.0 c.requires.0 c.requires.1 (c.requires.1.rank c.args.e) (deps_asks _ _ _ _ c.requires.2 c.args.fused c.if-mark-ge-MARKED.false (ap (λ z. z.root) c.expression_at-root.ensures))) c.if-after-gt-JOB_LIMIT.false (c.first_seen.ensures c.requires.0 (out-asks _ _ _ _ c.requires.2 c.args.fused c.if-mark-ge-MARKED.false (ap (λ z. z.root) c.expression_at-root.ensures)) (λ o. quiet-own _ _ _ _ c.requires.2 c.args.fused c.if-mark-ge-MARKED.false (ap (λ z. z.root) c.expression_at-root.ensures) (c.calculate_deps-deps.ensures.1 c.requires.0 c.requires.1 (c.requires.1.rank c.args.e) (deps_asks _ _ _ _ c.requires.2 c.args.fused c.if-mark-ge-MARKED.false (ap (λ z. z.root) c.expression_at-root.ensures)) c.if-after-gt-JOB_LIMIT.false o))) c.in_default.is)

pub pil_code_gen-bounds-jobs-after : goal.pil_code_gen-bounds-jobs-after
pil_code_gen-bounds-jobs-after t c = omega (arith, jobs-room _ _ _ _ c.requires.2 c.args.fused c.if-mark-ge-MARKED.false (ap (λ z. z.root) c.expression_at-root.ensures) (c.calculate_deps-deps.ensures.0 c.requires.0 c.requires.1 (c.requires.1.rank c.args.e) (deps_asks _ _ _ _ c.requires.2 c.args.fused c.if-mark-ge-MARKED.false (ap (λ z. z.root) c.expression_at-root.ensures))) c.if-after-gt-JOB_LIMIT.false (c.first_seen.ensures c.requires.0 (out-asks _ _ _ _ c.requires.2 c.args.fused c.if-mark-ge-MARKED.false (ap (λ z. z.root) c.expression_at-root.ensures)) (λ o. quiet-own _ _ _ _ c.requires.2 c.args.fused c.if-mark-ge-MARKED.false (ap (λ z. z.root) c.expression_at-root.ensures) (c.calculate_deps-deps.ensures.1 c.requires.0 c.requires.1 (c.requires.1.rank c.args.e) (deps_asks _ _ _ _ c.requires.2 c.args.fused c.if-mark-ge-MARKED.false (ap (λ z. z.root) c.expression_at-root.ensures)) c.if-after-gt-JOB_LIMIT.false o))) c.in_default.is)

pub pil_code_gen-overflow_add-result-2 : goal.pil_code_gen-overflow_add-result-2
pil_code_gen-overflow_add-result-2 t c = omega (arith, jobs-room _ _ _ _ c.requires.2 c.args.fused c.if-mark-ge-MARKED.false (ap (λ z. z.root) c.expression_at-root.ensures) (c.calculate_deps-deps.ensures.0 c.requires.0 c.requires.1 (c.requires.1.rank c.args.e) (deps_asks _ _ _ _ c.requires.2 c.args.fused c.if-mark-ge-MARKED.false (ap (λ z. z.root) c.expression_at-root.ensures))) c.if-after-gt-JOB_LIMIT.false (c.first_seen.ensures c.requires.0 (out-asks _ _ _ _ c.requires.2 c.args.fused c.if-mark-ge-MARKED.false (ap (λ z. z.root) c.expression_at-root.ensures)) (λ o. quiet-own _ _ _ _ c.requires.2 c.args.fused c.if-mark-ge-MARKED.false (ap (λ z. z.root) c.expression_at-root.ensures) (c.calculate_deps-deps.ensures.1 c.requires.0 c.requires.1 (c.requires.1.rank c.args.e) (deps_asks _ _ _ _ c.requires.2 c.args.fused c.if-mark-ge-MARKED.false (ap (λ z. z.root) c.expression_at-root.ensures)) c.if-after-gt-JOB_LIMIT.false o))) c.in_default.is)

pub pil_code_gen-returns : goal.pil_code_gen-returns
pil_code_gen-returns t c = λ b A a. own-made _ _ _ _ a c.args.fused c.if-mark-ge-MARKED.false (ap (λ z. z.root) c.expression_at-root.ensures) (c.calculate_deps-deps.ensures.0 b A (A.rank c.args.e) (deps_asks _ _ _ _ a c.args.fused c.if-mark-ge-MARKED.false (ap (λ z. z.root) c.expression_at-root.ensures))) c.if-after-gt-JOB_LIMIT.false (c.first_seen.ensures b (out-asks _ _ _ _ a c.args.fused c.if-mark-ge-MARKED.false (ap (λ z. z.root) c.expression_at-root.ensures)) (λ o. quiet-own _ _ _ _ a c.args.fused c.if-mark-ge-MARKED.false (ap (λ z. z.root) c.expression_at-root.ensures) (c.calculate_deps-deps.ensures.1 b A (A.rank c.args.e) (deps_asks _ _ _ _ a c.args.fused c.if-mark-ge-MARKED.false (ap (λ z. z.root) c.expression_at-root.ensures)) c.if-after-gt-JOB_LIMIT.false o))) c.in_default.is c.job.ensures
