-- `pool::rank::visit` and `pool::rank::walk` meet their contracts: each need is one lemma of proofs/Ranks.antt or proofs/Children.antt.
-- The measure is what is not reached, then the node. Assumes nothing.
use native.Mathlib.Omega.{arith}
use mathlib.Core.Path.{refl}
use mathlib.Core.Logic.{inl}
use Rattle.pool.proofs.Ranks.{few-after, ranked-some, cycle-is, still, back-again, enter, enter_less, leave}
use Rattle.pool.proofs.Children.{room, exp-asks, exp-gives, q-past, q-asks, q-gives, leaf-gives, asks0, less0, one-gives, asks1, less1, two-gives, asks2, less2, three-gives}
use Rattle.pool.proofs.rank.+visit_walk.Goals as goal

pub visit-offset_bounds-ranks-e : goal.visit-offset_bounds-ranks-e
visit-offset_bounds-ranks-e t c = let a = c.requires.3 in omega (arith, a.there, a.state.few_expressions)

pub visit-bounds-ranks-e : goal.visit-bounds-ranks-e
visit-bounds-ranks-e t c = let a = c.requires.3 in omega (arith, a.there, a.state.few_expressions, a.state.size)

pub visit-returns-then-rank-ge-RANKED : goal.visit-returns-then-rank-ge-RANKED
visit-returns-then-rank-ge-RANKED t c = λ l n m a. still _ _ a.state c.if-rank-ge-RANKED.true

pub visit-returns-then-rank-eq-REACHED : goal.visit-returns-then-rank-eq-REACHED
visit-returns-then-rank-eq-REACHED t c = λ l n m a. inl (refl, back-again _ _ a c.if-rank-eq-REACHED.true)

pub visit-offset_bounds-ranks-e-2 : goal.visit-offset_bounds-ranks-e-2
visit-offset_bounds-ranks-e-2 t c = let a = c.requires.3 in omega (arith, a.there, a.state.few_expressions)

pub visit-bounds-ranks-e-2 : goal.visit-bounds-ranks-e-2
visit-bounds-ranks-e-2 t c = let a = c.requires.3 in omega (arith, a.there, a.state.few_expressions, a.state.size)

pub visit-root-requires : goal.visit-root-requires
visit-root-requires t c = let a = c.requires.3 in omega (arith, a.there, a.state.few_expressions)

pub visit-walk-requires : goal.visit-walk-requires
visit-walk-requires t c = let a = c.requires.3 in (omega (arith, c.requires.0, enter_less _ _ a c.if-rank-ge-RANKED.false c.if-rank-eq-REACHED.false c.root.ensures), (c.requires.0, c.requires.1, c.requires.2, enter _ _ a c.if-rank-ge-RANKED.false c.if-rank-eq-REACHED.false c.root.ensures))

pub visit-returns-in_err-before : goal.visit-returns-in_err-before
visit-returns-in_err-before t c = λ l n m a. rw c.from_residual.ensures (inl (refl, cycle-is _ _ (c.walk.ensures l n m (enter _ _ a c.if-rank-ge-RANKED.false c.if-rank-eq-REACHED.false c.root.ensures)) c.in_err-before.was))

pub visit-overflow_add-ranks : goal.visit-overflow_add-ranks
visit-overflow_add-ranks t c = omega (arith, few-after _ _ (c.walk.ensures c.requires.0 c.requires.1 c.requires.2 (enter _ _ c.requires.3 c.if-rank-ge-RANKED.false c.if-rank-eq-REACHED.false c.root.ensures)) c.in_ok-before.was)

pub visit-offset_bounds-ranks-e-3 : goal.visit-offset_bounds-ranks-e-3
visit-offset_bounds-ranks-e-3 t c = let a = c.requires.3 in omega (arith, a.there, a.state.few_expressions)

pub visit-bounds-ranks-e-3 : goal.visit-bounds-ranks-e-3
visit-bounds-ranks-e-3 t c = let a = c.requires.3 in omega (arith, a.there, a.state.few_expressions)

pub visit-overflow_add-result : goal.visit-overflow_add-result
visit-overflow_add-result t c = omega (arith, few-after _ _ (c.walk.ensures c.requires.0 c.requires.1 c.requires.2 (enter _ _ c.requires.3 c.if-rank-ge-RANKED.false c.if-rank-eq-REACHED.false c.root.ensures)) c.in_ok-before.was)

pub visit-returns : goal.visit-returns
visit-returns t c = λ l n m a. leave _ _ a c.if-rank-ge-RANKED.false c.if-rank-eq-REACHED.false c.root.ensures (ranked-some _ _ (c.walk.ensures l n m (enter _ _ a c.if-rank-ge-RANKED.false c.if-rank-eq-REACHED.false c.root.ensures)) c.in_ok-before.was)

pub walk-kind_at-kind-requires : goal.walk-kind_at-kind-requires
walk-kind_at-kind-requires t c = room _ _ c.requires.3

pub walk-id-requires : goal.walk-id-requires
walk-id-requires t c = room _ _ c.requires.3

pub walk-visit-requires : goal.walk-visit-requires
walk-visit-requires t c = (omega (arith, c.requires.0), (c.requires.0, c.requires.1, c.requires.2, exp-asks _ _ c.requires.3 c.kind_at-kind.ensures c.if-kind-eq-EXP.true c.id.ensures))

pub walk-returns-then-kind-eq-EXP : goal.walk-returns-then-kind-eq-EXP
walk-returns-then-kind-eq-EXP t c = λ l n m a. exp-gives _ _ a c.kind_at-kind.ensures c.if-kind-eq-EXP.true c.id.ensures (c.visit.ensures l n m (exp-asks _ _ a c.kind_at-kind.ensures c.if-kind-eq-EXP.true c.id.ensures))

pub walk-id-q-requires : goal.walk-id-q-requires
walk-id-q-requires t c = room _ _ c.requires.3

pub walk-entry_count-requires : goal.walk-entry_count-requires
walk-entry_count-requires t c = tt

pub walk-returns-then-entry_count-q : goal.walk-returns-then-entry_count-q
walk-returns-then-entry_count-q t c = λ l n m a. q-past _ _ a c.kind_at-kind.ensures c.if-kind-eq-Q.true c.id-q.ensures (omega (arith, c.if-entry_count-q.true, c.entry_count.ensures))

pub walk-entry_at-requires : goal.walk-entry_at-requires
walk-entry_at-requires t c = omega (arith, c.if-entry_count-q.false, c.entry_count.ensures)

pub walk-visit-requires-then-kind-eq-Q : goal.walk-visit-requires-then-kind-eq-Q
walk-visit-requires-then-kind-eq-Q t c = (omega (arith, c.requires.0), (c.requires.0, c.requires.1, c.requires.2, q-asks _ _ c.requires.3 c.kind_at-kind.ensures c.if-kind-eq-Q.true c.id-q.ensures (omega (arith, c.if-entry_count-q.false, c.entry_count.ensures)) c.entry_at.ensures))

pub walk-returns-then-kind-eq-Q : goal.walk-returns-then-kind-eq-Q
walk-returns-then-kind-eq-Q t c = λ l n m a. q-gives _ _ a c.kind_at-kind.ensures c.if-kind-eq-Q.true c.id-q.ensures (omega (arith, c.if-entry_count-q.false, c.entry_count.ensures)) c.entry_at.ensures (c.visit-then-kind-eq-Q.ensures l n m (q-asks _ _ a c.kind_at-kind.ensures c.if-kind-eq-Q.true c.id-q.ensures (omega (arith, c.if-entry_count-q.false, c.entry_count.ensures)) c.entry_at.ensures))

pub walk-count_at-count-requires : goal.walk-count_at-count-requires
walk-count_at-count-requires t c = room _ _ c.requires.3

pub walk-returns-then-count-eq0 : goal.walk-returns-then-count-eq0
walk-returns-then-count-eq0 t c = λ l n m a. leaf-gives _ _ a c.kind_at-kind.ensures c.if-kind-eq-EXP.false c.if-kind-eq-Q.false c.count_at-count.ensures c.if-count-eq0.true

pub walk-child-requires : goal.walk-child-requires
walk-child-requires t c = room _ _ c.requires.3

pub walk-walk-requires : goal.walk-walk-requires
walk-walk-requires t c = let a = c.requires.3 in (omega (arith, c.requires.0, less0 _ _ a c.count_at-count.ensures c.if-count-eq0.false c.child.ensures), (c.requires.0, c.requires.1, c.requires.2, asks0 _ _ a c.count_at-count.ensures c.if-count-eq0.false c.child.ensures))

pub walk-returns-in_err-first : goal.walk-returns-in_err-first
walk-returns-in_err-first t c = λ l n m a. rw c.from_residual.ensures (inl (refl, cycle-is _ _ (c.walk.ensures l n m (asks0 _ _ a c.count_at-count.ensures c.if-count-eq0.false c.child.ensures)) c.in_err-first.was))

pub walk-returns-then-count-eq1 : goal.walk-returns-then-count-eq1
walk-returns-then-count-eq1 t c = λ l n m a. one-gives _ _ a c.count_at-count.ensures c.if-count-eq0.false c.child.ensures (c.walk.ensures l n m (asks0 _ _ a c.count_at-count.ensures c.if-count-eq0.false c.child.ensures)) c.in_ok-first.was c.if-count-eq1.true

pub walk-child-requires-2 : goal.walk-child-requires-2
walk-child-requires-2 t c = room _ _ c.requires.3

pub walk-walk-requires-2 : goal.walk-walk-requires-2
walk-walk-requires-2 t c = let a = c.requires.3 in (omega (arith, c.requires.0, less1 _ _ a c.count_at-count.ensures c.if-count-eq0.false c.child.ensures (c.walk.ensures c.requires.0 c.requires.1 c.requires.2 (asks0 _ _ a c.count_at-count.ensures c.if-count-eq0.false c.child.ensures)) c.in_ok-first.was c.if-count-eq1.false c.child-2.ensures), (c.requires.0, c.requires.1, c.requires.2, asks1 _ _ a c.count_at-count.ensures c.if-count-eq0.false c.child.ensures (c.walk.ensures c.requires.0 c.requires.1 c.requires.2 (asks0 _ _ a c.count_at-count.ensures c.if-count-eq0.false c.child.ensures)) c.in_ok-first.was c.if-count-eq1.false c.child-2.ensures))

pub walk-returns-in_err-second : goal.walk-returns-in_err-second
walk-returns-in_err-second t c = λ l n m a. rw c.from_residual-in_err-second.ensures (inl (refl, cycle-is _ _ (c.walk-2.ensures l n m (asks1 _ _ a c.count_at-count.ensures c.if-count-eq0.false c.child.ensures (c.walk.ensures l n m (asks0 _ _ a c.count_at-count.ensures c.if-count-eq0.false c.child.ensures)) c.in_ok-first.was c.if-count-eq1.false c.child-2.ensures)) c.in_err-second.was))

pub walk-returns-then-count-eq2 : goal.walk-returns-then-count-eq2
walk-returns-then-count-eq2 t c = λ l n m a. two-gives _ _ a c.count_at-count.ensures c.if-count-eq0.false c.child.ensures (c.walk.ensures l n m (asks0 _ _ a c.count_at-count.ensures c.if-count-eq0.false c.child.ensures)) c.in_ok-first.was c.if-count-eq1.false c.child-2.ensures (c.walk-2.ensures l n m (asks1 _ _ a c.count_at-count.ensures c.if-count-eq0.false c.child.ensures (c.walk.ensures l n m (asks0 _ _ a c.count_at-count.ensures c.if-count-eq0.false c.child.ensures)) c.in_ok-first.was c.if-count-eq1.false c.child-2.ensures)) c.in_ok-second.was c.if-count-eq2.true

pub walk-child-requires-3 : goal.walk-child-requires-3
walk-child-requires-3 t c = room _ _ c.requires.3

pub walk-walk-requires-3 : goal.walk-walk-requires-3
walk-walk-requires-3 t c = let a = c.requires.3 in (omega (arith, c.requires.0, less2 _ _ a c.count_at-count.ensures c.if-count-eq0.false c.child.ensures (c.walk.ensures c.requires.0 c.requires.1 c.requires.2 (asks0 _ _ a c.count_at-count.ensures c.if-count-eq0.false c.child.ensures)) c.in_ok-first.was c.if-count-eq1.false c.child-2.ensures (c.walk-2.ensures c.requires.0 c.requires.1 c.requires.2 (asks1 _ _ a c.count_at-count.ensures c.if-count-eq0.false c.child.ensures (c.walk.ensures c.requires.0 c.requires.1 c.requires.2 (asks0 _ _ a c.count_at-count.ensures c.if-count-eq0.false c.child.ensures)) c.in_ok-first.was c.if-count-eq1.false c.child-2.ensures)) c.in_ok-second.was c.if-count-eq2.false c.child-3.ensures), (c.requires.0, c.requires.1, c.requires.2, asks2 _ _ a c.count_at-count.ensures c.if-count-eq0.false c.child.ensures (c.walk.ensures c.requires.0 c.requires.1 c.requires.2 (asks0 _ _ a c.count_at-count.ensures c.if-count-eq0.false c.child.ensures)) c.in_ok-first.was c.if-count-eq1.false c.child-2.ensures (c.walk-2.ensures c.requires.0 c.requires.1 c.requires.2 (asks1 _ _ a c.count_at-count.ensures c.if-count-eq0.false c.child.ensures (c.walk.ensures c.requires.0 c.requires.1 c.requires.2 (asks0 _ _ a c.count_at-count.ensures c.if-count-eq0.false c.child.ensures)) c.in_ok-first.was c.if-count-eq1.false c.child-2.ensures)) c.in_ok-second.was c.if-count-eq2.false c.child-3.ensures))

pub walk-returns : goal.walk-returns
walk-returns t c = λ l n m a. three-gives _ _ a c.count_at-count.ensures c.if-count-eq0.false c.child.ensures (c.walk.ensures l n m (asks0 _ _ a c.count_at-count.ensures c.if-count-eq0.false c.child.ensures)) c.in_ok-first.was c.if-count-eq1.false c.child-2.ensures (c.walk-2.ensures l n m (asks1 _ _ a c.count_at-count.ensures c.if-count-eq0.false c.child.ensures (c.walk.ensures l n m (asks0 _ _ a c.count_at-count.ensures c.if-count-eq0.false c.child.ensures)) c.in_ok-first.was c.if-count-eq1.false c.child-2.ensures)) c.in_ok-second.was c.if-count-eq2.false c.child-3.ensures (c.walk-3.ensures l n m (asks2 _ _ a c.count_at-count.ensures c.if-count-eq0.false c.child.ensures (c.walk.ensures l n m (asks0 _ _ a c.count_at-count.ensures c.if-count-eq0.false c.child.ensures)) c.in_ok-first.was c.if-count-eq1.false c.child-2.ensures (c.walk-2.ensures l n m (asks1 _ _ a c.count_at-count.ensures c.if-count-eq0.false c.child.ensures (c.walk.ensures l n m (asks0 _ _ a c.count_at-count.ensures c.if-count-eq0.false c.child.ensures)) c.in_ok-first.was c.if-count-eq1.false c.child-2.ensures)) c.in_ok-second.was c.if-count-eq2.false c.child-3.ensures))
