-- REFUSALS 2, 3 AND 4 OF A POOL, EACH EXACTLY WHEN its row's condition holds and no earlier one does, and 0; only one answer fits the verdict.
-- Assumes nothing.
use Rattle.std.specs.Prelude.{ℕ, ◌≡◌, refl, List, [], ◌↔◌}
use Rattle.std.proofs.Common.{sym, ◌∙◌, ap, inl, inr, arith}
use Rattle.std.proofs.Math.Option.{none, some}
use Rattle.meaning.specs.Refusals.{Refusal, Answer, done, refused, answer_no}
use Rattle.meaning.specs.Trees.{Acyclic}
use Rattle.pool.specs.Pool.{Pool}
use Rattle.pool.specs.Trees.{forest}
use Rattle.pool.specs.Shaped.{Shaped}
use Rattle.pool.specs.Admission.{shape, ClosedWalk, Ranked}
use Rattle.pool.specs.Verdict.{SomeWrongCount, SomeNotThere, Ends, Verdict}
use Rattle.pool.specs.Laws.Shape.{Shape, shape_is, shaped-counts, shaped-there}
use Rattle.pool.specs.Laws.Walks.{no-closed-walk}
use Rattle.pool.specs.Laws.Cycles.{on-closed, one-first}
use Rattle.pool.specs.Laws.Forest.{forest-acyclic, acyclic-ranked}

module _ (p : Pool) (table : List ℕ) where
  -- what can be said of a pool and its answer: one of four
  pub data Case (a : Answer (Unit {0})) : Type 0 where
    two : SomeWrongCount p → answer_no a ≡ 2 → Case a
    three : (SomeWrongCount p → ⊥) → SomeNotThere p → answer_no a ≡ 3 → Case a
    four : Shaped p → ClosedWalk p table → answer_no a ≡ 4 → Case a
    admitted : Shaped p → (rank : ℕ → ℕ) → Ranked p table rank → answer_no a ≡ 0 → Case a

  pub cases : (a : Answer (Unit {0})) → Verdict p table a → Case a
  cases a v = go (shape p) refl (shape_is p)
    where
      end : Shaped p → Ends p table a → Case a
      end s (inl h) = four s (on-closed p table h.2.on) (ap answer_no h.1)
      end s (inr h) = admitted s h.1.0 h.1.1 (ap answer_no h.0)

      go : (s : Answer (Unit {0})) → shape p ≡ s → Shape p s → Case a
      go s q (Shape.count n w) = two w (ap answer_no (v.refuses Refusal.child_count (some n) q))
      go s q (Shape.child n w x) = three w x (ap answer_no (v.refuses Refusal.not_there (some n) q))
      go s q (Shape.root w x) = three w x (ap answer_no (v.refuses Refusal.not_there none q))
      go s q (Shape.fine h) = end h (v.decides q)

  -- 2 exactly when some node's child count differs from the table
  pub exactly_2 : (a : Answer (Unit {0})) → Verdict p table a → (answer_no a ≡ 2) ↔ SomeWrongCount p
  exactly_2 a v = (to (cases a v), back (cases a v))
    where
      to : Case a → answer_no a ≡ 2 → SomeWrongCount p
      to (Case.two w q) h = w
      to (Case.three w x q) h = absurd (omega arith)
      to (Case.four s w q) h = absurd (omega arith)
      to (Case.admitted s r w q) h = absurd (omega arith)

      back : Case a → SomeWrongCount p → answer_no a ≡ 2
      back (Case.two w q) h = q
      back (Case.three w x q) h = absurd (w h)
      back (Case.four s w q) h = absurd (shaped-counts p s h)
      back (Case.admitted s r w q) h = absurd (shaped-counts p s h)

  -- 3 exactly when that is not so, and some child is not earlier, some node has two uses, or some root or expression is not there
  pub exactly_3 : (a : Answer (Unit {0})) → Verdict p table a → (answer_no a ≡ 3) ↔ ((SomeWrongCount p → ⊥) × SomeNotThere p)
  exactly_3 a v = (to (cases a v), back (cases a v))
    where
      to : Case a → answer_no a ≡ 3 → (SomeWrongCount p → ⊥) × SomeNotThere p
      to (Case.two w q) h = absurd (omega arith)
      to (Case.three w x q) h = (w, x)
      to (Case.four s w q) h = absurd (omega arith)
      to (Case.admitted s r w q) h = absurd (omega arith)

      back : Case a → (SomeWrongCount p → ⊥) × SomeNotThere p → answer_no a ≡ 3
      back (Case.two w q) h = absurd (h.0 w)
      back (Case.three w x q) h = q
      back (Case.four s w q) h = absurd (shaped-there p s h.1)
      back (Case.admitted s r w q) h = absurd (shaped-there p s h.1)

  -- 4 exactly when neither is so, and a walk from leaf to leaf comes back to where it began
  pub exactly_4 : (a : Answer (Unit {0})) → Verdict p table a → (answer_no a ≡ 4) ↔ ((SomeWrongCount p → ⊥) × (SomeNotThere p → ⊥) × ClosedWalk p table)
  exactly_4 a v = (to (cases a v), back (cases a v))
    where
      to : Case a → answer_no a ≡ 4 → (SomeWrongCount p → ⊥) × (SomeNotThere p → ⊥) × ClosedWalk p table
      to (Case.two w q) h = absurd (omega arith)
      to (Case.three w x q) h = absurd (omega arith)
      to (Case.four s w q) h = (shaped-counts p s, shaped-there p s, w)
      to (Case.admitted s r w q) h = absurd (omega arith)

      back : Case a → (SomeWrongCount p → ⊥) × (SomeNotThere p → ⊥) × ClosedWalk p table → answer_no a ≡ 4
      back (Case.two w q) h = absurd (h.0 w)
      back (Case.three w x q) h = absurd (h.1 x)
      back (Case.four s w q) h = q
      back (Case.admitted s r w q) h = absurd (no-closed-walk p table r w h.2)

  -- ONLY ONE ANSWER FITS
  pub one_answer : (a b : Answer (Unit {0})) → Verdict p table a → Verdict p table b → a ≡ b
  one_answer a b v w = go (shape p) refl
    where
      both : Ends p table a → Ends p table b → a ≡ b
      both (inl h) (inl k) = h.1 ∙ ap (λ n. refused Refusal.cycle (some n)) (one-first p table h.2 k.2) ∙ sym k.1
      both (inl h) (inr k) = absurd (no-closed-walk p table k.1.0 k.1.1 (on-closed p table h.2.on))
      both (inr h) (inl k) = absurd (no-closed-walk p table h.1.0 h.1.1 (on-closed p table k.2.on))
      both (inr h) (inr k) = h.0 ∙ sym k.0

      go : (s : Answer (Unit {0})) → shape p ≡ s → a ≡ b
      go (done u) q = both (v.decides q) (w.decides q)
      go (refused r n) q = v.refuses r n q ∙ sym (w.refuses r n q)

-- 0 EXACTLY WHEN the pool has its shape and stands for an acyclic forest
pub exactly_0 : (p : Pool) (a : Answer (Unit {0})) → Verdict p [] a → (answer_no a ≡ 0) ↔ (Shaped p × Acyclic (forest p))
exactly_0 p a v = (to (cases p [] a v), back (cases p [] a v))
  where
    to : Case p [] a → answer_no a ≡ 0 → Shaped p × Acyclic (forest p)
    to (Case.two w q) h = absurd (omega arith)
    to (Case.three w x q) h = absurd (omega arith)
    to (Case.four s w q) h = absurd (omega arith)
    to (Case.admitted s r w q) h = (s, forest-acyclic p s r w)

    back : Case p [] a → Shaped p × Acyclic (forest p) → answer_no a ≡ 0
    back (Case.two w q) h = absurd (shaped-counts p h.0 w)
    back (Case.three w x q) h = absurd (shaped-there p h.0 x)
    back (Case.four s w q) h = absurd (no-closed-walk p [] h.1.rank (acyclic-ranked p h.1) w)
    back (Case.admitted s r w q) h = q
