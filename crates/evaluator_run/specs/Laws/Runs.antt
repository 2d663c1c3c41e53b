-- Laws of the run over tables: one list after another, and the way that a loop goes down a list.
-- Assumes nothing.
use Rattle.std.specs.Prelude.{ℕ, suc, ◌+◌, ◌*◌, ◌-◌, ◌<◌, ◌≤◌, ◌≡◌, drop}
use Rattle.std.proofs.Math.Path.{refl}
use Rattle.std.proofs.Common.{sym, ◌∙◌, add-one, arith}
use mathlib.Core.List.{List, [], ◌∷◌, ◌++◌}
use Rattle.kinds.specs.Steps.{step_size, step_at, steps_of, steps-none, steps-more, steps-split}
use Rattle.kinds.specs.declared.step.Step as bytes
use Rattle.evaluator_cells.specs.Given.{Lent}
use Rattle.lists.specs.Records.{record_count, records_in}
use Rattle.evaluator_step.specs.Machine.{Table, Outcome, next, no_rule, over, after, step_to, run_to, ran_to}
use Rattle.std.specs.Prelude.{Result, Ok, Err}
use Rattle.evaluator_step.specs.declared.step.Stop.{Stop}
use Rattle.evaluator_step.specs.declared.step.Stop.TheVariants as stop

-- what the answer of a step says
module _ {A : Type 0} (r : Result A Stop) (t : Table) (o : Outcome) (e : ran_to r t ≡ o) where
  pub told-no-rule : r ≡ Err stop.NoRule → no_rule ≡ o
  told-no-rule h = rw h at e

  pub told_over : r ≡ Err stop.Over → over ≡ o
  told_over h = rw h at e

  pub told-cells : (a : A) → r ≡ Ok a → next t ≡ o
  told-cells a h = rw h at e

module _ (ns : List ℕ) (m : ℕ) (g : Lent) where
  pub runs_append :
      (xs ys : List bytes.Step) (t : Table) → run_to ns m g t (xs ++ ys) ≡ after (run_to ns m g t xs) (λ u. run_to ns m g u ys)
  unfolding run_to
  runs_append [] ys t = refl
  runs_append (x ∷ xs) ys t = by (step_to ns m g t x) (runs_append xs ys)
    where
      by :
          (o : Outcome) → ((u : Table) → run_to ns m g u (xs ++ ys) ≡ after (run_to ns m g u xs) (λ v. run_to ns m g v ys))
          → after o (λ u. run_to ns m g u (xs ++ ys)) ≡ after (after o (λ u. run_to ns m g u xs)) (λ v. run_to ns m g v ys)
      by (next u) ih = ih u
      by no_rule ih = refl
      by over ih = refl

  after_next : (o : Outcome) → after o (λ u. next u) ≡ o
  after_next (next t) = refl
  after_next no_rule = refl
  after_next over = refl

  runs-one : (x : bytes.Step) (t : Table) → run_to ns m g t (x ∷ []) ≡ step_to ns m g t x
  unfolding run_to
  runs-one x t = after_next (step_to ns m g t x)

  module _ (l : List ℕ) (t : Table) where
    pub run_begins : run_to ns m g t (steps_of l 0) ≡ next t
    unfolding run_to
    run_begins = rw (steps-none l)

    module _ (k : ℕ) (u : Table) (h : run_to ns m g t (steps_of l k) ≡ next u) (x : bytes.Step) (e : x ≡ step_at l (step_size * k)) where
      run_more : run_to ns m g t (steps_of l (suc k)) ≡ step_to ns m g u x
      run_more = rw (steps-more l k, runs_append, h, ← e) (runs-one x u)

      pub run-goes-on : (v : Table) → next v ≡ step_to ns m g u x → run_to ns m g t (steps_of l (k + 1)) ≡ next v
      run-goes-on v f = rw (add-one k) (run_more ∙ sym f)

      later :
          (o : Outcome) → ((f : Table → Outcome) → after o f ≡ o) → o ≡ step_to ns m g u x → k < record_count l
          → o ≡ run_to ns m g t (records_in l)
      later o z f q =
          let n : record_count l ≡ suc k + (record_count l - suc k) = omega arith in
          sym
          (rw (n, steps-split l (suc k) (record_count l - suc k), runs_append, run_more, ← f)
          (z (λ w. run_to ns m g w (steps_of (drop (step_size * suc k) l) (record_count l - suc k)))))

      pub run-refused : no_rule ≡ step_to ns m g u x → k < record_count l → no_rule ≡ run_to ns m g t (records_in l)
      run-refused f q = later no_rule (λ f. refl) f q

      pub run-over : over ≡ step_to ns m g u x → k < record_count l → over ≡ run_to ns m g t (records_in l)
      run-over f q = later over (λ f. refl) f q

      -- a step that ends the run ends the whole of it
      pub run-stops : (A B : Type 0) (e : Stop) (v : Table) → ran_to {A = A} (Err e) v ≡ step_to ns m g u x → k < record_count l → ran_to {A = B} (Err e) v ≡ run_to ns m g t (records_in l)
      run-stops A B stop.NoRule v f q = run-refused f q
      run-stops A B stop.Over v f q = run-over f q

    pub run_ends : (k : ℕ) (u : Table) → run_to ns m g t (steps_of l k) ≡ next u → k ≤ record_count l → record_count l ≤ k → next u ≡ run_to ns m g t (records_in l)
    run_ends k u h a b =
        let n : record_count l ≡ k = omega arith in
        rw n (sym h)
