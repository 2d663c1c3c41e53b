-- A source, a step and a segment are either refused as the conditions say, or have their dimensions.
-- Assumes nothing.
use Rattle.std.specs.Prelude.{ℕ, zero, suc, ◌≤◌, ◌≡◌, Bool, cond, ◌||◌, length, get_or, ltb}
use Rattle.std.proofs.Math.Path.{refl}
use Rattle.std.proofs.Common.{◌∙◌, inl, inr, arith}
use Rattle.std.proofs.Math.Bool.{true, false}
use Rattle.std.proofs.Math.Option.{none}
use mathlib.Core.List.{List, [], ◌∷◌, ◌++◌}
use Rattle.std.proofs.Math.Dec.{eqb}
use borrow.Author.Tests.{eqb-true, ltb-true, ltb-false, lt-ltb, le-ltb}
use Rattle.kinds.specs.KindBytes as kind
use Rattle.kinds.specs.Range.{within}
use Rattle.kinds.specs.StepOps.{sources_needed}
use Rattle.kinds.specs.Steps.{steps_bytes}
use Rattle.kinds.specs.declared.reference.Reference.{Reference}
use Rattle.kinds.specs.declared.step.Step.{Step}
use Rattle.meaning.specs.Refusals.{Refusal, Answer, done, refused, ◌then◌}
use Rattle.meaning.specs.Trees.{up_to}
use Rattle.lists.specs.Records.{records_in}
use Rattle.step_dimensions.specs.Rules as rule
use Rattle.step_dimensions.specs.Rules.{rule_no, is_destination}
use Rattle.step_dimensions.specs.StepDimensions.{Given, positive, through, source_dim, source_dims, sized_step, unruled, sources_in, step_with, noted}
use Rattle.dimensions.specs.Dimensions.{Passed, passed, passed_lists}
use Rattle.dimensions.specs.Answers.{refusal_of}
use Rattle.dimensions.specs.Conditions as when
use Rattle.dimensions.specs.Conditions.{NotThere, Zero, SourceRefused, SourcesRefused, StepRefused, StepsRefused, all_records}

-- refused with a condition, or done
pub data Way {A : Type 0} (Cond : Refusal → Type 0) (answer : Answer A) : Type 0 where
  fine : (a : A) → answer ≡ done a → Way Cond answer
  stopped : (w : Refusal) → Cond w → answer ≡ refused w none → Way Cond answer

-- ---- a source

rule-small : (k : ℕ) → rule_no k ≤ 7
unfolding rule_no
rule-small k =
    by (eqb k kind.tmp) (eqb k kind.tmp_exp || within kind.tree1 kind.tree4 k) (eqb k kind.cm) (eqb k kind.q)
    (eqb k kind.const || (within kind.number kind.public k || eqb k kind.Zi)) (within kind.challenge kind.eval k || eqb k kind.Z) (within kind.x_div_x_sub_xi kind.x k)
  where
    by : (a b c d e f h : Bool) → cond a 1 (cond b 2 (cond c 3 (cond d 4 (cond e 5 (cond f 6 (cond h 7 0)))))) ≤ 7
    by true b c d e f h = omega arith
    by false true c d e f h = omega arith
    by false false true d e f h = omega arith
    by false false false true e f h = omega arith
    by false false false false true f h = omega arith
    by false false false false false true h = omega arith
    by false false false false false false true = omega arith
    by false false false false false false false = omega arith

data Through (dims numbers : List ℕ) (id : ℕ) : Type 0 where
  absent : NotThere dims numbers id → through dims numbers id ≡ refused Refusal.not_there none → Through dims numbers id
  nought : Zero dims numbers id → through dims numbers id ≡ refused Refusal.no_dimension none → Through dims numbers id
  found : (d : ℕ) → through dims numbers id ≡ done d → Through dims numbers id

through-way : (dims numbers : List ℕ) (id : ℕ) → Through dims numbers id
unfolding through
through-way dims numbers id = by (ltb id (length numbers)) refl (ltb (get_or numbers id 0) (length dims)) refl (eqb (get_or dims (get_or numbers id 0) 0) 0) refl
  where
    by : (a : Bool) → ltb id (length numbers) ≡ a → (b : Bool) → ltb (get_or numbers id 0) (length dims) ≡ b → (c : Bool) → eqb (get_or dims (get_or numbers id 0) 0) 0 ≡ c → Through dims numbers id
    by false p b q c r = absent (inl (ltb-false id (length numbers) p)) (rw p)
    by true p false q c r = absent (inr (ltb-true id (length numbers) p, ltb-false (get_or numbers id 0) (length dims) q)) (rw (p, q))
    by true p true q true r = nought (ltb-true id (length numbers) p, ltb-true (get_or numbers id 0) (length dims) q, eqb-true (get_or dims (get_or numbers id 0) 0) 0 r) (rw (p, q, r))
    by true p true q false r = found (get_or dims (get_or numbers id 0) 0) (rw (p, q, r))

module _ (g : Given) (ts : List ℕ) (r : Reference) where
  pub source-way : Way (SourceRefused g ts r) (source_dim g ts r)
  unfolding source_dim
  source-way = by (rule_no r.kind) refl (rule-small r.kind)
    where
      zero_or : (d : ℕ) → source_dim g ts r ≡ positive d → (d ≡ 0 → SourceRefused g ts r Refusal.no_dimension) → (t : Bool) → eqb d 0 ≡ t → Way (SourceRefused g ts r) (source_dim g ts r)
      zero_or d e f true q = stopped Refusal.no_dimension (f (eqb-true d 0 q)) (e ∙ rw q)
      zero_or d e f false q = fine d (e ∙ rw q)

      written_or : rule_no r.kind ≡ rule.temporary → (t : Bool) → eqb (get_or ts r.id 0) 0 ≡ t → Way (SourceRefused g ts r) (source_dim g ts r)
      written_or e true q = stopped Refusal.no_rule (when.not_written e (eqb-true (get_or ts r.id 0) 0 q)) (rw (e, q))
      written_or e false q = fine (get_or ts r.id 0) (rw (e, q))

      by-column : rule_no r.kind ≡ rule.column → Through g.record_dims g.cm2ns r.id → Way (SourceRefused g ts r) (source_dim g ts r)
      by-column e (absent c q) = stopped Refusal.not_there (when.no_column e c) (rw e q)
      by-column e (nought c q) = stopped Refusal.no_dimension (when.column_zero e c) (rw e q)
      by-column e (found d q) = fine d (rw e q)

      by-quotient : rule_no r.kind ≡ rule.quotient → Through g.record_dims g.qs r.id → Way (SourceRefused g ts r) (source_dim g ts r)
      by-quotient e (absent c q) = stopped Refusal.not_there (when.no_quotient e c) (rw e q)
      by-quotient e (nought c q) = stopped Refusal.no_dimension (when.quotient_zero e c) (rw e q)
      by-quotient e (found d q) = fine d (rw e q)

      by : (n : ℕ) → rule_no r.kind ≡ n → n ≤ 7 → Way (SourceRefused g ts r) (source_dim g ts r)
      by zero e l = stopped Refusal.no_rule (when.no_rule e) (rw e)
      by (suc zero) e l = written_or e (eqb (get_or ts r.id 0) 0) refl
      by (suc (suc zero)) e l = zero_or r.dim (rw e) (when.own_zero e) (eqb r.dim 0) refl
      by (suc (suc (suc zero))) e l = by-column e (through-way g.record_dims g.cm2ns r.id)
      by (suc (suc (suc (suc zero)))) e l = by-quotient e (through-way g.record_dims g.qs r.id)
      by (suc (suc (suc (suc (suc zero))))) e l = fine 1 (rw e)
      by (suc (suc (suc (suc (suc (suc zero)))))) e l = fine 3 (rw e)
      by (suc (suc (suc (suc (suc (suc (suc zero))))))) e l = zero_or g.dim_x (rw e) (when.x_zero e) (eqb g.dim_x 0) refl
      by (suc (suc (suc (suc (suc (suc (suc (suc n)))))))) e l = absurd (omega arith)

  no_record : (dims numbers : List ℕ) → NotThere dims numbers r.id → through dims numbers r.id ≡ refused Refusal.not_there none
  unfolding through
  no_record dims numbers (inl h) = rw (le-ltb r.id (length numbers) h)
  no_record dims numbers (inr h) = rw (lt-ltb r.id (length numbers) h.0, le-ltb (get_or numbers r.id 0) (length dims) h.1)

  no-dimension : (dims numbers : List ℕ) → Zero dims numbers r.id → through dims numbers r.id ≡ refused Refusal.no_dimension none
  unfolding through
  no-dimension dims numbers h = rw (lt-ltb r.id (length numbers) h.0, lt-ltb (get_or numbers r.id 0) (length dims) h.1, h.2)

  pub source-refuses : (w : Refusal) → SourceRefused g ts r w → source_dim g ts r ≡ refused w none
  unfolding source_dim
  source-refuses _ (when.no_rule e) = rw e
  source-refuses _ (when.not_written e z) = rw (e, z)
  source-refuses _ (when.no_column e c) = rw e (no_record g.record_dims g.cm2ns c)
  source-refuses _ (when.no_quotient e c) = rw e (no_record g.record_dims g.qs c)
  source-refuses _ (when.own_zero e z) = rw (e, z)
  source-refuses _ (when.x_zero e z) = rw (e, z)
  source-refuses _ (when.column_zero e c) = rw e (no-dimension g.record_dims g.cm2ns c)
  source-refuses _ (when.quotient_zero e c) = rw e (no-dimension g.record_dims g.qs c)

-- ---- the sources of a step

module _ (g : Given) (ts : List ℕ) where
  pub sources-way : (rs : List Reference) → Way (λ w. SourcesRefused g ts w rs) (source_dims g ts rs)
  unfolding source_dims
  sources-way [] = fine [] refl
  sources-way (r ∷ rs) = by (source-way g ts r) (sources-way rs)
    where
      by : Way (SourceRefused g ts r) (source_dim g ts r) → Way (λ w. SourcesRefused g ts w rs) (source_dims g ts rs) → Way (λ w. SourcesRefused g ts w (r ∷ rs)) (source_dims g ts (r ∷ rs))
      by (stopped w c e) rest = stopped w (SourcesRefused.this c) (rw e)
      by (fine d e) (stopped w c q) = stopped w (SourcesRefused.next d e c) (rw (e, q))
      by (fine d e) (fine ds q) = fine (d ∷ ds) (rw (e, q))

  pub sources-refuse : (w : Refusal) (rs : List Reference) → SourcesRefused g ts w rs → source_dims g ts rs ≡ refused w none
  unfolding source_dims
  sources-refuse w [] x' = elim x' [ ]
  sources-refuse w (r ∷ rs) (SourcesRefused.this c) = rw (source-refuses g ts r w c)
  sources-refuse w (r ∷ rs) (SourcesRefused.next d e c) = rw (e, sources-refuse w rs c)

  -- ---- a step

  pub step-way : (s : Step) → Way (StepRefused g ts s) (step_with g ts s)
  unfolding step_with
  step-way s = by (unruled s) refl (sources-way (up_to (sources_needed s.op) (sources_in s))) (is_destination s.dest.kind) refl
    where
      by : (t : Bool) → unruled s ≡ t
          → Way (λ w. SourcesRefused g ts w (up_to (sources_needed s.op) (sources_in s))) (source_dims g ts (up_to (sources_needed s.op) (sources_in s)))
          → (d : Bool) → is_destination s.dest.kind ≡ d → Way (StepRefused g ts s) (step_with g ts s)
      by true e way d q = stopped Refusal.no_rule (when.no_step e) (rw e)
      by false e (stopped w c z) d q = stopped w (when.a_source e c) (rw (e, z))
      by false e (fine ds z) false q = stopped Refusal.no_rule (when.no_destination e ds z q) (rw (e, z, q))
      by false e (fine ds z) true q = fine (sized_step s ds) (rw (e, z, q))

  pub step-refuses : (s : Step) (w : Refusal) → StepRefused g ts s w → step_with g ts s ≡ refused w none
  unfolding step_with
  step-refuses s _ (when.no_step e) = rw e
  step-refuses s w (when.a_source e c) = rw (e, sources-refuse w (up_to (sources_needed s.op) (sources_in s)) c)
  step-refuses s _ (when.no_destination e ds z q) = rw (e, z, q)

-- ---- the steps of a segment

module _ (g : Given) where
  pub steps-way : (ts : List ℕ) (ss : List Step) → Way (λ w. StepsRefused g w ts ss) (passed g ts ss)
  unfolding passed
  steps-way ts [] = fine (record { records = []; temporaries = ts }) refl
  steps-way ts (s ∷ ss) = by (step-way g ts s) (λ s'. steps-way (noted ts s') ss)
    where
      last : (s' : Step) → step_with g ts s ≡ done s' → Way (λ w. StepsRefused g w (noted ts s') ss) (passed g (noted ts s') ss) → Way (λ w. StepsRefused g w ts (s ∷ ss)) (passed g ts (s ∷ ss))
      last s' e (stopped w c q) = stopped w (StepsRefused.next s' e c) (rw (e, q))
      last s' e (fine p q) = fine (record { records = s' ∷ p.records; temporaries = p.temporaries }) (rw (e, q))

      by : Way (StepRefused g ts s) (step_with g ts s) → ((s' : Step) → Way (λ w. StepsRefused g w (noted ts s') ss) (passed g (noted ts s') ss)) → Way (λ w. StepsRefused g w ts (s ∷ ss)) (passed g ts (s ∷ ss))
      by (stopped w c e) rest = stopped w (StepsRefused.this c) (rw e)
      by (fine s' e) rest = last s' e (rest s')

  pub steps-refuse : (w : Refusal) (ts : List ℕ) (ss : List Step) → StepsRefused g w ts ss → passed g ts ss ≡ refused w none
  unfolding passed
  steps-refuse w ts [] x' = elim x' [ ]
  steps-refuse w ts (s ∷ ss) (StepsRefused.this c) = rw (step-refuses g ts s w c)
  steps-refuse w ts (s ∷ ss) (StepsRefused.next s' e c) = rw (e, steps-refuse w (noted ts s') ss c)

  -- ---- the lists of a segment are refused as their records, one after the other

  abbrev joins : Passed → Answer Passed → Answer Passed
  joins p Q = Q then λ q. done (record { records = p.records ++ q.records; temporaries = q.temporaries })

  abbrev led : Step → Passed → Answer Passed
  led s p = done (record { records = s ∷ p.records; temporaries = p.temporaries })

  passed-append : (ts : List ℕ) (xs ys : List Step) → passed g ts (xs ++ ys) ≡ (passed g ts xs then λ p. joins p (passed g p.temporaries ys))
  unfolding passed
  passed-append ts [] ys = none_before (passed g ts ys)
    where
      none_before : (Q : Answer Passed) → Q ≡ joins (record { records = []; temporaries = ts }) Q
      none_before (done q) = refl
      none_before (refused w n) = refl
  passed-append ts (x ∷ xs) ys = by (step_with g ts x) (λ s. passed-append (noted ts s) xs ys)
    where
      last : (s : Step) (p : Passed) (Q : Answer Passed) → (joins p Q then led s) ≡ joins (record { records = s ∷ p.records; temporaries = p.temporaries }) Q
      last s p (done q) = refl
      last s p (refused w n) = refl

      front : (s : Step) (P : Answer Passed) → ((P then λ p. joins p (passed g p.temporaries ys)) then led s) ≡ ((P then led s) then λ p. joins p (passed g p.temporaries ys))
      front s (done p) = last s p (passed g p.temporaries ys)
      front s (refused w n) = refl

      by : (A : Answer Step) → ((s : Step) → passed g (noted ts s) (xs ++ ys) ≡ (passed g (noted ts s) xs then λ p. joins p (passed g p.temporaries ys)))
          → (A then λ s. passed g (noted ts s) (xs ++ ys) then led s) ≡ ((A then λ s. passed g (noted ts s) xs then led s) then λ p. joins p (passed g p.temporaries ys))
      by (done s) ih = rw (ih s) (front s (passed g (noted ts s) xs))
      by (refused w n) ih = refl

  pub lists_as_one : (ts : List ℕ) (ls : List (List ℕ)) → refusal_of (passed_lists g ts ls) ≡ refusal_of (passed g ts (all_records ls))
  unfolding passed_lists passed all_records
  lists_as_one ts [] = refl
  lists_as_one ts (l ∷ ls) = rw (passed-append ts (records_in l) (all_records ls)) (by (passed g ts (records_in l)) (λ us. lists_as_one us ls))
    where
      last : (p : Passed) (L : Answer (List (List ℕ))) (Q : Answer Passed) → refusal_of L ≡ refusal_of Q → refusal_of (L then λ ls'. done (steps_bytes p.records ∷ ls')) ≡ refusal_of (joins p Q)
      last p (done x) (done q) e = refl
      last p (done x) (refused w n) e = e
      last p (refused v m) (done q) e = e
      last p (refused v m) (refused w n) e = e

      by : (P : Answer Passed) → ((us : List ℕ) → refusal_of (passed_lists g us ls) ≡ refusal_of (passed g us (all_records ls)))
          → refusal_of (P then λ p. passed_lists g p.temporaries ls then λ ls'. done (steps_bytes p.records ∷ ls')) ≡ refusal_of (P then λ p. joins p (passed g p.temporaries (all_records ls)))
      by (done p) ih = last p (passed_lists g p.temporaries ls) (passed g p.temporaries (all_records ls)) (ih p.temporaries)
      by (refused w n) ih = refl
