-- THE RECORDS THAT FIXING LEAVES SAY THE STEPS THAT FIXING GIVES: what fix_prover_code accepts says steps, and its lists after it say those of fix_segment.
-- Assumes nothing.
use Rattle.std.specs.Prelude.{ℕ, ◌%◌, ◌≤◌, Bool, not, cond, ◌&&◌, ◌||◌, length, T, leb, ltb}
use Rattle.std.proofs.Math.Path.{◌≡◌, refl, ap}
use Rattle.std.proofs.Common.{sym, ◌∙◌, arith}
use Rattle.std.proofs.Math.Bool.{true, false}
use Rattle.std.proofs.Math.Option.{Option, none, some}
use mathlib.Core.List.{List, [], ◌∷◌, ◌++◌}
use Rattle.std.proofs.Math.Dec.{eqb}
use borrow.Author.Tests.{eqb-true, leb-true}
use Rattle.kinds.specs.KindBytes as kind
use Rattle.kinds.specs.OpBytes as op
use Rattle.kinds.specs.StepOps.{is_step}
use Rattle.kinds.specs.Kinds.{is_reference, is_leaf}
use Rattle.kinds.specs.Range.{within, within-true, pass}
use Rattle.kinds.specs.Steps.{step_size}
use Rattle.kinds.specs.declared.reference.Reference.{Reference}
use Rattle.kinds.specs.declared.step.Step as bytes
use Rattle.meaning.specs.Trees.{Lit, Each}
use Rattle.meaning.specs.Values.{bind}
use Rattle.meaning.specs.Steps.{Kind, Cell, Ref, StepOp, Step, step}
use Rattle.meaning.specs.Building.{Segment}
use Rattle.meaning.proofs.Laws.Tests.{true-false, and_left, and_right}
use Rattle.fixed_meaning.specs.Fixing.{fix_segment}
use Rattle.lent_lists.specs.Verdicts.{Verdict, fine, malformed, no_rule, full, verdict_no, first_of, only}
use Rattle.lent_lists.specs.Laws.Records.{record-used}
use Rattle.lists.specs.Records.{records_in, counted_in, good_reference, good_record, good_records, good_list}
use Rattle.lent_lists.specs.Records.{runs, good_used, good_lists}
use Rattle.lent_lists.specs.Walks.{walked, record_verdict}
use Rattle.fixing.specs.ProverCode.{ruled_reference, plan_of, last_counter, decided, temporaries, prover_verdict, list_after}
use Rattle.lists.specs.Decoding.{kind_from, op_from, ref_from, refs_from, step_from, steps_from}
use Rattle.lent_lists.specs.Laws.Walks.{ruled-append}
use Rattle.lent_lists.specs.Exactly.{both_fine}
use Rattle.fixing.specs.Laws.Joined.{reference-range, counted-good, fixed-records-say, list-fixed}

first-is-fine : (v w : Verdict) → first_of v w ≡ fine → v ≡ fine
first-is-fine v w h = (both_fine v w h).0

second-is-fine : (v w : Verdict) → first_of v w ≡ fine → w ≡ fine
second-is-fine v w h = (both_fine v w h).1

-- what is not refused is well formed
pub accepted-good : (rules cms : List ℕ) (counter : ℕ) (first i last : List ℕ) → prover_verdict rules cms counter first i last ≡ fine → good_lists first i last ≡ true
unfolding prover_verdict decided
accepted-good rules cms counter first i last h = go (leb counter last_counter && good_lists first i last) refl (first-is-fine _ _ (first-is-fine _ _ h))
  where
    go : (b : Bool) → (leb counter last_counter && good_lists first i last) ≡ b → only b malformed ≡ fine → good_lists first i last ≡ true
    go true e q = and_right (leb counter last_counter) (good_lists first i last) e
    go false e q = absurd (let y : ◌≡◌ {A = ℕ} 1 0 = ap verdict_no q in omega arith)

records-good : (l : List ℕ) → good_list l ≡ true → good_records (records_in l) ≡ true
unfolding good_list
records-good l h = and_right (eqb (length l % step_size) 0) (good_records (records_in l)) h

three-good : (first i last : List ℕ) → good_lists first i last ≡ true → (good_list first && (good_list i && good_list last)) ≡ true
unfolding good_lists
three-good first i last h = h

accepted-ruled :
    (rules cms : List ℕ) (counter : ℕ) (first i last : List ℕ) → prover_verdict rules cms counter first i last ≡ fine →
    walked (record_verdict (ruled_reference cms)) (records_in first ++ (records_in i ++ records_in last)) ≡ fine
unfolding prover_verdict decided
accepted-ruled rules cms counter first i last h =
    second-is-fine (only (leb counter last_counter && good_lists first i last) malformed) _
    (first-is-fine (decided cms counter first i last) (only (leb (temporaries rules counter first i last).next last_counter) full) h)

-- ---- what is not refused says steps

-- each byte of a reference but number's is a kind's, and each byte of a step is a step's
is_some : {A : Type 0} → Option A → Bool
is_some none = false
is_some (some a) = true

some_of : {A : Type 0} (o : Option A) → is_some o ≡ true → (a : A) × (o ≡ some a)
unfolding is_some
some_of none h = absurd (true-false h refl)
some_of (some a) h = (a, refl)

kind-known : (b : ℕ) → is_reference b ≡ true → eqb b kind.number ≡ false → (k : Kind) × (kind_from b ≡ some k)
unfolding is_reference is_leaf within kind_from is_some
kind-known b h n =
    some_of (kind_from b)
    (go (is_reference b) h (eqb b kind.number) n (is_some (kind_from b))
    (pass (λ j. not (is_reference j) || (eqb j kind.number || is_some (kind_from j))) 41 0 tt b (omega (arith, reference-range b h))))
  where
    go : (s : Bool) → s ≡ true → (t : Bool) → t ≡ false → (u : Bool) → T (not s || (t || u)) → u ≡ true
    go true p t q true w = refl
    go true p true q false w = absurd (true-false refl q)
    go true p false q false w = absurd w
    go false p t q u w = absurd (true-false p refl)

op-range : (o : ℕ) → is_step o ≡ true → o ≤ op.copy
unfolding is_step
op-range o h = go (eqb o op.copy) refl (within op.add op.muladd o) refl h
  where
    go : (s : Bool) → eqb o op.copy ≡ s → (t : Bool) → within op.add op.muladd o ≡ t → (s || t) ≡ true → o ≤ op.copy
    go true e t f q = let w = eqb-true o op.copy e in omega arith
    go false e true f q = let w = within-true op.add op.muladd o f in omega (arith, w.1)
    go false e false f q = absurd (true-false q refl)

op-known : (o : ℕ) → is_step o ≡ true → (p : StepOp) × (op_from o ≡ some p)
unfolding is_step within op_from is_some
op-known o h =
    some_of (op_from o)
    (go (is_step o) h (is_some (op_from o)) (pass (λ j. not (is_step j) || is_some (op_from j)) 9 0 tt o (omega (arith, op-range o h))))
  where
    go : (s : Bool) → s ≡ true → (u : Bool) → T (not s || u) → u ≡ true
    go true p true w = refl
    go true p false w = absurd w
    go false p u w = absurd (true-false p refl)

module _ (literal : ℕ → Lit) where
  ref-says : (r : Reference) → good_reference r ≡ true → (x : Ref) × (ref_from literal r ≡ some x)
  unfolding good_reference ref_from
  ref-says r g = go (eqb r.kind kind.number) refl
    where
      go : (b : Bool) → eqb r.kind kind.number ≡ b →
          (x : Ref) × (cond b (some (Ref.number (literal r.extra) r.extra)) (bind (kind_from r.kind) (λ k. some (Ref.var (Cell.cell k r.id r.prime)))) ≡ some x)
      go true e = (Ref.number (literal r.extra) r.extra, refl)
      go false e =
          let k = kind-known r.kind (and_left (is_reference r.kind) (leb r.prime 1) g) e in
          (Ref.var (Cell.cell k.0 r.id r.prime), rw k.1)

  refs-say : (rs : List Reference) → Each (λ r. good_reference r ≡ true) rs → (xs : List Ref) × (refs_from literal rs ≡ some xs)
  unfolding refs_from
  refs-say [] g = ([], refl)
  refs-say (r ∷ rs) g =
      let x = ref-says r g.0 in
      let xs = refs-say rs g.1 in
      (x.0 ∷ xs.0, rw (x.1, xs.1))

  step-says : (x : bytes.Step) → good_record x ≡ true → runs x ≡ true → (y : Step) × (step_from literal x ≡ some y)
  unfolding runs step_from
  step-says x good h =
      let g = record-used x good in
      let few : x.count ≤ 3 = leb-true x.count 3 (and_left (leb x.count 3) _ g) in
      let g1 = and_right (leb x.count 3) _ g in
      let g2 = and_right (good_reference x.dest) _ g1 in
      let g3 = and_right (good_used (ltb 0 x.count) x.s0) _ g2 in
      let gs = counted-good literal [] [] x.count few x.s0 x.s1 x.s2 (and_left (good_used (ltb 0 x.count) x.s0) _ g2)
      (and_left (good_used (ltb 1 x.count) x.s1) (good_used (ltb 2 x.count) x.s2) g3) (and_right (good_used (ltb 1 x.count) x.s1) (good_used (ltb 2 x.count) x.s2) g3) in
      let o = op-known x.op (and_left (is_step x.op) _ h) in
      let d = ref-says x.dest (and_left (good_reference x.dest) _ g1) in
      let rs = refs-say (counted_in x) gs in
      (step o.0 d.0 rs.0, rw (o.1, d.1, rs.1))

  steps-say : (g : Reference → Verdict) (xs : List bytes.Step) → good_records xs ≡ true → walked (record_verdict g) xs ≡ fine → (ys : List Step) × (steps_from literal xs ≡ some ys)
  unfolding good_records walked record_verdict steps_from
  steps-say g [] h k = ([], refl)
  steps-say g (x ∷ xs) h k =
      let y = step-says x (and_left (good_record x) (good_records xs) h) (runs_so (runs x) (first-is-fine (only (runs x) no_rule) _ (first-is-fine (record_verdict g x) (walked (record_verdict g) xs) k))) in
      let ys = steps-say g xs (and_right (good_record x) (good_records xs) h) (second-is-fine (record_verdict g x) (walked (record_verdict g) xs) k) in
      (y.0 ∷ ys.0, rw (y.1, ys.1))
    where
      runs_so : (b : Bool) → only b no_rule ≡ fine → b ≡ true
      runs_so true q = refl
      runs_so false q = absurd (let y : ◌≡◌ {A = ℕ} 10 0 = ap verdict_no q in omega arith)

  -- the lists that a segment is accepted with say the steps of a segment
  pub record SaysSegment (counter : ℕ) (first i last : List ℕ) : Type 0 where
    pub segment : Segment
    pub counter_is : segment.counter ≡ counter
    pub first_says : steps_from literal (records_in first) ≡ some segment.first
    pub i_says : steps_from literal (records_in i) ≡ some segment.i
    pub last_says : steps_from literal (records_in last) ≡ some segment.last

  -- WHAT IS ACCEPTED SAYS STEPS
  pub accepted-says : (rules cms : List ℕ) (counter : ℕ) (first i last : List ℕ) → prover_verdict rules cms counter first i last ≡ fine → SaysSegment counter first i last
  accepted-says rules cms counter first i last h =
      let g : (good_list first && (good_list i && good_list last)) ≡ true = three-good first i last (accepted-good rules cms counter first i last h) in
      let w = accepted-ruled rules cms counter first i last h in
      let f = record_verdict (ruled_reference cms) in
      let e : first_of (walked f (records_in first)) (walked f (records_in i ++ records_in last)) ≡ fine = sym (ruled-append f (records_in first) (records_in i ++ records_in last)) ∙ w in
      let e₂ : first_of (walked f (records_in i)) (walked f (records_in last)) ≡ fine = sym (ruled-append f (records_in i) (records_in last)) ∙ second-is-fine (walked f (records_in first)) (walked f (records_in i ++ records_in last)) e in
      let a = steps-say (ruled_reference cms) (records_in first) (records-good first (and_left (good_list first) _ g)) (first-is-fine _ _ e) in
      let b = steps-say (ruled_reference cms) (records_in i) (records-good i (and_left (good_list i) (good_list last) (and_right (good_list first) _ g))) (first-is-fine _ _ e₂) in
      let c = steps-say (ruled_reference cms) (records_in last) (records-good last (and_right (good_list i) (good_list last) (and_right (good_list first) _ g))) (second-is-fine (walked f (records_in i)) (walked f (records_in last)) e₂) in
      record { segment = record { first = a.0; i = b.0; last = c.0; counter = counter }; counter_is = refl; first_says = a.1; i_says = b.1; last_says = c.1 }

-- THE LISTS AFTER fix_prover_code SAY THE STEPS OF fix_segment, where it refuses nothing and the lists before it say those of a segment
pub record SaysFixed (literal : ℕ → Lit) (rules cms : List ℕ) (counter : ℕ) (first i last : List ℕ) (S : Segment) : Type 0 where
  pub first_says : steps_from literal (records_in (list_after rules cms counter first i last first)) ≡ some (fix_segment (plan_of rules) S).first
  pub i_says : steps_from literal (records_in (list_after rules cms counter first i last i)) ≡ some (fix_segment (plan_of rules) S).i
  pub last_says : steps_from literal (records_in (list_after rules cms counter first i last last)) ≡ some (fix_segment (plan_of rules) S).last
  pub counter_is : (temporaries rules counter first i last).next ≡ (fix_segment (plan_of rules) S).counter

pub says-fixed :
    (literal : ℕ → Lit) (rules cms : List ℕ) (counter : ℕ) (first i last : List ℕ) → prover_verdict rules cms counter first i last ≡ fine → (S : Segment) → S.counter ≡ counter →
    steps_from literal (records_in first) ≡ some S.first → steps_from literal (records_in i) ≡ some S.i → steps_from literal (records_in last) ≡ some S.last →
    SaysFixed literal rules cms counter first i last S
says-fixed literal rules cms counter first i last h S same ef ei el =
    let j = fixed-records-say literal rules cms counter first i last (accepted-good rules cms counter first i last h) S same ef ei el in
    record {
      first_says = ap (steps_from literal) (list-fixed rules cms counter first i last first h) ∙ j.first_says;
      i_says = ap (steps_from literal) (list-fixed rules cms counter first i last i h) ∙ j.i_says;
      last_says = ap (steps_from literal) (list-fixed rules cms counter first i last last h) ∙ j.last_says;
      counter_is = j.counter_is;
    }
