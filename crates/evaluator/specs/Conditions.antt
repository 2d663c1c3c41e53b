-- THE CONDITIONS OF 1 AND 10 IN FULL: which record is malformed, which values are, and at which step a run is refused. Each is equivalent to the test of the definition.
-- Assumes nothing.
use Rattle.std.specs.Prelude.{ℕ, zero, suc, ◌*◌, ◌%◌, ◌<◌, ◌≡◌, Bool, true, false, ◌&&◌, ◌⊎◌, ◌↔◌, length, eqb, leb}
use Rattle.std.proofs.Math.Path.{refl, subst}
use Rattle.std.proofs.Common.{sym, ◌∙◌, ap, inl, inr, arith, leb-false, ne_eqb}
use Rattle.std.proofs.Math.Option.{Option, none, some, none-ne-some}
use mathlib.Core.List.{List, [], ◌∷◌, ◌++◌}
use Rattle.std.proofs.lemmas.Bool.{lt-leb, eqb-false}
use Rattle.kinds.specs.Kinds.{is_reference}
use Rattle.kinds.specs.Steps.{step_size, step_at, steps_of, steps-none}
use Rattle.kinds.specs.declared.reference.Reference.{Reference}
use Rattle.kinds.specs.declared.step.Step as bytes
use Rattle.meaning.specs.Trees.{Lit}
use Rattle.meaning.specs.Values.{bind}
use Rattle.meaning.specs.Models.{modulo}
use Rattle.meaning.specs.Steps.{Step}
use Rattle.meaning.specs.Running.{Store, exec, run}
use Rattle.meaning.proofs.Laws.Tests.{bind-some}
use Rattle.evaluator_cells.specs.Given.{Lent, given, section_count, start_of, good_values}
use Rattle.evaluator_run.specs.Evaluation.{well_formed}
use Rattle.lists.specs.Records.{record_count, records_in, counted_in, good_reference, good_references, good_record, good_records, good_list}
use Rattle.lists.specs.Decoding.{step_from, steps_from}
use Rattle.lists.specs.Laws.{good_more, bad-later, false_right}

-- ── malformed ────────────────────────────────────────────────────────────────
-- an unknown kind, or a prime other than 0 and 1
abbrev pub BadReference : Reference → Type 0
BadReference r = (is_reference r.kind ≡ false) ⊎ (1 < r.prime)

abbrev pub Some : (Reference → Type 0) → List Reference → Type 0
Some P [] = ⊥
Some P (r ∷ rs) = P r ⊎ Some P rs

-- more than three sources, a bad destination, or a bad source among those that it counts
abbrev pub BadRecord : bytes.Step → Type 0
BadRecord x = (3 < x.count) ⊎ (BadReference x.dest ⊎ Some BadReference (counted_in x))

-- a record is cut short, or some record is bad
abbrev pub BadList : List ℕ → Type 0
BadList l = (length l % step_size ≡ 0 → ⊥) ⊎ ((k : ℕ) × (k < record_count l) × BadRecord (step_at l (step_size * k)))

and-false : (a b : Bool) → (a && b) ≡ false → (a ≡ false) ⊎ (b ≡ false)
and-false true b h = inr h
and-false false b h = inl refl

left_false : (a b : Bool) → a ≡ false → (a && b) ≡ false
left_false a b h = rw h

right-false : (a b : Bool) → b ≡ false → (a && b) ≡ false
right-false a b h = rw (h, false_right a)

bad-reference : (r : Reference) → (good_reference r ≡ false) ↔ BadReference r
unfolding good_reference
bad-reference r = (λ h. to (and-false (is_reference r.kind) (leb r.prime 1) h), back)
  where
    to : (is_reference r.kind ≡ false) ⊎ (leb r.prime 1 ≡ false) → BadReference r
    to (inl h) = inl h
    to (inr h) = inr (leb-false r.prime 1 h)

    back : BadReference r → (is_reference r.kind && leb r.prime 1) ≡ false
    back (inl h) = left_false (is_reference r.kind) (leb r.prime 1) h
    back (inr h) = right-false (is_reference r.kind) (leb r.prime 1) (lt-leb r.prime 1 h)

bad_references : (rs : List Reference) → (good_references rs ≡ false) ↔ Some BadReference rs
unfolding good_references
bad_references [] = ((λ h. absurd (let z : ◌≡◌ {A = ℕ} 0 1 = cc in omega arith)), λ h. absurd h)
bad_references (r ∷ rs) =
    ((λ h. to (bad_references rs).0 (and-false (good_reference r) (good_references rs) h)), λ h. back (bad_references rs).1 h)
  where
    to : (good_references rs ≡ false → Some BadReference rs) → (good_reference r ≡ false) ⊎ (good_references rs ≡ false) → Some BadReference (r ∷ rs)
    to ih (inl h) = inl ((bad-reference r).0 h)
    to ih (inr h) = inr (ih h)

    back : (Some BadReference rs → good_references rs ≡ false) → Some BadReference (r ∷ rs) → (good_reference r && good_references rs) ≡ false
    back ih (inl h) = left_false (good_reference r) (good_references rs) ((bad-reference r).1 h)
    back ih (inr h) = right-false (good_reference r) (good_references rs) (ih h)

pub bad-record : (x : bytes.Step) → (good_record x ≡ false) ↔ BadRecord x
unfolding good_record
bad-record x = ((λ h. to (and-false (leb x.count 3) (good_reference x.dest && good_references (counted_in x)) h)), back)
  where
    rest : (good_reference x.dest ≡ false) ⊎ (good_references (counted_in x) ≡ false) → BadRecord x
    rest (inl h) = inr (inl ((bad-reference x.dest).0 h))
    rest (inr h) = inr (inr ((bad_references (counted_in x)).0 h))

    to : (leb x.count 3 ≡ false) ⊎ ((good_reference x.dest && good_references (counted_in x)) ≡ false) → BadRecord x
    to (inl h) = inl (leb-false x.count 3 h)
    to (inr h) = rest (and-false (good_reference x.dest) (good_references (counted_in x)) h)

    back : BadRecord x → (leb x.count 3 && (good_reference x.dest && good_references (counted_in x))) ≡ false
    back (inl h) = left_false (leb x.count 3) _ (lt-leb x.count 3 h)
    back (inr (inl h)) = right-false (leb x.count 3) _ (left_false (good_reference x.dest) (good_references (counted_in x)) ((bad-reference x.dest).1 h))
    back (inr (inr h)) = right-false (leb x.count 3) _ (right-false (good_reference x.dest) (good_references (counted_in x)) ((bad_references (counted_in x)).1 h))

some-bad : (l : List ℕ) (n : ℕ) → good_records (steps_of l n) ≡ false → (k : ℕ) × (k < n) × (good_record (step_at l (step_size * k)) ≡ false)
unfolding good_records
some-bad l zero h = absurd (let z : true ≡ false = rw (steps-none l) at h in let y : ◌≡◌ {A = ℕ} 0 1 = cc in omega arith)
some-bad l (suc n) h = by (some-bad l n) (and-false (good_records (steps_of l n)) (good_record (step_at l (step_size * n))) (sym (good_more l n) ∙ h))
  where
    by :
        (good_records (steps_of l n) ≡ false → (k : ℕ) × (k < n) × (good_record (step_at l (step_size * k)) ≡ false))
        → (good_records (steps_of l n) ≡ false) ⊎ (good_record (step_at l (step_size * n)) ≡ false) → (k : ℕ) × (k < suc n) × (good_record (step_at l (step_size * k)) ≡ false)
    by ih (inl h) = let w = ih h in (w.0, omega (arith, w.1), w.2)
    by ih (inr h) = (n, omega arith, h)

-- MALFORMED, exactly when
pub bad-list : (l : List ℕ) → (good_list l ≡ false) ↔ BadList l
unfolding good_list
bad-list l = ((λ h. to (and-false (eqb (length l % step_size) 0) (good_records (records_in l)) h)), back)
  where
    to : (eqb (length l % step_size) 0 ≡ false) ⊎ (good_records (records_in l) ≡ false) → BadList l
    to (inl h) = inl (eqb-false (length l % step_size) 0 h)
    to (inr h) = let w = some-bad l (record_count l) h in inr (w.0, w.1, (bad-record (step_at l (step_size * w.0))).0 w.2)

    back : BadList l → (eqb (length l % step_size) 0 && good_records (records_in l)) ≡ false
    back (inl h) = left_false (eqb (length l % step_size) 0) (good_records (records_in l)) (ne_eqb (length l % step_size) 0 h)
    back (inr w) =
        let x = step_at l (step_size * w.0) in
        right-false (eqb (length l % step_size) 0) (good_records (records_in l))
        (bad-later l w.0 x refl false (sym ((bad-record x).1 w.2)) (record_count l) w.1 ((bad-record x).1 w.2))

-- the header is cut short, or the sections do not end where the words do
abbrev pub BadValues : List ℕ → Type 0
BadValues ws = (length ws < section_count) ⊎ (start_of ws section_count ≡ length ws → ⊥)

pub bad-values : (ws : List ℕ) → (good_values ws ≡ false) ↔ BadValues ws
unfolding good_values
bad-values ws = ((λ h. to (and-false (leb section_count (length ws)) (eqb (start_of ws section_count) (length ws)) h)), back)
  where
    to : (leb section_count (length ws) ≡ false) ⊎ (eqb (start_of ws section_count) (length ws) ≡ false) → BadValues ws
    to (inl h) = inl (leb-false section_count (length ws) h)
    to (inr h) = inr (eqb-false (start_of ws section_count) (length ws) h)

    back : BadValues ws → (leb section_count (length ws) && eqb (start_of ws section_count) (length ws)) ≡ false
    back (inl h) = left_false (leb section_count (length ws)) (eqb (start_of ws section_count) (length ws)) (lt-leb section_count (length ws) h)
    back (inr h) = right-false (leb section_count (length ws)) (eqb (start_of ws section_count) (length ws)) (ne_eqb (start_of ws section_count) (length ws) h)

-- ILL FORMED, exactly when: a modulus below 2, a bad list, or bad values
pub ill-formed : (ws : List ℕ) (m : ℕ) (l : List ℕ) → (well_formed ws m l ≡ false) ↔ ((m < 2) ⊎ (BadList l ⊎ BadValues ws))
unfolding well_formed
ill-formed ws m l = ((λ h. to (and-false (leb 2 m) (good_list l && good_values ws) h)), back)
  where
    rest : (good_list l ≡ false) ⊎ (good_values ws ≡ false) → (m < 2) ⊎ (BadList l ⊎ BadValues ws)
    rest (inl h) = inr (inl ((bad-list l).0 h))
    rest (inr h) = inr (inr ((bad-values ws).0 h))

    to : (leb 2 m ≡ false) ⊎ ((good_list l && good_values ws) ≡ false) → (m < 2) ⊎ (BadList l ⊎ BadValues ws)
    to (inl h) = inl (leb-false 2 m h)
    to (inr h) = rest (and-false (good_list l) (good_values ws) h)

    back : (m < 2) ⊎ (BadList l ⊎ BadValues ws) → (leb 2 m && (good_list l && good_values ws)) ≡ false
    back (inl h) = left_false (leb 2 m) (good_list l && good_values ws) (lt-leb 2 m h)
    back (inr (inl h)) = right-false (leb 2 m) (good_list l && good_values ws) (left_false (good_list l) (good_values ws) ((bad-list l).1 h))
    back (inr (inr h)) = right-false (leb 2 m) (good_list l && good_values ws) (right-false (good_list l) (good_values ws) ((bad-values ws).1 h))

-- ── refused ──────────────────────────────────────────────────────────────────
module _ (L : ℕ → Lit) (g : Lent) (m : ℕ) where
  -- the records before one say steps that run from s, and that one is refused there: no such step, or meaning's running has no rule for it
  pub record StopsAt (rs : List bytes.Step) (s : Store ℕ) : Type 0 where
    pub before : List bytes.Step
    pub here : bytes.Step
    pub later : List bytes.Step
    pub split : rs ≡ before ++ (here ∷ later)
    pub steps : List Step
    pub say : steps_from L before ≡ some steps
    pub reached : Store ℕ
    pub runs : run (modulo m) (given m g) steps s ≡ some reached
    pub refused : bind (step_from L here) (λ x. exec (modulo m) (given m g) x reached) ≡ none

  abbrev Ran : List bytes.Step → Store ℕ → Option (Store ℕ)
  Ran rs s = bind (steps_from L rs) (λ xs. run (modulo m) (given m g) xs s)

  -- a record, then the others
  ran-more :
      (x : bytes.Step) (rs : List bytes.Step) (s : Store ℕ) (st : Step) → step_from L x ≡ some st → (s₁ : Store ℕ)
      → exec (modulo m) (given m g) st s ≡ some s₁ → Ran (x ∷ rs) s ≡ Ran rs s₁
  unfolding steps_from
  ran-more x rs s st e s₁ f = rw e (by (steps_from L rs))
    where
      by : (l : Option (List Step)) → bind (bind l (λ ss. some (st ∷ ss))) (λ xs. run (modulo m) (given m g) xs s) ≡ bind l (λ xs. run (modulo m) (given m g) xs s₁)
      by none = refl
      by (some ss) = rw f

  ran-not : (x : bytes.Step) (rs : List bytes.Step) (s : Store ℕ) → bind (step_from L x) (λ st. exec (modulo m) (given m g) st s) ≡ none → Ran (x ∷ rs) s ≡ none
  unfolding steps_from
  ran-not x rs s h = by (step_from L x) h
    where
      by :
          (o : Option Step) → bind o (λ st. exec (modulo m) (given m g) st s) ≡ none
          → bind (bind o (λ st. bind (steps_from L rs) (λ ss. some (st ∷ ss)))) (λ xs. run (modulo m) (given m g) xs s) ≡ none
      by none h = refl
      by (some st) h = rest (steps_from L rs)
        where
          rest : (l : Option (List Step)) → bind (bind l (λ ss. some (st ∷ ss))) (λ xs. run (modulo m) (given m g) xs s) ≡ none
          rest none = refl
          rest (some ss) = rw h refl

  say-more :
      (x : bytes.Step) (rs : List bytes.Step) (st : Step) (ss : List Step) → step_from L x ≡ some st → steps_from L rs ≡ some ss
      → steps_from L (x ∷ rs) ≡ some (st ∷ ss)
  unfolding steps_from
  say-more x rs st ss e f = rw (e, f)

  run_more :
      (st : Step) (ss : List Step) (s s₁ z : Store ℕ) → exec (modulo m) (given m g) st s ≡ some s₁ → run (modulo m) (given m g) ss s₁ ≡ some z
      → run (modulo m) (given m g) (st ∷ ss) s ≡ some z
  run_more st ss s s₁ z e f = rw e f

  stops : (rs : List bytes.Step) (s : Store ℕ) → Ran rs s ≡ none → StopsAt rs s
  unfolding steps_from
  stops [] s h = absurd (none-ne-some s (sym h))
  stops (x ∷ rs) s h = by (step_from L x) refl (stops rs)
    where
      here : bind (step_from L x) (λ st. exec (modulo m) (given m g) st s) ≡ none → StopsAt (x ∷ rs) s
      here q = record { before = []; here = x; later = rs; split = refl; steps = []; say = refl; reached = s; runs = refl; refused = q }

      on : (st : Step) → step_from L x ≡ some st → ((s₁ : Store ℕ) → Ran rs s₁ ≡ none → StopsAt rs s₁) → (o : Option (Store ℕ)) → exec (modulo m) (given m g) st s ≡ o → StopsAt (x ∷ rs) s
      on st e ih none f = here (rw e f)
      on st e ih (some s₁) f =
          let w = ih s₁ (sym (ran-more x rs s st e s₁ f) ∙ h) in
          record {
            before = x ∷ w.before;
            here = w.here;
            later = w.later;
            split = ap (λ (l : List bytes.Step). x ∷ l) w.split;
            steps = st ∷ w.steps;
            say = say-more x w.before st w.steps e w.say;
            reached = w.reached;
            runs = run_more st w.steps s s₁ w.reached f w.runs;
            refused = w.refused;
          }

      by : (o : Option Step) → step_from L x ≡ o → ((s₁ : Store ℕ) → Ran rs s₁ ≡ none → StopsAt rs s₁) → StopsAt (x ∷ rs) s
      by none e ih = here (rw e refl)
      by (some st) e ih = on st e ih (exec (modulo m) (given m g) st s) refl

  stopped :
      (before : List bytes.Step) (x : bytes.Step) (later : List bytes.Step) (xs : List Step) (s z : Store ℕ) → steps_from L before ≡ some xs
      → run (modulo m) (given m g) xs s ≡ some z → bind (step_from L x) (λ st. exec (modulo m) (given m g) st z) ≡ none → Ran (before ++ (x ∷ later)) s ≡ none
  unfolding steps_from
  stopped [] x later xs s z e f h =
      let q : [] ≡ xs = cc in
      let k : some s ≡ some z = subst (λ (l : List Step). run (modulo m) (given m g) l s ≡ some z) (sym q) f in
      let w : s ≡ z = cc in
      ran-not x later s (subst (λ (u : Store ℕ). bind (step_from L x) (λ st. exec (modulo m) (given m g) st u) ≡ none) (sym w) h)
  stopped (y ∷ before) x later xs s z e f h =
      let a = bind-some (step_from L y) _ e in
      let b = bind-some (steps_from L before) _ a.2 in
      let q : a.0 ∷ b.0 ≡ xs = cc in
      let k : run (modulo m) (given m g) (a.0 ∷ b.0) s ≡ some z = subst (λ (l : List Step). run (modulo m) (given m g) l s ≡ some z) (sym q) f in
      let c = bind-some (exec (modulo m) (given m g) a.0 s) _ k in
      ran-more y (before ++ (x ∷ later)) s a.0 a.1 c.0 c.1 ∙ stopped before x later b.0 c.0 z b.1 c.2 h

  -- REFUSED, exactly when
  pub refused-at : (rs : List bytes.Step) (s : Store ℕ) → (bind (steps_from L rs) (λ xs. run (modulo m) (given m g) xs s) ≡ none) ↔ StopsAt rs s
  refused-at rs s = (stops rs s, λ w. subst (λ (l : List bytes.Step). Ran l s ≡ none) (sym w.split) (stopped w.before w.here w.later w.steps s w.reached w.say w.runs w.refused))
