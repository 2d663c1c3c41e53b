-- A pass over a list, one record more: the definition at a front of the list, and what the code holds there.
-- Assumes nothing.
use Rattle.std.specs.Prelude.{ℕ, zero, suc, ◌+◌, ◌*◌, ◌≤◌, ◌<◌, ◌≡◌, ◌⊎◌, length, Some, Result, Ok, Err}
use Rattle.std.proofs.Math.Path.{refl}
use Rattle.std.proofs.Common.{sym, ◌∙◌, ap, inl, inr, eq-or-lt_of_le, add-one, arith, length-append}
use Rattle.std.proofs.Math.Option.{Option, none}
use mathlib.Core.List.{List, [], ◌∷◌, ◌++◌}
use Rattle.kinds.specs.Write.{write, write-none, write-next}
use Rattle.kinds.specs.Steps.{step_size, step_at, step_bytes, steps_of, steps_bytes, step_kept, steps-none, steps-more, steps-bytes-none, steps-bytes-one, steps-bytes-length, steps-bytes-append}
use Rattle.kinds.specs.declared.step.Step.{Step}
use Rattle.meaning.specs.Refusals.{Refusal, Answer, done, refused, ◌then◌}
use Rattle.lists.specs.Records.{record_count, records_in}
use Rattle.lists.specs.Laws.{record_in}
use Rattle.step_dimensions.specs.StepDimensions.{Given, step_with, noted}
use Rattle.dimensions.specs.Dimensions.{Passed, passed}
use Rattle.kinds.specs.Answers as code
use Rattle.kinds.specs.declared.refusal.Refusal as codes
use Rattle.step_dimensions.specs.Known.{noted_at, StepDimIs, WritesDims}
use Rattle.step_dimensions.specs.Laws.Known.{noted-at}
use Rattle.dimensions.specs.Answers.{decided_says, step_to, list_to, StepWritten, WritesStep, ListWritten, WritesFront, WritesList}

never : {A B : Type 0} {r : Refusal} {n : Option ℕ} {a : A} → ◌≡◌ {A = Answer A} (refused r n) (done a) → B
never e = absurd (let z : ◌≡◌ {A = ℕ} 0 1 = cc in omega arith)

-- ---- one record more

abbrev built : List Step → List ℕ → Answer Passed
built ss ts = done (record { records = ss; temporaries = ts })

more : Given → Step → Passed → Answer Passed
more g x p = step_with g p.temporaries x then λ y. built (p.records ++ (y ∷ [])) (noted p.temporaries y)

module _ (g : Given) (x : Step) where
  passed-more : (ts : List ℕ) (xs : List Step) → passed g ts (xs ++ (x ∷ [])) ≡ (passed g ts xs then λ p. more g x p)
  unfolding passed more
  passed-more ts [] = one (step_with g ts x)
    where
      one : (A : Answer Step)
          → (A then λ y. built (y ∷ []) (noted ts y))
          ≡ (A then λ y. built ([] ++ (y ∷ [])) (noted ts y))
      one (done y) = refl
      one (refused r n) = refl
  passed-more ts (z ∷ zs) = by (step_with g ts z) (λ y. passed-more (noted ts y) zs)
    where
      last : (y : Step) (p : Passed) (B : Answer Step)
          → ((B then λ w. built (p.records ++ (w ∷ [])) (noted p.temporaries w)) then λ q. built (y ∷ q.records) q.temporaries)
          ≡ (B then λ w. built ((y ∷ p.records) ++ (w ∷ [])) (noted p.temporaries w))
      last y p (done w) = refl
      last y p (refused r n) = refl

      front : (y : Step) (P : Answer Passed)
          → ((P then λ p. more g x p) then λ q. built (y ∷ q.records) q.temporaries)
          ≡ ((P then λ p. built (y ∷ p.records) p.temporaries) then λ p. more g x p)
      front y (done p) = last y p (step_with g p.temporaries x)
      front y (refused r n) = refl

      by : (A : Answer Step) → ((y : Step) → passed g (noted ts y) (zs ++ (x ∷ [])) ≡ (passed g (noted ts y) zs then λ p. more g x p))
          → (A then λ y. passed g (noted ts y) (zs ++ (x ∷ [])) then λ p. built (y ∷ p.records) p.temporaries)
          ≡ ((A then λ y. passed g (noted ts y) zs then λ p. built (y ∷ p.records) p.temporaries) then λ p. more g x p)
      by (done y) ih = rw (ih y) (front y (passed g (noted ts y) zs))
      by (refused r n) ih = refl

front-more : (g : Given) (ts l : List ℕ) (k : ℕ) → passed g ts (steps_of l (suc k)) ≡ (passed g ts (steps_of l k) then λ p. more g (step_at l (step_size * k)) p)
front-more g ts l k = ap (passed g ts) (steps-more l k) ∙ passed-more g (step_at l (step_size * k)) ts (steps_of l k)

-- ---- deciding

pub step-refused : (g : Given) (ts : List ℕ) (s : Step) (w : Refusal) → refused w none ≡ step_with g ts s → refused w none ≡ step_to g ts s
step-refused g ts s w e = rw (← e)

pub step-decided : (g : Given) (ts : List ℕ) (s y : Step) (ts' : List ℕ) → done y ≡ step_with g ts s → ts' ≡ noted ts y → done ts' ≡ step_to g ts s
step-decided g ts s y ts' e f = rw (← e, f)

pub step-known : (g : Given) (ts : List ℕ) (s : Step) (d : ℕ) (ts' : List ℕ) → StepDimIs g ts s (Some d) → ts' ≡ noted_at ts s.dest d → done ts' ≡ step_to g ts s
step-known g ts s d ts' h e =
    let z = h d refl in
    step-decided g ts s z.step ts' (sym z.is) (e ∙ noted-at ts s.dest d z.step z.dest)

to-more : (g : Given) (ts l : List ℕ) (k : ℕ) → list_to g ts (steps_of l (suc k)) ≡ (list_to g ts (steps_of l k) then λ t. step_to g t (step_at l (step_size * k)))
unfolding more
to-more g ts l k = rw (front-more g ts l k) (by (passed g ts (steps_of l k)))
  where
    x : Step
    x = step_at l (step_size * k)

    last : (p : Passed) (B : Answer Step)
        → ((B then λ w. built (p.records ++ (w ∷ [])) (noted p.temporaries w)) then λ (q : Passed). done q.temporaries)
        ≡ (B then λ w. done (noted p.temporaries w))
    last p (done w) = refl
    last p (refused r n) = refl

    by : (P : Answer Passed) → ((P then λ p. more g x p) then λ (q : Passed). done q.temporaries) ≡ ((P then λ (p : Passed). done p.temporaries) then λ t. step_to g t x)
    by (done p) = last p (step_with g p.temporaries x)
    by (refused r n) = refl

pub decide-begin : (g : Given) (ts l : List ℕ) → list_to g ts (steps_of l 0) ≡ done ts
unfolding passed
decide-begin g ts l = rw (steps-none l)

module _ (g : Given) (ts l : List ℕ) (k : ℕ) (ts₁ : List ℕ) (so : list_to g ts (steps_of l k) ≡ done ts₁) (x : Step) (e : x ≡ step_at l (step_size * k)) where
  at_next : list_to g ts (steps_of l (suc k)) ≡ step_to g ts₁ x
  at_next = to-more g ts l k ∙ rw (so, ← e)

  pub decide-next : (r : Result Unit codes.Refusal) (ts₂ : List ℕ) → decided_says r ts₂ ≡ step_to g ts₁ x → r ≡ Ok tt → list_to g ts (steps_of l (k + 1)) ≡ done ts₂
  decide-next r ts₂ f q = rw (add-one k) (at_next ∙ sym f ∙ rw q)

  stops : (w : Refusal) → refused w none ≡ step_to g ts₁ x → k < record_count l → refused w none ≡ list_to g ts (records_in l)
  stops w f h = sym (later (record_count l) h)
    where
      later : (n : ℕ) → k < n → list_to g ts (steps_of l n) ≡ refused w none
      later zero q = absurd (omega arith)
      later (suc n) q = by (eq-or-lt_of_le {n = k} {m = n} (omega arith)) (later n)
        where
          by : (k ≡ n) ⊎ (k < n) → (k < n → list_to g ts (steps_of l n) ≡ refused w none) → list_to g ts (steps_of l (suc n)) ≡ refused w none
          by (inl z) ih = rw (← z) (at_next ∙ sym f)
          by (inr z) ih = to-more g ts l n ∙ rw (ih z)

  pub decide-stop : (r : Result Unit codes.Refusal) (ts₂ : List ℕ) → decided_says r ts₂ ≡ step_to g ts₁ x → (w : codes.Refusal) → r ≡ Err w → k < record_count l → refused (code.refusal_of w) none ≡ list_to g ts (records_in l)
  decide-stop r ts₂ f w q h = stops (code.refusal_of w) (sym (rw q) ∙ f) h

pub decide-end : (g : Given) (ts l : List ℕ) (k : ℕ) (ts₁ : List ℕ) → list_to g ts (steps_of l k) ≡ done ts₁ → k ≤ record_count l → record_count l ≤ k → done ts₁ ≡ list_to g ts (records_in l)
decide-end g ts l k ts₁ e h q =
    let z : record_count l ≡ k = omega arith in
    rw z (sym e)

-- ---- writing

pub wrote : (g : Given) (ts l : List ℕ) (k : ℕ) (ts' l' : List ℕ) → WritesDims g ts l l' ts' (step_size * k) → WritesStep g ts ts' l l' k
wrote g ts l k ts' l' w s h =
    let z = w s h in
    record { bytes = z.bytes; temporaries = z.temporaries }

-- the records before k and the one at k
record Came (g : Given) (ts l : List ℕ) (k : ℕ) (p' : Passed) : Type 0 where
  before : Passed
  step : Step
  front : passed g ts (steps_of l k) ≡ done before
  here : step_with g before.temporaries (step_at l (step_size * k)) ≡ done step
  whole : p' ≡ record { records = before.records ++ (step ∷ []); temporaries = noted before.temporaries step }

came : (g : Given) (ts l : List ℕ) (k : ℕ) (p' : Passed) → passed g ts (steps_of l (suc k)) ≡ done p' → Came g ts l k p'
unfolding more
came g ts l k p' e = by (passed g ts (steps_of l k)) refl (sym (front-more g ts l k) ∙ e)
  where
    x : Step
    x = step_at l (step_size * k)

    last : (p : Passed) → passed g ts (steps_of l k) ≡ done p → (B : Answer Step) → step_with g p.temporaries x ≡ B
        → (B then λ y. built (p.records ++ (y ∷ [])) (noted p.temporaries y)) ≡ done p' → Came g ts l k p'
    last p a (done y) b q = record { before = p; step = y; front = a; here = b; whole = cc }
    last p a (refused r n) b q = never q

    by : (P : Answer Passed) → passed g ts (steps_of l k) ≡ P → (P then λ p. more g x p) ≡ done p' → Came g ts l k p'
    by (done p) a q = last p a (step_with g p.temporaries x) refl q
    by (refused r n) a q = never q

pub passed_length : (g : Given) (ts l : List ℕ) (k : ℕ) (p : Passed) → passed g ts (steps_of l k) ≡ done p → length p.records ≡ k
unfolding passed
passed_length g ts l zero p e = ap length (none_left (sym (ap (passed g ts) (steps-none l)) ∙ e))
  where
    none_left : built [] ts ≡ done p → p.records ≡ []
    none_left q =
        let z : ◌≡◌ {A = Passed} (record { records = []; temporaries = ts }) p = cc in
        sym (ap (λ (v : Passed). v.records) z)
passed_length g ts l (suc k) p e = by (came g ts l k p e) (passed_length g ts l k)
  where
    by : Came g ts l k p → ((q : Passed) → passed g ts (steps_of l k) ≡ done q → length q.records ≡ k) → length p.records ≡ suc k
    by c ih =
        let n : length c.before.records ≡ k = ih c.before c.front in
        ap (λ (v : Passed). length v.records) c.whole ∙ length-append c.before.records (c.step ∷ []) ∙ rw n (omega arith)

pub write-begin : (g : Given) (ts l : List ℕ) → WritesFront g ts ts l l 0
unfolding passed
write-begin g ts l p e = by (sym (ap (passed g ts) (steps-none l)) ∙ e)
  where
    by : built [] ts ≡ done p → ListWritten ts l l p
    by q =
        let z : ◌≡◌ {A = Passed} (record { records = []; temporaries = ts }) p = cc in
        record { bytes = rw (← z) (sym (rw steps-bytes-none (write-none l 0))); temporaries = ap (λ (v : Passed). v.temporaries) z }

pub write-more : (g : Given) (ts ts₁ ts₂ l l₁ l₂ : List ℕ) (k : ℕ) → WritesFront g ts ts₁ l l₁ k → WritesStep g ts₁ ts₂ l₁ l₂ k → WritesFront g ts ts₂ l l₂ (k + 1)
write-more g ts ts₁ ts₂ l l₁ l₂ k f s p' e = by (came g ts l k p' (rw (add-one k) at e))
  where
    by : Came g ts l k p' → ListWritten ts₂ l l₂ p'
    by c =
        let w : ListWritten ts₁ l l₁ c.before = f c.before c.front in
        let n : length c.before.records ≡ k = passed_length g ts l k c.before c.front in
        let m : length (steps_bytes c.before.records) ≡ step_size * k = rw (steps-bytes-length c.before.records, n) in
        let u : step_at l₁ (step_size * k) ≡ step_at l (step_size * k) = rw w.bytes (step_kept l 0 (steps_bytes c.before.records) (step_size * k) (inr (omega arith))) in
        let v : StepWritten ts₁ ts₂ l₁ l₂ k c.step = s c.step (rw (u, w.temporaries) c.here) in
        let b : l₂ ≡ write l 0 (steps_bytes c.before.records ++ step_bytes c.step) = write-next l 0 (steps_bytes c.before.records) (step_bytes c.step) (step_size * k) w.bytes v.bytes (omega arith) in
        let a : steps_bytes (c.before.records ++ (c.step ∷ [])) ≡ steps_bytes c.before.records ++ step_bytes c.step = steps-bytes-append c.before.records (c.step ∷ []) ∙ rw (steps-bytes-one c.step) in
        record {
          bytes = b ∙ ap (write l 0) (sym (ap (λ (q : Passed). steps_bytes q.records) c.whole ∙ a));
          temporaries = v.temporaries ∙ ap (λ t. noted t c.step) w.temporaries ∙ sym (ap (λ (q : Passed). q.temporaries) c.whole);
        }

pub write-end : (g : Given) (ts ts' l l' : List ℕ) (k : ℕ) → WritesFront g ts ts' l l' k → k ≤ record_count l → record_count l ≤ k → WritesList g ts ts' l l'
write-end g ts ts' l l' k w h q =
    let z : k ≡ record_count l = omega arith in
    rw z at w

-- a list that was written is as long as it was
pub record-still : (l l' : List ℕ) (k : ℕ) → length l' ≡ length l → k < record_count l → step_size * k + step_size ≤ length l'
record-still l l' k e h =
    let q : step_size * k + step_size ≤ length l = record_in l k h in
    omega arith
