-- EACH ANSWER EXACTLY WHEN, for every slice of frames, every list, every modulus and every value given; and only one outcome fits what the entry point
-- promises. 2, 3 and 4 are those of the pool's verdict. Assumes nothing.
use Rattle.std.specs.Prelude.{ℕ, ◌*◌, ◌<◌, ◌≤◌, ◌≡◌, Bool, true, false, cond, ◌&&◌, List, [], ◌⊎◌, ◌↔◌, length, eqb, leb}
use Rattle.std.proofs.Math.Path.{refl}
use Rattle.std.proofs.Common.{sym, ◌∙◌, ap, subst, inl, inr, arith, le-leb, leb-true, leb-false, eqb-true}
use Rattle.std.proofs.Math.Option.{Option, none, some}
use Rattle.std.proofs.lemmas.Bool.{lt-leb, eqb-false}
use Rattle.meaning.specs.Refusals.{Refusal, number, Answer, done, refused, answer_no, ◌then◌}
use Rattle.meaning.specs.Trees.{Lit, Each}
use Rattle.meaning.specs.Values.{bind}
use Rattle.meaning.specs.Models.{modulo}
use Rattle.meaning.specs.Steps.{Step}
use Rattle.meaning.specs.Running.{Store, empty, run}
use Rattle.meaning.proofs.Laws.Tests.{number-not-zero, true-false, done-not-refused}
use Rattle.frames.specs.Order.{Input}
use Rattle.frames.specs.Reading.{reading}
use Rattle.frames.specs.Exactly as frames
use Rattle.pool.specs.Verdict.{Verdict}
use Rattle.pool.specs.Exactly as pool
use Rattle.pool.specs.Exactly.{one_answer, cases}
use Rattle.pool.specs.Numbered.{pool_of}
use Rattle.requests.specs.Exactly.{Admitted}
use Rattle.evaluator_cells.specs.Cells.{cell_limit}
use Rattle.evaluator_cells.specs.Keyed.{valued_size}
use Rattle.evaluator_cells.specs.Given.{Lent, lent, given}
use Rattle.evaluator_cells.specs.Literals.{brought_at}
use Rattle.lists.specs.Records.{records_in}
use Rattle.lists.specs.Decoding.{steps_from}
use Rattle.evaluator_run.specs.Evaluation.{written, Valued, valued_by, computed, fitting, ruled, well_formed, ruling, out_after}
use Rattle.evaluator_run.specs.Laws.Computes.{valued-length}
use Rattle.evaluator.specs.Answer.{Evaluation, Judged, Evaluates, answer_says, Tells, EvaluationIs}
use Rattle.evaluator.specs.Laws.Written.{Has, run-has}

-- ── of what is well formed ───────────────────────────────────────────────────
module _ (L : ℕ → Lit) (g : Lent) (m : ℕ) (list : List ℕ) (room : ℕ) where
  -- an unknown step byte, or a step that meaning's running refuses
  abbrev pub Refuses : Type 0
  Refuses = bind (steps_from L (records_in list)) (λ xs. run (modulo m) (given m g) xs empty) ≡ none

  -- the list's steps are xs, and running them ends with s
  pub record Ends (xs : List Step) (s : Store ℕ) : Type 0 where
    pub steps : steps_from L (records_in list) ≡ some xs
    pub runs : run (modulo m) (given m g) xs empty ≡ some s

  abbrev pub TooMany : List Step → Type 0
  TooMany xs = (cell_limit < length (written xs)) ⊎ (room < valued_size * length (written xs))

  abbrev pub Fits : List Step → Type 0
  Fits xs = (length (written xs) ≤ cell_limit) × (valued_size * length (written xs) ≤ room)

  abbrev given_answer : Answer (List Valued)
  given_answer = ruling L g m list room

  ruled-is : given_answer ≡ ruled room (bind (steps_from L (records_in list)) (computed m g))
  unfolding ruling
  ruled-is = refl

  pub refuses : Refuses → given_answer ≡ refused Refusal.no_rule none
  refuses h = ruled-is ∙ ap (ruled room) (by (steps_from L (records_in list)) h)
    where
      by : (l : Option (List Step)) → bind l (λ xs. run (modulo m) (given m g) xs empty) ≡ none → bind l (computed m g) ≡ none
      by none h = refl
      by (some xs) h = rw h

  ended : (xs : List Step) (s : Store ℕ) → Ends xs s → given_answer ≡ fitting room (valued_by s (written xs))
  ended xs s e = ruled-is ∙ rw (e.steps, e.runs)

  pub too_many_lem : (xs : List Step) (s : Store ℕ) → Ends xs s → TooMany xs → given_answer ≡ refused Refusal.full none
  too_many_lem xs s e (inl h) = ended xs s e ∙ rw (valued-length s (written xs), lt-leb (length (written xs)) cell_limit h)
  too_many_lem xs s e (inr h) = ended xs s e ∙ rw (valued-length s (written xs)) (by (leb (length (written xs)) cell_limit))
    where
      by :
          (b : Bool)
          → cond (b && leb (valued_size * length (written xs)) room) (done (valued_by s (written xs))) (refused Refusal.full none) ≡ refused Refusal.full none
      by true = rw (lt-leb (valued_size * length (written xs)) room h)
      by false = refl

  pub fits : (xs : List Step) (s : Store ℕ) → Ends xs s → Fits xs → given_answer ≡ done (valued_by s (written xs))
  fits xs s e h =
      ended xs s e
      ∙ rw (valued-length s (written xs), le-leb (length (written xs)) cell_limit h.0, le-leb (valued_size * length (written xs)) room h.1)

  -- ── one of three ───────────────────────────────────────────────────────────
  data Way : Type 0 where
    is-refused : Refuses → given_answer ≡ refused Refusal.no_rule none → Way
    is_too_many : (xs : List Step) (s : Store ℕ) → Ends xs s → TooMany xs → given_answer ≡ refused Refusal.full none → Way
    is-done : (xs : List Step) (s : Store ℕ) → Ends xs s → Fits xs → given_answer ≡ done (valued_by s (written xs)) → Way

  way : Way
  way = steps_of (steps_from L (records_in list)) refl
    where
      sized : (xs : List Step) (s : Store ℕ) → Ends xs s → (a : Bool) → leb (length (written xs)) cell_limit ≡ a → (b : Bool) → leb (valued_size * length (written xs)) room ≡ b → Way
      sized xs s e false p b q = let h : TooMany xs = inl (leb-false (length (written xs)) cell_limit p) in is_too_many xs s e h (too_many_lem xs s e h)
      sized xs s e true p false q = let h : TooMany xs = inr (leb-false (valued_size * length (written xs)) room q) in is_too_many xs s e h (too_many_lem xs s e h)
      sized xs s e true p true q =
          let h : Fits xs = (leb-true (length (written xs)) cell_limit p, leb-true (valued_size * length (written xs)) room q) in
          is-done xs s e h (fits xs s e h)

      run_of : (xs : List Step) → steps_from L (records_in list) ≡ some xs → (o : Option (Store ℕ)) → run (modulo m) (given m g) xs empty ≡ o → Way
      run_of xs e none f = let h : Refuses = rw e f in is-refused h (refuses h)
      run_of xs e (some s) f = sized xs s (record { steps = e; runs = f }) (leb (length (written xs)) cell_limit) refl (leb (valued_size * length (written xs)) room) refl

      steps_of : (l : Option (List Step)) → steps_from L (records_in list) ≡ l → Way
      steps_of none e = let h : Refuses = rw e refl in is-refused h (refuses h)
      steps_of (some xs) e = run_of xs e (run (modulo m) (given m g) xs empty) refl

  -- ── exactly when ───────────────────────────────────────────────────────────
  number_of : {a : Answer (List Valued)} {n : ℕ} → given_answer ≡ a → answer_no given_answer ≡ n → answer_no a ≡ n
  number_of e h = ap answer_no (sym e) ∙ h

  pub exactly_10 : (answer_no given_answer ≡ 10) ↔ Refuses
  exactly_10 = ((λ h. by way h), λ c. ap answer_no (refuses c))
    where
      by : Way → answer_no given_answer ≡ 10 → Refuses
      by (is-refused c e) h = c
      by (is_too_many xs s r c e) h = absurd (omega (arith, number_of e h))
      by (is-done xs s r c e) h = absurd (omega (arith, number_of e h))

  pub record Overflows : Type 0 where
    pub steps : List Step
    pub end : Store ℕ
    pub ends : Ends steps end
    pub too_many : TooMany steps

  pub exactly_9 : (answer_no given_answer ≡ 9) ↔ Overflows
  exactly_9 = ((λ h. by way h), λ c. ap answer_no (too_many_lem c.steps c.end c.ends c.too_many))
    where
      by : Way → answer_no given_answer ≡ 9 → Overflows
      by (is-refused c e) h = absurd (omega (arith, number_of e h))
      by (is_too_many xs s r c e) h = record { steps = xs; end = s; ends = r; too_many = c }
      by (is-done xs s r c e) h = absurd (omega (arith, number_of e h))

  pub record Answered : Type 0 where
    pub steps : List Step
    pub end : Store ℕ
    pub ends : Ends steps end
    pub fit : Fits steps

  pub exactly_0 : (answer_no given_answer ≡ 0) ↔ Answered
  exactly_0 = ((λ h. by way h), λ c. ap answer_no (fits c.steps c.end c.ends c.fit))
    where
      by : Way → answer_no given_answer ≡ 0 → Answered
      by (is-refused c e) h = absurd (omega (arith, number_of e h))
      by (is_too_many xs s r c e) h = absurd (omega (arith, number_of e h))
      by (is-done xs s r c e) h = record { steps = xs; end = s; ends = r; fit = c }

  -- no other number is given
  pub no_other : (answer_no given_answer ≡ 0) ⊎ ((answer_no given_answer ≡ 9) ⊎ (answer_no given_answer ≡ 10))
  no_other = by way
    where
      by : Way → (answer_no given_answer ≡ 0) ⊎ ((answer_no given_answer ≡ 9) ⊎ (answer_no given_answer ≡ 10))
      by (is-refused c e) = inr (inr (ap answer_no e))
      by (is_too_many xs s r c e) = inr (inl (ap answer_no e))
      by (is-done xs s r c e) = inl (ap answer_no e)

-- every cell of an answer holds the value that stands beside it
pub all-valued :
    (L : ℕ → Lit) (g : Lent) (m : ℕ) (list : List ℕ) (room : ℕ) (xs : List Step) (s : Store ℕ) → Ends L g m list room xs s
    → Each (Has (modulo m) (given m g) s) (written xs)
all-valued L g m list room xs s e = run-has (modulo m) (given m g) xs empty s [] tt e.runs

-- ── from frames ──────────────────────────────────────────────────────────────
module _ (s list : List ℕ) (m : ℕ) (ws : List ℕ) (room : ℕ) (a : Answer (List Valued)) (h : Evaluates list m ws room (reading s) a) where
  -- something was read, all else is well formed, the pool is admitted, and C holds of it
  pub record Reaches (C : Input → Type 0) : Type 0 where
    pub input : Input
    pub read : reading s ≡ done input
    pub formed : well_formed ws m list ≡ true
    pub admitted : Admitted input
    pub holds : C input

  abbrev ruled_of : Input → Answer (List Valued)
  ruled_of i = ruling (brought_at (pool_of i)) (lent ws) m list room

  data Case : Type 0 where
    unread : (k : Refusal) (o : Option ℕ) → reading s ≡ refused k o → answer_no a ≡ number k → Case
    ill : (i : Input) → reading s ≡ done i → well_formed ws m list ≡ false → answer_no a ≡ 1 → Case
    stopped : (i : Input) → reading s ≡ done i → well_formed ws m list ≡ true → (Admitted i → ⊥) → (2 ≤ answer_no a) × (answer_no a ≤ 4) → Case
    ran : (i : Input) → reading s ≡ done i → well_formed ws m list ≡ true → Admitted i → a ≡ ruled_of i → Case

  case : Case
  case = go (reading s) refl (well_formed ws m list) refl
    where
      pool-only : (i : Input) (k : Refusal) (o : Option ℕ) → Verdict (pool_of i) [] (refused k o) → (2 ≤ number k) × (number k ≤ 4)
      pool-only i k o v = by (cases (pool_of i) [] (refused k o) v)
        where
          by : pool.Case (pool_of i) [] (refused k o) → (2 ≤ number k) × (number k ≤ 4)
          by (pool.Case.two w e) = (omega arith, omega arith)
          by (pool.Case.three w x e) = (omega arith, omega arith)
          by (pool.Case.four s w e) = (omega arith, omega arith)
          by (pool.Case.admitted s r w e) = absurd (number-not-zero k e)

      judged : (i : Input) → reading s ≡ done i → well_formed ws m list ≡ true → Judged list m ws room (pool_of i) a → Case
      judged i e f (done u, v, q) = let k = (pool.exactly_0 (pool_of i) (done u) v).0 refl in ran i e f (record { shaped = k.0; acyclic = k.1 }) q
      judged i e f (refused k o, v, q) =
          let n = pool-only i k o v in
          let z : answer_no a ≡ number k = ap answer_no q in
          stopped i e f (λ d. number-not-zero k ((pool.exactly_0 (pool_of i) (refused k o) v).1 (d.shaped, d.acyclic))) (omega (arith, n.0), omega (arith, n.1))

      go : (x : Answer Input) → reading s ≡ x → (b : Bool) → well_formed ws m list ≡ b → Case
      go (refused k o) e b f = unread k o e (ap answer_no (h.unread k o e))
      go (done i) e false f = ill i e f (ap answer_no (h.malformed i e f))
      go (done i) e true f = judged i e f (h.judged i e f)

  same-input : (i j : Input) → reading s ≡ done i → reading s ≡ done j → i ≡ j
  same-input i j e f = cc

  not-read : (n : ℕ) (i : Input) → reading s ≡ done i → answer_no (reading s) ≡ n → 0 < n → ⊥
  not-read n i e q p = let z : answer_no (reading s) ≡ 0 = ap answer_no e in omega arith

  reaches : (C : Input → Type 0) (i : Input) → reading s ≡ done i → Reaches C → Admitted i × C i
  reaches C i e r = by (same-input r.input i r.read e)
    where
      by : r.input ≡ i → Admitted i × C i
      by q = (subst Admitted q r.admitted, subst C q r.holds)

  -- a number that neither 1 of what is ill formed nor the pool's verdict has
  of-ran :
      (n : ℕ) (C : Input → Type 0) → ((i : Input) → (answer_no (ruled_of i) ≡ n) ↔ C i) → (n ≡ 1 → ⊥) → (2 ≤ n → n ≤ 4 → ⊥)
      → (answer_no a ≡ n) ↔ (((answer_no (reading s) ≡ n) × (0 < n)) ⊎ Reaches C)
  of-ran n C ex one few = (to case, from case)
    where
      positive : (k : Refusal) → number k ≡ n → 0 < n
      positive k z = by (eqb n 0) refl
        where
          by : (b : Bool) → eqb n 0 ≡ b → 0 < n
          by true q = absurd (number-not-zero k (z ∙ eqb-true n 0 q))
          by false q = let y = eqb-false n 0 q in above y
            where
              above : (n ≡ 0 → ⊥) → 0 < n
              above y = omega arith

      to : Case → answer_no a ≡ n → ((answer_no (reading s) ≡ n) × (0 < n)) ⊎ Reaches C
      to (unread k o e z) q = inl (ap answer_no e ∙ sym z ∙ q, positive k (sym z ∙ q))
      to (ill i e f z) q = absurd (one (sym q ∙ z))
      to (stopped i e f d z) q = absurd (few (omega (arith, z.0)) (omega (arith, z.1)))
      to (ran i e f d z) q = inr (record { input = i; read = e; formed = f; admitted = d; holds = (ex i).0 (sym (ap answer_no z) ∙ q) })

      from : Case → ((answer_no (reading s) ≡ n) × (0 < n)) ⊎ Reaches C → answer_no a ≡ n
      from (unread k o e z) (inl q) = z ∙ sym (ap answer_no e) ∙ q.0
      from (unread k o e z) (inr r) = absurd (done-not-refused (sym r.read ∙ e))
      from (ill i e f z) (inl q) = absurd (not-read n i e q.0 q.1)
      from (ill i e f z) (inr r) = absurd (true-false r.formed f)
      from (stopped i e f d z) (inl q) = absurd (not-read n i e q.0 q.1)
      from (stopped i e f d z) (inr r) = absurd (d (reaches C i e r).0)
      from (ran i e f d z) (inl q) = absurd (not-read n i e q.0 q.1)
      from (ran i e f d z) (inr r) = ap answer_no z ∙ (ex i).1 (reaches C i e r).1

  -- 1 EXACTLY WHEN reading gives it, or something was read and the list, the modulus or the values are ill formed (Conditions.antt says how)
  pub evaluate_1 : (answer_no a ≡ 1) ↔ ((answer_no (reading s) ≡ 1) ⊎ ((i : Input) × (reading s ≡ done i) × (well_formed ws m list ≡ false)))
  evaluate_1 = (to case, from case)
    where
      ran-not : (i : Input) → answer_no (ruled_of i) ≡ 1 → ⊥
      ran-not i q = by (no_other (brought_at (pool_of i)) (lent ws) m list room)
        where
          by : (answer_no (ruled_of i) ≡ 0) ⊎ ((answer_no (ruled_of i) ≡ 9) ⊎ (answer_no (ruled_of i) ≡ 10)) → ⊥
          by (inl e) = omega arith
          by (inr (inl e)) = omega arith
          by (inr (inr e)) = omega arith

      to : Case → answer_no a ≡ 1 → (answer_no (reading s) ≡ 1) ⊎ ((i : Input) × (reading s ≡ done i) × (well_formed ws m list ≡ false))
      to (unread k o e z) q = inl (ap answer_no e ∙ sym z ∙ q)
      to (ill i e f z) q = inr (i, e, f)
      to (stopped i e f d z) q = absurd (omega (arith, z.0))
      to (ran i e f d z) q = absurd (ran-not i (sym (ap answer_no z) ∙ q))

      from : Case → (answer_no (reading s) ≡ 1) ⊎ ((i : Input) × (reading s ≡ done i) × (well_formed ws m list ≡ false)) → answer_no a ≡ 1
      from (unread k o e z) (inl q) = z ∙ sym (ap answer_no e) ∙ q
      from (unread k o e z) (inr r) = absurd (done-not-refused (sym r.1 ∙ e))
      from (ill i e f z) q = z
      from (stopped i e f d z) (inl q) = absurd (not-read 1 i e q (omega arith))
      from (stopped i e f d z) (inr r) = absurd (true-false f r.2)
      from (ran i e f d z) (inl q) = absurd (not-read 1 i e q (omega arith))
      from (ran i e f d z) (inr r) = absurd (true-false f r.2)

  -- 9 EXACTLY WHEN reading gives it, or all else is fine and more cells are written than the limit or the room
  pub evaluate_9 : (answer_no a ≡ 9) ↔ ((answer_no (reading s) ≡ 9) ⊎ Reaches (λ i. Overflows (brought_at (pool_of i)) (lent ws) m list room))
  evaluate_9 =
      let C : Input → Type 0 = λ i. Overflows (brought_at (pool_of i)) (lent ws) m list room in
      let z = of-ran 9 C (λ i. exactly_9 (brought_at (pool_of i)) (lent ws) m list room) (λ q. omega arith) (λ p q. omega arith) in
      ((λ q. to (z.0 q)), λ q. z.1 (from q))
    where
      to : {P : Type 0} → ((answer_no (reading s) ≡ 9) × (0 < 9)) ⊎ P → (answer_no (reading s) ≡ 9) ⊎ P
      to (inl q) = inl q.0
      to (inr r) = inr r

      from : {P : Type 0} → (answer_no (reading s) ≡ 9) ⊎ P → ((answer_no (reading s) ≡ 9) × (0 < 9)) ⊎ P
      from (inl q) = inl (q, omega arith)
      from (inr r) = inr r

  -- reading gives 1 and 9 alone
  read_only : (n : ℕ) → answer_no (reading s) ≡ n → 0 < n → (n ≡ 1 → ⊥) → (n ≡ 9 → ⊥) → ⊥
  read_only n q p one nine = by (frames.no_other s)
    where
      by : (answer_no (reading s) ≡ 0) ⊎ ((answer_no (reading s) ≡ 1) ⊎ (answer_no (reading s) ≡ 9)) → ⊥
      by (inl e) = omega arith
      by (inr (inl e)) = one (sym q ∙ e)
      by (inr (inr e)) = nine (sym q ∙ e)

  right : {P Q : Type 0} → P ⊎ Q → (P → ⊥) → Q
  right (inl p) h = absurd (h p)
  right (inr q) h = q

  -- 10 EXACTLY WHEN all else is fine and the run is refused (Conditions.antt says at which step)
  pub evaluate_10 : (answer_no a ≡ 10) ↔ Reaches (λ i. Refuses (brought_at (pool_of i)) (lent ws) m list room)
  evaluate_10 =
      let C : Input → Type 0 = λ i. Refuses (brought_at (pool_of i)) (lent ws) m list room in
      let z = of-ran 10 C (λ i. exactly_10 (brought_at (pool_of i)) (lent ws) m list room) (λ q. omega arith) (λ p q. omega arith) in
      ((λ q. right (z.0 q) (λ r. read_only 10 r.0 r.1 (λ q. omega arith) (λ q. omega arith))), λ q. z.1 (inr q))

  -- 0 EXACTLY WHEN all is fine and the cells fit
  pub evaluate_0 : (answer_no a ≡ 0) ↔ Reaches (λ i. Answered (brought_at (pool_of i)) (lent ws) m list room)
  evaluate_0 =
      let C : Input → Type 0 = λ i. Answered (brought_at (pool_of i)) (lent ws) m list room in
      let z = of-ran 0 C (λ i. exactly_0 (brought_at (pool_of i)) (lent ws) m list room) (λ q. omega arith) (λ p q. omega arith) in
      ((λ q. right (z.0 q) (λ r. let p = r.1 in omega arith)), λ q. z.1 (inr q))

  -- 2, 3 AND 4 are those of the pool's verdict
  pub evaluate-pool :
      (i : Input) → reading s ≡ done i → well_formed ws m list ≡ true → (v : Answer (Unit {0})) → Verdict (pool_of i) [] v → (n : ℕ) → 2 ≤ n → n ≤ 4
      → (answer_no a ≡ n) ↔ (answer_no v ≡ n)
  evaluate-pool i e f v w n p q = by (h.judged i e f)
    where
      none_of : (z : Answer (List Valued)) → (answer_no z ≡ 0) ⊎ ((answer_no z ≡ 9) ⊎ (answer_no z ≡ 10)) → answer_no z ≡ n → ⊥
      none_of z (inl e) r = omega arith
      none_of z (inr (inl e)) r = omega arith
      none_of z (inr (inr e)) r = omega arith

      go : (u : Answer (Unit {0})) → v ≡ u → a ≡ (u then λ _. ruled_of i) → (answer_no a ≡ n) ↔ (answer_no v ≡ n)
      go (done t) y z = (
        (λ r. absurd (none_of (ruled_of i) (no_other (brought_at (pool_of i)) (lent ws) m list room) (sym (ap answer_no z) ∙ r))),
        (λ r. absurd (let x : 0 ≡ n = sym (ap answer_no y) ∙ r in omega arith)),
      )
      go (refused k o) y z = ((λ r. ap answer_no y ∙ sym (ap answer_no z) ∙ r), λ r. ap answer_no z ∙ sym (ap answer_no y) ∙ r)

      by : Judged list m ws room (pool_of i) a → (answer_no a ≡ n) ↔ (answer_no v ≡ n)
      by (u, x, z) = go u (one_answer (pool_of i) [] v u w x) z

-- ── of the entry point ───────────────────────────────────────────────────────
-- the number of what it answers is that of the answer
pub number_is : {a : Answer (List Valued)} {out out' : List ℕ} {r : Evaluation} → Tells a out out' r → answer_no (answer_says r) ≡ answer_no a
number_is {a} t = ap answer_no t.says ∙ by a
  where
    by : (z : Answer (List Valued)) → answer_no (z then λ vs. done (length vs)) ≡ answer_no z
    by (done vs) = refl
    by (refused k n) = refl

-- ONLY ONE ANSWER FITS
pub one-answered :
    (list : List ℕ) (m : ℕ) (ws : List ℕ) (room : ℕ) (x : Answer Input) (a b : Answer (List Valued)) → Evaluates list m ws room x a → Evaluates list m ws room x b → a ≡ b
one-answered list m ws room x a b h k = go x refl (well_formed ws m list) refl
  where
    pools : (i : Input) → Judged list m ws room (pool_of i) a → Judged list m ws room (pool_of i) b → a ≡ b
    pools i p q =
        p.2 ∙ ap (λ (v : Answer (Unit {0})). v then λ _. ruling (brought_at (pool_of i)) (lent ws) m list room) (one_answer (pool_of i) [] p.0 q.0 p.1 q.1) ∙ sym q.2

    go : (y : Answer Input) → x ≡ y → (t : Bool) → well_formed ws m list ≡ t → a ≡ b
    go (refused r o) e t f = h.unread r o e ∙ sym (k.unread r o e)
    go (done i) e false f = h.malformed i e f ∙ sym (k.malformed i e f)
    go (done i) e true f = pools i (h.judged i e f) (k.judged i e f)

-- ONLY ONE OUTCOME FITS
pub one-evaluation :
    (s list : List ℕ) (m : ℕ) (ws out : List ℕ) {out₁ out₂ : List ℕ} {r₁ r₂ : Evaluation} → EvaluationIs s list m ws out out₁ r₁ → EvaluationIs s list m ws out out₂ r₂
    → (answer_says r₁ ≡ answer_says r₂) × (out₁ ≡ out₂)
one-evaluation s list m ws out p q =
    let e = one-answered list m ws (length out) (reading s) p.0 q.0 p.1 q.1 in (
      p.2.says ∙ ap (λ (z : Answer (List Valued)). z then λ vs. done (length vs)) e ∙ sym q.2.says,
      p.2.bytes ∙ ap (out_after out) e ∙ sym q.2.bytes,
    )
