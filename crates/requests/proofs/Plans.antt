-- Requests one after another: jobs added to jobs, and a refusal that stays. No word of the code.
-- Assumes nothing.
use Prim.Native.Nat.{ℕ, suc, ◌+◌, ◌-◌, ◌<◌, ◌≤◌}
use mathlib.Core.Path.{◌≡◌, refl, sym, ◌∙◌, ap, subst}
use mathlib.Core.Option.{Option, none, some}
use mathlib.Core.List.{List, [], ◌∷◌, ◌++◌}
use mathlib.Core.Logic.{inl, inr}
use native.Mathlib.Omega.{arith}
use native.Mathlib.Decide.{le_ind}
use lib.ListN.{length, length-append}
use lib.Dec.{eqb}
use Rattle.meaning.specs.Refusals.{Refusal, Answer, done, refused, ◌then◌}
use Rattle.meaning.specs.Trees.{Forest, Acyclic, nth}
use Rattle.meaning.specs.Trees as meaning
use Rattle.meaning.specs.Order.{Asked, nothing, there, ask}
use Rattle.meaning.specs.Generation.{Request}
use Rattle.meaning.specs.Asking.{ask_one, ask_all, ask-snoc, ask-refused}
use Rattle.std.specs.Prelude.{Result, Ok, Err}
use Rattle.kinds.specs.Write.{write, write-none, write-next}
use Rattle.kinds.specs.declared.refusal.Refused.{Refused}
use Rattle.frames.specs.Tables.{request_in, first}
use Rattle.frames.specs.declared.rest.Request as frame
use Rattle.pool.specs.Trees.{forest}
use Rattle.pool.specs.Laws.Tabled.{expression-count}
use Rattle.pool.specs.Laws.Forest.{nth-below, forest-has, forest-size}
use Rattle.starkinfo_codegen.specs.Emitting.{Rest, tables_of, pool_of}
use Rattle.starkinfo_codegen.specs.Ordering.{marks_of, job_words, State, Gives, CodeAsks, coded}
use Rattle.starkinfo_codegen.specs.JobWords.{words_append, words-length}
use Rattle.starkinfo_codegen.specs.Requests.{request-asks, request-is}
use Rattle.requests.specs.Planning.{request_at, requests_in, Adds, Says, OneAsks, PlanAsks}

-- ── jobs added to jobs ───────────────────────────────────────────────────────
pub nothing-added : {s j : List ℕ} → State s j 0 → Adds (done (nothing (marks_of s))) s j j 0 0
nothing-added {s} {j} t = record { jobs = []; is = refl; written = sym (write-none j 0); count = refl; state = t }

module _ (E : Forest) where
  pub adds_then :
      (qs : List Request) (q : Request) (s₀ : List ℕ) {s s' j₀ j j' : List ℕ} {n r : ℕ} →
      Adds (ask_all 2 E qs (marks_of s₀)) s j₀ j 0 n → Adds (ask_one 2 E q (marks_of s)) s' j j' n r → Adds (ask_all 2 E (qs ++ (q ∷ [])) (marks_of s₀)) s' j₀ j' 0 r
  adds_then qs q s₀ {s} {s'} {j₀} {j} {j'} {n} {r} a c = record {
    jobs = a.jobs ++ c.jobs;
    is = ask-snoc 2 E qs q (marks_of s₀) ∙ rw (a.is, c.is);
    written =
        write-next j₀ 0 (job_words a.jobs) (job_words c.jobs) n a.written c.written (omega (arith, words-length a.jobs, a.count))
        ∙ ap (write j₀ 0) (sym (words_append a.jobs c.jobs));
    count = omega (arith, a.count, c.count, length-append a.jobs c.jobs);
    state = c.state;
  }

  pub stops_then :
      (qs : List Request) (q : Request) (s₀ : List ℕ) {s j₀ j : List ℕ} {n : ℕ} {k : Refusal} {o : Option ℕ} →
      Adds (ask_all 2 E qs (marks_of s₀)) s j₀ j 0 n → ask_one 2 E q (marks_of s) ≡ refused k o → ask_all 2 E (qs ++ (q ∷ [])) (marks_of s₀) ≡ refused k o
  stops_then qs q s₀ a h = ask-snoc 2 E qs q (marks_of s₀) ∙ rw (a.is, h)

  -- a refusal of the first k requests is one of all
  pub stays :
      (r s : List ℕ) (k count : ℕ) {f : Refusal} {o : Option ℕ} → ask_all 2 E (requests_in r k) (marks_of s) ≡ refused f o → k ≤ count →
      ask_all 2 E (requests_in r count) (marks_of s) ≡ refused f o
  unfolding first
  stays r s k count {f} {o} h l =
      le_ind (λ c. ask_all 2 E (requests_in r c) (marks_of s) ≡ refused f o) h (λ c g e. ask-refused 2 E (requests_in r c) (request_at r c) (marks_of s) e) count l

  pub one_more : (r : List ℕ) (k : ℕ) → requests_in r (k + 1) ≡ requests_in r k ++ (request_at r k ∷ [])
  unfolding first
  one_more r k = let e : k + 1 ≡ suc k = omega arith in rw e

  pub none_yet : (r : List ℕ) → requests_in r 0 ≡ []
  unfolding first
  none_yet r = refl

-- ── one request ──────────────────────────────────────────────────────────────
module _ (w x : List ℕ) (b : Rest) (A : Acyclic (forest (pool_of w b))) {r s j : List ℕ} {m n k : ℕ} (a : OneAsks w x b A r s j m n k) (q : frame.Request) (h : q ≡ request_in r k) where
  abbrev E : Forest
  E = forest (pool_of w b)

  expressions_are : length E ≡ m
  expressions_are = forest-size (pool_of w b) ∙ expression-count (tables_of w b) ∙ sym a.expressions

  pub lost : m ≤ q.expression → ask_one 2 E (request_at r k) (marks_of s) ≡ refused Refusal.not_there none
  lost l = go (nth E (request_in r k).expression) refl
    where
      go :
          (o : Option meaning.Expression) → nth E (request_in r k).expression ≡ o →
          (there o then λ _. ask 2 E (request_at r k).fused (request_in r k).expression (request_in r k).prime (marks_of s)) ≡ refused Refusal.not_there none
      go none e = refl
      go (some y) e = absurd (omega (arith, nth-below E (request_in r k).expression e, expressions_are, ap (λ z. z.expression) h))

  module _ (l : q.expression < m) where
    pub code-asks : CodeAsks w x b A s j m n q.expression q.prime
    code-asks =
        let e = ap (λ z. z.expression) h in
        subst (λ i. CodeAsks w x b A s j i n q.expression q.prime) (sym a.expressions)
        (request-asks w x b A a.world a.state q.expression q.prime (omega (arith, a.expressions)) (omega (arith, a.in_row, ap (λ z. z.prime) h)))

    abbrev answer : Answer Asked
    answer = coded w x b A m (eqb q.muladd 1) q.expression q.prime (marks_of s)

    one-is : ask_one 2 E (request_at r k) (marks_of s) ≡ answer
    one-is =
        let f = forest-has (pool_of w b) q.expression (omega (arith, expression-count (tables_of w b), a.expressions)) in
        rw (← h, f.1, a.expressions) (sym (request-is w x b A (eqb q.muladd 1) q.expression q.prime (marks_of s)))

    module _ {s' j' : List ℕ} {level v : ℕ} (g : Gives A.rank level answer s s' j j' n v) where
      pub double : 1024 < v → ask_one 2 E (request_at r k) (marks_of s) ≡ refused Refusal.double_prime (some (v - 1025))
      double i = one-is ∙ go g
        where
          go : Gives A.rank level answer s s' j j' n v → answer ≡ refused Refusal.double_prime (some (v - 1025))
          go (inl t) = t.is
          go (inr t) = absurd (omega (arith, t.state.room))

      pub jobs : v ≤ 1024 → Adds (ask_one 2 E (request_at r k) (marks_of s)) s' j j' n v
      jobs i = go g
        where
          go : Gives A.rank level answer s s' j j' n v → Adds (ask_one 2 E (request_at r k) (marks_of s)) s' j j' n v
          go (inl t) = absurd (omega (arith, t.low))
          go (inr t) = record { jobs = t.jobs; is = one-is ∙ t.is; written = t.written; count = t.count; state = t.state }

-- ── all requests ─────────────────────────────────────────────────────────────
module _ (w x : List ℕ) (b : Rest) (A : Acyclic (forest (pool_of w b))) {r s₀ j₀ : List ℕ} {m count : ℕ} (a : PlanAsks w x b A r s₀ j₀ m count) where
  abbrev pub Progress : List ℕ → List ℕ → ℕ → ℕ → Type 0
  Progress s j n k = Adds (ask_all 2 (forest (pool_of w b)) (requests_in r k) (marks_of s₀)) s j₀ j 0 n

  pub begin : Progress s₀ j₀ 0 0
  begin = rw (none_yet (forest (pool_of w b)) r) (nothing-added a.state)

  pub one-asks : {s j : List ℕ} {n k : ℕ} → Progress s j n k → k < count → OneAsks w x b A r s j m n k
  one-asks {k = k} p l = record {
    world = a.world;
    state = p.state;
    expressions = a.expressions;
    there = omega (arith, a.few);
    in_row = a.in_rows k l;
  }

  module _ {s j : List ℕ} {n k : ℕ} (p : Progress s j n k) (l : k < count) where
    abbrev one : Answer Asked
    one = ask_one 2 (forest (pool_of w b)) (request_at r k) (marks_of s)

    abbrev all : Answer Asked
    all = ask_all 2 (forest (pool_of w b)) (requests_in r count) (marks_of s₀)

    stop : {f : Refusal} {o : Option ℕ} → one ≡ refused f o → all ≡ refused f o
    stop h =
        stays (forest (pool_of w b)) r s₀ (k + 1) count
        (ap (λ (qs : List Request). ask_all 2 (forest (pool_of w b)) qs (marks_of s₀)) (one_more (forest (pool_of w b)) r k)
        ∙ stops_then (forest (pool_of w b)) (requests_in r k) (request_at r k) s₀ p h) (omega arith)

    module _ (s' j' : List ℕ) (z : Result ℕ Refused) (g : Says one s' j j' n z) where
      pub advance : {n' : ℕ} → z ≡ Ok n' → Progress s' j' n' (k + 1)
      advance e = rw (one_more (forest (pool_of w b)) r k) (adds_then (forest (pool_of w b)) (requests_in r k) (request_at r k) s₀ p (subst (Says one s' j j' n) e g))

      pub stopped : {f : Refused} → z ≡ Err f → Says all s' j₀ j' 0 (Err f)
      stopped e = let h = subst (Says one s' j j' n) e g in (stop h.0, h.1)

  pub finish : {s j : List ℕ} {n k : ℕ} → Progress s j n k → k ≤ count → count ≤ k → Progress s j n count
  finish {s} {j} {n} {k} p l h = let e : k ≡ count = omega arith in subst (Progress s j n) e p
