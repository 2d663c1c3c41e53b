-- What was read, judged in order: the result, the context, the pool, and then the requests. No word of the code.
-- Assumes nothing.
use Prim.Native.Nat.{ℕ, ◌+◌, ◌-◌, ◌<◌}
use mathlib.Core.Path.{◌≡◌, refl, sym, ◌∙◌, ap, subst}
use mathlib.Core.Bool.{Bool, true, false, ◌&&◌}
use mathlib.Core.Option.{Option, none}
use mathlib.Core.List.{List, []}
use native.Mathlib.Omega.{arith}
use lib.ListN.{length}
use lib.Dec.{ltb}
use borrow.Author.Tests.{ne_eqb, ltb-true}
use Rattle.meaning.specs.Refusals.{Refusal, Answer, done, refused, ◌then◌}
use Rattle.meaning.specs.Trees.{Acyclic}
use Rattle.meaning.specs.Generation.{Result, Request}
use Rattle.meaning.specs.Demand3.{NoResult}
use Rattle.meaning.proofs.Laws.Tests.{done-same, done-not-refused, and_left, and_right}
use Rattle.kinds.specs.Kinds.{is_result}
use Rattle.std.specs.Prelude.{Ok, Err}
use Rattle.std.specs.Prelude as std
use Rattle.kinds.specs.Answers.{refusal_of, blame_of, refusing}
use Rattle.kinds.specs.declared.refusal.Refusal.TheVariants as refusal
use Rattle.kinds.specs.declared.refusal.Refused.{Refused}
use Rattle.frames.specs.Order.{Input}
use Rattle.frames.specs.Tables.{Tables, input_in, expression_in, request_in}
use Rattle.frames.specs.Packing.{first-length}
use Rattle.frames.specs.declared.count.Counts.{Counts}
use Rattle.frames.specs.Reading.{held}
use Rattle.pool.specs.Pool.{Pool}
use Rattle.pool.specs.Trees.{forest}
use Rattle.pool.specs.Verdict.{Verdict}
use Rattle.pool.specs.Numbered.{pool_of}
use Rattle.starkinfo_codegen.specs.Emitting as emitting
use Rattle.starkinfo_codegen.specs.Emitting.{Rest}
use Rattle.requests.specs.Planning.{request_at, requests_in}
use Rattle.requests.specs.Whole.{WholeAsked, pool_in}
use Rattle.requests.specs.Jobs.{each_first}
use Rattle.requests.specs.Admitted.{rest, acyclic, fresh-asks}
use Rattle.requests.specs.Runs.{requests_of}
use Rattle.requests.specs.Reads.{ReadInto, read_is, pool-is, requests_are}
use Rattle.context.specs.Context.{Good, Exactly}
use Rattle.codegen.specs.Said.{Said, said}
use Rattle.codegen.specs.Results.{result_of, asking, result_good, no_result, asking-none}
use Rattle.codegen.specs.Committing.{Served, served_says, Tells}
use Rattle.codegen.specs.Serving.{OrMalformed, served_on, Answered, Serves, ServeAsks}
use Rattle.codegen.specs.declared.asked.Wanted.{Wanted}

-- ── asking for a result or for none ──────────────────────────────────────────
module _ (w : Wanted) (count : ℕ) where
  module _ (good : result_good w.kind w.id count ≡ true) (asked : w.kind ≡ 0 → ⊥) where
    both_hold : (is_result w.kind && ltb 0 count) ≡ true
    unfolding result_good
    both_hold = rw (ne_eqb w.kind 0 asked) at good

    pub of-kind : is_result w.kind ≡ true
    of-kind = and_left (is_result w.kind) (ltb 0 count) both_hold

    pub some-request : 0 < count
    some-request = ltb-true 0 count (and_right (is_result w.kind) (ltb 0 count) both_hold)

    pub last-request : count - 1 + 1 ≡ count
    last-request = omega (arith, some-request)

-- of requests on a context
module _ {n e : List ℕ} {b : Rest} {A : Acyclic (forest (emitting.pool_of n b))} {r x l : List ℕ} {m count : ℕ} (a : ServeAsks n e b A r x l m count) (w : Wanted) where
  abbrev Wants : ℕ → List ℕ → List ℕ → Served → Type 0
  Wants i x' l' g = Tells (served_on (forest (emitting.pool_of n b)) (asking (result_of w.kind w.id) (requests_in r i)) (length l) (said x l)) x l x' l' g

  pub plain-told : {x' l' : List ℕ} {g : Served} → w.kind ≡ 0 → Tells (served_on (forest (emitting.pool_of n b)) (requests_in r count) (length l) (said x l)) x l x' l' g → Wants count x' l' g
  plain-told {x'} {l'} {g} h t =
      let e : asking (result_of w.kind w.id) (requests_in r count) ≡ requests_in r count
      = ap (λ k. asking (result_of k w.id) (requests_in r count)) h
      ∙ ap (λ (o : Option Result). asking o (requests_in r count)) (no_result w.id)
      ∙ asking-none (requests_in r count) (each_first NoResult (request_at r) count (λ k g. refl)) in
      subst (λ (qs : List Request). Tells (served_on (forest (emitting.pool_of n b)) qs (length l) (said x l)) x l x' l' g) (sym e) t

  -- the last request, by its number
  module _ (good : result_good w.kind w.id count ≡ true) (asked : w.kind ≡ 0 → ⊥) where
    pub wanted-asks : ServeAsks n e b A r x l m (count - 1 + 1)
    wanted-asks = rw (last-request w count good asked) a

    pub wanted-told : {x' l' : List ℕ} {g : Served} → (is_result w.kind ≡ true → Wants (count - 1 + 1) x' l' g) → Wants count x' l' g
    wanted-told {x'} {l'} {g} f = subst (λ i. Wants i x' l' g) (last-request w count good asked) (f (of-kind w count good asked))

-- ── judged in order ──────────────────────────────────────────────────────────
module _ (n e r : List ℕ) (c : Counts) (ask : WholeAsked n e r c) (w : Wanted) (x l : List ℕ) where
  abbrev pub Judged : List ℕ → List ℕ → List ℕ → Served → Type 0
  Judged ls x' l' g =
      (a : Answer Said) × Answered (pool_in n ls e c) (requests_in r c.requests) c.expressions c.requests w x l a × Tells a x l x' l' g

  abbrev tail : List ℕ → Answer (Unit {0}) → Answer Said
  tail ls v = v then λ _. served_on (forest (pool_in n ls e c)) (asking (result_of w.kind w.id) (requests_in r c.requests)) (length l) (said x l)

  abbrev Rest' : List ℕ → Answer Said → Type 0
  Rest' ls a =
      (g : Bool) × Exactly g (Good x c.expressions (length l)) × OrMalformed g a ((v : Answer (Unit {0})) × Verdict (pool_in n ls e c) [] v × (a ≡ tail ls v))

  pub bad-result : {v : Bool} → v ≡ result_good w.kind w.id c.requests → v ≡ false → (ls : List ℕ) → Judged ls x l (refusing refusal.Malformed)
  bad-result h o ls =
      let a : Answer Said = refused Refusal.malformed none in
      (a, subst (λ b. OrMalformed b a (Rest' ls a)) (sym (sym h ∙ o)) refl, record { says = refl; stands = (refl, refl) })

  module _ {v : Bool} (h : v ≡ result_good w.kind w.id c.requests) (o : v ≡ true) {g : Bool} (ex : Exactly g (Good x c.expressions (length l))) where
    checked : (ls : List ℕ) (a : Answer Said) → Rest' ls a → Answered (pool_in n ls e c) (requests_in r c.requests) c.expressions c.requests w x l a
    checked ls a t = subst (λ b. OrMalformed b a (Rest' ls a)) (sym (sym h ∙ o)) t

    pub bad-context : g ≡ false → (ls : List ℕ) → Judged ls x l (refusing refusal.Malformed)
    bad-context z ls =
        let a : Answer Said = refused Refusal.malformed none in
        let P : Type 0 = (u : Answer (Unit {0})) × Verdict (pool_in n ls e c) [] u × (a ≡ tail ls u) in
        (a, checked ls a (g, ex, subst (λ b. OrMalformed b a P) (sym z) refl), record { says = refl; stands = (refl, refl) })

    module _ (z : g ≡ true) where
      good-context : (ls : List ℕ) (a : Answer Said) → ((u : Answer (Unit {0})) × Verdict (pool_in n ls e c) [] u × (a ≡ tail ls u)) → Rest' ls a
      good-context ls a t = (g, ex, subst (λ b. OrMalformed b a ((u : Answer (Unit {0})) × Verdict (pool_in n ls e c) [] u × (a ≡ tail ls u))) (sym z) t)

      pub pool-refused :
          (ls : List ℕ) {k : Refusal} {i : Option ℕ} → Verdict (pool_in n ls e c) [] (refused k i) → (y : Served) → served_says y ≡ refused k i → Judged ls x l y
      pool-refused ls {k} {i} j y p =
          (refused k i, checked ls (refused k i) (good-context ls (refused k i) (refused k i, j, refl)), record { says = p; stands = (refl, refl) })

      pub serve-asks : (ls : List ℕ) (j : Verdict (pool_in n ls e c) [] (done tt)) → ServeAsks n e (rest n e r c ask ls) (acyclic n e r c ask ls j) r x l c.expressions c.requests
      serve-asks ls j = record { fresh = fresh-asks n e r c ask ls j; good = ex.0 z }

      pub result-good : result_good w.kind w.id c.requests ≡ true
      result-good = sym h ∙ o

      pub judged-served :
          (ls : List ℕ) → Verdict (pool_in n ls e c) [] (done tt) → {x' l' : List ℕ} {y : Served} → Tells (tail ls (done tt)) x l x' l' y → Judged ls x' l' y
      judged-served ls j t = (tail ls (done tt), checked ls (tail ls (done tt)) (good-context ls (tail ls (done tt)) (done tt, j, refl)), t)

-- ── what was read ────────────────────────────────────────────────────────────
module _ {u : Tables} {y : Answer Input} {r : std.Result Counts Refused} (a : ReadInto u r y) (w : Wanted) (x l : List ℕ) where
  abbrev Given : List ℕ → List ℕ → Served → Type 0
  Given x' l' g = (z : Answer Said) × Serves y w x l z × Tells z x l x' l' g

  unread : {k : Refusal} {o : Option ℕ} → refused k o ≡ y → Serves y w x l (refused k o)
  unread h = record {
    unread = λ k o q. same (h ∙ q);
    read = λ i q. absurd (done-not-refused (sym q ∙ sym h));
  }
    where
      same : {k k' : Refusal} {o o' : Option ℕ} → ◌≡◌ {A = Answer Input} (refused k o) (refused k' o') → ◌≡◌ {A = Answer Said} (refused k o) (refused k' o')
      same {k} {k'} {o} {o'} e =
          let p : k ≡ k' = cc in
          let q : o ≡ o' = cc in
          rw (p, q)

  pub refused-served : {f : Refused} → r ≡ Err f → Given x l (Err f)
  refused-served {f} q = (refused (refusal_of f.refusal) (blame_of f.node), unread (ap (held u) (sym q) ∙ a.answer), record { says = refl; stands = (refl, refl) })

  module _ {c : Counts} (q : r ≡ Ok c) where
    expressions_count : length (input_in u c).expressions ≡ c.expressions
    unfolding input_in
    expressions_count = first-length (expression_in u.expressions) c.expressions

    requests-count : length (input_in u c).requests ≡ c.requests
    unfolding input_in
    requests-count = first-length (request_in u.requests) c.requests

    answered : (z : Answer Said) → Answered (pool_in u.nodes u.literals u.expressions c) (requests_in u.requests c.requests) c.expressions c.requests w x l z → Answered (pool_of (input_in u c)) (requests_of (input_in u c)) (length (input_in u c).expressions) (length (input_in u c).requests) w x l z
    answered z h =
        subst (λ (p : Pool). Answered p (requests_of (input_in u c)) (length (input_in u c).expressions) (length (input_in u c).requests) w x l z) (sym (pool-is a q))
        (subst (λ (qs : List Request). Answered (pool_in u.nodes u.literals u.expressions c) qs (length (input_in u c).expressions) (length (input_in u c).requests) w x l z) (sym (requests_are a q))
        (subst (λ m. Answered (pool_in u.nodes u.literals u.expressions c) (requests_in u.requests c.requests) m (length (input_in u c).requests) w x l z) (sym expressions_count)
        (subst (λ m. Answered (pool_in u.nodes u.literals u.expressions c) (requests_in u.requests c.requests) c.expressions m w x l z) (sym requests-count) h)))

    pub read-served :
        {x' l' : List ℕ} {g : Served} →
        ((ls : List ℕ) →
        (z : Answer Said) × Answered (pool_in u.nodes ls u.expressions c) (requests_in u.requests c.requests) c.expressions c.requests w x l z × Tells z x l x' l' g) →
        Given x' l' g
    read-served f =
        let t = f u.literals in (
          t.0,
          record {
            unread = λ k o e. absurd (done-not-refused (read_is a q ∙ e));
            read = λ i e.
                subst (λ (v : Input). Answered (pool_of v) (requests_of v) (length v.expressions) (length v.requests) w x l t.0) (done-same _ _ (read_is a q ∙ e)) (answered t.0 t.1);
          },
          t.2,
        )
