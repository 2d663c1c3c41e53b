-- The whole run over tables: requests on a fresh context, and the pool that is admitted before them. No word of the code.
-- Assumes nothing.
use Prim.Native.Nat.{ℕ, zero, suc, ◌+◌, ◌*◌, ◌-◌, ◌≤◌}
use mathlib.Core.Path.{◌≡◌, refl, sym, ◌∙◌, ap, subst}
use mathlib.Core.Bool.{Bool, true, false, ◌&&◌, cond}
use mathlib.Core.Option.{Option, none}
use mathlib.Core.List.{List, []}
use native.Mathlib.Omega.{arith}
use lib.ListN.{length, get_or, replicate}
use lib.Dec.{leb, ltb}
use borrow.Author.Tests.{leb-true, ltb-true, lt-ltb, le-leb}
use Rattle.std.specs.Prelude.{Result, Ok, Err, None}
use Rattle.std.specs.Prelude as std
use Rattle.meaning.specs.Refusals.{Refusal, Answer, done, refused, ◌then◌}
use Rattle.meaning.specs.Trees.{Forest, Acyclic, Each}
use Rattle.meaning.specs.Order.{Marks, unmarked, Job}
use Rattle.meaning.specs.Generation.{Request, start, make, adding}
use Rattle.meaning.specs.Building.{Segment, segment}
use Rattle.meaning.specs.Demand3.{NoResult}
use Rattle.meaning.specs.Asking.{ask_all}
use Rattle.meaning.proofs.Laws.Once.{all_found}
use Rattle.kinds.specs.Steps.{step_size}
use Rattle.kinds.specs.declared.refusal.Refusal as kinds
use Rattle.kinds.specs.declared.refusal.Refusal.TheVariants as refusal
use Rattle.kinds.specs.declared.refusal.Refused.{Refused}
use Rattle.frames.specs.declared.count.Counts.{Counts}
use Rattle.pool.specs.Trees.{forest}
use Rattle.pool.specs.Verdict.{Verdict}
use Rattle.starkinfo_codegen.specs.Emitting.{Rest, pool_of}
use Rattle.starkinfo_codegen.specs.Ordering.{marks_of}
use Rattle.starkinfo_codegen.specs.Requests.{start-state, start-marks}
use Rattle.starkinfo_codegen.specs.Totals.{counter_is}
use Rattle.requests.specs.Planning.{request_at, requests_in}
use Rattle.requests.specs.Making.{steps_from}
use Rattle.requests.specs.Generating.{number_limit, Fits, Makes, Stops, Serves, GenerateAsks}
use Rattle.requests.specs.Whole.{fitting, served, Answers, whole_says, Tells, FreshAsks, WholeAsked, pool_in}
use Rattle.requests.specs.declared.whole.Totals.{Totals}
use Rattle.requests.specs.declared.generate.Generation.{Generation}
use Rattle.requests.specs.Jobs.{each_first}
use Rattle.requests.specs.Admitted.{rest}
use Rattle.requests.specs.Serving.{whole-asks}

pub replicate-zero : (n c : ℕ) → ◌≡◌ {A = ℕ} (get_or (replicate n 0) c 0) 0
replicate-zero zero c = refl
replicate-zero (suc n) zero = refl
replicate-zero (suc n) (suc c) = replicate-zero n c

-- ── requests on a fresh context ──────────────────────────────────────────────
module _ (E : Forest) (qs : List Request) (h : Each NoResult qs) where
  pub served-refused : {k : Refusal} {o : Option ℕ} (room : ℕ) → ask_all 2 E qs unmarked ≡ refused k o → served E qs room ≡ refused k o
  served-refused room e = ap (λ (z : Answer Segment). z then fitting room) (whole-asks E qs h) ∙ rw e

  abbrev seg : List Job → Marks → Segment
  seg js m = segment E (adding E (record { jobs = js; marks = m }) start)

  served-done : {js : List Job} {m : Marks} (room : ℕ) → ask_all 2 E qs unmarked ≡ done (record { jobs = js; marks = m }) → served E qs room ≡ fitting room (seg js m)
  served-done room e = ap (λ (z : Answer Segment). z then fitting room) (whole-asks E qs h) ∙ rw e

  fits-done : (js : List Job) (m : Marks) (room : ℕ) → Fits E js 0 0 room → fitting room (seg js m) ≡ done (seg js m)
  fits-done js m room f =
      let a : step_size * length (steps_from E js 0) ≤ room = omega (arith, f.list) in
      rw (le-leb (step_size * length (steps_from E js 0)) room a, lt-ltb (make E js 0).counter number_limit f.counter)

  over-full : (js : List Job) (m : Marks) (room : ℕ) → (Fits E js 0 0 room → ⊥) → fitting room (seg js m) ≡ refused Refusal.full none
  over-full js m room f = go (leb (step_size * length (steps_from E js 0)) room) (ltb (make E js 0).counter number_limit) refl refl
    where
      go :
          (u v : Bool) → leb (step_size * length (steps_from E js 0)) room ≡ u → ltb (make E js 0).counter number_limit ≡ v →
          cond (u && v) (done (seg js m)) (refused Refusal.full none) ≡ refused Refusal.full none
      go true true p q =
          absurd (f (record { list = omega (arith, leb-true (step_size * length (steps_from E js 0)) room p); counter = ltb-true (make E js 0).counter number_limit q }))
      go true false p q = refl
      go false v p q = refl

module _ (w x : List ℕ) (b : Rest) (A : Acyclic (forest (pool_of w b))) {r : List ℕ} {m count : ℕ} (a : FreshAsks w x b A r m count) where
  abbrev G : Forest
  G = forest (pool_of w b)

  abbrev qs : List Request
  qs = requests_in r count

  pub generate-asks : {s j : List ℕ} → length s ≡ 1024 → length j ≡ 1024 → GenerateAsks w x b A r s j m count 0 0
  generate-asks {s} {j} hs hj = record {
    plan = record { world = a.world; state = start-state s j hs hj; expressions = a.expressions; few = a.few; in_rows = a.in_rows };
    rows = a.rows;
    steps = omega arith;
    temporaries = omega arith;
  }

  module _ (s : List ℕ) (z : (c : ℕ) → get_or s c 0 ≡ 0) where
    no_results : Each NoResult qs
    no_results = each_first NoResult (request_at r) count (λ k l. refl)

    ask-is : ask_all 2 G qs unmarked ≡ ask_all 2 G qs (marks_of s)
    ask-is = ap (ask_all 2 G qs) (sym (start-marks s z))

    tells-refused :
        {k : Refusal} {o : Option ℕ} (g : Result Totals Refused) → whole_says g ≡ refused k o → (l : List ℕ) {l' : List ℕ} → served G qs (length l) ≡ refused k o → l' ≡ l →
        Tells (served G qs (length l)) l l' g
    tells-refused g p l e q = rw e (record { says = p; list = q })

    module _ {s' j j' l l' : List ℕ} {n steps : ℕ} (k : Makes G (ask_all 2 G qs (marks_of s)) s' j j' l l' 0 0 n steps) where
      counters : (make G k.adds.jobs 0).counter + length k.adds.jobs ≡ 0 + length (steps_from G k.adds.jobs 0)
      counters = counter_is G k.adds.jobs 0 (all_found 2 G qs (marks_of s) _ k.adds.is)

      few-jobs : n ≤ steps
      few-jobs = omega (arith, counters, k.count, k.adds.count)

      tells-built : Tells (served G qs (length l)) l l' (Ok (record { steps = steps; counter = steps - n }))
      tells-built =
          let f = served-done G qs no_results (length l) (ask-is ∙ k.adds.is) ∙ fits-done G qs no_results k.adds.jobs (marks_of s') (length l) k.fits in
          let t : steps - n ≡ (make G k.adds.jobs 0).counter = omega (arith, counters, k.count, k.adds.count) in
          rw f (record { says = ap (λ u. done (record { steps = steps; counter = u })) t ∙ ap (λ u. done (record { steps = u; counter = (make G k.adds.jobs 0).counter })) k.count; list = k.list })

    module _ (s' j j' l l' : List ℕ) (g : Result Generation Refused) (d : Serves G (ask_all 2 G qs (marks_of s)) s' j j' l l' 0 0 g) where
      abbrev S : Result Generation Refused → Type 0
      S = Serves G (ask_all 2 G qs (marks_of s)) s' j j' l l' 0 0

      pub stopped : {f : Refused} → g ≡ Err f → Tells (served G qs (length l)) l l' (Err f)
      stopped {f} e = go f.refusal f.node (subst S e d)
        where
          go :
              (r : kinds.Refusal) (i : std.Option ℕ) → Stops G (ask_all 2 G qs (marks_of s)) s' j j' l l' 0 0 r i →
              Tells (served G qs (length l)) l l' (Err (record { refusal = r; node = i }))
          go refusal.Full None k =
              tells-refused (Err _) refl l
              (served-done G qs no_results (length l) (ask-is ∙ k.is) ∙ over-full G qs no_results k.jobs k.marks (length l) k.over) k.kept
          go r i k = tells-refused (Err _) refl l (served-refused G qs no_results (length l) (ask-is ∙ k.0)) k.1

      module _ {v : Generation} (e : g ≡ Ok v) where
        pub some-steps : v.jobs ≤ v.steps
        some-steps = few-jobs (subst S e d)

        pub made : Tells (served G qs (length l)) l l' (Ok (record { steps = v.steps; counter = v.steps - v.jobs }))
        made = tells-built (subst S e d)

-- ── the pool before them ─────────────────────────────────────────────────────
module _ (w x r : List ℕ) (c : Counts) (a : WholeAsked w x r c) (literals : List ℕ) where
  -- 2, 3 or 4
  pub pool-refused :
      {k : Refusal} {o : Option ℕ} → Verdict (pool_in w literals x c) [] (refused k o) → (l : List ℕ) (g : Result Totals Refused) → whole_says g ≡ refused k o →
      (z : Answer Segment) × Answers (pool_in w literals x c) (requests_in r c.requests) (length l) z × Tells z l l g
  pool-refused {k} {o} v l g e = (refused k o, (refused k o, v, refl), record { says = e; list = refl })

  pub pool-served :
      Verdict (pool_in w literals x c) [] (done tt) → (l l' : List ℕ) (g : Result Totals Refused) →
      Tells (served (forest (pool_of w (rest w x r c a literals))) (requests_in r c.requests) (length l)) l l' g →
      (z : Answer Segment) × Answers (pool_in w literals x c) (requests_in r c.requests) (length l) z × Tells z l l' g
  pool-served v l l' g t = (served (forest (pool_of w (rest w x r c a literals))) (requests_in r c.requests) (length l), (done tt, v, refl), t)
