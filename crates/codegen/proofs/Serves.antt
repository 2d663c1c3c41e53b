-- Requests on a context that was loaded: planned, and then committed. No word of the code.
-- Assumes nothing.
use Prim.Native.Nat.{ℕ, zero, suc, ◌+◌, ◌*◌, ◌<◌}
use mathlib.Core.Path.{◌≡◌, refl, sym, ◌∙◌, ap, subst}
use mathlib.Core.Bool.{Bool, true, false, ◌||◌, cond}
use mathlib.Core.Option.{Option, none, some}
use mathlib.Core.List.{List, [], ◌∷◌, ◌++◌}
use native.Mathlib.Omega.{arith}
use lib.ListN.{length, length-take, length-drop, length-replicate}
use lib.Dec.{eqb}
use borrow.Author.Tests.{ne_eqb}
use Rattle.meaning.specs.Refusals.{Refusal, Answer, done, refused, ◌then◌}
use Rattle.meaning.specs.Trees.{Forest, Acyclic, Each}
use Rattle.meaning.specs.Steps.{Kind, kind_no}
use Rattle.meaning.specs.Order.{Marks, Job, Asked}
use Rattle.meaning.specs.Generation.{Result, result, Request, plain_result}
use Rattle.meaning.specs.Demand3.{NoResult}
use Rattle.meaning.specs.Asking.{both, ask_one, ask_all, ask-snoc}
use Rattle.meaning.specs.Holding.{result_allowed, all-asks, last-asks}
use Rattle.meaning.proofs.Laws.Once.{Chain}
use Rattle.meaning.proofs.Laws.Tests.{then-done, done-same, done-not-refused, true-false}
use Rattle.std.specs.Prelude.{Ok, Err}
use Rattle.std.specs.Prelude as std
use Rattle.kinds.specs.Answers.{refusing}
use Rattle.kinds.specs.Kinds.{is_result}
use Rattle.kinds.specs.Write.{write}
use Rattle.kinds.specs.References.{plain_ref}
use Rattle.kinds.specs.declared.reference.Reference.{Reference}
use Rattle.kinds.specs.declared.refusal.Refusal.TheVariants as refusal
use Rattle.kinds.specs.declared.refusal.Refused.{Refused}
use Rattle.frames.specs.Tables.{request_in, first}
use Rattle.frames.specs.declared.rest.Request as frame
use Rattle.pool.specs.Trees.{forest}
use Rattle.starkinfo_codegen.specs.Emitting.{Rest, pool_of}
use Rattle.starkinfo_codegen.specs.Ordering.{cell_of, marks_of}
use Rattle.starkinfo_codegen.specs.Requests.{start-state}
use Rattle.requests.specs.Planning.{request_at, requests_in, Adds, Says, PlanAsks}
use Rattle.requests.specs.Last.{MarkedBefore, LastSays}
use Rattle.requests.specs.Making.{E}
use Rattle.requests.specs.Jobs.{each_first, jobs-ask, jobs-there, jobs-once}
use Rattle.requests.specs.declared.last.LastPlan.{LastPlan}
use Rattle.context.specs.Context.{cells, blocks_in, steps_in, temporaries_in, Good}
use Rattle.context.specs.Tables.{marks_in, words_in, MarksAsk, LoadAsks}
use Rattle.context.specs.Held.{loaded-held, good-sound}
use Rattle.codegen.specs.Said.{Said, said, adding, sayings, sayings_lawful, copying}
use Rattle.codegen.specs.Results.{result_from, result_of, asking, kind-of}
use Rattle.codegen.specs.declared.asked.Wanted.{Wanted}
use Rattle.codegen.specs.Written.{fitting}
use Rattle.codegen.specs.Committing.{Served, served_says, Tells, no_words, CommitAsks, after_jobs, copied}
use Rattle.codegen.specs.Serving.{served_on, ServeAsks}
use Rattle.codegen.specs.Pigeons.{table-room}

pub refusal-tells : {k : Refusal} {o : Option ℕ} (a : Answer Said) (x l : List ℕ) (g : Served) → served_says g ≡ refused k o → a ≡ refused k o → Tells a x l x l g
refusal-tells a x l g p e = subst (λ (y : Answer Said). Tells y x l x l g) (sym e) (record { says = p; stands = (refl, refl) })

-- ── loading ──────────────────────────────────────────────────────────────────
module _ {x : List ℕ} {m room : ℕ} (g : Good x m room) where
  pub marks-asks : (s : List ℕ) → length s ≡ cells → MarksAsk x s
  marks-asks s h = record { size = g.head.size; full = h }

  pub words-asks : (t : List ℕ) → length t ≡ cells → LoadAsks x t
  words-asks t h = record { context = record { size = g.head.size; few = g.head.few_blocks }; full = h }

  pub marks-size : length (marks_in x) ≡ cells
  marks-size = simp (length-take, length-drop) (omega (arith, g.head.size))

-- ── planning ─────────────────────────────────────────────────────────────────
module _ {n e : List ℕ} {b : Rest} {A : Acyclic (forest (pool_of n b))} {r x l : List ℕ} {m count : ℕ} (a : ServeAsks n e b A r x l m count) {s : List ℕ} (load : s ≡ marks_in x) where
  abbrev F : Forest
  F = forest (pool_of n b)

  size-s : length s ≡ cells
  size-s = ap length load ∙ marks-size a.good

  pub plan-asks : (j : List ℕ) → length j ≡ cells → PlanAsks n e b A r s j m count
  plan-asks j h = record {
    world = a.fresh.world;
    state = start-state s j size-s h;
    expressions = a.fresh.expressions;
    few = a.fresh.few;
    in_rows = a.fresh.in_rows;
  }

  -- ── committing ─────────────────────────────────────────────────────────────
  module _ {j : List ℕ} (size : length j ≡ cells) {s' j' : List ℕ} {k : ℕ} (d : Adds (ask_all 2 F (requests_in r count) (marks_of s)) s' j j' 0 k) where
    pub commit-asks : {t : List ℕ} → t ≡ write no_words 0 (words_in x (blocks_in x)) → CommitAsks n e b d.jobs j' s' t x l k
    commit-asks {t} h =
        let p = plan-asks j size in
        let q = jobs-ask n e b A p d in
        let good = subst (λ i. Good x i (length l)) a.fresh.expressions a.good in
        let sound = good-sound x (marks_in x) (write no_words 0 (words_in x (blocks_in x))) (blocks_in x) (steps_in x) (temporaries_in x) b.expression_count (length l)
        (loaded-held x no_words b.expression_count (length l) a.fresh.world.few (length-replicate {A = ℕ} 1024 0) good) good in
        let room = table-room sound (marks-size a.good) a.fresh.world.few d.jobs (jobs-there n e b A p d)
        (subst (λ (u : List ℕ). Chain (marks_of u) d.jobs) load (jobs-once n e b A p d)) in
        record { jobs = q; rows = a.fresh.rows; good = good; marks = d.state.marks_size; loaded = h; room = omega (arith, room, q.count) }

-- ── without a result ─────────────────────────────────────────────────────────
module _ (F : Forest) (r : List ℕ) (count : ℕ) (x l : List ℕ) where
  no_results : Each NoResult (requests_in r count)
  no_results = each_first NoResult (request_at r) count (λ k h. refl)

  abbrev answer : Answer Said
  answer = served_on F (requests_in r count) (length l) (said x l)

  asked_is : answer ≡ ((ask_all 2 F (requests_in r count) (marks_of (marks_in x)) then λ a. done (adding F a (said x l))) then fitting (length l))
  asked_is = ap (λ (z : Answer Said). z then fitting (length l)) (all-asks 2 F (sayings F) (sayings_lawful F) (requests_in r count) no_results (said x l))

  pub plain-refused : {k : Refusal} {o : Option ℕ} → ask_all 2 F (requests_in r count) (marks_of (marks_in x)) ≡ refused k o → answer ≡ refused k o
  plain-refused h = asked_is ∙ rw h

  pub plain-planned :
      {js : List Job} {ms : Marks} → ask_all 2 F (requests_in r count) (marks_of (marks_in x)) ≡ done (record { jobs = js; marks = ms }) →
      answer ≡ fitting (length l) (after_jobs F js ms (said x l))
  plain-planned h = asked_is ∙ rw h

-- what a plan says, by its case
pub told : (y : Answer Asked) (s' j j' : List ℕ) (n : ℕ) (p q : std.Result ℕ Refused) → Says y s' j j' n p → p ≡ q → Says y s' j j' n q
told y s' j j' n p q g e = subst (Says y s' j j' n) e g

module _ {n e : List ℕ} {b : Rest} {A : Acyclic (forest (pool_of n b))} {r x l : List ℕ} {m count : ℕ} (a : ServeAsks n e b A r x l m count) {s : List ℕ} (load : s ≡ marks_in x) where
  abbrev H : Forest
  H = forest (pool_of n b)

  marks_are : ask_all 2 H (requests_in r count) (marks_of (marks_in x)) ≡ ask_all 2 H (requests_in r count) (marks_of s)
  marks_are = ap (λ (u : List ℕ). ask_all 2 H (requests_in r count) (marks_of u)) (sym load)

  module _ (s' j j' : List ℕ) (p : std.Result ℕ Refused) (g : Says (ask_all 2 H (requests_in r count) (marks_of s)) s' j j' 0 p) where
    abbrev S : std.Result ℕ Refused → Type 0
    S = Says (ask_all 2 H (requests_in r count) (marks_of s)) s' j j' 0

    pub plain-stopped : {f : Refused} → p ≡ Err f → Tells (answer H r count x l) x l x l (Err f)
    plain-stopped {f} q = refusal-tells (answer H r count x l) x l (Err f) refl (plain-refused H r count x l (marks_are ∙ (subst S q g).0))

    pub planned : {k : ℕ} → p ≡ Ok k → Adds (ask_all 2 H (requests_in r count) (marks_of s)) s' j j' 0 k
    planned q = subst S q g

    pub plain-served :
        {k : ℕ} (q : p ≡ Ok k) {x' l' : List ℕ} {v : Served} →
        Tells (fitting (length l) (after_jobs (E n e b) (planned q).jobs (marks_of s') (said x l))) x l x' l' v → Tells (answer H r count x l) x l x' l' v
    plain-served q {x'} {l'} {v} t = subst (λ (y : Answer Said). Tells y x l x' l' v) (sym (plain-planned H r count x l (marks_are ∙ (planned q).is))) t

-- ── with a result ────────────────────────────────────────────────────────────
abbrev with_result : Option Result → Request → Request
with_result y q = record { expression = q.expression; row = q.row; fused = q.fused; result = y }

asking-last : (y : Option Result) (qs : List Request) (q : Request) → asking y (qs ++ (q ∷ [])) ≡ qs ++ (with_result y q ∷ [])
asking-last y [] q = refl
asking-last y (p ∷ []) q = refl
asking-last y (p ∷ o ∷ qs) q = ap (λ (z : List Request). p ∷ z) (asking-last y (o ∷ qs) q)

one_more : (r : List ℕ) (k : ℕ) → requests_in r (k + 1) ≡ requests_in r k ++ (request_at r k ∷ [])
unfolding first
one_more r k = let e : k + 1 ≡ suc k = omega arith in rw e

module _ (F : Forest) (r : List ℕ) (k : ℕ) (x l : List ℕ) (kd : Kind) (id : ℕ) where
  abbrev y : Option Result
  y = some (result kd id)

  abbrev q : Request
  q = with_result y (request_at r k)

  abbrev M : List ℕ
  M = marks_in x

  abbrev pub wanted : Answer Said
  wanted = served_on F (asking y (requests_in r (k + 1))) (length l) (said x l)

  front-plain : Each NoResult (requests_in r k)
  front-plain = each_first NoResult (request_at r) k (λ i h. refl)

  unfoldable phases : Answer Said
  phases =
      ask_all 2 F (requests_in r k) (marks_of M) then λ a. ask_one 2 F q a.marks then λ b. result_allowed q (a.marks q.expression q.row) then λ _.
      copying q.expression q.row (result kd id) (adding F (both a b) (said x l))

  wanted-is : wanted ≡ (phases then fitting (length l))
  unfolding phases
  wanted-is =
      ap (λ (qs : List Request). served_on F qs (length l) (said x l)) (ap (asking y) (one_more r k) ∙ asking-last y (requests_in r k) (request_at r k))
      ∙ ap (λ (z : Answer Said). z then fitting (length l)) (last-asks 2 F (sayings F) (sayings_lawful F) (requests_in r k) q front-plain (said x l))

  all-is : ask_all 2 F (requests_in r (k + 1)) (marks_of M) ≡ (ask_all 2 F (requests_in r k) (marks_of M) then λ a. ask_one 2 F q a.marks then λ b. done (both a b))
  all-is = ap (λ (qs : List Request). ask_all 2 F qs (marks_of M)) (one_more r k) ∙ ask-snoc 2 F (requests_in r k) (request_at r k) (marks_of M)

  pub wanted-refused : {f : Refusal} {o : Option ℕ} → ask_all 2 F (requests_in r (k + 1)) (marks_of M) ≡ refused f o → wanted ≡ refused f o
  unfolding phases
  wanted-refused {f} {o} h = wanted-is ∙ ap (λ (z : Answer Said). z then fitting (length l)) (go (ask_all 2 F (requests_in r k) (marks_of M)) (sym all-is ∙ h))
    where
      same : {B C : Type 0} {f' : Refusal} {o' : Option ℕ} → ◌≡◌ {A = Answer B} (refused f' o') (refused f o) → ◌≡◌ {A = Answer C} (refused f' o') (refused f o)
      same {f' = f'} {o' = o'} e =
          let p : f' ≡ f = cc in
          let u : o' ≡ o = cc in
          rw (p, u)

      then_one :
          (a : Asked) (z : Answer Asked) → (z then λ b. done (both a b)) ≡ refused f o →
          (z then λ b. result_allowed q (a.marks q.expression q.row) then λ _. copying q.expression q.row (result kd id) (adding F (both a b) (said x l))) ≡ refused f o
      then_one a (done b) e = absurd (done-not-refused e)
      then_one a (refused f' o') e = same e

      go :
          (z : Answer Asked) → (z then λ a. ask_one 2 F q a.marks then λ b. done (both a b)) ≡ refused f o →
          (z then λ a. ask_one 2 F q a.marks then λ b. result_allowed q (a.marks q.expression q.row) then λ _.
          copying q.expression q.row (result kd id) (adding F (both a b) (said x l))) ≡ refused f o
      go (done a) e = then_one a (ask_one 2 F q a.marks) e
      go (refused f' o') e = same e

  -- planned, and the mark before it known
  module _
      {js : List Job} {ms : Marks} (h : ask_all 2 F (requests_in r (k + 1)) (marks_of M) ≡ done (record { jobs = js; marks = ms }))
      (c : Asked) (before : ask_all 2 F (requests_in r k) (marks_of M) ≡ done c) where
    wanted-planned : wanted ≡ ((result_allowed q (c.marks q.expression q.row) then λ _. copying q.expression q.row (result kd id) (after_jobs F js (ms) (said x l))) then fitting (length l))
    unfolding phases
    wanted-planned =
        let z : (ask_one 2 F q c.marks then λ b. done (both c b)) ≡ done (record { jobs = js; marks = ms }) = rw before at (sym all-is ∙ h) in
        let w = then-done (ask_one 2 F q c.marks) _ z in
        let eq : both c w.0 ≡ record { jobs = js; marks = ms } = done-same (both c w.0) (record { jobs = js; marks = ms }) w.2 in
        wanted-is
        ∙ rw (before, w.1)
        (ap
        (λ (u : Asked).
        (result_allowed q (c.marks q.expression q.row) then λ _. copying q.expression q.row (result kd id) (adding F u (said x l))) then fitting (length l))
        eq)

    pub wanted-allowed :
        (c.marks q.expression q.row || eqb q.row 0) ≡ true →
        wanted ≡ (copying q.expression q.row (result kd id) (after_jobs F js (ms) (said x l)) then fitting (length l))
    wanted-allowed g = wanted-planned ∙ rw (allowed (c.marks q.expression q.row) q.row g)
      where
        allowed : (b : Bool) (row : ℕ) → (b || eqb row 0) ≡ true → cond b (done tt) (plain_result row y) ≡ done tt
        allowed true row u = refl
        allowed false zero u = refl
        allowed false (suc row) u = absurd (true-false u (ne_eqb (suc row) 0 (λ e. omega arith)))

    pub wanted-primed : (c.marks q.expression q.row || eqb q.row 0) ≡ false → wanted ≡ refused Refusal.no_primed_mark none
    wanted-primed g = wanted-planned ∙ rw (denied (c.marks q.expression q.row) q.row g)
      where
        denied : (b : Bool) (row : ℕ) → (b || eqb row 0) ≡ false → cond b (done tt) (plain_result row y) ≡ refused Refusal.no_primed_mark none
        denied true row u = absurd (true-false refl u)
        denied false zero u = absurd (true-false refl u)
        denied false (suc row) u = refl

-- the destination of a result
pub copy-into : (e row kind id : ℕ) (kd : Kind) → kind_no kd ≡ kind → (st : Said) → copying e row (result kd id) st ≡ copied e row (plain_ref kind row id) st
copy-into e row kind id kd h st = ap (λ k. copied e row (plain_ref k row id) st) h

module _ {n e : List ℕ} {b : Rest} {A : Acyclic (forest (pool_of n b))} {r x l : List ℕ} {m : ℕ} (k : ℕ) (a : ServeAsks n e b A r x l m (k + 1)) {s : List ℕ} (load : s ≡ marks_in x) (w : Wanted) (is : is_result w.kind ≡ true) where
  abbrev I : Forest
  I = forest (pool_of n b)

  kd : Kind
  kd = (kind-of w.kind is).0

  abbrev wants : Answer Said
  wants = served_on I (asking (result_of w.kind w.id) (requests_in r (k + 1))) (length l) (said x l)

  wants_is : wants ≡ wanted I r k x l kd w.id
  unfolding kd result_of
  wants_is = ap (λ (o : Option Kind). served_on I (asking (result_from o w.id) (requests_in r (k + 1))) (length l) (said x l)) (kind-of w.kind is).1

  pub loaded-is : (i : ℕ) → ask_all 2 I (requests_in r i) (marks_of (marks_in x)) ≡ ask_all 2 I (requests_in r i) (marks_of s)
  loaded-is i = ap (λ (u : List ℕ). ask_all 2 I (requests_in r i) (marks_of u)) (sym load)

  abbrev all_asked : Answer Asked
  all_asked = ask_all 2 I (requests_in r (k + 1)) (marks_of s)

  module _ (s' j j' : List ℕ) (p : std.Result LastPlan Refused) (g : LastSays (MarkedBefore I r k s) all_asked s' j j' 0 p) where
    abbrev L : std.Result LastPlan Refused → Type 0
    L = LastSays (MarkedBefore I r k s) all_asked s' j j' 0

    pub result-stopped : {f : Refused} → p ≡ Err f → Tells wants x l x l (Err f)
    result-stopped {f} q = refusal-tells wants x l (Err f) refl (wants_is ∙ wanted-refused I r k x l kd w.id (loaded-is (k + 1) ∙ (subst L q g).0))

    module _ {y : LastPlan} (q : p ≡ Ok y) where
      pub last-planned : Adds all_asked s' j j' 0 y.jobs
      last-planned = (subst L q g).0

      before : MarkedBefore I r k s y.marked
      before = (subst L q g).1

      module _ (f : frame.Request) (h : f ≡ request_in r k) {v : Bool} (o : v ≡ (y.marked || eqb f.prime 0)) where
        allowed-is : (before.before.marks (request_at r k).expression (request_at r k).row || eqb (request_at r k).row 0) ≡ v
        allowed-is = rw (← before.marked) (ap (λ (z : frame.Request). y.marked || eqb z.prime 0) (sym h)) ∙ sym o

        pub result-primed : v ≡ false → Tells wants x l x l (refusing refusal.NoPrimedMark)
        result-primed z =
            refusal-tells wants x l (refusing refusal.NoPrimedMark) refl
            (wants_is ∙ wanted-primed I r k x l kd w.id (loaded-is (k + 1) ∙ last-planned.is) before.before (loaded-is k ∙ before.is) (allowed-is ∙ z))

        pub result-cell : {cell : ℕ} → cell ≡ 2 * f.expression + f.prime → cell ≡ cell_of (request_in r k).expression (request_in r k).prime
        result-cell c = c ∙ ap (λ (z : frame.Request). 2 * z.expression + z.prime) h

        pub row_low : (request_in r k).prime < 2
        row_low = a.fresh.in_rows k (omega arith)

        pub result-served :
            v ≡ true → {x' l' : List ℕ} {z' : Served} {d : Reference} → d ≡ plain_ref w.kind f.prime w.id →
            Tells (copied (request_in r k).expression (request_in r k).prime d (after_jobs (E n e b) last-planned.jobs (marks_of s') (said x l)) then fitting (length l)) x l x' l' z' →
            Tells wants x l x' l' z'
        unfolding kd
        result-served z {x'} {l'} {z'} {d} c t =
            let st = after_jobs I last-planned.jobs (marks_of s') (said x l) in
            let ee = (request_in r k).expression in
            let row = (request_in r k).prime in
            let dd : d ≡ plain_ref w.kind row w.id = c ∙ ap (λ (u : frame.Request). plain_ref w.kind u.prime w.id) h in
            let eq : wants ≡ (copied ee row d st then fitting (length l))
            = wants_is
            ∙ wanted-allowed I r k x l kd w.id (loaded-is (k + 1) ∙ last-planned.is) before.before (loaded-is k ∙ before.is) (allowed-is ∙ z)
            ∙ ap (λ (u : Answer Said). u then fitting (length l)) (copy-into ee row w.kind w.id kd (kind-of w.kind is).2 st ∙ ap (λ (u : Reference). copied ee row u st) (sym dd)) in
            subst (λ (u : Answer Said). Tells u x l x' l' z') (sym eq) t

-- what was planned, whatever result is asked for
pub planned-last :
    {n e : List ℕ} {b : Rest} {A : Acyclic (forest (pool_of n b))} {r x l : List ℕ} {m : ℕ} (k : ℕ) (a : ServeAsks n e b A r x l m (k + 1)) {s : List ℕ} → s ≡ marks_in x →
    (s' j j' : List ℕ) (p : std.Result LastPlan Refused) → LastSays (MarkedBefore (forest (pool_of n b)) r k s) (ask_all 2 (forest (pool_of n b)) (requests_in r (k + 1)) (marks_of s)) s' j j' 0 p →
    {y : LastPlan} → p ≡ Ok y → Adds (ask_all 2 (forest (pool_of n b)) (requests_in r (k + 1)) (marks_of s)) s' j j' 0 y.jobs
planned-last {n = n} {b = b} {r = r} k a {s} load s' j j' p g q =
    (subst (LastSays (MarkedBefore (forest (pool_of n b)) r k s) (ask_all 2 (forest (pool_of n b)) (requests_in r (k + 1)) (marks_of s)) s' j j' 0) q g).0
