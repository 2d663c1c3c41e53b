-- DEMAND 3 OF THE EXPORTED FUNCTIONS: the steps that they write compute what the customer wrote. Of a whole run; of a build, whatever calls came before it; of fixing by a plan; over
-- the integers and modulo every number from 2 up. `Computes` (meaning/specs/Demand3.antt) says: the list runs to its end, reads nothing early, and leaves in each requested cell
-- its expression's value; `PlanComputes` (plan_demand3) says so of the list after fixing, in the cell that fixing gave each request.
-- Assumes nothing.
use Rattle.std.specs.Prelude.{ℕ, ◌<◌, ◌≤◌, ◌≡◌, refl, Bool, true, false, cond, List, [], ◌++◌, length, get_or, set, eqb, Ok}
use Rattle.std.proofs.Common.{sym, ◌∙◌, ap, subst, arith, get_or-set_same, get_or-set_other}
use Rattle.std.proofs.Math.Option.{none}
use Rattle.kinds.specs.Write.{write}
use Rattle.meaning.specs.Refusals.{Refusal, Answer, done, refused, answer_no, ◌then◌}
use Rattle.meaning.specs.Trees.{Forest, Acyclic, Each}
use Rattle.meaning.specs.Values.{Algebra, Given}
use Rattle.meaning.specs.Models.{integers, modulo}
use Rattle.meaning.specs.Steps.{Step}
use Rattle.meaning.specs.Generation.{Request}
use Rattle.meaning.specs.Building.{Segment}
use Rattle.meaning.specs.Demand3.{NoResult, PlainLeaf, Throughout, AllGiven, Fed, Computes}
use Rattle.meaning.proofs.Laws.Tests.{done-same, done-not-refused, number-not-zero, each-join}
use Rattle.frames.specs.Order.{Input}
use Rattle.frames.specs.Reading.{reading}
use Rattle.frames.specs.Taking.{Bytes}
use Rattle.pool.specs.Trees.{forest}
use Rattle.pool.specs.Verdict.{Verdict}
use Rattle.pool.specs.Exactly.{exactly_0}
use Rattle.pool.specs.Numbered.{pool_of}
use Rattle.starkinfo_codegen.specs.Encoding.{encoded, records, records-length}
use Rattle.requests.specs.Whole.{list_after}
use Rattle.requests.specs.Runs.{requests_of, BytesRun}
use Rattle.requests.specs.Serving.{plain-requests}
use Rattle.requests.specs.Demand3.{demand3-read}
use Rattle.builds.specs.Raw.{RawSegment}
use Rattle.context.specs.Context.{context_size}
use Rattle.context.specs.Tables.{fresh_bytes}
use Rattle.codegen.specs.Said.{Said, said, segment_said}
use Rattle.codegen.specs.Written.{Stands}
use Rattle.codegen.specs.Serving.{OrMalformed, Serves}
use Rattle.codegen.specs.Building.{Lists, fits_all, AnsweredBuild, StandsBuilt, sizes, forest_read}
use Rattle.codegen.specs.Sessions.{Session, demand3-session}
use Rattle.plan_walks.specs.Walks.{Walked}
use Rattle.plan_walks.specs.Fix.{is_n, FixIs}
use Rattle.plan_demand3.specs.Conditions.{IntermediatesDiffer, NoLeafReadsIntermediate, plan_for}
use Rattle.plan_demand3.specs.Demand3Plan.{PlanComputes}
use Rattle.plan_demand3.proofs.Demand3Plan.{demand3-plan}
use Rattle.host.specs.Numbered.{FreshNumbered, ServeNumbered, BuildNumbered, wanted, sizes_told, cells_told}
use Rattle.host.specs.Runs.{RunNumbered}
use Rattle.host.specs.Plans.{WalkCounted}

-- ── a whole run ──────────────────────────────────────────────────────────────
-- the frames were read, and these steps, which stand at the front of the list, compute what pool and requests say
pub record RunComputes (𝓐 : Algebra) (s l l' : List ℕ) : Type 0 where
  pub input : Input
  pub read : reading s ≡ done input
  pub steps : List Step
  pub list : l' ≡ write l 0 (encoded steps)
  pub computes : (G : Given 𝓐.A) → Throughout PlainLeaf (forest (pool_of input)) → AllGiven 2 G → Computes 𝓐 G (forest (pool_of input)) steps (requests_of input)

-- enonkasse_run: wherever the number is 0
abbrev pub Demand3Run : Algebra → Type 0
Demand3Run 𝓐 = (s l l' z z' : List ℕ) → RunNumbered s l l' z z' 0 → RunComputes 𝓐 s l l'

-- ── a build, whatever calls came before it ───────────────────────────────────
-- calls of enonkasse_fresh and enonkasse_serve that were answered with 0, each with frames of a pool that stands for E and no result asked for: all their requests, and the context
-- and its list after them
pub data Calls (E : Forest) : List Request → List ℕ → List ℕ → Type 0 where
  fresh : (x x' l : List ℕ) → FreshNumbered x x' 0 → Calls E [] x' l
  serve :
      (qs : List Request) (x l : List ℕ) → Calls E qs x l → (s : List ℕ) (i : Input) → reading s ≡ done i → forest (pool_of i) ≡ E →
      (x' l' : List ℕ) → ServeNumbered s (wanted 0 0) x x' l l' 0 → Calls E (qs ++ requests_of i) x' l'

-- these steps, as many as are told, stand at the front of the first list and compute what the pool and all the requests say
pub record BuildComputes (𝓐 : Algebra) (G : Given 𝓐.A) (E : Forest) (qs : List Request) (o o' : Lists) (z z' : List ℕ) : Type 0 where
  pub steps : List Step
  pub list : o'.first ≡ write o.first 0 (encoded steps)
  pub told : 0 < length z → get_or z' 0 0 ≡ length steps
  pub computes : Computes 𝓐 G E steps qs

-- enonkasse_build, with frames of that pool: wherever the number is 0
abbrev pub Demand3Build : Algebra → Type 0
Demand3Build 𝓐 =
    (E : Forest) (qs : List Request) (x l : List ℕ) → Calls E qs x l → (s : List ℕ) (i : Input) → reading s ≡ done i → forest (pool_of i) ≡ E →
    (x' : List ℕ) (o o' : Lists) (z z' : List ℕ) → BuildNumbered s x x' l o o' z z' 0 →
    (G : Given 𝓐.A) → Throughout PlainLeaf E → AllGiven 2 G → BuildComputes 𝓐 G E qs o o' z z'

-- ── fixing by a plan ─────────────────────────────────────────────────────────
-- enonkasse_fix, of the three lists of a run of the same frames with the run's counter, by a plan whose intermediates have cm numbers of their own that no cm leaf reads: wherever the
-- number is 0. q and x-kind leaves may occur where each is given a value.
abbrev pub Demand3Fix : Algebra → Type 0
Demand3Fix 𝓐 =
    (s : List ℕ) (room : ℕ) (g : Segment) → BytesRun s room (done g) → (i : Input) → reading s ≡ done i →
    (b : List ℕ) → Bytes b → IntermediatesDiffer b → Throughout (NoLeafReadsIntermediate b) (forest (pool_of i)) →
    (domain : ℕ) (z z' first' i' last' : List ℕ) → get_or z 0 0 ≡ g.counter →
    WalkCounted s b domain z z' (encoded g.first) (encoded g.i) (encoded g.last) first' i' last' 0 →
    (G : Given 𝓐.A) → Throughout (Fed 2 G) (forest (pool_of i)) →
    (n : ℕ) × (z' ≡ set z 0 n) × PlanComputes 𝓐 G i g (plan_for (is_n domain) b (pool_of i)) first' i' last' n

-- ── the proofs ───────────────────────────────────────────────────────────────
-- a number 0 is that of an answer that is done
pub is-done : {A : Type 0} (a : Answer A) → 0 ≡ answer_no a → (x : A) × (a ≡ done x)
is-done (done x) e = (x, refl)
is-done (refused k o) e = absurd (number-not-zero k (sym e))

pub demand3-run : (𝓐 : Algebra) → Demand3Run 𝓐
demand3-run 𝓐 s l l' z z' h =
    let d = is-done h.0 h.2 in
    let c = demand3-read 𝓐 (reading s) (length l) d.0 (subst (BytesRun s (length l)) d.1 h.1) in
    record { input = c.0; read = c.1; steps = d.0.first; list = h.3 ∙ ap (list_after l) d.1; computes = c.2 }

-- calls are a session
pub session : (E : Forest) {qs : List Request} {x l : List ℕ} → Calls E qs x l → Session E qs x l
session E (Calls.fresh x x' l h) = go (eqb (length x) context_size) h.number h.bytes
  where
    go : (b : Bool) → ◌≡◌ {A = ℕ} 0 (cond b 0 1) → x' ≡ cond b (fresh_bytes context_size) x → Session E [] x' l
    go true e f = subst (λ (y : List ℕ). Session E [] y l) (sym f) (Session.fresh l)
    go false e f = absurd (omega (arith, e))
session E (Calls.serve qs x l c s i r same x' l' h) = go (session E c) h.0 h.1 h.2 h.3
  where
    go : Session E qs x l → (a : Answer Said) → Serves (reading s) (wanted 0 0) x l a → 0 ≡ answer_no a → Stands a x l x' l' → Session E (qs ++ requests_of i) x' l'
    go before (done st) v e t = Session.served qs x l before s i r same st (v.read i r) x' l' t.0 t.1
    go before (refused k o) v e t = absurd (number-not-zero k (sym e))

-- that ask for no result
none-asked : (E : Forest) {qs : List Request} {x l : List ℕ} → Calls E qs x l → Each NoResult qs
none-asked E (Calls.fresh x x' l h) = tt
none-asked E (Calls.serve qs x l c s i r same x' l' h) = each-join NoResult qs (requests_of i) (none-asked E c) (plain-requests i.requests)

-- a build that is done is that of an admitted pool, and its lists are the context's
module _ (i : Input) (x l : List ℕ) (o : Lists) (g : RawSegment) where
  abbrev of_context : RawSegment
  of_context = segment_said (forest (pool_of i)) (said x l)

  pub record IsBuilt : Type 0 where
    pub admitted : Verdict (pool_of i) [] (done tt)
    pub acyclic : Acyclic (forest (pool_of i))
    pub lists : g ≡ of_context
    pub fits : fits_all o of_context ≡ true

  -- what the verdict v makes of it
  abbrev judged_by : Answer (Unit {0}) → Answer RawSegment
  judged_by v = v then λ _. cond (fits_all o of_context) (done of_context) (refused Refusal.full none)

  pub built-is : AnsweredBuild (pool_of i) (length i.expressions) x l o (done g) → IsBuilt
  built-is (b, ex, h) = go b h
    where
      room : (t : Bool) → done g ≡ cond t (done of_context) (refused Refusal.full none) → (g ≡ of_context) × (t ≡ true)
      room true e = (done-same g of_context e, refl)
      room false e = absurd (done-not-refused e)

      judged : (v : Answer (Unit {0})) → Verdict (pool_of i) [] v → done g ≡ judged_by v → IsBuilt
      judged (done u) v e =
          let r = room (fits_all o of_context) e in
          record { admitted = v; acyclic = ((exactly_0 (pool_of i) (done u) v).0 refl).1; lists = r.0; fits = r.1 }
      judged (refused k n) v e = absurd (done-not-refused e)

      go : (b : Bool) → OrMalformed b (done g) ((v : Answer (Unit {0})) × Verdict (pool_of i) [] v × (done g ≡ judged_by v)) → IsBuilt
      go true (v, j, e) = judged v j e
      go false e = absurd (done-not-refused e)

-- the first size that is told
first-told : (z : List ℕ) (a b c : ℕ) → 0 < length z → get_or (set (set (set z 0 a) 1 b) 2 c) 0 0 ≡ a
first-told z a b c h =
    get_or-set_other (set (set z 0 a) 1 b) 2 0 c 0 (λ e. omega (arith, e)) ∙ get_or-set_other (set z 0 a) 1 0 b 0 (λ e. omega (arith, e)) ∙ get_or-set_same z 0 a 0 h

pub demand3-build : (𝓐 : Algebra) → Demand3Build 𝓐
unfolding encoded
demand3-build 𝓐 E qs x l calls s i r same x' o o' z z' h G leaves given =
    let d = is-done h.0 h.2 in
    let g : RawSegment = d.0 in
    let b = built-is i x l o g (subst (λ (a : Answer RawSegment). AnsweredBuild (pool_of i) (length i.expressions) x l o a) d.1 (h.1.read i r)) in
    let t = subst (λ (a : Answer RawSegment). StandsBuilt (forest_read (reading s)) a x l o x' o') d.1 h.3 in
    let y = demand3-session 𝓐 E (subst Acyclic same b.acyclic) qs x l (session E calls) (none-asked E calls) G leaves given in
    let first : g.first ≡ records y.0
    = ap (λ (u : RawSegment). u.first) b.lists ∙ ap (λ (F : Forest). (segment_said F (said x l)).first) same ∙ y.1 in
    record {
      steps = y.0;
      list = ap (λ (u : Lists). u.first) t.1 ∙ rw first;
      told =
          λ w.
          ap (λ (u : List ℕ). get_or u 0 0) (h.4 ∙ ap (λ (a : Answer RawSegment). sizes_told (a then λ u. done (sizes u)) z) d.1)
          ∙ first-told z (length g.first) (length g.i) (length g.last) w ∙ ap length first ∙ records-length y.0;
      computes = y.2;
    }

-- a call of enonkasse_fix that is answered with 0 is one of `fix` that is done, with the counter that it tells
pub fix_call :
    (s b : List ℕ) (domain : ℕ) (z z' first i last first' i' last' : List ℕ) (counter : ℕ) → get_or z 0 0 ≡ counter → WalkCounted s b domain z z' first i last first' i' last' 0 →
    (n : ℕ) × FixIs s b domain counter first i last first' i' last' (Ok n) × (z' ≡ set z 0 n)
fix_call s b domain z z' first i last first' i' last' counter counted h =
    let d = is-done h.0 h.2 in
    let n : ℕ = d.0.counter in
    let is : FixIs s b domain (get_or z 0 0) first i last first' i' last' (Ok n)
    = record { answer = h.0; goes = h.1; does = record { says = sym (ap (λ (a : Answer Walked). a then λ u. done u.counter) d.1); lists = h.3 } } in
    (n, subst (λ c. FixIs s b domain c first i last first' i' last' (Ok n)) counted is, h.4 ∙ ap (λ (a : Answer Walked). cells_told (a then λ u. done u.counter) z) d.1)

pub demand3-fix : (𝓐 : Algebra) → Demand3Fix 𝓐
demand3-fix 𝓐 s room g run i r b bytes differ alone domain z z' first' i' last' counted h G fed =
    let c = fix_call s b domain z z' (encoded g.first) (encoded g.i) (encoded g.last) first' i' last' g.counter counted h in
    (c.0, c.2, demand3-plan 𝓐 s room g run i r b bytes differ alone domain first' i' last' (Ok c.0) c.1 c.0 refl G fed)

-- ── over the integers, and modulo every number from 2 up ─────────────────────
pub demand3-run-integers : Demand3Run integers
demand3-run-integers = demand3-run integers

pub demand3-run-modulo : (n : ℕ) → 2 ≤ n → Demand3Run (modulo n)
demand3-run-modulo n h = demand3-run (modulo n)

pub demand3-build-integers : Demand3Build integers
demand3-build-integers = demand3-build integers

pub demand3-build-modulo : (n : ℕ) → 2 ≤ n → Demand3Build (modulo n)
demand3-build-modulo n h = demand3-build (modulo n)

pub demand3-fix-integers : Demand3Fix integers
demand3-fix-integers = demand3-fix integers

pub demand3-fix-modulo : (n : ℕ) → 2 ≤ n → Demand3Fix (modulo n)
demand3-fix-modulo n h = demand3-fix (modulo n)
