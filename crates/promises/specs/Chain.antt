-- ONE CALL AFTER THE OTHER, all with the same frames and answered with 0: a fresh context, requests served, a build; then the lists that were built are fixed by a plan, and the first is
-- evaluated. The three lists are those of the whole run; what fixing leaves computes every request, and the evaluator tells its value.
-- Assumes nothing.
use Rattle.std.specs.Prelude.{ℕ, ◌+◌, ◌*◌, ◌<◌, ◌≤◌, ◌≡◌, refl, true, ◌&&◌, List, [], length, get_or, set, take, drop, leb}
use Rattle.std.proofs.Common.{sym, ◌∙◌, ap, subst, arith, length-set, take_at, get_or-set_same, get_or-set_other, le-leb, leb-true, lt-ltb}
use Rattle.kinds.specs.BigEndian.{u16_at}
use Rattle.kinds.specs.Write.{write, write-is}
use Rattle.kinds.specs.Steps.{step_size, steps_bytes}
use Rattle.meaning.specs.Refusals.{Answer, done, ◌then◌}
use Rattle.meaning.specs.Trees.{Forest}
use Rattle.meaning.specs.Values.{Algebra, Given}
use Rattle.meaning.specs.Models.{integers, modulo}
use Rattle.meaning.specs.Demand3.{Throughout, Fed}
use Rattle.meaning.specs.Generation.{State}
use Rattle.meaning.specs.Steps.{Step}
use Rattle.meaning.specs.Building.{Segment, segment, whole}
use Rattle.meaning.proofs.Laws.Tests.{done-same, done-not-refused, and_left, and_right}
use Rattle.frames.specs.Order.{Input}
use Rattle.frames.specs.Reading.{reading}
use Rattle.frames.specs.Taking.{Bytes}
use Rattle.pool.specs.Trees.{forest}
use Rattle.pool.specs.Verdict.{Verdict}
use Rattle.pool.specs.Numbered.{pool_of}
use Rattle.starkinfo_codegen.specs.Encoding.{encoded, encoded-length, records, records-length}
use Rattle.context.specs.Context.{temporaries_in}
use Rattle.requests.specs.Generating.{number_limit}
use Rattle.requests.specs.Whole as run
use Rattle.requests.specs.Runs.{requests_of, BytesRun}
use Rattle.builds.specs.Raw.{RawSegment}
use Rattle.builds.specs.RawOf.{raw_lists}
use Rattle.codegen.specs.Said.{Said, said, segment_said, segment-said}
use Rattle.codegen.specs.Building.{Lists, AnsweredBuild, StandsBuilt, forest_read, fits_all, sizes}
use Rattle.codegen.specs.Sessions.{session-holds}
use Rattle.evaluator_cells.specs.Keyed.{valued_size}
use Rattle.evaluator_cells.specs.Given.{lent, given, good_values}
use Rattle.plan_walks.specs.Fix.{is_n}
use Rattle.plan_demand3.specs.Conditions.{IntermediatesDiffer, NoLeafReadsIntermediate, plan_for}
use Rattle.plan_demand3.specs.Demand3Plan.{PlanComputes}
use Rattle.host.specs.Numbered.{FreshNumbered, ServeNumbered, BuildNumbered, EvaluateNumbered, wanted, sizes_told}
use Rattle.host.specs.Plans.{WalkCounted}
use Rattle.promises.specs.Demand3.{Calls, session, is-done, built-is, demand3-fix}
use Rattle.promises.specs.Evaluated.{AnswersFixed, evaluates_fixed}

-- ── the statement ────────────────────────────────────────────────────────────
-- these steps stand at the front of a list, and all else in it is what it was
pub record Fronted (l l' : List ℕ) (steps : List Step) : Type 0 where
  pub written : l' ≡ write l 0 (encoded steps)
  pub front : take (step_size * length steps) l' ≡ encoded steps

-- the lists of a whole run of the frames s, which is accepted where its list has so many bytes of room, and the run's counter, which stands in the context x
pub record RunLists (s x : List ℕ) (o o' : Lists) (z z' : List ℕ) : Type 0 where
  pub lists : Segment
  pub run : BytesRun s (step_size * length lists.first) (done lists)
  pub counter : temporaries_in x ≡ lists.counter
  pub first : Fronted o.first o'.first lists.first
  pub i : Fronted o.i o'.i lists.i
  pub last : Fronted o.last o'.last lists.last
  pub told : 3 ≤ length z → (get_or z' 0 0 ≡ length lists.first) × (get_or z' 1 0 ≡ length lists.i) × (get_or z' 2 0 ≡ length lists.last)

-- enonkasse_fresh, enonkasse_serve, enonkasse_build; the context between them holds bytes
abbrev pub ChainLists : Type 0
ChainLists =
    (s x x₁ x₂ x₃ l l₁ : List ℕ) (o o' : Lists) (z z' : List ℕ) → FreshNumbered x x₁ 0 → ServeNumbered s (wanted 0 0) x₁ x₂ l l₁ 0 → BuildNumbered s x₂ x₃ l₁ o o' z z' 0 →
    Bytes x₂ → (i : Input) → reading s ≡ done i → RunLists s x₂ o o' z z'

-- as many steps of a list as are told in z at k
abbrev pub told_front : ℕ → List ℕ → List ℕ → List ℕ
told_front k z l = take (step_size * get_or z k 0) l

-- enonkasse_fix, with the lists that were built and the context's counter: wherever the number is 0
abbrev pub ChainFix : Algebra → Type 0
ChainFix 𝓐 =
    (s x : List ℕ) (o o' : Lists) (z z' : List ℕ) → 3 ≤ length z → (R : RunLists s x o o' z z') → (i : Input) → reading s ≡ done i →
    (b : List ℕ) → Bytes b → IntermediatesDiffer b → Throughout (NoLeafReadsIntermediate b) (forest (pool_of i)) →
    (domain : ℕ) (c c' first' i' last' : List ℕ) → get_or c 0 0 ≡ temporaries_in x →
    WalkCounted s b domain c c' (told_front 0 z' o'.first) (told_front 1 z' o'.i) (told_front 2 z' o'.last) first' i' last' 0 →
    (G : Given 𝓐.A) → Throughout (Fed 2 G) (forest (pool_of i)) →
    (n : ℕ) × (c' ≡ set c 0 n) × PlanComputes 𝓐 G i R.lists (plan_for (is_n domain) b (pool_of i)) first' i' last' n

-- enonkasse_evaluate after it, with the fixed first list
abbrev pub ChainEvaluate : Type 0
ChainEvaluate =
    (s x : List ℕ) (o o' : Lists) (z z' : List ℕ) → 3 ≤ length z → (R : RunLists s x o o' z z') → (i : Input) → reading s ≡ done i →
    (b : List ℕ) → Bytes b → IntermediatesDiffer b → Throughout (NoLeafReadsIntermediate b) (forest (pool_of i)) →
    (domain : ℕ) (c c' first' i' last' : List ℕ) → get_or c 0 0 ≡ temporaries_in x →
    WalkCounted s b domain c c' (told_front 0 z' o'.first) (told_front 1 z' o'.i) (told_front 2 z' o'.last) first' i' last' 0 →
    (m : ℕ) → 2 ≤ m → (ws : List ℕ) → good_values ws ≡ true → Throughout (Fed 2 (given m (lent ws))) (forest (pool_of i)) →
    (v v' y y' : List ℕ) (n : ℕ) → valued_size * length R.lists.first ≤ length v → EvaluateNumbered s first' m ws v v' y y' n →
    AnswersFixed (plan_for (is_n domain) b (pool_of i)) R.lists i m ws v v' n

-- ── the proofs ───────────────────────────────────────────────────────────────

-- steps that fit a list stand at its front
fronted : (l l' : List ℕ) (steps : List Step) → l' ≡ write l 0 (encoded steps) → step_size * length steps ≤ length l → Fronted l l' steps
fronted l l' steps e h =
    let n : length (encoded steps) ≡ step_size * length steps = encoded-length steps in
    record {
      written = e;
      front = ap (take (step_size * length steps)) (e ∙ write-is l 0 (encoded steps) (omega (arith, n, h))) ∙ take_at (encoded steps) (drop (0 + length (encoded steps)) l) (step_size * length steps) n;
    }

-- the three sizes that are told
all_told :
    (z z' : List ℕ) (a b c : ℕ) → z' ≡ set (set (set z 0 a) 1 b) 2 c → 3 ≤ length z → (get_or z' 0 0 ≡ a) × (get_or z' 1 0 ≡ b) × (get_or z' 2 0 ≡ c)
all_told z z' a b c e h =
    let z₁ = set z 0 a in
    let z₂ = set z₁ 1 b in
    let n₁ : length z₁ ≡ length z = length-set z 0 a in
    let n₂ : length z₂ ≡ length z₁ = length-set z₁ 1 b in (
      ap (λ (u : List ℕ). get_or u 0 0) e ∙ get_or-set_other z₂ 2 0 c 0 (λ q. omega (arith, q)) ∙ get_or-set_other z₁ 1 0 b 0 (λ q. omega (arith, q)) ∙ get_or-set_same z 0 a 0 (omega (arith, h)),
      ap (λ (u : List ℕ). get_or u 1 0) e ∙ get_or-set_other z₂ 2 1 c 0 (λ q. omega (arith, q)) ∙ get_or-set_same z₁ 1 b 0 (omega (arith, h, n₁)),
      ap (λ (u : List ℕ). get_or u 2 0) e ∙ get_or-set_same z₂ 2 c 0 (omega (arith, h, n₁, n₂)),
    )

-- where all three fit
rooms : (o : Lists) (g : Segment) → fits_all o (raw_lists g) ≡ true → (step_size * length g.first ≤ length o.first) × (step_size * length g.i ≤ length o.i) × (step_size * length g.last ≤ length o.last)
unfolding fits_all
rooms o g h =
    let a = leb (step_size * length (records g.first)) (length o.first) in
    let b = leb (step_size * length (records g.i)) (length o.i) in
    let c = leb (step_size * length (records g.last)) (length o.last) in
    let r = and_right a (b && c) h in (
      fit g.first (length o.first) (and_left a (b && c) h),
      fit g.i (length o.i) (and_left b c r),
      fit g.last (length o.last) (and_right b c r),
    )
  where
    fit : (xs : List Step) (n : ℕ) → leb (step_size * length (records xs)) n ≡ true → step_size * length xs ≤ n
    fit xs n e = let k = leb-true (step_size * length (records xs)) n e in omega (arith, records-length xs, k)

pub run-lists : ChainLists
unfolding encoded u16_at Bytes
run-lists s x x₁ x₂ x₃ l l₁ o o' z z' f v b bytes i r =
    let E : Forest = forest (pool_of i) in
    let calls : Calls E (requests_of i) x₂ l₁ = Calls.serve [] x₁ l (Calls.fresh x x₁ l f) s i r refl x₂ l₁ v in
    let h = session-holds E (session E calls) in
    let g : Segment = segment E h.0 in
    let d = is-done b.0 b.2 in
    let k = built-is i x₂ l₁ o d.0 (subst (λ (a : Answer RawSegment). AnsweredBuild (pool_of i) (length i.expressions) x₂ l₁ o a) d.1 (b.1.read i r)) in
    let t = subst (λ (a : Answer RawSegment). StandsBuilt (forest_read (reading s)) a x₂ l₁ o x₃ o') d.1 b.3 in
    let is : d.0 ≡ raw_lists g = k.lists ∙ ap (segment_said E) h.2.says ∙ segment-said E h.0 in
    let made : whole 2 E (requests_of i) ≡ done g = ap (λ (a : Answer State). a then λ st. done (segment E st)) h.1 in
    let counter : (said x₂ l₁).counter ≡ g.counter = ap (λ (y : Said). y.counter) h.2.says in
    let small : g.counter < number_limit = let p = bytes 8 in let q = bytes 9 in omega (arith, sym counter, p, q) in
    let room = rooms o g (ap (fits_all o) (sym is ∙ k.lists) ∙ k.fits) in
    record {
      lists = g;
      run = accepted s i r g made small k.admitted;
      counter = counter;
      first = fronted o.first o'.first g.first (ap (λ (u : Lists). u.first) t.1 ∙ ap (λ (u : RawSegment). write o.first 0 (steps_bytes u.first)) is) room.0;
      i = fronted o.i o'.i g.i (ap (λ (u : Lists). u.i) t.1 ∙ ap (λ (u : RawSegment). write o.i 0 (steps_bytes u.i)) is) room.1;
      last = fronted o.last o'.last g.last (ap (λ (u : Lists). u.last) t.1 ∙ ap (λ (u : RawSegment). write o.last 0 (steps_bytes u.last)) is) room.2;
      told =
          λ w.
          all_told z z' (length g.first) (length g.i) (length g.last)
          (b.4 ∙ ap (λ (a : Answer RawSegment). sizes_told (a then λ u. done (sizes u)) z) (d.1 ∙ ap done is) ∙ rw (records-length g.first, records-length g.i, records-length g.last)) w;
    }
  where
    accepted : (s : List ℕ) (i : Input) → reading s ≡ done i → (g : Segment) → whole 2 (forest (pool_of i)) (requests_of i) ≡ done g → g.counter < number_limit → Verdict (pool_of i) [] (done tt) → BytesRun s (step_size * length g.first) (done g)
    accepted s i r g made small v = record {
      unread = λ k o e. absurd (done-not-refused (sym r ∙ e));
      judged =
          λ j e.
          subst (λ (y : Input). run.Answers (pool_of y) (requests_of y) (step_size * length g.first) (done g)) (done-same i j (sym r ∙ e))
          (done tt, v, sym (ap (λ (a : Answer Segment). a then run.fitting (step_size * length g.first)) made ∙ rw (le-leb (step_size * length g.first) (step_size * length g.first) (omega arith), lt-ltb g.counter number_limit small)));
    }

-- the fronts that are told are the run's lists
module _ (s x : List ℕ) (o o' : Lists) (z z' : List ℕ) (large : 3 ≤ length z) (R : RunLists s x o o' z z') where
  first_is : told_front 0 z' o'.first ≡ encoded R.lists.first
  first_is = ap (λ n. take (step_size * n) o'.first) (R.told large).0 ∙ R.first.front

  i-is : told_front 1 z' o'.i ≡ encoded R.lists.i
  i-is = ap (λ n. take (step_size * n) o'.i) (R.told large).1 ∙ R.i.front

  last-is : told_front 2 z' o'.last ≡ encoded R.lists.last
  last-is = ap (λ n. take (step_size * n) o'.last) (R.told large).2 ∙ R.last.front

  of-run :
      (b : List ℕ) (domain : ℕ) (c c' first' i' last' : List ℕ) →
      WalkCounted s b domain c c' (told_front 0 z' o'.first) (told_front 1 z' o'.i) (told_front 2 z' o'.last) first' i' last' 0 →
      WalkCounted s b domain c c' (encoded R.lists.first) (encoded R.lists.i) (encoded R.lists.last) first' i' last' 0
  of-run b domain c c' first' i' last' h =
      subst (λ (l : List ℕ). WalkCounted s b domain c c' (encoded R.lists.first) (encoded R.lists.i) l first' i' last' 0) last-is
      (subst (λ (l : List ℕ). WalkCounted s b domain c c' (encoded R.lists.first) l (told_front 2 z' o'.last) first' i' last' 0) i-is
      (subst (λ (l : List ℕ). WalkCounted s b domain c c' l (told_front 1 z' o'.i) (told_front 2 z' o'.last) first' i' last' 0) first_is h))

pub chain_fix : (𝓐 : Algebra) → ChainFix 𝓐
chain_fix 𝓐 s x o o' z z' large R i r b bytes differ alone domain c c' first' i' last' counted h G fed =
    demand3-fix 𝓐 s _ R.lists R.run i r b bytes differ alone domain c c' first' i' last' (counted ∙ R.counter) (of-run s x o o' z z' large R b domain c c' first' i' last' h) G fed

pub chain_fix-integers : ChainFix integers
chain_fix-integers = chain_fix integers

pub chain_fix-modulo : (n : ℕ) → 2 ≤ n → ChainFix (modulo n)
chain_fix-modulo n h = chain_fix (modulo n)

pub chain_evaluate : ChainEvaluate
chain_evaluate s x o o' z z' large R i r b bytes differ alone domain c c' first' i' last' counted h m least ws good fed v v' y y' n fit e =
    evaluates_fixed s _ R.lists R.run i r b bytes differ alone domain c c' first' i' last' (counted ∙ R.counter) (of-run s x o o' z z' large R b domain c c' first' i' last' h) m least ws good fed v v' y
    y' n fit e
