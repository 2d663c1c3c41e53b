-- REQUESTS ON A LENT CONTEXT: the answer to a slice of frames, a result that the last request asks for, a context and its list; and what stands in both
-- after it. The order of refusals: 1 and 9 while reading, 1 of the result, 1 of the context, 2, 3 and 4 of the pool, 3, 5, 7 and 8 of the requests, 9.
-- Assumes nothing: these are definitions.
use Rattle.std.specs.Prelude.{ℕ, ◌≡◌, Bool, true, false, List, [], length}
use Rattle.std.proofs.Math.Option.{Option, none}
use Rattle.meaning.specs.Refusals.{Refusal, Answer, done, refused, ◌then◌}
use Rattle.meaning.specs.Trees.{Forest, Acyclic}
use Rattle.meaning.specs.Generation.{Request}
use Rattle.kinds.specs.Kinds.{is_result}
use Rattle.frames.specs.Order.{Input}
use Rattle.frames.specs.Reading.{reading}
use Rattle.frames.specs.declared.count.Counts.{Counts}
use Rattle.pool.specs.Pool.{Pool}
use Rattle.pool.specs.Trees.{forest}
use Rattle.pool.specs.Verdict.{Verdict}
use Rattle.pool.specs.Numbered.{pool_of}
use Rattle.starkinfo_codegen.specs.Emitting as emitting
use Rattle.starkinfo_codegen.specs.Emitting.{Rest}
use Rattle.requests.specs.Planning.{requests_in}
use Rattle.requests.specs.Whole.{FreshAsks, pool_in}
use Rattle.requests.specs.Runs.{requests_of}
use Rattle.context.specs.Context.{Good, Exactly}
use Rattle.codegen.specs.Said.{Said, said, serve_said}
use Rattle.codegen.specs.Results.{result_of, asking, result_good}
use Rattle.codegen.specs.Written.{fitting}
use Rattle.codegen.specs.Committing.{Served, Tells}
use Rattle.codegen.specs.declared.asked.Wanted.{Wanted}

-- ── the answer ───────────────────────────────────────────────────────────────
-- where b does not hold, a is refused as a malformed record; else P says what it is
abbrev pub OrMalformed : {A : Type 0} → Bool → Answer A → Type 0 → Type 0
OrMalformed true a P = P
OrMalformed false a P = a ≡ refused Refusal.malformed none

-- requests of a pool that is admitted, over what a good context says, with so many bytes of room for the list
abbrev pub served_on : Forest → List Request → ℕ → Said → Answer Said
served_on E qs room st = serve_said E qs st then fitting room

-- a is THE ANSWER to a pool of m expressions and its `count` requests, of which the last asks for a result, on context x and list l: g says whether the
-- context is good, v what admission says
abbrev pub Answered : Pool → List Request → ℕ → ℕ → Wanted → List ℕ → List ℕ → Answer Said → Type 0
Answered p qs m count w x l a =
    OrMalformed (result_good w.kind w.id count) a
    ((g : Bool) × Exactly g (Good x m (length l)) × OrMalformed g a
    ((v : Answer (Unit {0})) × Verdict p [] v × (a ≡ (v then λ _. served_on (forest p) (asking (result_of w.kind w.id) qs) (length l) (said x l)))))

-- where reading answers r
pub record Serves (r : Answer Input) (w : Wanted) (x l : List ℕ) (a : Answer Said) : Type 0 where
  pub unread : (k : Refusal) (o : Option ℕ) → r ≡ refused k o → a ≡ refused k o
  pub read : (i : Input) → r ≡ done i → Answered (pool_of i) (requests_of i) (length i.expressions) (length i.requests) w x l a

-- THE CONTRACT
abbrev pub ServeGiven : List ℕ → Wanted → List ℕ → List ℕ → List ℕ → List ℕ → Served → Type 0
ServeGiven s w x x' l l' r = (a : Answer Said) × Serves (reading s) w x l a × Tells a x l x' l' r

-- ── of tables ────────────────────────────────────────────────────────────────
-- a pool that is admitted, and a good context
pub record ServeAsks (n e : List ℕ) (b : Rest) (A : Acyclic (forest (emitting.pool_of n b))) (r x l : List ℕ) (m count : ℕ) : Type 0 where
  pub fresh : FreshAsks n e b A r m count
  pub good : Good x m (length l)

abbrev pub ServeAsked : List ℕ → List ℕ → List ℕ → List ℕ → List ℕ → ℕ → ℕ → Type 0
ServeAsked n e r x l m count = (b : Rest) × (A : Acyclic (forest (emitting.pool_of n b))) × ServeAsks n e b A r x l m count

abbrev pub PlainServed : List ℕ → List ℕ → List ℕ → List ℕ → List ℕ → List ℕ → List ℕ → ℕ → ℕ → Served → Type 0
PlainServed n e r x x' l l' m count g =
    (b : Rest) (A : Acyclic (forest (emitting.pool_of n b))) → ServeAsks n e b A r x l m count →
    Tells (served_on (forest (emitting.pool_of n b)) (requests_in r count) (length l) (said x l)) x l x' l' g

abbrev pub ResultServed : List ℕ → List ℕ → List ℕ → List ℕ → List ℕ → List ℕ → List ℕ → ℕ → ℕ → Wanted → Served → Type 0
ResultServed n e r x x' l l' m count w g =
    (b : Rest) (A : Acyclic (forest (emitting.pool_of n b))) → ServeAsks n e b A r x l m count → is_result w.kind ≡ true →
    Tells (served_on (forest (emitting.pool_of n b)) (asking (result_of w.kind w.id) (requests_in r count)) (length l) (said x l)) x l x' l' g

abbrev pub WantedServed : List ℕ → List ℕ → List ℕ → List ℕ → List ℕ → List ℕ → List ℕ → ℕ → ℕ → Wanted → Served → Type 0
WantedServed n e r x x' l l' m count w g =
    (b : Rest) (A : Acyclic (forest (emitting.pool_of n b))) → ServeAsks n e b A r x l m count → result_good w.kind w.id count ≡ true →
    Tells (served_on (forest (emitting.pool_of n b)) (asking (result_of w.kind w.id) (requests_in r count)) (length l) (said x l)) x l x' l' g

-- for whichever literals
abbrev pub ReadServed : List ℕ → List ℕ → List ℕ → List ℕ → List ℕ → List ℕ → List ℕ → Counts → Wanted → Served → Type 0
ReadServed n e r x x' l l' c w g =
    (literals : List ℕ) →
    (a : Answer Said) × Answered (pool_in n literals e c) (requests_in r c.requests) c.expressions c.requests w x l a × Tells a x l x' l' g
