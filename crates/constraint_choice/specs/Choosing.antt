-- THE CHOICE FROM BYTES: what is decided of frames, identities, bits, a limit of visits, counts and two contexts, before any list is looked at. The order of refusals: 1 and 9
-- while reading, 1 of a context, 2, 3 and 4 of the pool, the search's, 9 of the limits, and 11. Where a set is chosen, the caller's tables hold it and the pool with the
-- constraint. Assumes nothing: these are definitions.
use Rattle.std.specs.Prelude.{Result, Ok, Err, ℕ, ◌+◌, ◌≤◌, ◌≡◌, Bool, true, false, List, [], length}
use Rattle.std.proofs.Math.Option.{Option, none, some}
use Rattle.kinds.specs.Answers.{refusal_of, blame_of}
use Rattle.kinds.specs.declared.refusal.Refusal as code
use Rattle.kinds.specs.declared.refusal.Refused.{Refused}
use Rattle.meaning.specs.Refusals.{Refusal, Answer, done, refused, ◌then◌}
use Rattle.meaning.specs.Trees.{Acyclic}
use Rattle.frames.specs.Order.{node_limit, expression_limit, Input}
use Rattle.frames.specs.Reading.{reading}
use Rattle.frames.specs.Written.{WellFormed}
use Rattle.frames.specs.declared.count.Counts.{Counts}
use Rattle.pool.specs.Pool.{Pool}
use Rattle.pool.specs.Trees.{forest}
use Rattle.pool.specs.Shaped.{Shaped}
use Rattle.pool.specs.Verdict.{Verdict}
use Rattle.pool.specs.Numbered.{pool_of}
use Rattle.pool.specs.Tabled.{tabled}
use Rattle.pool.specs.Ranking.{Tabling}
use Rattle.search_meaning.specs.Search.{Choice, search}
use Rattle.sets.specs.Members.{members}
use Rattle.sets.specs.Members as sets
use Rattle.context.specs.Context.{Exactly, Good}
use Rattle.constraint_meaning.specs.Constraint.{Asked}
use Rattle.constraint_pool.specs.Judging.{judged}
use Rattle.constraint_pool.specs.Whole.{AllBelow}
use Rattle.constraint_pool.specs.Added.{Wide}
use Rattle.constraint_pool.specs.Extending.{ExtendAsks, Gives}
use Rattle.constraint_pool.specs.declared.judge.Columns.{Columns}
use Rattle.constraint_frames.specs.Formed.{input_of}
use Rattle.constraint_frames.specs.Extension.{Question, asking, pool_with, Back}
use Rattle.constraint_frames.specs.Unique.{columns_of}
use Rattle.constraint_choice.specs.declared.answer.Before.{Before}
use Rattle.constraint_choice.specs.declared.answer.Asking.{Asking}
use Rattle.constraint_choice.specs.declared.answer.Chosen.{Chosen}

-- ── what is asked ────────────────────────────────────────────────────────────
-- beside the frames
abbrev pub asked : List ℕ → ℕ → ℕ → ℕ → ℕ → Before → Asked
asked ids vc b e limit c =
    record {
      identities = ids;
      vc = vc;
      n_bits = b;
      n_bits_ext = e;
      limit = some limit;
      n_cm1 = c.n_cm1;
      n_cm2 = c.n_cm2;
      commitments = c.commitments;
    }

abbrev pub asked_by : List ℕ → Asking → Asked
asked_by ids a = asked ids a.vc a.n_bits a.n_bits_ext a.limit a.before

-- its columns, with so many quotients
abbrev pub columns_with : Before → ℕ → Columns
columns_with c q = record { commitments = c.commitments; n_cm1 = c.n_cm1; n_cm2 = c.n_cm2; quotients = q }

abbrev pub question_of : Asked → Choice → Question
question_of a x = asking a.identities x.set a.vc (columns_of a x.q)

-- two contexts, each with the bytes of its list
pub record Contexts : Type 0 where
  pub first : List ℕ
  pub bytes : ℕ
  pub second : List ℕ
  pub bytes_2ns : ℕ

abbrev pub contexts : List ℕ → ℕ → List ℕ → ℕ → Contexts
contexts x n y m = record { first = x; bytes = n; second = y; bytes_2ns = m }

-- ── the answer ───────────────────────────────────────────────────────────────
-- THE ANSWER of an admitted pool: the search's, then 9 of the limits and 11
abbrev pub deciding : Pool → Asked → Answer Choice
deciding p a =
    search (forest p) a.identities a.vc a.n_bits a.n_bits_ext a.limit then λ x.
    judged (forest p) (length p.nodes) a.vc (columns_of a x.q) a.identities x.set then λ _. done x

-- x is chosen, and the limits and counts are kept
pub record Accepts (p : Pool) (a : Asked) (x : Choice) : Type 0 where
  pub chose : search (forest p) a.identities a.vc a.n_bits a.n_bits_ext a.limit ≡ done x
  pub fine : judged (forest p) (length p.nodes) a.vc (columns_of a x.q) a.identities x.set ≡ done tt

-- z is a refusal, 1, where a test fails, or else what the rest says
abbrev pub OrMalformed : {A : Type 0} → Bool → Answer A → Type 0 → Type 0
OrMalformed true z rest = rest
OrMalformed false z rest = z ≡ refused Refusal.malformed none

-- z is THE ANSWER to a pool: g and h say whether the contexts are good for it, v what admission says
abbrev pub Chooses : Pool → Asked → Contexts → Answer Choice → Type 0
Chooses p a c z =
    (g : Bool) × Exactly g (Good c.first (length p.expressions) c.bytes) × OrMalformed g z
    ((h : Bool) × Exactly h (Good c.second (length p.expressions) c.bytes_2ns) × OrMalformed h z
    ((v : Answer (Unit {0})) × Verdict p [] v × (z ≡ (v then λ _. deciding p a))))

-- ── what is told ─────────────────────────────────────────────────────────────
-- a refusal and the node that it blames
pub record Why : Type 0 where
  pub kind : Refusal
  pub node : Option ℕ

abbrev because : Refusal → Option ℕ → Why
because k o = record { kind = k; node = o }

-- WHAT Refused SAYS
abbrev pub why_of : Refused → Why
why_of f = because (refusal_of f.refusal) (blame_of f.node)

-- what is decided
abbrev pub Decided : Type 0
Decided = Result Chosen Refused

-- the caller's own tables after it
pub record Left : Type 0 where
  pub set : List ℕ
  pub nodes : List ℕ
  pub literals : List ℕ
  pub expressions : List ℕ

abbrev pub tables : List ℕ → List ℕ → List ℕ → List ℕ → Left
tables s w l x = record { set = s; nodes = w; literals = l; expressions = x }

-- what was found, with the set's members
abbrev pub choice_in : Left → Chosen → Choice
choice_in t f = record { set = members t.set; q = f.q; visits = f.visits }

-- the pool with its constraint
abbrev pub constrained_pool : Pool → Asked → Left → Chosen → Pool
constrained_pool p a t f = pool_with p (question_of a (choice_in t f))

-- A SET IS CHOSEN: z says it, and the tables hold it and the pool with the constraint
pub record Ready (p : Pool) (a : Asked) (z : Answer Choice) (t : Left) (f : Chosen) : Type 0 where
  pub chose : z ≡ done (choice_in t f)
  pub good : sets.Good t.set
  pub below : AllBelow (length p.expressions) (members t.set)
  pub pool : tabled (Tabling t.nodes t.literals t.expressions f.nodes f.expressions) ≡ constrained_pool p a t f
  pub shaped : Shaped (constrained_pool p a t f)
  pub acyclic : Acyclic (forest (constrained_pool p a t f))
  pub formed : WellFormed (input_of (constrained_pool p a t f))
  pub count : f.expressions ≡ length p.expressions + 1
  pub few_nodes : f.nodes ≤ node_limit
  pub few_expressions : f.expressions ≤ expression_limit

-- an answer told: a refusal, or a set that is chosen
abbrev pub Tells : Pool → Asked → Answer Choice → Left → Decided → Type 0
Tells p a z t (Err r) = z ≡ refused (why_of r).kind (why_of r).node
Tells p a z t (Ok f) = Ready p a z t f

-- the same of frames s
abbrev pub TellsRead : List ℕ → Asked → Answer Choice → Left → Decided → Type 0
TellsRead s a z t (Err r) = z ≡ refused (why_of r).kind (why_of r).node
TellsRead s a z t (Ok f) = (i : Input) × (reading s ≡ done i) × Ready (pool_of i) a z t f

-- THE CONTRACT
pub record DecideIs (s : List ℕ) (a : Asked) (c : Contexts) (t : Left) (r : Decided) : Type 0 where
  pub answer : Answer Choice
  pub unread : (k : Refusal) (o : Option ℕ) → reading s ≡ refused k o → answer ≡ refused k o
  pub judged : (i : Input) → reading s ≡ done i → Chooses (pool_of i) a c answer
  pub tells : TellsRead s a answer t r
  -- of an admitted pool, a set that was chosen for it and limits that it keeps: the pool with the constraint is admitted, stands for the extended forest, and its frames
  -- are read as it
  pub back : (i : Input) → reading s ≡ done i → Verdict (pool_of i) [] (done tt) → (x : Choice) → Accepts (pool_of i) a x → Back (pool_of i) (question_of a x)

-- ── of tables ────────────────────────────────────────────────────────────────
-- what was read: within the limits, and well formed where its child counts are
pub record ReadAsks (w l x : List ℕ) (k : Counts) : Type 0 where
  pub nodes : k.nodes ≤ node_limit
  pub expressions : k.expressions ≤ expression_limit
  pub wide : Wide w l x
  pub formed : Shaped (tabled (Tabling w l x k.nodes k.expressions)) → WellFormed (input_of (tabled (Tabling w l x k.nodes k.expressions)))

abbrev pub ReadGiven : List ℕ → List ℕ → List ℕ → Asked → Contexts → Counts → Left → Decided → Type 0
ReadGiven w l x a c k t r =
    let p = tabled (Tabling w l x k.nodes k.expressions) in
    (z : Answer Choice) × Chooses p a c z × Tells p a z t r

-- an admitted pool that was read
pub record AdmittedAsks (w l x : List ℕ) (k : Counts) : Type 0 where
  pub read : ReadAsks w l x k
  pub shaped : Shaped (tabled (Tabling w l x k.nodes k.expressions))
  pub acyclic : Acyclic (forest (tabled (Tabling w l x k.nodes k.expressions)))

abbrev pub AdmittedGiven : List ℕ → List ℕ → List ℕ → Asked → Counts → Left → Decided → Type 0
AdmittedGiven w l x a k t r =
    let p = tabled (Tabling w l x k.nodes k.expressions) in
    Tells p a (deciding p a) t r

-- ── the constraint added ─────────────────────────────────────────────────────
-- identities and members that are there
abbrev pub ExtendAsked : List ℕ → List ℕ → List ℕ → List ℕ → List ℕ → Counts → Type 0
ExtendAsked w l x ids s k = ExtendAsks w l x ids (members s) k.nodes k.expressions

abbrev pub ExtendGiven : List ℕ → List ℕ → List ℕ → List ℕ → Asking → ℕ → Counts → Left → Result ℕ code.Refusal → Type 0
ExtendGiven w l x ids a q k t r =
    Gives w l x ids (members t.set) a.vc (columns_with a.before q) k.nodes k.expressions t.nodes t.literals t.expressions r
