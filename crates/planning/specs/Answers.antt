-- What the functions of planning ask and answer, of pools and plans in tables.
-- Assumes nothing: these are definitions.
use Rattle.std.specs.Prelude.{ℕ, ◌*◌, ◌≤◌, ◌≡◌, Bool, true, List, length, replicate, Result, Ok, Err}
use Rattle.std.proofs.Math.Option.{Option}
use Rattle.meaning.specs.Refusals.{Refusal, Answer, done, refused, ◌then◌}
use Rattle.kinds.specs.Answers.{refusal_of, blame_of}
use Rattle.kinds.specs.declared.refusal.Refused.{Refused}
use Rattle.frames.specs.Order.{node_limit, expression_limit}
use Rattle.frames.specs.Reading.{reading}
use Rattle.frames.specs.declared.count.Counts.{Counts}
use Rattle.pool.specs.Admission.{Ranked}
use Rattle.pool.specs.Verdict.{Ends}
use Rattle.pool.specs.Tabled.{Tables, tabled}
use Rattle.pool.specs.Ranking.{Tabling, Starts}
use Rattle.pool.specs.Admitting.{shape_says}
use Rattle.plans.specs.Plan.{Whole, q2exp}
use Rattle.plans.specs.Columns.{record_limit, record_count}
use Rattle.plans.specs.Agreement.{names_there}
use Rattle.map_records.specs.Mapping.{cm_limit, mapped, quotient_dim}
use Rattle.map_records.specs.Tables.{Holds, Ready}
use Rattle.planning.specs.Planning.{all_there, plan_shape, Verdict, columned, Planned, planned, Judged, argued, Plans}
use Rattle.planning.specs.declared.answer.Plan.{Plan}

-- why there is no plan, or the plan
abbrev pub Unplanned : Type 0
Unplanned = Refused

abbrev pub Planning : Type 0
Planning = Result Plan Refused

-- WHAT IT SAYS: document 01's refusal, and the node to blame
abbrev pub unplanned_says : {A : Type 0} → Unplanned → Answer A
unplanned_says u = refused (refusal_of u.refusal) (blame_of u.node)

-- ── parts ────────────────────────────────────────────────────────────────────
pub record ShapeAsked (b : List ℕ) (n m : ℕ) : Type 0 where
  pub whole : Whole b
  pub nodes : n ≤ node_limit
  pub expressions : m ≤ expression_limit

-- for whichever literals and expressions
abbrev pub ThereGiven : List ℕ → List ℕ → ℕ → ℕ → Bool → Type 0
ThereGiven b w n m r = (l x : List ℕ) → r ≡ all_there b (tabled (Tabling w l x n m))

abbrev pub ShapeGiven : List ℕ → List ℕ → List ℕ → ℕ → ℕ → Result (Unit {0}) Refused → Type 0
ShapeGiven b w x n m r = (l : List ℕ) → shape_says r ≡ plan_shape b (tabled (Tabling w l x n m))

-- ── a plan in tables ─────────────────────────────────────────────────────────
-- The pool is admitted, and the records stand in the tables with the dimensions of cm.
pub record Stands (b : List ℕ) (t : Tables) (ss ds cs : List ℕ) (k : Plan) : Type 0 where
  pub expressions : t.expression_count ≡ k.expressions
  pub rank : ℕ → ℕ
  pub ready : Ready b t rank
  pub holds : Holds ss ds cs k.records (mapped b (tabled t))
  pub quotient : k.q_dim ≡ quotient_dim b (tabled t)

-- an answer told, which is x where there is a plan
abbrev pub Tells : {A : Type 0} (b : List ℕ) (t : Tables) (ss ds cs : List ℕ) (x : A) (a : Answer A) → Planning → Type 0
Tells b t ss ds cs x a (Err u) = a ≡ unplanned_says u
Tells b t ss ds cs x a (Ok k) = (a ≡ done x) × Stands b t ss ds cs k

-- tables of their sizes, every dimension of a cm 0
pub record Blank (ss ds cs : List ℕ) : Type 0 where
  pub sections : length ss ≡ record_limit
  pub dims : length ds ≡ record_limit
  pub cm_dims : cs ≡ replicate cm_limit 0

-- a plan that fits
pub record Fitting (b : List ℕ) : Type 0 where
  pub whole : Whole b
  pub fits : record_count b ≤ record_limit

-- ── an admitted pool ─────────────────────────────────────────────────────────
pub record AdmittedAsks (b : List ℕ) (t : Tables) (rank : ℕ → ℕ) (table ss ds cs : List ℕ) : Type 0 where
  pub fitting : Fitting b
  pub starts : Starts t (q2exp b)
  pub ranked : Ranked (tabled t) (q2exp b) rank
  pub names : names_there b t.expression_count ≡ true
  pub tabling : table ≡ q2exp b
  pub blank : Blank ss ds cs

abbrev pub AdmittedAsked : List ℕ → List ℕ → List ℕ → List ℕ → ℕ → List ℕ → List ℕ → List ℕ → Type 0
AdmittedAsked b w x table m ss ds cs = (l : List ℕ) × (n : ℕ) × (rank : (ℕ → ℕ)) × AdmittedAsks b (Tabling w l x n m) rank table ss ds cs

abbrev pub AdmittedGiven : List ℕ → List ℕ → List ℕ → List ℕ → ℕ → List ℕ → List ℕ → List ℕ → List ℕ → List ℕ → List ℕ → Planning → Type 0
AdmittedGiven b w x table m ss ds cs ss' ds' cs' r =
    (l : List ℕ) (n : ℕ) (rank : ℕ → ℕ) → AdmittedAsks b (Tabling w l x n m) rank table ss ds cs →
    Tells b (Tabling w l x n m) ss' ds' cs' (mapped b (tabled (Tabling w l x n m))) (columned b (tabled (Tabling w l x n m))) r

-- ── a pool with its shape ────────────────────────────────────────────────────
pub record ShapedAsks (b : List ℕ) (t : Tables) (table ss ds cs : List ℕ) : Type 0 where
  pub fitting : Fitting b
  pub starts : Starts t (q2exp b)
  pub names : names_there b t.expression_count ≡ true
  pub tabling : table ≡ q2exp b
  pub blank : Blank ss ds cs

abbrev pub ShapedAsked : List ℕ → List ℕ → List ℕ → List ℕ → ℕ → List ℕ → List ℕ → List ℕ → Type 0
ShapedAsked b w x table m ss ds cs = (l : List ℕ) × (n : ℕ) × ShapedAsks b (Tabling w l x n m) table ss ds cs

-- a verdict with J, and what is told after it
pub record Ruled (J : Answer (Unit {0}) → Type 0) (b : List ℕ) (t : Tables) (ss ds cs : List ℕ) (r : Planning) : Type 0 where
  pub verdict : Answer (Unit {0})
  pub judged : J verdict
  pub tells : Tells b t ss ds cs (mapped b (tabled t)) (verdict then λ _. columned b (tabled t)) r

abbrev pub ShapedGiven : List ℕ → List ℕ → List ℕ → List ℕ → ℕ → List ℕ → List ℕ → List ℕ → List ℕ → List ℕ → List ℕ → Planning → Type 0
ShapedGiven b w x table m ss ds cs ss' ds' cs' r =
    (l : List ℕ) (n : ℕ) → ShapedAsks b (Tabling w l x n m) table ss ds cs →
    Ruled (Ends (tabled (Tabling w l x n m)) (q2exp b)) b (Tabling w l x n m) ss' ds' cs' r

-- ── a pool in tables ─────────────────────────────────────────────────────────
pub record ReadAsked (c : Counts) (ss ds cs : List ℕ) : Type 0 where
  pub nodes : c.nodes ≤ node_limit
  pub expressions : c.expressions ≤ expression_limit
  pub blank : Blank ss ds cs

pub record PoolAsked (b : List ℕ) (c : Counts) (ss ds cs : List ℕ) : Type 0 where
  pub fitting : Fitting b
  pub read : ReadAsked c ss ds cs

-- for whichever literals
abbrev pub PoolGiven : List ℕ → List ℕ → List ℕ → Counts → List ℕ → List ℕ → List ℕ → Planning → Type 0
PoolGiven b w x c ss ds cs r =
    (l : List ℕ) →
    Ruled (Verdict b (tabled (Tabling w l x c.nodes c.expressions))) b (Tabling w l x c.nodes c.expressions) ss ds cs r

-- ── what was read ────────────────────────────────────────────────────────────
-- an answer told, which is the pool with its records
abbrev pub Told : (b : List ℕ) (t : Tables) (ss ds cs : List ℕ) (a : Answer Planned) → Planning → Type 0
Told b t ss ds cs a r = Tells b t ss ds cs (planned (tabled t) (mapped b (tabled t))) a r

-- where all arguments are well formed, what is answered of a pool; else the refusal of an argument
pub record Argued (b : List ℕ) (own : Bool) (t : Tables) (ss ds cs : List ℕ) (r : Planning) : Type 0 where
  pub answer : Answer Planned
  pub unfit : (k : Refusal) (o : Option ℕ) → argued b own ≡ refused k o → answer ≡ refused k o
  pub judged : argued b own ≡ done tt → Judged b own (tabled t) answer
  pub told : Told b t ss ds cs answer r

abbrev pub ReadGiven : List ℕ → Bool → List ℕ → List ℕ → Counts → List ℕ → List ℕ → List ℕ → Planning → Type 0
ReadGiven b own w x c ss ds cs r =
    (l : List ℕ) → Argued b own (Tabling w l x c.nodes c.expressions) ss ds cs r

-- ── frames ───────────────────────────────────────────────────────────────────
pub record FramesAsked (w x ss ds cs : List ℕ) : Type 0 where
  pub nodes : length w ≡ 2 * node_limit
  pub expressions : length x ≡ expression_limit
  pub blank : Blank ss ds cs

-- THE CONTRACT: the plan's answer, and where there is one the tables that hold it
pub record FramesGiven (s b : List ℕ) (own : Bool) (w x ss ds cs : List ℕ) (r : Planning) : Type 0 where
  pub answer : Answer Planned
  pub plans : Plans b own (reading s) answer
  pub literals : List ℕ
  pub node_count : ℕ
  pub expression_count : ℕ
  pub told : Told b (Tabling w literals x node_count expression_count) ss ds cs answer r
