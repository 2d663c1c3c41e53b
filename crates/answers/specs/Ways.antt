-- THE ROWS OF THE REFUSAL TABLE, for each exported function: the ways in which a call comes to a number, in the order of its checks, each with what must not have been refused before it.
-- What a way takes is its condition, its index the number. `Exact.antt` and `ExactPlans.antt` prove that a call has a number exactly when one of that number's ways is open.
-- Assumes nothing: these are definitions.
use Rattle.std.specs.Prelude.{ℕ, ◌*◌, ◌<◌, ◌≤◌, ◌≡◌, Bool, true, false, ◌&&◌, List, [], ◌∷◌, ◌⊎◌, length, eqb}
use Rattle.meaning.specs.Refusals.{Refusal, number, done}
use Rattle.meaning.specs.Trees.{Forest, Acyclic}
use Rattle.meaning.specs.Running.{empty}
use Rattle.meaning.specs.Generation.{Request}
use Rattle.meaning.specs.Building.{Segment, whole}
use Rattle.meaning.specs.Conditions.{Refused3, Refused5, Refused7, Refused8, FirstRefused}
use Rattle.frames.specs.Order.{Input}
use Rattle.frames.specs.Reading.{frames_in, reading}
use Rattle.frames.specs.Faults.{Wrong, Past, First}
use Rattle.pool.specs.Pool.{Pool}
use Rattle.pool.specs.Trees.{forest}
use Rattle.pool.specs.Shaped.{Shaped}
use Rattle.pool.specs.Admission.{ClosedWalk}
use Rattle.pool.specs.Verdict.{SomeWrongCount, SomeNotThere}
use Rattle.pool.specs.Numbered.{pool_of}
use Rattle.kinds.specs.Steps.{step_size}
use Rattle.requests.specs.Generating.{number_limit}
use Rattle.requests.specs.Runs.{requests_of}
use Rattle.requests.specs.Exactly.{FirstLost, FirstDouble}
use Rattle.context.specs.Context.{context_size, Good}
use Rattle.codegen.specs.Said.{Said, said, serve_said, segment_said}
use Rattle.codegen.specs.Results.{result_of, asking, result_good}
use Rattle.codegen.specs.Building.{Lists}
use Rattle.codegen.specs.Exactly.{NoRoom, NoRoomFor}
use Rattle.codegen.specs.Shadows.{shadow}
use Rattle.codegen.specs.declared.asked.Wanted.{Wanted}
use Rattle.lists.specs.Records.{records_in}
use Rattle.evaluator_cells.specs.Given.{lent}
use Rattle.evaluator_cells.specs.Literals.{brought_at}
use Rattle.evaluator_run.specs.Evaluation.{well_formed}
use Rattle.evaluator.specs.Conditions.{BadList, BadValues, StopsAt}
use Rattle.evaluator.specs.Exactly.{Overflows, Answered}
use Rattle.planning.specs.Planning.{Planned, Plans}
use Rattle.planning.specs.Ways as plan
use Rattle.plan_map.specs.Numbers.{map_bytes}
use Rattle.plan_walks.specs.Fix.{is_n, rules_in}
use Rattle.plan_walks.specs.Walks.{good_segment}
use Rattle.plan_walks.specs.Dimension.{given_by}
use Rattle.lent_lists.specs.Records.{good_lists}
use Rattle.lists.specs.Records.{good_list}
use Rattle.fixing.specs.Conditions as fixing
use Rattle.query_fixing.specs.QueryConditions as query
use Rattle.plans.specs.Agreement.{cm_count}
use Rattle.plan_exactly.specs.Query.{NoCm}
use Rattle.step_dimensions.specs.StepDimensions.{unwritten}
use Rattle.dimensions.specs.Answers.{first_dim_x}
use Rattle.dimensions.specs.Conditions.{StepsRefused, all_records}
use Rattle.search_meaning.proofs.SearchCases.{Row}
use Rattle.sections.specs.Sections as sections
use Rattle.records.specs.Records.{sections_of, dims_of, positions_of}
use Rattle.records.specs.declared.PolType.{PolType}

-- ── frames: 1 and 9 while reading ────────────────────────────────────────────
module _ (s : List ℕ) (C : Input → ℕ → Type 0) where
  pub data OfFrames : ℕ → Type 0 where
    -- the first frame that is not fine is malformed or out of order
    malformed : First Wrong (frames_in s) → OfFrames 1
    -- it is well formed and in order, but past a limit
    past : First Past (frames_in s) → OfFrames 9
    -- they are read, and C says the rest
    read : {k : ℕ} (i : Input) → reading s ≡ done i → C i k → OfFrames k

-- ── a pool: 2, 3 and 4 ───────────────────────────────────────────────────────
module _ (p : Pool) (C : Acyclic (forest p) → ℕ → Type 0) where
  pub data OfPool : ℕ → Type 0 where
    child_count : SomeWrongCount p → OfPool 2
    lost : (SomeWrongCount p → ⊥) → SomeNotThere p → OfPool 3
    cycle : (SomeWrongCount p → ⊥) → (SomeNotThere p → ⊥) → ClosedWalk p [] → OfPool 4
    -- it has its shape and stands for an acyclic forest, and C says the rest
    admitted : {k : ℕ} → Shaped p → (acyclic : Acyclic (forest p)) → C acyclic k → OfPool k

-- ── enonkasse_fresh ──────────────────────────────────────────────────────────
module _ (x : List ℕ) where
  pub data FreshWay : ℕ → Type 0 where
    sized : length x ≡ context_size → FreshWay 0
    malformed : (length x ≡ context_size → ⊥) → FreshWay 1

-- ── enonkasse_serve ──────────────────────────────────────────────────────────
module _ (w : Wanted) (x l : List ℕ) (i : Input) where
  abbrev pub asked_for : List Request
  asked_for = asking (result_of w.kind w.id) (requests_of i)

  module _ (acyclic : Acyclic (forest (pool_of i))) where
    abbrev pub E : Forest
    E = forest (pool_of i)

    -- the first request that is refused; its conditions stand in meaning/specs/Conditions.antt
    pub data Served : ℕ → Type 0 where
      lost : FirstRefused 2 E (Refused3 2 E) asked_for (shadow (said x l)) → Served 3
      double_prime : FirstRefused 2 E (Refused5 2 E) asked_for (shadow (said x l)) → Served 5
      no_primed_mark : FirstRefused 2 E (Refused7 2 E) asked_for (shadow (said x l)) → Served 7
      no_block : FirstRefused 2 E (Refused8 2 E) asked_for (shadow (said x l)) → Served 8
      -- all are served, and what is said after them has no room
      full : (st : Said) → serve_said E asked_for (said x l) ≡ done st → NoRoom E acyclic (length l) st → Served 9
      served : (st : Said) → serve_said E asked_for (said x l) ≡ done st → (NoRoom E acyclic (length l) st → ⊥) → Served 0

  abbrev pub GoodResult : Bool → Type 0
  GoodResult b = result_good w.kind w.id (length i.requests) ≡ b

  pub data ServeRead : ℕ → Type 0 where
    bad_result : GoodResult false → ServeRead 1
    bad_context : GoodResult true → (Good x (length i.expressions) (length l) → ⊥) → ServeRead 1
    good : {k : ℕ} → GoodResult true → Good x (length i.expressions) (length l) → OfPool (pool_of i) Served k → ServeRead k

abbrev pub ServeWay : List ℕ → Wanted → List ℕ → List ℕ → ℕ → Type 0
ServeWay s w x l k = OfFrames s (ServeRead w x l) k

-- ── enonkasse_build ──────────────────────────────────────────────────────────
module _ (x l : List ℕ) (o : Lists) (i : Input) where
  pub data Built : ℕ → Type 0 where
    full : NoRoomFor o (segment_said (forest (pool_of i)) (said x l)) → Built 9
    built : (NoRoomFor o (segment_said (forest (pool_of i)) (said x l)) → ⊥) → Built 0

  pub data BuildRead : ℕ → Type 0 where
    bad_context : (Good x (length i.expressions) (length l) → ⊥) → BuildRead 1
    good : {k : ℕ} → Good x (length i.expressions) (length l) → OfPool (pool_of i) (λ c. Built) k → BuildRead k

abbrev pub BuildWay : List ℕ → List ℕ → List ℕ → Lists → ℕ → Type 0
BuildWay s x l o k = OfFrames s (BuildRead x l o) k

-- ── enonkasse_run ────────────────────────────────────────────────────────────
module _ (room : ℕ) (i : Input) where
  -- the first list has room, and the counter is a number of 16 bits
  abbrev pub RunFits : Segment → Type 0
  RunFits g = (step_size * length g.first ≤ room) × (g.counter < number_limit)

  -- the first request that is refused on a fresh context
  pub data Ran : ℕ → Type 0 where
    lost : FirstLost i → Ran 3
    double_prime : FirstDouble i → Ran 5
    full : (g : Segment) → whole 2 (forest (pool_of i)) (requests_of i) ≡ done g → (RunFits g → ⊥) → Ran 9
    ran : (g : Segment) → whole 2 (forest (pool_of i)) (requests_of i) ≡ done g → RunFits g → Ran 0

abbrev pub RunWay : List ℕ → ℕ → ℕ → Type 0
RunWay s room k = OfFrames s (λ i. OfPool (pool_of i) (λ c. Ran room i)) k

-- ── enonkasse_evaluate ───────────────────────────────────────────────────────
module _ (list : List ℕ) (m : ℕ) (ws : List ℕ) (room : ℕ) (i : Input) where
  pub data Evaluated : ℕ → Type 0 where
    -- the records before some record run, and that one is refused
    no_rule : StopsAt (brought_at (pool_of i)) (lent ws) m (records_in list) empty → Evaluated 10
    full : Overflows (brought_at (pool_of i)) (lent ws) m list room → Evaluated 9
    answered : Answered (brought_at (pool_of i)) (lent ws) m list room → Evaluated 0

  pub data EvaluateRead : ℕ → Type 0 where
    ill_formed : (m < 2) ⊎ (BadList list ⊎ BadValues ws) → EvaluateRead 1
    formed : {k : ℕ} → well_formed ws m list ≡ true → OfPool (pool_of i) (λ c. Evaluated) k → EvaluateRead k

abbrev pub EvaluateWay : List ℕ → List ℕ → ℕ → List ℕ → ℕ → ℕ → Type 0
EvaluateWay s list m ws room k = OfFrames s (EvaluateRead list m ws room) k

-- ── by a plan ────────────────────────────────────────────────────────────────
module _ (s b : List ℕ) (own : Bool) (C : Planned → ℕ → Type 0) where
  pub data OfPlan : ℕ → Type 0 where
    -- why there is none: 1, 9, 2, 3, 4, 16, 11 or 12, in planning/specs/Ways.antt
    unplanned : {k : ℕ} → (k ≡ 0 → ⊥) → plan.Way b own (reading s) k → OfPlan k
    -- there is one, and C says the rest
    planned : {k : ℕ} (z : Planned) → Plans b own (reading s) (done z) → C z k → OfPlan k

-- enonkasse_map
module _ (b : List ℕ) (room : ℕ) (z : Planned) where
  pub data Mapped : ℕ → Type 0 where
    full : room < length (map_bytes b z) → Mapped 9
    fits : length (map_bytes b z) ≤ room → Mapped 0

abbrev pub MapWay : List ℕ → List ℕ → ℕ → ℕ → Type 0
MapWay s b room k = OfPlan s b true (Mapped b room) k

-- enonkasse_fix
module _ (b : List ℕ) (domain counter : ℕ) (first i last : List ℕ) (z : Planned) where
  -- the lists' first fault, in fixing/specs/Conditions.antt; a cm is there where its number is below the plan's count of cm
  pub data Fixed : ℕ → Type 0 where
    no_rule : fixing.Refused10 (cm_count b) counter first i last → Fixed 10
    not_there : fixing.Refused3 (cm_count b) counter first i last → Fixed 3
    full : fixing.Refused9 (cm_count b) (rules_in (is_n domain) b z) counter first i last → Fixed 9
    fixed : fixing.Accepted (cm_count b) (rules_in (is_n domain) b z) counter first i last → Fixed 0

abbrev pub FixWay : List ℕ → List ℕ → ℕ → ℕ → List ℕ → List ℕ → List ℕ → ℕ → Type 0
FixWay s b domain counter first i last k = OfPlan s b (good_segment domain counter first i last) (Fixed b domain counter first i last) k

-- enonkasse_query
module _ (b first i last : List ℕ) (z : Planned) where
  -- the lists' first fault, in query_fixing/specs/QueryConditions.antt
  pub data Queried : ℕ → Type 0 where
    no_rule : query.Refused10 (NoCm b) first i last → Queried 10
    not_there : query.Refused3 (NoCm b) first i last → Queried 3
    queried : query.Accepted (NoCm b) first i last → Queried 0

abbrev pub QueryWay : List ℕ → List ℕ → List ℕ → List ℕ → List ℕ → ℕ → Type 0
QueryWay s b first i last k = OfPlan s b (good_lists first i last) (Queried b first i last) k

-- enonkasse_dimension and enonkasse_dimension_first
module _ (d : ℕ) (ls : List (List ℕ)) (b : List ℕ) (z : Planned) where
  pub data Dimensioned : ℕ → Type 0 where
    -- the first step that is refused is refused with w: 3, 10 or 12, in dimensions/specs/Conditions.antt
    met : (w : Refusal) → StepsRefused (given_by d b z) w unwritten (all_records ls) → Dimensioned (number w)
    sized : ((w : Refusal) → StepsRefused (given_by d b z) w unwritten (all_records ls) → ⊥) → Dimensioned 0

abbrev pub DimensionWay : List ℕ → List ℕ → ℕ → List ℕ → List ℕ → List ℕ → ℕ → Type 0
DimensionWay s b d first i last k = OfPlan s b (good_lists first i last) (Dimensioned d (first ∷ i ∷ last ∷ []) b) k

abbrev pub FirstWay : List ℕ → List ℕ → List ℕ → ℕ → Type 0
FirstWay s b first k = OfPlan s b (good_list first) (Dimensioned first_dim_x (first ∷ []) b) k

-- ── enonkasse_search ─────────────────────────────────────────────────────────
-- 17, 16, 3, 15, 6, 13, 14 and 0 are the rows of search_meaning/proofs/SearchCases.antt
abbrev pub SearchWay : List ℕ → List ℕ → ℕ → ℕ → ℕ → ℕ → ℕ → Type 0
SearchWay s es vc b e limit k = OfFrames s (λ i. OfPool (pool_of i) (λ c. Row (forest (pool_of i)) c es vc b e limit)) k

-- ── enonkasse_map_section ────────────────────────────────────────────────────
module _ (rs : List PolType) (a b c room : ℕ) where
  -- each column that is lent is as long as the records
  abbrev pub fitted : Bool
  fitted = eqb a (length rs) && (eqb b (length rs) && eqb c (length rs))

  abbrev pub well_made : Bool
  well_made = sections.well_formed (sections_of rs) (dims_of rs) (positions_of rs) room

  pub data SectionWay : ℕ → Type 0 where
    malformed : (fitted ≡ false) ⊎ (well_made ≡ false) → SectionWay 1
    full : fitted ≡ true → well_made ≡ true → sections.record_limit < length rs → SectionWay 9
    mapped : fitted ≡ true → well_made ≡ true → length rs ≤ sections.record_limit → SectionWay 0
