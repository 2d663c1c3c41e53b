-- The definitions of fixing, of the query code's walk and of the dimension pass run on stored segments, with the tables of a plan, and their answers as numbers.
-- Assumes nothing: these are definitions.
use Rattle.std.specs.Prelude.{ℕ, ◌+◌, ◌*◌, Bool, true, false, ◌&&◌, cond, List, [], ◌∷◌, ◌++◌, length, eqb, leb}
use Rattle.kinds.specs.declared.reference.Reference.{Reference}
use Rattle.kinds.specs.declared.step.Step.{Step}
use Rattle.meaning.specs.Refusals.{Answer, done, refused, number}
use Rattle.frames.specs.declared.node.Node.{Node}
use Rattle.frames.specs.declared.rest.Expression.{Expression}
use Rattle.pool.specs.Pool.{Pool}
use Rattle.plans.specs.Plan.{qs}
use Rattle.map_records.specs.Mapping.{Mapping, mapped}
use Rattle.plan_tables.specs.Tables.{cm_n, cm2ns, trees, rules}
use Rattle.lent_lists.specs.Verdicts.{verdict_no}
use Rattle.lent_lists.specs.Records.{record_by}
use Rattle.lent_lists.specs.Records as lists
use Rattle.lent_lists.specs.Walks.{walked, record_verdict}
use Rattle.fixed_meaning.specs.Fixing.{begin}
use Rattle.fixing.specs.ProverCode.{last_counter, plan_of, ruled_reference, meet_records, fix_record}
use Rattle.query_fixing.specs.QueryCode.{treed_reference, tree_reference}
use Rattle.step_dimensions.specs.StepDimensions.{Given, unwritten}
use Rattle.dimensions.specs.Dimensions.{Passed, passed}
use Rattle.replay_plans.specs.Replay.{same_numbers, answer}

-- ── a segment ────────────────────────────────────────────────────────────────
pub record Lists : Type 0 where
  pub counter : ℕ
  pub first : List Step
  pub i : List Step
  pub last : List Step

abbrev pub lists' : ℕ → List Step → List Step → List Step → Lists
lists' n a b c = record { counter = n; first = a; i = b; last = c }

-- kind, prime, id, dim, p, tree_pos, extra
abbrev pub ref : ℕ → ℕ → ℕ → ℕ → ℕ → ℕ → ℕ → Reference
ref k r i d p t e = record { kind = k; prime = r; id = i; dim = d; p = p; tree_pos = t; extra = e }

abbrev pub step : ℕ → ℕ → Reference → Reference → Reference → Reference → Step
step o n d a b c = record { op = o; count = n; origin = 0; dest = d; s0 = a; s1 = b; s2 = c }

abbrev pub blank : Reference
blank = ref 0 0 0 0 0 0 0

abbrev ref_number : Reference → ℕ
ref_number r = (((((r.kind * 2 + r.prime) * 65536 + r.id) * 65536 + r.dim) * 65536 + r.p) * 65536 + r.tree_pos) * 65536 + r.extra

abbrev step_numbers : List Step → List ℕ
step_numbers [] = []
step_numbers (x ∷ xs) = x.op ∷ x.count ∷ ref_number x.dest ∷ ref_number x.s0 ∷ ref_number x.s1 ∷ ref_number x.s2 ∷ step_numbers xs

abbrev lists_numbers : Lists → List ℕ
lists_numbers s = 0 ∷ s.counter ∷ step_numbers s.first ++ (length s.i ∷ step_numbers s.i) ++ (length s.last ∷ step_numbers s.last)

-- ── the walks ────────────────────────────────────────────────────────────────
-- a refusal's number alone, or the lists after it
pub data Walked : Type 0 where
  stopped : ℕ → Walked
  walks : Lists → Walked

abbrev numbers_of : Walked → List ℕ
numbers_of (stopped n) = n ∷ []
numbers_of (walks s) = lists_numbers s

abbrev next : Walked → (Lists → Walked) → Walked
next (stopped n) f = stopped n
next (walks s) f = f s

abbrev if_zero : ℕ → Walked → Walked
if_zero n w = cond (eqb n 0) w (stopped n)

abbrev rewritten_by : (Step → Step) → ℕ → Lists → Lists
rewritten_by f n s = lists' n (lists.mapped f s.first) (lists.mapped f s.i) (lists.mapped f s.last)

abbrev all : Lists → List Step
all s = s.first ++ (s.i ++ s.last)

abbrev fix_with : List ℕ → List ℕ → Lists → Walked
fix_with rules cms s =
    let f = meet_records (plan_of rules) (all s) (begin s.counter) in
    if_zero (verdict_no (walked (record_verdict (ruled_reference cms)) (all s)))
    (cond (leb f.next last_counter) (walks (rewritten_by (fix_record rules cms f.map) f.next s)) (stopped 9))

abbrev query_with : List ℕ → Lists → Walked
query_with ts s = if_zero (verdict_no (walked (record_verdict (treed_reference ts)) (all s))) (walks (rewritten_by (record_by (tree_reference ts)) s.counter s))

abbrev on_passed : Answer Passed → (Passed → Walked) → Walked
on_passed (done p) f = f p
on_passed (refused r n) f = stopped (number r)

abbrev dim_with : Given → Bool → Lists → Walked
dim_with g first_alone s =
    on_passed (passed g unwritten s.first) (λ a.
    cond first_alone (walks (lists' s.counter a.records s.i s.last))
    (on_passed (passed g a.temporaries s.i) (λ b.
    on_passed (passed g b.temporaries s.last) (λ c. walks (lists' s.counter a.records b.records c.records)))))

-- which walk: fixing in "n" or in "2ns", the query code's after it, the dimension pass alone, of the first list alone, or after one of the walks
pub data Walk : Type 0 where
  fix_n fix2ns query dims dims_first fix_dims_n fix_dims2ns query_dims : Walk

abbrev given_of : List ℕ → Mapping → ℕ → Given
given_of b m x = record { record_dims = m.dims; cm2ns = cm2ns m; qs = qs b; dim_x = x }

module _ (p : Pool) (b : List ℕ) where
  abbrev fix_in : Bool → Mapping → Lists → Walked
  fix_in in_n m s = fix_with (rules in_n p b m) (cond in_n (cm_n m) (cm2ns m)) s

  abbrev walk_of : Walk → Mapping → Lists → Walked
  walk_of fix_n m s = fix_in true m s
  walk_of fix2ns m s = fix_in false m s
  walk_of query m s = next (fix_in false m s) (query_with (trees m))
  walk_of dims m s = dim_with (given_of b m 3) false s
  walk_of dims_first m s = dim_with (given_of b m 3) true s
  walk_of fix_dims_n m s = next (fix_in true m s) (dim_with (given_of b m 1) false)
  walk_of fix_dims2ns m s = next (fix_in false m s) (dim_with (given_of b m 1) false)
  walk_of query_dims m s = next (next (fix_in false m s) (query_with (trees m))) (dim_with (given_of b m 1) false)

  -- a plan that is refused is refused before any walk
  abbrev after_plan : List ℕ → Walk → Lists → List ℕ
  after_plan [] w s = []
  after_plan (n ∷ ns) w s = cond (eqb n 0) (numbers_of (walk_of w (mapped b p) s)) (n ∷ [])

-- a pool, a plan, a walk, a segment, and the original's answer: the refusal or the segment after it
pub data Outcome : Type 0 where
  no_more : ℕ → Outcome
  becomes : Lists → Outcome

pub data WalkVector : Type 0 where
  walk_vector : List Node → List Expression → List ℕ → Walk → Lists → Outcome → WalkVector

abbrev outcome_numbers : Outcome → List ℕ
outcome_numbers (no_more n) = n ∷ []
outcome_numbers (becomes s) = lists_numbers s

abbrev pub agree_walked : List WalkVector → Bool
agree_walked [] = true
agree_walked (walk_vector ns es b w s o ∷ vs) =
    let p : Pool = record { nodes = ns; expressions = es } in
    same_numbers (after_plan p b (answer p b) w s) (outcome_numbers o) && agree_walked vs
