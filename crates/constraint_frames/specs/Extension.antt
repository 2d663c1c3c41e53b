-- THE POOL WITH THE CONSTRAINT, FROM BYTES: what is answered to frames, identities, the words of the set that a search chose, the number of "vc" and the columns, with
-- room for so many bytes. The order of refusals: 1 and 9 while reading, 1 of the set, 2, 3 and 4 of the pool, 17, 3 of an identity, 9 of the limits, 11, and 9 of the room.
-- Assumes nothing: these are definitions.
use Rattle.std.specs.Prelude.{ℕ, ◌+◌, ◌-◌, ◌≤◌, ◌≡◌, Bool, true, false, List, [], length, get_or, drop, ltb, leb, Result}
use Rattle.std.proofs.Math.Option.{Option, none}
use Rattle.meaning.specs.Refusals.{Refusal, Answer, done, refused, ◌then◌}
use Rattle.meaning.specs.Trees.{Acyclic}
use Rattle.kinds.specs.Write.{write}
use Rattle.kinds.specs.Answers.{answer_of}
use Rattle.kinds.specs.declared.refusal.Refused.{Refused}
use Rattle.frames.specs.Order.{node_limit, expression_limit, Input}
use Rattle.frames.specs.Reading.{reading}
use Rattle.frames.specs.Written.{frames_of}
use Rattle.frames.specs.declared.count.Counts.{Counts}
use Rattle.pool.specs.Pool.{Pool}
use Rattle.pool.specs.Trees.{forest}
use Rattle.pool.specs.Shaped.{Shaped}
use Rattle.pool.specs.Verdict.{Verdict}
use Rattle.pool.specs.Numbered.{pool_of}
use Rattle.pool.specs.Tabled.{tabled}
use Rattle.pool.specs.Ranking.{Tabling}
use Rattle.search_meaning.specs.Search.{all_below}
use Rattle.sets.specs.Members.{members}
use Rattle.constraint_meaning.specs.Tree.{columns_from, extended}
use Rattle.constraint_meaning.specs.Constraint.{unless, tree_for}
use Rattle.constraint_pool.specs.Nodes.{with_constraint}
use Rattle.constraint_pool.specs.Whole.{AllBelow}
use Rattle.constraint_pool.specs.Judging.{judged}
use Rattle.constraint_pool.specs.Added.{Wide}
use Rattle.constraint_pool.specs.declared.judge.Columns.{Columns}
use Rattle.constraint_frames.specs.Formed.{input_of}
use Rattle.constraint_frames.specs.Listing.{set_good}
use Rattle.constraint_frames.specs.declared.answer.Numbers.{Numbers}

-- ── the answer ───────────────────────────────────────────────────────────────
-- what is asked for beside a pool
pub record Question : Type 0 where
  pub identities : List ℕ
  -- the expressions that become columns, ascending
  pub chosen : List ℕ
  pub vc : ℕ
  pub columns : Columns

abbrev pub asking : List ℕ → List ℕ → ℕ → Columns → Question
asking ids ms vc c = record { identities = ids; chosen = ms; vc = vc; columns = c }

abbrev pub pool_with : Pool → Question → Pool
pool_with p q = with_constraint p q.vc q.columns.commitments (get_or q.identities 0 0) (drop 1 q.identities) q.chosen

-- its frames
abbrev pub bytes_of : Pool → List ℕ
bytes_of p = frames_of (input_of p)

-- of columns, with so many intermediates, in a pool that had m expressions: c_exp, n_cm3, n_cm4, the first of qs, n_commitments, and the size of the frames
abbrev pub numbers_of : Columns → ℕ → ℕ → ℕ → Numbers
numbers_of c k m size =
    record {
      expression = m;
      n_cm3 = c.commitments + k - c.n_cm1 - c.n_cm2;
      n_cm4 = c.quotients;
      first_q = c.commitments + k;
      commitments = c.commitments + k + c.quotients;
      size = size;
    }

pub record Extension : Type 0 where
  pub pool : Pool
  pub numbers : Numbers

abbrev pub extension : Pool → Question → Extension
extension p q =
    record { pool = pool_with p q; numbers = numbers_of q.columns (length q.chosen) (length p.expressions) (length (bytes_of (pool_with p q))) }

-- to an admitted pool, whose expressions the members are
unfoldable pub extending : Pool → Question → ℕ → Answer Extension
extending p q room =
    unless Refusal.no_identity (ltb 0 (length q.identities)) then λ _.
    unless Refusal.not_there (all_below (length p.expressions) q.identities) then λ _.
    judged (forest p) (length p.nodes) q.vc q.columns q.identities q.chosen then λ _.
    unless Refusal.full (leb (length (bytes_of (pool_with p q))) room) then λ _.
    done (extension p q)

-- a is a refusal, 1, where a test fails, or else what the rest says
abbrev pub OrMalformed : Bool → Answer Extension → Type 0 → Type 0
OrMalformed true a rest = rest
OrMalformed false a rest = a ≡ refused Refusal.malformed none

-- a is THE ANSWER to a pool and the words w of a set
abbrev pub Answers : Pool → List ℕ → Question → ℕ → Answer Extension → Type 0
Answers p w q room a =
    OrMalformed (set_good (length p.expressions) w) a ((v : Answer (Unit {0})) × Verdict p [] v × (a ≡ (v then λ _. extending p q room)))

-- a is THE ANSWER where reading answers x
pub record Runs (x : Answer Input) (w : List ℕ) (q : Question) (room : ℕ) (a : Answer Extension) : Type 0 where
  pub unread : (k : Refusal) (o : Option ℕ) → x ≡ refused k o → a ≡ refused k o
  pub judged : (i : Input) → x ≡ done i → Answers (pool_of i) w q room a

-- ── what is told, and what stands after it ───────────────────────────────────
-- the numbers, or the refusal with the node to blame; a root or an identity that is not there has none
abbrev pub Constrained : Type 0
Constrained = Result Numbers Refused

-- WHAT IS SAID
abbrev pub constrained_says : Constrained → Answer Numbers
constrained_says = answer_of

-- the frames at the front of the room; as it was on a refusal
abbrev pub room_after : List ℕ → Answer Extension → List ℕ
room_after out (done e) = write out 0 (bytes_of e.pool)
room_after out (refused k o) = out

pub record Tells (a : Answer Extension) (out out' : List ℕ) (r : Constrained) : Type 0 where
  pub says : constrained_says r ≡ (a then λ e. done e.numbers)
  pub room : out' ≡ room_after out a

-- the frames are read as the pool with the constraint, which is admitted and stands for the extended forest
pub record Back (p : Pool) (q : Question) : Type 0 where
  pub read : reading (bytes_of (pool_with p q)) ≡ done (input_of (pool_with p q))
  pub shaped : Shaped (pool_with p q)
  pub acyclic : Acyclic (forest (pool_with p q))
  pub forest_is :
      forest (pool_with p q)
      ≡ extended (forest p) (tree_for (forest p) (length p.nodes) q.vc q.identities (columns_from q.columns.commitments q.chosen)).tree

-- THE CONTRACT
pub record ConstrainIs (s w : List ℕ) (q : Question) (out out' : List ℕ) (r : Constrained) : Type 0 where
  pub answer : Answer Extension
  pub runs : Runs (reading s) w q (length out) answer
  pub tells : Tells answer out out' r
  pub back : (i : Input) → reading s ≡ done i → (e : Extension) → answer ≡ done e → Back (pool_of i) q

abbrev pub ConstrainGiven : List ℕ → List ℕ → List ℕ → ℕ → Columns → List ℕ → List ℕ → Constrained → Type 0
ConstrainGiven s ids w vc c out out' r = ConstrainIs s w (asking ids (members w) vc c) out out' r

-- ── of tables ────────────────────────────────────────────────────────────────
pub record AdmittedAsks (w l x ms : List ℕ) (n m : ℕ) : Type 0 where
  pub shaped : Shaped (tabled (Tabling w l x n m))
  pub nodes : n ≤ node_limit
  pub expressions : m ≤ expression_limit
  pub there : AllBelow m ms
  pub wide : Wide w l x

abbrev pub AdmittedGiven : List ℕ → List ℕ → List ℕ → List ℕ → List ℕ → ℕ → Columns → ℕ → ℕ → List ℕ → List ℕ → Constrained → Type 0
AdmittedGiven w l x ids ms vc c n m out out' r = Tells (extending (tabled (Tabling w l x n m)) (asking ids ms vc c) (length out)) out out' r

-- what was read is within the limits
pub record ReadAsks (w l x : List ℕ) (c : Counts) : Type 0 where
  pub nodes : c.nodes ≤ node_limit
  pub expressions : c.expressions ≤ expression_limit
  pub wide : Wide w l x

abbrev pub ReadGiven : List ℕ → List ℕ → List ℕ → List ℕ → List ℕ → ℕ → Columns → Counts → List ℕ → List ℕ → Constrained → Type 0
ReadGiven w l x ids s vc c k out out' r =
    (a : Answer Extension) × Answers (tabled (Tabling w l x k.nodes k.expressions)) s (asking ids (members s) vc c) (length out) a × Tells a out out' r
