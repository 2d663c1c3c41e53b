-- Fixing by computation, against the Rust's answers, and that each assumption on a plan is needed.
-- Assumes nothing.
use Rattle.std.specs.Prelude.{ℕ, ◌+◌, ◌≡◌, refl, false, cond, [], ◌∷◌, eqb}
use Rattle.std.proofs.Math.Option.{Option, none, some}
use Rattle.meaning.specs.Refusals.{Answer, done, ◌then◌}
use Rattle.meaning.specs.Trees.{RowKind, Leaf, Expr, Expression, Forest}
use Rattle.meaning.specs.Steps.{Kind, Cell, Ref, StepOp, Step, step}
use Rattle.meaning.specs.Values.{Given}
use Rattle.meaning.specs.Running.{empty, run}
use Rattle.meaning.specs.Generation.{start, Request, serve_all}
use Rattle.meaning.specs.Building.{Segment, segment}
use Rattle.meaning.specs.Models.{modulo}
use Rattle.fixed_meaning.specs.Fixing.{Plan, fix_segment}
use Rattle.fixed_meaning.specs.Demand3Fixed.{cell_for}

abbrev ref : Kind → ℕ → ℕ → Ref
ref k i r = Ref.var (Cell.cell k i r)

abbrev e : ℕ → ℕ → Ref
e = ref Kind.exp

abbrev t : ℕ → ℕ → Ref
t = ref Kind.tmp

abbrev c : ℕ → ℕ → Ref
c = ref (Kind.row RowKind.cm)

abbrev col : ℕ → ℕ → Ref
col = ref Kind.tmp_exp

abbrev copy : Ref → Ref → Step
copy d s = step StepOp.copy d (s ∷ [])

abbrev only : ℕ → ℕ → ℕ → Option ℕ
only i v = λ j. cond (eqb j i) (some v) none

abbrev nowhere : ℕ → Option ℕ
nowhere = λ j. none

abbrev bare : Plan
bare = record { im = nowhere; column = nowhere }

-- `exp0 = add exp1 exp1'` at counter 4 becomes `tmp6 = add tmp4 tmp5'`; one temporary for each (prime, expression) over first, i and last
pub one_for_each :
    fix_segment bare
    (record {
      first = step StepOp.add (e 0 0) (e 1 0 ∷ e 1 1 ∷ []) ∷ [];
      i = copy (e 2 0) (e 1 1) ∷ [];
      last = step StepOp.add (e 0 0) (e 1 0 ∷ e 1 1 ∷ []) ∷ [];
      counter = 4;
    })
    ≡ record {
      first = step StepOp.add (t 6 0) (t 4 0 ∷ t 5 1 ∷ []) ∷ [];
      i = copy (t 7 0) (t 5 1) ∷ [];
      last = step StepOp.add (t 6 0) (t 4 0 ∷ t 5 1 ∷ []) ∷ [];
      counter = 8;
    }
one_for_each = refl

-- expression 2 is an intermediate, cm 2; expression 1 has the temporary column 0 in "n"
abbrev code : Segment
code = record {
  first = copy (e 0 0) (c 0 0) ∷ copy (e 0 1) (c 0 1) ∷ copy (e 1 1) (e 0 1) ∷ copy (e 2 1) (e 1 1) ∷ copy (t 1 0) (e 2 0) ∷ [];
  i = copy (e 1 1) (e 0 1) ∷ copy (e 2 1) (e 1 1) ∷ copy (t 1 0) (e 2 0) ∷ [];
  last = [];
  counter = 5;
}

-- the prime stays, on a destination too: tmp6', tmp_exp0', cm2'
pub in_n_lem :
    fix_segment (record { im = only 2 2; column = only 1 0 }) code
    ≡ record {
      first = copy (t 5 0) (c 0 0) ∷ copy (t 6 1) (c 0 1) ∷ copy (col 0 1) (t 6 1) ∷ copy (c 2 1) (col 0 1) ∷ copy (t 1 0) (c 2 0) ∷ [];
      i = copy (col 0 1) (t 6 1) ∷ copy (c 2 1) (col 0 1) ∷ copy (t 1 0) (c 2 0) ∷ [];
      last = [];
      counter = 7;
    }
in_n_lem = refl

pub in_2ns :
    fix_segment (record { im = only 2 2; column = nowhere }) code
    ≡ record {
      first = copy (t 5 0) (c 0 0) ∷ copy (t 6 1) (c 0 1) ∷ copy (t 7 1) (t 6 1) ∷ copy (c 2 1) (t 7 1) ∷ copy (t 1 0) (c 2 0) ∷ [];
      i = copy (t 7 1) (t 6 1) ∷ copy (c 2 1) (t 7 1) ∷ copy (t 1 0) (c 2 0) ∷ [];
      last = [];
      counter = 8;
    }
in_2ns = refl

-- every source is fixed, also one beyond what the step needs
pub beyond_what_is-needed :
    fix_segment bare (record { first = step StepOp.copy (e 0 0) (c 0 0 ∷ e 3 0 ∷ []) ∷ []; i = []; last = []; counter = 0 })
    ≡ record { first = step StepOp.copy (t 1 0) (c 0 0 ∷ t 0 0 ∷ []) ∷ []; i = []; last = []; counter = 2 }
beyond_what_is-needed = refl

-- ── the assumptions on a plan are needed ─────────────────────────────────────
-- a cm holds its number and 10 more at the next row
abbrev G : Given ℕ
G = record { cells = λ k i r. some (i + cond (eqb r 0) 0 10); flats = λ k i. none; xs = λ k r. none }

abbrev cm : ℕ → Expression
cm i = record { tree = Expr.leaf 0 (Leaf.cell RowKind.cm i 0); keep = false; keep2ns = false; id_q = false }

abbrev plain : ℕ → Request
plain i = record { expression = i; row = 0; fused = false; result = none }

-- what stands in the cell of a request after the fixed list of plain requests for expressions 0 and 1 is run modulo 97
abbrev ends : Plan → Forest → ℕ → Answer (Option ℕ)
ends L E q =
    serve_all 2 E (plain 0 ∷ plain 1 ∷ []) start then λ st.
    let S = segment E st in
    done (ran S (run (modulo 97) G (fix_segment L S).first empty))
  where
    ran : Segment → Option (Cell → Option ℕ) → Option ℕ
    ran S none = none
    ran S (some s) = s (cell_for L S (plain q))

-- two intermediates in one column: expression 0, cm2, ends with cm3
pub columns_must_differ : ends (record { im = λ j. some 5; column = nowhere }) (cm 2 ∷ cm 3 ∷ []) 0 ≡ done (some 3)
columns_must_differ = refl

-- a leaf that reads an intermediate's column: expression 1, cm5, ends with expression 0's value
pub no-leaf-may-read-one : ends (record { im = only 0 5; column = nowhere }) (cm 2 ∷ cm 5 ∷ []) 1 ≡ done (some 2)
no-leaf-may-read-one = refl
