-- The definitions of plans, of their records and of sections run on stored questions, and their answers as numbers, to be compared with the original's.
-- Assumes nothing: these are definitions.
use Rattle.std.specs.Prelude.{ℕ, suc, Bool, true, false, ◌&&◌, cond, List, [], ◌∷◌, ◌++◌, length, take, eqb}
use Rattle.meaning.specs.Refusals.{Refusal, number, answer_no}
use Rattle.frames.specs.declared.node.Node.{Node}
use Rattle.frames.specs.declared.rest.Expression.{Expression}
use Rattle.pool.specs.Pool.{Pool}
use Rattle.pool.specs.Admission.{shape}
use Rattle.exp_dims.specs.Dimension.{exp_dim}
use Rattle.sections.specs.Sections.{positions_from, widths}
use Rattle.plans.specs.Plan.{is_plan, n_bits, n_bits_ext, q2exp_count, q2exp}
use Rattle.plans.specs.Columns.{fits}
use Rattle.plans.specs.Agreement.{cm_count, names_there, leaf_there, bits_good, counts_agree}
use Rattle.map_records.specs.Mapping.{Mapping, quotient_dim, mapped, some_none}
use Rattle.plan_tables.specs.Tables.{positions, cm_n, cm2ns, column_records, exp2pol, offsets_of}

abbrev pub node : ℕ → ℕ → ℕ → ℕ → ℕ → ℕ → Node
node k id count a b c = record { kind = k; next = 0; id = id; count = count; c0 = a; c1 = b; c2 = c; sign = 0; magnitude = 0 }

abbrev pub root : ℕ → Expression
root n = record { root = n; flags = 0 }

-- a pool, a plan, and the original's answer
pub data Vector : Type 0 where
  vector : List Node → List Expression → List ℕ → List ℕ → Vector

abbrev leaves_there : ℕ → ℕ → List Node → Bool
leaves_there cms qs [] = true
leaves_there cms qs (x ∷ xs) = leaf_there cms qs x.kind x.id && leaves_there cms qs xs

abbrev counted : List ℕ → List ℕ
counted l = length l ∷ l

-- the tables of a plan: the records' positions, cm_n and cm_2ns, the records of the temporary columns and of the expressions, the widths of the sections, their
-- offsets and the total
abbrev table_numbers : Pool → List ℕ → Mapping → List ℕ
table_numbers p b m =
    let ws = widths m.sections m.dims in
    counted (positions m) ++ counted (cm_n m) ++ counted (cm2ns m) ++ counted (column_records m) ++ counted (exp2pol b m (length p.expressions)) ++ counted ws
    ++ counted (offsets_of (n_bits b) (n_bits_ext b) ws)

-- an accepted plan: 0, then the records' sections and dimensions, the expressions with a column, cm_dims, q_dim, and its tables
abbrev record_numbers : Pool → List ℕ → Mapping → List ℕ
record_numbers p b m =
    0 ∷ counted m.sections ++ counted m.dims ++ counted m.columns ++ counted (take (cm_count b) m.cm_dims) ++ counted (quotient_dim b p ∷ []) ++ table_numbers p b m

abbrev late : Pool → List ℕ → List ℕ
late p b =
    cond (bits_good b)
    (cond (counts_agree b)
    (cond (some_none (mapped b p).dims) (number Refusal.no_dimension ∷ []) (record_numbers p b (mapped b p)))
    (number Refusal.counts ∷ []))
    (number Refusal.bits ∷ [])

abbrev named : Pool → List ℕ → ℕ → List ℕ
named p b n =
    cond (eqb n 0)
    (cond (names_there b (length p.expressions) && leaves_there (cm_count b) (q2exp_count b) p.nodes) (late p b) (number Refusal.not_there ∷ []))
    (n ∷ [])

-- the order of refusals is that of a plan; a cycle (4), which no test tells, is not asked for
abbrev pub answer : Pool → List ℕ → List ℕ
answer p b =
    cond (is_plan b)
    (cond (fits b) (named p b (answer_no (shape p))) (number Refusal.full ∷ []))
    (number Refusal.malformed ∷ [])

abbrev pub same_numbers : List ℕ → List ℕ → Bool
same_numbers [] [] = true
same_numbers [] (b ∷ bs) = false
same_numbers (a ∷ as') [] = false
same_numbers (a ∷ as') (b ∷ bs) = eqb a b && same_numbers as' bs

-- each answer is the original's
abbrev pub agree : List Vector → Bool
agree [] = true
agree (vector ns es b expected ∷ vs) = same_numbers (answer (record { nodes = ns; expressions = es }) b) expected && agree vs

-- ── dimensions of expressions, with the cm_dims that a plan leaves ───────────
abbrev dims_from : Pool → List ℕ → List Expression → ℕ → List ℕ
dims_from p b [] e = []
dims_from p b (x ∷ xs) e = exp_dim (mapped b p).cm_dims (q2exp b) p e ∷ dims_from p b xs (suc e)

abbrev pub agree_dims : List Vector → Bool
agree_dims [] = true
agree_dims (vector ns es b expected ∷ vs) = same_numbers (dims_from (record { nodes = ns; expressions = es }) b es 0) expected && agree_dims vs

-- ── sections ─────────────────────────────────────────────────────────────────
-- sections, dimensions and old positions of records; positions and widths
pub data Placing : Type 0 where
  placing : List ℕ → List ℕ → List ℕ → List ℕ → Placing

abbrev pub agree_placed : List Placing → Bool
agree_placed [] = true
agree_placed (placing ss ds ps expected ∷ vs) = same_numbers (positions_from ss ds ps ++ widths ss ds) expected && agree_placed vs
