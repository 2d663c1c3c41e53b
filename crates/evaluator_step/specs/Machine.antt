-- THE RUN OVER TABLES: what the code does with each record, as numbers. The evaluator's Simulation.antt says that it is meaning's running.
-- Assumes nothing: these are definitions.
use Rattle.std.specs.Prelude.{ℕ, ◌+◌, ◌<◌, ◌≡◌, cond, List, [], ◌∷◌, length, get_or, set, eqb, leb, ltb}
use Rattle.std.specs.Prelude as code
use Rattle.std.proofs.Math.Option.{Option, none, some}
use Rattle.kinds.specs.KindBytes as kind
use Rattle.kinds.specs.StepOps.{sources_needed}
use Rattle.kinds.specs.declared.reference.Reference.{Reference}
use Rattle.kinds.specs.declared.step.Step as bytes
use Rattle.meaning.specs.Values.{bind}
use Rattle.meaning.specs.Models.{modulo}
use Rattle.meaning.specs.Running.{either, apply}
use Rattle.evaluator_cells.specs.Given.{Lent}
use Rattle.evaluator_cells.specs.Literals.{Reduced}
use Rattle.evaluator_cells.specs.Before.{known, before_in, Lends}
use Rattle.lists.specs.Records.{counted_in}
use Rattle.lists.specs.Decoding.{op_from}
use Rattle.evaluator_cells.specs.Cells.{cell_limit, place_no, id_in, writable_no, index_of, Chained}
use Rattle.evaluator_cells.specs.declared.cells.Cells.{Cells}
use Rattle.evaluator_step.specs.declared.step.Stop.{Stop}
use Rattle.evaluator_step.specs.declared.step.Stop.TheVariants as stop

-- ---- the table

abbrev pub Table : Type 0
Table = Cells

abbrev pub table : List ℕ → List ℕ → List ℕ → List ℕ → ℕ → Table
table hs ns ks vs n = record { heads = hs; nexts = ns; keys = ks; values = vs; count = n }

-- the table is sound, and holds numbers below m
pub record Kept (m : ℕ) (t : Table) : Type 0 where
  pub chained : Chained t.heads t.nexts t.keys t.count
  pub size : length t.values ≡ cell_limit
  pub reduced : (j : ℕ) → j < t.count → get_or t.values j 0 < m

abbrev pub value_at : List ℕ → code.Option ℕ → Option ℕ
value_at vs (code.Some i) = some (get_or vs i 0)
value_at vs code.None = none

unfoldable pub lookup : Table → ℕ → Option ℕ
lookup t key = value_at t.values (index_of t.keys t.count key)

-- ---- a step

pub data Outcome : Type 0 where
  next : Table → Outcome
  no_rule : Outcome
  over : Outcome

-- a value written at a key: over an older one, or as a new cell where there is room
abbrev pub stored_at : Table → ℕ → ℕ → code.Option ℕ → Outcome
stored_at t key v (code.Some i) = next (table t.heads t.nexts t.keys (set t.values i v) t.count)
stored_at t key v code.None =
    cond (ltb t.count cell_limit)
    (next
    (table (set t.heads (id_in key) (t.count + 1)) (set t.nexts t.count (get_or t.heads (id_in key) 0)) (set t.keys t.count key)
    (set t.values t.count v) (t.count + 1)))
    over

unfoldable pub stored : Table → ℕ → ℕ → Outcome
stored t key v = stored_at t key v (index_of t.keys t.count key)

abbrev pub stored_by : Table → Reference → Option ℕ → Outcome
stored_by t d none = no_rule
stored_by t d (some v) = cond (writable_no d.kind) (stored t (place_no d) v) no_rule

abbrev pub after : Outcome → (Table → Outcome) → Outcome
after (next t) f = f t
after no_rule f = no_rule
after over f = over

-- how many sources a record's step reads; 0 where it has no rule: its step byte is unknown, or it counts too few
unfoldable pub count_to_read : bytes.Step → ℕ
count_to_read x = cond (leb (sources_needed x.op) x.count) (sources_needed x.op) 0

-- what a record computes, where a source's value is what R says
unfoldable pub reads_by : (Reference → Option ℕ) → List Reference → List (Option ℕ)
reads_by R [] = []
reads_by R (r ∷ rs) = R r ∷ reads_by R rs

unfoldable pub value_by : ℕ → (Reference → Option ℕ) → bytes.Step → Option ℕ
value_by m R x = bind (op_from x.op) (λ o. apply (modulo m) o (reads_by R (counted_in x)))

-- ns: what each node brings, modulo m
module _ (ns : List ℕ) (m : ℕ) (g : Lent) where
  unfoldable pub read_in : Table → Reference → Option ℕ
  read_in t r =
      cond (eqb r.kind kind.number) (some (get_or ns r.extra 0))
      (either (lookup t (place_no r)) (before_in m g r.kind r.id r.prime))

  -- what a record computes
  abbrev pub value_in : Table → bytes.Step → Option ℕ
  value_in t x = value_by m (read_in t) x

  unfoldable pub step_to : Table → bytes.Step → Outcome
  step_to t x = stored_by t x.dest (value_in t x)

  unfoldable pub run_to : Table → List bytes.Step → Outcome
  run_to t [] = next t
  run_to t (x ∷ xs) = after (step_to t x) (λ u. run_to u xs)

-- ---- what the code is asked and gives

abbrev pub StepAsks : List ℕ → List ℕ → ℕ → Table → Type 0
StepAsks ns ws m t = Lends ws m × Reduced ns m × Kept m t

pub record StoreAsks (t : Table) : Type 0 where
  pub chained : Chained t.heads t.nexts t.keys t.count
  pub size : length t.values ≡ cell_limit

module _ (ns : List ℕ) (g : Lent) (m : ℕ) (t : Table) where
  abbrev pub Reads : Reference → code.Option ℕ → Type 0
  Reads r v = known v ≡ read_in ns m g t r

  abbrev pub Values : bytes.Step → code.Option ℕ → Type 0
  Values x v = known v ≡ value_in ns m g t x

-- WHAT THE CODE'S Result SAYS, with the table after it
abbrev pub ran_to : {A : Type 0} → code.Result A Stop → Table → Outcome
ran_to (code.Ok a) t = next t
ran_to (code.Err stop.NoRule) t = no_rule
ran_to (code.Err stop.Over) t = over
