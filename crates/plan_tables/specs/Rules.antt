-- What filling the rules of fixing asks and gives. Assumes nothing: these are definitions.
use Rattle.std.specs.Prelude.{ℕ, ◌<◌, ◌≤◌, ◌≡◌, Bool, List, length, get_or, take, replicate}
use Rattle.kinds.specs.KindBytes as kind
use Rattle.kinds.specs.Write.{write}
use Rattle.frames.specs.Order.{expression_limit}
use Rattle.pool.specs.Tabled.{Tables, tabled}
use Rattle.pool.specs.Ranking.{Tabling, Starts}
use Rattle.plans.specs.Plan.{q2exp}
use Rattle.plans.specs.Columns.{record_limit}
use Rattle.exp_dims.specs.Dimension.{exp_dim}
use Rattle.pool.specs.Admission.{Ranked}
use Rattle.map_records.specs.Tables.{Ready}
use Rattle.plan_tables.specs.Tables.{of_column, packed, rules_of}
use Rattle.plan_tables.specs.Cells.{Cells}
use Rattle.plan_tables.specs.Gathered.{columns_of}

-- ── the columns' rules ───────────────────────────────────────────────────────
-- an admitted pool, and columns of expressions that are there
pub record ColumnRulesAsks (t : Tables) (rank : ℕ → ℕ) (table columns : List ℕ) (count : ℕ) (rules : List ℕ) : Type 0 where
  pub starts : Starts t table
  pub ranked : Ranked (tabled t) table rank
  pub few : count ≤ record_limit
  pub inside : count ≤ length columns
  pub there : (k : ℕ) → k < count → get_or columns k 0 < t.expression_count
  pub full : length rules ≡ expression_limit

abbrev pub ColumnRulesAsked : List ℕ → List ℕ → List ℕ → List ℕ → ℕ → List ℕ → Type 0
ColumnRulesAsked w x table columns count rules = (l : List ℕ) × (n : ℕ) × (m : ℕ) × (rank : (ℕ → ℕ)) × ColumnRulesAsks (Tabling w l x n m) rank table columns count rules

-- the rule of expression e by column k
abbrev pub column_word : Tables → List ℕ → List ℕ → ℕ → ℕ → ℕ
column_word t table dims e k = packed kind.tmp_exp k (exp_dim dims table (tabled t) e)

-- and by the first of the columns that is e's; else what stood there
abbrev pub by_columns : Tables → List ℕ → List ℕ → List ℕ → ℕ → List ℕ → ℕ → ℕ
by_columns t table dims columns count before e = of_column (column_word t table dims e) e 0 (take count columns) (get_or before e 0)

abbrev pub ColumnRulesGiven : List ℕ → List ℕ → List ℕ → List ℕ → List ℕ → ℕ → List ℕ → List ℕ → Type 0
ColumnRulesGiven w x table dims columns count rules rules' =
    (l : List ℕ) (n m : ℕ) (rank : ℕ → ℕ) → ColumnRulesAsks (Tabling w l x n m) rank table columns count rules →
    Cells m (by_columns (Tabling w l x n m) table dims columns count rules) rules rules'

-- ── all rules ────────────────────────────────────────────────────────────────
-- a plan that is fine with an admitted pool, its columns, and no rule yet
pub record RulesAsks (b : List ℕ) (t : Tables) (rank : ℕ → ℕ) (table columns : List ℕ) (count : ℕ) (rules : List ℕ) : Type 0 where
  pub ready : Ready b t rank
  pub tabling : table ≡ q2exp b
  pub counted : count ≡ length (columns_of b)
  pub listed : take count columns ≡ columns_of b
  pub cleared : rules ≡ replicate expression_limit 0

abbrev pub RulesAsked : List ℕ → List ℕ → List ℕ → List ℕ → List ℕ → ℕ → List ℕ → Type 0
RulesAsked w x table b columns count rules = (l : List ℕ) × (n : ℕ) × (m : ℕ) × (rank : (ℕ → ℕ)) × RulesAsks b (Tabling w l x n m) rank table columns count rules

-- THE RULES of the pool's expressions stand at the front, with the dimensions of the cm as they are
abbrev pub RulesGiven : List ℕ → List ℕ → List ℕ → List ℕ → List ℕ → List ℕ → ℕ → List ℕ → Bool → List ℕ → Type 0
RulesGiven w x table b dims columns count rules in_n rules' =
    (l : List ℕ) (n m : ℕ) (rank : ℕ → ℕ) → RulesAsks b (Tabling w l x n m) rank table columns count rules →
    rules' ≡ write rules 0 (rules_of b (tabled (Tabling w l x n m)) dims (columns_of b) in_n)
