-- A mapping as it stands in tables, and what its parts ask and give.
-- Assumes nothing: these are definitions.
use Rattle.std.specs.Prelude.{ℕ, ◌<◌, ◌≤◌, max, ◌≡◌, true, List, length, take}
use Rattle.frames.specs.Order.{expression_limit}
use Rattle.pool.specs.Pool.{Pool}
use Rattle.pool.specs.Tabled.{Tables, tabled}
use Rattle.pool.specs.Admission.{Ranked}
use Rattle.pool.specs.Ranking.{Tabling, Starts}
use Rattle.plans.specs.Plan.{Whole, product_count, num_of, den_of, im_count, q_deg, q2exp}
use Rattle.plans.specs.Columns.{record_limit, record_count}
use Rattle.plans.specs.Counting.{Tells, known}
use Rattle.plans.specs.Agreement.{names_there, counts_agree}
use Rattle.exp_dims.specs.Dimension.{exp_dim}
use Rattle.map_records.specs.Mapping.{cm_limit, Mapping, column, intermediates, quotient_dim, quotients}

-- n records in tables of sections and dimensions, and cm_dims
pub record Holds (ss ds cs : List ℕ) (n : ℕ) (m : Mapping) : Type 0 where
  pub sections_size : length ss ≡ record_limit
  pub dims_size : length ds ≡ record_limit
  pub cm_size : length cs ≡ cm_limit
  pub count : length m.sections ≡ n
  pub counted : length m.dims ≡ n
  pub sections : take n ss ≡ m.sections
  pub dims : take n ds ≡ m.dims
  pub cm_dims : cs ≡ m.cm_dims

-- and a table that tells which expressions get no column any more
pub record State (b ss ds cs seen : List ℕ) (n : ℕ) (m : Mapping) : Type 0 where
  pub holds : Holds ss ds cs n m
  pub tells : Tells expression_limit (known b m.columns) seen

-- a plan that fits, with counts that agree
pub record Planned (b : List ℕ) : Type 0 where
  pub whole : Whole b
  pub fits : record_count b ≤ record_limit
  pub agree : counts_agree b ≡ true

-- an admitted pool in which all that the plan names is there
pub record Ready (b : List ℕ) (t : Tables) (rank : ℕ → ℕ) : Type 0 where
  pub planned : Planned b
  pub starts : Starts t (q2exp b)
  pub ranked : Ranked (tabled t) (q2exp b) rank
  pub names : names_there b t.expression_count ≡ true

-- ── one column ───────────────────────────────────────────────────────────────
pub record ColumnAsks (b ss ds cs seen : List ℕ) (n e d : ℕ) (m : Mapping) : Type 0 where
  pub state : State b ss ds cs seen n m
  pub small : e < expression_limit
  pub fits : length (column b e d m).sections ≤ record_limit

-- for whichever plan, cm_dims and mapping: some are asked for, and the answer holds of all
abbrev pub ColumnAsked : List ℕ → List ℕ → List ℕ → ℕ → ℕ → ℕ → Type 0
ColumnAsked ss ds seen n e d = (b : List ℕ) × (cs : List ℕ) × (m : Mapping) × ColumnAsks b ss ds cs seen n e d m

abbrev pub ColumnGiven : List ℕ → List ℕ → List ℕ → List ℕ → List ℕ → List ℕ → ℕ → ℕ → ℕ → ℕ → Type 0
ColumnGiven ss ss' ds ds' seen seen' n e d r =
    (b cs : List ℕ) (m : Mapping) → ColumnAsks b ss ds cs seen n e d m → State b ss' ds' cs seen' r (column b e d m)

-- ── dimensions of expressions ────────────────────────────────────────────────
-- a pool in tables that is admitted together with the expressions of q numbers, in which an expression is there
pub record DimAsks (t : Tables) (table : List ℕ) (rank : ℕ → ℕ) (e : ℕ) : Type 0 where
  pub starts : Starts t table
  pub ranked : Ranked (tabled t) table rank
  pub there : e < t.expression_count

abbrev pub DimAsked : List ℕ → List ℕ → List ℕ → ℕ → Type 0
DimAsked w x table e = (l : List ℕ) × (n : ℕ) × (m : ℕ) × (rank : (ℕ → ℕ)) × DimAsks (Tabling w l x n m) table rank e

abbrev pub DimGiven : List ℕ → List ℕ → List ℕ → List ℕ → ℕ → ℕ → Type 0
DimGiven w x table dims e r =
    (l : List ℕ) (n m : ℕ) (rank : ℕ → ℕ) → DimAsks (Tabling w l x n m) table rank e → r ≡ exp_dim dims table (tabled (Tabling w l x n m)) e

abbrev pub BothAsked : List ℕ → List ℕ → List ℕ → ℕ → ℕ → Type 0
BothAsked w x table e f =
    (l : List ℕ) × (n : ℕ) × (m : ℕ) × (rank : (ℕ → ℕ)) × DimAsks (Tabling w l x n m) table rank e × DimAsks (Tabling w l x n m) table rank f

abbrev pub BothGiven : List ℕ → List ℕ → List ℕ → List ℕ → ℕ → ℕ → ℕ → Type 0
BothGiven w x table dims e f r =
    (l : List ℕ) (n m : ℕ) (rank : ℕ → ℕ) → DimAsks (Tabling w l x n m) table rank e → DimAsks (Tabling w l x n m) table rank f →
    r ≡ max (exp_dim dims table (tabled (Tabling w l x n m)) e) (exp_dim dims table (tabled (Tabling w l x n m)) f)

-- ── the parts ────────────────────────────────────────────────────────────────
-- a mapping in tables, of an admitted pool and a plan that is fine
pub record Begun (b : List ℕ) (t : Tables) (rank : ℕ → ℕ) (table ss ds cs seen : List ℕ) (n : ℕ) (m : Mapping) : Type 0 where
  pub ready : Ready b t rank
  pub tabling : table ≡ q2exp b
  pub state : State b ss ds cs seen n m

-- a part begins at one mapping and ends at another, for whichever pool
abbrev pub PartAsked : List ℕ → List ℕ → List ℕ → List ℕ → List ℕ → List ℕ → List ℕ → List ℕ → ℕ → (Pool → Mapping) → Type 0
PartAsked w x table b ss ds cs seen n from =
    (l : List ℕ) × (k : ℕ) × (m : ℕ) × (rank : (ℕ → ℕ)) × Begun b (Tabling w l x k m) rank table ss ds cs seen n (from (tabled (Tabling w l x k m)))

abbrev pub PartGiven : List ℕ → List ℕ → List ℕ → List ℕ → List ℕ → List ℕ → List ℕ → List ℕ → ℕ → (Pool → Mapping) → List ℕ → List ℕ → List ℕ → List ℕ → ℕ → (Pool → Mapping) → Type 0
PartGiven w x table b ss ds cs seen n from ss' ds' cs' seen' r to =
    (l : List ℕ) (k m : ℕ) (rank : ℕ → ℕ) → Begun b (Tabling w l x k m) rank table ss ds cs seen n (from (tabled (Tabling w l x k m))) →
    State b ss' ds' cs' seen' r (to (tabled (Tabling w l x k m)))

-- the grand products name expressions that a pool can have
abbrev pub ProductsLow : List ℕ → Type 0
ProductsLow b = (i : ℕ) → i < product_count b → (num_of b i < expression_limit) × (den_of b i < expression_limit)

-- a part that looks at no expression's dimension
abbrev pub PlainAsked : List ℕ → List ℕ → List ℕ → List ℕ → List ℕ → ℕ → (Pool → Mapping) → Type 0
PlainAsked b ss ds cs seen n from = (Planned b × ProductsLow b) × ((p : Pool) × State b ss ds cs seen n (from p))

abbrev pub PlainGiven : List ℕ → List ℕ → List ℕ → List ℕ → List ℕ → ℕ → (Pool → Mapping) → List ℕ → List ℕ → List ℕ → List ℕ → ℕ → (Pool → Mapping) → Type 0
PlainGiven b ss ds cs seen n from ss' ds' cs' seen' r to = (p : Pool) → State b ss ds cs seen n (from p) → State b ss' ds' cs' seen' r (to p)

-- the first columns
abbrev pub HeldAsked : List ℕ → List ℕ → List ℕ → List ℕ → ℕ → (Pool → Mapping) → Type 0
HeldAsked b ss ds cs n from = Planned b × ((p : Pool) × Holds ss ds cs n (from p))

abbrev pub HeldGiven : List ℕ → List ℕ → List ℕ → List ℕ → ℕ → (Pool → Mapping) → List ℕ → List ℕ → List ℕ → ℕ → (Pool → Mapping) → Type 0
HeldGiven b ss ds cs n from ss' ds' cs' r to = (p : Pool) → Holds ss ds cs n (from p) → Holds ss' ds' cs' r (to p)

-- the intermediates
pub record ImAsks (b : List ℕ) (t : Tables) (rank : ℕ → ℕ) (table ss ds cs : List ℕ) (n : ℕ) : Type 0 where
  pub ready : Ready b t rank
  pub tabling : table ≡ q2exp b
  pub holds : Holds ss ds cs n (intermediates b (tabled t) 0)

abbrev pub ImAsked : List ℕ → List ℕ → List ℕ → List ℕ → List ℕ → List ℕ → List ℕ → ℕ → Type 0
ImAsked w x table b ss ds cs n = (l : List ℕ) × (k : ℕ) × (m : ℕ) × (rank : (ℕ → ℕ)) × ImAsks b (Tabling w l x k m) rank table ss ds cs n

abbrev pub ImGiven : List ℕ → List ℕ → List ℕ → List ℕ → List ℕ → List ℕ → List ℕ → ℕ → List ℕ → List ℕ → List ℕ → ℕ → Type 0
ImGiven w x table b ss ds cs n ss' ds' cs' r =
    (l : List ℕ) (k m : ℕ) (rank : ℕ → ℕ) → ImAsks b (Tabling w l x k m) rank table ss ds cs n →
    Holds ss' ds' cs' r (intermediates b (tabled (Tabling w l x k m)) (im_count b))

-- the pieces of the quotient
pub record QuotientAsks (b ss ds cs : List ℕ) (n d : ℕ) (p : Pool) : Type 0 where
  pub holds : Holds ss ds cs n (quotients b p 0)
  pub dim : d ≡ quotient_dim b p

abbrev pub QuotientAsked : List ℕ → List ℕ → List ℕ → List ℕ → ℕ → ℕ → Type 0
QuotientAsked b ss ds cs n d = Planned b × ((p : Pool) × QuotientAsks b ss ds cs n d p)

abbrev pub QuotientGiven : List ℕ → List ℕ → List ℕ → List ℕ → ℕ → ℕ → List ℕ → List ℕ → List ℕ → ℕ → Type 0
QuotientGiven b ss ds cs n d ss' ds' cs' r = (p : Pool) → QuotientAsks b ss ds cs n d p → Holds ss' ds' cs' r (quotients b p (q_deg b))
