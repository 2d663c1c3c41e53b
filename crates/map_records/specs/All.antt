-- What mapping all parts of a plan asks and gives. Assumes nothing: these are definitions.
use Rattle.std.specs.Prelude.{ℕ, ◌≡◌, List}
use Rattle.pool.specs.Tabled.{Tables, tabled}
use Rattle.pool.specs.Ranking.{Tabling}
use Rattle.plans.specs.Plan.{q2exp}
use Rattle.map_records.specs.Mapping.{fresh, quotient_dim, mapped}
use Rattle.map_records.specs.Tables.{Holds, Ready}
use Rattle.map_records.specs.declared.all.Records.{Records}

-- tables of their sizes, with no record yet and every dimension of a cm 0
pub record AllAsks (b : List ℕ) (t : Tables) (rank : ℕ → ℕ) (table ss ds cs : List ℕ) : Type 0 where
  pub ready : Ready b t rank
  pub tabling : table ≡ q2exp b
  pub holds : Holds ss ds cs 0 (fresh b (tabled t))

abbrev pub AllAsked : List ℕ → List ℕ → List ℕ → List ℕ → List ℕ → List ℕ → List ℕ → Type 0
AllAsked w x table b ss ds cs = (l : List ℕ) × (k : ℕ) × (m : ℕ) × (rank : (ℕ → ℕ)) × AllAsks b (Tabling w l x k m) rank table ss ds cs

-- THE RECORDS stand in the tables, and cm_dims
pub record Mapped (b : List ℕ) (t : Tables) (ss ds cs : List ℕ) (r : Records) : Type 0 where
  pub holds : Holds ss ds cs r.count (mapped b (tabled t))
  pub quotient : r.q_dim ≡ quotient_dim b (tabled t)

abbrev pub AllGiven : List ℕ → List ℕ → List ℕ → List ℕ → List ℕ → List ℕ → List ℕ → List ℕ → List ℕ → List ℕ → Records → Type 0
AllGiven w x table b ss ds cs ss' ds' cs' r =
    (l : List ℕ) (k m : ℕ) (rank : ℕ → ℕ) → AllAsks b (Tabling w l x k m) rank table ss ds cs → Mapped b (Tabling w l x k m) ss' ds' cs' r
