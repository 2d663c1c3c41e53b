-- THE RECORD OF EACH CM NUMBER in a domain, and what filling a table of them asks and gives.
-- Assumes nothing: these are definitions.
use Rattle.std.specs.Prelude.{ℕ, ◌≤◌, ◌≡◌, Bool, cond, List, length, take}
use Rattle.plans.specs.Columns.{record_limit}
use Rattle.map_records.specs.Mapping.{cm1_n, cm4_n, twin}
use Rattle.plan_tables.specs.Tables.{numbers_in}
use Rattle.plan_tables.specs.Listed.{Listed}

-- in "n" or in "2ns", by the sections of the records
abbrev pub cms_of : Bool → List ℕ → List ℕ
cms_of in_n ss = cond in_n (numbers_in cm1_n cm4_n 0 ss) (numbers_in (twin cm1_n) (twin cm4_n) 0 ss)

pub record CmsAsked (ss : List ℕ) (n : ℕ) : Type 0 where
  pub size : length ss ≡ record_limit
  pub few : n ≤ record_limit

abbrev pub CmsGiven : Bool → List ℕ → ℕ → List ℕ → List ℕ → ℕ → Type 0
CmsGiven in_n ss n cms cms' r = Listed cms cms' r (cms_of in_n (take n ss))
