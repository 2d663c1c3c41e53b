-- What the parts of `map` ask and give. Assumes nothing: these are definitions.
use Rattle.std.specs.Prelude.{ℕ, ◌+◌, ◌*◌, ◌<◌, ◌≤◌, ◌≡◌, true, List, [], ◌∷◌, length, take, replicate}
use Rattle.frames.specs.Order.{expression_limit}
use Rattle.pool.specs.Pool.{Pool}
use Rattle.plans.specs.Plan.{Headed, number_limit, n_bits, n_bits_ext}
use Rattle.plans.specs.Columns.{record_limit}
use Rattle.plans.specs.Agreement.{names_there}
use Rattle.sections.specs.Sections.{known, width_count, widths, positions_from}
use Rattle.map_records.specs.Mapping.{cm1_n, cm4_n, twin, mapped}
use Rattle.map_records.specs.Tables.{Planned}
use Rattle.plan_tables.specs.Tables.{numbers_in}
use Rattle.plan_tables.specs.Bounds.{BitsFew}
use Rattle.plan_tables.specs.Gathered.{columns_of}
use Rattle.planning.specs.declared.answer.Plan.{Plan}
use Rattle.plan_map.specs.Numbers.{head_numbers, section_numbers, cm_numbers, expression_numbers}
use Rattle.plan_map.specs.Puts.{Puts}

-- ── positions and widths ─────────────────────────────────────────────────────
-- n records in tables, of sections that there are; no position yet, and room for the widths
pub record PlaceAsked (ss ds : List ℕ) (n : ℕ) (ps ws : List ℕ) : Type 0 where
  pub few : n ≤ record_limit
  pub sections_size : length ss ≡ record_limit
  pub dims_size : length ds ≡ record_limit
  pub there : known (take n ss) ≡ true
  pub cleared : ps ≡ replicate record_limit 0
  pub room : length ws ≡ width_count

pub record PlaceGiven (ss ds : List ℕ) (n : ℕ) (ps ws : List ℕ) : Type 0 where
  pub placed : take n ps ≡ positions_from (take n ss) (take n ds) (replicate n 0)
  pub wide : ws ≡ widths (take n ss) (take n ds)

-- ── the sections ─────────────────────────────────────────────────────────────
-- 12 offsets of eight bytes, 4 counts and 33 widths
abbrev pub head_size : ℕ
head_size = 170

-- counts that two bytes hold
pub record Counted (records cms columns : ℕ) : Type 0 where
  pub few_records : records < number_limit
  pub few_cms : cms < number_limit
  pub few_columns : columns < number_limit

pub record HeadAsked (b ws : List ℕ) (records cms columns room : ℕ) : Type 0 where
  pub headed : Headed b
  pub bits : BitsFew (n_bits b) (n_bits_ext b)
  pub wide : length ws ≡ width_count
  pub counted : Counted records cms columns
  pub fits : head_size ≤ room

abbrev pub HeadGiven : List ℕ → List ℕ → ℕ → ℕ → ℕ → ℕ → List ℕ → List ℕ → ℕ → Type 0
HeadGiven b ws records cms columns q out out' r = Puts out 0 (head_numbers (n_bits b) (n_bits_ext b) ws (records ∷ cms ∷ columns ∷ q ∷ [])) out' r

pub record SectionsAsked (b ss ds : List ℕ) (k : Plan) (cms columns room : ℕ) : Type 0 where
  pub headed : Headed b
  pub bits : BitsFew (n_bits b) (n_bits_ext b)
  pub few : k.records ≤ record_limit
  pub sections_size : length ss ≡ record_limit
  pub dims_size : length ds ≡ record_limit
  pub there : known (take k.records ss) ≡ true
  pub counted : Counted k.records cms columns
  pub fits : head_size + 6 * k.records ≤ room

abbrev pub SectionsGiven : List ℕ → List ℕ → List ℕ → Plan → ℕ → ℕ → List ℕ → List ℕ → ℕ → Type 0
SectionsGiven b ss ds k cms columns out out' r =
    let n = k.records in
    Puts out 0
    (section_numbers (n_bits b) (n_bits_ext b) (take n ss) (take n ds) (positions_from (take n ss) (take n ds) (replicate n 0)) (n ∷ cms ∷ columns ∷ k.q_dim ∷ []))
    out' r

-- ── the cm ───────────────────────────────────────────────────────────────────
-- n records in a table of sections, and room for the numbers of those in sections a to c
pub record NumbersAsked (ss : List ℕ) (n a c at room : ℕ) : Type 0 where
  pub size : length ss ≡ record_limit
  pub few : n ≤ record_limit
  pub fits : at + 2 * length (numbers_in a c 0 (take n ss)) ≤ room

pub record CmsAsked (ss cs : List ℕ) (n cms at room : ℕ) : Type 0 where
  pub size : length ss ≡ record_limit
  pub few : n ≤ record_limit
  pub in_n : length (numbers_in cm1_n cm4_n 0 (take n ss)) ≡ cms
  pub in2ns : length (numbers_in (twin cm1_n) (twin cm4_n) 0 (take n ss)) ≡ cms
  pub dims : cms ≤ length cs
  pub fits : at + 6 * cms ≤ room

abbrev pub CmsGiven : List ℕ → List ℕ → ℕ → ℕ → ℕ → List ℕ → List ℕ → ℕ → Type 0
CmsGiven ss cs n cms at out out' r = Puts out at (cm_numbers (take n ss) cs cms) out' r

-- ── the expressions ──────────────────────────────────────────────────────────
-- the records of a plan for m expressions of a pool, its temporary columns, and room for both
pub record ExpressionsAsks (b ss : List ℕ) (n m : ℕ) (columns : List ℕ) (count at room : ℕ) (p : Pool) : Type 0 where
  pub planned : Planned b
  pub names : names_there b m ≡ true
  pub few_expressions : m ≤ expression_limit
  pub size : length ss ≡ record_limit
  pub few : n ≤ record_limit
  pub sections : take n ss ≡ (mapped b p).sections
  pub columns_size : length columns ≡ record_limit
  pub counted : count ≡ length (columns_of b)
  pub listed : take count columns ≡ columns_of b
  pub fits : at + 4 * count + 2 * m ≤ room

abbrev pub ExpressionsAsked : List ℕ → List ℕ → ℕ → ℕ → List ℕ → ℕ → ℕ → ℕ → Type 0
ExpressionsAsked b ss n m columns count at room = (p : Pool) × ExpressionsAsks b ss n m columns count at room p

abbrev pub ExpressionsGiven : List ℕ → List ℕ → ℕ → ℕ → List ℕ → ℕ → ℕ → List ℕ → List ℕ → ℕ → Type 0
ExpressionsGiven b ss n m columns count at out out' r =
    (p : Pool) → ExpressionsAsks b ss n m columns count at (length out) p → Puts out at (expression_numbers b (mapped b p) m) out' r
