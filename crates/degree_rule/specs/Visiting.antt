-- What the functions of the degree rule ask and give.
-- Assumes nothing: these are definitions.
use Rattle.std.specs.Prelude.{ℕ, ◌+◌, ◌<◌, ◌≤◌, max, ◌≡◌, cond, List, eqb, ltb, Some, None, Ok}
use Rattle.std.proofs.Math.Option.{none, some}
use Rattle.meaning.specs.Trees.{Expr}
use Rattle.search_meaning.specs.Search.{Out, Search, Found, Reads, visit, pair, splits, rule, reference, body}
use Rattle.kinds.specs.KindBytes as kind
use Rattle.frames.specs.Tables.{kind_in}
use Rattle.pool.specs.Words.{c0_in, c1_in}
use Rattle.pool.specs.Trees.{tree, forest}
use Rattle.pool.specs.Tabled.{Tables, tabled}
use Rattle.pool.specs.Ranking.{Tabling}
use Rattle.full_degrees.specs.Table.{World, F, Fulls}
use Rattle.full_degrees.specs.Parts.{Stands}
use Rattle.sets.specs.Members.{members, Good}
use Rattle.degree_rule.specs.Tallies.{Counts, tally_of, Whole, Held}
use Rattle.degree_rule.specs.Readings.{Reading, said_of, degree_in}

abbrev pub column_in : ℕ → Reading
column_in m = cond (ltb m 1) (Ok None) (Ok (Some 1))

-- the degree of an operation on two trees
abbrev pub degree_op : ℕ → ℕ → ℕ → ℕ
degree_op k a b = cond (eqb k kind.mul) (a + b) (max a b)

-- the limit of visits, and the degree limit
module _ (t : Tables) (L d : ℕ) where
  -- the body of an expression, and the rule of a tree, with n levels of expressions
  abbrev pub B : ℕ → ℕ → List ℕ → Search Found
  B n = body (some L) (forest (tabled t)) d (F t) n

  abbrev pub R : ℕ → Expr → Reads
  R n x = rule (some L) (F t) (B n) x

-- from a set s and a tally y
module _ (t : Tables) (s : List ℕ) (y : Counts) where
  abbrev pub limit : ℕ
  limit = y.limit

  abbrev pub top : ℕ
  top = y.degree

  -- the tree at a node
  abbrev pub T : ℕ → ℕ → Reads
  T n i = R t limit top n (tree (tabled t) i)

  unfoldable pub visited : ℕ → ℕ → ℕ → Out Found
  visited m i n = visit (some limit) (T n i) (some (members s)) m (tally_of y)

  unfoldable pub read_at : ℕ → ℕ → ℕ → Out Found
  read_at m i n = T n i (members s) m (tally_of y)

  unfoldable pub split : ℕ → ℕ → ℕ → Out Found
  split m i n = splits (some limit) (T n (c0_in t.nodes i)) (T n (c1_in t.nodes i)) (members s) m (m + 1) 0 none (tally_of y)

  unfoldable pub paired : ℕ → ℕ → ℕ → ℕ → Out Found
  paired l r i n = pair (some limit) (degree_op (kind_in t.nodes i)) (T n (c0_in t.nodes i)) (T n (c1_in t.nodes i)) (members s) l r (tally_of y)

  unfoldable pub referenced : ℕ → ℕ → ℕ → Out Found
  referenced m e n = reference (some limit) (F t) (B t limit top n) e (members s) m (tally_of y)

-- the table of full degrees, the set and the tally are what they should be; no limit is above 17
pub record Holds (t : Tables) (full s : List ℕ) (y : Counts) (m : ℕ) : Type 0 where
  pub fulls : Fulls t full
  pub good : Good s
  pub whole : Whole y
  pub low : y.degree ≤ 17
  pub within : m ≤ y.degree

-- what is said, for every number of levels that suffices
pub record Gives (says : ℕ → Out Found) (levels m : ℕ) (y : Counts) (s' : List ℕ) (y' : Counts) (r : Reading) : Type 0 where
  pub same : (n : ℕ) → levels ≤ n → said_of r s' y' ≡ says n
  pub good : Good s'
  pub held : Held y y'
  pub low : degree_in r ≤ m

pub record Asks (t : Tables) (rank : ℕ → ℕ) (full s : List ℕ) (y : Counts) (levels m i : ℕ) : Type 0 where
  pub stands : Stands t rank levels i
  pub holds : Holds t full s y m

pub record AsksProduct (t : Tables) (rank : ℕ → ℕ) (full s : List ℕ) (y : Counts) (levels m i : ℕ) : Type 0 where
  pub asks : Asks t rank full s y levels m i
  pub is : kind_in t.nodes i ≡ kind.mul

-- an operation on two trees, whose degree is within the limit
pub record AsksPair (t : Tables) (rank : ℕ → ℕ) (full s : List ℕ) (y : Counts) (levels l r i : ℕ) : Type 0 where
  pub stands : Stands t rank levels i
  pub low : 1 ≤ kind_in t.nodes i
  pub high : kind_in t.nodes i ≤ kind.mul
  pub left : Holds t full s y l
  pub right : r ≤ y.degree
  pub within : degree_op (kind_in t.nodes i) l r ≤ y.degree

pub record AsksReference (t : Tables) (rank : ℕ → ℕ) (full s : List ℕ) (y : Counts) (levels m e : ℕ) : Type 0 where
  pub world : World t rank
  pub there : e < t.expression_count
  pub lower : rank e < levels
  pub holds : Holds t full s y m

-- ── for whichever literals, counts and ranks: some are asked for, and the answer holds of all ──
abbrev pub VisitAsked : List ℕ → List ℕ → List ℕ → List ℕ → Counts → ℕ → ℕ → ℕ → Type 0
VisitAsked v x f s y levels m i = (l : List ℕ) × (n : ℕ) × (c : ℕ) × (rank : (ℕ → ℕ)) × Asks (Tabling v l x n c) rank f s y levels m i

abbrev pub VisitGiven : List ℕ → List ℕ → List ℕ → List ℕ → Counts → List ℕ → Counts → ℕ → ℕ → ℕ → Reading → Type 0
VisitGiven v x f s y s' y' levels m i r =
    (l : List ℕ) (n c : ℕ) (rank : ℕ → ℕ) → Asks (Tabling v l x n c) rank f s y levels m i → Gives (visited (Tabling v l x n c) s y m i) levels m y s' y' r

abbrev pub ProductAsked : List ℕ → List ℕ → List ℕ → List ℕ → Counts → ℕ → ℕ → ℕ → Type 0
ProductAsked v x f s y levels m i = (l : List ℕ) × (n : ℕ) × (c : ℕ) × (rank : (ℕ → ℕ)) × AsksProduct (Tabling v l x n c) rank f s y levels m i

abbrev pub ProductGiven : List ℕ → List ℕ → List ℕ → List ℕ → Counts → List ℕ → Counts → ℕ → ℕ → ℕ → Reading → Type 0
ProductGiven v x f s y s' y' levels m i r =
    (l : List ℕ) (n c : ℕ) (rank : ℕ → ℕ) → AsksProduct (Tabling v l x n c) rank f s y levels m i → Gives (read_at (Tabling v l x n c) s y m i) levels m y s' y' r

abbrev pub SplitsGiven : List ℕ → List ℕ → List ℕ → List ℕ → Counts → List ℕ → Counts → ℕ → ℕ → ℕ → Reading → Type 0
SplitsGiven v x f s y s' y' levels m i r =
    (l : List ℕ) (n c : ℕ) (rank : ℕ → ℕ) → AsksProduct (Tabling v l x n c) rank f s y levels m i → Gives (split (Tabling v l x n c) s y m i) levels m y s' y' r

abbrev pub PairAsked : List ℕ → List ℕ → List ℕ → List ℕ → Counts → ℕ → ℕ → ℕ → ℕ → Type 0
PairAsked v x f s y levels a b i = (l : List ℕ) × (n : ℕ) × (c : ℕ) × (rank : (ℕ → ℕ)) × AsksPair (Tabling v l x n c) rank f s y levels a b i

abbrev pub PairGiven : List ℕ → List ℕ → List ℕ → List ℕ → Counts → List ℕ → Counts → ℕ → ℕ → ℕ → ℕ → Reading → Type 0
PairGiven v x f s y s' y' levels a b i r =
    (l : List ℕ) (n c : ℕ) (rank : ℕ → ℕ) → AsksPair (Tabling v l x n c) rank f s y levels a b i →
    Gives (paired (Tabling v l x n c) s y a b i) levels (degree_op (kind_in v i) a b) y s' y' r

abbrev pub ReferenceAsked : List ℕ → List ℕ → List ℕ → List ℕ → Counts → ℕ → ℕ → ℕ → Type 0
ReferenceAsked v x f s y levels m e = (l : List ℕ) × (n : ℕ) × (c : ℕ) × (rank : (ℕ → ℕ)) × AsksReference (Tabling v l x n c) rank f s y levels m e

abbrev pub ReferenceGiven : List ℕ → List ℕ → List ℕ → List ℕ → Counts → List ℕ → Counts → ℕ → ℕ → ℕ → Reading → Type 0
ReferenceGiven v x f s y s' y' levels m e r =
    (l : List ℕ) (n c : ℕ) (rank : ℕ → ℕ) → AsksReference (Tabling v l x n c) rank f s y levels m e → Gives (referenced (Tabling v l x n c) s y m e) levels m y s' y' r
