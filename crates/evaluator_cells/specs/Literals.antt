-- THE LITERALS OF A POOL, by the node that brings them: a number, addc or mulc node brings its literal, any other, and a node that is not there, 0.
-- Their residues modulo m stand in a table. Assumes nothing: these are definitions.
use Rattle.std.specs.Prelude.{ℕ, ◌<◌, ◌≤◌, ◌≡◌, cond, List, length, get_or, replicate, ltb}
use Rattle.meaning.specs.Trees.{Lit}
use Rattle.meaning.specs.Models.{lit_mod}
use Rattle.frames.specs.Order.{node_limit}
use Rattle.pool.specs.Pool.{Pool, node}
use Rattle.output.specs.Records.{brought_by, literal_in}
use Rattle.evaluator_cells.specs.Numbers.{Modulus}

abbrev pub brought_at : Pool → ℕ → Lit
brought_at p n = brought_by (node p n)

-- what node n of the first `count` nodes of the tables brings, modulo m
unfoldable pub number_in : List ℕ → List ℕ → ℕ → ℕ → ℕ → ℕ
number_in nodes literals m count n = cond (ltb n count) (lit_mod m (literal_in nodes literals n)) 0

-- a table has room for every node's
pub record NumberAsks (ns : List ℕ) : Type 0 where
  pub size : length ns ≡ node_limit

pub record FillAsks (count m : ℕ) (ns : List ℕ) : Type 0 where
  pub few : count ≤ node_limit
  pub modulus : Modulus m
  pub zeros : ns ≡ replicate node_limit 0

pub record NumbersAre (nodes literals : List ℕ) (m count : ℕ) (ns : List ℕ) : Type 0 where
  pub size : length ns ≡ node_limit
  pub each : (n : ℕ) → get_or ns n 0 ≡ number_in nodes literals m count n

-- the table of whatever nodes bring: each number modulo m
pub record Reduced (ns : List ℕ) (m : ℕ) : Type 0 where
  pub size : length ns ≡ node_limit
  pub below : (n : ℕ) → get_or ns n 0 < m

-- it is that of L
abbrev pub NumbersOf : (ℕ → Lit) → ℕ → List ℕ → Type 0
NumbersOf L m ns = (n : ℕ) → get_or ns n 0 ≡ lit_mod m (L n)
