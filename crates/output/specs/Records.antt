-- The lines as they are read off the records of a list and the tables of a pool, for every record and every table.
-- Assumes nothing: these are definitions.
use Rattle.std.specs.Prelude.{ℕ, ◌+◌, ◌*◌, ◌≡◌, false, cond, List, [], ◌∷◌, ◌++◌, length, eqb, leb, ltb}
use Rattle.kinds.specs.KindBytes as kind
use Rattle.kinds.specs.Kinds.{carries_literal}
use Rattle.kinds.specs.Write.{write}
use Rattle.kinds.specs.declared.reference.Reference.{Reference}
use Rattle.kinds.specs.declared.literal.Literal.{Literal}
use Rattle.kinds.specs.declared.step.Step.{Step}
use Rattle.meaning.specs.Trees.{Lit, lit}
use Rattle.frames.specs.declared.node.Node.{Node}
use Rattle.frames.specs.Order.{node_limit}
use Rattle.frames.specs.Tables.{node_in}
use Rattle.frames.specs.Hexed.{hex_line}
use Rattle.pool.specs.Trees.{literal_of}
use Rattle.output.specs.Output.{lit_out, cell_out, line}

-- the longest line: a step byte, a destination, a count, and three numbers, two digits each; and the line feed
abbrev pub line_size : ℕ
line_size = 91

-- a number, addc or mulc node: its literal; any other: 0, which is what neg brings
unfoldable pub brought_by : Node → Lit
brought_by x = cond (carries_literal x.kind) (literal_of x) (lit false 0)

-- what node n of the tables brings; 0 where there can be none
unfoldable pub literal_in : List ℕ → List ℕ → ℕ → Lit
literal_in nodes literals n = cond (ltb n node_limit) (brought_by (node_in nodes literals n)) (lit false 0)

-- as the code holds a literal
abbrev pub lit_of : Literal → Lit
lit_of l = lit l.negative l.magnitude

-- kind, id, prime
abbrev pub cell_bytes : Reference → List ℕ
cell_bytes r = cell_out r.kind r.id r.prime

module _ (nodes literals : List ℕ) where
  -- a number: also the literal of the node that brought it
  unfoldable pub source_bytes : Reference → List ℕ
  source_bytes r = cell_bytes r ++ cond (eqb r.kind kind.number) (lit_out (literal_in nodes literals r.extra)) []

  -- as many as the record counts, and at most the three that it has
  unfoldable pub sources_bytes : Step → List ℕ
  sources_bytes s =
      cond (leb 1 s.count) (source_bytes s.s0) []
      ++ cond (leb 2 s.count) (source_bytes s.s1) []
      ++ cond (leb 3 s.count) (source_bytes s.s2) []

  -- A destination is never a number: whatever its kind, it is printed as a cell.
  unfoldable pub record_bytes : Step → List ℕ
  record_bytes s = s.op ∷ cell_bytes s.dest ++ (s.count ∷ sources_bytes s)

  -- THE LINE OF A RECORD
  unfoldable pub record_line : Step → List ℕ
  record_line s = line (record_bytes s)

  -- of many records
  unfoldable pub record_lines : List Step → List ℕ
  record_lines [] = []
  record_lines (s ∷ ss) = record_line s ++ record_lines ss

-- ---- what the code gives

-- bytes put as digits from an index on, and where they end
pub record Puts (l : List ℕ) (at : ℕ) (bytes l' : List ℕ) (r : ℕ) : Type 0 where
  pub list : l' ≡ write l at (hex_line bytes)
  pub next : r ≡ at + 2 * length bytes

-- a text put at the front, and its length
pub record PutsLine (l text l' : List ℕ) (r : ℕ) : Type 0 where
  pub list : l' ≡ write l 0 text
  pub size : r ≡ length text
