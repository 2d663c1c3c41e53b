-- One frame behind its length, and its parts as the code puts them one after the other.
-- Assumes nothing: these are definitions.
use Rattle.std.specs.Prelude.{ℕ, ◌+◌, ◌*◌, ◌/◌, ◌%◌, min, ◌≡◌, List, [], ◌∷◌, length}
use Rattle.kinds.specs.Kinds.{carries_literal}
use Rattle.kinds.specs.Write.{write}
use Rattle.frames.specs.Written.{child_bytes, literal_bytes}
use Rattle.frames.specs.declared.node.Node.{Node}

-- a frame behind its length, the high byte first
unfoldable pub framed : List ℕ → List ℕ
framed f = length f / 256 ∷ length f % 256 ∷ f

-- a length, and what a node's frame begins with
unfoldable pub head_bytes : ℕ → Node → List ℕ
head_bytes size x = size / 256 ∷ size % 256 ∷ 1 ∷ x.kind ∷ x.next ∷ x.id / 256 ∷ x.id % 256 ∷ x.count ∷ []

-- as many as the count says, and at most the three that a table has
abbrev pub children_size : ℕ → ℕ
children_size count = 2 * min 3 count

abbrev pub children_of : Node → List ℕ
children_of x = child_bytes x.count x.c0 x.c1 x.c2

abbrev pub literal_of : Node → List ℕ
literal_of x = literal_bytes (carries_literal x.kind) x.sign x.magnitude

-- bytes put from an index on, and where they end
pub record Puts (l : List ℕ) (at : ℕ) (bytes l' : List ℕ) (r : ℕ) : Type 0 where
  pub list : l' ≡ write l at bytes
  pub next : r ≡ at + length bytes
