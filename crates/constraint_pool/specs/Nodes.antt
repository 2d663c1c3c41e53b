-- THE NODES OF THE CONSTRAINT, numbered after those of a pool: the identities folded, then for each member its body's nodes copied in postorder, its column, their
-- difference, and what joins it to the sum. Assumes nothing: these are definitions.
use Rattle.std.specs.Prelude.{ℕ, suc, ◌+◌, ◌-◌, ◌*◌, List, [], ◌∷◌, ◌++◌, length}
use Rattle.meaning.specs.Trees.{Expr}
use Rattle.kinds.specs.KindBytes as kind
use Rattle.frames.specs.declared.node.Node.{Node}
use Rattle.pool.specs.Pool.{Pool, node, root_of}
use Rattle.pool.specs.Trees.{tree}
use Rattle.constraint_meaning.specs.Numbers.{size}

-- a leaf of this kind with this id
abbrev pub leaf_node : ℕ → ℕ → Node
leaf_node k i = record { kind = k; next = 0; id = i; count = 0; c0 = 0; c1 = 0; c2 = 0; sign = 0; magnitude = 0 }

-- an operation on two nodes
abbrev pub pair_node : ℕ → ℕ → ℕ → Node
pair_node k a b = record { kind = k; next = 0; id = 0; count = 2; c0 = a; c1 = b; c2 = 0; sign = 0; magnitude = 0 }

-- a node with other children
abbrev pub moved : Node → ℕ → ℕ → ℕ → Node
moved x a b c = record { kind = x.kind; next = x.next; id = x.id; count = x.count; c0 = a; c1 = b; c2 = c; sign = x.sign; magnitude = x.magnitude }

-- the last of s numbers from n on
abbrev pub last : ℕ → ℕ → ℕ
last n s = n + s - 1

-- A TREE COPIED, its nodes numbered from n on, children first and left before right; g gives the nodes that it was read from
abbrev pub copied : (ℕ → Node) → ℕ → Expr → List Node
copied g n (Expr.leaf k l) = moved (g k) 0 0 0 ∷ []
copied g n (Expr.bin k o a b) = copied g n a ++ (copied g (n + size a) b ++ (moved (g k) (last n (size a)) (last (n + size a) (size b)) 0 ∷ []))
copied g n (Expr.muladd k a b c) =
    copied g n a ++ (copied g (n + size a) b ++ (copied g (n + size a + size b) c
    ++ (moved (g k) (last n (size a)) (last (n + size a) (size b)) (last (n + size a + size b) (size c)) ∷ [])))
copied g n (Expr.binc k o a l) = copied g n a ++ (moved (g k) (last n (size a)) 0 0 ∷ [])
copied g n (Expr.neg k a) = copied g n a ++ (moved (g k) (last n (size a)) 0 0 ∷ [])

-- vc times what stands before n
abbrev pub scaled : ℕ → ℕ → List Node
scaled vc n = leaf_node kind.challenge vc ∷ pair_node kind.mul n (n - 1) ∷ []

-- and the identity e added to it
abbrev pub identity_nodes : ℕ → ℕ → ℕ → List Node
identity_nodes vc n e = scaled vc n ++ (leaf_node kind.exp e ∷ pair_node kind.add (n + 1) (n + 2) ∷ [])

unfoldable pub identities_nodes : ℕ → ℕ → List ℕ → List Node
identities_nodes vc n [] = []
identities_nodes vc n (e ∷ es) = identity_nodes vc n e ++ identities_nodes vc (n + 4) es

-- or a tree minus column i
abbrev pub member_nodes : (ℕ → Node) → ℕ → ℕ → Expr → ℕ → List Node
member_nodes g vc n t i =
    scaled vc n ++ (copied g (n + 2) t
    ++ (leaf_node kind.cm i ∷ pair_node kind.sub (last (n + 2) (size t)) (n + 2 + size t) ∷ pair_node kind.add (n + 1) (n + 3 + size t) ∷ []))

abbrev pub body_of : Pool → ℕ → Expr
body_of p e = tree p (root_of p e)

-- the members, with columns from i on
unfoldable pub members_nodes : Pool → ℕ → ℕ → ℕ → List ℕ → List Node
members_nodes p vc n i [] = []
members_nodes p vc n i (e ∷ es) = member_nodes (node p) vc n (body_of p e) i ++ members_nodes p vc (n + (size (body_of p e) + 5)) (suc i) es

-- all of them: the first identity, the others, the members
unfoldable pub constraint_nodes : Pool → ℕ → ℕ → ℕ → List ℕ → List ℕ → List Node
constraint_nodes p vc i e es ms =
    let n = length p.nodes in
    leaf_node kind.exp e ∷ (identities_nodes vc (n + 1) es ++ members_nodes p vc (n + 1 + 4 * length es) i ms)

-- THE POOL WITH THE CONSTRAINT, whose root is its last node
unfoldable pub with_constraint : Pool → ℕ → ℕ → ℕ → List ℕ → List ℕ → Pool
with_constraint p vc i e es ms =
    let ns = constraint_nodes p vc i e es ms in
    record { nodes = p.nodes ++ ns; expressions = p.expressions ++ (record { root = last (length p.nodes) (length ns); flags = 0 } ∷ []) }
