-- The constraint's tree by its first identity and the others, whether or not there are any: what the pool's code speaks of is what the definition says.
-- Assumes nothing.
use Rattle.std.specs.Prelude.{ℕ, ◌≡◌, refl, List, [], ◌∷◌, get_or, drop}
use Rattle.meaning.specs.Trees.{Forest}
use Rattle.constraint_meaning.specs.Tree.{Intermediate, constraint_tree}
use Rattle.constraint_meaning.specs.Constraint.{tree_for}

pub tree-for : (E : Forest) (n vc : ℕ) (ids : List ℕ) (ms : List Intermediate) → tree_for E n vc ids ms ≡ constraint_tree vc E n (get_or ids 0 0) (drop 1 ids) ms
tree-for E n vc [] ms = refl
tree-for E n vc (e ∷ es) ms = refl
