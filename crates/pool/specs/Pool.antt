-- A pool: its nodes and its expressions by number, as the frames say them. Children, uses, and what a node asks for.
-- Assumes nothing: these are definitions.
use Rattle.std.specs.Prelude.{ℕ, suc, cond, List, [], ◌∷◌, ◌++◌, eqb}
use Rattle.std.proofs.Math.Option.{Option, none, some}
use Rattle.meaning.specs.Trees.{nth, up_to}
use Rattle.frames.specs.declared.node.Node.{Node}
use Rattle.frames.specs.declared.rest.Expression.{Expression}

pub record Pool : Type 0 where
  pub nodes : List Node
  pub expressions : List Expression

-- what stands at a number where nothing does
abbrev pub blank : Node
blank = record { kind = 0; next = 0; id = 0; count = 0; c0 = 0; c1 = 0; c2 = 0; sign = 0; magnitude = 0 }

abbrev pub or_else : {A : Type 0} → Option A → A → A
or_else none a = a
or_else (some b) a = b

abbrev pub node : Pool → ℕ → Node
node p n = or_else (nth p.nodes n) blank

abbrev pub root_of : Pool → ℕ → ℕ
root_of p e = (or_else (nth p.expressions e) (record { root = 0; flags = 0 })).root

-- A frame with more children is read too, and refused for its count: no node that is admitted has more than three.
abbrev pub children : Node → List ℕ
children x = up_to x.count (x.c0 ∷ x.c1 ∷ x.c2 ∷ [])

-- every use of a node, as a child or as a root
abbrev pub child_uses : List Node → List ℕ
child_uses [] = []
child_uses (x ∷ xs) = children x ++ child_uses xs

abbrev pub root_uses : List Expression → List ℕ
root_uses [] = []
root_uses (x ∷ xs) = x.root ∷ root_uses xs

abbrev pub uses : Pool → List ℕ
uses p = child_uses p.nodes ++ root_uses p.expressions

-- how often a number stands in a list
abbrev pub times : ℕ → List ℕ → ℕ
times n [] = 0
times n (m ∷ l) = cond (eqb n m) (suc (times n l)) (times n l)
