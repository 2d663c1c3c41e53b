-- Nodes, then expressions, then requests, and no more of each than a pool may have: a frame after what was read, and who is to blame where it
-- is refused. Assumes nothing: these are definitions.
use Rattle.std.specs.Prelude as std
use Rattle.std.specs.Prelude.{Result, cond, ◌&&◌, List, [], ◌∷◌, ◌++◌, ℕ, ◌+◌, length, eqb, ltb}
use Rattle.std.proofs.Math.Option.{Option, none, some}
use Rattle.meaning.specs.Refusals.{Answer, done, refused, malformed, full, ◌then◌}
use Rattle.kinds.specs.Answers.{blame_of, answer_of}
use Rattle.kinds.specs.declared.refusal.Refused.{Refused}
use Rattle.frames.specs.Nodes.{type_byte}
use Rattle.frames.specs.Frames.{Item, node, expression, request, frame_of}
use Rattle.frames.specs.declared.node.Node.{Node}
use Rattle.frames.specs.declared.rest.Expression.{Expression}
use Rattle.frames.specs.declared.rest.Request.{Request}
use Rattle.frames.specs.declared.count.Counts.{Counts}

abbrev pub node_limit : ℕ
node_limit = 4096

abbrev pub expression_limit : ℕ
expression_limit = 512

abbrev pub request_limit : ℕ
request_limit = 1024

-- ---- what was counted

-- a node comes before every expression and request
unfoldable pub place_node : Counts → Answer Counts
place_node c =
    cond (eqb c.expressions 0 && eqb c.requests 0)
    (cond (ltb c.nodes node_limit)
    (done (record { nodes = c.nodes + 1; expressions = c.expressions; requests = c.requests }))
    (refused full none))
    (refused malformed none)

-- an expression before every request
unfoldable pub place_expression : Counts → Answer Counts
place_expression c =
    cond (eqb c.requests 0)
    (cond (ltb c.expressions expression_limit)
    (done (record { nodes = c.nodes; expressions = c.expressions + 1; requests = c.requests }))
    (refused full none))
    (refused malformed none)

unfoldable pub place_request : Counts → Answer Counts
place_request c =
    cond (ltb c.requests request_limit)
    (done (record { nodes = c.nodes; expressions = c.expressions; requests = c.requests + 1 }))
    (refused full none)

-- what is counted with the item, where it may come after c
abbrev pub place : Counts → Item → Answer Counts
place c (node x) = place_node c
place c (expression x) = place_expression c
place c (request x) = place_request c

-- the number that the node would have, if the frame is one of a node
unfoldable pub at_fault : ℕ → List ℕ → Option ℕ
at_fault n f = cond (eqb (type_byte f) 1) (some n) none

-- a refusal blames b
abbrev pub blaming : {A : Type 0} → Option ℕ → Answer A → Answer A
blaming b (done a) = done a
blaming b (refused r n) = refused r b

-- a frame after c
unfoldable pub count_of : Counts → List ℕ → Answer Counts
count_of c f = blaming (at_fault c.nodes f) (frame_of f then place c)

-- ---- what was read

pub record Input : Type 0 where
  pub nodes : List Node
  pub expressions : List Expression
  pub requests : List Request

abbrev pub nothing : Input
nothing = record { nodes = []; expressions = []; requests = [] }

unfoldable pub counts_of : Input → Counts
counts_of i = record { nodes = length i.nodes; expressions = length i.expressions; requests = length i.requests }

-- with one item more
abbrev pub add : Input → Item → Input
add i (node x) = record { nodes = i.nodes ++ (x ∷ []); expressions = i.expressions; requests = i.requests }
add i (expression x) = record { nodes = i.nodes; expressions = i.expressions ++ (x ∷ []); requests = i.requests }
add i (request x) = record { nodes = i.nodes; expressions = i.expressions; requests = i.requests ++ (x ∷ []) }

-- a frame after i
unfoldable pub step : Input → List ℕ → Answer Input
step i f = blaming (at_fault (length i.nodes) f) (frame_of f then λ x. place (counts_of i) x then λ c. done (add i x))

-- ---- what the code answers

abbrev pub blame_answer : std.Option ℕ → Option ℕ
blame_answer = blame_of

abbrev pub counts_answer : Result Counts Refused → Answer Counts
counts_answer = answer_of
