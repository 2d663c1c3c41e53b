-- Any frame, by its type byte: 01 a node, 02 an expression, 03 a request.
-- Assumes nothing: these are definitions.
use Rattle.std.specs.Prelude.{Option, Some, None, cond, List, ℕ, length, eqb}
use Rattle.std.proofs.Math.Option.{none}
use Rattle.meaning.specs.Refusals.{Answer, done, refused, malformed, ◌then◌}
use Rattle.frames.specs.Nodes.{type_byte, node_of}
use Rattle.frames.specs.Rest.{expression_of, request_of}
use Rattle.frames.specs.declared.node.Node.{Node}
use Rattle.frames.specs.declared.rest.Expression.{Expression}
use Rattle.frames.specs.declared.rest.Request.{Request}
use Rattle.frames.specs.declared.frame.Frame.{Frame}
use Rattle.frames.specs.declared.frame.Frame.TheVariants as frame

-- what a frame brings
pub data Item : Type 0 where
  node : Node → Item
  expression : Expression → Item
  request : Request → Item

abbrev pub from_node : Answer Node → Answer Item
from_node a = a then λ x. done (node x)

abbrev pub from_expression : Answer Expression → Answer Item
from_expression a = a then λ x. done (expression x)

abbrev pub from_request : Answer Request → Answer Item
from_request a = a then λ x. done (request x)

unfoldable pub frame_of : List ℕ → Answer Item
frame_of f =
    cond (eqb (length f) 0) (refused malformed none)
    (cond (eqb (type_byte f) 1) (from_node (node_of f))
    (cond (eqb (type_byte f) 2) (from_expression (expression_of f))
    (cond (eqb (type_byte f) 3) (from_request (request_of f))
    (refused malformed none))))

abbrev pub item_of : Frame → Item
item_of (frame.Node x) = node x
item_of (frame.Expression x) = expression x
item_of (frame.Request x) = request x

abbrev pub frame_answer : Option Frame → Answer Item
frame_answer None = refused malformed none
frame_answer (Some x) = done (item_of x)
