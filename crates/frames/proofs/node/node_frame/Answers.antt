-- `frames::node::node_frame` meets its contract: each answer by the tests that led to it.
-- Assumes nothing.
use mathlib.Core.Path.{◌∙◌, sym, ap}
use native.Mathlib.Omega.{arith}
use borrow.Author.Tests.{eq-eqb, ne_eqb, le-leb, lt-leb}
use lib.ListN.{get_or}
use Rattle.frames.specs.Nodes.{node_of, node_ok, node_from}
use Rattle.frames.specs.Sizes.{size_room}
use Rattle.frames.proofs.Tests.{via-not, via-kept}
use mathlib.Core.Bool.{not}
use Rattle.frames.proofs.node.node_frame.Goals as goal

pub returns-then-f-lt-HEAD_SIZE : goal.returns-then-f-lt-HEAD_SIZE
unfolding node_of node_ok
returns-then-f-lt-HEAD_SIZE c = simp (lt-leb _ _ c.if-f-lt-HEAD_SIZE.true)

pub returns-then-not-head_ok : goal.returns-then-not-head_ok
unfolding node_of node_ok
returns-then-not-head_ok c = simp (le-leb _ _ c.if-f-lt-HEAD_SIZE.false, via-not (rw c.u16_at-id.ensures at c.head_ok.ensures) (ap not c.if-not-head_ok.true))

pub returns-then-f-node_size : goal.returns-then-f-node_size
unfolding node_of node_ok
returns-then-f-node_size c = simp (le-leb _ _ c.if-f-lt-HEAD_SIZE.false, via-kept (rw c.u16_at-id.ensures at c.head_ok.ensures) (ap not c.if-not-head_ok.false), ne_eqb _ _ (λ e. c.if-f-node_size.true (e ∙ sym c.node_size.ensures)))

pub returns-then-not-literal_ok : goal.returns-then-not-literal_ok
unfolding node_of node_ok
returns-then-not-literal_ok c = simp (le-leb _ _ c.if-f-lt-HEAD_SIZE.false, via-kept (rw c.u16_at-id.ensures at c.head_ok.ensures) (ap not c.if-not-head_ok.false), eq-eqb _ _ (c.if-f-node_size.false ∙ c.node_size.ensures), via-not (rw (c.sign_of-sign.ensures, c.magnitude_of-magnitude.ensures) at c.literal_ok.ensures) (ap not c.if-not-literal_ok.true))

pub child_of-requires : goal.child_of-requires
child_of-requires c = (omega (arith, c.if-f-node_size.false, c.node_size.ensures, size_room (get_or c.args.f.now 1 0) (get_or c.args.f.now 5 0)), omega arith)

pub child_of-requires-2 : goal.child_of-requires-2
child_of-requires-2 c = (omega (arith, c.if-f-node_size.false, c.node_size.ensures, size_room (get_or c.args.f.now 1 0) (get_or c.args.f.now 5 0)), omega arith)

pub child_of-requires-3 : goal.child_of-requires-3
child_of-requires-3 c = (omega (arith, c.if-f-node_size.false, c.node_size.ensures, size_room (get_or c.args.f.now 1 0) (get_or c.args.f.now 5 0)), omega arith)

pub returns : goal.returns
unfolding node_of node_ok node_from
returns c = simp (le-leb _ _ c.if-f-lt-HEAD_SIZE.false, via-kept (rw c.u16_at-id.ensures at c.head_ok.ensures) (ap not c.if-not-head_ok.false), eq-eqb _ _ (c.if-f-node_size.false ∙ c.node_size.ensures), via-kept (rw (c.sign_of-sign.ensures, c.magnitude_of-magnitude.ensures) at c.literal_ok.ensures) (ap not c.if-not-literal_ok.false), c.u16_at-id.ensures, c.sign_of-sign.ensures, c.magnitude_of-magnitude.ensures, c.child_of.ensures, c.child_of-2.ensures, c.child_of-3.ensures)
