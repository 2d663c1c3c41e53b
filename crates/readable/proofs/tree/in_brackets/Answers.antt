-- `readable::tree::in_brackets` meets its contract.
-- Assumes nothing.
use borrow.Author.Tests.{eq-eqb, ne_eqb}
use mathlib.Core.Path.{ap}
use lib.Dec.{ltb}
use Rattle.readable.specs.Binding.{in_brackets}
use Rattle.readable.proofs.tree.in_brackets.Goals as goal

pub returns-then-kind-eq-NEG : goal.returns-then-kind-eq-NEG
unfolding in_brackets
returns-then-kind-eq-NEG c = simp (eq-eqb _ _ c.if-kind-eq-NEG.true)

pub returns : goal.returns
unfolding in_brackets
returns c = simp (ne_eqb _ _ c.if-kind-eq-NEG.false) (ap (λ z. ltb z c.args.place) c.binding_of.ensures)
