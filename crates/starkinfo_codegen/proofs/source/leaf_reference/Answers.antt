-- `starkinfo_codegen::source::leaf_reference` meets its contract: each range of the `match` is one case of `leaf_by`.
-- Assumes nothing.
use Prim.Native.Nat.{◌+◌}
use native.Mathlib.Omega.{arith}
use mathlib.Core.Path.{◌∙◌, sym, ap, ap₂}
use mathlib.Core.Logic.{inl, inr}
use Rattle.kinds.specs.References.{plain_ref}
use Rattle.starkinfo_codegen.specs.Words.{node_of_words}
use Rattle.starkinfo_codegen.proofs.Reading.{leaf-number, leaf-row, leaf-flat, leaf-x, leaf-other}
use Rattle.starkinfo_codegen.proofs.source.leaf_reference.Goals as goal
use Rattle.starkinfo_codegen.proofs.source.leaf_reference.Goals.{in_default-via-then-kind-lt16, in_default-via-else-kind-lt16+else-kind-lt20+else-kind-lt24+else-kind-lt26}

pub returns-in-20 : goal.returns-in-20
returns-in-20 c = c.number.ensures ∙ sym (leaf-number (node_of_words c.args.nodes.now c.args.i) c.args.i c.args.row c.kind_of-kind.result (sym c.kind_of-kind.ensures) c.in-20.is)

pub returns-in-16-to-19 : goal.returns-in-16-to-19
returns-in-16-to-19 c = c.plain.ensures ∙ ap₂ (λ n i. plain_ref c.kind_of-kind.result (c.args.row + n) i) c.next_of.ensures c.id_of.ensures ∙ sym (leaf-row (node_of_words c.args.nodes.now c.args.i) c.args.i c.args.row c.kind_of-kind.result (sym c.kind_of-kind.ensures) c.in-16-to-19.in_default-own.rest.1 (omega arith) (omega arith))

pub returns-in-21-to-23 : goal.returns-in-21-to-23
returns-in-21-to-23 c = c.plain-in-21-to-23.ensures ∙ ap (plain_ref c.kind_of-kind.result 0) c.id_of-in-21-to-23.ensures ∙ sym (leaf-flat (node_of_words c.args.nodes.now c.args.i) c.args.i c.args.row c.kind_of-kind.result (sym c.kind_of-kind.ensures) c.in-21-to-23.in_default-own.rest.1 (omega arith) (omega arith))

pub returns-in-24-to-25 : goal.returns-in-24-to-25
returns-in-24-to-25 c = c.plain-in-24-to-25.ensures ∙ sym (leaf-x (node_of_words c.args.nodes.now c.args.i) c.args.i c.args.row c.kind_of-kind.result (sym c.kind_of-kind.ensures) c.in-24-to-25.in_default-own.rest.1 (omega arith) (omega arith))

pub returns-in_default : goal.returns-in_default
returns-in_default c =
    c.plain-in_default.ensures
    ∙ sym
    (leaf-other (node_of_words c.args.nodes.now c.args.i) c.args.i c.args.row c.kind_of-kind.result (sym c.kind_of-kind.ensures) c.in_default-1.rest.1
    (elim c.in_default.branch [
      | in_default-via-then-kind-lt16 w ↦ inl (omega arith)
      | in_default-via-else-kind-lt16+else-kind-lt20+else-kind-lt24+else-kind-lt26 w ↦ inr (omega arith)
    ]))
