-- `full_degrees::degree::leaf_degree` meets its contract: each arm of the `match` is one case of `leaf_code`. Assumes nothing.
use native.Mathlib.Omega.{arith}
use Rattle.full_degrees.proofs.Codes.{leaf-q, leaf-flat, leaf-quotient, leaf-low, leaf-high}
use Rattle.full_degrees.proofs.degree.leaf_degree.Goals as goal

pub returns-in-19 : goal.returns-in-19
returns-in-19 c = leaf-q c.args.kind c.in-19.is

pub returns-in-20-to-23 : goal.returns-in-20-to-23
returns-in-20-to-23 c = leaf-flat c.args.kind (omega (arith, c.in-20-to-23.if-kind-lt19-own.false)) (omega (arith, c.in-20-to-23.if-kind-lt24-own.true))

pub returns-in-24-to-25 : goal.returns-in-24-to-25
returns-in-24-to-25 c = leaf-quotient c.args.kind (omega (arith, c.in-24-to-25.if-kind-lt24-own.false)) (omega (arith, c.in-24-to-25.if-kind-lt26-own.true))

pub returns-in_default : goal.returns-in_default
returns-in_default c = leaf-low c.args.kind c.in_default.in_default-own.rest.1 (omega (arith, c.in_default.if-kind-lt19-own.true))

pub returns-in_default-2 : goal.returns-in_default-2
returns-in_default-2 c = leaf-high c.args.kind (omega (arith, c.in_default.if-kind-lt26-own.false))
