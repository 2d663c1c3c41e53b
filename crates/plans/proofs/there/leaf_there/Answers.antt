-- `plans::there::leaf_there` meets its contract. Assumes nothing.
use native.Mathlib.Omega.{arith}
use borrow.Author.Tests.{ne_eqb}
use Rattle.plans.proofs.there.leaf_there.Goals as goal

pub returns-in-16 : goal.returns-in-16
returns-in-16 c = rw c.in-16.is

pub returns-in-19 : goal.returns-in-19
returns-in-19 c = rw c.in-19.is

pub returns-in_default : goal.returns-in_default
returns-in_default c = simp (ne_eqb c.args.kind 0x10 (omega arith), ne_eqb c.args.kind 0x13 (omega arith))
