-- `builds::result::find_block` meets its contract.
-- Assumes nothing.
use native.Mathlib.Omega.{arith}
use lib.ListN.{take}
use mathlib.Core.Path.{◌≡◌}
use borrow.Author.Tests.{tests}
use Rattle.std.proofs.Common.{rules}
use Rattle.std.proofs.lemmas.Iterator.{IsFirst-from_position, YieldsList-from_slice}
use Rattle.builds.specs.Raw.{cell_in}
use Rattle.builds.proofs.Results.{find-first}
use Rattle.builds.proofs.result.find_block.Goals as goal

pub returns : goal.returns
returns c =
    find-first c.args.blocks.now c.args.n c.args.cell _ (omega (arith, c.requires, c.told-blocks))
    (IsFirst-from_position _ _ _ (λ w. cell_in w ≡ c.args.cell) (λ w. cell_in w ≡ c.args.cell → ⊥) c.position.ensures.ran (YieldsList-from_slice (take c.args.n c.args.blocks.now) cc)
    (λ x q k. search (rules, tests)) (λ x q k. search (rules, tests)))
