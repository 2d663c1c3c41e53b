-- `constraint_pieces::mark::all_there` meets its contract: the test of each is one of `all`.
-- Assumes nothing.
use mathlib.Core.Path.{◌∙◌}
use lib.Dec.{ltb}
use Rattle.std.proofs.Common.{rules, tests}
use Rattle.std.proofs.lemmas.Iterator.{YieldsList-from_slice}
use Rattle.std.proofs.lemmas.Iterator.Search.{all_from_yields_List}
use Rattle.constraint_pieces.proofs.Turns.{all-below-is}
use Rattle.constraint_pieces.proofs.mark.all_there.Goals as goal

pub returns : goal.returns
returns c = all_from_yields_List (λ x. ltb x c.args.m) _ _ _ c.all.ensures.ran (YieldsList-from_slice c.args.members.now cc) (λ x b q k. search (rules, tests)) ∙ all-below-is c.args.m c.args.members.now
