-- `degree_rule::tally::Tally::cut_at` meets its contract. Assumes nothing.
use Rattle.degree_rule.proofs.Counts.{cut-is}
use Rattle.degree_rule.proofs.tally.Tally.cut_at.Goals as goal

pub returns : goal.returns
returns c = cut-is c.args.self.now c.requires c.args.degree _ c.max-self.ensures
