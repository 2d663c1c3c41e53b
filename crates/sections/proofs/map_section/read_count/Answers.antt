-- `sections::map_section::read_count` meets its contract.
-- Assumes nothing.
use Rattle.sections.proofs.Laws.Maps.{read-least}
use Rattle.sections.proofs.map_section.read_count.Goals as goal

pub returns : goal.returns
returns c = read-least _ _ c.min.ensures
