-- `dimensions::segment::write_segment` meets its contract: list by list, with the temporaries that the lists before left.
-- Assumes nothing.
use Rattle.dimensions.specs.Laws.Segments.{writes-none, writes-next}
use Rattle.dimensions.proofs.segment.write_segment.Goals as goal

pub returns : goal.returns
returns c = writes-next _ _ _ _ _ _ _ c.write_list.ensures c.requires.0 (writes-next _ _ _ _ _ _ _ c.write_list-2.ensures c.requires.1 (writes-next _ _ _ _ _ _ _ c.write_list-3.ensures c.requires.2 (writes-none _ _)))
