-- `dimensions::set_code_dimensions::set_code_dimensions_first` meets its contract: a first list alone is a segment whose other lists are empty.
-- Assumes nothing.
use Rattle.dimensions.proofs.Alone.{alone}
use Rattle.dimensions.proofs.set_code_dimensions.set_code_dimensions_first.Goals as goal

pub returns : goal.returns
returns c = alone _ _ c.set_code_dimensions.ensures
