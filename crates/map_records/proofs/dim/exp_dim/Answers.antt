-- `map_records::dim::exp_dim` meets its contract. Assumes nothing.
use Rattle.map_records.proofs.Dims.{first-asks}
use Rattle.map_records.proofs.dim.exp_dim.Goals as goal

pub get_exp_dim-requires : goal.get_exp_dim-requires
get_exp_dim-requires c = (c.requires.0, c.requires.1, c.requires.2, c.requires.3, first-asks c.requires.4 c.args.dims.now)

pub returns : goal.returns
returns c = λ l n m rank a. (c.get_exp_dim.ensures l n m rank (first-asks a c.args.dims.now)).is
