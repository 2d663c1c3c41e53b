-- `map_records::dim::lookup_dim` meets its contract. Assumes nothing.
use mathlib.Core.Path.{◌∙◌, ap₂}
use Prim.Native.Nat.{max}
use Rattle.map_records.proofs.Dims.{first-asks, second-asks}
use Rattle.map_records.proofs.dim.lookup_dim.Goals as goal

pub get_exp_dim-a-requires : goal.get_exp_dim-a-requires
get_exp_dim-a-requires c = (c.requires.0, c.requires.1, c.requires.2, c.requires.3, first-asks c.requires.4 c.args.dims.now)

pub get_exp_dim-b-requires : goal.get_exp_dim-b-requires
get_exp_dim-b-requires c = (c.requires.0, c.requires.1, c.requires.2, c.requires.3, second-asks c.requires.5 c.args.dims.now (c.get_exp_dim-a.ensures c.requires.0 c.requires.1 c.requires.2 c.requires.3 (first-asks c.requires.4 c.args.dims.now)))

pub returns : goal.returns
returns c = λ l n m rank a b. c.max.ensures ∙ ap₂ max (c.get_exp_dim-a.ensures l n m rank (first-asks a c.args.dims.now)).is (c.get_exp_dim-b.ensures l n m rank (second-asks b c.args.dims.now (c.get_exp_dim-a.ensures l n m rank (first-asks a c.args.dims.now)))).is
