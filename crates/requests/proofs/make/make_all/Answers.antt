-- `requests::make::make_all` meets its contract: it writes what `make_counted` does.
-- Assumes nothing.
use Rattle.requests.proofs.make.make_all.Goals as goal

pub make_counted-requires : goal.make_counted-requires
make_counted-requires c = c.requires

pub shape_of-list : goal.shape_of-list
shape_of-list c = c.make_counted.auto.list

pub returns : goal.returns
returns c = λ b js a o. (c.make_counted.ensures b js a o).0
