-- `requests::generate::jobs_fit` meets its contract: where there is room for the most steps that there can be, the jobs fit.
-- Assumes nothing.
use mathlib.Core.Path.{sym, ◌∙◌, ap}
use lib.ListN.{length}
use Rattle.requests.specs.Generating.{has_room}
use Rattle.requests.proofs.Generates.{roomy, most-sizes, sizes}
use Rattle.requests.proofs.generate.jobs_fit.Goals as goal

pub has_room-requires : goal.has_room-requires
has_room-requires c = most-sizes _ _ c.requires.0 c.requires.1 c.requires.2

pub returns-then-has_room : goal.returns-then-has_room
returns-then-has_room c = λ b js a. roomy (length c.args.list.now) c.args.at c.args.t c.args.n a.most (sym c.has_room.ensures ∙ c.if-has_room.true)

pub size_all-steps-requires : goal.size_all-steps-requires
size_all-steps-requires c = (c.requires.0, c.requires.1, c.requires.2.jobs)

pub has_room-requires-2 : goal.has_room-requires-2
has_room-requires-2 c = sizes _ _ c.requires.0 c.requires.1 c.requires.2 (c.size_all-steps.ensures c.requires.0 c.requires.1 c.requires.2.jobs)

pub returns : goal.returns
returns c = λ b js a. c.has_room-2.ensures ∙ ap (λ v. has_room (length c.args.list.now) c.args.at c.args.t c.args.n v) (c.size_all-steps.ensures b js a.jobs).total
