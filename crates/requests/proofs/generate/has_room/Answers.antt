-- `requests::generate::has_room` meets its contract.
-- Assumes nothing.
use Rattle.requests.proofs.Generates.{no_room, list-room}
use Rattle.requests.proofs.generate.has_room.Goals as goal

pub returns-then-list-at : goal.returns-then-list-at
returns-then-list-at c = no_room _ _ _ _ _ c.if-list-at.true

pub returns : goal.returns
returns c = list-room _ _ _ _ _ c.if-list-at.false
