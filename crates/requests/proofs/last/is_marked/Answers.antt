-- `requests::last::is_marked` meets its contract.
-- Assumes nothing.
use Rattle.requests.proofs.Lasts.{mark-at}
use Rattle.requests.proofs.last.is_marked.Goals as goal

pub returns : goal.returns
returns c = mark-at _ _ _ c.requires.1
