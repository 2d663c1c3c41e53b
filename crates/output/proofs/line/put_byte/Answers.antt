-- `output::line::put_byte` meets its contract: two stores are one write.
-- Assumes nothing.
use Rattle.output.proofs.Lines.{put_two}
use Rattle.output.proofs.line.put_byte.Goals as goal

pub returns : goal.returns
returns c = put_two _ _ _ _ _ c.digit.ensures c.digit-2.ensures
