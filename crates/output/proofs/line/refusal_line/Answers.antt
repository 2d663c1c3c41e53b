-- `output::line::refusal_line` meets its contract: the mark, the number, the line feed.
-- Assumes nothing.
use mathlib.Core.Path.{refl}
use Rattle.output.specs.Output.{refusal_line}
use Rattle.output.proofs.Lines.{put_next, put-feed}
use Rattle.output.proofs.line.refusal_line.Goals as goal

pub returns : goal.returns
unfolding refusal_line
returns c = put-feed _ _ _ (put_next _ _ _ _ _ c.put_byte.ensures c.put_byte-2.ensures refl) refl
