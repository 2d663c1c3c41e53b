-- `output::line::counter_line` meets its contract: the mark, the counter, the line feed.
-- Assumes nothing.
use mathlib.Core.Path.{refl}
use mathlib.Core.List.{[], ◌∷◌}
use Rattle.kinds.specs.BigEndian.{u16_bytes}
use Rattle.output.specs.Output.{counter_mark, counter_line}
use Rattle.output.proofs.Lines.{put_next, put-feed}
use Rattle.output.proofs.line.counter_line.Goals as goal

pub returns : goal.returns
unfolding counter_line u16_bytes
returns c = put-feed _ _ _ (put_next _ _ (counter_mark ∷ []) (u16_bytes c.args.counter) _ c.put_byte.ensures c.put_u16.ensures refl) refl
