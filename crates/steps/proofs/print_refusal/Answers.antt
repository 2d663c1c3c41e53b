-- `steps::print_refusal` is safe: the line fits.
-- Assumes nothing.
use mathlib.Core.Path.{refl}
use Rattle.output.specs.Laws.{refusal-fits}
use Rattle.steps.proofs.Lines.{put-length, put-room}
use Rattle.steps.proofs.print_refusal.Goals as goal

pub slice_bounds-flush-end : goal.slice_bounds-flush-end
slice_bounds-flush-end g c = put-length refl c.refusal_line-n.ensures

pub flush-requires : goal.flush-requires
flush-requires g c = put-room refl (refusal-fits c.args.number) c.refusal_line-n.ensures
