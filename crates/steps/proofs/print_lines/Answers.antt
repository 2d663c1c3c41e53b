-- `steps::print_lines` is safe: each line fits, and the page keeps its size.
-- Assumes nothing.
use mathlib.Core.Path.{refl, sym, ◌∙◌}
use native.Mathlib.Omega.{arith}
use Rattle.steps.proofs.Lines.{put-length, line-room}
use Rattle.steps.proofs.print_lines.Goals as goal

pub loop-k-init : goal.loop-k-init
loop-k-init g c = (refl, refl, omega arith, omega arith)

pub slice_bounds-put-end-in-loop-k : goal.slice_bounds-put-end-in-loop-k
slice_bounds-put-end-in-loop-k g c = put-length c.loop-k.invariant.1 c.output_line-n.ensures

pub put-used-requires : goal.put-used-requires
put-used-requires g c = (c.loop-k.invariant.0, line-room _ _ _ _ _ c.loop-k.invariant.1 c.output_line-n.ensures, c.loop-k.invariant.2)

pub loop-k-preserved : goal.loop-k-preserved
loop-k-preserved g c = (c.loop-k.invariant.0 ∙ sym c.put-used.auto.page, put-length c.loop-k.invariant.1 c.output_line-n.ensures, c.put-used.ensures, omega (arith, c.loop-k-test.true))

pub flush-requires : goal.flush-requires
flush-requires g c = omega (arith, c.loop-k.invariant.0, c.loop-k.invariant.2)
