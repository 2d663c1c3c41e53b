-- `frames::text::fill_text` meets its contract. The loop's invariant: what is left, read after what the tables hold, is the whole.
-- Assumes nothing.
use Rattle.frames.proofs.Loops.{at_zero}
use Rattle.std.proofs.lemmas.Result.{err_from_is_err_and}
use native.Mathlib.Omega.{arith}
use Rattle.frames.proofs.Texts.{ended, text_start, text_done, text_refused, text_more}
use Rattle.frames.proofs.text.fill_text.Goals as goal

pub loop-at-init : goal.loop-at-init
loop-at-init c = rw (at_zero c.default-c.result c.default-c.ensures.0 c.default-c.ensures.1.0 c.default-c.ensures.1.1) (text_start _ _ c.requires)

pub slice_bounds-take_line-count : goal.slice_bounds-take_line-count
slice_bounds-take_line-count c = omega (arith, ended c.line_end-end.ensures c.loop-at-test.true)

pub slice_bounds-take_line-start : goal.slice_bounds-take_line-start
slice_bounds-take_line-start c = omega (arith, ended c.line_end-end.ensures c.loop-at-test.true)

pub slice_bounds-take_line-end : goal.slice_bounds-take_line-end
slice_bounds-take_line-end c = omega (arith, ended c.line_end-end.ensures c.loop-at-test.true)

pub returns-in_err-c : goal.returns-in_err-c
returns-in_err-c c = let p = err_from_is_err_and c.from_residual.result c.from_residual.ensures.1 in rw (p.1, p.2) (text_refused _ _ _ _ c.loop-at.invariant c.loop-at-test.true _ c.line_end-end.ensures _ _ c.take_line.ensures _ c.in_err-c.was)

pub loop-at-smaller : goal.loop-at-smaller
loop-at-smaller c = omega (arith, c.loop-at-test.true, ended c.line_end-end.ensures c.loop-at-test.true)

pub loop-at-preserved : goal.loop-at-preserved
loop-at-preserved c = text_more _ _ _ _ c.loop-at.invariant c.loop-at-test.true _ c.line_end-end.ensures _ _ c.take_line.ensures _ c.in_ok-c.was

pub returns : goal.returns
returns c = text_done _ _ _ _ c.loop-at.invariant c.loop-at-test.false
