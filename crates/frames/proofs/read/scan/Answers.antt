-- `frames::read::scan` meets its contract. The loop's invariant: what is left, counted after what is counted, is the whole.
-- Assumes nothing.
use Rattle.frames.proofs.Loops.{at_zero}
use Rattle.kinds.specs.declared.refusal.Refusal.TheVariants.{Malformed}
use Rattle.std.proofs.lemmas.Result.{err_from_is_err_and}
use Rattle.std.specs.Prelude.{None}
use mathlib.Core.Path.{◌≡◌}
use Rattle.frames.specs.Reading.{span}
use mathlib.Core.Path.{sym, ◌∙◌}
use native.Mathlib.Omega.{arith}
use Rattle.frames.specs.Splitting.{next-whole}
use Rattle.frames.proofs.Loops.{left_start, left_end, left_cut, left_refused, left_more}
use Rattle.frames.proofs.read.scan.Goals as goal

pub loop-at-init : goal.loop-at-init
loop-at-init c = rw (at_zero c.default-c.result c.default-c.ensures.0 c.default-c.ensures.1.0 c.default-c.ensures.1.1) (left_start _)

pub returns-in_err-from : goal.returns-in_err-from
returns-in_err-from c =
    let p = err_from_is_err_and c.from_residual.result c.from_residual.ensures.1 in
    let m : c.in_err-from.field-0.0 ≡ Malformed = grind arith in
    rw (p.1, p.2, m) (left_cut _ _ _ c.loop-at.invariant c.loop-at-test.true (let o : c.next_frame.result ≡ None = grind arith in sym c.next_frame.ensures ∙ o))

pub slice_bounds-count-count : goal.slice_bounds-count-count
slice_bounds-count-count c = omega (arith, next-whole _ _ _ _ (let o : c.next_frame.result ≡ span c.in_ok-from.from c.in_ok-from.end = grind arith in sym c.next_frame.ensures ∙ o))

pub slice_bounds-count-start : goal.slice_bounds-count-start
slice_bounds-count-start c = omega (arith, next-whole _ _ _ _ (let o : c.next_frame.result ≡ span c.in_ok-from.from c.in_ok-from.end = grind arith in sym c.next_frame.ensures ∙ o))

pub slice_bounds-count-end : goal.slice_bounds-count-end
slice_bounds-count-end c = omega (arith, next-whole _ _ _ _ (let o : c.next_frame.result ≡ span c.in_ok-from.from c.in_ok-from.end = grind arith in sym c.next_frame.ensures ∙ o))

pub returns-in_err-c : goal.returns-in_err-c
returns-in_err-c c = let p = err_from_is_err_and c.from_residual-in_err-c.result c.from_residual-in_err-c.ensures.1 in rw (p.1, p.2) (left_refused _ _ _ c.loop-at.invariant _ _ (let o : c.next_frame.result ≡ span c.in_ok-from.from c.in_ok-from.end = grind arith in sym c.next_frame.ensures ∙ o) _ c.count.ensures _ c.in_err-c.was)

pub loop-at-smaller : goal.loop-at-smaller
loop-at-smaller c = omega (arith, c.loop-at-test.true, next-whole _ _ _ _ (let o : c.next_frame.result ≡ span c.in_ok-from.from c.in_ok-from.end = grind arith in sym c.next_frame.ensures ∙ o))

pub loop-at-preserved : goal.loop-at-preserved
loop-at-preserved c = left_more _ _ _ c.loop-at.invariant _ _ (let o : c.next_frame.result ≡ span c.in_ok-from.from c.in_ok-from.end = grind arith in sym c.next_frame.ensures ∙ o) _ c.count.ensures _ c.in_ok-c.was

pub returns : goal.returns
returns c = left_end _ _ _ c.loop-at.invariant c.loop-at-test.false
