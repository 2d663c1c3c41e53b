-- `frames::read::fill` meets its contract. The loop's invariant: what is left, read after what the tables hold, is the whole.
-- Assumes nothing.
use Rattle.frames.proofs.Loops.{at_zero}
use Rattle.kinds.specs.declared.refusal.Refusal.TheVariants.{Malformed}
use Rattle.std.proofs.lemmas.Result.{err_from_is_err_and}
use Rattle.std.specs.Prelude.{None}
use mathlib.Core.Path.{◌≡◌}
use Rattle.frames.specs.Reading.{span}
use mathlib.Core.Path.{refl, sym, ◌∙◌}
use native.Mathlib.Omega.{arith}
use Rattle.frames.specs.Taking.{Bytes}
use Rattle.frames.specs.Splitting.{next-whole}
use Rattle.frames.proofs.Loops.{fill_start, fill_end, fill_cut, fill_refused, fill_more}
use Rattle.frames.proofs.read.fill.Goals as goal

pub loop-at-init : goal.loop-at-init
loop-at-init c = rw (at_zero c.default-c.result c.default-c.ensures.0 c.default-c.ensures.1.0 c.default-c.ensures.1.1) (fill_start _ _ c.requires)

pub returns-in_err-from : goal.returns-in_err-from
returns-in_err-from c =
    let p = err_from_is_err_and c.from_residual.result c.from_residual.ensures.1 in
    let m : c.in_err-from.field-0.0 ≡ Malformed = grind arith in
    rw (p.1, p.2, m) (fill_cut _ _ _ _ c.loop-at.invariant c.loop-at-test.true (let o : c.next_frame.result ≡ None = grind arith in sym c.next_frame.ensures ∙ o) _ refl)

pub slice_bounds-take-count : goal.slice_bounds-take-count
slice_bounds-take-count c = omega (arith, next-whole _ _ _ _ (let o : c.next_frame.result ≡ span c.in_ok-from.from c.in_ok-from.end = grind arith in sym c.next_frame.ensures ∙ o))

pub slice_bounds-take-start : goal.slice_bounds-take-start
slice_bounds-take-start c = omega (arith, next-whole _ _ _ _ (let o : c.next_frame.result ≡ span c.in_ok-from.from c.in_ok-from.end = grind arith in sym c.next_frame.ensures ∙ o))

pub slice_bounds-take-end : goal.slice_bounds-take-end
slice_bounds-take-end c = omega (arith, next-whole _ _ _ _ (let o : c.next_frame.result ≡ span c.in_ok-from.from c.in_ok-from.end = grind arith in sym c.next_frame.ensures ∙ o))

pub returns-in_err-c : goal.returns-in_err-c
unfolding Bytes
returns-in_err-c c = let p = err_from_is_err_and c.from_residual-in_err-c.result c.from_residual-in_err-c.ensures.1 in rw (p.1, p.2) (fill_refused _ _ _ _ c.loop-at.invariant _ _ (let o : c.next_frame.result ≡ span c.in_ok-from.from c.in_ok-from.end = grind arith in sym c.next_frame.ensures ∙ o) (λ i. (c.type_inv.s i).fits) _ _ c.take.ensures _ c.in_err-c.was)

pub loop-at-smaller : goal.loop-at-smaller
loop-at-smaller c = omega (arith, c.loop-at-test.true, next-whole _ _ _ _ (let o : c.next_frame.result ≡ span c.in_ok-from.from c.in_ok-from.end = grind arith in sym c.next_frame.ensures ∙ o))

pub loop-at-preserved : goal.loop-at-preserved
unfolding Bytes
loop-at-preserved c = fill_more _ _ _ _ c.loop-at.invariant _ _ (let o : c.next_frame.result ≡ span c.in_ok-from.from c.in_ok-from.end = grind arith in sym c.next_frame.ensures ∙ o) (λ i. (c.type_inv.s i).fits) _ _ c.take.ensures _ c.in_ok-c.was

pub returns : goal.returns
returns c = fill_end _ _ _ _ c.loop-at.invariant c.loop-at-test.false
