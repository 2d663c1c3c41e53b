-- `output::line::put_sources` meets its contract: as many sources as the record counts, and at most three.
-- Assumes nothing.
use native.Mathlib.Omega.{arith}
use Rattle.output.proofs.Lines.{source-room, sources-none, sources-one, sources-two, sources-three}
use Rattle.output.proofs.line.put_sources.Goals as goal

pub returns-then-s-lt1 : goal.returns-then-s-lt1
returns-then-s-lt1 c = sources-none _ _ c.args.s _ _ c.if-s-lt1.true

pub returns-then-s-lt2 : goal.returns-then-s-lt2
returns-then-s-lt2 c = sources-one _ _ c.args.s _ _ _ c.put_source-one.ensures c.if-s-lt1.false c.if-s-lt2.true

pub put_source-two-requires : goal.put_source-two-requires
put_source-two-requires c = omega (arith, source-room _ _ _ _ _ c.put_source-one.ensures)

pub returns-then-s-lt3 : goal.returns-then-s-lt3
returns-then-s-lt3 c = sources-two _ _ c.args.s _ _ _ c.put_source-one.ensures _ c.put_source-two.ensures c.if-s-lt2.false c.if-s-lt3.true

pub put_source-requires : goal.put_source-requires
put_source-requires c = omega (arith, source-room _ _ _ _ _ c.put_source-one.ensures, source-room _ _ _ _ _ c.put_source-two.ensures)

pub returns : goal.returns
returns c = sources-three _ _ c.args.s _ _ _ c.put_source-one.ensures _ c.put_source-two.ensures _ c.put_source.ensures c.if-s-lt3.false
