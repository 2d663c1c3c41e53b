-- `kinds::step::put_step` meets its contract: its writes, each where the one before it ends, are one.
-- Assumes nothing.
use mathlib.Core.Path.{refl}
use Rattle.kinds.specs.Write.{write-next}
use Rattle.kinds.specs.BigEndian.{u16_bytes}
use Rattle.kinds.specs.References.{ref_bytes}
use Rattle.kinds.specs.Steps.{head_bytes, step_bytes}
use Rattle.kinds.proofs.step.put_step.Goals as goal

pub returns : goal.returns
unfolding step_bytes head_bytes ref_bytes u16_bytes
returns c = let s = c.args.s in
    let e0 = c.put_head.ensures in
    let e1 = write-next _ _ (head_bytes s.op s.count s.origin) (ref_bytes s.dest) _ e0 c.put_reference.ensures refl in
    let e2 = write-next _ _ _ (ref_bytes s.s0) _ e1 c.put_reference-2.ensures refl in
    let e3 = write-next _ _ _ (ref_bytes s.s1) _ e2 c.put_reference-3.ensures refl in
    write-next _ _ _ (ref_bytes s.s2) _ e3 c.put_reference-4.ensures refl
