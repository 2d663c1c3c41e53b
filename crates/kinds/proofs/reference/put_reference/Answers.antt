-- `kinds::reference::put_reference` meets its contract: its writes, each where the one before it ends, are one.
-- Assumes nothing.
use mathlib.Core.Path.{refl}
use Rattle.kinds.specs.Write.{write-next}
use Rattle.kinds.specs.BigEndian.{u16_bytes}
use Rattle.kinds.specs.References.{ref_bytes}
use Rattle.kinds.proofs.reference.put_reference.Goals as goal

pub returns : goal.returns
unfolding ref_bytes u16_bytes
returns c = let r = c.args.r in
    let e0 = c.put_two.ensures in
    let e1 = write-next _ _ _ (u16_bytes r.id) _ e0 c.put_u16.ensures refl in
    let e2 = write-next _ _ _ (u16_bytes r.dim) _ e1 c.put_u16-2.ensures refl in
    let e3 = write-next _ _ _ (u16_bytes r.p) _ e2 c.put_u16-3.ensures refl in
    let e4 = write-next _ _ _ (u16_bytes r.tree_pos) _ e3 c.put_u16-4.ensures refl in
    write-next _ _ _ (u16_bytes r.extra) _ e4 c.put_u16-5.ensures refl
