-- `context::store::store_counters` meets its contract: its writes, each where the one before it ends, are one.
-- Assumes nothing.
use mathlib.Core.Path.{refl}
use Rattle.kinds.specs.Write.{write-next}
use Rattle.kinds.specs.BigEndian.{u16_bytes}
use Rattle.context.specs.Tables.{counter_bytes}
use Rattle.context.proofs.store.store_counters.Goals as goal

pub returns : goal.returns
unfolding counter_bytes u16_bytes
returns c = let a = c.args in
    let e0 = c.put_u16.ensures in
    let e1 = write-next _ _ (u16_bytes a.blocks) (u16_bytes a.steps) _ e0 c.put_u16-2.ensures refl in
    write-next _ _ _ (u16_bytes a.temporaries) _ e1 c.put_u16-3.ensures refl
