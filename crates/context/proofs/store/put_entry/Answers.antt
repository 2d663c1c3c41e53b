-- `context::store::put_entry` meets its contract: its writes, each where the one before it ends, are one.
-- Assumes nothing.
use mathlib.Core.Path.{refl}
use Rattle.kinds.specs.Write.{write-next}
use Rattle.kinds.specs.BigEndian.{u16_bytes}
use Rattle.context.specs.Entries.{entry_bytes}
use Rattle.context.proofs.store.put_entry.Goals as goal

pub returns : goal.returns
unfolding entry_bytes u16_bytes
returns c = let e = c.args.e in
    let e0 = c.put_u16.ensures in
    let e1 = write-next _ _ (u16_bytes e.expression) (u16_bytes e.prime) _ e0 c.put_u16-2.ensures refl in
    write-next _ _ _ (u16_bytes e.steps) _ e1 c.put_u16-3.ensures refl
