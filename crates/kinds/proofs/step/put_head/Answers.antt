-- `kinds::step::put_head` meets its contract: its writes, each where the one before it ends, are one.
-- Assumes nothing.
use mathlib.Core.Path.{refl}
use Rattle.kinds.specs.Write.{write-next}
use Rattle.kinds.specs.Steps.{head_bytes}
use Rattle.kinds.proofs.step.put_head.Goals as goal

pub returns : goal.returns
unfolding head_bytes
returns c = let e0 = c.put_two.ensures in
    write-next _ _ _ _ _ e0 c.put_u16.ensures refl
