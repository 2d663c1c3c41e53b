-- `output::line::put_cell` meets its contract: its writes, each where the one before it ends, are one.
-- Assumes nothing.
use mathlib.Core.Path.{refl}
use mathlib.Core.List.{[], ◌∷◌}
use Rattle.kinds.specs.BigEndian.{u16_bytes}
use Rattle.output.specs.Output.{cell_out}
use Rattle.output.proofs.Lines.{put_next}
use Rattle.output.proofs.line.put_cell.Goals as goal

pub returns : goal.returns
unfolding cell_out u16_bytes
returns c = let r = c.args.r in
    let e = put_next _ _ (r.kind ∷ []) (u16_bytes r.id) _ c.put_byte.ensures c.put_u16.ensures refl in
    put_next _ _ (r.kind ∷ u16_bytes r.id) (r.prime ∷ []) _ e c.put_byte-2.ensures refl
