-- `output::line::put_literal` meets its contract: the sign, and after it the magnitude.
-- Assumes nothing.
use mathlib.Core.Path.{refl}
use mathlib.Core.List.{[], ◌∷◌}
use Rattle.output.specs.Output.{sign_byte, u64_bytes, lit_out}
use Rattle.output.proofs.Lines.{sign-is, put_next}
use Rattle.output.proofs.line.put_literal.Goals as goal

pub returns : goal.returns
unfolding lit_out
returns c = let l = c.args.l in
    put_next _ _ (sign_byte l.negative ∷ []) (u64_bytes l.magnitude) _ (rw (c.from.ensures, sign-is l.negative) at c.put_byte.ensures) c.put_u64.ensures refl
