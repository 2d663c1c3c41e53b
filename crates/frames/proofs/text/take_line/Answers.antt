-- `frames::text::take_line` meets its contract.
-- Assumes nothing.
use Rattle.kinds.specs.declared.refusal.Refusal.TheVariants.{Malformed}
use Rattle.std.proofs.lemmas.Result.{err_from_is_err_and}
use Rattle.std.specs.Prelude.{Some, None}
use mathlib.Core.Path.{◌≡◌}
use mathlib.Core.Path.{refl}
use native.Mathlib.Omega.{arith}
use Rattle.frames.proofs.Texts.{line_refused, line_taken}
use Rattle.frames.proofs.text.take_line.Goals as goal

pub returns-in_err-n : goal.returns-in_err-n
returns-in_err-n c =
    let p = err_from_is_err_and c.from_residual.result c.from_residual.ensures.1 in
    let m : c.in_err-n.field-0.0 ≡ Malformed = grind arith in
    rw (p.1, p.2, m) (line_refused _ _ _ _ c.unhex.ensures _ _ (let o : c.unhex.result ≡ None = grind arith in o) _ refl)

pub returns : goal.returns
returns c = line_taken _ _ _ _ c.unhex.ensures _ _ _ (let o : c.unhex.result ≡ Some c.in_ok-n.n = grind arith in o) _ _ c.take.ensures
