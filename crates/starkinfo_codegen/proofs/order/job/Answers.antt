-- `starkinfo_codegen::order::job` meets its contract.
-- Assumes nothing.
use Prim.Native.Nat.{◌+◌, ◌*◌}
use mathlib.Core.Path.{ap, ◌∙◌}
use Rattle.starkinfo_codegen.proofs.Orders.{job-word}
use Rattle.starkinfo_codegen.proofs.order.job.Goals as goal

pub returns : goal.returns
returns c = ap (λ m. c.args.cell * 2 + m) c.from.ensures ∙ job-word c.args.cell c.args.fused
