-- `codegen::serve::is_allowed` meets its contract.
-- Assumes nothing.
use Rattle.codegen.proofs.Small.{not-marked}
use Rattle.codegen.proofs.serve.is_allowed.Goals as goal

pub returns : goal.returns
returns c = not-marked _ c.args.prime c.if-marked.false
