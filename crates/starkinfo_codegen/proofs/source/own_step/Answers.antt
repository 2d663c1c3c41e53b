-- `starkinfo_codegen::source::own_step` meets its contract.
-- Assumes nothing.
use Rattle.starkinfo_codegen.specs.Sources.{own_in}
use Rattle.starkinfo_codegen.proofs.Reading.{same_step}
use Rattle.starkinfo_codegen.proofs.source.own_step.Goals as goal

pub returns : goal.returns
unfolding own_in
returns c = same_step c.args.o.op c.sources_needed.ensures c.plain.ensures c.source.ensures c.source-2.ensures c.source-3.ensures
