-- `lists::records::good_reference` meets its contract.
-- Assumes nothing.
use Rattle.std.proofs.Common.{◌∙◌}
use Rattle.kinds.specs.References.{ref_at}
use Rattle.lists.specs.Laws.{ref-good, ref-bad}
use Rattle.lists.proofs.records.good_reference.Goals as goal

pub returns-then-is_reference : goal.returns-then-is_reference
unfolding ref_at
returns-then-is_reference c = ref-good (ref_at c.args.list.now c.args.at) _ c.is_reference.ensures c.if-is_reference.true

pub returns-else-is_reference : goal.returns-else-is_reference
unfolding ref_at
returns-else-is_reference c = c.if-is_reference.false ∙ ref-bad (ref_at c.args.list.now c.args.at) _ c.is_reference.ensures c.if-is_reference.false
