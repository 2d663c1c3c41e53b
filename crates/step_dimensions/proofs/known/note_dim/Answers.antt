-- `step_dimensions::known::note_dim` meets its contract.
-- Assumes nothing.
use Rattle.kinds.specs.References.{ref_at}
use Rattle.step_dimensions.specs.Laws.Known.{notes, notes-not}
use Rattle.step_dimensions.proofs.known.note_dim.Goals as goal

pub returns-then-list-at-eq-TMP : goal.returns-then-list-at-eq-TMP
unfolding ref_at
returns-then-list-at-eq-TMP c = notes c.args.temporaries.now (ref_at c.args.list.now c.args.at) c.args.dim c.if-list-at-eq-TMP.true _ c.u16_at-id.ensures

pub returns-else-list-at-eq-TMP : goal.returns-else-list-at-eq-TMP
unfolding ref_at
returns-else-list-at-eq-TMP c = notes-not c.args.temporaries.now (ref_at c.args.list.now c.args.at) c.args.dim c.if-list-at-eq-TMP.false
