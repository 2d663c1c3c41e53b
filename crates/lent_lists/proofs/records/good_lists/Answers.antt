-- `lent_lists::records::good_lists` meets its contract.
-- Assumes nothing.
use Rattle.std.proofs.Common.{refl, sym, ◌∙◌}
use Rattle.lists.proofs.Parts.{on, off}
use Rattle.lent_lists.proofs.Three.{three}
use Rattle.lent_lists.proofs.records.good_lists.Goals as goal
use Rattle.lent_lists.proofs.records.good_lists.Goals.{then-good_list, else-good_list}

pub returns-then-good_list-2 : goal.returns-then-good_list-2
returns-then-good_list-2 c =
    three c.args.first.now c.args.i.now c.args.last.now
    (elim c.if-good_list.branch [
      | then-good_list w ↦ on _ (sym c.good_list.ensures ∙ w.if-good_list.true) (w.value-is ∙ w.good_list-then-good_list.ensures)
      | else-good_list w ↦ off _ (sym c.good_list.ensures ∙ w.if-good_list.false) (w.value-is ∙ c.good_list.ensures)
    ])
    (on _ c.if-good_list-2.true c.good_list-then-good_list-2.ensures)

pub returns-else-good_list-2 : goal.returns-else-good_list-2
returns-else-good_list-2 c =
    three c.args.first.now c.args.i.now c.args.last.now
    (elim c.if-good_list.branch [
      | then-good_list w ↦ on _ (sym c.good_list.ensures ∙ w.if-good_list.true) (w.value-is ∙ w.good_list-then-good_list.ensures)
      | else-good_list w ↦ off _ (sym c.good_list.ensures ∙ w.if-good_list.false) (w.value-is ∙ c.good_list.ensures)
    ])
    (off _ c.if-good_list-2.false refl)
