-- `lists::records::good_record` meets its contract, part by part.
-- Assumes nothing.
use Rattle.std.proofs.Common.{refl, ◌∙◌, le-leb}
use Rattle.std.proofs.lemmas.Bool.{lt-leb}
use Rattle.kinds.specs.Steps.{step_at}
use Rattle.lists.proofs.Parts.{whole, on, off, counts, fewer}
use Rattle.lists.proofs.records.good_record.Goals as goal
use Rattle.lists.proofs.records.good_record.Goals.{then-count-le-SOURCES, else-count-le-SOURCES, then-good_reference+then-count-lt1, then-good_reference+else-count-lt1, else-good_reference, then-good_reference-2+then-count-lt2, then-good_reference-2+else-count-lt2, else-good_reference-2}

pub returns-then-count-lt3 : goal.returns-then-count-lt3
unfolding step_at
returns-then-count-lt3 c =
    let x = step_at c.args.list.now c.args.at in
    whole x
    (elim c.if-count-le-SOURCES.branch [
      | then-count-le-SOURCES w ↦ w.value-is ∙ on _ (le-leb x.count 3 w.if-count-le-SOURCES.true) w.good_reference.ensures
      | else-count-le-SOURCES w ↦ off _ (lt-leb x.count 3 w.if-count-le-SOURCES.false) w.value-is
    ])
    (elim c.if-good_reference.branch [
      | then-good_reference+then-count-lt1 w ↦ on _ w.if-good_reference.true (fewer _ w.if-count-lt1.true w.value-is)
      | then-good_reference+else-count-lt1 w ↦ on _ w.if-good_reference.true (counts _ w.if-count-lt1.false (w.value-is ∙ w.good_reference-else-count-lt1.ensures))
      | else-good_reference w ↦ off _ w.if-good_reference.false w.value-is
    ])
    (elim c.if-good_reference-2.branch [
      | then-good_reference-2+then-count-lt2 w ↦ on _ w.if-good_reference-2.true (fewer _ w.if-count-lt2.true w.value-is)
      | then-good_reference-2+else-count-lt2 w ↦ on _ w.if-good_reference-2.true (counts _ w.if-count-lt2.false (w.value-is ∙ w.good_reference-else-count-lt2.ensures))
      | else-good_reference-2 w ↦ off _ w.if-good_reference-2.false w.value-is
    ])
    (on _ c.if-good_reference-3.true (fewer _ c.if-count-lt3.true refl))

pub returns-else-count-lt3 : goal.returns-else-count-lt3
unfolding step_at
returns-else-count-lt3 c =
    let x = step_at c.args.list.now c.args.at in
    whole x
    (elim c.if-count-le-SOURCES.branch [
      | then-count-le-SOURCES w ↦ w.value-is ∙ on _ (le-leb x.count 3 w.if-count-le-SOURCES.true) w.good_reference.ensures
      | else-count-le-SOURCES w ↦ off _ (lt-leb x.count 3 w.if-count-le-SOURCES.false) w.value-is
    ])
    (elim c.if-good_reference.branch [
      | then-good_reference+then-count-lt1 w ↦ on _ w.if-good_reference.true (fewer _ w.if-count-lt1.true w.value-is)
      | then-good_reference+else-count-lt1 w ↦ on _ w.if-good_reference.true (counts _ w.if-count-lt1.false (w.value-is ∙ w.good_reference-else-count-lt1.ensures))
      | else-good_reference w ↦ off _ w.if-good_reference.false w.value-is
    ])
    (elim c.if-good_reference-2.branch [
      | then-good_reference-2+then-count-lt2 w ↦ on _ w.if-good_reference-2.true (fewer _ w.if-count-lt2.true w.value-is)
      | then-good_reference-2+else-count-lt2 w ↦ on _ w.if-good_reference-2.true (counts _ w.if-count-lt2.false (w.value-is ∙ w.good_reference-else-count-lt2.ensures))
      | else-good_reference-2 w ↦ off _ w.if-good_reference-2.false w.value-is
    ])
    (on _ c.if-good_reference-3.true (counts _ c.if-count-lt3.false c.good_reference-else-count-lt3.ensures))

pub returns-else-good_reference-3 : goal.returns-else-good_reference-3
unfolding step_at
returns-else-good_reference-3 c =
    let x = step_at c.args.list.now c.args.at in
    whole x
    (elim c.if-count-le-SOURCES.branch [
      | then-count-le-SOURCES w ↦ w.value-is ∙ on _ (le-leb x.count 3 w.if-count-le-SOURCES.true) w.good_reference.ensures
      | else-count-le-SOURCES w ↦ off _ (lt-leb x.count 3 w.if-count-le-SOURCES.false) w.value-is
    ])
    (elim c.if-good_reference.branch [
      | then-good_reference+then-count-lt1 w ↦ on _ w.if-good_reference.true (fewer _ w.if-count-lt1.true w.value-is)
      | then-good_reference+else-count-lt1 w ↦ on _ w.if-good_reference.true (counts _ w.if-count-lt1.false (w.value-is ∙ w.good_reference-else-count-lt1.ensures))
      | else-good_reference w ↦ off _ w.if-good_reference.false w.value-is
    ])
    (elim c.if-good_reference-2.branch [
      | then-good_reference-2+then-count-lt2 w ↦ on _ w.if-good_reference-2.true (fewer _ w.if-count-lt2.true w.value-is)
      | then-good_reference-2+else-count-lt2 w ↦ on _ w.if-good_reference-2.true (counts _ w.if-count-lt2.false (w.value-is ∙ w.good_reference-else-count-lt2.ensures))
      | else-good_reference-2 w ↦ off _ w.if-good_reference-2.false w.value-is
    ])
    (off _ c.if-good_reference-3.false refl)
