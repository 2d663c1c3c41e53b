-- `plan_map::map::map_planned` meets its contract: no room, or its parts one behind the other (proofs/Answering.antt). Assumes nothing.
use mathlib.Core.Path.{refl}
use native.Mathlib.Omega.{arith}
use Rattle.plan_map.specs.Puts.{puts-size}
use Rattle.plan_map.proofs.Answering.{fitting, records-few, columns-few, cms-asked, cms-end, sections-asked, sections-end, expressions-asks, whole-put, no_room, all-put}
use Rattle.plan_map.proofs.map.map_planned.Goals as goal

pub cm_count-cms-requires : goal.cm_count-cms-requires
cm_count-cms-requires c = c.requires.1.planned.whole.0

pub column_expressions-count-requires : goal.column_expressions-count-requires
column_expressions-count-requires c = fitting c.requires.1

pub overflow_mul-size : goal.overflow_mul-size
overflow_mul-size c = omega (arith, records-few c.requires.1, c.cm_count-cms.ensures.low, columns-few c.requires.1, c.column_expressions-count.ensures.count, c.requires.1.few)

pub overflow_add-size : goal.overflow_add-size
overflow_add-size c = omega (arith, records-few c.requires.1, c.cm_count-cms.ensures.low, columns-few c.requires.1, c.column_expressions-count.ensures.count, c.requires.1.few)

pub overflow_mul-size-2 : goal.overflow_mul-size-2
overflow_mul-size-2 c = omega (arith, records-few c.requires.1, c.cm_count-cms.ensures.low, columns-few c.requires.1, c.column_expressions-count.ensures.count, c.requires.1.few)

pub overflow_add-size-2 : goal.overflow_add-size-2
overflow_add-size-2 c = omega (arith, records-few c.requires.1, c.cm_count-cms.ensures.low, columns-few c.requires.1, c.column_expressions-count.ensures.count, c.requires.1.few)

pub overflow_mul-size-3 : goal.overflow_mul-size-3
overflow_mul-size-3 c = omega (arith, records-few c.requires.1, c.cm_count-cms.ensures.low, columns-few c.requires.1, c.column_expressions-count.ensures.count, c.requires.1.few)

pub overflow_add-size-3 : goal.overflow_add-size-3
overflow_add-size-3 c = omega (arith, records-few c.requires.1, c.cm_count-cms.ensures.low, columns-few c.requires.1, c.column_expressions-count.ensures.count, c.requires.1.few)

pub overflow_mul-size-4 : goal.overflow_mul-size-4
overflow_mul-size-4 c = omega (arith, records-few c.requires.1, c.cm_count-cms.ensures.low, columns-few c.requires.1, c.column_expressions-count.ensures.count, c.requires.1.few)

pub overflow_add-size-4 : goal.overflow_add-size-4
overflow_add-size-4 c = omega (arith, records-few c.requires.1, c.cm_count-cms.ensures.low, columns-few c.requires.1, c.column_expressions-count.ensures.count, c.requires.1.few)

pub returns-then-out-size : goal.returns-then-out-size
returns-then-out-size c = λ p d. rw c.into.ensures (no_room d c.cm_count-cms.ensures.is c.column_expressions-count.ensures.count c.args.out.now c.if-out-size.true)

pub put_sections-records-requires : goal.put_sections-records-requires
put_sections-records-requires c = sections-asked c.requires.1 c.cm_count-cms.ensures.is c.column_expressions-count.ensures.count _ (omega (arith, c.if-out-size.false))

pub put_cms-rest-requires : goal.put_cms-rest-requires
put_cms-rest-requires c = cms-asked c.requires.1 c.cm_count-cms.ensures.is _ _ (omega (arith, c.if-out-size.false, puts-size c.put_sections-records.ensures, sections-end c.requires.1 _ _ c.put_sections-records.ensures))

pub put_expressions-requires : goal.put_expressions-requires
put_expressions-requires c = (c.requires.0, expressions-asks c.requires.1 _ _ c.column_expressions-count.ensures refl (omega (arith, c.if-out-size.false, puts-size c.put_sections-records.ensures, sections-end c.requires.1 _ _ c.put_sections-records.ensures, puts-size c.put_cms-rest.ensures, cms-end c.requires.1 c.cm_count-cms.ensures.is c.put_cms-rest.ensures)))

pub shape_of-out : goal.shape_of-out
shape_of-out c = omega (arith, records-few c.requires.1, c.cm_count-cms.ensures.low, columns-few c.requires.1, c.column_expressions-count.ensures.count, c.requires.1.few)

pub returns : goal.returns
returns c = λ p d. all-put d c.cm_count-cms.ensures.is c.column_expressions-count.ensures.count c.if-out-size.false (whole-put d c.cm_count-cms.ensures.is c.column_expressions-count.ensures.count c.put_sections-records.ensures c.put_cms-rest.ensures (c.put_expressions.ensures p (expressions-asks d _ _ c.column_expressions-count.ensures refl (omega (arith, c.if-out-size.false, puts-size c.put_sections-records.ensures, sections-end d _ _ c.put_sections-records.ensures, puts-size c.put_cms-rest.ensures, cms-end d c.cm_count-cms.ensures.is c.put_cms-rest.ensures)))))
