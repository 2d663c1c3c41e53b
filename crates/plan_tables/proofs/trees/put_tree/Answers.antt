-- `plan_tables::trees::put_tree` meets its contract. Assumes nothing.
use native.Mathlib.Omega.{arith}
use Rattle.plan_tables.specs.Tables.{tree_word}
use Rattle.plan_tables.specs.Sectioned.{put-below, put-above, put_in}
use Rattle.plan_tables.proofs.Treed.{put_as}
use Rattle.plan_tables.proofs.trees.put_tree.Goals as goal

pub returns-then-section-lt-CM1_2NS : goal.returns-then-section-lt-CM1_2NS
returns-then-section-lt-CM1_2NS c = put-below 5 8 c.args.section c.args.trees.now c.args.n (tree_word c.args.section c.args.position c.args.dim) c.if-section-lt-CM1_2NS.true

pub returns-then-section-gt-CM4_2NS : goal.returns-then-section-gt-CM4_2NS
returns-then-section-gt-CM4_2NS c = put-above 5 8 c.args.section c.args.trees.now c.args.n (tree_word c.args.section c.args.position c.args.dim) c.if-section-gt-CM4_2NS.true

pub overflow_cast-kind : goal.overflow_cast-kind
overflow_cast-kind c = omega (arith, c.requires, c.well_formed, c.if-section-lt-CM1_2NS.false, c.if-section-gt-CM4_2NS.false)

pub overflow_add-kind : goal.overflow_add-kind
overflow_add-kind c = omega (arith, c.requires, c.well_formed, c.if-section-lt-CM1_2NS.false, c.if-section-gt-CM4_2NS.false)

pub pack-requires : goal.pack-requires
pack-requires c = omega (arith, c.requires, c.well_formed, c.if-section-lt-CM1_2NS.false, c.if-section-gt-CM4_2NS.false)

pub offset_bounds-trees-n : goal.offset_bounds-trees-n
offset_bounds-trees-n c = omega (arith, c.requires, c.well_formed, c.if-section-lt-CM1_2NS.false, c.if-section-gt-CM4_2NS.false)

pub bounds-trees-n : goal.bounds-trees-n
bounds-trees-n c = omega (arith, c.requires, c.well_formed, c.if-section-lt-CM1_2NS.false, c.if-section-gt-CM4_2NS.false)

pub overflow_add-result : goal.overflow_add-result
overflow_add-result c = omega (arith, c.requires, c.well_formed, c.if-section-lt-CM1_2NS.false, c.if-section-gt-CM4_2NS.false)

pub returns : goal.returns
returns c = put_as c.pack.ensures (put_in 5 8 c.args.section c.args.trees.now c.args.n c.pack.result c.if-section-lt-CM1_2NS.false c.if-section-gt-CM4_2NS.false)
