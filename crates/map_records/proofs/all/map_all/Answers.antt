-- `map_records::all::map_all` meets its contract: each part begins where the one before it ends (proofs/Alls.antt). Assumes nothing.
use mathlib.Core.Path.{sym, ◌∙◌}
use native.Mathlib.Omega.{arith}
use Rattle.pool.specs.Tabled.{tabled}
use Rattle.pool.specs.Ranking.{Tabling}
use Rattle.frames.specs.Order.{expression_limit}
use Rattle.map_records.proofs.Alls.{planned, mark-asks, products_low, to-lookups, to-products, to-intermediates, constraint-asks, to-quotients, last-room, all-mapped}
use Rattle.map_records.proofs.all.map_all.Goals as goal

pub mark_intermediates-requires : goal.mark_intermediates-requires
mark_intermediates-requires c = (expression_limit, mark-asks c.requires.4)

pub map_cm1-first-requires : goal.map_cm1-first-requires
map_cm1-first-requires c = (planned c.requires.4, ((tabled (Tabling c.args.nodes.now c.requires.0 c.args.expressions.now c.requires.1 c.requires.2)), c.requires.4.holds))

pub map_lookups-second-requires : goal.map_lookups-second-requires
map_lookups-second-requires c = (c.requires.0, c.requires.1, c.requires.2, c.requires.3, (to-lookups c.requires.4 (c.map_cm1-first.ensures (tabled (Tabling c.args.nodes.now c.requires.0 c.args.expressions.now c.requires.1 c.requires.2)) c.requires.4.holds) (c.mark_intermediates.ensures expression_limit (mark-asks c.requires.4))))

pub map_products-third-requires : goal.map_products-third-requires
map_products-third-requires c = ((planned c.requires.4, products_low c.requires.4), ((tabled (Tabling c.args.nodes.now c.requires.0 c.args.expressions.now c.requires.1 c.requires.2)), (to-products c.requires.4 (c.map_lookups-second.ensures c.requires.0 c.requires.1 c.requires.2 c.requires.3 (to-lookups c.requires.4 (c.map_cm1-first.ensures (tabled (Tabling c.args.nodes.now c.requires.0 c.args.expressions.now c.requires.1 c.requires.2)) c.requires.4.holds) (c.mark_intermediates.ensures expression_limit (mark-asks c.requires.4)))))))

pub map_intermediates-fourth-requires : goal.map_intermediates-fourth-requires
map_intermediates-fourth-requires c = (c.requires.0, c.requires.1, c.requires.2, c.requires.3, (to-intermediates c.requires.4 (c.map_products-third.ensures (tabled (Tabling c.args.nodes.now c.requires.0 c.args.expressions.now c.requires.1 c.requires.2)) (to-products c.requires.4 (c.map_lookups-second.ensures c.requires.0 c.requires.1 c.requires.2 c.requires.3 (to-lookups c.requires.4 (c.map_cm1-first.ensures (tabled (Tabling c.args.nodes.now c.requires.0 c.args.expressions.now c.requires.1 c.requires.2)) c.requires.4.holds) (c.mark_intermediates.ensures expression_limit (mark-asks c.requires.4))))))))

pub c_exp_of-c_exp-requires : goal.c_exp_of-c_exp-requires
c_exp_of-c_exp-requires c = (planned c.requires.4).whole.0

pub exp_dim-dim-requires : goal.exp_dim-dim-requires
exp_dim-dim-requires c = (c.requires.0, c.requires.1, c.requires.2, c.requires.3, (constraint-asks c.requires.4 c.c_exp_of-c_exp.ensures))

pub map_quotients-last-requires : goal.map_quotients-last-requires
map_quotients-last-requires c = (planned c.requires.4, ((tabled (Tabling c.args.nodes.now c.requires.0 c.args.expressions.now c.requires.1 c.requires.2)), (to-quotients c.requires.4 (c.map_intermediates-fourth.ensures c.requires.0 c.requires.1 c.requires.2 c.requires.3 (to-intermediates c.requires.4 (c.map_products-third.ensures (tabled (Tabling c.args.nodes.now c.requires.0 c.args.expressions.now c.requires.1 c.requires.2)) (to-products c.requires.4 (c.map_lookups-second.ensures c.requires.0 c.requires.1 c.requires.2 c.requires.3 (to-lookups c.requires.4 (c.map_cm1-first.ensures (tabled (Tabling c.args.nodes.now c.requires.0 c.args.expressions.now c.requires.1 c.requires.2)) c.requires.4.holds) (c.mark_intermediates.ensures expression_limit (mark-asks c.requires.4)))))))) c.c_exp_of-c_exp.ensures (c.exp_dim-dim.ensures c.requires.0 c.requires.1 c.requires.2 c.requires.3 (constraint-asks c.requires.4 c.c_exp_of-c_exp.ensures)))))

pub add_record-requires : goal.add_record-requires
add_record-requires c = omega (arith, last-room c.requires.4 (c.map_intermediates-fourth.ensures c.requires.0 c.requires.1 c.requires.2 c.requires.3 (to-intermediates c.requires.4 (c.map_products-third.ensures (tabled (Tabling c.args.nodes.now c.requires.0 c.args.expressions.now c.requires.1 c.requires.2)) (to-products c.requires.4 (c.map_lookups-second.ensures c.requires.0 c.requires.1 c.requires.2 c.requires.3 (to-lookups c.requires.4 (c.map_cm1-first.ensures (tabled (Tabling c.args.nodes.now c.requires.0 c.args.expressions.now c.requires.1 c.requires.2)) c.requires.4.holds) (c.mark_intermediates.ensures expression_limit (mark-asks c.requires.4)))))))) c.c_exp_of-c_exp.ensures (c.exp_dim-dim.ensures c.requires.0 c.requires.1 c.requires.2 c.requires.3 (constraint-asks c.requires.4 c.c_exp_of-c_exp.ensures)) (c.map_quotients-last.ensures (tabled (Tabling c.args.nodes.now c.requires.0 c.args.expressions.now c.requires.1 c.requires.2)) (to-quotients c.requires.4 (c.map_intermediates-fourth.ensures c.requires.0 c.requires.1 c.requires.2 c.requires.3 (to-intermediates c.requires.4 (c.map_products-third.ensures (tabled (Tabling c.args.nodes.now c.requires.0 c.args.expressions.now c.requires.1 c.requires.2)) (to-products c.requires.4 (c.map_lookups-second.ensures c.requires.0 c.requires.1 c.requires.2 c.requires.3 (to-lookups c.requires.4 (c.map_cm1-first.ensures (tabled (Tabling c.args.nodes.now c.requires.0 c.args.expressions.now c.requires.1 c.requires.2)) c.requires.4.holds) (c.mark_intermediates.ensures expression_limit (mark-asks c.requires.4)))))))) c.c_exp_of-c_exp.ensures (c.exp_dim-dim.ensures c.requires.0 c.requires.1 c.requires.2 c.requires.3 (constraint-asks c.requires.4 c.c_exp_of-c_exp.ensures)))))

pub overflow_add-last : goal.overflow_add-last
overflow_add-last c = omega (arith, last-room c.requires.4 (c.map_intermediates-fourth.ensures c.requires.0 c.requires.1 c.requires.2 c.requires.3 (to-intermediates c.requires.4 (c.map_products-third.ensures (tabled (Tabling c.args.nodes.now c.requires.0 c.args.expressions.now c.requires.1 c.requires.2)) (to-products c.requires.4 (c.map_lookups-second.ensures c.requires.0 c.requires.1 c.requires.2 c.requires.3 (to-lookups c.requires.4 (c.map_cm1-first.ensures (tabled (Tabling c.args.nodes.now c.requires.0 c.args.expressions.now c.requires.1 c.requires.2)) c.requires.4.holds) (c.mark_intermediates.ensures expression_limit (mark-asks c.requires.4)))))))) c.c_exp_of-c_exp.ensures (c.exp_dim-dim.ensures c.requires.0 c.requires.1 c.requires.2 c.requires.3 (constraint-asks c.requires.4 c.c_exp_of-c_exp.ensures)) (c.map_quotients-last.ensures (tabled (Tabling c.args.nodes.now c.requires.0 c.args.expressions.now c.requires.1 c.requires.2)) (to-quotients c.requires.4 (c.map_intermediates-fourth.ensures c.requires.0 c.requires.1 c.requires.2 c.requires.3 (to-intermediates c.requires.4 (c.map_products-third.ensures (tabled (Tabling c.args.nodes.now c.requires.0 c.args.expressions.now c.requires.1 c.requires.2)) (to-products c.requires.4 (c.map_lookups-second.ensures c.requires.0 c.requires.1 c.requires.2 c.requires.3 (to-lookups c.requires.4 (c.map_cm1-first.ensures (tabled (Tabling c.args.nodes.now c.requires.0 c.args.expressions.now c.requires.1 c.requires.2)) c.requires.4.holds) (c.mark_intermediates.ensures expression_limit (mark-asks c.requires.4)))))))) c.c_exp_of-c_exp.ensures (c.exp_dim-dim.ensures c.requires.0 c.requires.1 c.requires.2 c.requires.3 (constraint-asks c.requires.4 c.c_exp_of-c_exp.ensures)))))

pub add_record-requires-2 : goal.add_record-requires-2
add_record-requires-2 c = last-room c.requires.4 (c.map_intermediates-fourth.ensures c.requires.0 c.requires.1 c.requires.2 c.requires.3 (to-intermediates c.requires.4 (c.map_products-third.ensures (tabled (Tabling c.args.nodes.now c.requires.0 c.args.expressions.now c.requires.1 c.requires.2)) (to-products c.requires.4 (c.map_lookups-second.ensures c.requires.0 c.requires.1 c.requires.2 c.requires.3 (to-lookups c.requires.4 (c.map_cm1-first.ensures (tabled (Tabling c.args.nodes.now c.requires.0 c.args.expressions.now c.requires.1 c.requires.2)) c.requires.4.holds) (c.mark_intermediates.ensures expression_limit (mark-asks c.requires.4)))))))) c.c_exp_of-c_exp.ensures (c.exp_dim-dim.ensures c.requires.0 c.requires.1 c.requires.2 c.requires.3 (constraint-asks c.requires.4 c.c_exp_of-c_exp.ensures)) (c.map_quotients-last.ensures (tabled (Tabling c.args.nodes.now c.requires.0 c.args.expressions.now c.requires.1 c.requires.2)) (to-quotients c.requires.4 (c.map_intermediates-fourth.ensures c.requires.0 c.requires.1 c.requires.2 c.requires.3 (to-intermediates c.requires.4 (c.map_products-third.ensures (tabled (Tabling c.args.nodes.now c.requires.0 c.args.expressions.now c.requires.1 c.requires.2)) (to-products c.requires.4 (c.map_lookups-second.ensures c.requires.0 c.requires.1 c.requires.2 c.requires.3 (to-lookups c.requires.4 (c.map_cm1-first.ensures (tabled (Tabling c.args.nodes.now c.requires.0 c.args.expressions.now c.requires.1 c.requires.2)) c.requires.4.holds) (c.mark_intermediates.ensures expression_limit (mark-asks c.requires.4)))))))) c.c_exp_of-c_exp.ensures (c.exp_dim-dim.ensures c.requires.0 c.requires.1 c.requires.2 c.requires.3 (constraint-asks c.requires.4 c.c_exp_of-c_exp.ensures))))

pub overflow_add-result : goal.overflow_add-result
overflow_add-result c = omega (arith, last-room c.requires.4 (c.map_intermediates-fourth.ensures c.requires.0 c.requires.1 c.requires.2 c.requires.3 (to-intermediates c.requires.4 (c.map_products-third.ensures (tabled (Tabling c.args.nodes.now c.requires.0 c.args.expressions.now c.requires.1 c.requires.2)) (to-products c.requires.4 (c.map_lookups-second.ensures c.requires.0 c.requires.1 c.requires.2 c.requires.3 (to-lookups c.requires.4 (c.map_cm1-first.ensures (tabled (Tabling c.args.nodes.now c.requires.0 c.args.expressions.now c.requires.1 c.requires.2)) c.requires.4.holds) (c.mark_intermediates.ensures expression_limit (mark-asks c.requires.4)))))))) c.c_exp_of-c_exp.ensures (c.exp_dim-dim.ensures c.requires.0 c.requires.1 c.requires.2 c.requires.3 (constraint-asks c.requires.4 c.c_exp_of-c_exp.ensures)) (c.map_quotients-last.ensures (tabled (Tabling c.args.nodes.now c.requires.0 c.args.expressions.now c.requires.1 c.requires.2)) (to-quotients c.requires.4 (c.map_intermediates-fourth.ensures c.requires.0 c.requires.1 c.requires.2 c.requires.3 (to-intermediates c.requires.4 (c.map_products-third.ensures (tabled (Tabling c.args.nodes.now c.requires.0 c.args.expressions.now c.requires.1 c.requires.2)) (to-products c.requires.4 (c.map_lookups-second.ensures c.requires.0 c.requires.1 c.requires.2 c.requires.3 (to-lookups c.requires.4 (c.map_cm1-first.ensures (tabled (Tabling c.args.nodes.now c.requires.0 c.args.expressions.now c.requires.1 c.requires.2)) c.requires.4.holds) (c.mark_intermediates.ensures expression_limit (mark-asks c.requires.4)))))))) c.c_exp_of-c_exp.ensures (c.exp_dim-dim.ensures c.requires.0 c.requires.1 c.requires.2 c.requires.3 (constraint-asks c.requires.4 c.c_exp_of-c_exp.ensures)))))

pub shape_of-cmdims : goal.shape_of-cmdims
shape_of-cmdims c = (c.map_quotients-last.ensures (tabled (Tabling c.args.nodes.now c.requires.0 c.args.expressions.now c.requires.1 c.requires.2)) (to-quotients c.requires.4 (c.map_intermediates-fourth.ensures c.requires.0 c.requires.1 c.requires.2 c.requires.3 (to-intermediates c.requires.4 (c.map_products-third.ensures (tabled (Tabling c.args.nodes.now c.requires.0 c.args.expressions.now c.requires.1 c.requires.2)) (to-products c.requires.4 (c.map_lookups-second.ensures c.requires.0 c.requires.1 c.requires.2 c.requires.3 (to-lookups c.requires.4 (c.map_cm1-first.ensures (tabled (Tabling c.args.nodes.now c.requires.0 c.args.expressions.now c.requires.1 c.requires.2)) c.requires.4.holds) (c.mark_intermediates.ensures expression_limit (mark-asks c.requires.4)))))))) c.c_exp_of-c_exp.ensures (c.exp_dim-dim.ensures c.requires.0 c.requires.1 c.requires.2 c.requires.3 (constraint-asks c.requires.4 c.c_exp_of-c_exp.ensures)))).cm_size ∙ sym c.requires.4.holds.cm_size

pub returns : goal.returns
returns c = λ l k m rank a. all-mapped a (c.map_intermediates-fourth.ensures l k m rank (to-intermediates a (c.map_products-third.ensures (tabled (Tabling c.args.nodes.now l c.args.expressions.now k m)) (to-products a (c.map_lookups-second.ensures l k m rank (to-lookups a (c.map_cm1-first.ensures (tabled (Tabling c.args.nodes.now l c.args.expressions.now k m)) a.holds) (c.mark_intermediates.ensures expression_limit (mark-asks a)))))))) c.c_exp_of-c_exp.ensures (c.exp_dim-dim.ensures l k m rank (constraint-asks a c.c_exp_of-c_exp.ensures)) (c.map_quotients-last.ensures (tabled (Tabling c.args.nodes.now l c.args.expressions.now k m)) (to-quotients a (c.map_intermediates-fourth.ensures l k m rank (to-intermediates a (c.map_products-third.ensures (tabled (Tabling c.args.nodes.now l c.args.expressions.now k m)) (to-products a (c.map_lookups-second.ensures l k m rank (to-lookups a (c.map_cm1-first.ensures (tabled (Tabling c.args.nodes.now l c.args.expressions.now k m)) a.holds) (c.mark_intermediates.ensures expression_limit (mark-asks a)))))))) c.c_exp_of-c_exp.ensures (c.exp_dim-dim.ensures l k m rank (constraint-asks a c.c_exp_of-c_exp.ensures)))) c.add_record.ensures.0 c.add_record.ensures.1 c.add_record-2.ensures.0 c.add_record-2.ensures.1
