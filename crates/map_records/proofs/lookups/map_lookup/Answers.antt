-- `map_records::lookups::map_lookup` meets its contract: each need is one lemma of proofs/Pairs.antt. Assumes nothing.
use Prim.Native.Nat.{◌+◌, ◌*◌}
use native.Mathlib.Omega.{arith}
use lib.ListN.{length-set}
use Rattle.plans.specs.Passed.{counts-agree}
use Rattle.map_records.specs.Agreed.{few-cms}
use Rattle.map_records.proofs.Pairs.{f-asks, t-asks, lookup-room, lookup_first, lookup-second, lookup-end}
use Rattle.map_records.proofs.lookups.map_lookup.Goals as goal

pub lookup_dim-d-requires : goal.lookup_dim-d-requires
lookup_dim-d-requires c = (c.requires.1.0, c.requires.1.1, c.requires.1.2, c.requires.1.3, f-asks c.requires.1.4 c.requires.0 c.number_at-f.ensures c.number_at-t.ensures, t-asks c.requires.1.4 c.requires.0 c.number_at-f.ensures c.number_at-t.ensures)

pub add_pair-requires : goal.add_pair-requires
add_pair-requires c = (omega (arith, lookup-room c.requires.1.4 c.requires.0 c.number_at-f.ensures c.number_at-t.ensures (c.lookup_dim-d.ensures c.requires.1.0 c.requires.1.1 c.requires.1.2 c.requires.1.3 (f-asks c.requires.1.4 c.requires.0 c.number_at-f.ensures c.number_at-t.ensures) (t-asks c.requires.1.4 c.requires.0 c.number_at-f.ensures c.number_at-t.ensures))), omega arith)

pub overflow_add-n : goal.overflow_add-n
overflow_add-n c = omega (arith, lookup-room c.requires.1.4 c.requires.0 c.number_at-f.ensures c.number_at-t.ensures (c.lookup_dim-d.ensures c.requires.1.0 c.requires.1.1 c.requires.1.2 c.requires.1.3 (f-asks c.requires.1.4 c.requires.0 c.number_at-f.ensures c.number_at-t.ensures) (t-asks c.requires.1.4 c.requires.0 c.number_at-f.ensures c.number_at-t.ensures)))

pub add_pair-requires-2 : goal.add_pair-requires-2
add_pair-requires-2 c = (omega (arith, lookup-room c.requires.1.4 c.requires.0 c.number_at-f.ensures c.number_at-t.ensures (c.lookup_dim-d.ensures c.requires.1.0 c.requires.1.1 c.requires.1.2 c.requires.1.3 (f-asks c.requires.1.4 c.requires.0 c.number_at-f.ensures c.number_at-t.ensures) (t-asks c.requires.1.4 c.requires.0 c.number_at-f.ensures c.number_at-t.ensures))), omega arith)

pub bounds-cmdims-h : goal.bounds-cmdims-h
bounds-cmdims-h c = omega (arith, c.requires.1.4.state.holds.cm_size, few-cms c.args.plan.now c.requires.1.4.ready.planned, (counts-agree c.args.plan.now c.requires.1.4.ready.planned.agree).second, c.cm1_of.ensures.is, c.requires.0)

pub bounds-cmdims-h-2 : goal.bounds-cmdims-h-2
bounds-cmdims-h-2 c = simp length-set (omega (arith, c.requires.1.4.state.holds.cm_size, few-cms c.args.plan.now c.requires.1.4.ready.planned, (counts-agree c.args.plan.now c.requires.1.4.ready.planned.agree).second, c.cm1_of.ensures.is, c.requires.0))

pub overflow_add-n-2 : goal.overflow_add-n-2
overflow_add-n-2 c = omega (arith, lookup-room c.requires.1.4 c.requires.0 c.number_at-f.ensures c.number_at-t.ensures (c.lookup_dim-d.ensures c.requires.1.0 c.requires.1.1 c.requires.1.2 c.requires.1.3 (f-asks c.requires.1.4 c.requires.0 c.number_at-f.ensures c.number_at-t.ensures) (t-asks c.requires.1.4 c.requires.0 c.number_at-f.ensures c.number_at-t.ensures)))

pub add_column-after-requires : goal.add_column-after-requires
add_column-after-requires c = (_, _, _, lookup_first c.requires.1.4 c.requires.0 c.number_at-f.ensures c.number_at-t.ensures (c.lookup_dim-d.ensures c.requires.1.0 c.requires.1.1 c.requires.1.2 c.requires.1.3 (f-asks c.requires.1.4 c.requires.0 c.number_at-f.ensures c.number_at-t.ensures) (t-asks c.requires.1.4 c.requires.0 c.number_at-f.ensures c.number_at-t.ensures)) c.add_pair.ensures.0 c.add_pair.ensures.1 c.add_pair-2.ensures.0 c.add_pair-2.ensures.1 (c.cm1_of.result + 2 * c.args.i) (omega (arith, c.cm1_of.ensures.is)))

pub add_column-requires : goal.add_column-requires
add_column-requires c = (_, _, _, lookup-second c.requires.1.4 c.requires.0 c.number_at-f.ensures c.number_at-t.ensures (c.lookup_dim-d.ensures c.requires.1.0 c.requires.1.1 c.requires.1.2 c.requires.1.3 (f-asks c.requires.1.4 c.requires.0 c.number_at-f.ensures c.number_at-t.ensures) (t-asks c.requires.1.4 c.requires.0 c.number_at-f.ensures c.number_at-t.ensures)) c.add_pair.ensures.0 c.add_pair.ensures.1 c.add_pair-2.ensures.0 c.add_pair-2.ensures.1 (c.cm1_of.result + 2 * c.args.i) (omega (arith, c.cm1_of.ensures.is)) (c.add_column-after.ensures _ _ _ (lookup_first c.requires.1.4 c.requires.0 c.number_at-f.ensures c.number_at-t.ensures (c.lookup_dim-d.ensures c.requires.1.0 c.requires.1.1 c.requires.1.2 c.requires.1.3 (f-asks c.requires.1.4 c.requires.0 c.number_at-f.ensures c.number_at-t.ensures) (t-asks c.requires.1.4 c.requires.0 c.number_at-f.ensures c.number_at-t.ensures)) c.add_pair.ensures.0 c.add_pair.ensures.1 c.add_pair-2.ensures.0 c.add_pair-2.ensures.1 (c.cm1_of.result + 2 * c.args.i) (omega (arith, c.cm1_of.ensures.is)))))

pub returns : goal.returns
returns c = λ l k m rank a. lookup-end a c.requires.0 c.number_at-f.ensures c.number_at-t.ensures (c.lookup_dim-d.ensures l k m rank (f-asks a c.requires.0 c.number_at-f.ensures c.number_at-t.ensures) (t-asks a c.requires.0 c.number_at-f.ensures c.number_at-t.ensures)) c.add_pair.ensures.0 c.add_pair.ensures.1 c.add_pair-2.ensures.0 c.add_pair-2.ensures.1 (c.cm1_of.result + 2 * c.args.i) (omega (arith, c.cm1_of.ensures.is)) (c.add_column-after.ensures _ _ _ (lookup_first a c.requires.0 c.number_at-f.ensures c.number_at-t.ensures (c.lookup_dim-d.ensures l k m rank (f-asks a c.requires.0 c.number_at-f.ensures c.number_at-t.ensures) (t-asks a c.requires.0 c.number_at-f.ensures c.number_at-t.ensures)) c.add_pair.ensures.0 c.add_pair.ensures.1 c.add_pair-2.ensures.0 c.add_pair-2.ensures.1 (c.cm1_of.result + 2 * c.args.i) (omega (arith, c.cm1_of.ensures.is)))) (c.add_column.ensures _ _ _ (lookup-second a c.requires.0 c.number_at-f.ensures c.number_at-t.ensures (c.lookup_dim-d.ensures l k m rank (f-asks a c.requires.0 c.number_at-f.ensures c.number_at-t.ensures) (t-asks a c.requires.0 c.number_at-f.ensures c.number_at-t.ensures)) c.add_pair.ensures.0 c.add_pair.ensures.1 c.add_pair-2.ensures.0 c.add_pair-2.ensures.1 (c.cm1_of.result + 2 * c.args.i) (omega (arith, c.cm1_of.ensures.is)) (c.add_column-after.ensures _ _ _ (lookup_first a c.requires.0 c.number_at-f.ensures c.number_at-t.ensures (c.lookup_dim-d.ensures l k m rank (f-asks a c.requires.0 c.number_at-f.ensures c.number_at-t.ensures) (t-asks a c.requires.0 c.number_at-f.ensures c.number_at-t.ensures)) c.add_pair.ensures.0 c.add_pair.ensures.1 c.add_pair-2.ensures.0 c.add_pair-2.ensures.1 (c.cm1_of.result + 2 * c.args.i) (omega (arith, c.cm1_of.ensures.is))))))
