-- `pool::cycle::lead` meets its contract. Assumes nothing.
use native.Mathlib.Omega.{arith}
use Rattle.pool.specs.Entries.{entries_in}
use Rattle.pool.proofs.Spread.{exp-lead, q-lost, q-lead, no_lead}
use Rattle.pool.proofs.cycle.lead.Goals as goal

pub returns-then-kind-eq-EXP : goal.returns-then-kind-eq-EXP
returns-then-kind-eq-EXP c = exp-lead _ (entries_in c.args.table.now) _ c.kind_at-kind.ensures c.if-kind-eq-EXP.true c.id.ensures

pub returns-then-entry_count-q : goal.returns-then-entry_count-q
returns-then-entry_count-q c = q-lost _ (entries_in c.args.table.now) _ c.kind_at-kind.ensures c.if-kind-eq-Q.true c.id-q.ensures (omega (arith, c.if-entry_count-q.true, c.entry_count.ensures))

pub entry_at-requires : goal.entry_at-requires
entry_at-requires c = omega (arith, c.if-entry_count-q.false, c.entry_count.ensures)

pub returns-then-kind-eq-Q : goal.returns-then-kind-eq-Q
returns-then-kind-eq-Q c = q-lead _ (entries_in c.args.table.now) _ c.kind_at-kind.ensures c.if-kind-eq-Q.true c.id-q.ensures (omega (arith, c.if-entry_count-q.false, c.entry_count.ensures)) c.entry_at.ensures

pub returns : goal.returns
returns c = no_lead _ (entries_in c.args.table.now) _ c.kind_at-kind.ensures c.if-kind-eq-EXP.false c.if-kind-eq-Q.false
