-- `plan_walks::walk::is_segment` meets its contract (proofs/Entries.antt). Assumes nothing.
use Rattle.plan_walks.proofs.Entries.{no_domain, no-counter, by-lists}
use Rattle.plan_walks.proofs.walk.is_segment.Goals as goal

pub returns-then-domain-gt-DOMAIN_2NS : goal.returns-then-domain-gt-DOMAIN_2NS
returns-then-domain-gt-DOMAIN_2NS c = no_domain _ c.args.counter c.args.first.now c.args.i.now c.args.last.now c.if-domain-gt-DOMAIN_2NS.true

pub returns-then-counter-gt-LAST_COUNTER : goal.returns-then-counter-gt-LAST_COUNTER
returns-then-counter-gt-LAST_COUNTER c = no-counter _ _ c.args.first.now c.args.i.now c.args.last.now c.if-domain-gt-DOMAIN_2NS.false c.if-counter-gt-LAST_COUNTER.true

pub returns : goal.returns
returns c = by-lists _ _ c.args.first.now c.args.i.now c.args.last.now c.if-domain-gt-DOMAIN_2NS.false c.if-counter-gt-LAST_COUNTER.false c.good_lists.ensures
