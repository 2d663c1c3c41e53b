-- `pool::admit::shape_of` meets its contract. Assumes nothing.
use mathlib.Core.Path.{refl, sym, ◌∙◌}
use Rattle.std.proofs.lemmas.Result.{err_from_is_err_and}
use Rattle.meaning.specs.Refusals.{Refusal}
use Rattle.pool.proofs.Shapes.{passed, stopped, some-found, none-at, shape-wrong, shape-late, shape_twice, shape-lost, shape-root, shape-fine}
use Rattle.pool.proofs.admit.shape_of.Goals as goal

pub returns-in_err-unless : goal.returns-in_err-unless
returns-in_err-unless c = let p = err_from_is_err_and c.from_residual.result c.from_residual.ensures.1 in λ l. rw (p.1, p.2) (shape-wrong _ (stopped Refusal.child_count c.unless.ensures c.first_wrong_count.ensures c.in_err-unless.was))

pub returns-in_err-unless-2 : goal.returns-in_err-unless-2
returns-in_err-unless-2 c = let p = err_from_is_err_and c.from_residual-in_err-unless-2.result c.from_residual-in_err-unless-2.ensures.1 in λ l. rw (p.1, p.2) (shape-late _ (passed Refusal.child_count c.unless.ensures c.first_wrong_count.ensures c.in_ok-unless.was) (stopped Refusal.not_there c.unless-2.ensures c.first_late_child.ensures c.in_err-unless-2.was))

pub returns-in_err-unless-3 : goal.returns-in_err-unless-3
returns-in_err-unless-3 c = let p = err_from_is_err_and c.from_residual-in_err-unless-3.result c.from_residual-in_err-unless-3.ensures.1 in λ l. rw (p.1, p.2) (shape_twice _ refl c.tally_nodes.ensures c.tally_roots.ensures c.requires.0 (passed Refusal.child_count c.unless.ensures c.first_wrong_count.ensures c.in_ok-unless.was) (passed Refusal.not_there c.unless-2.ensures c.first_late_child.ensures c.in_ok-unless-2.was) (stopped Refusal.not_there c.unless-3.ensures c.first_used_twice.ensures c.in_err-unless-3.was))

pub returns-in_err-unless-4 : goal.returns-in_err-unless-4
returns-in_err-unless-4 c = let p = err_from_is_err_and c.from_residual-in_err-unless-4.result c.from_residual-in_err-unless-4.ensures.1 in λ l. rw (p.1, p.2) (shape-lost _ refl c.tally_nodes.ensures c.tally_roots.ensures c.requires.0 (passed Refusal.child_count c.unless.ensures c.first_wrong_count.ensures c.in_ok-unless.was) (passed Refusal.not_there c.unless-2.ensures c.first_late_child.ensures c.in_ok-unless-2.was) (passed Refusal.not_there c.unless-3.ensures c.first_used_twice.ensures c.in_ok-unless-3.was) (stopped Refusal.not_there c.unless-4.ensures c.first_lost_leaf.ensures c.in_err-unless-4.was))

pub returns-then-is_some : goal.returns-then-is_some
returns-then-is_some c = λ l. rw c.into.ensures (shape-root _ refl c.tally_nodes.ensures c.tally_roots.ensures c.requires.0 (passed Refusal.child_count c.unless.ensures c.first_wrong_count.ensures c.in_ok-unless.was) (passed Refusal.not_there c.unless-2.ensures c.first_late_child.ensures c.in_ok-unless-2.was) (passed Refusal.not_there c.unless-3.ensures c.first_used_twice.ensures c.in_ok-unless-3.was) (passed Refusal.not_there c.unless-4.ensures c.first_lost_leaf.ensures c.in_ok-unless-4.was) (some-found _ c.first_lost_root.ensures (sym c.is_some.ensures ∙ c.if-is_some.true)).1)

pub returns : goal.returns
returns c = λ l. shape-fine _ refl c.tally_nodes.ensures c.tally_roots.ensures c.requires.0 (passed Refusal.child_count c.unless.ensures c.first_wrong_count.ensures c.in_ok-unless.was) (passed Refusal.not_there c.unless-2.ensures c.first_late_child.ensures c.in_ok-unless-2.was) (passed Refusal.not_there c.unless-3.ensures c.first_used_twice.ensures c.in_ok-unless-3.was) (passed Refusal.not_there c.unless-4.ensures c.first_lost_leaf.ensures c.in_ok-unless-4.was) (none-at _ c.first_lost_root.ensures (sym c.is_some.ensures ∙ c.if-is_some.false))
