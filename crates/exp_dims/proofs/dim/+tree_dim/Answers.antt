-- `exp_dims::dim::tree_dim` meets its contract: each need is one lemma of proofs/Trees.antt. The measure is the levels that are left, then the node.
-- Assumes nothing.
use Rattle.exp_dims.proofs.Trees.{room, nowhere-gives, exp-room, some-levels, seen_low, seen-gives, root-asks, root_less, root-gives, asks0, less0, one-gives, asks1, less1, two-gives, asks2, less2, three-gives}
use mathlib.Core.Path.{refl, sym, ap, ◌∙◌}
use native.Mathlib.Omega.{arith}
use Rattle.pool.specs.Shapes.{found_at}
use Rattle.exp_dims.proofs.Trees.{room, nowhere-gives, exp-room, some-levels, seen-gives, root-asks, root_less, root-gives, asks0, less0, one-gives, asks1, less1, two-gives, asks2, less2, three-gives}
use Rattle.exp_dims.proofs.dim.+tree_dim.Goals as goal

pub count_at-count-requires : goal.count_at-count-requires
count_at-count-requires t c = room c.requires.4

pub lead-requires : goal.lead-requires
lead-requires t c = room c.requires.4

pub leaf_dim-requires : goal.leaf_dim-requires
leaf_dim-requires t c = room c.requires.4

pub returns-in_default : goal.returns-in_default
returns-in_default t c = λ l n m rank a. nowhere-gives a c.count_at-count.ensures c.if-count-eq0.true (ap found_at (sym c.in_default.is) ∙ c.lead.ensures) c.leaf_dim.ensures

pub bounds-known-e : goal.bounds-known-e
bounds-known-e t c = exp-room c.requires.4 c.count_at-count.ensures c.if-count-eq0.true (ap found_at (sym c.in-Some.is) ∙ c.lead.ensures)

pub overflow_cast-result : goal.overflow_cast-result
overflow_cast-result t c = omega (arith, seen_low c.requires.4 c.count_at-count.ensures c.if-count-eq0.true (ap found_at (sym c.in-Some.is) ∙ c.lead.ensures) refl c.if-seen.true)

pub returns-then-seen : goal.returns-then-seen
returns-then-seen t c = λ l n m rank a. seen-gives a c.count_at-count.ensures c.if-count-eq0.true (ap found_at (sym c.in-Some.is) ∙ c.lead.ensures) refl c.if-seen.true

pub root-top-requires : goal.root-top-requires
root-top-requires t c = exp-room c.requires.4 c.count_at-count.ensures c.if-count-eq0.true (ap found_at (sym c.in-Some.is) ∙ c.lead.ensures)

pub overflow_sub-levels : goal.overflow_sub-levels
overflow_sub-levels t c = some-levels c.requires.4 c.count_at-count.ensures c.if-count-eq0.true (ap found_at (sym c.in-Some.is) ∙ c.lead.ensures)

pub tree_dim-d-requires : goal.tree_dim-d-requires
tree_dim-d-requires t c = let a = c.requires.4 in let h = ap found_at (sym c.in-Some.is) ∙ c.lead.ensures in (omega (arith, root_less a c.count_at-count.ensures c.if-count-eq0.true h c.root-top.ensures), (c.requires.0, c.requires.1, c.requires.2, c.requires.3, root-asks a c.count_at-count.ensures c.if-count-eq0.true h c.root-top.ensures))

pub kept-requires : goal.kept-requires
kept-requires t c = tt

pub bounds-known-e-then-count-eq0 : goal.bounds-known-e-then-count-eq0
bounds-known-e-then-count-eq0 t c = exp-room c.requires.4 c.count_at-count.ensures c.if-count-eq0.true (ap found_at (sym c.in-Some.is) ∙ c.lead.ensures)

pub returns-then-count-eq0 : goal.returns-then-count-eq0
returns-then-count-eq0 t c = λ l n m rank a. root-gives a c.count_at-count.ensures c.if-count-eq0.true (ap found_at (sym c.in-Some.is) ∙ c.lead.ensures) c.root-top.ensures c.kept.ensures (c.tree_dim-d.ensures l n m rank (root-asks a c.count_at-count.ensures c.if-count-eq0.true (ap found_at (sym c.in-Some.is) ∙ c.lead.ensures) c.root-top.ensures))

pub child-c0-requires : goal.child-c0-requires
child-c0-requires t c = room c.requires.4

pub tree_dim-a-requires : goal.tree_dim-a-requires
tree_dim-a-requires t c = let a = c.requires.4 in (omega (arith, less0 a c.count_at-count.ensures c.if-count-eq0.false c.child-c0.ensures), (c.requires.0, c.requires.1, c.requires.2, c.requires.3, asks0 a c.count_at-count.ensures c.if-count-eq0.false c.child-c0.ensures))

pub returns-then-count-eq1 : goal.returns-then-count-eq1
returns-then-count-eq1 t c = λ l n m rank a. one-gives a c.count_at-count.ensures c.if-count-eq0.false c.child-c0.ensures (c.tree_dim-a.ensures l n m rank (asks0 a c.count_at-count.ensures c.if-count-eq0.false c.child-c0.ensures)) c.max-first.ensures c.if-count-eq1.true

pub child-c1-requires : goal.child-c1-requires
child-c1-requires t c = room c.requires.4

pub tree_dim-b-requires : goal.tree_dim-b-requires
tree_dim-b-requires t c = let a = c.requires.4 in (omega (arith, less1 a c.count_at-count.ensures c.if-count-eq0.false c.child-c0.ensures (c.tree_dim-a.ensures c.requires.0 c.requires.1 c.requires.2 c.requires.3 (asks0 a c.count_at-count.ensures c.if-count-eq0.false c.child-c0.ensures)) c.max-first.ensures c.if-count-eq1.false c.child-c1.ensures), (c.requires.0, c.requires.1, c.requires.2, c.requires.3, asks1 a c.count_at-count.ensures c.if-count-eq0.false c.child-c0.ensures (c.tree_dim-a.ensures c.requires.0 c.requires.1 c.requires.2 c.requires.3 (asks0 a c.count_at-count.ensures c.if-count-eq0.false c.child-c0.ensures)) c.max-first.ensures c.if-count-eq1.false c.child-c1.ensures))

pub returns-then-count-eq2 : goal.returns-then-count-eq2
returns-then-count-eq2 t c = λ l n m rank a. two-gives a c.count_at-count.ensures c.if-count-eq0.false c.child-c0.ensures (c.tree_dim-a.ensures l n m rank (asks0 a c.count_at-count.ensures c.if-count-eq0.false c.child-c0.ensures)) c.max-first.ensures c.if-count-eq1.false c.child-c1.ensures (c.tree_dim-b.ensures l n m rank (asks1 a c.count_at-count.ensures c.if-count-eq0.false c.child-c0.ensures (c.tree_dim-a.ensures l n m rank (asks0 a c.count_at-count.ensures c.if-count-eq0.false c.child-c0.ensures)) c.max-first.ensures c.if-count-eq1.false c.child-c1.ensures)) c.max-second.ensures c.if-count-eq2.true

pub child-c2-requires : goal.child-c2-requires
child-c2-requires t c = room c.requires.4

pub tree_dim-c-requires : goal.tree_dim-c-requires
tree_dim-c-requires t c = let a = c.requires.4 in (omega (arith, less2 a c.count_at-count.ensures c.if-count-eq0.false c.child-c0.ensures (c.tree_dim-a.ensures c.requires.0 c.requires.1 c.requires.2 c.requires.3 (asks0 a c.count_at-count.ensures c.if-count-eq0.false c.child-c0.ensures)) c.max-first.ensures c.if-count-eq1.false c.child-c1.ensures (c.tree_dim-b.ensures c.requires.0 c.requires.1 c.requires.2 c.requires.3 (asks1 a c.count_at-count.ensures c.if-count-eq0.false c.child-c0.ensures (c.tree_dim-a.ensures c.requires.0 c.requires.1 c.requires.2 c.requires.3 (asks0 a c.count_at-count.ensures c.if-count-eq0.false c.child-c0.ensures)) c.max-first.ensures c.if-count-eq1.false c.child-c1.ensures)) c.max-second.ensures c.if-count-eq2.false c.child-c2.ensures), (c.requires.0, c.requires.1, c.requires.2, c.requires.3, asks2 a c.count_at-count.ensures c.if-count-eq0.false c.child-c0.ensures (c.tree_dim-a.ensures c.requires.0 c.requires.1 c.requires.2 c.requires.3 (asks0 a c.count_at-count.ensures c.if-count-eq0.false c.child-c0.ensures)) c.max-first.ensures c.if-count-eq1.false c.child-c1.ensures (c.tree_dim-b.ensures c.requires.0 c.requires.1 c.requires.2 c.requires.3 (asks1 a c.count_at-count.ensures c.if-count-eq0.false c.child-c0.ensures (c.tree_dim-a.ensures c.requires.0 c.requires.1 c.requires.2 c.requires.3 (asks0 a c.count_at-count.ensures c.if-count-eq0.false c.child-c0.ensures)) c.max-first.ensures c.if-count-eq1.false c.child-c1.ensures)) c.max-second.ensures c.if-count-eq2.false c.child-c2.ensures))

pub returns : goal.returns
returns t c = λ l n m rank a. three-gives a c.count_at-count.ensures c.if-count-eq0.false c.child-c0.ensures (c.tree_dim-a.ensures l n m rank (asks0 a c.count_at-count.ensures c.if-count-eq0.false c.child-c0.ensures)) c.max-first.ensures c.if-count-eq1.false c.child-c1.ensures (c.tree_dim-b.ensures l n m rank (asks1 a c.count_at-count.ensures c.if-count-eq0.false c.child-c0.ensures (c.tree_dim-a.ensures l n m rank (asks0 a c.count_at-count.ensures c.if-count-eq0.false c.child-c0.ensures)) c.max-first.ensures c.if-count-eq1.false c.child-c1.ensures)) c.max-second.ensures c.if-count-eq2.false c.child-c2.ensures (c.tree_dim-c.ensures l n m rank (asks2 a c.count_at-count.ensures c.if-count-eq0.false c.child-c0.ensures (c.tree_dim-a.ensures l n m rank (asks0 a c.count_at-count.ensures c.if-count-eq0.false c.child-c0.ensures)) c.max-first.ensures c.if-count-eq1.false c.child-c1.ensures (c.tree_dim-b.ensures l n m rank (asks1 a c.count_at-count.ensures c.if-count-eq0.false c.child-c0.ensures (c.tree_dim-a.ensures l n m rank (asks0 a c.count_at-count.ensures c.if-count-eq0.false c.child-c0.ensures)) c.max-first.ensures c.if-count-eq1.false c.child-c1.ensures)) c.max-second.ensures c.if-count-eq2.false c.child-c2.ensures)) c.max.ensures
