-- `degree_search::keep::lighter` meets its contract. Assumes nothing.
use mathlib.Core.Path.{refl}
use native.Mathlib.Omega.{arith}
use Rattle.degree_search.proofs.Keeping.{lighter_far, lighter_near, heavier_far, heavier_near}
use Rattle.degree_search.proofs.keep.lighter.Goals as goal

pub returns-then-more-gt-SIZE_LIMIT : goal.returns-then-more-gt-SIZE_LIMIT
returns-then-more-gt-SIZE_LIMIT c = lighter_far c.args.size c.args.q c.args.other c.args.other_q c.requires.0 c.requires.1 c.if-q-other_q.true refl c.if-more-gt-SIZE_LIMIT.true

pub overflow_add-result : goal.overflow_add-result
overflow_add-result c = omega (arith, c.requires.1, c.if-more-gt-SIZE_LIMIT.false)

pub returns-then-q-other_q : goal.returns-then-q-other_q
returns-then-q-other_q c = lighter_near c.args.size c.args.q c.args.other c.args.other_q c.requires.0 c.requires.1 c.if-q-other_q.true refl

pub returns-then-more-gt-SIZE_LIMIT-2 : goal.returns-then-more-gt-SIZE_LIMIT-2
returns-then-more-gt-SIZE_LIMIT-2 c = heavier_far c.args.size c.args.q c.args.other c.args.other_q c.requires.0 c.requires.1 c.if-q-other_q.false refl c.if-more-gt-SIZE_LIMIT-2.true

pub overflow_add-result-2 : goal.overflow_add-result-2
overflow_add-result-2 c = omega (arith, c.requires.0, c.if-more-gt-SIZE_LIMIT-2.false)

pub returns : goal.returns
returns c = heavier_near c.args.size c.args.q c.args.other c.args.other_q c.requires.0 c.requires.1 c.if-q-other_q.false refl
