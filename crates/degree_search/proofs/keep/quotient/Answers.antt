-- `degree_search::keep::quotient` meets its contract. Assumes nothing.
use Rattle.degree_search.proofs.Keeping.{q-none, q-some}
use Rattle.degree_search.proofs.keep.quotient.Goals as goal

pub returns-then-degree-eq0 : goal.returns-then-degree-eq0
returns-then-degree-eq0 c = q-none c.args.degree c.if-degree-eq0.true

pub returns : goal.returns
returns c = q-some c.args.degree c.if-degree-eq0.false
