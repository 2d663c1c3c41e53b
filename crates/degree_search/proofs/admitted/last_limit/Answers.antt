-- `degree_search::admitted::last_limit` meets its contract. Assumes nothing.
use native.Mathlib.Omega.{arith}
use Rattle.degree_search.proofs.Questions.{last-is, pow_low}
use Rattle.degree_search.proofs.admitted.last_limit.Goals as goal

pub overflow_add-result : goal.overflow_add-result
overflow_add-result c = let e = last-is c.args.more c.requires in let p = pow_low c.args.more c.requires in omega (arith, e, p.1)

pub returns : goal.returns
returns c = last-is c.args.more c.requires
