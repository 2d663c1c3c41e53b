-- `constraint_pool::extend::add_constraint` meets its contract: each need is one lemma of proofs/Loops.antt.
-- Assumes nothing.
use native.Mathlib.Omega.{arith}
use mathlib.Core.Path.{refl}
use Rattle.constraint_pool.proofs.Loops.{first-room, first_small, identities-ask, members-ask, end-number, constraint-added}
use Rattle.constraint_pool.proofs.extend.add_constraint.Goals as goal

pub overflow_cast-identities : goal.overflow_cast-identities
overflow_cast-identities c = omega (arith, first_small c.requires)

pub first_identity-others-requires : goal.first_identity-others-requires
first_identity-others-requires c = first-room c.requires

pub add_identities-sums-requires : goal.add_identities-sums-requires
add_identities-sums-requires c = identities-ask c.requires c.first_identity-others.ensures

pub add_members-end-requires : goal.add_members-end-requires
add_members-end-requires c = let P = c in (P.args.n, P.args.m, members-ask P.requires c.first_identity-others.ensures c.add_identities-sums.ensures)

pub preceding-requires : goal.preceding-requires
preceding-requires c = let P = c in end-number P.requires c.first_identity-others.ensures c.add_identities-sums.ensures (c.add_members-end.ensures P.args.n P.args.m (members-ask P.requires c.first_identity-others.ensures c.add_identities-sums.ensures))

pub returns : goal.returns
returns c = let P = c in constraint-added P.requires c.first_identity-others.ensures c.add_identities-sums.ensures (c.add_members-end.ensures P.args.n P.args.m (members-ask P.requires c.first_identity-others.ensures c.add_identities-sums.ensures)) c.preceding.ensures refl c.put_expression.ensures
