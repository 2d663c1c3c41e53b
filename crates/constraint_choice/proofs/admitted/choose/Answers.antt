-- `constraint_choice::admitted::choose` meets its contract: each need is one lemma of proofs/Founds.antt. Assumes nothing.
use Prim.Native.Nat.{◌<◌}
use native.Mathlib.Omega.{arith}
use Rattle.std.proofs.lemmas.Result.{err_from_is_err_and}
use Rattle.constraint_choice.proofs.Founds.{world, unfound, extend_asks, unextended, ready}
use Rattle.constraint_choice.proofs.admitted.choose.Goals as goal

pub search_admitted-requires : goal.search_admitted-requires
search_admitted-requires c = let S = c in (S.args.literals.now, S.requires.acyclic.rank, world S.requires S.args.identities.now S.args.a)

pub extend_chosen-requires : goal.extend_chosen-requires
extend_chosen-requires c = let S = c in extend_asks S.requires S.args.identities.now S.args.a c.search_admitted.ensures c.in_ok-found.was

pub returns-in_err-found : goal.returns-in_err-found
returns-in_err-found c = let S = c in let p = err_from_is_err_and c.from_residual.result c.from_residual.ensures.1 in rw (p.1, p.2) (unfound S.requires S.args.identities.now S.args.a c.search_admitted.ensures c.in_err-found.was)

pub returns-in_err-end : goal.returns-in_err-end
returns-in_err-end c = let S = c in let p = err_from_is_err_and c.from_residual-in_err-end.result c.from_residual-in_err-end.ensures.1 in rw (p.1, p.2) (unextended S.requires S.args.identities.now S.args.a c.search_admitted.ensures c.in_ok-found.was c.extend_chosen.ensures (let z : S.args.a.vc < 65536 = omega (arith, S.well_formed) in z) c.in_err-end.was)

pub returns : goal.returns
returns c = let S = c in ready S.requires S.args.identities.now S.args.a c.search_admitted.ensures c.in_ok-found.was c.extend_chosen.ensures (let z : S.args.a.vc < 65536 = omega (arith, S.well_formed) in z) c.in_ok-end.was
