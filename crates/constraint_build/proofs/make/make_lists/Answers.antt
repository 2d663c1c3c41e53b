-- `constraint_build::make::make_lists` meets its contract: each need is one lemma of proofs/Firsts.antt. Assumes nothing.
use Prim.Native.Nat.{ℕ}
use mathlib.Core.Path.{refl}
use lib.ListN.{length-replicate}
use Rattle.std.proofs.lemmas.Result.{err_from_is_err_and}
use Rattle.codegen.specs.Building.{lists}
use Rattle.constraint_build.specs.Both.{lent}
use Rattle.constraint_build.proofs.Firsts.{asks, fit-asked, second-asks, refused-first, not_made, write-asked, both-made}
use Rattle.constraint_build.proofs.make.make_lists.Goals as goal

pub fit_list-requires : goal.fit_list-requires
fit_list-requires c = let S = c in fit-asked (lent S.args.context.now S.args.list.now (lists S.args.first.now S.args.i.now S.args.last.now)) (lent S.args.context_2ns.now S.args.list_2ns.now (lists S.args.first_2ns.now S.args.i_2ns.now S.args.last_2ns.now)) S.requires (length-replicate {A = ℕ} 1024 0) refl (length-replicate {A = ℕ} 1024 0)

pub make_second-requires : goal.make_second-requires
make_second-requires c = let S = c in second-asks (lent S.args.context.now S.args.list.now (lists S.args.first.now S.args.i.now S.args.last.now)) (lent S.args.context_2ns.now S.args.list_2ns.now (lists S.args.first_2ns.now S.args.i_2ns.now S.args.last_2ns.now)) S.requires

pub write_list-requires : goal.write_list-requires
write_list-requires c = let S = c in write-asked (lent S.args.context.now S.args.list.now (lists S.args.first.now S.args.i.now S.args.last.now)) (lent S.args.context_2ns.now S.args.list_2ns.now (lists S.args.first_2ns.now S.args.i_2ns.now S.args.last_2ns.now)) S.requires S.args.out.now ((c.fit_list.ensures _ S.requires.acyclic (asks (lent S.args.context.now S.args.list.now (lists S.args.first.now S.args.i.now S.args.last.now)) (lent S.args.context_2ns.now S.args.list_2ns.now (lists S.args.first_2ns.now S.args.i_2ns.now S.args.last_2ns.now)) S.requires)).planned _ c.in_ok-fit.was) c.make_second.ensures c.in_ok-made.was

pub returns-in_err-fit : goal.returns-in_err-fit
returns-in_err-fit c = let S = c in let p = err_from_is_err_and c.from_residual.result c.from_residual.ensures.1 in rw (p.1, p.2) (refused-first (lent S.args.context.now S.args.list.now (lists S.args.first.now S.args.i.now S.args.last.now)) (lent S.args.context_2ns.now S.args.list_2ns.now (lists S.args.first_2ns.now S.args.i_2ns.now S.args.last_2ns.now)) S.requires S.args.out.now _ ((c.fit_list.ensures _ S.requires.acyclic (asks (lent S.args.context.now S.args.list.now (lists S.args.first.now S.args.i.now S.args.last.now)) (lent S.args.context_2ns.now S.args.list_2ns.now (lists S.args.first_2ns.now S.args.i_2ns.now S.args.last_2ns.now)) S.requires)).unplanned _ c.in_err-fit.was))

pub returns-in_err-made : goal.returns-in_err-made
returns-in_err-made c = let S = c in let p = err_from_is_err_and c.from_residual-in_err-made.result c.from_residual-in_err-made.ensures.1 in rw (p.1, p.2) (not_made (lent S.args.context.now S.args.list.now (lists S.args.first.now S.args.i.now S.args.last.now)) (lent S.args.context_2ns.now S.args.list_2ns.now (lists S.args.first_2ns.now S.args.i_2ns.now S.args.last_2ns.now)) S.requires S.args.out.now ((c.fit_list.ensures _ S.requires.acyclic (asks (lent S.args.context.now S.args.list.now (lists S.args.first.now S.args.i.now S.args.last.now)) (lent S.args.context_2ns.now S.args.list_2ns.now (lists S.args.first_2ns.now S.args.i_2ns.now S.args.last_2ns.now)) S.requires)).planned _ c.in_ok-fit.was) c.make_second.ensures c.in_err-made.was)

pub returns : goal.returns
returns c = let S = c in both-made (lent S.args.context.now S.args.list.now (lists S.args.first.now S.args.i.now S.args.last.now)) (lent S.args.context_2ns.now S.args.list_2ns.now (lists S.args.first_2ns.now S.args.i_2ns.now S.args.last_2ns.now)) S.requires S.args.out.now ((c.fit_list.ensures _ S.requires.acyclic (asks (lent S.args.context.now S.args.list.now (lists S.args.first.now S.args.i.now S.args.last.now)) (lent S.args.context_2ns.now S.args.list_2ns.now (lists S.args.first_2ns.now S.args.i_2ns.now S.args.last_2ns.now)) S.requires)).planned _ c.in_ok-fit.was) c.make_second.ensures c.in_ok-made.was c.write_list.ensures
