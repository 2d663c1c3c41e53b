-- `constraint_build::second::make_second` meets its contract: each need is one lemma of proofs/Seconds.antt. Assumes nothing.
use Prim.Native.Nat.{ℕ}
use mathlib.Core.Path.{◌≡◌, refl, sym, ◌∙◌}
use native.Mathlib.Omega.{arith}
use lib.ListN.{length-replicate}
use Rattle.std.specs.Prelude.{Some, None}
use Rattle.std.proofs.lemmas.Result.{err_from_is_err_and}
use Rattle.kinds.specs.declared.refusal.Refusal.TheVariants.{Full}
use Rattle.codegen.specs.Building.{lists}
use Rattle.constraint_build.specs.Both.{lent}
use Rattle.constraint_build.proofs.Fits.{room_or}
use Rattle.constraint_build.proofs.Seconds.{asks, fit-asked, refused-second, lists-full, write-asked, frames-full, all-written}
use Rattle.constraint_build.proofs.second.make_second.Goals as goal

pub fit_list-requires : goal.fit_list-requires
fit_list-requires c = let S = c in fit-asked (lent S.args.context.now S.args.list.now (lists S.args.first.now S.args.i.now S.args.last.now)) S.requires (length-replicate {A = ℕ} 1024 0) refl (length-replicate {A = ℕ} 1024 0)

pub write_list-requires : goal.write_list-requires
write_list-requires c = let S = c in let W = room_or S.args.one in let o : c.join.result ≡ Some c.in_ok-sizes.sizes = grind arith in write-asked (lent S.args.context.now S.args.list.now (lists S.args.first.now S.args.i.now S.args.last.now)) S.requires S.args.out.now S.args.one W.0 W.1 W.2 ((c.fit_list.ensures _ S.requires.acyclic (asks (lent S.args.context.now S.args.list.now (lists S.args.first.now S.args.i.now S.args.last.now)) S.requires)).planned _ c.in_ok-fit.was) (sym c.join.ensures ∙ o)

pub returns-in_err-fit : goal.returns-in_err-fit
returns-in_err-fit c = let S = c in λ fits z o. let p = err_from_is_err_and c.from_residual.result c.from_residual.ensures.1 in rw (p.1, p.2) (refused-second (lent S.args.context.now S.args.list.now (lists S.args.first.now S.args.i.now S.args.last.now)) S.requires S.args.out.now S.args.one fits z o _ ((c.fit_list.ensures _ S.requires.acyclic (asks (lent S.args.context.now S.args.list.now (lists S.args.first.now S.args.i.now S.args.last.now)) S.requires)).unplanned _ c.in_err-fit.was))

pub returns-in_err-sizes : goal.returns-in_err-sizes
returns-in_err-sizes c = let S = c in λ fits z o. let p = err_from_is_err_and c.from_residual-in_err-sizes.result c.from_residual-in_err-sizes.ensures.1 in let n : c.join.result ≡ None = grind arith in let f : c.in_err-sizes.field-0.0 ≡ Full = grind arith in rw (p.1, p.2, f) (lists-full (lent S.args.context.now S.args.list.now (lists S.args.first.now S.args.i.now S.args.last.now)) S.requires S.args.out.now S.args.one fits z o ((c.fit_list.ensures _ S.requires.acyclic (asks (lent S.args.context.now S.args.list.now (lists S.args.first.now S.args.i.now S.args.last.now)) S.requires)).planned _ c.in_ok-fit.was) (sym c.join.ensures ∙ n))

pub returns-in_err-bytes : goal.returns-in_err-bytes
returns-in_err-bytes c = let S = c in λ fits z o. let p = err_from_is_err_and c.from_residual-in_err-bytes.result c.from_residual-in_err-bytes.ensures.1 in let y : c.join.result ≡ Some c.in_ok-sizes.sizes = grind arith in let n : c.write_pool.result ≡ None = grind arith in let f : c.in_err-bytes.field-0.0 ≡ Full = grind arith in rw (p.1, p.2, f) (frames-full (lent S.args.context.now S.args.list.now (lists S.args.first.now S.args.i.now S.args.last.now)) S.requires S.args.out.now S.args.one fits z o ((c.fit_list.ensures _ S.requires.acyclic (asks (lent S.args.context.now S.args.list.now (lists S.args.first.now S.args.i.now S.args.last.now)) S.requires)).planned _ c.in_ok-fit.was) (sym c.join.ensures ∙ y) c.write_pool.ensures n)

pub returns : goal.returns
returns c = let S = c in λ fits z o. let y : c.join.result ≡ Some c.in_ok-sizes.sizes = grind arith in let n : c.write_pool.result ≡ Some c.in_ok-bytes.bytes = grind arith in all-written (lent S.args.context.now S.args.list.now (lists S.args.first.now S.args.i.now S.args.last.now)) S.requires S.args.out.now S.args.one fits z o ((c.fit_list.ensures _ S.requires.acyclic (asks (lent S.args.context.now S.args.list.now (lists S.args.first.now S.args.i.now S.args.last.now)) S.requires)).planned _ c.in_ok-fit.was) (sym c.join.ensures ∙ y) c.write_pool.ensures n c.write_list.ensures
