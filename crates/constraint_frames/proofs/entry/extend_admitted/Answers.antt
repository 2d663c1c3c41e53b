-- `constraint_frames::entry::extend_admitted` meets its contract: each need is one lemma of proofs/Extending.antt. Assumes nothing.
use Prim.Native.Nat.{◌<◌}
use mathlib.Core.Path.{◌≡◌}
use native.Mathlib.Omega.{arith}
use Rattle.std.specs.Prelude.{Some, None}
use Rattle.kinds.specs.declared.refusal.Refusal.TheVariants.{Full}
use Rattle.std.proofs.lemmas.Result.{err_from_is_err_and}
use Rattle.constraint_frames.proofs.Extending.{no_identity, lost, extend_asks, not-added, pool_asks, numbers_asked, no_room, put}
use Rattle.constraint_frames.proofs.entry.extend_admitted.Goals as goal

pub returns-then-is_empty : goal.returns-then-is_empty
returns-then-is_empty c = let S = c in rw c.into.ensures (no_identity S.requires S.args.identities.now S.args.vc S.args.c S.args.out.now c.is_empty.ensures c.if-is_empty.true)

pub returns-then-not-all_below : goal.returns-then-not-all_below
returns-then-not-all_below c = let S = c in rw c.into-then-not-all_below.ensures (lost S.requires S.args.identities.now S.args.vc S.args.c S.args.out.now c.is_empty.ensures c.if-is_empty.false c.all_below.ensures c.if-not-all_below.true)

pub extend-requires : goal.extend-requires
extend-requires c = let S = c in extend_asks S.requires S.args.identities.now S.args.vc S.args.c S.args.out.now c.is_empty.ensures c.if-is_empty.false c.all_below.ensures c.if-not-all_below.false

pub write_pool-requires : goal.write_pool-requires
write_pool-requires c = let S = c in pool_asks S.requires S.args.identities.now S.args.vc S.args.c S.args.out.now c.is_empty.ensures c.if-is_empty.false c.all_below.ensures c.if-not-all_below.false c.extend.ensures c.in_ok-end.was

pub of-requires : goal.of-requires
of-requires c = let S = c in numbers_asked S.requires S.args.identities.now S.args.vc S.args.c S.args.out.now c.is_empty.ensures c.if-is_empty.false c.all_below.ensures c.if-not-all_below.false c.extend.ensures c.in_ok-end.was

pub returns-in_err-end : goal.returns-in_err-end
returns-in_err-end c = let S = c in let p = err_from_is_err_and c.from_residual.result c.from_residual.ensures.1 in rw (p.1, p.2) (not-added S.requires S.args.identities.now S.args.vc S.args.c S.args.out.now c.is_empty.ensures c.if-is_empty.false c.all_below.ensures c.if-not-all_below.false c.extend.ensures c.in_err-end.was)

pub returns-in_err-size : goal.returns-in_err-size
returns-in_err-size c = let S = c in let p = err_from_is_err_and c.from_residual-in_err-size.result c.from_residual-in_err-size.ensures.1 in let o : c.write_pool.result ≡ None = grind arith in let m : c.in_err-size.field-0.0 ≡ Full = grind arith in rw (p.1, p.2, m) (no_room S.requires S.args.identities.now S.args.vc S.args.c S.args.out.now c.is_empty.ensures c.if-is_empty.false c.all_below.ensures c.if-not-all_below.false c.extend.ensures c.in_ok-end.was (let z : S.args.vc < 65536 = omega (arith, S.well_formed) in z) c.write_pool.ensures o)

pub returns : goal.returns
returns c = let S = c in let o : c.write_pool.result ≡ Some c.in_ok-size.size = grind arith in put S.requires S.args.identities.now S.args.vc S.args.c S.args.out.now c.is_empty.ensures c.if-is_empty.false c.all_below.ensures c.if-not-all_below.false c.extend.ensures c.in_ok-end.was (let z : S.args.vc < 65536 = omega (arith, S.well_formed) in z) c.write_pool.ensures o c.of.ensures
