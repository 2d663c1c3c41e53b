-- `constraint_frames::entry::constrain_pool` meets its contract: each need is one lemma of proofs/Readings.antt. Assumes nothing.
use Prim.Native.Nat.{◌<◌}
use native.Mathlib.Omega.{arith}
use Rattle.std.proofs.lemmas.Result.{err_from_is_err_and}
use Rattle.constraint_frames.proofs.Readings.{stopped, read-asks, read}
use Rattle.constraint_frames.proofs.entry.constrain_pool.Goals as goal

pub extend_read-requires : goal.extend_read-requires
extend_read-requires c = let S = c in read-asks c.fill.ensures S.args.identities.now S.args.chosen.now S.args.vc (let z : S.args.vc < 65536 = omega (arith, S.well_formed) in z) S.args.c S.args.out.now c.in_ok-k.was

pub returns-in_err-k : goal.returns-in_err-k
returns-in_err-k c = let S = c in let p = err_from_is_err_and c.from_residual.result c.from_residual.ensures.1 in rw (p.1, p.2) (stopped c.fill.ensures S.args.identities.now S.args.chosen.now S.args.vc (let z : S.args.vc < 65536 = omega (arith, S.well_formed) in z) S.args.c S.args.out.now c.in_err-k.was)

pub returns : goal.returns
returns c = let S = c in read c.fill.ensures S.args.identities.now S.args.chosen.now S.args.vc (let z : S.args.vc < 65536 = omega (arith, S.well_formed) in z) S.args.c S.args.out.now c.in_ok-k.was c.extend_read.ensures
