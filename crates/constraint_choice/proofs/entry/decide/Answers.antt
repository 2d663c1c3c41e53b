-- `constraint_choice::entry::decide` meets its contract: each need is one lemma of proofs/Judges.antt. Assumes nothing.
use Prim.Native.Nat.{◌<◌}
use native.Mathlib.Omega.{arith}
use Rattle.std.proofs.lemmas.Result.{err_from_is_err_and}
use Rattle.constraint_choice.specs.Choosing.{asked_by, contexts}
use Rattle.constraint_choice.proofs.Judges.{unread-told, read-asks, read}
use Rattle.constraint_choice.proofs.entry.decide.Goals as goal

pub decide_read-requires : goal.decide_read-requires
decide_read-requires c = let S = c in read-asks c.fill.ensures (asked_by S.args.identities.now S.args.a) (let z : S.args.a.vc < 65536 = omega (arith, S.well_formed) in z) (contexts S.args.context.now S.args.bytes S.args.context_2ns.now S.args.bytes_2ns) c.in_ok-k.was

pub returns-in_err-k : goal.returns-in_err-k
returns-in_err-k c = let S = c in let p = err_from_is_err_and c.from_residual.result c.from_residual.ensures.1 in rw (p.1, p.2) (unread-told c.fill.ensures (asked_by S.args.identities.now S.args.a) (let z : S.args.a.vc < 65536 = omega (arith, S.well_formed) in z) (contexts S.args.context.now S.args.bytes S.args.context_2ns.now S.args.bytes_2ns) c.in_err-k.was _)

pub returns : goal.returns
returns c = let S = c in read c.fill.ensures (asked_by S.args.identities.now S.args.a) (let z : S.args.a.vc < 65536 = omega (arith, S.well_formed) in z) (contexts S.args.context.now S.args.bytes S.args.context_2ns.now S.args.bytes_2ns) c.in_ok-k.was _ _ c.decide_read.ensures
