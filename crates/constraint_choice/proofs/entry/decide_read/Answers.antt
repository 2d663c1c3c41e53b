-- `constraint_choice::entry::decide_read` meets its contract: each need is one lemma of proofs/Judges.antt. Assumes nothing.
use mathlib.Core.Path.{refl}
use Rattle.std.proofs.lemmas.Result.{err_from_is_err_and}
use Rattle.constraint_choice.specs.Choosing.{asked_by, contexts}
use Rattle.constraint_choice.proofs.Judges.{bad-first, bad-second, judged, refused-pool, admitted-asks, admitted}
use Rattle.constraint_choice.proofs.entry.decide_read.Goals.{then-not-is_good-via-then-not-is_good, then-not-is_good-via-else-not-is_good+then-not-is_good-2}
use Rattle.constraint_choice.proofs.entry.decide_read.Goals as goal

pub returns-then-not-is_good : goal.returns-then-not-is_good
returns-then-not-is_good c = let S = c in elim c.then-not-is_good.branch [ then-not-is_good-via-then-not-is_good w ↦ rw c.into.ensures (bad-first S.requires (asked_by S.args.identities.now S.args.a) (contexts S.args.context.now S.args.bytes S.args.context_2ns.now S.args.bytes_2ns) c.is_good.ensures w.if-not-is_good.true) | then-not-is_good-via-else-not-is_good+then-not-is_good-2 w ↦ rw c.into.ensures (bad-second S.requires (asked_by S.args.identities.now S.args.a) (contexts S.args.context.now S.args.bytes S.args.context_2ns.now S.args.bytes_2ns) c.is_good.ensures w.if-not-is_good.false w.is_good-else-not-is_good.ensures w.if-not-is_good-2.true) ]

pub choose-requires : goal.choose-requires
choose-requires c = let S = c in admitted-asks S.requires (asked_by S.args.identities.now S.args.a) (contexts S.args.context.now S.args.bytes S.args.context_2ns.now S.args.bytes_2ns) c.is_good.ensures c.if-not-is_good.false c.is_good-else-not-is_good.ensures c.if-not-is_good-2.false (judged S.requires (asked_by S.args.identities.now S.args.a) (contexts S.args.context.now S.args.bytes S.args.context_2ns.now S.args.bytes_2ns) c.is_good.ensures c.if-not-is_good.false c.is_good-else-not-is_good.ensures c.if-not-is_good-2.false (c.admit.ensures _) refl c.in_ok-admit.was)

pub returns-in_err-admit : goal.returns-in_err-admit
returns-in_err-admit c = let S = c in let p = err_from_is_err_and c.from_residual.result c.from_residual.ensures.1 in rw (p.1, p.2) (refused-pool S.requires (asked_by S.args.identities.now S.args.a) (contexts S.args.context.now S.args.bytes S.args.context_2ns.now S.args.bytes_2ns) c.is_good.ensures c.if-not-is_good.false c.is_good-else-not-is_good.ensures c.if-not-is_good-2.false _ (judged S.requires (asked_by S.args.identities.now S.args.a) (contexts S.args.context.now S.args.bytes S.args.context_2ns.now S.args.bytes_2ns) c.is_good.ensures c.if-not-is_good.false c.is_good-else-not-is_good.ensures c.if-not-is_good-2.false (c.admit.ensures _) refl c.in_err-admit.was))

pub returns : goal.returns
returns c = let S = c in (_, admitted S.requires (asked_by S.args.identities.now S.args.a) (contexts S.args.context.now S.args.bytes S.args.context_2ns.now S.args.bytes_2ns) c.is_good.ensures c.if-not-is_good.false c.is_good-else-not-is_good.ensures c.if-not-is_good-2.false (judged S.requires (asked_by S.args.identities.now S.args.a) (contexts S.args.context.now S.args.bytes S.args.context_2ns.now S.args.bytes_2ns) c.is_good.ensures c.if-not-is_good.false c.is_good-else-not-is_good.ensures c.if-not-is_good-2.false (c.admit.ensures _) refl c.in_ok-admit.was), c.choose.ensures)
