-- `constraint_frames::entry::extend_read` meets its contract: each need is one lemma of proofs/Readings.antt. Assumes nothing.
use Prim.Native.Nat.{ℕ}
use mathlib.Core.Path.{refl}
use lib.ListN.{length-replicate}
use Rattle.std.specs.Prelude.{Err}
use Rattle.std.proofs.lemmas.Result.{err_from_is_err_and}
use Rattle.constraint_frames.proofs.Listings.{listed_front, listed_room, listed_count}
use Rattle.constraint_frames.proofs.Readings.{admit-fits, bad-set, refused-pool, judged, admitted-asks, admitted-pool}
use Rattle.constraint_frames.proofs.entry.extend_read.Goals as goal

pub slice_bounds-members-end : goal.slice_bounds-members-end
slice_bounds-members-end c = listed_room c.list_members-count.ensures (length-replicate {A = ℕ} 512 0)

pub slice_bounds-is_good-end : goal.slice_bounds-is_good-end
slice_bounds-is_good-end c = listed_count c.list_members-count.ensures (length-replicate {A = ℕ} 512 0)

pub is_good-requires : goal.is_good-requires
is_good-requires c = listed_front c.list_members-count.ensures (length-replicate {A = ℕ} 512 0)

pub returns-then-not-is_good : goal.returns-then-not-is_good
returns-then-not-is_good c = let S = c in rw c.into.ensures (bad-set S.requires S.args.identities.now S.args.chosen.now S.args.vc S.args.c S.args.out.now c.is_good.ensures c.if-not-is_good.true)

pub admit-requires : goal.admit-requires
admit-requires c = let S = c in admit-fits S.requires S.args.identities.now S.args.chosen.now S.args.vc S.args.c S.args.out.now

pub slice_bounds-members-end-2 : goal.slice_bounds-members-end-2
slice_bounds-members-end-2 c = listed_room c.list_members-count.ensures (length-replicate {A = ℕ} 512 0)

pub slice_bounds-extend_admitted-end : goal.slice_bounds-extend_admitted-end
slice_bounds-extend_admitted-end c = listed_count c.list_members-count.ensures (length-replicate {A = ℕ} 512 0)

pub extend_admitted-requires : goal.extend_admitted-requires
extend_admitted-requires c = let S = c in admitted-asks S.requires S.args.identities.now S.args.chosen.now S.args.vc S.args.c S.args.out.now c.is_good.ensures c.if-not-is_good.false (judged S.requires S.args.identities.now S.args.chosen.now S.args.vc S.args.c S.args.out.now c.is_good.ensures c.if-not-is_good.false (c.admit.ensures _) refl c.in_ok-admit.was) (listed_front c.list_members-count.ensures (length-replicate {A = ℕ} 512 0))

pub returns-in_err-admit : goal.returns-in_err-admit
returns-in_err-admit c = let S = c in let p = err_from_is_err_and c.from_residual.result c.from_residual.ensures.1 in rw (p.1, p.2) (refused-pool S.requires S.args.identities.now S.args.chosen.now S.args.vc S.args.c S.args.out.now c.is_good.ensures c.if-not-is_good.false (judged S.requires S.args.identities.now S.args.chosen.now S.args.vc S.args.c S.args.out.now c.is_good.ensures c.if-not-is_good.false (c.admit.ensures _) refl c.in_err-admit.was) (Err _) refl)

pub returns : goal.returns
returns c = let S = c in admitted-pool S.requires S.args.identities.now S.args.chosen.now S.args.vc S.args.c S.args.out.now c.is_good.ensures c.if-not-is_good.false (judged S.requires S.args.identities.now S.args.chosen.now S.args.vc S.args.c S.args.out.now c.is_good.ensures c.if-not-is_good.false (c.admit.ensures _) refl c.in_ok-admit.was) (listed_front c.list_members-count.ensures (length-replicate {A = ℕ} 512 0)) c.extend_admitted.ensures
