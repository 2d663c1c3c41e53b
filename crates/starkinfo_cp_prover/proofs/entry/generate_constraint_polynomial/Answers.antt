-- `starkinfo_cp_prover::entry::generate_constraint_polynomial` meets its contract: each need is one lemma of proofs/Entries.antt. Assumes nothing.
use Prim.Native.Nat.{ℕ}
use native.Mathlib.Omega.{arith}
use lib.ListN.{length-replicate}
use Rattle.std.proofs.lemmas.Result.{err_from_is_err_and}
use Rattle.codegen.specs.Building.{lists}
use Rattle.constraint_build.specs.Both.{lent}
use Rattle.constraint_frames.proofs.Listings.{listed_front, listed_room, listed_count}
use Rattle.starkinfo_cp_prover.proofs.Entries.{not_chosen, lists-ask, not-listed, all_told}
use Rattle.starkinfo_cp_prover.proofs.entry.generate_constraint_polynomial.Goals as goal

pub slice_bounds-members-end : goal.slice_bounds-members-end
slice_bounds-members-end c = listed_room c.list_members-count.ensures (length-replicate {A = ℕ} 512 0)

pub slice_bounds-make_lists-end : goal.slice_bounds-make_lists-end
slice_bounds-make_lists-end c = listed_count c.list_members-count.ensures (length-replicate {A = ℕ} 512 0)

pub make_lists-requires : goal.make_lists-requires
make_lists-requires c = let S = c in lists-ask (lent S.args.context.now S.args.list.now (lists S.args.first.now S.args.i.now S.args.last.now)) (lent S.args.context_2ns.now S.args.list_2ns.now (lists S.args.first_2ns.now S.args.i_2ns.now S.args.last_2ns.now)) c.decide.ensures S.args.out.now S.args.chosen.now c.in_ok-found.was _ (listed_front c.list_members-count.ensures (length-replicate {A = ℕ} 512 0)) (let y = (listed_count c.list_members-count.ensures (length-replicate {A = ℕ} 512 0)) in omega (arith, y, c.list_members-count.ensures.few))

pub returns-in_err-found : goal.returns-in_err-found
returns-in_err-found c = let S = c in let p = err_from_is_err_and c.from_residual.result c.from_residual.ensures.1 in rw (p.1, p.2) (not_chosen (lent S.args.context.now S.args.list.now (lists S.args.first.now S.args.i.now S.args.last.now)) (lent S.args.context_2ns.now S.args.list_2ns.now (lists S.args.first_2ns.now S.args.i_2ns.now S.args.last_2ns.now)) c.decide.ensures S.args.out.now S.args.chosen.now c.in_err-found.was)

pub returns-in_err-made : goal.returns-in_err-made
returns-in_err-made c = let S = c in let p = err_from_is_err_and c.from_residual-in_err-made.result c.from_residual-in_err-made.ensures.1 in rw (p.1, p.2) (not-listed (lent S.args.context.now S.args.list.now (lists S.args.first.now S.args.i.now S.args.last.now)) (lent S.args.context_2ns.now S.args.list_2ns.now (lists S.args.first_2ns.now S.args.i_2ns.now S.args.last_2ns.now)) c.decide.ensures S.args.out.now S.args.chosen.now c.in_ok-found.was (listed_front c.list_members-count.ensures (length-replicate {A = ℕ} 512 0)) c.make_lists.ensures c.in_err-made.was)

pub returns : goal.returns
returns c = let S = c in all_told (lent S.args.context.now S.args.list.now (lists S.args.first.now S.args.i.now S.args.last.now)) (lent S.args.context_2ns.now S.args.list_2ns.now (lists S.args.first_2ns.now S.args.i_2ns.now S.args.last_2ns.now)) c.decide.ensures S.args.out.now S.args.chosen.now c.in_ok-found.was (listed_front c.list_members-count.ensures (length-replicate {A = ℕ} 512 0)) c.make_lists.ensures c.in_ok-made.was
