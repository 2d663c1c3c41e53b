-- `constraint_choice::admitted::extend_chosen` meets its contract: the members listed are those of the set. Assumes nothing.
use Prim.Native.Nat.{ℕ}
use lib.ListN.{length-replicate}
use Rattle.constraint_frames.proofs.Listings.{listed_front}
use Rattle.constraint_choice.proofs.Founds.{extend_for, extend-gives}
use Rattle.constraint_choice.proofs.admitted.extend_chosen.Goals as goal

pub extend-requires : goal.extend-requires
extend-requires c = extend_for c.args.set.now c.args.k c.requires (listed_front c.list_members-count.ensures (length-replicate {A = ℕ} 512 0))

pub returns : goal.returns
returns c = extend-gives c.args.set.now c.args.a c.args.q c.args.k (listed_front c.list_members-count.ensures (length-replicate {A = ℕ} 512 0)) c.with_quotients.ensures c.extend.ensures
