-- `constraint_lists::plan::plan_list` meets its contract: each need is one lemma of proofs/Requested.antt.
-- Assumes nothing.
use mathlib.Core.Path.{refl, ◌∙◌, ap}
use Prim.Native.Nat.{ℕ}
use lib.ListN.{length, length-replicate}
use Rattle.constraint_lists.proofs.Requested.{loaded-words, plan-asks, plan-says}
use Rattle.constraint_lists.proofs.plan.plan_list.Goals as goal

pub fill_requests-requires : goal.fill_requests-requires
fill_requests-requires c = let P = c.requires.3 in record { few = P.few; small = P.asked; size = refl }

pub load_marks-requires : goal.load_marks-requires
load_marks-requires c = record { size = c.requires.3.good.head.size; full = c.requires.4.marks }

pub load_blocks-requires : goal.load_blocks-requires
load_blocks-requires c = record { context = record { size = c.requires.3.good.head.size; few = c.requires.3.good.head.few_blocks }; full = ap length c.requires.4.words ∙ length-replicate {A = ℕ} 1024 0 }

pub mark_members-requires : goal.mark_members-requires
mark_members-requires c = c.requires.3.marked

pub plan_all-requires : goal.plan_all-requires
plan_all-requires c = let P = c.requires in (P.0, P.1, plan-asks P.3 _ c.fill_requests.ensures c.load_marks.ensures c.mark_members.ensures _ P.4.jobs)

pub returns : goal.returns
returns c = λ b A room a. plan-says a _ c.fill_requests.ensures c.load_marks.ensures c.mark_members.ensures (loaded-words _ c.load_blocks.ensures c.requires.4.words) _ _ _ c.plan_all.result c.requires.4.jobs (c.plan_all.ensures b A (plan-asks a _ c.fill_requests.ensures c.load_marks.ensures c.mark_members.ensures _ c.requires.4.jobs))
