-- The bytes of a plan from its q2exp on are the table of q numbers. Assumes nothing.
use Rattle.std.specs.Prelude.{ℕ, ◌-◌, ◌*◌, ◌≡◌, List, length, take, drop}
use Rattle.std.proofs.Common.{sym, ◌∙◌, ap, length-drop}
use Rattle.std.proofs.Math.Seq.{take-length}
use Rattle.pool.specs.Entries.{entries_in}
use Rattle.plans.specs.Plan.{Whole, q2exp_at, q2exp}
use Rattle.plans.specs.Q2exp.{q2exp-stands}

pub q-table : (b : List ℕ) → Whole b → {n : ℕ} → n ≡ q2exp_at b → entries_in (take (length b - 2 * n) (drop (2 * n) b)) ≡ q2exp b
q-table b w {n} e =
    let all : take (length b - 2 * n) (drop (2 * n) b) ≡ drop (2 * n) b = ap (λ k. take k (drop (2 * n) b)) (sym (length-drop (2 * n) b)) ∙ take-length (drop (2 * n) b) in
    ap entries_in all ∙ q2exp-stands b w (ap (λ k. 2 * k) e)
