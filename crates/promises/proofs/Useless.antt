-- WHAT DOCUMENT 01'S TWO RUNS SAY AGAINST USELESS PROGRAMS: one that refuses everything, and one with a fixed list.
-- Assumes nothing.
use Rattle.std.specs.Prelude.{ℕ, ◌*◌, ◌<◌, ◌≤◌, ◌≡◌, List, length, get_or, set}
use Rattle.std.proofs.Common.{◌∙◌, ap, arith, get_or-set_same, get_or-set_other}
use Rattle.kinds.specs.Steps.{step_size}
use Rattle.host.specs.Runs.{RunNumbered}
use Rattle.promises.specs.Sample.{frames, first_run, second_run}

-- ── refusing everything ──────────────────────────────────────────────────────
-- and document 01's first run is such a call: with room for a step, the whole run answers it with 0
pub sample_not-refused : (l l' z z' : List ℕ) (n : ℕ) → step_size ≤ length l → RunNumbered (frames 1) l l' z z' n → n ≡ 0
sample_not-refused l l' z z' n room h = (first_run.runs l l' z z' n (omega (arith, room)) h).0

-- ── a fixed list ─────────────────────────────────────────────────────────────
-- the second run has two steps where the first has one: with the same room no program may tell the same of both
pub not-fixed :
    (l z l₁ l₂ z₁ z₂ : List ℕ) (n₁ n₂ : ℕ) → step_size * 2 ≤ length l → 0 < length z → RunNumbered (frames 1) l l₁ z z₁ n₁ → RunNumbered (frames 0) l l₂ z z₂ n₂ → z₁ ≡ z₂ → ⊥
not-fixed l z l₁ l₂ z₁ z₂ n₁ n₂ room some-room g h same =
    let a = (first_run.runs l l₁ z z₁ n₁ (omega (arith, room)) g).2 in
    let b = (second_run.runs l l₂ z z₂ n₂ (omega (arith, room)) h).2 in
    let x : get_or z₁ 0 0 ≡ 1 = ap (λ (y : List ℕ). get_or y 0 0) a ∙ told z 1 0 some-room in
    let y : get_or z₂ 0 0 ≡ 2 = ap (λ (y : List ℕ). get_or y 0 0) b ∙ told z 2 1 some-room in
    let e : get_or z₁ 0 0 ≡ get_or z₂ 0 0 = ap (λ (y : List ℕ). get_or y 0 0) same in
    omega (arith, x, y, e)
  where
    told : (z : List ℕ) (a b : ℕ) → 0 < length z → get_or (set (set z 0 a) 1 b) 0 0 ≡ a
    told z a b k = get_or-set_other (set z 0 a) 1 0 b 0 (λ e. omega (arith, e)) ∙ get_or-set_same z 0 a 0 k
