-- THE NUMBER OF A WALK BY A PLAN: the plan's own, or, where there is a plan, that of what the walk meets.
-- Assumes nothing.
use Rattle.std.specs.Prelude.{ℕ, ◌≡◌, refl, Bool, List, ◌⊎◌, ◌↔◌}
use Rattle.std.proofs.Common.{sym, ◌∙◌, ap, inl, inr, arith}
use Rattle.meaning.specs.Refusals.{Answer, done, refused, answer_no, ◌then◌}
use Rattle.frames.specs.Reading.{reading}
use Rattle.frames.specs.Exactly.{no_other}
use Rattle.lent_lists.specs.Verdicts.{Verdict, fine, malformed, not_there, no_rule, full, verdict_no}
use Rattle.planning.specs.Planning.{Planned, Plans}
use Rattle.planning.specs.Ways.{Way}
use Rattle.planning.specs.Exactly.{Follows, exactly-gone}
use Rattle.plan_walks.specs.Walks.{Walk, Walked, ruled, walk_says, WalkIs}

-- there is a plan for the frames s and the record b, and it meets a condition
pub record Drawn (s b : List ℕ) (own : Bool) (C : Planned → Type 0) : Type 0 where
  pub pooled : Planned
  pub plans : Plans b own (reading s) (done pooled)
  pub meets : C pooled

-- ---- a verdict and its number

pub verdict-number : {A : Type 0} (v : Verdict) (a : A) → answer_no (ruled v a) ≡ verdict_no v
verdict-number fine a = refl
verdict-number malformed a = refl
verdict-number not_there a = refl
verdict-number no_rule a = refl
verdict-number full a = refl

-- verdicts of one number are one
pub same-verdict : (v w : Verdict) → verdict_no v ≡ verdict_no w → v ≡ w
same-verdict fine fine h = refl
same-verdict fine malformed h = absurd (omega arith)
same-verdict fine not_there h = absurd (omega arith)
same-verdict fine no_rule h = absurd (omega arith)
same-verdict fine full h = absurd (omega arith)
same-verdict malformed fine h = absurd (omega arith)
same-verdict malformed malformed h = refl
same-verdict malformed not_there h = absurd (omega arith)
same-verdict malformed no_rule h = absurd (omega arith)
same-verdict malformed full h = absurd (omega arith)
same-verdict not_there fine h = absurd (omega arith)
same-verdict not_there malformed h = absurd (omega arith)
same-verdict not_there not_there h = refl
same-verdict not_there no_rule h = absurd (omega arith)
same-verdict not_there full h = absurd (omega arith)
same-verdict no_rule fine h = absurd (omega arith)
same-verdict no_rule malformed h = absurd (omega arith)
same-verdict no_rule not_there h = absurd (omega arith)
same-verdict no_rule no_rule h = refl
same-verdict no_rule full h = absurd (omega arith)
same-verdict full fine h = absurd (omega arith)
same-verdict full malformed h = absurd (omega arith)
same-verdict full not_there h = absurd (omega arith)
same-verdict full no_rule h = absurd (omega arith)
same-verdict full full h = refl

-- where a verdict is w exactly when C
pub by-verdict : {A : Type 0} (v w : Verdict) (a : A) {C : Type 0} → (v ≡ w) ↔ C → (answer_no (ruled v a) ≡ verdict_no w) ↔ C
by-verdict v w a e = (λ h. e.0 (same-verdict v w (sym (verdict-number v a) ∙ h)), λ c. verdict-number v a ∙ ap verdict_no (e.1 c))

-- ---- a walk

module _ {s b : List ℕ} {own : Bool} {what : Planned → Answer Walked} {ls ls' : List (List ℕ)} {r : Walk} (h : WalkIs s b own what ls ls' r) where
  told : answer_no (walk_says r) ≡ answer_no h.answer
  told = ap answer_no h.does.says ∙ same h.answer
    where
      same : (a : Answer Walked) → answer_no (a then λ w. done w.counter) ≡ answer_no a
      same (done w) = refl
      same (refused k o) = refl

  module _ (n : ℕ) (C : Planned → Type 0) (is : (z : Planned) → Plans b own (reading s) (done z) → (answer_no (what z) ≡ n) ↔ C z) where
    gone : (answer_no h.answer ≡ n) ↔ ((Way b own (reading s) n × (n ≡ 0 → ⊥)) ⊎ Follows b own what (reading s) h.answer h.goes n)
    gone = exactly-gone b own what (reading s) h.answer h.goes n

    drawn : Follows b own what (reading s) h.answer h.goes n → Drawn s b own C
    drawn f = record { pooled = f.pooled; plans = f.plans; meets = (is f.pooled f.plans).0 f.number }

    follows : Drawn s b own C → Follows b own what (reading s) h.answer h.goes n
    follows d = record { pooled = d.pooled; plans = d.plans; number = (is d.pooled d.plans).1 d.meets }

    -- A REFUSAL: the plan's own with this number, or there is a plan and the walk meets it
    pub walk_refused : (n ≡ 0 → ⊥) → (answer_no (walk_says r) ≡ n) ↔ (Way b own (reading s) n ⊎ Drawn s b own C)
    walk_refused nz = (λ e. to (gone.0 (sym told ∙ e)), from)
      where
        to : (Way b own (reading s) n × (n ≡ 0 → ⊥)) ⊎ Follows b own what (reading s) h.answer h.goes n → Way b own (reading s) n ⊎ Drawn s b own C
        to (inl w) = inl w.0
        to (inr f) = inr (drawn f)

        from : Way b own (reading s) n ⊎ Drawn s b own C → answer_no (walk_says r) ≡ n
        from (inl w) = told ∙ gone.1 (inl (w, nz))
        from (inr d) = told ∙ gone.1 (inr (follows d))

    -- IT IS DONE: there is a plan, and the walk meets nothing
    pub walk-done : n ≡ 0 → (answer_no (walk_says r) ≡ n) ↔ Drawn s b own C
    walk-done z = (λ e. to (gone.0 (sym told ∙ e)), λ d. told ∙ gone.1 (inr (follows d)))
      where
        to : (Way b own (reading s) n × (n ≡ 0 → ⊥)) ⊎ Follows b own what (reading s) h.answer h.goes n → Drawn s b own C
        to (inl w) = absurd (w.1 z)
        to (inr f) = drawn f

    -- and where a plan has no such refusal, the walk's alone
    pub walk-alone : (n ≡ 0 → ⊥) → (Way b own (reading s) n → ⊥) → (answer_no (walk_says r) ≡ n) ↔ Drawn s b own C
    walk-alone nz none = (λ e. to ((walk_refused nz).0 e), λ d. (walk_refused nz).1 (inr d))
      where
        to : Way b own (reading s) n ⊎ Drawn s b own C → Drawn s b own C
        to (inl w) = absurd (none w)
        to (inr d) = d

-- ---- a plan is never refused with 10

pub no-way_10 : (b : List ℕ) (own : Bool) (s : List ℕ) → Way b own (reading s) 10 → ⊥
no-way_10 b own s w = by 10 w refl
  where
    read : (n : ℕ) → n ≡ 10 → (answer_no (reading s) ≡ 0) ⊎ ((answer_no (reading s) ≡ 1) ⊎ (answer_no (reading s) ≡ 9)) → answer_no (reading s) ≡ n → ⊥
    read n e (inl h) q = omega (arith, e, h, q)
    read n e (inr (inl h)) q = omega (arith, e, h, q)
    read n e (inr (inr h)) q = omega (arith, e, h, q)

    by : (n : ℕ) → Way b own (reading s) n → n ≡ 10 → ⊥
    by n (Way.unread k o q) e = read n e (no_other s) (ap answer_no q)
    by n (Way.no_plan i q h) e = omega (arith, e)
    by n (Way.too_many i q p h) e = omega (arith, e)
    by n (Way.ill_formed i q p h o) e = omega (arith, e)
    by n (Way.child_count i q f h) e = omega (arith, e)
    by n (Way.lost i q f m h) e = omega (arith, e)
    by n (Way.cycle i q f t m c) e = omega (arith, e)
    by n (Way.bits i q f d h) e = omega (arith, e)
    by n (Way.counts i q f d m h) e = omega (arith, e)
    by n (Way.undimensioned i q f d m k h) e = omega (arith, e)
    by n (Way.planned i q f d m k h) e = omega (arith, e)
