-- ONLY ONE OUTCOME FITS what is promised of the pool with the constraint; and what is judged there is what the definition of the constraint polynomial judges.
-- Assumes nothing.
use Rattle.std.specs.Prelude.{ℕ, ◌+◌, ◌≡◌, refl, Bool, true, false, List, [], length, get_or, drop, leb}
use Rattle.std.proofs.Common.{sym, ◌∙◌, ap}
use Rattle.meaning.specs.Refusals.{Refusal, Answer, done, refused, ◌then◌}
use Rattle.meaning.specs.Trees.{Forest}
use Rattle.meaning.specs.Generation.{State}
use Rattle.frames.specs.Order.{Input}
use Rattle.frames.specs.Reading.{reading}
use Rattle.pool.specs.Pool.{Pool}
use Rattle.pool.specs.Verdict.{Verdict}
use Rattle.pool.specs.Exactly.{one_answer}
use Rattle.pool.specs.Numbered.{pool_of}
use Rattle.search_meaning.specs.Search.{Choice}
use Rattle.constraint_meaning.specs.Tree.{columns_from, constraint_tree}
use Rattle.constraint_meaning.specs.Constraint.{Asked, fits, unless, tree_for, lists_with, made_with}
use Rattle.constraint_pool.specs.Judging.{judged}
use Rattle.constraint_pool.specs.declared.judge.Columns.{Columns}
use Rattle.constraint_frames.specs.Laws.{tree-for}
use Rattle.constraint_frames.specs.Listing.{set_good}
use Rattle.constraint_frames.specs.Extension.{Question, Extension, extending, OrMalformed, Answers, Runs, Constrained, constrained_says, room_after, ConstrainIs}

-- ---- one answer

pub one-answers : (p : Pool) (w : List ℕ) (q : Question) (room : ℕ) (a b : Answer Extension) → Answers p w q room a → Answers p w q room b → a ≡ b
one-answers p w q room a b x y = by (set_good (length p.expressions) w) x y
  where
    by :
        (g : Bool) → OrMalformed g a ((v : Answer (Unit {0})) × Verdict p [] v × (a ≡ (v then λ _. extending p q room))) →
        OrMalformed g b ((v : Answer (Unit {0})) × Verdict p [] v × (b ≡ (v then λ _. extending p q room))) → a ≡ b
    by true x y = x.2 ∙ ap (λ v. v then λ _. extending p q room) (one_answer p [] x.0 y.0 x.1 y.1) ∙ sym y.2
    by false x y = x ∙ sym y

pub one-run : (x : Answer Input) (w : List ℕ) (q : Question) (room : ℕ) (a b : Answer Extension) → Runs x w q room a → Runs x w q room b → a ≡ b
one-run (done i) w q room a b x y = one-answers (pool_of i) w q room a b (x.judged i refl) (y.judged i refl)
one-run (refused k o) w q room a b x y = x.unread k o refl ∙ sym (y.unread k o refl)

-- ONLY ONE OUTCOME FITS: what is told, and the room after it
pub one-constrained :
    {s w : List ℕ} {q : Question} {out o₁ o₂ : List ℕ} {r₁ r₂ : Constrained} → ConstrainIs s w q out o₁ r₁ → ConstrainIs s w q out o₂ r₂ →
    (constrained_says r₁ ≡ constrained_says r₂) × (o₁ ≡ o₂)
one-constrained {s} {w} {q} {out} g h =
    let e : g.answer ≡ h.answer = one-run (reading s) w q (length out) g.answer h.answer g.runs h.runs in (
      g.tells.says ∙ ap (λ a. a then λ x. done x.numbers) e ∙ sym h.tells.says,
      g.tells.room ∙ ap (room_after out) e ∙ sym h.tells.room,
    )

-- ---- the definition's own tests

-- the columns of what is asked, with the quotients that were chosen
abbrev pub columns_of : Asked → ℕ → Columns
columns_of a q = record { commitments = a.commitments; n_cm1 = a.n_cm1; n_cm2 = a.n_cm2; quotients = q }

then-then : (a b : Bool) {A : Type 0} (r t : Refusal) (f : Answer A) →
    (unless r a then λ _. unless t b then λ _. f) ≡ ((unless r a then λ _. unless t b) then λ _. f)
then-then true true r t f = refl
then-then true false r t f = refl
then-then false b r t f = refl

-- THE DEFINITION judges the limits and the counts as `judged` does, and goes on to the lists
pub made-judged :
    (rows : ℕ) (E : Forest) (nodes : ℕ) (first second : State) (a : Asked) (x : Choice) →
    made_with rows E nodes first second a x
    ≡ (judged E nodes a.vc (columns_of a x.q) a.identities x.set then λ _.
    lists_with rows E nodes first second a x (columns_from a.commitments x.set) (tree_for E nodes a.vc a.identities (columns_from a.commitments x.set)))
made-judged rows E nodes first second a x =
    let ms = columns_from a.commitments x.set in
    let f = lists_with rows E nodes first second a x ms (tree_for E nodes a.vc a.identities ms) in
    let all = a.commitments + length x.set + x.q in
    ap (λ t. unless Refusal.full (fits t.free (length E + 1) all) then λ _. unless Refusal.counts (leb (a.n_cm1 + a.n_cm2) a.commitments) then λ _. f)
    (tree-for E nodes a.vc a.identities ms)
    ∙ then-then (fits (constraint_tree a.vc E nodes (get_or a.identities 0 0) (drop 1 a.identities) ms).free (length E + 1) all) (leb (a.n_cm1 + a.n_cm2) a.commitments) Refusal.full Refusal.counts f
