-- ONLY ONE ANSWER FITS a pool and a question, and what was read of any frames; and each number of a search from frames exactly when.
-- Assumes nothing.
use Rattle.std.specs.Prelude.{ℕ, ◌^◌, ◌<◌, ◌≡◌, refl, List, [], ◌↔◌, get_or, Result, Ok, Err}
use Rattle.std.proofs.Common.{sym, ◌∙◌, ap, subst}
use Rattle.std.proofs.Math.Option.{Option}
use Rattle.meaning.specs.Refusals.{Refusal, Answer, done, refused, ◌then◌, answer_no}
use Rattle.meaning.specs.Trees.{Acyclic}
use Rattle.meaning.proofs.Laws.Tests.{done-same, done-not-refused}
use Rattle.search_meaning.specs.Search.{Choice}
use Rattle.search_meaning.proofs.SearchCases.{Row, exactly}
use Rattle.frames.specs.Order.{Input}
use Rattle.pool.specs.Pool.{Pool}
use Rattle.pool.specs.Trees.{forest}
use Rattle.pool.specs.Verdict.{Verdict}
use Rattle.pool.specs.Exactly.{one_answer, exactly_0}
use Rattle.pool.specs.Numbered.{pool_of}
use Rattle.sets.specs.Members.{members}
use Rattle.sets.proofs.Words.{words_same}
use Rattle.degree_search.specs.Choosing.{SetAfter}
use Rattle.degree_search.specs.Searching.{Question, searched, Answers, Runs, outcome_says, RunIs}
use Rattle.degree_search.specs.declared.choose.Found.{Found}
use Rattle.kinds.specs.declared.refusal.Refused.{Refused}

pub one-answers : (p : Pool) (q : Question) (a b : Answer Choice) → Answers p q a → Answers p q b → a ≡ b
one-answers p q a b x y = x.2 ∙ ap (λ v. v then λ _. searched p q) (one_answer p [] x.0 y.0 x.1 y.1) ∙ sym y.2

pub one-run : (x : Answer Input) (q : Question) (a b : Answer Choice) → Runs x q a → Runs x q b → a ≡ b
one-run (done i) q a b x y = one-answers (pool_of i) q a b (x.judged i refl) (y.judged i refl)
one-run (refused k o) q a b x y = x.unread k o refl ∙ sym (y.unread k o refl)

-- ONLY ONE OUTCOME FITS: what it says, with the set beside it, is the same
pub one-outcome : {x : Answer Input} {q : Question} {w w1 w2 : List ℕ} {r1 r2 : Result Found Refused} → RunIs x q w w1 r1 → RunIs x q w w2 r2 → outcome_says r1 w1 ≡ outcome_says r2 w2
one-outcome {x} {q} a b = a.says ∙ one-run x q a.answer b.answer a.runs b.runs ∙ sym b.says

-- EACH NUMBER OF A SEARCH OVER AN ADMITTED POOL EXACTLY WHEN its row holds
module _ (p : Pool) (admitted : Verdict p [] (done tt)) (q : Question) (a : Answer Choice) (h : Answers p q a) where
  abbrev acyclic : Acyclic (forest p)
  acyclic = ((exactly_0 p (done tt) admitted).0 refl).1

  answer-is : a ≡ searched p q
  answer-is = one-answers p q a (searched p q) h (done tt, admitted, refl)

  pub exactly-admitted : (k : ℕ) → (answer_no a ≡ k) ↔ Row (forest p) acyclic q.identities q.vc q.bits q.bits_ext q.limit k
  exactly-admitted k =
      let e = exactly (forest p) acyclic q.identities q.vc q.bits q.bits_ext q.limit k in
      (λ g. e.0 (sym (ap answer_no answer-is) ∙ g), λ r. ap answer_no answer-is ∙ e.1 r)

-- ── and one set ──────────────────────────────────────────────────────────────
not_done : {P : Type 0} {k : Refusal} {o : Option ℕ} {c : Choice} → ◌≡◌ {A = Answer Choice} (refused k o) (done c) → P
not_done h = absurd (done-not-refused (sym h))

-- an accepted choice's members are those of the words beside it
said-members : (r : Result Found Refused) (w : List ℕ) (c : Choice) → outcome_says r w ≡ done c → members w ≡ c.set
said-members (Ok x) w c h = ap (λ (c : Choice). c.set) (done-same _ _ h)
said-members (Err f) w c h = not_done h

-- ONLY ONE LENT SET FITS: 64-bit words are the same
pub one_set :
    {x : Answer Input} {q : Question} {w w1 w2 : List ℕ} {r1 r2 : Result Found Refused} → RunIs x q w w1 r1 → RunIs x q w w2 r2 →
    ((i : ℕ) → get_or w1 i 0 < 2 ^ 64) → ((i : ℕ) → get_or w2 i 0 < 2 ^ 64) → w1 ≡ w2
one_set {x} {q} {w} {w1} {w2} {r1} {r2} a b f g =
    go a.answer a.says a.set (b.says ∙ sym e) (subst (λ z. SetAfter z w w2) (sym e) b.set)
  where
    e : a.answer ≡ b.answer
    e = one-run x q a.answer b.answer a.runs b.runs

    go : (z : Answer Choice) → outcome_says r1 w1 ≡ z → SetAfter z w w1 → outcome_says r2 w2 ≡ z → SetAfter z w w2 → w1 ≡ w2
    go (refused k o) p s u v = s ∙ sym v
    go (done c) p s u v = words_same w1 w2 s v (said-members r1 w1 c p ∙ sym (said-members r2 w2 c u)) f g
