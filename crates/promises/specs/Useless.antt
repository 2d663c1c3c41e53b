-- THE FIVE USELESS PROGRAMS that document 01 names, each with the statement that it breaks: one that refuses everything, one with a fixed list, one with no list, one that only marks
-- after the first request, and one that invents visits. What document 01's two runs say against the first two is in proofs/Useless.antt.
-- Assumes nothing.
use Rattle.std.specs.Prelude.{ℕ, ◌<◌, ◌≡◌, List, [], ◌∷◌, length, get_or, set}
use Rattle.std.proofs.Common.{sym, ◌∙◌, ap, arith, length-set, get_or-set_same, get_or-set_other}
use Rattle.std.proofs.Math.Option.{some, none-ne-some, some-injective}
use Rattle.meaning.specs.Refusals.{Answer, done, refused, answer_no, ◌then◌}
use Rattle.meaning.specs.Trees.{Forest, Each, Member}
use Rattle.meaning.specs.Values.{Algebra, Given, value}
use Rattle.meaning.specs.Steps.{Step, exp_cell}
use Rattle.meaning.specs.Running.{Store, empty}
use Rattle.meaning.specs.Generation.{Request}
use Rattle.meaning.specs.Demand3.{HeldFor, Computes}
use Rattle.meaning.proofs.Laws.Tests.{number-not-zero, then-done, each_map}
use Rattle.frames.specs.Order.{Input}
use Rattle.frames.specs.Reading.{reading}
use Rattle.pool.specs.Trees.{forest}
use Rattle.pool.specs.Numbered.{pool_of}
use Rattle.evaluator_run.specs.Evaluation.{written_after, written}
use Rattle.evaluator.specs.Laws.Written.{run_covers}
use Rattle.search_meaning.specs.Search.{Choice, search}
use Rattle.sets.specs.Members.{members}
use Rattle.degree_search.specs.Searching.{asking, searched}
use Rattle.host.specs.Searches.{SearchNumbered, set_is, choice_told}
use Rattle.promises.specs.Rows.{Call, Holds, rows}

-- ── refusing everything ──────────────────────────────────────────────────────
-- wherever row 0 holds of a call, whatever the function, its number is 0
pub not-refused : {n : ℕ} (c : Call n) → Holds c 0 → n ≡ 0
not-refused c h = (rows c 0).1 h

-- ── a fixed list ─────────────────────────────────────────────────────────────
-- of any two pools: one list that computes a request of both gives it the same value in both
pub same-list-same-value :
    (𝓐 : Algebra) (G : Given 𝓐.A) (E₁ E₂ : Forest) (steps : List Step) (q : Request) (qs₁ qs₂ : List Request) →
    Computes 𝓐 G E₁ steps (q ∷ qs₁) → Computes 𝓐 G E₂ steps (q ∷ qs₂) → value 𝓐 G E₁ q.expression q.row ≡ value 𝓐 G E₂ q.expression q.row
same-list-same-value 𝓐 G E₁ E₂ steps q qs₁ qs₂ a b =
    let e : a.end ≡ b.end = some-injective a.end b.end (sym a.runs ∙ b.runs) in
    sym a.values.0 ∙ ap (λ (s : Store 𝓐.A). s (exp_cell q.expression q.row)) e ∙ b.values.0

-- ── no list, and marking only after the first request ────────────────────────
-- some step writes the cell of each request, and not of the first alone
pub each-written : (𝓐 : Algebra) (G : Given 𝓐.A) (E : Forest) (steps : List Step) (qs : List Request) → Computes 𝓐 G E steps qs → Each (λ q. Member (exp_cell q.expression q.row) (written steps)) qs
each-written 𝓐 G E steps qs c =
    each_map (HeldFor 𝓐 G E c.end) (λ q. Member (exp_cell q.expression q.row) (written steps))
    (λ q h. run_covers 𝓐 G steps empty c.end [] (λ d u z. absurd (none-ne-some u z)) c.runs (exp_cell q.expression q.row) h.0 h.1) qs c.held

-- so that no empty list answers a request
pub no-list : (𝓐 : Algebra) (G : Given 𝓐.A) (E : Forest) (q : Request) (qs : List Request) → Computes 𝓐 G E [] (q ∷ qs) → ⊥
unfolding written_after
no-list 𝓐 G E q qs c = (each-written 𝓐 G E [] (q ∷ qs) c).0

-- ── invented visits ──────────────────────────────────────────────────────────
-- what the definition finds, and that it is what is told: its visits, its q, and its set
pub record Told (i : Input) (es : List ℕ) (vc b e limit : ℕ) (w' z' : List ℕ) : Type 0 where
  pub choice : Choice
  pub found : search (forest (pool_of i)) es vc b e (some limit) ≡ done choice
  pub visits : get_or z' 1 0 ≡ choice.visits
  pub quotient : get_or z' 0 0 ≡ choice.q
  pub chosen : choice.set ≡ members w'

-- wherever enonkasse_search answers 0 and there is room to tell
pub visits-told :
    (s es : List ℕ) (vc b e limit : ℕ) (w w' z z' : List ℕ) → SearchNumbered s es b e limit w w' z z' 0 → 1 < length z → (i : Input) → reading s ≡ done i → Told i es vc b e limit w' z'
visits-told s es vc b e limit w w' z z' h room i read = go (h vc).0 ((h vc).1.judged i read).2 (h vc).2 (h vc).4 (h vc).5
  where
    go :
        (a : Answer Choice) → a ≡ (((h vc).1.judged i read).0 then λ _. searched (pool_of i) (asking es vc b e limit)) → 0 ≡ answer_no a → set_is a w' → z' ≡ choice_told a z →
        Told i es vc b e limit w' z'
    go (refused k o) q n m t = absurd (number-not-zero k (sym n))
    go (done c) q n m t =
        let y = then-done ((h vc).1.judged i read).0 (λ _. searched (pool_of i) (asking es vc b e limit)) (sym q) in
        record {
          choice = c;
          found = y.2;
          visits = ap (λ (u : List ℕ). get_or u 1 0) t ∙ get_or-set_same (set z 0 c.q) 1 c.visits 0 (simp length-set room);
          quotient = ap (λ (u : List ℕ). get_or u 0 0) t ∙ get_or-set_other (set z 0 c.q) 1 0 c.visits 0 (λ e. omega (arith, e)) ∙ get_or-set_same z 0 c.q 0 (omega (arith, room));
          chosen = m;
        }
