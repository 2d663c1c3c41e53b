-- Tables that hold what was read: the whole run over them is that of what was read.
-- Assumes nothing.
use Rattle.std.specs.Prelude.{ℕ, zero, suc, ◌≡◌, List, [], ◌∷◌, ◌++◌, map, length, Result, Ok, Err}
use Rattle.std.proofs.Math.Path.{refl}
use Rattle.std.proofs.Common.{sym, ◌∙◌, ap, subst}
use Rattle.std.proofs.Math.Option.{Option}
use Rattle.meaning.specs.Refusals.{Refusal, Answer, done, refused}
use Rattle.meaning.proofs.Laws.Tests.{done-same, done-not-refused}
use Rattle.meaning.specs.Generation as meaning
use Rattle.meaning.specs.Building.{Segment}
use Rattle.kinds.specs.Answers.{refusal_of, blame_of}
use Rattle.kinds.specs.declared.refusal.Refused.{Refused}
use Rattle.frames.specs.Order.{Input, nothing}
use Rattle.frames.specs.Tables.{Tables, request_in, first, input_in}
use Rattle.frames.specs.Reading.{frames_in, read_from, reading, held, Fills}
use Rattle.frames.specs.Exactly.{read_as}
use Rattle.frames.specs.Text.{text_frames, reading_text, FillsText}
use Rattle.frames.specs.TextLaws.{text_as}
use Rattle.frames.specs.Limits.{held-within}
use Rattle.frames.specs.Ranges.{held-ranged}
use Rattle.frames.specs.declared.count.Counts.{Counts}
use Rattle.pool.specs.Pool.{Pool}
use Rattle.pool.specs.Tabled.{tabled}
use Rattle.pool.specs.Numbered.{pool_of}
use Rattle.requests.specs.Planning.{request_of, requests_in}
use Rattle.requests.specs.Whole.{Answers, WholeAsked, WholeGiven, pool_in}
use Rattle.requests.specs.declared.whole.Totals.{Totals}
use Rattle.requests.specs.Runs.{requests_of, Runs, RunIs}

-- what was read of some frames stands in tables
pub record ReadInto (u : Tables) (r : Result Counts Refused) (x : Answer Input) : Type 0 where
  pub given : List (List ℕ)
  pub read : x ≡ read_from nothing given
  pub answer : held u r ≡ x

pub of-slice : {u : Tables} {s : List ℕ} {r : Result Counts Refused} → Fills s r u → ReadInto u r (reading s)
of-slice {s = s} h = record { given = frames_in s; read = read_as s; answer = h.answer }

pub of-text : {u : Tables} {t : List ℕ} {r : Result Counts Refused} → FillsText t r u → ReadInto u r (reading_text t)
of-text {t = t} h = record { given = text_frames t; read = text_as t; answer = h.answer }

map_first : {A B : Type 0} (f : A → B) (g : ℕ → A) (n : ℕ) → map f (first g n) ≡ first (λ k. f (g k)) n
unfolding first
map_first f g zero = refl
map_first f g (suc n) = map_snoc (first g n) ∙ ap (λ l. l ++ (f (g n) ∷ [])) (map_first f g n)
  where
    map_snoc : (l : List _) → map f (l ++ (g n ∷ [])) ≡ map f l ++ (f (g n) ∷ [])
    map_snoc [] = refl
    map_snoc (a ∷ l) = ap (λ z. f a ∷ z) (map_snoc l)

-- a refusal while reading is the answer
pub unread-runs : {x : Answer Input} {k : Refusal} {o : Option ℕ} (room : ℕ) → refused k o ≡ x → Runs x room (refused k o)
unread-runs room h = record {
  unread = λ k o q. same (h ∙ q);
  judged = λ i q. absurd (done-not-refused (sym q ∙ sym h));
}
  where
    same : {k k' : Refusal} {o o' : Option ℕ} → ◌≡◌ {A = Answer Input} (refused k o) (refused k' o') → ◌≡◌ {A = Answer Segment} (refused k o) (refused k' o')
    same {k} {k'} {o} {o'} e =
        let p : k ≡ k' = cc in
        let q : o ≡ o' = cc in
        rw (p, q)

module _ {u : Tables} {x : Answer Input} {r : Result Counts Refused} (a : ReadInto u r x) {c : Counts} (q : r ≡ Ok c) where
  pub read_is : done (input_in u c) ≡ x
  read_is = ap (held u) (sym q) ∙ a.answer

  pub whole-asked : WholeAsked u.nodes u.expressions u.requests c
  whole-asked =
      let w = held-within a.given u c (read_is ∙ a.read) in
      let g = held-ranged a.given u c (read_is ∙ a.read) in
      record { nodes = w.nodes; expressions = w.expressions; requests = w.requests; next = g.next; prime = g.prime }

  pub pool-is : pool_of (input_in u c) ≡ pool_in u.nodes u.literals u.expressions c
  unfolding input_in tabled
  pool-is = refl

  pub requests_are : requests_of (input_in u c) ≡ requests_in u.requests c.requests
  unfolding input_in
  requests_are = map_first request_of (request_in u.requests) c.requests

  pub read-runs :
      (room : ℕ) {z : Answer Segment} → Answers (pool_in u.nodes u.literals u.expressions c) (requests_in u.requests c.requests) room z → Runs x room z
  read-runs room {z} h = record {
    unread = λ k o e. absurd (done-not-refused (read_is ∙ e));
    judged = λ i e.
        let j : input_in u c ≡ i = done-same _ _ (read_is ∙ e) in
        subst (λ (y : Input). Answers (pool_of y) (requests_of y) room z) j
        (subst (λ (p : Pool). Answers p (requests_of (input_in u c)) room z) (sym pool-is)
        (subst (λ (qs : List meaning.Request). Answers (pool_in u.nodes u.literals u.expressions c) qs room z) (sym requests_are) h));
  }

-- ── what the code answers ────────────────────────────────────────────────────
module _ {u : Tables} {x : Answer Input} {r : Result Counts Refused} (a : ReadInto u r x) where
  pub refused-run : {f : Refused} → r ≡ Err f → (l : List ℕ) → RunIs x l l (Err f)
  refused-run {f} q l = record { answer = refused (refusal_of f.refusal) (blame_of f.node); runs = unread-runs (length l) (ap (held u) (sym q) ∙ a.answer); says = refl; list = refl }

  pub ran-run :
      {c : Counts} → r ≡ Ok c → (l l' : List ℕ) (g : Result Totals Refused) → WholeGiven u.nodes u.expressions u.requests l l' c g → RunIs x l l' g
  ran-run {c} q l l' g h =
      let t = h u.literals in
      record { answer = t.0; runs = read-runs a q (length l) t.1; says = t.2.says; list = t.2.list }
