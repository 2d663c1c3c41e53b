-- THE LISTS IN PIECES: a call that serves the members and a build give `step3`; marking the members, a call that serves the constraint, the closing product and a build
-- give `step42ns`, of what the contexts hold.
-- Assumes nothing.
use Rattle.std.specs.Prelude.{ℕ, suc, ◌<◌, ◌≤◌, ◌≡◌, refl, Bool, true, false, cond, List, [], ◌∷◌, length, leb}
use Rattle.std.proofs.Common.{sym, ◌∙◌, ap, subst, arith, leb-true}
use Rattle.std.proofs.Math.Option.{none}
use Rattle.meaning.specs.Refusals.{Refusal, Answer, done, refused, ◌then◌}
use Rattle.meaning.specs.Trees.{Forest, Each}
use Rattle.meaning.specs.Generation.{Block, State, Request, serve, serve_all}
use Rattle.meaning.proofs.Laws.Tests.{then-done, done-not-refused}
use Rattle.frames.specs.Order.{Input, expression_limit}
use Rattle.frames.specs.Packing.{first-length}
use Rattle.pool.specs.Trees.{forest}
use Rattle.pool.specs.Numbered.{pool_of}
use Rattle.requests.specs.Runs.{requests_of}
use Rattle.builds.specs.Raw.{raw_block_at}
use Rattle.builds.specs.RawOf.{raw_of, raw_lists}
use Rattle.context.specs.Context.{blocks_in, Good, Exactly}
use Rattle.context.specs.Tables.{words_in}
use Rattle.codegen.specs.Said.{Said, said, said_of, segment_said, after_said, segment-said}
use Rattle.codegen.specs.Written.{context_with, ListWith, Stands}
use Rattle.codegen.specs.Exactly.{AnsweredFor}
use Rattle.codegen.specs.Sessions.{Holds, plainly, call_holds}
use Rattle.constraint_meaning.specs.Constraint.{Built, built_from, plain_request, plain_requests, step3, marked, closing, step42ns}
use Rattle.constraint_pieces.specs.Marks.{AllBelow, all_below, below_true}
use Rattle.constraint_pieces.specs.Marking.{marked_said, OrRefused, MarkAnswered, marked_context, marked-holds}
use Rattle.constraint_pieces.specs.Closing.{closed_on, CloseAnswered, closed-holds}
use Rattle.constraint_sessions.specs.Bounds.{plain_rows}

-- what a build of this context gives, and what is said after it, is what was built
pub record BuildsIt (E : Forest) (x l : List ℕ) (b : Built) : Type 0 where
  pub segment : segment_said E (said x l) ≡ raw_lists b.segment
  pub context : after_said E (said x l) ≡ said_of b.context

builds_it : (E : Forest) (x l : List ℕ) (st : State) → Holds x l st → BuildsIt E x l (built_from 2 E st)
builds_it E x l st h = record {
  segment = ap (segment_said E) h.says ∙ segment-said E st;
  context = ap (after_said E) h.says;
}

raw-count : (bs : List Block) → length (raw_of bs) ≡ length bs
raw-count [] = refl
raw-count (b ∷ bs) = ap suc (raw-count bs)

-- a context has as many blocks as the one that it holds
blocks-held : (x l : List ℕ) (st : State) → Holds x l st → blocks_in x ≡ length st.blocks
blocks-held x l st h =
    sym (first-length (raw_block_at (words_in x (blocks_in x)) l) (blocks_in x)) ∙ ap (λ (s : Said). length s.blocks) h.says ∙ raw-count st.blocks

rows_of : (i : Input) (es : List ℕ) → requests_of i ≡ plain_requests es → Each (λ q. q.row < 2) (requests_of i)
rows_of i es e = subst (Each (λ q. q.row < 2)) (sym e) (plain_rows es)

-- a call of `mark` that was accepted
mark-accepted : (es : List ℕ) (m : ℕ) (x l : List ℕ) (a : Said) → MarkAnswered es m x l (done a) → Good x m (length l) × AllBelow expression_limit es
mark-accepted es m x l a h = go (leb m expression_limit) refl h
  where
    there : (v : Bool) → all_below m es ≡ v → done a ≡ cond v (done (marked_said es (said x l))) (refused Refusal.not_there none) → AllBelow m es
    there true e q = below_true m es e
    there false e q = absurd (done-not-refused q)

    good :
        (g : Bool) → m ≤ expression_limit → Exactly g (Good x m (length l)) →
        OrRefused g Refusal.malformed (done a) (done a ≡ cond (all_below m es) (done (marked_said es (said x l))) (refused Refusal.not_there none)) →
        Good x m (length l) × AllBelow expression_limit es
    good true few ex q = (ex.0 refl, λ k u. omega (arith, there (all_below m es) refl q k u, few))
    good false few ex q = absurd (done-not-refused q)

    go :
        (w : Bool) → leb m expression_limit ≡ w →
        OrRefused w Refusal.full (done a)
        ((g : Bool) × Exactly g (Good x m (length l)) × OrRefused g Refusal.malformed (done a) (done a ≡ cond (all_below m es) (done (marked_said es (said x l))) (refused Refusal.not_there none))) →
        Good x m (length l) × AllBelow expression_limit es
    go true e (g, ex, q) = good g (leb-true m expression_limit e) ex q
    go false e q = absurd (done-not-refused q)

-- and of `close`
close-accepted : (m : ℕ) (x l : List ℕ) (a : Said) → CloseAnswered m x l (done a) → Good x m (length l) × (closed_on (length l) (said x l) ≡ done a)
close-accepted m x l a h = go (leb m expression_limit) h
  where
    good :
        (g : Bool) → Exactly g (Good x m (length l)) → OrRefused g Refusal.malformed (done a) (done a ≡ closed_on (length l) (said x l)) →
        Good x m (length l) × (closed_on (length l) (said x l) ≡ done a)
    good true ex q = (ex.0 refl, sym q)
    good false ex q = absurd (done-not-refused q)

    go :
        (w : Bool) → OrRefused w Refusal.full (done a) ((g : Bool) × Exactly g (Good x m (length l)) × OrRefused g Refusal.malformed (done a) (done a ≡ closed_on (length l) (said x l))) →
        Good x m (length l) × (closed_on (length l) (said x l) ≡ done a)
    go true (g, ex, q) = good g ex q
    go false q = absurd (done-not-refused q)

module _ (i : Input) (few : length i.expressions ≤ 512) (st : State) where
  abbrev E : Forest
  E = forest (pool_of i)

  -- ── step3 ────────────────────────────────────────────────────────────────────
  pub pieces-step3 :
      (members x l : List ℕ) → Holds x l st → requests_of i ≡ plain_requests members → (a : Said) → AnsweredFor i plainly x l (done a) →
      (x' l' : List ℕ) → x' ≡ context_with x a → ListWith l a l' → (b : Built) × (step3 2 E members st ≡ done b) × BuildsIt E x' l' b
  pieces-step3 members x l h e a answered x' l' c w =
      let z = call_holds i x l st h few (rows_of i members e) a answered c w in
      let served : serve_all 2 E (plain_requests members) st ≡ done z.0 = ap (λ (qs : List Request). serve_all 2 E qs st) (sym e) ∙ z.1 in
      (built_from 2 E z.0, ap (λ (y : Answer State). y then λ u. done (built_from 2 E u)) served, builds_it E x' l' z.0 z.2)

  -- ── step42ns ─────────────────────────────────────────────────────────────────
  -- the calls that were accepted, of a pool of m expressions, from context x and list l to x₃ and l₃
  pub record Calls (m : ℕ) (members : List ℕ) (c : ℕ) (x l x₃ l₃ : List ℕ) : Type 0 where
    pub marked_as : Said
    pub marks : MarkAnswered members m x l (done marked_as)
    pub request : requests_of i ≡ plain_requests (c ∷ [])
    pub served_as : Said
    pub serves : AnsweredFor i plainly (marked_context members x) l (done served_as)
    pub x₂ : List ℕ
    pub l₂ : List ℕ
    pub stands₂ : Stands (done served_as) (marked_context members x) l x₂ l₂
    pub closed_as : Said
    pub closes : CloseAnswered m x₂ l₂ (done closed_as)
    pub stands₃ : Stands (done closed_as) x₂ l₂ x₃ l₃

  pub pieces-step42ns :
      (m : ℕ) (members : List ℕ) (c : ℕ) (x l x₃ l₃ : List ℕ) → Holds x l st → Calls m members c x l x₃ l₃ →
      (b : Built) × (step42ns 2 E members c st ≡ done b) × BuildsIt E x₃ l₃ b
  pieces-step42ns m members c x l x₃ l₃ h k =
      let ma = mark-accepted members m x l k.marked_as k.marks in
      let ca = close-accepted m k.x₂ k.l₂ k.closed_as k.closes in
      let h₁ = marked-holds members x l st ma.0.head.size ma.1 h in
      let z = call_holds i (marked_context members x) l (marked 2 members st) h₁ few (rows_of i (c ∷ []) k.request) k.served_as k.serves k.stands₂.0 k.stands₂.1 in
      let all : serve_all 2 E (plain_requests (c ∷ [])) (marked 2 members st) ≡ done z.0 = ap (λ (qs : List Request). serve_all 2 E qs (marked 2 members st)) (sym k.request) ∙ z.1 in
      let one = then-done (serve 2 E (plain_request c) (marked 2 members st)) (λ u. done u) all in
      let is : serve 2 E (plain_request c) (marked 2 members st) ≡ done z.0 = one.1 ∙ one.2 in
      let blocks = blocks-held k.x₂ k.l₂ z.0 z.2 in
      let h₃ = closed-holds k.x₂ k.l₂ x₃ l₃ z.0 k.closed_as ca.0.head.size (omega (arith, ca.0.head.few_blocks, blocks)) z.2 ca.1 k.stands₃ in
      (built_from 2 E (closing z.0), ap (λ (y : Answer State). y then λ u. done (built_from 2 E (closing u))) is, builds_it E x₃ l₃ (closing z.0) h₃)
