-- 3, 5, 7 AND 8 OF REQUESTS ON ANY GOOD CONTEXT, whatever steps its list holds: they hang on marks and on which blocks stand, so they are those of a context of
-- `meaning` with the same marks and a block for each of its own.
-- Assumes nothing.
use Rattle.std.specs.Prelude.{ℕ, ◌*◌, ◌<◌, ◌≤◌, ◌≡◌, refl, Bool, true, false, ◌&&◌, cond, List, [], ◌∷◌, ◌++◌, ◌↔◌, length, get_or, drop, eqb}
use Rattle.std.proofs.Common.{sym, ◌∙◌, ap, subst, arith, length-append}
use Rattle.std.proofs.Math.Option.{Option, none, some}
use Rattle.meaning.specs.Refusals.{number, Answer, done, refused, ◌then◌, answer_no}
use Rattle.meaning.specs.Trees.{Expression, Forest, Acyclic, nth, Each}
use Rattle.meaning.specs.Steps.{Cell, Ref, StepOp, Step, step, exp_cell}
use Rattle.meaning.specs.Emission.{emit}
use Rattle.meaning.specs.Order.{Marks, Job, Asked, asked, there, ask}
use Rattle.meaning.specs.Generation.{Block, State, Result, result, Request, make_one, make, plain_result, serve_all}
use Rattle.meaning.specs.Generation as meaning
use Rattle.meaning.specs.Holding.{copy_on, serve_on, serve_all_on, states, serve_all-on}
use Rattle.meaning.specs.Conditions.{Stepped, Refused3, Refused5, Refused7, Refused8, FirstRefused}
use Rattle.meaning.proofs.Exactly.{all_3, all_5, all_7, all_8}
use Rattle.kinds.specs.declared.reference.Reference.{Reference}
use Rattle.kinds.specs.declared.step.Step as raw
use Rattle.kinds.specs.Steps.{step_size, steps-length}
use Rattle.starkinfo_codegen.specs.Encoding.{ref_of, records-length}
use Rattle.starkinfo_codegen.specs.Roots.{block-enough}
use Rattle.starkinfo_codegen.specs.Sources.{copy_step}
use Rattle.requests.specs.Jobs.{each_first}
use Rattle.builds.specs.Raw.{RawBlock, steps_in, start_of, raw_block_at, last_destination, copied, is_block, copy_into}
use Rattle.builds.specs.RawOf.{raw_of}
use Rattle.context.specs.declared.layout.Entry.{Entry}
use Rattle.context.specs.Context.{blocks_in, entry_in, Good}
use Rattle.context.specs.Tables.{word_of, words_in}
use Rattle.context.specs.Held.{words-at}
use Rattle.codegen.specs.Said.{Said, said, with_blocks, sayings, serve_said}

-- ── blocks of the same cell ──────────────────────────────────────────────────
-- each with a step
pub record Alike (a : RawBlock) (b : Block) : Type 0 where
  pub expression : a.expression ≡ b.expression
  pub row : a.row ≡ b.row
  pub some_record : 1 ≤ length a.records
  pub some_step : 1 ≤ length b.steps

abbrev pub Alikes : List RawBlock → List Block → Type 0
Alikes [] [] = Unit {0}
Alikes [] (b ∷ bs) = ⊥
Alikes (a ∷ rs) [] = ⊥
Alikes (a ∷ rs) (b ∷ bs) = Alike a b × Alikes rs bs

-- the same marks, and blocks of the same cells
pub record Similar (s : Said) (t : State) : Type 0 where
  pub marks : s.marks ≡ t.marks
  pub blocks : Alikes s.blocks t.blocks

abbrev pub SimilarAnswer : Answer Said → Answer State → Type 0
SimilarAnswer (done s) (done t) = Similar s t
SimilarAnswer (done s) (refused k o) = ⊥
SimilarAnswer (refused k o) (done t) = ⊥
SimilarAnswer (refused k o) (refused k' o') = (k ≡ k') × (o ≡ o')

pub similar-number : (a : Answer Said) (b : Answer State) → SimilarAnswer a b → answer_no a ≡ answer_no b
similar-number (done s) (done t) h = refl
similar-number (done s) (refused k o) h = absurd h
similar-number (refused k o) (done t) h = absurd h
similar-number (refused k o) (refused k' o') h = ap number h.0

-- ── blocks added ─────────────────────────────────────────────────────────────
alike_append : (rs rs' : List RawBlock) (bs bs' : List Block) → Alikes rs bs → Alikes rs' bs' → Alikes (rs ++ rs') (bs ++ bs')
alike_append [] rs' [] bs' h g = g
alike_append [] rs' (b ∷ bs) bs' h g = absurd h
alike_append (a ∷ rs) rs' [] bs' h g = absurd h
alike_append (a ∷ rs) rs' (b ∷ bs) bs' h g = (h.0, alike_append rs rs' bs bs' h.1 g)

-- those that jobs make, from whichever temporaries
made_alike : (E : Forest) (js : List Job) (t u : ℕ) → Alikes (raw_of (make E js t).blocks) (make E js u).blocks
made_alike E [] t u = tt
made_alike E (j ∷ js) t u = go (nth E j.expression) refl (made_alike E js)
  where
    go :
        (o : Option Expression) → nth E j.expression ≡ o → ((t u : ℕ) → Alikes (raw_of (make E js t).blocks) (make E js u).blocks) →
        Alikes (raw_of (make E (j ∷ js) t).blocks) (make E (j ∷ js) u).blocks
    go none q ih = rw q (ih t u)
    go (some x) q ih =
        let e = asked j.fused x.tree in
        let d = Ref.var (exp_cell j.expression j.row) in
        rw q (
          record { expression = refl; row = refl; some_record = omega (arith, records-length (meaning.block_of j (emit e j.row t)).steps, (block-enough j.row t e d).1); some_step = (block-enough j.row u e d).1 },
          ih (make_one j (some x) t).counter (make_one j (some x) u).counter,
        )

-- ── a result copied ──────────────────────────────────────────────────────────
abbrev AlikeOption : Option (List RawBlock) → Option (List Block) → Type 0
AlikeOption none none = Unit {0}
AlikeOption none (some bs) = ⊥
AlikeOption (some rs) none = ⊥
AlikeOption (some rs) (some bs) = Alikes rs bs

last-raw : (l : List raw.Step) → 1 ≤ length l → (d : Reference) × (last_destination l ≡ some d)
last-raw [] h = absurd (omega arith)
last-raw (x ∷ []) h = (x.dest, refl)
last-raw (x ∷ y ∷ l) h = last-raw (y ∷ l) (omega arith)

last_typed : (l : List Step) → 1 ≤ length l → (d : Ref) × (meaning.last_destination l ≡ some d)
last_typed [] h = absurd (omega arith)
last_typed (x ∷ []) h = (x.destination, refl)
last_typed (x ∷ y ∷ l) h = last_typed (y ∷ l) (omega arith)

copy_alike : (e r : ℕ) (c : Reference) (d : Ref) (rs : List RawBlock) (bs : List Block) → Alikes rs bs → AlikeOption (copy_into e r c rs) (meaning.copy_into e r d bs)
copy_alike e r c d [] [] h = tt
copy_alike e r c d [] (b ∷ bs) h = absurd h
copy_alike e r c d (a ∷ rs) [] h = absurd h
copy_alike e r c d (a ∷ rs) (b ∷ bs) h =
    let same : is_block e r a ≡ meaning.is_block e r b
    = ap (λ k. eqb e k && eqb r a.row) h.0.expression ∙ ap (λ k. eqb e b.expression && eqb r k) h.0.row in
    subst
    (λ (v : Bool).
    AlikeOption (cond v (meaning.before (copied a c (last_destination a.records)) rs) (meaning.onto a (copy_into e r c rs)))
    (cond (meaning.is_block e r b) (meaning.before (meaning.copied b d (meaning.last_destination b.steps)) bs) (meaning.onto b (meaning.copy_into e r d bs))))
    (sym same) (go (meaning.is_block e r b) (copy_into e r c rs) (meaning.copy_into e r d bs) (copy_alike e r c d rs bs h.1))
  where
    x : (q : Reference) × (last_destination a.records ≡ some q)
    x = last-raw a.records h.0.some_record

    y : (q : Ref) × (meaning.last_destination b.steps ≡ some q)
    y = last_typed b.steps h.0.some_step

    here : AlikeOption (meaning.before (copied a c (last_destination a.records)) rs) (meaning.before (meaning.copied b d (meaning.last_destination b.steps)) bs)
    here =
        rw (x.1, y.1) (
          record {
            expression = h.0.expression;
            row = h.0.row;
            some_record = omega (arith, length-append a.records (copy_step c x.0 ∷ []), h.0.some_record);
            some_step = omega (arith, length-append b.steps (step StepOp.copy d (y.0 ∷ []) ∷ []), h.0.some_step);
          },
          h.1,
        )

    past : (o : Option (List RawBlock)) (p : Option (List Block)) → AlikeOption o p → AlikeOption (meaning.onto a o) (meaning.onto b p)
    past none none g = tt
    past none (some bs) g = absurd g
    past (some rs) none g = absurd g
    past (some rs) (some bs) g = (h.0, g)

    go :
        (v : Bool) (o : Option (List RawBlock)) (p : Option (List Block)) → AlikeOption o p →
        AlikeOption (cond v (meaning.before (copied a c (last_destination a.records)) rs) (meaning.onto a o))
        (cond v (meaning.before (meaning.copied b d (meaning.last_destination b.steps)) bs) (meaning.onto b p))
    go true o p g = here
    go false o p g = past o p g

-- ── serving ──────────────────────────────────────────────────────────────────
then-similar :
    (a : Answer Said) (b : Answer State) (f : Said → Answer Said) (g : State → Answer State) → SimilarAnswer a b → ((s : Said) (t : State) → Similar s t → SimilarAnswer (f s) (g t)) →
    SimilarAnswer (a then f) (b then g)
then-similar (done s) (done t) f g h k = k s t h
then-similar (done s) (refused k o) f g h l = absurd h
then-similar (refused k o) (done t) f g h l = absurd h
then-similar (refused k o) (refused k' o') f g h l = h

module _ (E : Forest) where
  with-similar : (s : Said) (t : State) → Similar s t → (o : Option (List RawBlock)) (p : Option (List Block)) → AlikeOption o p → SimilarAnswer (with_blocks s o) (meaning.with_blocks t p)
  with-similar s t h none none g = (refl, refl)
  with-similar s t h none (some bs) g = absurd g
  with-similar s t h (some rs) none g = absurd g
  with-similar s t h (some rs) (some bs) g = record { marks = h.marks; blocks = g }

  copy-similar : (e r : ℕ) (x : Option Result) (s : Said) (t : State) → Similar s t → SimilarAnswer (copy_on 2 E (sayings E) e r x s) (copy_on 2 E (states E) e r x t)
  copy-similar e r none s t h = h
  copy-similar e r (some (result k i)) s t h =
      with-similar s t h (copy_into e r (ref_of (Ref.var (Cell.cell k i r))) s.blocks) (meaning.copy_into e r (Ref.var (Cell.cell k i r)) t.blocks)
      (copy_alike e r (ref_of (Ref.var (Cell.cell k i r))) (Ref.var (Cell.cell k i r)) s.blocks t.blocks h.blocks)

  add-similar : (a : Asked) (s : Said) (t : State) → Similar s t → Similar ((sayings E).add a s) ((states E).add a t)
  add-similar a s t h = record {
    marks = refl;
    blocks = alike_append s.blocks (raw_of (make E a.jobs s.counter).blocks) t.blocks (make E a.jobs t.counter).blocks h.blocks (made_alike E a.jobs s.counter t.counter);
  }

  one-similar : (q : Request) (s : Said) (t : State) → Similar s t → SimilarAnswer (serve_on 2 E (sayings E) q s) (serve_on 2 E (states E) q t)
  one-similar q s t h =
      subst
      (λ (M : Marks).
      SimilarAnswer
      (there (nth E q.expression) then λ _. cond (M q.expression q.row) (done s) (ask 2 E q.fused q.expression q.row M then λ a. plain_result q.row q.result then λ _. done ((sayings E).add a s)) then λ u.
      copy_on 2 E (sayings E) q.expression q.row q.result u)
      (serve_on 2 E (states E) q t))
      (sym h.marks) (go (there (nth E q.expression)))
    where
      added :
          (z : Answer Asked) (p : Answer (Unit {0})) →
          SimilarAnswer (z then λ a. p then λ _. done ((sayings E).add a s)) (z then λ a. p then λ _. done ((states E).add a t))
      added (done a) (done u) = add-similar a s t h
      added (done a) (refused k o) = (refl, refl)
      added (refused k o) p = (refl, refl)

      marked : (b : Bool) (y : Answer Said) (z : Answer State) → SimilarAnswer y z → SimilarAnswer (cond b (done s) y) (cond b (done t) z)
      marked true y z g = h
      marked false y z g = g

      go :
          (z : Answer Expression) →
          SimilarAnswer
          (z then λ _. cond (t.marks q.expression q.row) (done s) (ask 2 E q.fused q.expression q.row t.marks then λ a. plain_result q.row q.result then λ _. done ((sayings E).add a s)) then λ u.
          copy_on 2 E (sayings E) q.expression q.row q.result u)
          (z then λ _. cond (t.marks q.expression q.row) (done t) (ask 2 E q.fused q.expression q.row t.marks then λ a. plain_result q.row q.result then λ _. done ((states E).add a t)) then λ u.
          copy_on 2 E (states E) q.expression q.row q.result u)
      go (done x) =
          then-similar
          (cond (t.marks q.expression q.row) (done s) (ask 2 E q.fused q.expression q.row t.marks then λ a. plain_result q.row q.result then λ _. done ((sayings E).add a s)))
          (cond (t.marks q.expression q.row) (done t) (ask 2 E q.fused q.expression q.row t.marks then λ a. plain_result q.row q.result then λ _. done ((states E).add a t)))
          (λ u. copy_on 2 E (sayings E) q.expression q.row q.result u) (λ u. copy_on 2 E (states E) q.expression q.row q.result u)
          (marked (t.marks q.expression q.row) (ask 2 E q.fused q.expression q.row t.marks then λ a. plain_result q.row q.result then λ _. done ((sayings E).add a s))
          (ask 2 E q.fused q.expression q.row t.marks then λ a. plain_result q.row q.result then λ _. done ((states E).add a t))
          (added (ask 2 E q.fused q.expression q.row t.marks) (plain_result q.row q.result)))
          (copy-similar q.expression q.row q.result)
      go (refused k o) = (refl, refl)

  all-similar : (qs : List Request) (s : Said) (t : State) → Similar s t → SimilarAnswer (serve_all_on 2 E (sayings E) qs s) (serve_all_on 2 E (states E) qs t)
  all-similar [] s t h = h
  all-similar (q ∷ qs) s t h =
      then-similar (serve_on 2 E (sayings E) q s) (serve_on 2 E (states E) q t) (λ u. serve_all_on 2 E (sayings E) qs u) (λ u. serve_all_on 2 E (states E) qs u) (one-similar q s t h) (all-similar qs)

  -- SIMILAR CONTEXTS give the same number
  pub same_number : (qs : List Request) (s : Said) (t : State) → Similar s t → answer_no (serve_said E qs s) ≡ answer_no (serve_all 2 E qs t)
  same_number qs s t h =
      similar-number (serve_said E qs s) (serve_all_on 2 E (states E) qs t) (all-similar qs s t h) ∙ ap answer_no (serve_all-on 2 E qs t)

-- ── the shadow of what bytes say ─────────────────────────────────────────────
abbrev shadow_block : RawBlock → Block
shadow_block a = record { expression = a.expression; row = a.row; steps = step StepOp.copy (Ref.var (exp_cell a.expression a.row)) [] ∷ [] }

abbrev shadows : List RawBlock → List Block
shadows [] = []
shadows (a ∷ rs) = shadow_block a ∷ shadows rs

-- the same marks, and for each block one of its cell
abbrev pub shadow : Said → State
shadow s = record { marks = s.marks; blocks = shadows s.blocks; counter = s.counter }

shadow_alike : (rs : List RawBlock) → Each (λ a. 1 ≤ length a.records) rs → Alikes rs (shadows rs)
shadow_alike [] h = tt
shadow_alike (a ∷ rs) h = (record { expression = refl; row = refl; some_record = h.0; some_step = omega arith }, shadow_alike rs h.1)

shadow-stepped : (rs : List RawBlock) → Each (λ b. 1 ≤ length b.steps) (shadows rs)
shadow-stepped [] = tt
shadow-stepped (a ∷ rs) = (omega arith, shadow-stepped rs)

-- a word has its entry's steps at least
word_big : (e : Entry) → e.steps ≤ steps_in (word_of e)
unfolding word_of
word_big e = omega arith

module _ (x l : List ℕ) (m room : ℕ) (good : Good x m room) where
  -- each block of a good context has a step
  steps-said : Each (λ a. 1 ≤ length a.records) (said x l).blocks
  steps-said =
      each_first (λ (a : RawBlock). 1 ≤ length a.records) (raw_block_at (words_in x (blocks_in x)) l) (blocks_in x)
      (λ k h. omega (arith, steps-length (drop (step_size * start_of (words_in x (blocks_in x)) k) l) (steps_in (get_or (words_in x (blocks_in x)) k 0)), word-steps k h, (good.blocks k h).some_step))
    where
      word-steps : (k : ℕ) → k < blocks_in x → (entry_in x k).steps ≤ steps_in (get_or (words_in x (blocks_in x)) k 0)
      word-steps k h = rw (words-at x (blocks_in x) k h) (word_big (entry_in x k))

  similar : Similar (said x l) (shadow (said x l))
  similar = record { marks = refl; blocks = shadow_alike (said x l).blocks steps-said }

  stepped : Stepped (shadow (said x l))
  stepped = shadow-stepped (said x l).blocks

  -- EXACTLY WHEN, of any good context
  module _ (E : Forest) (acyclic : Acyclic E) (qs : List Request) where
    of-shadow : (n : ℕ) (C : Type 0) → (answer_no (serve_all 2 E qs (shadow (said x l))) ≡ n) ↔ C → (answer_no (serve_said E qs (said x l)) ≡ n) ↔ C
    of-shadow n C h = let e = same_number E qs (said x l) (shadow (said x l)) similar in (λ q. h.0 (sym e ∙ q), λ c. e ∙ h.1 c)

    pub said_3 : (answer_no (serve_said E qs (said x l)) ≡ 3) ↔ FirstRefused 2 E (Refused3 2 E) qs (shadow (said x l))
    said_3 = of-shadow 3 _ (all_3 2 E acyclic qs (shadow (said x l)) stepped)

    pub said_5 : (answer_no (serve_said E qs (said x l)) ≡ 5) ↔ FirstRefused 2 E (Refused5 2 E) qs (shadow (said x l))
    said_5 = of-shadow 5 _ (all_5 2 E acyclic qs (shadow (said x l)) stepped)

    pub said_7 : (answer_no (serve_said E qs (said x l)) ≡ 7) ↔ FirstRefused 2 E (Refused7 2 E) qs (shadow (said x l))
    said_7 = of-shadow 7 _ (all_7 2 E acyclic qs (shadow (said x l)) stepped)

    pub said_8 : (answer_no (serve_said E qs (said x l)) ≡ 8) ↔ FirstRefused 2 E (Refused8 2 E) qs (shadow (said x l))
    said_8 = of-shadow 8 _ (all_8 2 E acyclic qs (shadow (said x l)) stepped)
