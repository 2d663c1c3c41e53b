-- The closing product put after the steps of a context that was loaded, and the answers of `close`. No word of the code.
-- Assumes nothing.
use Prim.Native.Nat.{ℕ, zero, suc, ◌+◌, ◌*◌, ◌-◌, ◌<◌, ◌≤◌}
use mathlib.Core.Path.{◌≡◌, refl, sym, ◌∙◌, ap, subst}
use mathlib.Core.Bool.{Bool, true, false, cond}
use mathlib.Core.Option.{none}
use mathlib.Core.List.{List, [], ◌∷◌, ◌++◌}
use native.Mathlib.Omega.{arith}
use lib.ListN.{length, get_or, drop, length-set, length-drop}
use lib.Seq.{ext_get_or, get_or-drop}
use borrow.Author.Tests.{le-leb, lt-leb}
use Rattle.std.specs.Prelude.{Ok}
use Rattle.kinds.specs.Answers.{refusing}
use Rattle.kinds.specs.declared.refusal.Refusal.TheVariants as refusal
use Rattle.meaning.specs.Refusals.{Refusal, Answer, done, refused}
use Rattle.kinds.specs.Write.{write, write-length, write-after}
use Rattle.kinds.specs.Steps.{step_size, step_at, step_bytes, step-sized}
use Rattle.kinds.specs.declared.step.Step.{Step}
use Rattle.frames.specs.Tables.{first}
use Rattle.frames.specs.Order.{expression_limit}
use Rattle.starkinfo_codegen.specs.Ordering.{marks_of}
use Rattle.builds.specs.Raw.{RawBlock, steps_in, start_of, raw_block_at, raw_blocks, every}
use Rattle.builds.specs.Starts.{start-next, start-le}
use Rattle.builds.specs.Results.{GrowAsks}
use Rattle.context.specs.Context.{cells, blocks_in, steps_in as count_in, temporaries_in, Good, Exactly}
use Rattle.context.specs.Tables.{marks_in, words_in, Read16}
use Rattle.context.specs.Held.{stored_in}
use Rattle.context.specs.Stored as stored
use Rattle.codegen.specs.Said.{Said, said}
use Rattle.codegen.specs.Written.{mark_bytes, fits, fitting, ListWith, raw-steps, stored-with, steps-with}
use Rattle.codegen.specs.Committing.{no_words, StoreAsked}
use Rattle.codegen.specs.Loads as loads
use Rattle.codegen.proofs.Ends.{fits_all_lem}
use Rattle.constraint_pieces.specs.Closed.{closing_step, raw_close_last, closed_said, closed_list, grown, PutAsks, grown-start, closed-count, closed-put}
use Rattle.constraint_pieces.specs.Marking.{OrRefused}
use Rattle.constraint_pieces.specs.Closing.{Closing, some_block, closed_on, CloseAnswered, CloseGiven, TellsClosed, CloseAsks}

-- ── lists ────────────────────────────────────────────────────────────────────
pub closed-by :
    {last step : Step} {l' : List ℕ} (l : List ℕ) (n : ℕ) → last ≡ step_at l (step_size * (n - 1)) → step ≡ closing_step last.dest →
    l' ≡ write l (step_size * n) (step_bytes step) → l' ≡ closed_list l n
unfolding closed_list
closed-by l n h g e = e ∙ rw (g, h)

pub closed-size : (l : List ℕ) (n : ℕ) → length (closed_list l n) ≡ length l
unfolding closed_list
closed-size l n = write-length l (step_size * n) _

pub closed-past : (l : List ℕ) (n : ℕ) → drop (step_size * (n + 1)) (closed_list l n) ≡ drop (step_size * (n + 1)) l
unfolding closed_list
closed-past l n =
    let s = closing_step (step_at l (step_size * (n - 1))).dest in
    let at = step_size * (n + 1) in
    ext_get_or 0 (drop at (write l (step_size * n) (step_bytes s))) (drop at l) (simp (length-drop, write-length))
    (λ k g. get_or-drop at (write l (step_size * n) (step_bytes s)) k 0 ∙ write-after l (step_size * n) (step_bytes s) (at + k) (omega (arith, step-sized s)) ∙ sym (get_or-drop at l k 0))

some-snoc : (xs : List RawBlock) (b : RawBlock) (a : Answer Said) → some_block (xs ++ (b ∷ [])) a ≡ a
some-snoc [] b a = refl
some-snoc (x ∷ xs) b a = refl

some_first : (t l : List ℕ) (k : ℕ) (a : Answer Said) → some_block (raw_blocks t l (suc k)) a ≡ a
unfolding first
some_first t l k a = some-snoc (raw_blocks t l k) (raw_block_at t l k) a

none_first : (t l : List ℕ) (a : Answer Said) → some_block (raw_blocks t l 0) a ≡ refused Refusal.no_block none
unfolding first
none_first t l a = refl

-- ── of a good context ────────────────────────────────────────────────────────
module _ {x l : List ℕ} {m : ℕ} (a : CloseAsks x l m) {bk ak tk : ℕ} (rb : Read16 (blocks_in x) bk) (ra : Read16 (count_in x) ak) (rt : Read16 (temporaries_in x) tk) where
  abbrev answer : Answer Said
  answer = closed_on (length l) (said x l)

  pub no-block : bk ≡ 0 → TellsClosed answer x l x l (refusing refusal.NoBlock)
  no-block h =
      let e : blocks_in x ≡ 0 = sym rb.is ∙ h in
      let z : answer ≡ refused Refusal.no_block none
      = ap (λ n. some_block (raw_blocks (words_in x n) l n) (fitting (length l) (closed_said (said x l)))) e ∙ none_first (words_in x 0) l _ in
      subst (λ (y : Answer Said). TellsClosed y x l x l (refusing refusal.NoBlock)) (sym z) (record { says = refl; stands = (refl, refl) })

  module _ (some-blocks : bk ≡ 0 → ⊥) where
    abbrev k : ℕ
    k = bk - 1

    is-k : bk ≡ suc k
    is-k = go bk some-blocks
      where
        go : (n : ℕ) → (n ≡ 0 → ⊥) → n ≡ suc (n - 1)
        go zero h = absurd (h refl)
        go (suc n) h = omega arith

    blocks_are : blocks_in x ≡ suc k
    blocks_are = sym rb.is ∙ is-k

    -- the table that was loaded
    module _ {t : List ℕ} (loaded : t ≡ write no_words 0 (words_in x (blocks_in x))) where
      full : length t ≡ cells
      full = loads.full l a.few a.good loaded

      there : k < length t
      there = omega (arith, full, blocks_are, a.good.head.few_blocks)

      some-step : 1 ≤ steps_in (get_or t k 0)
      some-step = ((loads.sound l a.few a.good loaded).each_word k (omega (arith, blocks_are))).some_step

      start_is : start_of t (suc k) ≡ ak
      start_is = rw (← blocks_are) (loads.start-at l a.few a.good loaded) ∙ sym ra.is

      said-is : (said x l).blocks ≡ raw_blocks t l (suc k)
      said-is = rw (← blocks_are) (loads.said-blocks l a.few a.good loaded)

      fits-is : fits (length l) (length (every (raw_close_last (said x l).blocks))) (temporaries_in x) ≡ fits (length l) (ak + 1) tk
      fits-is =
          let c : length (every (raw_close_last (said x l).blocks)) ≡ ak + 1
          = ap (λ (bs : List RawBlock). length (every (raw_close_last bs))) said-is ∙ closed-count t k there some-step l ∙ rw (raw-steps t l (suc k), start_is) (omega arith) in
          rw (c, rt.is)

      answer-is : answer ≡ fitting (length l) (closed_said (said x l))
      answer-is = ap (λ (bs : List RawBlock). some_block bs (fitting (length l) (closed_said (said x l)))) said-is ∙ some_first t l k _

      module _ (h : fits (length l) (ak + 1) tk ≡ true) where
        pub put-asks : PutAsks (length l) ak
        put-asks =
            let f = fits_all_lem (length l) (ak + 1) tk h in
            record { some = omega (arith, start_is, start-next t k, some-step); few = omega (arith, f.steps16); fits = f.list }

        pub grow-asks : GrowAsks t k
        grow-asks = record { there = omega (arith, there, full); steps = omega (arith, start_is, start-next t k, ra.small) }

        after-start : start_of (grown t k) bk ≡ ak + 1
        after-start = ap (start_of (grown t k)) is-k ∙ grown-start t k there ∙ omega (arith, start_is)

        module _ {s t' : List ℕ} (marks : s ≡ marks_in x) (e : t' ≡ grown t k) where
          few-blocks : bk ≤ length t'
          few-blocks = omega (arith, ap length e, length-set t k (get_or t k 0 + 1024), full, rb.is, a.good.head.few_blocks)

          after_is : start_of t' bk ≡ ak + 1
          after_is = rw e after-start

          pub store_asks : StoreAsked x s t' bk (ak + 1) tk
          store_asks =
              let f = fits_all_lem (length l) (ak + 1) tk h in
              record {
                size = a.good.head.size;
                marks = ap length marks ∙ stored.marks-full x a.good.head.size;
                words = ap length e ∙ length-set t k (get_or t k 0 + 1024) ∙ full;
                few = omega (arith, rb.is, a.good.head.few_blocks);
                steps16 = f.steps16;
                temporaries16 = rt.small;
                each16 = λ i g. omega (arith, start-next t' i, start-le t' (suc i) bk g, after_is, f.steps16);
              }

          pub all_closed :
              {x' l' : List ℕ} → l' ≡ closed_list l ak → x' ≡ stored_in x (mark_bytes (marks_of s)) t' 0 bk (ak + 1) tk → TellsClosed answer x l x' l' (Ok tt)
          all_closed {x'} {l'} p q =
              let f = fits_all_lem (length l) (ak + 1) tk h in
              let S : Said = record { marks = marks_of s; blocks = raw_blocks t' l' bk; counter = tk } in
              let after-blocks : raw_blocks (grown t k) (closed_list l (start_of t (suc k))) (suc k) ≡ raw_blocks t' l' bk
              = ap (λ n. raw_blocks (grown t k) (closed_list l n) (suc k)) start_is ∙ ap (raw_blocks (grown t k) (closed_list l ak)) (sym is-k) ∙ rw (e, p) in
              let same : closed_said (said x l) ≡ S
              = ap (λ (bs : List RawBlock). record { marks = marks_of (marks_in x); blocks = raw_close_last bs; counter = temporaries_in x }) said-is
              ∙ ap (λ (bs : List RawBlock). record { marks = marks_of (marks_in x); blocks = bs; counter = temporaries_in x }) (closed-put t k there some-step l (rw start_is f.list))
              ∙ ap (λ (bs : List RawBlock). record { marks = marks_of (marks_in x); blocks = bs; counter = temporaries_in x }) after-blocks
              ∙ rw (marks, rt.is) in
              let fit : fits (length l) (length (every (raw_close_last (said x l).blocks))) (temporaries_in x) ≡ true = fits-is ∙ h in
              let yes : answer ≡ done S
              = answer-is ∙ ap (λ v. cond v (done (closed_said (said x l))) (refused Refusal.full none)) fit ∙ ap done same in
              let c = q ∙ ap (λ n. stored_in x (mark_bytes (marks_of s)) t' 0 bk n tk) (sym after_is) ∙ stored-with x t' l' bk tk (marks_of s) few-blocks in
              let g : ListWith l S l'
              = steps-with x t' l' bk tk (marks_of s) few-blocks l (ap length p ∙ closed-size l ak) (rw (after_is, p) (closed-past l ak)) in
              subst (λ (y : Answer Said). TellsClosed y x l x' l' (Ok tt)) (sym yes) (record { says = refl; stands = (c, g) })

    pub no_room : fits (length l) (ak + 1) tk ≡ false → TellsClosed answer x l x l (refusing refusal.Full)
    no_room h =
        let t : List ℕ = write no_words 0 (words_in x (blocks_in x)) in
        let z : answer ≡ refused Refusal.full none
        = answer-is {t = t} refl ∙ ap (λ v. cond v (done (closed_said (said x l))) (refused Refusal.full none)) (fits-is {t = t} refl ∙ h) in
        subst (λ (y : Answer Said). TellsClosed y x l x l (refusing refusal.Full)) (sym z) (record { says = refl; stands = (refl, refl) })

-- ── the answers ──────────────────────────────────────────────────────────────
module _ (m : ℕ) (x l : List ℕ) where
  abbrev Rest : Answer Said → Type 0
  Rest a = (g : Bool) × Exactly g (Good x m (length l)) × OrRefused g Refusal.malformed a (a ≡ closed_on (length l) (said x l))

  pub past-limit : expression_limit < m → CloseGiven m x x l l (refusing refusal.Full)
  past-limit h =
      let a : Answer Said = refused Refusal.full none in
      (a, subst (λ b. OrRefused b Refusal.full a (Rest a)) (sym (lt-leb m expression_limit h)) refl, record { says = refl; stands = (refl, refl) })

  module _ (few : m ≤ expression_limit) {g : Bool} (ex : Exactly g (Good x m (length l))) where
    within : (a : Answer Said) → OrRefused g Refusal.malformed a (a ≡ closed_on (length l) (said x l)) → CloseAnswered m x l a
    within a t = subst (λ b. OrRefused b Refusal.full a (Rest a)) (sym (le-leb m expression_limit few)) (g, ex, t)

    pub bad-context : g ≡ false → CloseGiven m x x l l (refusing refusal.Malformed)
    bad-context z =
        let a : Answer Said = refused Refusal.malformed none in
        (a, within a (subst (λ b. OrRefused b Refusal.malformed a (a ≡ closed_on (length l) (said x l))) (sym z) refl), record { says = refl; stands = (refl, refl) })

    pub good-told : g ≡ true → {x' l' : List ℕ} {r : Closing} → TellsClosed (closed_on (length l) (said x l)) x l x' l' r → CloseGiven m x x' l l' r
    good-told z t =
        let a = closed_on (length l) (said x l) in
        (a, within a (subst (λ b. OrRefused b Refusal.malformed a (a ≡ closed_on (length l) (said x l))) (sym z) refl), t)
