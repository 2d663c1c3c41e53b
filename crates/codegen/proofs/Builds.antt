-- A build of a context that was loaded, and of what was read. No word of the code.
-- Assumes nothing.
use Prim.Native.Nat.{ℕ, ◌*◌, ◌≤◌}
use mathlib.Core.Path.{◌≡◌, refl, sym, ◌∙◌, ap, subst}
use mathlib.Core.Bool.{Bool, true, false, ◌&&◌, cond}
use mathlib.Core.Option.{Option, none}
use mathlib.Core.List.{List, []}
use native.Mathlib.Omega.{arith}
use lib.ListN.{length}
use lib.Dec.{leb}
use borrow.Author.Tests.{leb-true}
use Rattle.meaning.specs.Refusals.{Refusal, Answer, done, refused, ◌then◌}
use Rattle.meaning.specs.Trees.{Forest}
use Rattle.meaning.proofs.Laws.Tests.{done-same, done-not-refused}
use Rattle.kinds.specs.Write.{write}
use Rattle.kinds.specs.Steps.{step_size, steps_bytes, steps-length}
use Rattle.kinds.specs.declared.step.Step.{Step}
use Rattle.std.specs.Prelude.{Result, Ok, Err}
use Rattle.kinds.specs.Answers.{refusal_of, blame_of, refusing}
use Rattle.kinds.specs.declared.refusal.Refusal.TheVariants as refusal
use Rattle.kinds.specs.declared.refusal.Refused.{Refused}
use Rattle.frames.specs.Order.{Input}
use Rattle.frames.specs.Tables.{Tables, input_in, expression_in}
use Rattle.frames.specs.Packing.{first-length}
use Rattle.frames.specs.Reading.{held}
use Rattle.frames.specs.declared.count.Counts.{Counts}
use Rattle.pool.specs.Pool.{Pool}
use Rattle.pool.specs.Trees.{forest}
use Rattle.pool.specs.Verdict.{Verdict}
use Rattle.pool.specs.Numbered.{pool_of}
use Rattle.starkinfo_codegen.specs.Emitting as emitting
use Rattle.starkinfo_codegen.specs.Emitting.{Rest}
use Rattle.starkinfo_codegen.specs.Ordering.{marks_of}
use Rattle.requests.specs.Whole.{pool_in}
use Rattle.requests.specs.Reads.{ReadInto, read_is, pool-is}
use Rattle.builds.specs.Raw.{RawSegment, start_of, raw_blocks, raw_segment, flagged_in}
use Rattle.builds.specs.Numbered.{BlocksAsk}
use Rattle.builds.specs.Lists.{list_in, CopyAsks, every-is, list-few}
use Rattle.builds.specs.Flags.{flags_in, after-build}
use Rattle.builds.specs.Marking.{release, release_length}
use Rattle.builds.specs.declared.build.Which.{Which}
use Rattle.builds.specs.declared.build.Which.TheVariants as which
use Rattle.context.specs.Context.{blocks_in, steps_in, temporaries_in, Good, Exactly}
use Rattle.context.specs.Tables.{marks_in, words_in, Read16}
use Rattle.context.specs.Held.{stored_in}
use Rattle.codegen.specs.Said.{said, segment_said, after_said}
use Rattle.codegen.specs.Written.{mark_bytes}
use Rattle.codegen.specs.Committing.{no_words, StoreAsked}
use Rattle.codegen.specs.Serving.{OrMalformed}
use Rattle.codegen.specs.Building.{Lists, lists, fits_all, built_on, AnsweredBuild, Builds, sizes, Built, built_says, TellsBuilt, forest_read, BuildAsks}
use Rattle.codegen.specs.declared.build.Sizes.{Sizes}
use Rattle.codegen.specs.Loads as loads
use Rattle.codegen.proofs.Serves.{marks-size}

fits_by :
    (o : Lists) (s : RawSegment) (a b c : ℕ) → length s.first ≡ a → length s.i ≡ b → length s.last ≡ c →
    fits_all o s ≡ (leb (step_size * a) (length o.first) && (leb (step_size * b) (length o.i) && leb (step_size * c) (length o.last)))
unfolding fits_all
fits_by o s a b c p q r = rw (p, q, r)

-- ── of a context ─────────────────────────────────────────────────────────────
module _ (e : List ℕ) {t x : List ℕ} (l : List ℕ) {m : ℕ} (a : BuildAsks x l m) (loaded : t ≡ write no_words 0 (words_in x (blocks_in x))) {bk ak : ℕ} (rb : Read16 (blocks_in x) bk) (ra : Read16 (steps_in x) ak) where
  start : start_of t bk ≡ ak
  start = rw rb.is (loads.start-at l a.few a.good loaded) ∙ sym ra.is

  abbrev listed : Which → List Step
  listed w = list_in t e l bk m w

  pub blocks-ask : BlocksAsk t bk m
  blocks-ask = record { few = omega (arith, rb.is, a.good.head.few_blocks); expressions = a.few; steps = omega (arith, start, ra.small) }

  pub list-small : (w : Which) {v : ℕ} → v ≡ length (listed w) → v ≤ 65535
  list-small w h = omega (arith, h, list-few t e l bk m w a.few, start, ra.small)

  first-size : length (listed which.First) ≡ ak
  first-size = ap length (every-is t l bk) ∙ steps-length l (start_of t bk) ∙ start

  copy-asks : (w : Which) {room : ℕ} → step_size * length (listed w) ≤ room → CopyAsks t e l bk m w room
  copy-asks w h = record { blocks = blocks-ask; there = omega (arith, start, ra.is, a.good.head.listed); fits = h }

  pub copy-first : {room : ℕ} {r : Bool} → r ≡ leb (step_size * ak) room → r ≡ true → CopyAsks t e l bk m which.First room
  copy-first {room} h g = copy-asks which.First (rw first-size (leb-true (step_size * ak) room (sym h ∙ g)))

  pub copy_some : (w : Which) {v room : ℕ} {r : Bool} → v ≡ length (listed w) → r ≡ leb (step_size * v) room → r ≡ true → CopyAsks t e l bk m w room
  copy_some w {v} {room} q h g = copy-asks w (rw (← q) (leb-true (step_size * v) room (sym h ∙ g)))

  pub store_asks : {s' : List ℕ} {tk : ℕ} → Read16 (temporaries_in x) tk → s' ≡ release e m (marks_in x) → StoreAsked x s' t 0 0 tk
  store_asks {s'} {tk} rt h = record {
    size = a.good.head.size;
    marks = ap length h ∙ release_length e m (marks_in x) ∙ marks-size a.good;
    words = loads.full l a.few a.good loaded;
    few = omega arith;
    steps16 = omega arith;
    temporaries16 = rt.small;
    each16 = λ k g. absurd (omega arith);
  }

  module _ {vi vl : ℕ} (hi : vi ≡ length (listed which.I)) (hl : vl ≡ length (listed which.Last)) (o : Lists) (n : List ℕ) (b : Rest) (is-e : b.expressions ≡ e) (is_m : b.expression_count ≡ m) where
    abbrev F : Forest
    F = forest (emitting.pool_of n b)

    segment-is : segment_said F (said x l) ≡ raw_segment (flagged_in e m) (raw_blocks t l bk)
    segment-is =
        ap (λ (f : ℕ → Bool). raw_segment f (said x l).blocks) (flags_in n b)
        ∙ rw (is-e, is_m, rb.is) (ap (raw_segment (flagged_in e m)) (loads.said-blocks l a.few a.good loaded))

    abbrev S : RawSegment
    S = raw_segment (flagged_in e m) (raw_blocks t l bk)

    abbrev answer : Answer RawSegment
    answer = built_on F o (said x l)

    fits-is : fits_all o (segment_said F (said x l)) ≡ (leb (step_size * ak) (length o.first) && (leb (step_size * vi) (length o.i) && leb (step_size * vl) (length o.last)))
    fits-is = ap (fits_all o) segment-is ∙ fits_by o S ak vi vl first-size (sym hi) (sym hl)

    not_full : fits_all o (segment_said F (said x l)) ≡ false → TellsBuilt F answer x l o x o (refusing refusal.Full)
    not_full h =
        subst (λ (y : Answer RawSegment). TellsBuilt F y x l o x o (refusing refusal.Full)) (sym (ap (λ q. cond q (done (segment_said F (said x l))) (refused Refusal.full none)) h))
        (record { says = refl; stands = (refl, refl) })

    module _ {r₁ : Bool} (h₁ : r₁ ≡ leb (step_size * ak) (length o.first)) where
      pub first-over : r₁ ≡ false → TellsBuilt F answer x l o x o (refusing refusal.Full)
      first-over g = not_full (fits-is ∙ rw (sym h₁ ∙ g))

      module _ (g₁ : r₁ ≡ true) {r₂ : Bool} (h₂ : r₂ ≡ leb (step_size * vi) (length o.i)) where
        pub i-over : r₂ ≡ false → TellsBuilt F answer x l o x o (refusing refusal.Full)
        i-over g = not_full (fits-is ∙ rw (sym h₁ ∙ g₁, sym h₂ ∙ g))

        module _ (g₂ : r₂ ≡ true) {r₃ : Bool} (h₃ : r₃ ≡ leb (step_size * vl) (length o.last)) where
          pub last-over : r₃ ≡ false → TellsBuilt F answer x l o x o (refusing refusal.Full)
          last-over g = not_full (fits-is ∙ rw (sym h₁ ∙ g₁, sym h₂ ∙ g₂, sym h₃ ∙ g))

          marks_are : marks_of (release e m (marks_in x)) ≡ (after_said F (said x l)).marks
          marks_are =
              rw (← is-e, ← is_m)
              (after-build n b (marks_in x) (marks-size a.good) (rw is_m a.few) (record { marks = marks_of (marks_in x); blocks = []; counter = 0 }) refl)

          pub all-built :
              r₃ ≡ true → {tk : ℕ} → Read16 (temporaries_in x) tk → {s' x' f' i' l' : List ℕ} → s' ≡ release e m (marks_in x) →
              f' ≡ write o.first 0 (steps_bytes (listed which.First)) → i' ≡ write o.i 0 (steps_bytes (listed which.I)) →
              l' ≡ write o.last 0 (steps_bytes (listed which.Last)) → x' ≡ stored_in x (mark_bytes (marks_of s')) t 0 0 0 tk →
              TellsBuilt F answer x l o x' (lists f' i' l') (Ok (record { first = ak; i = vi; last = vl }))
          all-built g₃ {tk} rt {s'} {x'} {f'} {i'} {l'} p q₁ q₂ q₃ q =
              let fit : fits_all o (segment_said F (said x l)) ≡ true = fits-is ∙ rw (sym h₁ ∙ g₁, sym h₂ ∙ g₂, sym h₃ ∙ g₃) in
              let yes : answer ≡ done S = ap (λ z. cond z (done (segment_said F (said x l))) (refused Refusal.full none)) fit ∙ ap done segment-is in
              let ctx : x' ≡ stored_in x (mark_bytes (after_said F (said x l)).marks) t 0 0 0 (temporaries_in x) = q ∙ rw (p, marks_are, rt.is) in
              let sz : built_says (Ok (record { first = ak; i = vi; last = vl })) ≡ done (sizes S)
              = ap (λ k. done (record { first = k; i = vi; last = vl })) (sym first-size)
              ∙ ap (λ k. done (record { first = length S.first; i = k; last = vl })) hi
              ∙ ap (λ k. done (record { first = length S.first; i = length S.i; last = k })) hl in
              subst (λ (y : Answer RawSegment). TellsBuilt F y x l o x' (lists f' i' l') (Ok (record { first = ak; i = vi; last = vl }))) (sym yes)
              (record { says = sz; stands = (ctx, rw (q₁, q₂, q₃)) })

-- the rest of a pool of which the table of nodes is no part
abbrev pub rest_of : List ℕ → List ℕ → Counts → Rest
rest_of ls e c = record { literals = ls; expressions = e; node_count = c.nodes; expression_count = c.expressions }

-- ── of what was read ─────────────────────────────────────────────────────────
module _ (n e : List ℕ) (c : Counts) (x l : List ℕ) (o : Lists) {g : Bool} (ex : Exactly g (Good x c.expressions (length l))) where
  abbrev pub JudgedBuild : List ℕ → List ℕ → Lists → Built → Type 0
  JudgedBuild ls x' o' r =
      (a : Answer RawSegment) × AnsweredBuild (pool_in n ls e c) c.expressions x l o a × TellsBuilt (forest (pool_in n ls e c)) a x l o x' o' r

  abbrev tail : List ℕ → Answer (Unit {0}) → Answer RawSegment
  tail ls v = v then λ _. built_on (forest (pool_in n ls e c)) o (said x l)

  abbrev Judged : List ℕ → Answer RawSegment → Type 0
  Judged ls a = (v : Answer (Unit {0})) × Verdict (pool_in n ls e c) [] v × (a ≡ tail ls v)

  pub bad-context : g ≡ false → (ls : List ℕ) → JudgedBuild ls x o (refusing refusal.Malformed)
  bad-context z ls =
      let a : Answer RawSegment = refused Refusal.malformed none in
      (a, (g, ex, subst (λ b. OrMalformed b a (Judged ls a)) (sym z) refl), record { says = refl; stands = (refl, refl) })

  module _ (z : g ≡ true) where
    checked : (ls : List ℕ) (a : Answer RawSegment) → Judged ls a → AnsweredBuild (pool_in n ls e c) c.expressions x l o a
    checked ls a t = (g, ex, subst (λ b. OrMalformed b a (Judged ls a)) (sym z) t)

    pub pool-refused : (ls : List ℕ) {k : Refusal} {i : Option ℕ} → Verdict (pool_in n ls e c) [] (refused k i) → (y : Built) → built_says y ≡ refused k i → JudgedBuild ls x o y
    pool-refused ls {k} {i} j y p = (refused k i, checked ls (refused k i) (refused k i, j, refl), record { says = p; stands = (refl, refl) })

    pub judged-built :
        (ls : List ℕ) → Verdict (pool_in n ls e c) [] (done tt) → {x' : List ℕ} {o' : Lists} {y : Built} →
        TellsBuilt (forest (pool_in n ls e c)) (tail ls (done tt)) x l o x' o' y → JudgedBuild ls x' o' y
    judged-built ls j t = (tail ls (done tt), checked ls (tail ls (done tt)) (done tt, j, refl), t)

module _ {u : Tables} {y : Answer Input} {r : Result Counts Refused} (a : ReadInto u r y) (x l : List ℕ) (o : Lists) where
  abbrev Given : List ℕ → Lists → Built → Type 0
  Given x' o' g = (z : Answer RawSegment) × Builds y x l o z × TellsBuilt (forest_read y) z x l o x' o' g

  unread : {k : Refusal} {i : Option ℕ} → refused k i ≡ y → Builds y x l o (refused k i)
  unread h = record {
    unread = λ k i q. same (h ∙ q);
    read = λ i q. absurd (done-not-refused (sym q ∙ sym h));
  }
    where
      same : {k k' : Refusal} {i i' : Option ℕ} → ◌≡◌ {A = Answer Input} (refused k i) (refused k' i') → ◌≡◌ {A = Answer RawSegment} (refused k i) (refused k' i')
      same {k} {k'} {i} {i'} e =
          let p : k ≡ k' = cc in
          let q : i ≡ i' = cc in
          rw (p, q)

  pub refused-built : {f : Refused} → r ≡ Err f → Given x o (Err f)
  refused-built {f} q = (refused (refusal_of f.refusal) (blame_of f.node), unread (ap (held u) (sym q) ∙ a.answer), record { says = refl; stands = (refl, refl) })

  module _ {c : Counts} (q : r ≡ Ok c) where
    expressions_count : length (input_in u c).expressions ≡ c.expressions
    unfolding input_in
    expressions_count = first-length (expression_in u.expressions) c.expressions

    answered : (z : Answer RawSegment) → AnsweredBuild (pool_in u.nodes u.literals u.expressions c) c.expressions x l o z → AnsweredBuild (pool_of (input_in u c)) (length (input_in u c).expressions) x l o z
    answered z h =
        subst (λ (p : Pool). AnsweredBuild p (length (input_in u c).expressions) x l o z) (sym (pool-is a q))
        (subst (λ m. AnsweredBuild (pool_in u.nodes u.literals u.expressions c) m x l o z) (sym expressions_count) h)

    pub read-built :
        {x' : List ℕ} {o' : Lists} {g : Built} →
        ((ls : List ℕ) →
        (z : Answer RawSegment) × AnsweredBuild (pool_in u.nodes ls u.expressions c) c.expressions x l o z × TellsBuilt (forest (pool_in u.nodes ls u.expressions c)) z x l o x' o' g) →
        Given x' o' g
    read-built {x'} {o'} {g} f =
        let t = f u.literals in (
          t.0,
          record {
            unread = λ k i e. absurd (done-not-refused (read_is a q ∙ e));
            read = λ i e. subst (λ (v : Input). AnsweredBuild (pool_of v) (length v.expressions) x l o t.0) (done-same _ _ (read_is a q ∙ e)) (answered t.0 t.1);
          },
          subst (λ (v : Answer Input). TellsBuilt (forest_read v) t.0 x l o x' o' g) (read_is a q)
              (subst (λ (p : Pool). TellsBuilt (forest p) t.0 x l o x' o' g) (sym (pool-is a q)) t.2),
        )
