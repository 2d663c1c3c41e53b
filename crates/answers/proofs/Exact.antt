-- EACH NUMBER EXACTLY WHEN one of its ways is open, for each part of a call: frames, a pool, and what each exported function does after them.
-- Assumes nothing.
use Rattle.std.specs.Prelude.{ℕ, ◌*◌, ◌≡◌, refl, Bool, true, false, cond, ◌&&◌, List, [], ◌⊎◌, ◌↔◌, length, leb, ltb}
use Rattle.std.proofs.Common.{sym, ◌∙◌, ap, subst, inl, inr, arith, leb-true, leb-false, le-leb, ltb-true, ltb-false, lt-ltb}
use Rattle.std.proofs.Math.Option.{Option, none}
use Rattle.meaning.specs.Refusals.{Refusal, Answer, done, refused, ◌then◌, answer_no}
use Rattle.meaning.specs.Trees.{Forest, Acyclic}
use Rattle.meaning.specs.Running.{empty}
use Rattle.meaning.specs.Generation.{Request, start, serve_all}
use Rattle.meaning.specs.Building.{Segment, whole}
use Rattle.meaning.proofs.Exactly.{all_3, all_5, plain-only, whole-number}
use Rattle.meaning.proofs.Laws.Standing.{start-stepped}
use Rattle.meaning.proofs.Laws.Tests.{true-false, number-not-zero, done-same, then-done}
use Rattle.frames.specs.Order.{Input}
use Rattle.frames.specs.Reading.{reading}
use Rattle.frames.specs.Exactly as frames
use Rattle.pool.specs.Pool.{Pool}
use Rattle.pool.specs.Trees.{forest}
use Rattle.pool.specs.Verdict.{Verdict}
use Rattle.pool.specs.Exactly as pool
use Rattle.pool.specs.Numbered.{pool_of}
use Rattle.kinds.specs.Steps.{step_size}
use Rattle.requests.specs.Generating.{number_limit}
use Rattle.requests.specs.Whole as run
use Rattle.requests.specs.Runs.{requests_of, BytesRun}
use Rattle.requests.specs.Serving.{plain-requests}
use Rattle.context.specs.Context.{Good, Exactly}
use Rattle.builds.specs.Raw.{RawSegment}
use Rattle.codegen.specs.Said.{Said, said, serve_said, segment_said}
use Rattle.codegen.specs.Results.{result_good}
use Rattle.codegen.specs.Written.{step_count, fits, fitting}
use Rattle.codegen.specs.Serving.{OrMalformed, served_on, Serves}
use Rattle.codegen.specs.Building.{Lists, fits_all, built_on, AnsweredBuild, Builds}
use Rattle.codegen.specs.Exactly.{AnsweredFor, Judged, Checked, Served, NoRoom, NoRoomFor, served_9, served-only, built_9}
use Rattle.codegen.specs.Shadows.{said_3, said_5, said_7, said_8}
use Rattle.codegen.specs.declared.asked.Wanted.{Wanted}
use Rattle.lists.specs.Records.{records_in}
use Rattle.evaluator_cells.specs.Given.{lent}
use Rattle.evaluator_cells.specs.Literals.{brought_at}
use Rattle.evaluator_run.specs.Evaluation.{Valued, well_formed, ruling}
use Rattle.evaluator.specs.Answer as evaluator
use Rattle.evaluator.specs.Answer.{Evaluates}
use Rattle.evaluator.specs.Conditions.{ill-formed, refused-at}
use Rattle.evaluator.specs.Exactly as evaluates
use Rattle.search_meaning.specs.Search.{Choice}
use Rattle.search_meaning.proofs.SearchCases as search
use Rattle.degree_search.specs.Searching.{asking, searched, Runs}
use Rattle.answers.specs.Ways as way
use Rattle.answers.specs.Ways.{OfFrames, OfPool, asked_for}

-- a number has its way, and each way its number
pub both : {n : ℕ} (W : ℕ → Type 0) → W n → ((k : ℕ) → W k → n ≡ k) → (k : ℕ) → (n ≡ k) ↔ W k
both W w f k = (λ e. subst W e w, f k)

-- ── frames ───────────────────────────────────────────────────────────────────
module _ (s : List ℕ) (C : Input → ℕ → Type 0) {A : Type 0} (a : Answer A) (unread : (k : Refusal) (o : Option ℕ) → reading s ≡ refused k o → a ≡ refused k o) (on_read : (i : Input) → reading s ≡ done i → (k : ℕ) → (answer_no a ≡ k) ↔ C i k) where
  frames-way : OfFrames s C (answer_no a)
  frames-way = go (reading s) refl (frames.no_other s)
    where
      go : (y : Answer Input) → reading s ≡ y → (answer_no (reading s) ≡ 0) ⊎ ((answer_no (reading s) ≡ 1) ⊎ (answer_no (reading s) ≡ 9)) → OfFrames s C (answer_no a)
      go (done i) e n = OfFrames.read i e ((on_read i e (answer_no a)).0 refl)
      go (refused k o) e (inl z) = absurd (number-not-zero k (sym (ap answer_no e) ∙ z))
      go (refused k o) e (inr (inl z)) = subst (OfFrames s C) (sym (ap answer_no (unread k o e) ∙ sym (ap answer_no e) ∙ z)) (OfFrames.malformed ((frames.row_1 s).0 z))
      go (refused k o) e (inr (inr z)) = subst (OfFrames s C) (sym (ap answer_no (unread k o e) ∙ sym (ap answer_no e) ∙ z)) (OfFrames.past ((frames.row_9 s).0 z))

  refused_so : (k : ℕ) → answer_no (reading s) ≡ k → (k ≡ 0 → ⊥) → answer_no a ≡ k
  refused_so k q z = go (reading s) refl
    where
      go : (y : Answer Input) → reading s ≡ y → answer_no a ≡ k
      go (done i) e = absurd (z (sym q ∙ ap answer_no e))
      go (refused r o) e = ap answer_no (unread r o e) ∙ sym (ap answer_no e) ∙ q

  frames-number : (k : ℕ) → OfFrames s C k → answer_no a ≡ k
  frames-number k (OfFrames.malformed w) = refused_so 1 ((frames.row_1 s).1 w) (λ z. omega arith)
  frames-number k (OfFrames.past w) = refused_so 9 ((frames.row_9 s).1 w) (λ z. omega arith)
  frames-number k (OfFrames.read i e c) = (on_read i e k).1 c

  pub of-frames : (k : ℕ) → (answer_no a ≡ k) ↔ OfFrames s C k
  of-frames = both (OfFrames s C) frames-way frames-number

-- ── a pool ───────────────────────────────────────────────────────────────────
module _ (p : Pool) (C : Acyclic (forest p) → ℕ → Type 0) {A : Type 0} (rest : Answer A) (onward : Verdict p [] (done tt) → (c : Acyclic (forest p)) → (k : ℕ) → (answer_no rest ≡ k) ↔ C c k) where
  abbrev after : Answer (Unit {0}) → Answer A
  after v = v then λ _. rest

  module _ (a : Answer A) (judged : (v : Answer (Unit {0})) × Verdict p [] v × (a ≡ (v then λ _. rest))) where
    pool-way : OfPool p C (answer_no a)
    pool-way = go judged.0 judged.1 judged.2
      where
        go : (v : Answer (Unit {0})) → Verdict p [] v → a ≡ after v → OfPool p C (answer_no a)
        go (done u) v e =
            let k = (pool.exactly_0 p (done u) v).0 refl in
            OfPool.admitted k.0 k.1 ((onward v k.1 (answer_no a)).0 (sym (ap answer_no e)))
        go (refused r o) v e = by (pool.cases p [] (refused r o) v)
          where
            by : pool.Case p [] (refused r o) → OfPool p C (answer_no a)
            by (pool.Case.two w q) = subst (OfPool p C) (sym (ap answer_no e ∙ q)) (OfPool.child_count w)
            by (pool.Case.three w x q) = subst (OfPool p C) (sym (ap answer_no e ∙ q)) (OfPool.lost w x)
            by (pool.Case.four w x q) = let z = (pool.exactly_4 p [] (refused r o) v).0 q in subst (OfPool p C) (sym (ap answer_no e ∙ q)) (OfPool.cycle z.0 z.1 z.2)
            by (pool.Case.admitted w k x q) = absurd (number-not-zero r q)

    stops : (v : Answer (Unit {0})) → a ≡ after v → (k : ℕ) → answer_no v ≡ k → (k ≡ 0 → ⊥) → answer_no a ≡ k
    stops (done u) e k q z = absurd (z (sym q))
    stops (refused r o) e k q z = ap answer_no e ∙ q

    pool-number : (k : ℕ) → OfPool p C k → answer_no a ≡ k
    pool-number k (OfPool.child_count w) = stops judged.0 judged.2 2 ((pool.exactly_2 p [] judged.0 judged.1).1 w) (λ z. omega arith)
    pool-number k (OfPool.lost w x) = stops judged.0 judged.2 3 ((pool.exactly_3 p [] judged.0 judged.1).1 (w, x)) (λ z. omega arith)
    pool-number k (OfPool.cycle w x y) = stops judged.0 judged.2 4 ((pool.exactly_4 p [] judged.0 judged.1).1 (w, x, y)) (λ z. omega arith)
    pool-number k (OfPool.admitted s c x) = go judged.0 judged.1 judged.2 ((pool.exactly_0 p judged.0 judged.1).1 (s, c))
      where
        go : (v : Answer (Unit {0})) → Verdict p [] v → a ≡ after v → answer_no v ≡ 0 → answer_no a ≡ k
        go (done u) v e z = ap answer_no e ∙ (onward v c k).1 x
        go (refused r o) v e z = absurd (number-not-zero r z)

    pub of-pool : (k : ℕ) → (answer_no a ≡ k) ↔ OfPool p C k
    of-pool = both (OfPool p C) pool-way pool-number

-- ── enonkasse_serve ──────────────────────────────────────────────────────────
module _ (w : Wanted) (x l : List ℕ) (i : Input) where
  abbrev E : Forest
  E = forest (pool_of i)

  abbrev qs : List Request
  qs = asked_for w x l i

  abbrev good_result : Bool
  good_result = result_good w.kind w.id (length i.requests)

  module _ (good : Good x (length i.expressions) (length l)) (acyclic : Acyclic E) where
    abbrev answer : Answer Said
    answer = served_on E qs (length l) (said x l)

    -- a number that the room does not give
    of-said : (k : ℕ) → (k ≡ 0 → ⊥) → (k ≡ 9 → ⊥) → (answer_no answer ≡ k) ↔ (answer_no (serve_said E qs (said x l)) ≡ k)
    of-said k z n = go (serve_said E qs (said x l))
      where
        room : (st : Said) (b : Bool) → answer_no (cond b (done st) (refused Refusal.full none)) ≡ k → ⊥
        room st true e = z (sym e)
        room st false e = n (sym e)

        go : (y : Answer Said) → (answer_no (y then fitting (length l)) ≡ k) ↔ (answer_no y ≡ k)
        go (done st) = (λ e. absurd (room st (fits (length l) (step_count st) st.counter) e), λ e. absurd (z (sym e)))
        go (refused r o) = (λ e. e, λ e. e)

    -- 0 is not 9
    roomy : (st : Said) → serve_said E qs (said x l) ≡ done st → answer_no answer ≡ 0 → NoRoom E acyclic (length l) st → ⊥
    roomy st e q n = let y = (served_9 E acyclic qs (length l) (said x l)).1 (st, e, n) in omega (arith, q, y)

    served-way : way.Served w x l i acyclic (answer_no answer)
    served-way = go (served-only E acyclic qs (length l) (said x l))
      where
        is-done : (y : Answer Said) → answer_no y ≡ 0 → (st : Said) × (y ≡ done st)
        is-done (done st) e = (st, refl)
        is-done (refused r o) e = absurd (number-not-zero r e)

        go : Served (answer_no answer) ⊎ (answer_no answer ≡ 9) → way.Served w x l i acyclic (answer_no answer)
        go (inl (inl e)) =
            let d = is-done answer e in
            let y = then-done (serve_said E qs (said x l)) (fitting (length l)) d.1 in
            subst (way.Served w x l i acyclic) (sym e) (way.Served.served y.0 y.1 (roomy y.0 y.1 e))
        go (inl (inr (inl e))) =
            subst (way.Served w x l i acyclic) (sym e) (way.Served.lost ((said_3 x l (length i.expressions) (length l) good E acyclic qs).0 ((of-said 3 (λ z. omega arith) (λ z. omega arith)).0 e)))
        go (inl (inr (inr (inl e)))) =
            subst (way.Served w x l i acyclic) (sym e) (way.Served.double_prime ((said_5 x l (length i.expressions) (length l) good E acyclic qs).0 ((of-said 5 (λ z. omega arith) (λ z. omega arith)).0 e)))
        go (inl (inr (inr (inr (inl e))))) =
            subst (way.Served w x l i acyclic) (sym e) (way.Served.no_primed_mark ((said_7 x l (length i.expressions) (length l) good E acyclic qs).0 ((of-said 7 (λ z. omega arith) (λ z. omega arith)).0 e)))
        go (inl (inr (inr (inr (inr e))))) =
            subst (way.Served w x l i acyclic) (sym e) (way.Served.no_block ((said_8 x l (length i.expressions) (length l) good E acyclic qs).0 ((of-said 8 (λ z. omega arith) (λ z. omega arith)).0 e)))
        go (inr e) = let y = (served_9 E acyclic qs (length l) (said x l)).0 e in subst (way.Served w x l i acyclic) (sym e) (way.Served.full y.0 y.1 y.2)

    served-number : (k : ℕ) → way.Served w x l i acyclic k → answer_no answer ≡ k
    served-number k (way.Served.lost c) = (of-said 3 (λ z. omega arith) (λ z. omega arith)).1 ((said_3 x l (length i.expressions) (length l) good E acyclic qs).1 c)
    served-number k (way.Served.double_prime c) = (of-said 5 (λ z. omega arith) (λ z. omega arith)).1 ((said_5 x l (length i.expressions) (length l) good E acyclic qs).1 c)
    served-number k (way.Served.no_primed_mark c) = (of-said 7 (λ z. omega arith) (λ z. omega arith)).1 ((said_7 x l (length i.expressions) (length l) good E acyclic qs).1 c)
    served-number k (way.Served.no_block c) = (of-said 8 (λ z. omega arith) (λ z. omega arith)).1 ((said_8 x l (length i.expressions) (length l) good E acyclic qs).1 c)
    served-number k (way.Served.full st e c) = (served_9 E acyclic qs (length l) (said x l)).1 (st, e, c)
    served-number k (way.Served.served st e c) = ap (λ (y : Answer Said). answer_no (y then fitting (length l))) e ∙ go (fits (length l) (step_count st) st.counter) refl
      where
        go : (b : Bool) → fits (length l) (step_count st) st.counter ≡ b → answer_no (cond b (done st) (refused Refusal.full none)) ≡ 0
        go true q = refl
        go false q =
            let n : answer_no answer ≡ 9 = ap (λ (y : Answer Said). answer_no (y then fitting (length l))) e ∙ ap (λ b. answer_no (cond b (done st) (refused Refusal.full none))) q in
            let y = (served_9 E acyclic qs (length l) (said x l)).0 n in
            absurd (c (subst (NoRoom E acyclic (length l)) (done-same _ _ (sym y.1 ∙ e)) y.2))

  module _ (a : Answer Said) (h : AnsweredFor i w x l a) where
    abbrev on_served : Good x (length i.expressions) (length l) → (a : Answer Said) → Judged i w x l a → (k : ℕ) → (answer_no a ≡ k) ↔ OfPool (pool_of i) (way.Served w x l i) k
    on_served g a j = of-pool (pool_of i) (way.Served w x l i) (served_on E qs (length l) (said x l)) (λ v c. both (way.Served w x l i c) (served-way g c) (served-number g c)) a j

    serve-way : way.ServeRead w x l i (answer_no a)
    serve-way = result good_result refl h
      where
        context : good_result ≡ true → (g : Bool) → Exactly g (Good x (length i.expressions) (length l)) → OrMalformed g a (Judged i w x l a) → way.ServeRead w x l i (answer_no a)
        context p true ex j = way.ServeRead.good p (ex.0 refl) ((on_served (ex.0 refl) a j (answer_no a)).0 refl)
        context p false ex e = subst (way.ServeRead w x l i) (sym (ap answer_no e)) (way.ServeRead.bad_context p (λ g. true-false (ex.1 g) refl))

        result : (t : Bool) → good_result ≡ t → OrMalformed t a (Checked i w x l a) → way.ServeRead w x l i (answer_no a)
        result false p e = subst (way.ServeRead w x l i) (sym (ap answer_no e)) (way.ServeRead.bad_result p)
        result true p (g, ex, j) = context p g ex j

    serve-number : (k : ℕ) → way.ServeRead w x l i k → answer_no a ≡ k
    serve-number k (way.ServeRead.bad_result p) = go good_result p h
      where
        go : (t : Bool) → t ≡ false → OrMalformed t a (Checked i w x l a) → answer_no a ≡ 1
        go false q e = ap answer_no e
        go true q e = absurd (true-false refl q)
    serve-number k (way.ServeRead.bad_context p n) = go good_result p h
      where
        by : (g : Bool) → Exactly g (Good x (length i.expressions) (length l)) → OrMalformed g a (Judged i w x l a) → answer_no a ≡ 1
        by true ex e = absurd (n (ex.0 refl))
        by false ex e = ap answer_no e

        go : (t : Bool) → t ≡ true → OrMalformed t a (Checked i w x l a) → answer_no a ≡ 1
        go false q e = absurd (true-false q refl)
        go true q (g, ex, j) = by g ex j
    serve-number k (way.ServeRead.good p g c) = go good_result p h
      where
        by : (b : Bool) → Exactly b (Good x (length i.expressions) (length l)) → OrMalformed b a (Judged i w x l a) → answer_no a ≡ k
        by true ex j = (on_served g a j k).1 c
        by false ex e = absurd (true-false (ex.1 g) refl)

        go : (t : Bool) → t ≡ true → OrMalformed t a (Checked i w x l a) → answer_no a ≡ k
        go false q e = absurd (true-false q refl)
        go true q (b, ex, j) = by b ex j

pub of-serve : (s : List ℕ) (w : Wanted) (x l : List ℕ) (a : Answer Said) → Serves (reading s) w x l a → (k : ℕ) → (answer_no a ≡ k) ↔ way.ServeWay s w x l k
of-serve s w x l a h =
    of-frames s (way.ServeRead w x l) a h.unread (λ i e. both (way.ServeRead w x l i) (serve-way w x l i a (h.read i e)) (serve-number w x l i a (h.read i e)))

-- ── enonkasse_build ──────────────────────────────────────────────────────────
module _ (x l : List ℕ) (o : Lists) (i : Input) where
  abbrev seg : RawSegment
  seg = segment_said (forest (pool_of i)) (said x l)

  abbrev built_answer : Answer RawSegment
  built_answer = built_on (forest (pool_of i)) o (said x l)

  abbrev GoodHere : Type 0
  GoodHere = Good x (length i.expressions) (length l)

  module _ (good : GoodHere) (v : Verdict (pool_of i) [] (done tt)) where
    nine : (answer_no built_answer ≡ 9) ↔ NoRoomFor o seg
    nine =
        let c = (pool.exactly_0 (pool_of i) (done tt) v).0 refl in
        let b = built_9 i x l o built_answer (true, (λ e. good, λ g. refl), (done tt, v, refl)) in
        (λ e. (b.0 e).over, λ n. b.1 (record { good = good; admitted = record { shaped = c.0; acyclic = c.1 }; over = n }))

    abbrev number_by : Bool → ℕ
    number_by b = answer_no (cond b (done seg) (refused Refusal.full none))

    built-way : way.Built x l o i (answer_no built_answer)
    built-way = go (fits_all o seg) refl
      where
        go : (b : Bool) → fits_all o seg ≡ b → way.Built x l o i (answer_no built_answer)
        go true e = subst (way.Built x l o i) (sym (ap number_by e)) (way.Built.built (λ n. let z : answer_no built_answer ≡ 9 = nine.1 n in let y : answer_no built_answer ≡ 0 = ap number_by e in omega (arith, z, y)))
        go false e = subst (way.Built x l o i) (sym (ap number_by e)) (way.Built.full (nine.0 (ap number_by e)))

    built-number : (k : ℕ) → way.Built x l o i k → answer_no built_answer ≡ k
    built-number k (way.Built.full n) = nine.1 n
    built-number k (way.Built.built n) = go (fits_all o seg) refl
      where
        go : (b : Bool) → fits_all o seg ≡ b → answer_no built_answer ≡ 0
        go true e = ap number_by e
        go false e = absurd (n (nine.0 (ap number_by e)))

  module _ (a : Answer RawSegment) (h : AnsweredBuild (pool_of i) (length i.expressions) x l o a) where
    abbrev JudgedBuild : Type 0
    JudgedBuild = (v : Answer (Unit {0})) × Verdict (pool_of i) [] v × (a ≡ (v then λ _. built_answer))

    abbrev on_built : GoodHere → JudgedBuild → (k : ℕ) → (answer_no a ≡ k) ↔ OfPool (pool_of i) (λ c. way.Built x l o i) k
    on_built g j = of-pool (pool_of i) (λ c. way.Built x l o i) built_answer (λ v c. both (way.Built x l o i) (built-way g v) (built-number g v)) a j

    build-way : way.BuildRead x l o i (answer_no a)
    build-way = go h.0 h.1 h.2
      where
        go : (g : Bool) → Exactly g GoodHere → OrMalformed g a JudgedBuild → way.BuildRead x l o i (answer_no a)
        go true ex j = way.BuildRead.good (ex.0 refl) ((on_built (ex.0 refl) j (answer_no a)).0 refl)
        go false ex e = subst (way.BuildRead x l o i) (sym (ap answer_no e)) (way.BuildRead.bad_context (λ g. true-false (ex.1 g) refl))

    build-number : (k : ℕ) → way.BuildRead x l o i k → answer_no a ≡ k
    build-number k (way.BuildRead.bad_context n) = go h.0 h.1 h.2
      where
        go : (g : Bool) → Exactly g GoodHere → OrMalformed g a JudgedBuild → answer_no a ≡ 1
        go true ex j = absurd (n (ex.0 refl))
        go false ex e = ap answer_no e
    build-number k (way.BuildRead.good g c) = go h.0 h.1 h.2
      where
        go : (b : Bool) → Exactly b GoodHere → OrMalformed b a JudgedBuild → answer_no a ≡ k
        go true ex j = (on_built g j k).1 c
        go false ex e = absurd (true-false (ex.1 g) refl)

pub of-build : (s x l : List ℕ) (o : Lists) (a : Answer RawSegment) → Builds (reading s) x l o a → (k : ℕ) → (answer_no a ≡ k) ↔ way.BuildWay s x l o k
of-build s x l o a h =
    of-frames s (way.BuildRead x l o) a h.unread (λ i e. both (way.BuildRead x l o i) (build-way x l o i a (h.read i e)) (build-number x l o i a (h.read i e)))

-- ── enonkasse_run ────────────────────────────────────────────────────────────
module _ (room : ℕ) (i : Input) (acyclic : Acyclic (forest (pool_of i))) where
  abbrev F : Forest
  F = forest (pool_of i)

  abbrev run_answer : Answer Segment
  run_answer = run.served F (requests_of i) room

  abbrev room_number : Bool → Bool → Segment → ℕ
  room_number p q g = answer_no (cond (p && q) (done g) (refused Refusal.full none))

  of-whole : (g : Segment) → whole 2 F (requests_of i) ≡ done g → answer_no run_answer ≡ room_number (leb (step_size * length g.first) room) (ltb g.counter number_limit) g
  of-whole g e = ap (λ (y : Answer Segment). answer_no (y then run.fitting room)) e

  of-refused : (k : Refusal) (o : Option ℕ) → whole 2 F (requests_of i) ≡ refused k o → answer_no run_answer ≡ answer_no (serve_all 2 F (requests_of i) start)
  of-refused k o e = ap (λ (y : Answer Segment). answer_no (y then run.fitting room)) e ∙ sym (ap answer_no e) ∙ whole-number 2 F (requests_of i)

  ran-way : way.Ran room i (answer_no run_answer)
  ran-way = go (whole 2 F (requests_of i)) refl
    where
      fits_so : (g : Segment) → whole 2 F (requests_of i) ≡ done g → (p : Bool) → leb (step_size * length g.first) room ≡ p → (q : Bool) → ltb g.counter number_limit ≡ q → way.Ran room i (room_number p q g)
      fits_so g e true a true b = way.Ran.ran g e (leb-true (step_size * length g.first) room a, ltb-true g.counter number_limit b)
      fits_so g e false a q b = way.Ran.full g e (λ f. let l = leb-false (step_size * length g.first) room a in omega (arith, l, f.0))
      fits_so g e true a false b = way.Ran.full g e (λ f. let l = ltb-false g.counter number_limit b in omega (arith, l, f.1))

      numbered : (k : Refusal) (o : Option ℕ) → whole 2 F (requests_of i) ≡ refused k o → (n : ℕ) → answer_no (serve_all 2 F (requests_of i) start) ≡ n → answer_no run_answer ≡ n
      numbered k o e n q = of-refused k o e ∙ q

      stopped :
          (k : Refusal) (o : Option ℕ) → whole 2 F (requests_of i) ≡ refused k o →
          (answer_no (serve_all 2 F (requests_of i) start) ≡ 0) ⊎ ((answer_no (serve_all 2 F (requests_of i) start) ≡ 3) ⊎ (answer_no (serve_all 2 F (requests_of i) start) ≡ 5)) → way.Ran room i (answer_no run_answer)
      stopped k o e (inl q) = absurd (number-not-zero k (sym (ap answer_no e) ∙ whole-number 2 F (requests_of i) ∙ q))
      stopped k o e (inr (inl q)) = subst (way.Ran room i) (sym (numbered k o e 3 q)) (way.Ran.lost ((all_3 2 F acyclic (requests_of i) start start-stepped).0 q))
      stopped k o e (inr (inr q)) = subst (way.Ran room i) (sym (numbered k o e 5 q)) (way.Ran.double_prime ((all_5 2 F acyclic (requests_of i) start start-stepped).0 q))

      go : (y : Answer Segment) → whole 2 F (requests_of i) ≡ y → way.Ran room i (answer_no run_answer)
      go (done g) e = subst (way.Ran room i) (sym (of-whole g e)) (fits_so g e (leb (step_size * length g.first) room) refl (ltb g.counter number_limit) refl)
      go (refused k o) e = stopped k o e (plain-only 2 F acyclic (requests_of i) start start-stepped (plain-requests i.requests))

  ran-number : (k : ℕ) → way.Ran room i k → answer_no run_answer ≡ k
  ran-number k (way.Ran.lost c) = go (whole 2 F (requests_of i)) refl ((all_3 2 F acyclic (requests_of i) start start-stepped).1 c)
    where
      go : (y : Answer Segment) → whole 2 F (requests_of i) ≡ y → answer_no (serve_all 2 F (requests_of i) start) ≡ 3 → answer_no run_answer ≡ 3
      go (done g) e q = absurd (let z : 0 ≡ 3 = sym (ap answer_no e) ∙ whole-number 2 F (requests_of i) ∙ q in omega arith)
      go (refused r o) e q = of-refused r o e ∙ q
  ran-number k (way.Ran.double_prime c) = go (whole 2 F (requests_of i)) refl ((all_5 2 F acyclic (requests_of i) start start-stepped).1 c)
    where
      go : (y : Answer Segment) → whole 2 F (requests_of i) ≡ y → answer_no (serve_all 2 F (requests_of i) start) ≡ 5 → answer_no run_answer ≡ 5
      go (done g) e q = absurd (let z : 0 ≡ 5 = sym (ap answer_no e) ∙ whole-number 2 F (requests_of i) ∙ q in omega arith)
      go (refused r o) e q = of-refused r o e ∙ q
  ran-number k (way.Ran.full g e n) = of-whole g e ∙ go (leb (step_size * length g.first) room) refl (ltb g.counter number_limit) refl
    where
      go : (p : Bool) → leb (step_size * length g.first) room ≡ p → (q : Bool) → ltb g.counter number_limit ≡ q → room_number p q g ≡ 9
      go true a true b = absurd (n (leb-true (step_size * length g.first) room a, ltb-true g.counter number_limit b))
      go false a q b = refl
      go true a false b = refl
  ran-number k (way.Ran.ran g e f) = of-whole g e ∙ rw (le-leb (step_size * length g.first) room f.0, lt-ltb g.counter number_limit f.1)

pub of-run : (s : List ℕ) (room : ℕ) (a : Answer Segment) → BytesRun s room a → (k : ℕ) → (answer_no a ≡ k) ↔ way.RunWay s room k
of-run s room a h =
    of-frames s (λ i. OfPool (pool_of i) (λ c. way.Ran room i)) a h.unread
    (λ i q. of-pool (pool_of i) (λ c. way.Ran room i) (run.served (forest (pool_of i)) (requests_of i) room)
    (λ v c. both (way.Ran room i) (ran-way room i c) (ran-number room i c)) a (h.judged i q))

-- ── enonkasse_evaluate ───────────────────────────────────────────────────────
module _ (list : List ℕ) (m : ℕ) (ws : List ℕ) (room : ℕ) (i : Input) where
  abbrev value_answer : Answer (List Valued)
  value_answer = ruling (brought_at (pool_of i)) (lent ws) m list room

  evaluated-way : way.Evaluated list m ws room i (answer_no value_answer)
  evaluated-way = go (evaluates.no_other (brought_at (pool_of i)) (lent ws) m list room)
    where
      go : (answer_no value_answer ≡ 0) ⊎ ((answer_no value_answer ≡ 9) ⊎ (answer_no value_answer ≡ 10)) → way.Evaluated list m ws room i (answer_no value_answer)
      go (inl e) = subst (way.Evaluated list m ws room i) (sym e) (way.Evaluated.answered ((evaluates.exactly_0 (brought_at (pool_of i)) (lent ws) m list room).0 e))
      go (inr (inl e)) = subst (way.Evaluated list m ws room i) (sym e) (way.Evaluated.full ((evaluates.exactly_9 (brought_at (pool_of i)) (lent ws) m list room).0 e))
      go (inr (inr e)) =
          subst (way.Evaluated list m ws room i) (sym e)
          (way.Evaluated.no_rule ((refused-at (brought_at (pool_of i)) (lent ws) m (records_in list) empty).0 ((evaluates.exactly_10 (brought_at (pool_of i)) (lent ws) m list room).0 e)))

  evaluated-number : (k : ℕ) → way.Evaluated list m ws room i k → answer_no value_answer ≡ k
  evaluated-number k (way.Evaluated.no_rule c) =
      (evaluates.exactly_10 (brought_at (pool_of i)) (lent ws) m list room).1 ((refused-at (brought_at (pool_of i)) (lent ws) m (records_in list) empty).1 c)
  evaluated-number k (way.Evaluated.full c) = (evaluates.exactly_9 (brought_at (pool_of i)) (lent ws) m list room).1 c
  evaluated-number k (way.Evaluated.answered c) = (evaluates.exactly_0 (brought_at (pool_of i)) (lent ws) m list room).1 c

  module _ (a : Answer (List Valued)) (ill : well_formed ws m list ≡ false → a ≡ refused Refusal.malformed none) (judged : well_formed ws m list ≡ true → evaluator.Judged list m ws room (pool_of i) a) where
    abbrev on_valued : (f : well_formed ws m list ≡ true) (k : ℕ) → (answer_no a ≡ k) ↔ OfPool (pool_of i) (λ c. way.Evaluated list m ws room i) k
    on_valued f = of-pool (pool_of i) (λ c. way.Evaluated list m ws room i) value_answer (λ v c. both (way.Evaluated list m ws room i) evaluated-way evaluated-number) a (judged f)

    evaluate-way : way.EvaluateRead list m ws room i (answer_no a)
    evaluate-way = go (well_formed ws m list) refl
      where
        go : (b : Bool) → well_formed ws m list ≡ b → way.EvaluateRead list m ws room i (answer_no a)
        go true e = way.EvaluateRead.formed e ((on_valued e (answer_no a)).0 refl)
        go false e = subst (way.EvaluateRead list m ws room i) (sym (ap answer_no (ill e))) (way.EvaluateRead.ill_formed ((ill-formed ws m list).0 e))

    evaluate-number : (k : ℕ) → way.EvaluateRead list m ws room i k → answer_no a ≡ k
    evaluate-number k (way.EvaluateRead.ill_formed c) = ap answer_no (ill ((ill-formed ws m list).1 c))
    evaluate-number k (way.EvaluateRead.formed f c) = (on_valued f k).1 c

pub of-evaluate :
    (s list : List ℕ) (m : ℕ) (ws : List ℕ) (room : ℕ) (a : Answer (List Valued)) → Evaluates list m ws room (reading s) a → (k : ℕ) →
    (answer_no a ≡ k) ↔ way.EvaluateWay s list m ws room k
of-evaluate s list m ws room a h =
    of-frames s (way.EvaluateRead list m ws room) a h.unread
    (λ i e. both (way.EvaluateRead list m ws room i) (evaluate-way list m ws room i a (h.malformed i e) (h.judged i e)) (evaluate-number list m ws room i a (h.malformed i e) (h.judged i e)))

-- ── enonkasse_search ─────────────────────────────────────────────────────────
pub of-search :
    (s es : List ℕ) (vc b e limit : ℕ) (a : Answer Choice) → Runs (reading s) (asking es vc b e limit) a → (k : ℕ) →
    (answer_no a ≡ k) ↔ way.SearchWay s es vc b e limit k
of-search s es vc b e limit a h =
    of-frames s (λ i. OfPool (pool_of i) (λ c. search.Row (forest (pool_of i)) c es vc b e limit)) a h.unread
    (λ i q. of-pool (pool_of i) (λ c. search.Row (forest (pool_of i)) c es vc b e limit) (searched (pool_of i) (asking es vc b e limit))
    (λ v c. search.exactly (forest (pool_of i)) c es vc b e limit) a (h.judged i q))
