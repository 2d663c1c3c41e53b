-- EACH NUMBER EXACTLY WHEN one of its ways is open, of the constraint polynomial in one call. Its lists are never refused with 3: what they ask for is there.
-- Assumes nothing.
use Rattle.std.specs.Prelude.{ℕ, suc, ◌+◌, ◌*◌, ◌<◌, ◌≤◌, ◌≡◌, refl, Bool, true, false, cond, List, [], ◌∷◌, ◌⊎◌, ◌↔◌, length, get_or, drop, leb}
use Rattle.std.proofs.Common.{sym, ◌∙◌, ap, subst, inl, inr, arith, leb-true, leb-false, le-leb}
use Rattle.std.proofs.Math.Option.{none, some}
use Rattle.std.proofs.lemmas.Bool.{lt-leb}
use Rattle.meaning.specs.Refusals.{Refusal, number, Answer, done, refused, ◌then◌, answer_no}
use Rattle.meaning.specs.Trees.{Forest, Acyclic, Each}
use Rattle.meaning.specs.Order.{Marks}
use Rattle.meaning.specs.Generation.{Request, serve_all}
use Rattle.meaning.specs.Demand3.{NoResult}
use Rattle.meaning.specs.Conditions.{Stepped, Refused3, FirstRefused}
use Rattle.meaning.proofs.Exactly.{all_3, all_5, plain-only}
use Rattle.meaning.proofs.Laws.Tests.{true-false, number-not-zero, each_right, each_map}
use Rattle.kinds.specs.Steps.{step_size, steps-length}
use Rattle.frames.specs.Order.{Input}
use Rattle.frames.specs.Reading.{reading}
use Rattle.pool.specs.Trees.{forest}
use Rattle.pool.specs.Verdict.{Verdict}
use Rattle.pool.specs.Numbered.{pool_of}
use Rattle.pool.specs.Laws.Forest.{forest-size}
use Rattle.requests.specs.Jobs.{each_first}
use Rattle.builds.specs.Raw.{RawBlock, steps_in, start_of, raw_block_at}
use Rattle.context.specs.declared.layout.Entry.{Entry}
use Rattle.context.specs.Context.{blocks_in, entry_in, Good, Exactly}
use Rattle.context.specs.Tables.{word_of, words_in}
use Rattle.context.specs.Held.{words-at}
use Rattle.codegen.specs.Said.{Said, said, serve_said}
use Rattle.codegen.specs.Shadows.{Alikes, shadow, same_number}
use Rattle.search_meaning.specs.Search.{Choice, search}
use Rattle.search_meaning.proofs.SearchCases as cases
use Rattle.constraint_meaning.specs.Constraint.{plain_requests, unless}
use Rattle.constraint_meaning.specs.Ranks.{length-extended}
use Rattle.constraint_meaning.specs.Members.{members-there}
use Rattle.constraint_pieces.specs.Marking.{marked_said}
use Rattle.constraint_pool.specs.Judging.{judged}
use Rattle.constraint_frames.specs.Extension.{Back}
use Rattle.constraint_frames.specs.Unique.{columns_of}
use Rattle.constraint_lists.specs.Lists.{list_said, closed_if}
use Rattle.constraint_build.specs.Both.{Lent, Both}
use Rattle.starkinfo_cp_prover.specs.Polynomial.{Polynomial, question_of, chosen_by, generating, OrMalformed, Answers, Runs, asked, Accepts}
use Rattle.constraint_choice.specs.declared.answer.Before.{Before}
use Rattle.answers.specs.Ways.{OfPool}
use Rattle.answers.specs.PolynomialWays as way
use Rattle.answers.proofs.Exact.{both, of-frames, of-pool}

-- ── one list ─────────────────────────────────────────────────────────────────
-- each block of a good context has a step
word_big : (e : Entry) → e.steps ≤ steps_in (word_of e)
unfolding word_of
word_big e = omega arith

steps-said : (x l : List ℕ) (m room : ℕ) → Good x m room → Each (λ a. 1 ≤ length a.records) (said x l).blocks
steps-said x l m room good =
    each_first (λ (a : RawBlock). 1 ≤ length a.records) (raw_block_at (words_in x (blocks_in x)) l) (blocks_in x)
    (λ k h. omega (arith, steps-length (drop (step_size * start_of (words_in x (blocks_in x)) k) l) (steps_in (get_or (words_in x (blocks_in x)) k 0)), word-steps k h, (good.blocks k h).some_step))
  where
    word-steps : (k : ℕ) → k < blocks_in x → (entry_in x k).steps ≤ steps_in (get_or (words_in x (blocks_in x)) k 0)
    word-steps k h = rw (words-at x (blocks_in x) k h) (word_big (entry_in x k))

-- what stands for blocks in the shadow
abbrev said_by : Marks → List RawBlock → ℕ → Said
said_by m rs n = record { marks = m; blocks = rs; counter = n }

shadow_alike : (m : Marks) (n : ℕ) (rs : List RawBlock) → Each (λ a. 1 ≤ length a.records) rs → Alikes rs (shadow (said_by m rs n)).blocks
shadow_alike m n [] h = tt
shadow_alike m n (a ∷ rs) h = (record { expression = refl; row = refl; some_record = h.0; some_step = omega arith }, shadow_alike m n rs h.1)

shadow-stepped : (m : Marks) (n : ℕ) (rs : List RawBlock) → Stepped (shadow (said_by m rs n))
shadow-stepped m n [] = tt
shadow-stepped m n (a ∷ rs) = (omega arith, shadow-stepped m n rs)

requests-plain : (es : List ℕ) → Each NoResult (plain_requests es)
requests-plain [] = tt
requests-plain (e ∷ es) = (refl, requests-plain es)

requests-there : (n : ℕ) (es : List ℕ) → Each (λ e. e < n) es → Each (λ q. q.expression < n) (plain_requests es)
requests-there n [] h = tt
requests-there n (e ∷ es) h = (h.0, requests-there n es h.1)

module _ (E : Forest) (acyclic : Acyclic E) (marked wanted : List ℕ) (closes : Bool) (u : Lent) (m : ℕ) (good : Good u.context m (length u.list)) (there : Each (λ e. e < length E) wanted) where
  abbrev standing : Said
  standing = marked_said marked (said u.context u.list)

  abbrev qs : List Request
  qs = plain_requests wanted

  abbrev list : Answer Said
  list = list_said E marked wanted closes (said u.context u.list)

  stepped : Stepped (shadow standing)
  stepped = shadow-stepped standing.marks standing.counter standing.blocks

  same : answer_no (serve_said E qs standing) ≡ answer_no (serve_all 2 E qs (shadow standing))
  same =
      same_number E qs standing (shadow standing)
      (record { marks = refl; blocks = shadow_alike standing.marks standing.counter standing.blocks (steps-said u.context u.list m (length u.list) good) })

  none-lost : FirstRefused 2 E (Refused3 2 E) qs (shadow standing) → ⊥
  none-lost f =
      let k = (each_right (λ q. q.expression < length E) f.before (f.request ∷ f.after) (subst (Each (λ q. q.expression < length E)) f.splits (requests-there (length E) wanted there))).0 in
      let l = f.meets.lost in
      omega arith

  -- 5, or all is served
  data OneList : Type 0 where
    double : way.DoublePrimed E marked wanted u → answer_no list ≡ 5 → OneList
    served : (way.DoublePrimed E marked wanted u → ⊥) → (s : Said) → list ≡ done s → OneList

  one : OneList
  one = go (serve_said E qs standing) refl (plain-only 2 E acyclic qs (shadow standing) stepped (requests-plain wanted))
    where
      number_of : ℕ
      number_of = answer_no (serve_all 2 E qs (shadow standing))

      five : (y : Answer Said) → answer_no y ≡ 5 → answer_no (y then λ st. done (closed_if closes st)) ≡ 5
      five (done s) n = absurd (omega (arith, n))
      five (refused k o) n = n

      go : (y : Answer Said) → serve_said E qs standing ≡ y → (number_of ≡ 0) ⊎ ((number_of ≡ 3) ⊎ (number_of ≡ 5)) → OneList
      go (done s) q n =
          OneList.served (λ d. let z = (all_5 2 E acyclic qs (shadow standing) stepped).1 d in omega (arith, z, same, ap answer_no q)) (closed_if closes s)
          (ap (λ (y : Answer Said). y then λ st. done (closed_if closes st)) q)
      go (refused k o) q (inl n) = absurd (number-not-zero k (sym (ap answer_no q) ∙ same ∙ n))
      go (refused k o) q (inr (inl n)) = absurd (none-lost ((all_3 2 E acyclic qs (shadow standing) stepped).0 n))
      go (refused k o) q (inr (inr n)) = OneList.double ((all_5 2 E acyclic qs (shadow standing) stepped).0 n) (five (serve_said E qs standing) (same ∙ n))

  -- the same, said of what is open
  double-number : way.DoublePrimed E marked wanted u → answer_no list ≡ 5
  double-number d = go one
    where
      go : OneList → answer_no list ≡ 5
      go (OneList.double e n) = n
      go (OneList.served e s q) = absurd (e d)

then-refused : {A B : Type 0} (a : Answer A) (f : A → Answer B) → (answer_no a ≡ 5) → answer_no (a then f) ≡ 5
then-refused (done x) f h = absurd (omega (arith, h))
then-refused (refused k o) f h = h

module _ (ids : List ℕ) (vc b e limit : ℕ) (c : Before) (u v : Lent) (room : ℕ) (i : Input) where
  abbrev E : Forest
  E = forest (pool_of i)

  abbrev before : ℕ
  before = c.n_cm1 + c.n_cm2

  -- ── with a set that was chosen ─────────────────────────────────────────────
  module _ (x : Choice) where
    abbrev F : Forest
    F = forest (way.constraint_pool ids vc b e limit c u v room i x)

    abbrev first : Answer Said
    first = way.first ids vc b e limit c u v room i x

    abbrev second : Answer Said
    second = way.second ids vc b e limit c u v room i x

    abbrev limited : Bool
    limited = way.limited ids vc b e limit c u v room i x

    abbrev roomy : Said → Said → Bool
    roomy s t = way.roomy ids vc b e limit c u v room i x s t

    abbrev polynomial : Both → Polynomial
    polynomial y = record { choice = x; pool = way.constraint_pool ids vc b e limit c u v room i x; lists = y }

    abbrev fitted_by : Bool → Said → Said → Answer Both
    fitted_by f s t = cond f (done (record { step3 = s; step42ns = t })) (refused Refusal.full none)

    abbrev fitted : Said → Said → Answer Both
    fitted s t = fitted_by (roomy s t) s t

    abbrev after : Answer Said → Answer Said → Answer Both
    after y z = y then λ s. z then λ t. fitted s t

    -- the answer, by its tests
    abbrev tested : Bool → Bool → Answer Both → Answer Polynomial
    tested within counted y = ((unless Refusal.full within then λ _. unless Refusal.counts counted) then λ _. y) then λ l. done (polynomial l)

    abbrev answer : Answer Polynomial
    answer = chosen_by (pool_of i) (asked ids vc b e limit c) u v room x

    lists-number : (y : Answer Both) → answer_no (tested true true y) ≡ answer_no y
    lists-number (done l) = refl
    lists-number (refused k o) = refl

    module _
        (gu : Good u.context (length i.expressions) (length u.list)) (gv : Good v.context (length i.expressions) (length v.list))
        (chose : search E ids vc b e (some limit) ≡ done x) (backs : limited ≡ true → leb before c.commitments ≡ true → Back (pool_of i) (question_of (asked ids vc b e limit c) x))
      where
        -- where the limits and the counts are kept
        module _ (back : Back (pool_of i) (question_of (asked ids vc b e limit c) x)) where
          size : length F ≡ suc (length i.expressions)
          size = ap length back.forest_is ∙ length-extended E _ ∙ ap suc (forest-size (pool_of i))

          members : Each (λ m. m < length F) x.set
          members =
              each_map (λ m. m < length E) (λ m. m < length F) (λ m h. let z = forest-size (pool_of i) in omega (arith, h, z, size)) x.set (members-there E (some limit) ids vc b e x chose)

          itself : Each (λ m. m < length F) (length i.expressions ∷ [])
          itself = (omega (arith, size), tt)

          abbrev One : Type 0
          One = OneList F back.acyclic [] x.set false u (length i.expressions) gu members

          abbrev Two : Type 0
          Two = OneList F back.acyclic x.set (length i.expressions ∷ []) true v (length i.expressions) gv itself

          listed-way : way.Listed ids vc b e limit c u v room i x (answer_no (after first second))
          listed-way = go (one F back.acyclic [] x.set false u (length i.expressions) gu members) (one F back.acyclic x.set (length i.expressions ∷ []) true v (length i.expressions) gv itself)
            where
              W : ℕ → Type 0
              W = way.Listed ids vc b e limit c u v room i x

              fit : (s t : Said) → first ≡ done s → second ≡ done t → (f : Bool) → roomy s t ≡ f → W (answer_no (fitted_by f s t))
              fit s t p q true r = way.Listed.made s t p q r
              fit s t p q false r = way.Listed.full s t p q r

              go : One → Two → W (answer_no (after first second))
              go (OneList.double d n) w = subst W (sym (then-refused first (λ s. second then λ t. fitted s t) n)) (way.Listed.member d)
              go (OneList.served d s p) (OneList.double f n) =
                  subst W (sym (ap (λ y. answer_no (after y second)) p ∙ then-refused second (λ t. fitted s t) n)) (way.Listed.constraint s p f)
              go (OneList.served d s p) (OneList.served f t q) =
                  subst W (sym (ap (λ y. answer_no (after y second)) p ∙ ap (λ y. answer_no (after (done s) y)) q)) (fit s t p q (roomy s t) refl)

          listed-number : (k : ℕ) → way.Listed ids vc b e limit c u v room i x k → answer_no (after first second) ≡ k
          listed-number k (way.Listed.member d) =
              then-refused first (λ s. second then λ t. fitted s t) (double-number F back.acyclic [] x.set false u (length i.expressions) gu members d)
          listed-number k (way.Listed.constraint s p d) =
              ap (λ y. answer_no (after y second)) p
              ∙ then-refused second (λ t. fitted s t) (double-number F back.acyclic x.set (length i.expressions ∷ []) true v (length i.expressions) gv itself d)
          listed-number k (way.Listed.full s t p q r) =
              ap (λ y. answer_no (after y second)) p ∙ ap (λ y. answer_no (after (done s) y)) q
              ∙ ap (λ f. answer_no (fitted_by f s t)) r
          listed-number k (way.Listed.made s t p q r) =
              ap (λ y. answer_no (after y second)) p ∙ ap (λ y. answer_no (after (done s) y)) q
              ∙ ap (λ f. answer_no (fitted_by f s t)) r

        chosen-way : way.Chosen ids vc b e limit c u v room i x (answer_no answer)
        chosen-way = go limited refl (leb before c.commitments) refl
          where
            W : ℕ → Type 0
            W = way.Chosen ids vc b e limit c u v room i x

            go : (p : Bool) → limited ≡ p → (q : Bool) → leb before c.commitments ≡ q → W (answer_no (tested p q (after first second)))
            go false h q k = way.Chosen.past h
            go true h false k = way.Chosen.counts h (leb-false before c.commitments k)
            go true h true k = subst W (sym (lists-number (after first second))) (way.Chosen.kept h (leb-true before c.commitments k) (listed-way (backs h k)))

        chosen-number : (k : ℕ) → way.Chosen ids vc b e limit c u v room i x k → answer_no answer ≡ k
        chosen-number k (way.Chosen.past h) = ap (λ p. answer_no (tested p (leb before c.commitments) (after first second))) h
        chosen-number k (way.Chosen.counts h l) =
            ap (λ p. answer_no (tested p (leb before c.commitments) (after first second))) h
            ∙ ap (λ q. answer_no (tested true q (after first second))) (lt-leb before c.commitments l)
        chosen-number k (way.Chosen.kept h l w) =
            let q = le-leb before c.commitments l in
            ap (λ p. answer_no (tested p (leb before c.commitments) (after first second))) h ∙ ap (λ q. answer_no (tested true q (after first second))) q
            ∙ lists-number (after first second) ∙ listed-number (backs h q) k w

  -- ── a pool ─────────────────────────────────────────────────────────────────
  abbrev answered : Answer Polynomial
  answered = generating (pool_of i) (asked ids vc b e limit c) u v room

  -- the pool with the constraint stands, wherever a set is chosen and the limits and counts are kept
  abbrev pub Backs : Type 0
  Backs = Verdict (pool_of i) [] (done tt) → (x : Choice) → Accepts (pool_of i) (asked ids vc b e limit c) x → Back (pool_of i) (question_of (asked ids vc b e limit c) x)

  abbrev GoodFirst : Type 0
  GoodFirst = Good u.context (length i.expressions) (length u.list)

  abbrev GoodSecond : Type 0
  GoodSecond = Good v.context (length i.expressions) (length v.list)

  module _ (gu : GoodFirst) (gv : GoodSecond) (backs : Backs) (verdict : Verdict (pool_of i) [] (done tt)) (acyclic : Acyclic E) where
    abbrev W : ℕ → Type 0
    W = way.Generated ids vc b e limit c u v room i acyclic

    abbrev onward : Answer Choice → Answer Polynomial
    onward y = y then λ x. chosen_by (pool_of i) (asked ids vc b e limit c) u v room x

    abbrev searched : Answer Choice
    searched = search E ids vc b e (some limit)

    backed : (x : Choice) → searched ≡ done x → limited x ≡ true → leb before c.commitments ≡ true → Back (pool_of i) (question_of (asked ids vc b e limit c) x)
    backed x chose h k = backs verdict x (record { chose = chose; fine = fine })
      where
        fine : judged E (length i.nodes) vc (columns_of (asked ids vc b e limit c) x.q) ids x.set ≡ done tt
        fine =
            ap (λ p. unless Refusal.full p then λ _. unless Refusal.counts (leb before c.commitments)) h ∙ ap (λ q. unless Refusal.full true then λ _. unless Refusal.counts q) k

    generated-way : W (answer_no answered)
    generated-way = go searched refl
      where
        go : (y : Answer Choice) → searched ≡ y → W (answer_no (onward y))
        go (done x) q = way.Generated.chosen x q (chosen-way x gu gv q (backed x q))
        go (refused r o) q = way.Generated.unchosen (number-not-zero r) ((cases.exactly E acyclic ids vc b e limit (number r)).0 (ap answer_no q))

    generated-number : (k : ℕ) → W k → answer_no answered ≡ k
    generated-number k (way.Generated.unchosen z r) = go searched refl
      where
        is : answer_no searched ≡ k
        is = (cases.exactly E acyclic ids vc b e limit k).1 r

        go : (y : Answer Choice) → searched ≡ y → answer_no (onward y) ≡ k
        go (done x) q = absurd (z (sym is ∙ ap answer_no q))
        go (refused s o) q = sym (ap answer_no q) ∙ is
    generated-number k (way.Generated.chosen x q w) = ap (λ y. answer_no (onward y)) q ∙ chosen-number x gu gv q (backed x q) k w

  -- ── what was read ──────────────────────────────────────────────────────────
  module _ (backs : Backs) (a : Answer Polynomial) (h : Answers (pool_of i) (asked ids vc b e limit c) u v room a) where
    abbrev Last : Type 0
    Last = (y : Answer (Unit {0})) × Verdict (pool_of i) [] y × (a ≡ (y then λ _. answered))

    abbrev Second : Type 0
    Second = (g : Bool) × Exactly g GoodSecond × OrMalformed g a Last

    abbrev R : ℕ → Type 0
    R = way.ConstraintRead ids vc b e limit c u v room i

    on_pool : GoodFirst → GoodSecond → Last → (k : ℕ) → (answer_no a ≡ k) ↔ OfPool (pool_of i) (way.Generated ids vc b e limit c u v room i) k
    on_pool gu gv j =
        of-pool (pool_of i) (way.Generated ids vc b e limit c u v room i) answered
        (λ y d. both (way.Generated ids vc b e limit c u v room i d) (generated-way gu gv backs y d) (generated-number gu gv backs y d)) a j

    read-way : R (answer_no a)
    read-way = go h.0 h.1 h.2
      where
        second : GoodFirst → (g : Bool) → Exactly g GoodSecond → OrMalformed g a Last → R (answer_no a)
        second gu true ex j = way.ConstraintRead.good gu (ex.0 refl) ((on_pool gu (ex.0 refl) j (answer_no a)).0 refl)
        second gu false ex j = subst R (sym (ap answer_no j)) (way.ConstraintRead.bad_second gu (λ g. true-false (ex.1 g) refl))

        go : (g : Bool) → Exactly g GoodFirst → OrMalformed g a Second → R (answer_no a)
        go true ex j = second (ex.0 refl) j.0 j.1 j.2
        go false ex j = subst R (sym (ap answer_no j)) (way.ConstraintRead.bad_context (λ g. true-false (ex.1 g) refl))

    -- the first context is good
    past_first : GoodFirst → Second
    past_first gu = go h.0 h.1 h.2
      where
        go : (g : Bool) → Exactly g GoodFirst → OrMalformed g a Second → Second
        go true ex j = j
        go false ex j = absurd (true-false (ex.1 gu) refl)

    read_number : (k : ℕ) → R k → answer_no a ≡ k
    read_number k (way.ConstraintRead.bad_context n) = go h.0 h.1 h.2
      where
        go : (g : Bool) → Exactly g GoodFirst → OrMalformed g a Second → answer_no a ≡ 1
        go true ex j = absurd (n (ex.0 refl))
        go false ex j = ap answer_no j
    read_number k (way.ConstraintRead.bad_second gu n) = let s = past_first gu in go s.0 s.1 s.2
      where
        go : (g : Bool) → Exactly g GoodSecond → OrMalformed g a Last → answer_no a ≡ 1
        go true ex j = absurd (n (ex.0 refl))
        go false ex j = ap answer_no j
    read_number k (way.ConstraintRead.good gu gv w) = let s = past_first gu in go s.0 s.1 s.2
      where
        go : (g : Bool) → Exactly g GoodSecond → OrMalformed g a Last → answer_no a ≡ k
        go true ex j = (on_pool gu gv j k).1 w
        go false ex j = absurd (true-false (ex.1 gv) refl)

-- ── enonkasse_constraint ─────────────────────────────────────────────────────
pub of-constraint :
    (s ids : List ℕ) (vc b e limit : ℕ) (c : Before) (u v : Lent) (room : ℕ) (a : Answer Polynomial) → Runs (reading s) (asked ids vc b e limit c) u v room a →
    ((i : Input) → reading s ≡ done i → Backs ids vc b e limit c u v room i) → (k : ℕ) → (answer_no a ≡ k) ↔ way.ConstraintWay s ids vc b e limit c u v room k
of-constraint s ids vc b e limit c u v room a h backs =
    of-frames s (way.ConstraintRead ids vc b e limit c u v room) a h.unread
    (λ i q. both (way.ConstraintRead ids vc b e limit c u v room i) (read-way ids vc b e limit c u v room i (backs i q) a (h.judged i q))
    (read_number ids vc b e limit c u v room i (backs i q) a (h.judged i q)))
