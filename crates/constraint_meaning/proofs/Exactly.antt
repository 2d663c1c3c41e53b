-- THE REFUSALS OF THE CONSTRAINT, EACH EXACTLY WHEN: the search's; 9 where the pool with the constraint or a column passes its limit; 11 where the counts disagree;
-- 5 where a member, or else the constraint, reads a row that is not there; and no other number. In an acyclic forest, in contexts whose blocks have steps.
-- Assumes nothing.
use Rattle.std.specs.Prelude.{ℕ, suc, ◌+◌, ◌<◌, ◌≤◌, ◌≡◌, refl, Bool, true, false, List, [], ◌∷◌, ◌⊎◌, ◌↔◌, length, leb}
use Rattle.std.proofs.Common.{◌∙◌, ap, subst, inl, inr, arith, leb-true, leb-false, le-leb}
use Rattle.std.proofs.Math.Option.{Option, none-ne-some}
use Rattle.meaning.specs.Refusals.{Refusal, Answer, done, refused, answer_no, ◌then◌}
use Rattle.meaning.specs.Trees.{Forest, Acyclic, Each}
use Rattle.meaning.specs.Generation.{State, Request, serve, serve_all}
use Rattle.meaning.specs.Demand3.{NoResult}
use Rattle.meaning.specs.Conditions.{Stepped, AsksResult, Refused3, Refused5, FirstRefused}
use Rattle.meaning.proofs.Exactly.{Numbered, one_3, one_5, one_7, one_8, one_only, all_3, all_5, plain-only}
use Rattle.meaning.proofs.Laws.Tests.{true-false, number-not-zero, each_right, each_map}
use Rattle.search_meaning.specs.Search.{Choice, search}
use Rattle.constraint_meaning.specs.Tree as tree
use Rattle.constraint_meaning.specs.Tree.{Intermediate, columns_from, extended}
use Rattle.constraint_meaning.specs.Constraint.{Asked, Made, plain_request, plain_requests, marked, fits, unless, step3, step42ns, tree_for, lists_with, made_with, constrain}
use Rattle.constraint_meaning.specs.Ranks.{length-extended, extended-acyclic}
use Rattle.constraint_meaning.specs.Members.{members-there, identities-there, some-identity}

-- ── answers ──────────────────────────────────────────────────────────────────
-- what is refused first is refused in the end
then-number : {A B : Type 0} (a : Answer A) (f : A → Answer B) (n : ℕ) → answer_no a ≡ suc n → answer_no (a then f) ≡ suc n
then-number (done a) f n h = absurd (omega arith)
then-number (refused r o) f n h = h

then-zero : {A B : Type 0} (a : Answer A) (f : A → Answer B) (n : ℕ) → answer_no a ≡ 0 → ((b : A) → answer_no (f b) ≡ n) → answer_no (a then f) ≡ n
then-zero (done a) f n h g = g a
then-zero (refused r o) f n h g = absurd (number-not-zero r h)

-- ── requests for members and for the constraint ──────────────────────────────
requests-plain : (es : List ℕ) → Each NoResult (plain_requests es)
requests-plain [] = tt
requests-plain (e ∷ es) = (refl, requests-plain es)

requests-there : (n : ℕ) (es : List ℕ) → Each (λ e. e < n) es → Each (λ q. q.expression < n) (plain_requests es)
requests-there n [] h = tt
requests-there n (e ∷ es) h = (h.0, requests-there n es h.1)

module _ (rows : ℕ) (E : Forest) (st : State) where
  -- those that are there are not refused with 3
  none-lost : (qs : List Request) → Each (λ q. q.expression < length E) qs → FirstRefused rows E (Refused3 rows E) qs st → ⊥
  none-lost qs h f =
      let k = (each_right (λ q. q.expression < length E) f.before (f.request ∷ f.after) (subst (Each (λ q. q.expression < length E)) f.splits h)).0 in
      let l = f.meets.lost in
      omega arith

module _ (rows : ℕ) (E : Forest) (acyclic : Acyclic E) where
  -- a request for no result of an expression that is there: 5 or 0
  data One (e : ℕ) (st : State) : Type 0 where
    refused5 : Refused5 rows E (plain_request e) st → answer_no (serve rows E (plain_request e) st) ≡ 5 → One e st
    served : (Refused5 rows E (plain_request e) st → ⊥) → answer_no (serve rows E (plain_request e) st) ≡ 0 → One e st

  one : (e : ℕ) (st : State) → Stepped st → e < length E → One e st
  one e st s h = go (one_only rows E acyclic (plain_request e) st s)
    where
      no_result : AsksResult (plain_request e) → ⊥
      no_result w = none-ne-some w.0 w.1

      go : Numbered (serve rows E (plain_request e) st) → One e st
      go (inl n) = One.served (λ c. omega (arith, (one_5 rows E acyclic (plain_request e) st s).1 c)) n
      go (inr (inl n)) = absurd (let l = ((one_3 rows E acyclic (plain_request e) st s).0 n).lost in omega arith)
      go (inr (inr (inl n))) = One.refused5 ((one_5 rows E acyclic (plain_request e) st s).0 n) n
      go (inr (inr (inr (inl n)))) = absurd (no_result ((one_7 rows E acyclic (plain_request e) st s).0 n).asks)
      go (inr (inr (inr (inr n)))) = absurd (no_result ((one_8 rows E acyclic (plain_request e) st s).0 n).asks)

  data All (es : List ℕ) (st : State) : Type 0 where
    refused5 : FirstRefused rows E (Refused5 rows E) (plain_requests es) st → answer_no (serve_all rows E (plain_requests es) st) ≡ 5 → All es st
    served : (FirstRefused rows E (Refused5 rows E) (plain_requests es) st → ⊥) → answer_no (serve_all rows E (plain_requests es) st) ≡ 0 → All es st

  all : (es : List ℕ) (st : State) → Stepped st → Each (λ e. e < length E) es → All es st
  all es st s h = go (plain-only rows E acyclic (plain_requests es) st s (requests-plain es))
    where
      number_of : ℕ
      number_of = answer_no (serve_all rows E (plain_requests es) st)

      go : (number_of ≡ 0) ⊎ ((number_of ≡ 3) ⊎ (number_of ≡ 5)) → All es st
      go (inl n) = All.served (λ f. omega (arith, (all_5 rows E acyclic (plain_requests es) st s).1 f)) n
      go (inr (inl n)) =
          absurd (none-lost rows E st (plain_requests es) (requests-there (length E) es h) ((all_3 rows E acyclic (plain_requests es) st s).0 n))
      go (inr (inr n)) = All.refused5 ((all_5 rows E acyclic (plain_requests es) st s).0 n) n

-- ── the whole ────────────────────────────────────────────────────────────────
module _ (rows : ℕ) (E : Forest) (nodes : ℕ) (first second : State) (a : Asked) where
  abbrev searched : Answer Choice
  searched = search E a.identities a.vc a.n_bits a.n_bits_ext a.limit

  abbrev answer : Answer Made
  answer = constrain rows E nodes first second a

  -- what the search refuses is refused with its number
  pub search-first : (r : Refusal) (n : Option ℕ) → searched ≡ refused r n → answer ≡ refused r n
  search-first r n h = ap (λ s. s then λ x. made_with rows E nodes first second a x) h

  -- where it accepts
  module _ (x : Choice) (chosen : searched ≡ done x) where
    abbrev pub constraint_of : tree.Numbered
    constraint_of = tree_for E nodes a.vc a.identities (columns_from a.commitments x.set)

    -- the pool with the constraint
    abbrev pub pool_with : Forest
    pool_with = extended E constraint_of.tree

    abbrev pub Fit : Bool
    Fit = fits constraint_of.free (length E + 1) (a.commitments + length x.set + x.q)

    abbrev counted : Bool
    counted = leb (a.n_cm1 + a.n_cm2) a.commitments

    -- a member reads a row that is not there
    abbrev pub MembersRefused : Type 0
    MembersRefused = FirstRefused rows pool_with (Refused5 rows pool_with) (plain_requests x.set) first

    -- the constraint does
    abbrev pub ConstraintRefused : Type 0
    ConstraintRefused = Refused5 rows pool_with (plain_request (length E)) (marked rows x.set second)

    abbrev lists : Answer Made
    lists = lists_with rows E nodes first second a x (columns_from a.commitments x.set) constraint_of

    checked : answer ≡ (unless Refusal.full Fit then λ _. (unless Refusal.counts counted then λ _. lists))
    checked = ap (λ s. s then λ y. made_with rows E nodes first second a y) chosen

    fit-checked : Fit ≡ true → answer ≡ (unless Refusal.counts counted then λ _. lists)
    fit-checked f = checked ∙ ap (λ b. unless Refusal.full b then λ _. (unless Refusal.counts counted then λ _. lists)) f

    all-checked : Fit ≡ true → a.n_cm1 + a.n_cm2 ≤ a.commitments → answer ≡ lists
    all-checked f c = fit-checked f ∙ ap (λ b. unless Refusal.counts b then λ _. lists) (le-leb (a.n_cm1 + a.n_cm2) a.commitments c)

    -- one of five
    data Outcome : Type 0 where
      full : Fit ≡ false → answer_no answer ≡ 9 → Outcome
      short : Fit ≡ true → a.commitments < a.n_cm1 + a.n_cm2 → answer_no answer ≡ 11 → Outcome
      member : Fit ≡ true → a.n_cm1 + a.n_cm2 ≤ a.commitments → MembersRefused → answer_no answer ≡ 5 → Outcome
      whole : Fit ≡ true → a.n_cm1 + a.n_cm2 ≤ a.commitments → ConstraintRefused → answer_no answer ≡ 5 → Outcome
      made : Fit ≡ true → a.n_cm1 + a.n_cm2 ≤ a.commitments → (MembersRefused → ⊥) → (ConstraintRefused → ⊥) → answer_no answer ≡ 0 → Outcome

    module _ (acyclic : Acyclic E) (stepped : Stepped first) (stepped-too : Stepped second) where
      pool_acyclic : Acyclic pool_with
      pool_acyclic = go a.identities chosen
        where
          go :
              (es : List ℕ) → search E es a.vc a.n_bits a.n_bits_ext a.limit ≡ done x →
              Acyclic (extended E (tree_for E nodes a.vc es (columns_from a.commitments x.set)).tree)
          go [] h = absurd (some-identity E a.limit a.vc a.n_bits a.n_bits_ext x h)
          go (e ∷ es) h =
              extended-acyclic E acyclic a.vc nodes e es (columns_from a.commitments x.set)
              (identities-there E a.limit (e ∷ es) a.vc a.n_bits a.n_bits_ext x h)

      longer : length pool_with ≡ suc (length E)
      longer = length-extended E constraint_of.tree

      members_in : Each (λ e. e < length pool_with) x.set
      members_in =
          each_map (λ e. e < length E) (λ e. e < length pool_with) (λ e h. omega (arith, longer)) x.set
          (members-there E a.limit a.identities a.vc a.n_bits a.n_bits_ext x chosen)

      -- both lists
      with_lists : Fit ≡ true → a.n_cm1 + a.n_cm2 ≤ a.commitments → Outcome
      with_lists f c =
          go (all rows pool_with pool_acyclic x.set first stepped members_in)
          (one rows pool_with pool_acyclic (length E) (marked rows x.set second) stepped-too (omega (arith, longer)))
        where
          same : answer ≡ lists
          same = all-checked f c

          built : answer_no (serve_all rows pool_with (plain_requests x.set) first) ≡ 0 → answer_no (step3 rows pool_with x.set first) ≡ 0
          built n = then-zero (serve_all rows pool_with (plain_requests x.set) first) _ 0 n (λ s. refl)

          go : All rows pool_with pool_acyclic x.set first → One rows pool_with pool_acyclic (length E) (marked rows x.set second) → Outcome
          go (All.refused5 r n) w =
              Outcome.member f c r
              (ap answer_no same ∙ then-number (step3 rows pool_with x.set first) _ 4 (then-number (serve_all rows pool_with (plain_requests x.set) first) _ 4 n))
          go (All.served d n) (One.refused5 r k) =
              Outcome.whole f c r
              (ap answer_no same ∙ then-zero (step3 rows pool_with x.set first) _ 5 (built n) (λ s3.
              then-number (step42ns rows pool_with x.set (length E) second) _ 4
              (then-number (serve rows pool_with (plain_request (length E)) (marked rows x.set second)) _ 4 k)))
          go (All.served d n) (One.served e k) =
              Outcome.made f c d e
              (ap answer_no same ∙ then-zero (step3 rows pool_with x.set first) _ 0 (built n) (λ s3.
              then-zero (step42ns rows pool_with x.set (length E) second) _ 0
              (then-zero (serve rows pool_with (plain_request (length E)) (marked rows x.set second)) _ 0 k (λ s. refl)) (λ s4. refl)))

      outcome : Outcome
      outcome = go Fit refl counted refl
        where
          go : (b : Bool) → Fit ≡ b → (c : Bool) → counted ≡ c → Outcome
          go false f c k = Outcome.full f (ap answer_no (checked ∙ ap (λ z. unless Refusal.full z then λ _. (unless Refusal.counts counted then λ _. lists)) f))
          go true f false k =
              Outcome.short f (leb-false (a.n_cm1 + a.n_cm2) a.commitments k)
              (ap answer_no (fit-checked f ∙ ap (λ z. unless Refusal.counts z then λ _. lists) k))
          go true f true k = with_lists f (leb-true (a.n_cm1 + a.n_cm2) a.commitments k)

      -- 9 EXACTLY WHEN the pool with the constraint, or the number of a column, passes its limit
      pub exactly_9 : (answer_no answer ≡ 9) ↔ (Fit ≡ false)
      exactly_9 = (to outcome, back outcome)
        where
          to : Outcome → answer_no answer ≡ 9 → Fit ≡ false
          to (Outcome.full f n) h = f
          to (Outcome.short f c n) h = absurd (omega arith)
          to (Outcome.member f c r n) h = absurd (omega arith)
          to (Outcome.whole f c r n) h = absurd (omega arith)
          to (Outcome.made f c d e n) h = absurd (omega arith)

          back : Outcome → Fit ≡ false → answer_no answer ≡ 9
          back (Outcome.full f n) h = n
          back (Outcome.short f c n) h = absurd (true-false f h)
          back (Outcome.member f c r n) h = absurd (true-false f h)
          back (Outcome.whole f c r n) h = absurd (true-false f h)
          back (Outcome.made f c d e n) h = absurd (true-false f h)

      -- 11 EXACTLY WHEN they do not, and n_commitments is below n_cm1 + n_cm2
      pub exactly_11 : (answer_no answer ≡ 11) ↔ ((Fit ≡ true) × (a.commitments < a.n_cm1 + a.n_cm2))
      exactly_11 = (to outcome, λ h. back outcome h.0 h.1)
        where
          to : Outcome → answer_no answer ≡ 11 → (Fit ≡ true) × (a.commitments < a.n_cm1 + a.n_cm2)
          to (Outcome.full f n) h = absurd (omega arith)
          to (Outcome.short f c n) h = (f, c)
          to (Outcome.member f c r n) h = absurd (omega arith)
          to (Outcome.whole f c r n) h = absurd (omega arith)
          to (Outcome.made f c d e n) h = absurd (omega arith)

          back : Outcome → Fit ≡ true → a.commitments < a.n_cm1 + a.n_cm2 → answer_no answer ≡ 11
          back (Outcome.full f n) h k = absurd (true-false h f)
          back (Outcome.short f c n) h k = n
          back (Outcome.member f c r n) h k = absurd (omega arith)
          back (Outcome.whole f c r n) h k = absurd (omega arith)
          back (Outcome.made f c d e n) h k = absurd (omega arith)

      -- 5 EXACTLY WHEN neither is so, and a member or the constraint reads a row that is not there
      pub exactly_5 :
          (answer_no answer ≡ 5) ↔ ((Fit ≡ true) × (a.n_cm1 + a.n_cm2 ≤ a.commitments) × (MembersRefused ⊎ ConstraintRefused))
      exactly_5 = (to outcome, λ h. back outcome h.0 h.1 h.2)
        where
          to : Outcome → answer_no answer ≡ 5 → (Fit ≡ true) × (a.n_cm1 + a.n_cm2 ≤ a.commitments) × (MembersRefused ⊎ ConstraintRefused)
          to (Outcome.full f n) h = absurd (omega arith)
          to (Outcome.short f c n) h = absurd (omega arith)
          to (Outcome.member f c r n) h = (f, c, inl r)
          to (Outcome.whole f c r n) h = (f, c, inr r)
          to (Outcome.made f c d e n) h = absurd (omega arith)

          back : Outcome → Fit ≡ true → a.n_cm1 + a.n_cm2 ≤ a.commitments → MembersRefused ⊎ ConstraintRefused → answer_no answer ≡ 5
          back (Outcome.full f n) h k r = absurd (true-false h f)
          back (Outcome.short f c n) h k r = absurd (omega arith)
          back (Outcome.member f c r n) h k w = n
          back (Outcome.whole f c r n) h k w = n
          back (Outcome.made f c d e n) h k (inl r) = absurd (d r)
          back (Outcome.made f c d e n) h k (inr r) = absurd (e r)

      -- 0 otherwise, and no other number
      pub only_these : (answer_no answer ≡ 0) ⊎ ((answer_no answer ≡ 5) ⊎ ((answer_no answer ≡ 9) ⊎ (answer_no answer ≡ 11)))
      only_these = go outcome
        where
          go : Outcome → (answer_no answer ≡ 0) ⊎ ((answer_no answer ≡ 5) ⊎ ((answer_no answer ≡ 9) ⊎ (answer_no answer ≡ 11)))
          go (Outcome.full f n) = inr (inr (inl n))
          go (Outcome.short f c n) = inr (inr (inr n))
          go (Outcome.member f c r n) = inr (inl n)
          go (Outcome.whole f c r n) = inr (inl n)
          go (Outcome.made f c d e n) = inl n
