-- EACH NUMBER OF A WHOLE RUN EXACTLY WHEN: of what was read of any frames, with document 01's room for 8,192 steps or more.
-- Assumes nothing.
use Rattle.std.specs.Prelude.{ℕ, ◌*◌, ◌<◌, ◌≤◌, ◌≡◌, ◌⊎◌, ◌↔◌}
use Rattle.std.proofs.Math.Path.{refl}
use Rattle.std.proofs.Common.{sym, ◌∙◌, ap, subst, inl, inr, arith}
use mathlib.Core.List.{List, [], ◌∷◌, map}
use Rattle.meaning.specs.Refusals.{Answer, done, refused, ◌then◌, answer_no}
use Rattle.meaning.specs.Trees.{Acyclic, Each, Forest}
use Rattle.meaning.specs.Generation.{start, serve_all}
use Rattle.meaning.specs.Building.{Segment}
use Rattle.meaning.specs.Conditions.{Refused3, Refused5, FirstRefused, NoneRefused}
use Rattle.meaning.proofs.Exactly.{all_3, all_5, all_0, plain-only, whole-number}
use Rattle.meaning.proofs.Laws.Tests.{done-same, done-not-refused, number-not-zero}
use Rattle.meaning.proofs.Laws.Standing.{start-stepped}
use Rattle.kinds.specs.Steps.{step_size}
use Rattle.frames.specs.Order.{Input, nothing, counts_of}
use Rattle.frames.specs.Reading.{read_from}
use Rattle.frames.specs.Limits.{within_all}
use Rattle.frames.specs.Ranges.{ranged-all}
use Rattle.frames.specs.Exactly.{no-other-of}
use Rattle.frames.specs.declared.rest.Request as frame
use Rattle.pool.specs.Pool.{Pool}
use Rattle.pool.specs.Trees.{forest}
use Rattle.pool.specs.Shaped.{Shaped}
use Rattle.pool.specs.Admission.{ClosedWalk}
use Rattle.pool.specs.Verdict.{SomeWrongCount, SomeNotThere, Verdict}
use Rattle.pool.specs.Exactly.{exactly_0, exactly_2, exactly_3, exactly_4, cases}
use Rattle.pool.specs.Exactly as pool
use Rattle.pool.specs.Numbered.{pool_of}
use Rattle.requests.specs.Planning.{request_of}
use Rattle.requests.specs.Whole.{served, Answers}
use Rattle.requests.specs.Runs.{requests_of, Runs}
use Rattle.requests.specs.Serving.{step_room, plain-requests, served-whole}

pub rows-low : (qs : List frame.Request) → Each (λ q. (q.prime ≤ 1) × (q.muladd ≤ 1)) qs → Each (λ q. q.row < 2) (map request_of qs)
rows-low [] h = tt
rows-low (q ∷ qs) h = (omega (arith, h.0.0), rows-low qs h.1)

-- the pool is admitted: what the absence of 2, 3 and 4 says of it
pub record Admitted (i : Input) : Type 0 where
  pub shaped : Shaped (pool_of i)
  pub acyclic : Acyclic (forest (pool_of i))

-- the first request that is refused, on a fresh context
abbrev pub FirstLost : Input → Type 0
FirstLost i = FirstRefused 2 (forest (pool_of i)) (Refused3 2 (forest (pool_of i))) (requests_of i) start

abbrev pub FirstDouble : Input → Type 0
FirstDouble i = FirstRefused 2 (forest (pool_of i)) (Refused5 2 (forest (pool_of i))) (requests_of i) start

abbrev pub AllServed : Input → Type 0
AllServed i = NoneRefused 2 (forest (pool_of i)) (requests_of i) start

-- ── of a pool and its requests ───────────────────────────────────────────────
module _ (fs : List (List ℕ)) (i : Input) (read : read_from nothing fs ≡ done i) (room : ℕ) (enough : step_size * step_room ≤ room) (a : Answer Segment) (h : Answers (pool_of i) (requests_of i) room a) where
  abbrev p : Pool
  p = pool_of i

  abbrev E : Forest
  E = forest p

  abbrev served-number : ℕ
  served-number = answer_no (serve_all 2 E (requests_of i) start)

  -- one of two: the pool's refusal, or what serving the requests gives
  data Case : Type 0 where
    stopped : (v : Answer (Unit {0})) → Verdict p [] v → answer_no a ≡ answer_no v → (answer_no v ≡ 0 → ⊥) → Case
    ran : Verdict p [] (done tt) → Admitted i → answer_no a ≡ served-number → Case

  case : Case
  unfolding counts_of
  case = go h.0 h.1 h.2
    where
      go : (v : Answer (Unit {0})) → Verdict p [] v → a ≡ (v then λ _. served E (requests_of i) room) → Case
      go (refused k o) v e = Case.stopped (refused k o) v (ap answer_no e) (number-not-zero k)
      go (done u) v e =
          let k = (exactly_0 p (done u) v).0 refl in
          let w = served-whole p k.0 (within_all fs i read).nodes k.1 (requests_of i) (plain-requests i.requests) (rows-low i.requests (ranged-all fs i read).requests) room enough in
          Case.ran v (record { shaped = k.0; acyclic = k.1 }) (ap answer_no (e ∙ w) ∙ whole-number 2 E (requests_of i))

  -- the numbers of either
  served-only : Acyclic E → (served-number ≡ 0) ⊎ ((served-number ≡ 3) ⊎ (served-number ≡ 5))
  served-only c = plain-only 2 E c (requests_of i) start start-stepped (plain-requests i.requests)

  verdict-only : (v : Answer (Unit {0})) → Verdict p [] v → answer_no v ≤ 4 × (answer_no v ≡ 1 → ⊥)
  verdict-only v j = go (cases p [] v j)
    where
      go : pool.Case p [] v → answer_no v ≤ 4 × (answer_no v ≡ 1 → ⊥)
      go (pool.Case.two w e) = (omega arith, λ q. omega arith)
      go (pool.Case.three w x e) = (omega arith, λ q. omega arith)
      go (pool.Case.four s w e) = (omega arith, λ q. omega arith)
      go (pool.Case.admitted s r w e) = (omega arith, λ q. omega arith)

  not_stopped : (v : Answer (Unit {0})) → Verdict p [] v → (answer_no v ≡ 0 → ⊥) → Admitted i → ⊥
  not_stopped v j n c = n ((exactly_0 p v j).1 (c.shaped, c.acyclic))

  -- a number of the pool's alone
  of-pool :
      (n : ℕ) (C : Type 0) → ((v : Answer (Unit {0})) → Verdict p [] v → (answer_no v ≡ n) ↔ C) → (n ≡ 0 → ⊥) → (n ≡ 3 → ⊥) → (n ≡ 5 → ⊥) → (answer_no a ≡ n) ↔ C
  of-pool n C ex z t f = (to case, back case)
    where
      by : (served-number ≡ 0) ⊎ ((served-number ≡ 3) ⊎ (served-number ≡ 5)) → served-number ≡ n → ⊥
      by (inl e) q = z (sym q ∙ e)
      by (inr (inl e)) q = t (sym q ∙ e)
      by (inr (inr e)) q = f (sym q ∙ e)

      to : Case → answer_no a ≡ n → C
      to (Case.stopped v j e k) q = (ex v j).0 (sym e ∙ q)
      to (Case.ran j c e) q = absurd (by (served-only c.acyclic) (sym e ∙ q))

      back : Case → C → answer_no a ≡ n
      back (Case.stopped v j e k) c = e ∙ (ex v j).1 c
      back (Case.ran j k e) c = absurd (z (sym ((ex (done tt) j).1 c)))

  -- 2 exactly when some node's child count differs from the table
  pub pool_2 : (answer_no a ≡ 2) ↔ SomeWrongCount p
  pool_2 = of-pool 2 (SomeWrongCount p) (exactly_2 p []) (λ e. omega arith) (λ e. omega arith) (λ e. omega arith)

  -- 4 exactly when neither 2 nor 3 is so, and a walk from leaf to leaf comes back to where it began
  pub pool_4 : (answer_no a ≡ 4) ↔ ((SomeWrongCount p → ⊥) × (SomeNotThere p → ⊥) × ClosedWalk p [])
  pool_4 = of-pool 4 _ (exactly_4 p []) (λ e. omega arith) (λ e. omega arith) (λ e. omega arith)

  -- 3 exactly when the pool gives it, or it is admitted and the first request that is refused names an expression that is not there
  pub pool_3 : (answer_no a ≡ 3) ↔ (((SomeWrongCount p → ⊥) × SomeNotThere p) ⊎ (Admitted i × FirstLost i))
  pool_3 = (to case, back case)
    where
      to : Case → answer_no a ≡ 3 → ((SomeWrongCount p → ⊥) × SomeNotThere p) ⊎ (Admitted i × FirstLost i)
      to (Case.stopped v j e k) q = inl ((exactly_3 p [] v j).0 (sym e ∙ q))
      to (Case.ran j c e) q = inr (c, (all_3 2 E c.acyclic (requests_of i) start start-stepped).0 (sym e ∙ q))

      back : Case → ((SomeWrongCount p → ⊥) × SomeNotThere p) ⊎ (Admitted i × FirstLost i) → answer_no a ≡ 3
      back (Case.stopped v j e k) (inl c) = e ∙ (exactly_3 p [] v j).1 c
      back (Case.stopped v j e k) (inr c) = absurd (not_stopped v j k c.0)
      back (Case.ran j k e) (inl c) = absurd (let z = (exactly_3 p [] (done tt) j).1 c in omega arith)
      back (Case.ran j k e) (inr c) = e ∙ (all_3 2 E k.acyclic (requests_of i) start start-stepped).1 c.1

  -- 5 exactly when the pool is admitted and the first request that is refused meets a double prime
  pub pool_5 : (answer_no a ≡ 5) ↔ (Admitted i × FirstDouble i)
  pool_5 = (to case, back case)
    where
      to : Case → answer_no a ≡ 5 → Admitted i × FirstDouble i
      to (Case.stopped v j e k) q = absurd (let z = (verdict-only v j).0 in omega (arith, z, e, q))
      to (Case.ran j c e) q = (c, (all_5 2 E c.acyclic (requests_of i) start start-stepped).0 (sym e ∙ q))

      back : Case → Admitted i × FirstDouble i → answer_no a ≡ 5
      back (Case.stopped v j e k) c = absurd (not_stopped v j k c.0)
      back (Case.ran j k e) c = e ∙ (all_5 2 E k.acyclic (requests_of i) start start-stepped).1 c.1

  -- 0 exactly when it is admitted and no request is refused
  pub pool_0 : (answer_no a ≡ 0) ↔ (Admitted i × AllServed i)
  pool_0 = (to case, back case)
    where
      to : Case → answer_no a ≡ 0 → Admitted i × AllServed i
      to (Case.stopped v j e k) q = absurd (k (sym e ∙ q))
      to (Case.ran j c e) q = (c, (all_0 2 E c.acyclic (requests_of i) start start-stepped).0 (sym e ∙ q))

      back : Case → Admitted i × AllServed i → answer_no a ≡ 0
      back (Case.stopped v j e k) c = absurd (not_stopped v j k c.0)
      back (Case.ran j k e) c = e ∙ (all_0 2 E k.acyclic (requests_of i) start start-stepped).1 c.1

  -- no other number
  pub pool-only : (answer_no a ≤ 5) × (answer_no a ≡ 1 → ⊥)
  pool-only = go case
    where
      by : (served-number ≡ 0) ⊎ ((served-number ≡ 3) ⊎ (served-number ≡ 5)) → answer_no a ≡ served-number → (answer_no a ≤ 5) × (answer_no a ≡ 1 → ⊥)
      by (inl e) q = (omega arith, λ x. omega arith)
      by (inr (inl e)) q = (omega arith, λ x. omega arith)
      by (inr (inr e)) q = (omega arith, λ x. omega arith)

      go : Case → (answer_no a ≤ 5) × (answer_no a ≡ 1 → ⊥)
      go (Case.stopped v j e k) = let z = verdict-only v j in (omega (arith, z.0, e), λ x. z.1 (sym e ∙ x))
      go (Case.ran j c e) = by (served-only c.acyclic) e

-- ── of whatever was read of frames ───────────────────────────────────────────
module _ (fs : List (List ℕ)) (x : Answer Input) (read : x ≡ read_from nothing fs) (room : ℕ) (enough : step_size * step_room ≤ room) (a : Answer Segment) (h : Runs x room a) where
  -- something was read, of which this is so
  abbrev pub Read : (Input → Type 0) → Type 0
  Read C = (i : Input) × (x ≡ done i) × C i

  -- a number that reading does not give
  of-read :
      (n : ℕ) (C : Input → Type 0) → (n ≡ 1 → ⊥) → (n ≡ 9 → ⊥) → ((i : Input) → read_from nothing fs ≡ done i → Answers (pool_of i) (requests_of i) room a → (answer_no a ≡ n) ↔ C i) →
      (answer_no a ≡ n) ↔ Read C
  of-read n C no1 no9 ex = go x refl
    where
      go : (z : Answer Input) → x ≡ z → (answer_no a ≡ n) ↔ Read C
      go (done i) e =
          let k = ex i (sym read ∙ e) (h.judged i e) in
          (λ q. (i, e, k.0 q), λ c. k.1 (subst C (done-same _ _ (sym c.1 ∙ e)) c.2))
      go (refused k o) e = (λ q. absurd (by (no-other-of fs x read) q), λ c. absurd (done-not-refused (sym c.1 ∙ e)))
        where
          same : answer_no a ≡ answer_no x
          same = ap answer_no (h.unread k o e) ∙ sym (ap answer_no e)

          by : (answer_no x ≡ 0) ⊎ ((answer_no x ≡ 1) ⊎ (answer_no x ≡ 9)) → answer_no a ≡ n → ⊥
          by (inl z) q = number-not-zero k (sym (ap answer_no e) ∙ z)
          by (inr (inl z)) q = no1 (sym q ∙ same ∙ z)
          by (inr (inr z)) q = no9 (sym q ∙ same ∙ z)

  pub run_0 : (answer_no a ≡ 0) ↔ Read (λ i. Admitted i × AllServed i)
  run_0 = of-read 0 _ (λ e. omega arith) (λ e. omega arith) (λ i r k. pool_0 fs i r room enough a k)

  pub run_2 : (answer_no a ≡ 2) ↔ Read (λ i. SomeWrongCount (pool_of i))
  run_2 = of-read 2 _ (λ e. omega arith) (λ e. omega arith) (λ i r k. pool_2 fs i r room enough a k)

  pub run_3 : (answer_no a ≡ 3) ↔ Read (λ i. ((SomeWrongCount (pool_of i) → ⊥) × SomeNotThere (pool_of i)) ⊎ (Admitted i × FirstLost i))
  run_3 = of-read 3 _ (λ e. omega arith) (λ e. omega arith) (λ i r k. pool_3 fs i r room enough a k)

  pub run_4 : (answer_no a ≡ 4) ↔ Read (λ i. (SomeWrongCount (pool_of i) → ⊥) × (SomeNotThere (pool_of i) → ⊥) × ClosedWalk (pool_of i) [])
  run_4 = of-read 4 _ (λ e. omega arith) (λ e. omega arith) (λ i r k. pool_4 fs i r room enough a k)

  pub run_5 : (answer_no a ≡ 5) ↔ Read (λ i. Admitted i × FirstDouble i)
  run_5 = of-read 5 _ (λ e. omega arith) (λ e. omega arith) (λ i r k. pool_5 fs i r room enough a k)

  -- 1 and 9 exactly when reading gives them
  of-frames : (n : ℕ) → (n ≡ 0 → ⊥) → ((i : Input) → x ≡ done i → answer_no a ≡ n → ⊥) → (answer_no a ≡ n) ↔ (answer_no x ≡ n)
  of-frames n no0 never = go x refl
    where
      go : (z : Answer Input) → x ≡ z → (answer_no a ≡ n) ↔ (answer_no x ≡ n)
      go (done i) e = (λ q. absurd (never i e q), λ q. absurd (no0 (sym q ∙ ap answer_no e)))
      go (refused k o) e =
          let s : answer_no a ≡ answer_no x = ap answer_no (h.unread k o e) ∙ sym (ap answer_no e) in
          (λ q. sym s ∙ q, λ q. s ∙ q)

  pub run_1 : (answer_no a ≡ 1) ↔ (answer_no x ≡ 1)
  run_1 = of-frames 1 (λ e. omega arith) (λ i e q. (pool-only fs i (sym read ∙ e) room enough a (h.judged i e)).1 q)

  pub run_9 : (answer_no a ≡ 9) ↔ (answer_no x ≡ 9)
  run_9 = of-frames 9 (λ e. omega arith) (λ i e q. let z = (pool-only fs i (sym read ∙ e) room enough a (h.judged i e)).0 in omega (arith, z, q))
