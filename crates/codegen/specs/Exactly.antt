-- REQUESTS AND BUILDS ON LENT BYTES: only one answer fits; 1 of a result and of a context, and 9, exactly when; the numbers of requests where the bytes hold
-- a context of `meaning`.
-- Assumes nothing.
use Rattle.std.specs.Prelude.{ℕ, zero, suc, ◌*◌, ◌<◌, ◌≤◌, ◌≡◌, Bool, ◌&&◌, cond, List, [], ◌∷◌, ◌⊎◌, ◌↔◌, length}
use Rattle.std.proofs.Math.Path.{refl}
use Rattle.std.proofs.Common.{sym, ◌∙◌, ap, subst, arith, leb-false, le-ltb, ltb-false}
use Rattle.std.proofs.Math.Bool.{true, false}
use Rattle.std.proofs.Math.Option.{Option, none, some}
use Rattle.std.proofs.Math.Logic.{inl, inr}
use Rattle.std.proofs.Math.Dec.{leb, ltb}
use Rattle.std.proofs.lemmas.Bool.{lt-leb}
use Rattle.meaning.specs.Refusals.{Refusal, number, Answer, done, refused, ◌then◌, answer_no}
use Rattle.meaning.specs.Trees.{Expression, Forest, Acyclic, nth}
use Rattle.meaning.specs.Steps.{Cell, Ref}
use Rattle.meaning.specs.Order.{there, ask}
use Rattle.meaning.specs.Generation.{State, Result, result, Request, plain_result, serve_all}
use Rattle.meaning.specs.Holding.{mapped, copy_on, serve_on}
use Rattle.meaning.proofs.Laws.Tests.{true-false, number-not-zero}
use Rattle.meaning.proofs.Laws.Levels.{OnlyDouble, asks-refuse_5}
use Rattle.kinds.specs.Steps.{step_size}
use Rattle.frames.specs.Order.{Input}
use Rattle.pool.specs.Trees.{forest}
use Rattle.pool.specs.Shaped.{Shaped}
use Rattle.pool.specs.Verdict.{Verdict}
use Rattle.pool.specs.Exactly.{exactly_0, one_answer, cases}
use Rattle.pool.specs.Exactly as pool
use Rattle.pool.specs.Numbered.{pool_of}
use Rattle.requests.specs.Generating.{number_limit}
use Rattle.requests.specs.Runs.{requests_of}
use Rattle.starkinfo_codegen.specs.Encoding.{ref_of}
use Rattle.builds.specs.Raw.{RawBlock, RawSegment, copy_into}
use Rattle.context.specs.Context.{Good, Exactly}
use Rattle.codegen.specs.Said.{Said, said, with_blocks, sayings, serve_said, said_of, serve-said, segment_said}
use Rattle.codegen.specs.Results.{result_of, asking, result_good}
use Rattle.codegen.specs.Written.{step_count, fits, fitting}
use Rattle.codegen.specs.Serving.{OrMalformed, served_on, Answered, Serves}
use Rattle.codegen.specs.Building.{Lists, fits_all, built_on, AnsweredBuild, Builds}
use Rattle.codegen.specs.declared.asked.Wanted.{Wanted}

-- ── only one answer fits ─────────────────────────────────────────────────────
-- a test that is true exactly when P holds is one test
same_test : {P : Type 0} (a b : Bool) → Exactly a P → Exactly b P → a ≡ b
same_test true true x y = refl
same_test true false x y = sym (y.1 (x.0 refl))
same_test false true x y = x.1 (y.0 refl)
same_test false false x y = refl

module _ {A : Type 0} {P : Type 0} (Q : Answer A → Type 0) (only : (a b : Answer A) → Q a → Q b → a ≡ b) where
  one-checked : (a b : Answer A) → ((g : Bool) × Exactly g P × OrMalformed g a (Q a)) → ((g : Bool) × Exactly g P × OrMalformed g b (Q b)) → a ≡ b
  one-checked a b (g, x, p) (h, y, q) = go g h (same_test g h x y) p q
    where
      go : (g h : Bool) → g ≡ h → OrMalformed g a (Q a) → OrMalformed h b (Q b) → a ≡ b
      go true true e p q = only a b p q
      go false false e p q = p ∙ sym q
      go true false e p q = absurd (true-false refl e)
      go false true e p q = absurd (true-false refl (sym e))

one-read :
    {A : Type 0} (Q : Input → Answer A → Type 0) → ((i : Input) (a b : Answer A) → Q i a → Q i b → a ≡ b) → (r : Answer Input) (a b : Answer A) →
    ((k : Refusal) (o : Option ℕ) → r ≡ refused k o → a ≡ refused k o) → ((k : Refusal) (o : Option ℕ) → r ≡ refused k o → b ≡ refused k o) →
    ((i : Input) → r ≡ done i → Q i a) → ((i : Input) → r ≡ done i → Q i b) → a ≡ b
one-read Q only (done i) a b u v x y = only i a b (x i refl) (y i refl)
one-read Q only (refused k o) a b u v x y = u k o refl ∙ sym (v k o refl)

module _ (i : Input) (w : Wanted) (x l : List ℕ) where
  abbrev pub end : Answer (Unit {0}) → Answer Said
  end v = v then λ _. served_on (forest (pool_of i)) (asking (result_of w.kind w.id) (requests_of i)) (length l) (said x l)

  abbrev pub Judged : Answer Said → Type 0
  Judged a = (v : Answer (Unit {0})) × Verdict (pool_of i) [] v × (a ≡ end v)

  abbrev pub Checked : Answer Said → Type 0
  Checked a = (g : Bool) × Exactly g (Good x (length i.expressions) (length l)) × OrMalformed g a (Judged a)

  abbrev pub AnsweredFor : Answer Said → Type 0
  AnsweredFor a = Answered (pool_of i) (requests_of i) (length i.expressions) (length i.requests) w x l a

  one-answered : (a b : Answer Said) → AnsweredFor a → AnsweredFor b → a ≡ b
  one-answered a b p q = go (result_good w.kind w.id (length i.requests)) p q
    where
      go : (t : Bool) → OrMalformed t a (Checked a) → OrMalformed t b (Checked b) → a ≡ b
      go false p q = p ∙ sym q
      go true p q = one-checked Judged (λ a b u v. u.2 ∙ ap end (one_answer (pool_of i) [] u.0 v.0 u.1 v.1) ∙ sym v.2) a b p q

-- OF REQUESTS
pub one-served : (r : Answer Input) (w : Wanted) (x l : List ℕ) (a b : Answer Said) → Serves r w x l a → Serves r w x l b → a ≡ b
one-served r w x l a b p q =
    one-read (λ i. AnsweredFor i w x l) (λ i. one-answered i w x l) r a b p.unread q.unread p.read q.read

-- OF A BUILD
pub one-built : (r : Answer Input) (x l : List ℕ) (o : Lists) (a b : Answer RawSegment) → Builds r x l o a → Builds r x l o b → a ≡ b
one-built r x l o a b p q =
    one-read (λ i. AnsweredBuild (pool_of i) (length i.expressions) x l o) one r a b p.unread q.unread p.read q.read
  where
    one : (i : Input) (a b : Answer RawSegment) → AnsweredBuild (pool_of i) (length i.expressions) x l o a → AnsweredBuild (pool_of i) (length i.expressions) x l o b → a ≡ b
    one i a b p q =
        let end : Answer (Unit {0}) → Answer RawSegment = λ v. v then λ _. built_on (forest (pool_of i)) o (said x l) in
        one-checked (λ a. (v : Answer (Unit {0})) × Verdict (pool_of i) [] v × (a ≡ end v))
        (λ a b u v. u.2 ∙ ap end (one_answer (pool_of i) [] u.0 v.0 u.1 v.1) ∙ sym v.2) a b p q

-- ── the numbers of requests ──────────────────────────────────────────────────
-- where the bytes hold a context of `meaning`, they are those of `serve_all`, of which `all_3`, `all_5`, `all_7` and `all_8` speak
pub held_number :
    (E : Forest) (qs : List Request) (x l : List ℕ) (st : State) → said x l ≡ said_of st → answer_no (serve_said E qs (said x l)) ≡ answer_no (serve_all 2 E qs st)
held_number E qs x l st h = ap (λ (s : Said). answer_no (serve_said E qs s)) h ∙ ap answer_no (serve-said E qs st) ∙ same (serve_all 2 E qs st)
  where
    same : (z : Answer State) → answer_no (mapped said_of z) ≡ answer_no z
    same (done s) = refl
    same (refused k o) = refl

-- 3, 5, 7, 8, or done
abbrev pub Served : ℕ → Type 0
Served n = (n ≡ 0) ⊎ ((n ≡ 3) ⊎ ((n ≡ 5) ⊎ ((n ≡ 7) ⊎ (n ≡ 8))))

then-served : {A B : Type 0} (z : Answer A) (f : A → Answer B) → Served (answer_no z) → ((a : A) → Served (answer_no (f a))) → Served (answer_no (z then f))
then-served (done a) f h g = g a
then-served (refused k o) f h g = h

module _ (E : Forest) (acyclic : Acyclic E) where
  double-served : {A : Type 0} (z : Answer A) → OnlyDouble z → Served (answer_no z)
  double-served (done a) h = inl refl
  double-served (refused k o) h = inr (inr (inl (ap number (h k o refl))))

  plain-served : (r : ℕ) (q : Option Result) → Served (answer_no (plain_result r q))
  plain-served r none = inl refl
  plain-served zero (some q) = inl refl
  plain-served (suc r) (some q) = inr (inr (inr (inl refl)))

  with-served : (st : Said) (o : Option (List RawBlock)) → Served (answer_no (with_blocks st o))
  with-served st none = inr (inr (inr (inr refl)))
  with-served st (some bs) = inl refl

  copy-served : (e r : ℕ) (q : Option Result) (st : Said) → Served (answer_no (copy_on 2 E (sayings E) e r q st))
  copy-served e r none st = inl refl
  copy-served e r (some (result k i)) st = with-served st (copy_into e r (ref_of (Ref.var (Cell.cell k i r))) st.blocks)

  module _ (q : Request) (st : Said) where
    abbrev generated : Answer Said
    generated = ask 2 E q.fused q.expression q.row st.marks then λ a. plain_result q.row q.result then λ _. done ((sayings E).add a st)

    generated-served : (x : Expression) → nth E q.expression ≡ some x → Served (answer_no generated)
    generated-served x f =
        then-served (ask 2 E q.fused q.expression q.row st.marks) (λ a. plain_result q.row q.result then λ _. done ((sayings E).add a st))
        (double-served (ask 2 E q.fused q.expression q.row st.marks) (asks-refuse_5 2 E acyclic q.fused q.expression q.row x f st.marks))
        (λ a. then-served (plain_result q.row q.result) (λ _. done ((sayings E).add a st)) (plain-served q.row q.result) (λ u. inl refl))

    marked : (b : Bool) → Served (answer_no generated) → Served (answer_no (cond b (done st) generated))
    marked true h = inl refl
    marked false h = h

    abbrev copy : Said → Answer Said
    copy s = copy_on 2 E (sayings E) q.expression q.row q.result s

    one_number : Served (answer_no (serve_on 2 E (sayings E) q st))
    one_number = go (nth E q.expression) refl
      where
        go :
            (o : Option Expression) → nth E q.expression ≡ o →
            Served (answer_no (there o then λ _. cond (st.marks q.expression q.row) (done st) generated then copy))
        go none f = inr (inl refl)
        go (some x) f =
            then-served (cond (st.marks q.expression q.row) (done st) generated) copy (marked (st.marks q.expression q.row) (generated-served x f))
            (copy-served q.expression q.row q.result)

  -- WHATEVER THE BYTES SAY, requests get no other number
  pub said-only : (qs : List Request) (st : Said) → Served (answer_no (serve_said E qs st))
  said-only [] st = inl refl
  said-only (q ∷ qs) st = then-served (serve_on 2 E (sayings E) q st) (λ s. serve_said E qs s) (one_number q st) (said-only qs)

  -- ── 9 of requests ──────────────────────────────────────────────────────────
  -- the list has no room for the steps, or their number or the counter is none of 16 bits
  abbrev pub NoRoom : ℕ → Said → Type 0
  NoRoom room st = (room < step_size * step_count st) ⊎ ((number_limit ≤ step_count st) ⊎ (number_limit ≤ st.counter))

  no_room : (room : ℕ) (st : Said) → (answer_no (fitting room st) ≡ 9) ↔ NoRoom room st
  unfolding fits
  no_room room st = (to (leb (step_size * step_count st) room) refl (ltb (step_count st) number_limit) refl (ltb st.counter number_limit) refl, from)
    where
      to :
          (a : Bool) → leb (step_size * step_count st) room ≡ a → (b : Bool) → ltb (step_count st) number_limit ≡ b → (c : Bool) → ltb st.counter number_limit ≡ c →
          answer_no (cond (a && (b && c)) (done st) (refused Refusal.full none)) ≡ 9 → NoRoom room st
      to false p b q c r h = inl (leb-false (step_size * step_count st) room p)
      to true p false q c r h = inr (inl (ltb-false (step_count st) number_limit q))
      to true p true q false r h = inr (inr (ltb-false st.counter number_limit r))
      to true p true q true r h = absurd (omega (arith, h))

      and_no : (b : Bool) → (b && false) ≡ false
      and_no true = refl
      and_no false = refl

      from : NoRoom room st → answer_no (cond (leb (step_size * step_count st) room && (ltb (step_count st) number_limit && ltb st.counter number_limit)) (done st) (refused Refusal.full none)) ≡ 9
      from (inl h) = rw (lt-leb (step_size * step_count st) room h)
      from (inr (inl h)) = rw (le-ltb (step_count st) number_limit h, and_no (leb (step_size * step_count st) room))
      from (inr (inr h)) = rw (le-ltb st.counter number_limit h, and_no (ltb (step_count st) number_limit), and_no (leb (step_size * step_count st) room))

  -- 9 EXACTLY WHEN no request is refused and what is said after them does not fit
  pub served_9 : (qs : List Request) (room : ℕ) (st : Said) → (answer_no (served_on E qs room st) ≡ 9) ↔ ((s : Said) × (serve_said E qs st ≡ done s) × NoRoom room s)
  served_9 qs room st = (to (serve_said E qs st) refl (said-only qs st), λ h. ap (λ (z : Answer Said). answer_no (z then fitting room)) h.1 ∙ (no_room room h.0).1 h.2)
    where
      not_9 : {n : ℕ} → Served n → n ≡ 9 → ⊥
      not_9 (inl e) h = omega arith
      not_9 (inr (inl e)) h = omega arith
      not_9 (inr (inr (inl e))) h = omega arith
      not_9 (inr (inr (inr (inl e)))) h = omega arith
      not_9 (inr (inr (inr (inr e)))) h = omega arith

      to : (z : Answer Said) → serve_said E qs st ≡ z → Served (answer_no z) → answer_no (z then fitting room) ≡ 9 → (s : Said) × (serve_said E qs st ≡ done s) × NoRoom room s
      to (done s) e n h = (s, e, (no_room room s).0 h)
      to (refused k o) e n h = absurd (not_9 n h)

  -- and never 1, 2 or 4
  pub served-only : (qs : List Request) (room : ℕ) (st : Said) → Served (answer_no (served_on E qs room st)) ⊎ (answer_no (served_on E qs room st) ≡ 9)
  served-only qs room st = go (serve_said E qs st) (said-only qs st)
    where
      by : (s : Said) (b : Bool) → Served (answer_no (cond b (done s) (refused Refusal.full none))) ⊎ (answer_no (cond b (done s) (refused Refusal.full none)) ≡ 9)
      by s true = inl (inl refl)
      by s false = inr refl

      go : (z : Answer Said) → Served (answer_no z) → Served (answer_no (z then fitting room)) ⊎ (answer_no (z then fitting room) ≡ 9)
      go (done s) h = by s (fits room (step_count s) s.counter)
      go (refused k o) h = inl h

-- ── 1 and 9 of a call ────────────────────────────────────────────────────────
-- a refusal of admission is 2, 3 or 4
verdict-only : (i : Input) (k : Refusal) (o : Option ℕ) → Verdict (pool_of i) [] (refused k o) → (number k ≡ 1 → ⊥) × (number k ≡ 9 → ⊥)
verdict-only i k o j = go (cases (pool_of i) [] (refused k o) j)
  where
    go : pool.Case (pool_of i) [] (refused k o) → (number k ≡ 1 → ⊥) × (number k ≡ 9 → ⊥)
    go (pool.Case.two w e) = (λ q. omega arith, λ q. omega arith)
    go (pool.Case.three w x e) = (λ q. omega arith, λ q. omega arith)
    go (pool.Case.four s w e) = (λ q. omega arith, λ q. omega arith)
    go (pool.Case.admitted s r w e) = (λ q. absurd (number-not-zero k e), λ q. absurd (number-not-zero k e))

-- the pool is admitted
pub record Admitted (i : Input) : Type 0 where
  pub shaped : Shaped (pool_of i)
  pub acyclic : Acyclic (forest (pool_of i))

-- the result that is asked for, or the context, is a malformed record
abbrev pub BadRecord : Input → Wanted → List ℕ → List ℕ → Type 0
BadRecord i w x l =
    (result_good w.kind w.id (length i.requests) ≡ false)
    ⊎ ((result_good w.kind w.id (length i.requests) ≡ true) × (Good x (length i.expressions) (length l) → ⊥))

-- everything before the room is fine, and what is said after the requests has none
pub record Overfull (i : Input) (w : Wanted) (x l : List ℕ) : Type 0 where
  pub result : result_good w.kind w.id (length i.requests) ≡ true
  pub good : Good x (length i.expressions) (length l)
  pub admitted : Admitted i
  pub after : Said
  pub served : serve_said (forest (pool_of i)) (asking (result_of w.kind w.id) (requests_of i)) (said x l) ≡ done after
  pub over : NoRoom (forest (pool_of i)) admitted.acyclic (length l) after

module _ (i : Input) (w : Wanted) (x l : List ℕ) (a : Answer Said) (h : AnsweredFor i w x l a) where
  -- which of the checks decides
  pub data Case : Type 0 where
    bad_result : result_good w.kind w.id (length i.requests) ≡ false → answer_no a ≡ 1 → Case
    bad_context : result_good w.kind w.id (length i.requests) ≡ true → (Good x (length i.expressions) (length l) → ⊥) → answer_no a ≡ 1 → Case
    stopped : result_good w.kind w.id (length i.requests) ≡ true → Good x (length i.expressions) (length l) → (Admitted i → ⊥) → (answer_no a ≡ 0 → ⊥) → (answer_no a ≡ 1 → ⊥) → (answer_no a ≡ 9 → ⊥) → Case
    ran : result_good w.kind w.id (length i.requests) ≡ true → Good x (length i.expressions) (length l) → Admitted i → a ≡ end i w x l (done tt) → Case

  pub case : Case
  case = result (result_good w.kind w.id (length i.requests)) refl h
    where
      judged : result_good w.kind w.id (length i.requests) ≡ true → Good x (length i.expressions) (length l) → Judged i w x l a → Case
      judged p g (done u, j, e) = let k = (exactly_0 (pool_of i) (done u) j).0 refl in Case.ran p g (record { shaped = k.0; acyclic = k.1 }) e
      judged p g (refused k o, j, e) =
          let n = verdict-only i k o j in
          Case.stopped p g (λ d. number-not-zero k ((exactly_0 (pool_of i) (refused k o) j).1 (d.shaped, d.acyclic))) (λ q. number-not-zero k (sym (ap answer_no e) ∙ q)) (λ q. n.0 (sym (ap answer_no e) ∙ q)) (λ q. n.1 (sym (ap answer_no e) ∙ q))

      context : result_good w.kind w.id (length i.requests) ≡ true → (g : Bool) → Exactly g (Good x (length i.expressions) (length l)) → OrMalformed g a (Judged i w x l a) → Case
      context p true ex t = judged p (ex.0 refl) t
      context p false ex t = Case.bad_context p (λ g. true-false (ex.1 g) refl) (ap answer_no t)

      result : (t : Bool) → result_good w.kind w.id (length i.requests) ≡ t → OrMalformed t a (Checked i w x l a) → Case
      result false p t = Case.bad_result p (ap answer_no t)
      result true p (g, ex, t) = context p g ex t

  not_1 : (n : ℕ) → Served n ⊎ (n ≡ 9) → n ≡ 1 → ⊥
  not_1 n (inl (inl e)) q = omega arith
  not_1 n (inl (inr (inl e))) q = omega arith
  not_1 n (inl (inr (inr (inl e)))) q = omega arith
  not_1 n (inl (inr (inr (inr (inl e))))) q = omega arith
  not_1 n (inl (inr (inr (inr (inr e))))) q = omega arith
  not_1 n (inr e) q = omega arith

  abbrev qs : List Request
  qs = asking (result_of w.kind w.id) (requests_of i)

  pub answered_1 : (answer_no a ≡ 1) ↔ BadRecord i w x l
  answered_1 = (to case, from case)
    where
      to : Case → answer_no a ≡ 1 → BadRecord i w x l
      to (Case.bad_result p n) q = inl p
      to (Case.bad_context p g n) q = inr (p, g)
      to (Case.stopped p g d z n m) q = absurd (n q)
      to (Case.ran p g d e) q = absurd (not_1 (answer_no a) (subst (λ (z : Answer Said). Served (answer_no z) ⊎ (answer_no z ≡ 9)) (sym e) (served-only (forest (pool_of i)) d.acyclic qs (length l) (said x l))) q)

      from : Case → BadRecord i w x l → answer_no a ≡ 1
      from (Case.bad_result p n) b = n
      from (Case.bad_context p g n) b = n
      from (Case.stopped p g d z n m) (inl b) = absurd (true-false p b)
      from (Case.stopped p g d z n m) (inr b) = absurd (b.1 g)
      from (Case.ran p g d e) (inl b) = absurd (true-false p b)
      from (Case.ran p g d e) (inr b) = absurd (b.1 g)

  pub answered_9 : (answer_no a ≡ 9) ↔ Overfull i w x l
  answered_9 = (to case, from case)
    where
      to : Case → answer_no a ≡ 9 → Overfull i w x l
      to (Case.bad_result p n) q = absurd (omega (arith, n, q))
      to (Case.bad_context p g n) q = absurd (omega (arith, n, q))
      to (Case.stopped p g d z n m) q = absurd (m q)
      to (Case.ran p g d e) q =
          let o = (served_9 (forest (pool_of i)) d.acyclic qs (length l) (said x l)).0 (sym (ap answer_no e) ∙ q) in
          record { result = p; good = g; admitted = d; after = o.0; served = o.1; over = o.2 }

      from : Case → Overfull i w x l → answer_no a ≡ 9
      from (Case.bad_result p n) o = absurd (true-false o.result p)
      from (Case.bad_context p g n) o = absurd (g o.good)
      from (Case.stopped p g d z n m) o = absurd (d o.admitted)
      from (Case.ran p g d e) o = ap answer_no e ∙ (served_9 (forest (pool_of i)) o.admitted.acyclic qs (length l) (said x l)).1 (o.after, o.served, o.over)

-- OF REQUESTS ON LENT BYTES
module _ (r : Answer Input) (w : Wanted) (x l : List ℕ) (a : Answer Said) (h : Serves r w x l a) where
  -- 1 EXACTLY WHEN reading gives it, or something was read and the result or the context is a malformed record
  pub serve_1 : (answer_no a ≡ 1) ↔ ((answer_no r ≡ 1) ⊎ ((i : Input) × (r ≡ done i) × BadRecord i w x l))
  serve_1 = (to r refl, from r refl)
    where
      to : (z : Answer Input) → r ≡ z → answer_no a ≡ 1 → (answer_no r ≡ 1) ⊎ ((i : Input) × (r ≡ done i) × BadRecord i w x l)
      to (done i) e q = inr (i, e, (answered_1 i w x l a (h.read i e)).0 q)
      to (refused k o) e q = inl (ap answer_no e ∙ sym (ap answer_no (h.unread k o e)) ∙ q)

      from : (z : Answer Input) → r ≡ z → (answer_no r ≡ 1) ⊎ ((i : Input) × (r ≡ done i) × BadRecord i w x l) → answer_no a ≡ 1
      from (done i) e (inl n) = absurd (omega (arith, ap answer_no e, n))
      from (refused k o) e (inl n) = ap answer_no (h.unread k o e) ∙ sym (ap answer_no e) ∙ n
      from z e (inr (i, p, b)) = (answered_1 i w x l a (h.read i p)).1 b

  -- 9 EXACTLY WHEN reading gives it, or all else is fine and what is said after the requests does not fit
  pub serve_9 : (answer_no a ≡ 9) ↔ ((answer_no r ≡ 9) ⊎ ((i : Input) × (r ≡ done i) × Overfull i w x l))
  serve_9 = (to r refl, from r refl)
    where
      to : (z : Answer Input) → r ≡ z → answer_no a ≡ 9 → (answer_no r ≡ 9) ⊎ ((i : Input) × (r ≡ done i) × Overfull i w x l)
      to (done i) e q = inr (i, e, (answered_9 i w x l a (h.read i e)).0 q)
      to (refused k o) e q = inl (ap answer_no e ∙ sym (ap answer_no (h.unread k o e)) ∙ q)

      from : (z : Answer Input) → r ≡ z → (answer_no r ≡ 9) ⊎ ((i : Input) × (r ≡ done i) × Overfull i w x l) → answer_no a ≡ 9
      from (done i) e (inl n) = absurd (omega (arith, ap answer_no e, n))
      from (refused k o) e (inl n) = ap answer_no (h.unread k o e) ∙ sym (ap answer_no e) ∙ n
      from z e (inr (i, p, b)) = (answered_9 i w x l a (h.read i p)).1 b

-- OF A BUILD ON LENT BYTES
-- some list has no room for its steps
abbrev pub NoRoomFor : Lists → RawSegment → Type 0
NoRoomFor o s =
    (length o.first < step_size * length s.first) ⊎ ((length o.i < step_size * length s.i) ⊎ (length o.last < step_size * length s.last))

all_fit : (o : Lists) (s : RawSegment) → (fits_all o s ≡ false) ↔ NoRoomFor o s
unfolding fits_all
all_fit o s =
    (to (leb (step_size * length s.first) (length o.first)) refl (leb (step_size * length s.i) (length o.i)) refl (leb (step_size * length s.last) (length o.last)) refl, from)
  where
    to :
        (a : Bool) → leb (step_size * length s.first) (length o.first) ≡ a → (b : Bool) → leb (step_size * length s.i) (length o.i) ≡ b →
        (c : Bool) → leb (step_size * length s.last) (length o.last) ≡ c → (a && (b && c)) ≡ false → NoRoomFor o s
    to false p b q c r h = inl (leb-false (step_size * length s.first) (length o.first) p)
    to true p false q c r h = inr (inl (leb-false (step_size * length s.i) (length o.i) q))
    to true p true q false r h = inr (inr (leb-false (step_size * length s.last) (length o.last) r))
    to true p true q true r h = absurd (true-false refl h)

    no : (b : Bool) → (b && false) ≡ false
    no true = refl
    no false = refl

    from :
        NoRoomFor o s →
        (leb (step_size * length s.first) (length o.first) && (leb (step_size * length s.i) (length o.i) && leb (step_size * length s.last) (length o.last))) ≡ false
    from (inl h) = rw (lt-leb (step_size * length s.first) (length o.first) h)
    from (inr (inl h)) = rw (lt-leb (step_size * length s.i) (length o.i) h, no (leb (step_size * length s.first) (length o.first)))
    from (inr (inr h)) =
        rw (lt-leb (step_size * length s.last) (length o.last) h, no (leb (step_size * length s.i) (length o.i)), no (leb (step_size * length s.first) (length o.first)))

-- everything before the room is fine, and some list has none
pub record OverfullBuild (i : Input) (x l : List ℕ) (o : Lists) : Type 0 where
  pub good : Good x (length i.expressions) (length l)
  pub admitted : Admitted i
  pub over : NoRoomFor o (segment_said (forest (pool_of i)) (said x l))

module _ (i : Input) (x l : List ℕ) (o : Lists) (a : Answer RawSegment) (h : AnsweredBuild (pool_of i) (length i.expressions) x l o a) where
  abbrev seg : RawSegment
  seg = segment_said (forest (pool_of i)) (said x l)

  data BuildCase : Type 0 where
    bad : (Good x (length i.expressions) (length l) → ⊥) → answer_no a ≡ 1 → BuildCase
    stopped : Good x (length i.expressions) (length l) → (Admitted i → ⊥) → (answer_no a ≡ 1 → ⊥) → (answer_no a ≡ 9 → ⊥) → BuildCase
    built : Good x (length i.expressions) (length l) → Admitted i → a ≡ built_on (forest (pool_of i)) o (said x l) → BuildCase

  build-case : BuildCase
  build-case = go h.0 h.1 h.2
    where
      judged :
          Good x (length i.expressions) (length l) →
          ((v : Answer (Unit {0})) × Verdict (pool_of i) [] v × (a ≡ (v then λ _. built_on (forest (pool_of i)) o (said x l)))) → BuildCase
      judged g (done u, j, e) = let k = (exactly_0 (pool_of i) (done u) j).0 refl in BuildCase.built g (record { shaped = k.0; acyclic = k.1 }) e
      judged g (refused k n, j, e) =
          let m = verdict-only i k n j in
          BuildCase.stopped g (λ d. number-not-zero k ((exactly_0 (pool_of i) (refused k n) j).1 (d.shaped, d.acyclic))) (λ q. m.0 (sym (ap answer_no e) ∙ q)) (λ q. m.1 (sym (ap answer_no e) ∙ q))

      go :
          (g : Bool) → Exactly g (Good x (length i.expressions) (length l)) →
          OrMalformed g a ((v : Answer (Unit {0})) × Verdict (pool_of i) [] v × (a ≡ (v then λ _. built_on (forest (pool_of i)) o (said x l)))) → BuildCase
      go true ex t = judged (ex.0 refl) t
      go false ex t = BuildCase.bad (λ g. true-false (ex.1 g) refl) (ap answer_no t)

  room_number : (b : Bool) → (answer_no (cond b (done seg) (refused Refusal.full none)) ≡ 1 → ⊥) × ((answer_no (cond b (done seg) (refused Refusal.full none)) ≡ 9) ↔ (b ≡ false))
  room_number true = (λ q. omega arith, (λ q. absurd (omega arith), λ q. absurd (true-false refl q)))
  room_number false = (λ q. omega arith, (λ q. refl, λ q. refl))

  pub built_1 : (answer_no a ≡ 1) ↔ (Good x (length i.expressions) (length l) → ⊥)
  built_1 = (to build-case, from build-case)
    where
      to : BuildCase → answer_no a ≡ 1 → Good x (length i.expressions) (length l) → ⊥
      to (BuildCase.bad n e) q g = n g
      to (BuildCase.stopped g d n m) q k = n q
      to (BuildCase.built g d e) q k = (room_number (fits_all o seg)).0 (sym (ap answer_no e) ∙ q)

      from : BuildCase → (Good x (length i.expressions) (length l) → ⊥) → answer_no a ≡ 1
      from (BuildCase.bad n e) b = e
      from (BuildCase.stopped g d n m) b = absurd (b g)
      from (BuildCase.built g d e) b = absurd (b g)

  pub built_9 : (answer_no a ≡ 9) ↔ OverfullBuild i x l o
  built_9 = (to build-case, from build-case)
    where
      to : BuildCase → answer_no a ≡ 9 → OverfullBuild i x l o
      to (BuildCase.bad n e) q = absurd (omega (arith, e, q))
      to (BuildCase.stopped g d n m) q = absurd (m q)
      to (BuildCase.built g d e) q = record { good = g; admitted = d; over = (all_fit o seg).0 ((room_number (fits_all o seg)).1.0 (sym (ap answer_no e) ∙ q)) }

      from : BuildCase → OverfullBuild i x l o → answer_no a ≡ 9
      from (BuildCase.bad n e) b = absurd (n b.good)
      from (BuildCase.stopped g d n m) b = absurd (d b.admitted)
      from (BuildCase.built g d e) b = ap answer_no e ∙ (room_number (fits_all o seg)).1.1 ((all_fit o seg).1 b.over)

module _ (r : Answer Input) (x l : List ℕ) (o : Lists) (a : Answer RawSegment) (h : Builds r x l o a) where
  -- a number that reading gives, or the condition under which it is given to what was read
  of-read : (n : ℕ) (C : Input → Type 0) → ((i : Input) → r ≡ done i → (answer_no a ≡ n) ↔ C i) → (n ≡ 0 → ⊥) → (answer_no a ≡ n) ↔ ((answer_no r ≡ n) ⊎ ((i : Input) × (r ≡ done i) × C i))
  of-read n C ex z = (to r refl, from r refl)
    where
      to : (y : Answer Input) → r ≡ y → answer_no a ≡ n → (answer_no r ≡ n) ⊎ ((i : Input) × (r ≡ done i) × C i)
      to (done i) e q = inr (i, e, (ex i e).0 q)
      to (refused k u) e q = inl (ap answer_no e ∙ sym (ap answer_no (h.unread k u e)) ∙ q)

      from : (y : Answer Input) → r ≡ y → (answer_no r ≡ n) ⊎ ((i : Input) × (r ≡ done i) × C i) → answer_no a ≡ n
      from (done i) e (inl m) = absurd (z (sym m ∙ ap answer_no e))
      from (refused k u) e (inl m) = ap answer_no (h.unread k u e) ∙ sym (ap answer_no e) ∙ m
      from y e (inr (i, p, b)) = (ex i p).1 b

  -- 1 EXACTLY WHEN reading gives it, or something was read and the context is not good
  pub build_1 : (answer_no a ≡ 1) ↔ ((answer_no r ≡ 1) ⊎ ((i : Input) × (r ≡ done i) × (Good x (length i.expressions) (length l) → ⊥)))
  build_1 = of-read 1 (λ i. Good x (length i.expressions) (length l) → ⊥) (λ i e. built_1 i x l o a (h.read i e)) (λ q. omega arith)

  -- 9 EXACTLY WHEN reading gives it, or all else is fine and some list has no room
  pub build_9 : (answer_no a ≡ 9) ↔ ((answer_no r ≡ 9) ⊎ ((i : Input) × (r ≡ done i) × OverfullBuild i x l o))
  build_9 = of-read 9 (λ i. OverfullBuild i x l o) (λ i e. built_9 i x l o a (h.read i e)) (λ q. omega arith)
