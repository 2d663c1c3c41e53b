-- Serving over whatever holds blocks: a context as `meaning` has it, or the bytes of one. The laws say that serving requests is two phases: the blocks of
-- all of them in order, or the refusal; then these blocks made and a result copied.
-- Assumes nothing.
use Rattle.std.specs.Prelude.{ℕ, ◌≡◌, refl, Bool, true, false, cond, List, [], ◌∷◌, ◌++◌}
use Rattle.std.proofs.Common.{sym, ◌∙◌, ap}
use Rattle.std.proofs.Math.Option.{Option, none, some}
use Rattle.meaning.specs.Refusals.{Answer, done, refused, ◌then◌}
use Rattle.meaning.specs.Trees.{Expression, Forest, nth, Each}
use Rattle.meaning.specs.Steps.{Cell, Ref}
use Rattle.meaning.specs.Order.{Marks, Asked, nothing, there, ask}
use Rattle.meaning.specs.Generation.{State, Result, result, Request, plain_result, copy_into, with_blocks, copy_out, adding, generate, serve, serve_all}
use Rattle.meaning.specs.Demand3.{NoResult}
use Rattle.meaning.specs.Asking.{both, ask_one, ask_all, adding-both, adding-nothing, ask-marked}

-- ── what holds blocks ────────────────────────────────────────────────────────
pub record Holding : Type 1 where
  pub S : Type 0
  pub marks : S → Marks
  pub add : Asked → S → S
  pub copy : ℕ → ℕ → Result → S → Answer S

-- blocks are added with their marks, and one after another
pub record Lawful (H : Holding) : Type 0 where
  pub marked : (a : Asked) (st : H.S) → H.marks (H.add a st) ≡ a.marks
  pub none : (st : H.S) → H.add (nothing (H.marks st)) st ≡ st
  pub both : (a b : Asked) (st : H.S) → H.add b (H.add a st) ≡ H.add (both a b) st

-- 7, where the request's cell is marked or not
abbrev pub result_allowed : Request → Bool → Answer (Unit {0})
result_allowed q marked = cond marked (done tt) (plain_result q.row q.result)

module _ (rows : ℕ) (E : Forest) (H : Holding) where
  abbrev pub copy_on : ℕ → ℕ → Option Result → H.S → Answer H.S
  copy_on e r none st = done st
  copy_on e r (some x) st = H.copy e r x st

  -- ONE REQUEST, in the words of `serve`
  abbrev pub serve_on : Request → H.S → Answer H.S
  serve_on q st =
      there (nth E q.expression) then λ _.
      cond (H.marks st q.expression q.row) (done st)
      (ask rows E q.fused q.expression q.row (H.marks st) then λ a. plain_result q.row q.result then λ _. done (H.add a st))
      then λ st'. copy_on q.expression q.row q.result st'

  abbrev pub serve_all_on : List Request → H.S → Answer H.S
  serve_all_on [] st = done st
  serve_all_on (q ∷ qs) st = serve_on q st then λ st'. serve_all_on qs st'

-- ── the two phases ───────────────────────────────────────────────────────────
module _ (rows : ℕ) (E : Forest) (H : Holding) (L : Lawful H) where
  -- ONE REQUEST: asked for, its result allowed, its blocks added, and its result copied
  pub one-asks :
      (q : Request) (st : H.S) →
      serve_on rows E H q st
      ≡ (ask_one rows E q (H.marks st) then λ a. result_allowed q (H.marks st q.expression q.row) then λ _. copy_on rows E H q.expression q.row q.result (H.add a st))
  one-asks q st = go (nth E e) refl
    where
      e : ℕ
      e = q.expression

      r : ℕ
      r = q.row

      copy : H.S → Answer H.S
      copy s = copy_on rows E H e r q.result s

      allowed : (a : Asked) (y : Answer (Unit {0})) → ((y then λ _. done (H.add a st)) then copy) ≡ (y then λ _. copy (H.add a st))
      allowed a (done u) = refl
      allowed a (refused k o) = refl

      fresh :
          (z : Answer Asked) →
          ((z then λ a. plain_result r q.result then λ _. done (H.add a st)) then copy) ≡ (z then λ a. plain_result r q.result then λ _. copy (H.add a st))
      fresh (done a) = allowed a (plain_result r q.result)
      fresh (refused k o) = refl

      by :
          (x : Expression) → nth E e ≡ some x → (b : Bool) → H.marks st e r ≡ b →
          (cond b (done st) (ask rows E q.fused e r (H.marks st) then λ a. plain_result r q.result then λ _. done (H.add a st)) then copy)
          ≡ (ask rows E q.fused e r (H.marks st) then λ a. result_allowed q b then λ _. copy (H.add a st))
      by x f true h = rw (ask-marked rows E q.fused e r (H.marks st) x f h) (ap copy (sym (L.none st)))
      by x f false h = fresh (ask rows E q.fused e r (H.marks st))

      go :
          (o : Option Expression) → nth E e ≡ o →
          (there o then λ _. cond (H.marks st e r) (done st) (ask rows E q.fused e r (H.marks st) then λ a. plain_result r q.result then λ _. done (H.add a st)) then copy)
          ≡ ((there o then λ _. ask rows E q.fused e r (H.marks st)) then λ a. result_allowed q (H.marks st e r) then λ _. copy (H.add a st))
      go none f = refl
      go (some x) f = by x f (H.marks st e r) refl

  -- that asks for no result
  plain-asks : (q : Request) → NoResult q → (st : H.S) → serve_on rows E H q st ≡ (ask_one rows E q (H.marks st) then λ a. done (H.add a st))
  plain-asks q n st = one-asks q st ∙ go (ask_one rows E q (H.marks st))
    where
      plain : (b : Bool) → result_allowed q b ≡ done tt
      plain true = refl
      plain false = rw n

      go :
          (z : Answer Asked) →
          (z then λ a. result_allowed q (H.marks st q.expression q.row) then λ _. copy_on rows E H q.expression q.row q.result (H.add a st))
          ≡ (z then λ a. done (H.add a st))
      go (done a) = rw (plain (H.marks st q.expression q.row), n)
      go (refused k o) = refl

  -- ALL REQUESTS, of which none asks for a result
  pub all-asks : (qs : List Request) → Each NoResult qs → (st : H.S) → serve_all_on rows E H qs st ≡ (ask_all rows E qs (H.marks st) then λ a. done (H.add a st))
  all-asks [] n st = ap done (sym (L.none st))
  all-asks (q ∷ qs) n st =
      ap (λ (z : Answer H.S). z then λ s. serve_all_on rows E H qs s) (plain-asks q n.0 st) ∙ go (ask_one rows E q (H.marks st)) (all-asks qs n.1)
    where
      then-both :
          (a : Asked) (z : Answer Asked) → (z then λ b. done (H.add b (H.add a st))) ≡ ((z then λ b. done (both a b)) then λ c. done (H.add c st))
      then-both a (done b) = ap done (L.both a b st)
      then-both a (refused k o) = refl

      go :
          (z : Answer Asked) → ((s : H.S) → serve_all_on rows E H qs s ≡ (ask_all rows E qs (H.marks s) then λ a. done (H.add a s))) →
          ((z then λ a. done (H.add a st)) then λ s. serve_all_on rows E H qs s)
          ≡ ((z then λ a. ask_all rows E qs a.marks then λ b. done (both a b)) then λ c. done (H.add c st))
      go (done a) ih = ih (H.add a st) ∙ rw (L.marked a st) (then-both a (ask_all rows E qs a.marks))
      go (refused k o) ih = refl

  serve-append : (xs ys : List Request) (st : H.S) → serve_all_on rows E H (xs ++ ys) st ≡ (serve_all_on rows E H xs st then λ s. serve_all_on rows E H ys s)
  serve-append [] ys st = refl
  serve-append (x ∷ xs) ys st = go (serve_on rows E H x st) (serve-append xs ys)
    where
      go :
          (z : Answer H.S) → ((s : H.S) → serve_all_on rows E H (xs ++ ys) s ≡ (serve_all_on rows E H xs s then λ t. serve_all_on rows E H ys t)) →
          (z then λ s. serve_all_on rows E H (xs ++ ys) s) ≡ ((z then λ s. serve_all_on rows E H xs s) then λ t. serve_all_on rows E H ys t)
      go (done s) ih = ih s
      go (refused k o) ih = refl

  -- AND OF WHICH THE LAST MAY: its result is allowed by the marks before it, and copied after all blocks are added
  pub last-asks :
      (qs : List Request) (q : Request) → Each NoResult qs → (st : H.S) →
      serve_all_on rows E H (qs ++ (q ∷ [])) st
      ≡ (ask_all rows E qs (H.marks st) then λ a. ask_one rows E q a.marks then λ b. result_allowed q (a.marks q.expression q.row) then λ _.
      copy_on rows E H q.expression q.row q.result (H.add (both a b) st))
  last-asks qs q n st =
      serve-append qs (q ∷ []) st ∙ ap (λ (z : Answer H.S). z then λ s. serve_all_on rows E H (q ∷ []) s) (all-asks qs n st) ∙ go (ask_all rows E qs (H.marks st))
    where
      e : ℕ
      e = q.expression

      r : ℕ
      r = q.row

      end : (z : Answer H.S) → (z then λ s. done s) ≡ z
      end (done s) = refl
      end (refused k o) = refl

      tail :
          (a : Asked) (z : Answer Asked) →
          (z then λ b. result_allowed q (a.marks e r) then λ _. copy_on rows E H e r q.result (H.add b (H.add a st)))
          ≡ (z then λ b. result_allowed q (a.marks e r) then λ _. copy_on rows E H e r q.result (H.add (both a b) st))
      tail a (done b) = rw (L.both a b st)
      tail a (refused k o) = refl

      go :
          (z : Answer Asked) →
          ((z then λ a. done (H.add a st)) then λ s. serve_all_on rows E H (q ∷ []) s)
          ≡ (z then λ a. ask_one rows E q a.marks then λ b. result_allowed q (a.marks e r) then λ _. copy_on rows E H e r q.result (H.add (both a b) st))
      go (done a) = end (serve_on rows E H q (H.add a st)) ∙ one-asks q (H.add a st) ∙ rw (L.marked a st) (tail a (ask_one rows E q a.marks))
      go (refused k o) = refl

-- ── from one to another ──────────────────────────────────────────────────────
abbrev pub mapped : {A B : Type 0} → (A → B) → Answer A → Answer B
mapped f (done a) = done (f a)
mapped f (refused k o) = refused k o

-- what one holds, held by another
pub record Carries (H K : Holding) (f : H.S → K.S) : Type 0 where
  pub marks : (st : H.S) → K.marks (f st) ≡ H.marks st
  pub add : (a : Asked) (st : H.S) → K.add a (f st) ≡ f (H.add a st)
  pub copy : (e r : ℕ) (x : Result) (st : H.S) → K.copy e r x (f st) ≡ mapped f (H.copy e r x st)

module _ (rows : ℕ) (E : Forest) (H K : Holding) (f : H.S → K.S) (C : Carries H K f) where
  copy_carried : (e r : ℕ) (x : Option Result) (st : H.S) → copy_on rows E K e r x (f st) ≡ mapped f (copy_on rows E H e r x st)
  copy_carried e r none st = refl
  copy_carried e r (some x) st = C.copy e r x st

  one_carried : (q : Request) (st : H.S) → serve_on rows E K q (f st) ≡ mapped f (serve_on rows E H q st)
  one_carried q st = rw (C.marks st) (go (there (nth E e)))
    where
      e : ℕ
      e = q.expression

      r : ℕ
      r = q.row

      copied : (z : Answer H.S) (y : Answer K.S) → y ≡ mapped f z → (y then λ s. copy_on rows E K e r q.result s) ≡ mapped f (z then λ s. copy_on rows E H e r q.result s)
      copied (done s) y h = rw h (copy_carried e r q.result s)
      copied (refused k o) y h = rw h

      added : (z : Answer Asked) (p : Answer (Unit {0})) → (z then λ a. p then λ _. done (K.add a (f st))) ≡ mapped f (z then λ a. p then λ _. done (H.add a st))
      added (done a) (done u) = ap done (C.add a st)
      added (done a) (refused k o) = refl
      added (refused k o) p = refl

      marked :
          (b : Bool) (x : Answer H.S) (y : Answer K.S) → y ≡ mapped f x → cond b (done (f st)) y ≡ mapped f (cond b (done st) x)
      marked true x y h = refl
      marked false x y h = h

      go :
          (z : Answer Expression) →
          (z then λ _. cond (H.marks st e r) (done (f st)) (ask rows E q.fused e r (H.marks st) then λ a. plain_result r q.result then λ _. done (K.add a (f st))) then λ s.
          copy_on rows E K e r q.result s)
          ≡ mapped f
          (z then λ _. cond (H.marks st e r) (done st) (ask rows E q.fused e r (H.marks st) then λ a. plain_result r q.result then λ _. done (H.add a st)) then λ s.
          copy_on rows E H e r q.result s)
      go (done x) =
          copied
          (cond (H.marks st e r) (done st) (ask rows E q.fused e r (H.marks st) then λ a. plain_result r q.result then λ _. done (H.add a st))) _
          (marked (H.marks st e r) _ _ (added (ask rows E q.fused e r (H.marks st)) (plain_result r q.result)))
      go (refused k o) = refl

  -- SERVING IS THE SAME over either
  pub all_carried : (qs : List Request) (st : H.S) → serve_all_on rows E K qs (f st) ≡ mapped f (serve_all_on rows E H qs st)
  all_carried [] st = refl
  all_carried (q ∷ qs) st = ap (λ (z : Answer K.S). z then λ s. serve_all_on rows E K qs s) (one_carried q st) ∙ go (serve_on rows E H q st) (all_carried qs)
    where
      go :
          (z : Answer H.S) → ((s : H.S) → serve_all_on rows E K qs (f s) ≡ mapped f (serve_all_on rows E H qs s)) →
          (mapped f z then λ s. serve_all_on rows E K qs s) ≡ mapped f (z then λ s. serve_all_on rows E H qs s)
      go (done s) ih = ih s
      go (refused k o) ih = refl

-- ── contexts hold blocks ─────────────────────────────────────────────────────
abbrev copy_state : ℕ → ℕ → Result → State → Answer State
copy_state e r (result k i) st = with_blocks st (copy_into e r (Ref.var (Cell.cell k i r)) st.blocks)

abbrev pub states : Forest → Holding
states E = record { S = State; marks = λ st. st.marks; add = λ a st. adding E a st; copy = copy_state }

pub states_lawful : (E : Forest) → Lawful (states E)
states_lawful E = record { marked = λ a st. refl; none = λ st. adding-nothing E st; both = λ a b st. adding-both E a b st }

-- serving as `serve` says is serving over contexts
module _ (rows : ℕ) (E : Forest) where
  copy-on : (e r : ℕ) (x : Option Result) (st : State) → copy_on rows E (states E) e r x st ≡ copy_out e r x st
  copy-on e r none st = refl
  copy-on e r (some (result k i)) st = refl

  serve-on : (q : Request) (st : State) → serve_on rows E (states E) q st ≡ serve rows E q st
  serve-on q st =
      go (there (nth E q.expression))
      (cond (st.marks q.expression q.row) (done st) (generate rows E q st))
    where
      into : (z : Answer State) → (z then λ s. copy_on rows E (states E) q.expression q.row q.result s) ≡ (z then λ s. copy_out q.expression q.row q.result s)
      into (done s) = copy-on q.expression q.row q.result s
      into (refused k o) = refl

      go :
          (z : Answer Expression) (y : Answer State) →
          (z then λ _. y then λ s. copy_on rows E (states E) q.expression q.row q.result s) ≡ (z then λ _. y then λ s. copy_out q.expression q.row q.result s)
      go (done a) y = into y
      go (refused k o) y = refl

  pub serve_all-on : (qs : List Request) (st : State) → serve_all_on rows E (states E) qs st ≡ serve_all rows E qs st
  serve_all-on [] st = refl
  serve_all-on (q ∷ qs) st = ap (λ (z : Answer State). z then λ s. serve_all_on rows E (states E) qs s) (serve-on q st) ∙ go (serve rows E q st) (serve_all-on qs)
    where
      go :
          (z : Answer State) → ((s : State) → serve_all_on rows E (states E) qs s ≡ serve_all rows E qs s) →
          (z then λ s. serve_all_on rows E (states E) qs s) ≡ (z then λ s. serve_all rows E qs s)
      go (done s) ih = ih s
      go (refused k o) ih = refl

-- ── serving is asking and then adding ────────────────────────────────────────
module _ (rows : ℕ) (E : Forest) where
  -- SERVING ALL REQUESTS IS ASKING FOR ALL THEIR BLOCKS AND THEN MAKING THESE
  pub serve_all-asks : (qs : List Request) → Each NoResult qs → (st : State) → serve_all rows E qs st ≡ (ask_all rows E qs st.marks then λ a. done (adding E a st))
  serve_all-asks qs n st = sym (serve_all-on rows E qs st) ∙ all-asks rows E (states E) (states_lawful E) qs n st
