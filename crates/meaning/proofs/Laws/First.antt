-- A list of requests is answered what its first refused request is.
-- Assumes nothing.
use Rattle.std.specs.Prelude.{ℕ, ◌≡◌, refl, List, [], ◌∷◌, ◌++◌, ◌↔◌}
use Rattle.std.proofs.Common.{sym, ◌∙◌, ap}
use Rattle.meaning.specs.Refusals.{Answer, done, refused, answer_no, ◌then◌}
use Rattle.meaning.specs.Trees.{Forest}
use Rattle.meaning.specs.Generation.{State, Request, serve, serve_all}
use Rattle.meaning.specs.Conditions.{Stepped, FirstRefused}
use Rattle.meaning.proofs.Laws.Standing.{serve-stepped, serve_all-stepped}

refusal-stays : {A B : Type 0} (x : Answer A) (f : A → Answer B) → (answer_no x ≡ 0 → ⊥) → answer_no (x then f) ≡ answer_no x
refusal-stays (done a) f h = absurd (h refl)
refusal-stays (refused r n) f h = refl

module _ (rows : ℕ) (E : Forest) where
  pub serve-append : (xs ys : List Request) (st : State) → serve_all rows E (xs ++ ys) st ≡ (serve_all rows E xs st then λ s. serve_all rows E ys s)
  serve-append [] ys st = refl
  serve-append (x ∷ xs) ys st = go (serve rows E x st) (serve-append xs ys)
    where
      go :
          (a : Answer State) → ((s : State) → serve_all rows E (xs ++ ys) s ≡ (serve_all rows E xs s then λ t. serve_all rows E ys t)) →
          (a then λ s. serve_all rows E (xs ++ ys) s) ≡ ((a then λ s. serve_all rows E xs s) then λ t. serve_all rows E ys t)
      go (done s) ih = ih s
      go (refused r n) ih = refl

  -- number k, which is a refusal's, and the condition under which one request gets it
  module _
      (k : ℕ) (refusal : k ≡ 0 → ⊥) (condition : Request → State → Type 0)
      (one : (q : Request) (st : State) → Stepped st → (answer_no (serve rows E q st) ≡ k) ↔ condition q st)
    where
      to : (qs : List Request) (st : State) → Stepped st → answer_no (serve_all rows E qs st) ≡ k → FirstRefused rows E condition qs st
      to [] st s h = absurd (refusal (sym h))
      to (q ∷ qs) st s h = go (serve rows E q st) refl (λ t p. to qs t (serve-stepped rows E q st t s p)) h
        where
          go :
              (a : Answer State) → serve rows E q st ≡ a →
              ((t : State) → serve rows E q st ≡ done t → answer_no (serve_all rows E qs t) ≡ k → FirstRefused rows E condition qs t) →
              answer_no (a then λ t. serve_all rows E qs t) ≡ k → FirstRefused rows E condition (q ∷ qs) st
          go (done t) p ih h =
              let f = ih t p h in
              record {
                before = q ∷ f.before;
                request = f.request;
                after = f.after;
                splits = ap (λ l. q ∷ l) f.splits;
                state = f.state;
                served = rw p f.served;
                meets = f.meets;
              }
          go (refused r n) p ih h = record {
            before = [];
            request = q;
            after = qs;
            splits = refl;
            state = st;
            served = refl;
            meets = (one q st s).0 (ap answer_no p ∙ h);
          }

      back : (qs : List Request) (st : State) → Stepped st → FirstRefused rows E condition qs st → answer_no (serve_all rows E qs st) ≡ k
      back qs st s f =
          let n : answer_no (serve rows E f.request f.state) ≡ k = (one f.request f.state (serve_all-stepped rows E f.before st f.state s f.served)).1 f.meets in
          let stays = refusal-stays (serve rows E f.request f.state) (λ t. serve_all rows E f.after t) (λ z. refusal (sym n ∙ z)) in
          rw (f.splits, serve-append f.before (f.request ∷ f.after) st, f.served) (stays ∙ n)

      pub first : (qs : List Request) (st : State) → Stepped st → (answer_no (serve_all rows E qs st) ≡ k) ↔ FirstRefused rows E condition qs st
      first qs st s = (to qs st s, back qs st s)

  -- what holds of every answer to one request, and of those that are done, holds of every answer to a list
  pub every-answer :
      (P : Answer State → Type 0) → ((st : State) → P (done st)) → ((q : Request) (st : State) → Stepped st → P (serve rows E q st)) →
      (qs : List Request) (st : State) → Stepped st → P (serve_all rows E qs st)
  every-answer P D one [] st s = D st
  every-answer P D one (q ∷ qs) st s = go (serve rows E q st) refl (one q st s) (λ t p. every-answer P D one qs t (serve-stepped rows E q st t s p))
    where
      go :
          (a : Answer State) → serve rows E q st ≡ a → P a → ((t : State) → serve rows E q st ≡ done t → P (serve_all rows E qs t)) →
          P (a then λ t. serve_all rows E qs t)
      go (done t) p h ih = ih t p
      go (refused r n) p h ih = h
