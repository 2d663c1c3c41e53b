-- Laws of tests, of answers, of options and of members of lists, used all over.
-- Assumes nothing.
use Rattle.std.specs.Prelude.{ℕ, zero, suc, ◌<◌, ◌≤◌, ◌≡◌, refl, Bool, true, false, ◌&&◌, ◌||◌, List, [], ◌∷◌, ◌++◌, length, T, eqb}
use Rattle.std.proofs.Common.{sym, ◌∙◌, subst, inl, inr, arith, eq-eqb}
use Rattle.std.proofs.Math.Option.{Option, none, some, none-ne-some}
use Rattle.meaning.specs.Refusals.{Refusal, number, Answer, done, refused, ◌then◌}
use Rattle.meaning.specs.Trees.{nth, Each, Member}
use Rattle.meaning.specs.Values.{bind}

pub true-false : {b : Bool} → b ≡ true → b ≡ false → ⊥
true-false h k = subst T (sym h ∙ k) tt

pub not-true : (b : Bool) → (b ≡ true → ⊥) → b ≡ false
not-true true h = absurd (h refl)
not-true false h = refl

pub eqb_same : (k : ℕ) → eqb k k ≡ true
eqb_same k = eq-eqb k k refl

pub and_left : (a b : Bool) → (a && b) ≡ true → a ≡ true
and_left true b h = refl
and_left false b h = h

pub and_right : (a b : Bool) → (a && b) ≡ true → b ≡ true
and_right true b h = h
and_right false b h = absurd (true-false h refl)

pub or_right : (a b : Bool) → b ≡ true → (a || b) ≡ true
or_right true b h = refl
or_right false b h = h

-- inversion: what was done before the end was done
pub then-done : {A B : Type 0} (x : Answer A) (f : A → Answer B) {b : B} → (x then f) ≡ done b → (a : A) × (x ≡ done a) × (f a ≡ done b)
then-done (done a) f h = (a, refl, h)
then-done (refused r n) f {b} h = absurd (let z : ◌≡◌ {A = ℕ} 0 1 = cc in omega arith)

pub done-same : {A : Type 0} (a b : A) → ◌≡◌ {A = Answer A} (done a) (done b) → a ≡ b
done-same a b h = cc

pub done-not-refused : {A : Type 0} {a : A} {r : Refusal} {n : Option ℕ} → ◌≡◌ {A = Answer A} (done a) (refused r n) → ⊥
done-not-refused h = let z : ◌≡◌ {A = ℕ} 0 1 = cc in omega arith

-- no refusal's number is that of an answer that is done
pub number-not-zero : (r : Refusal) → number r ≡ 0 → ⊥
number-not-zero Refusal.malformed h = omega arith
number-not-zero Refusal.child_count h = omega arith
number-not-zero Refusal.not_there h = omega arith
number-not-zero Refusal.cycle h = omega arith
number-not-zero Refusal.double_prime h = omega arith
number-not-zero Refusal.search_kind h = omega arith
number-not-zero Refusal.no_primed_mark h = omega arith
number-not-zero Refusal.no_block h = omega arith
number-not-zero Refusal.full h = omega arith
number-not-zero Refusal.no_rule h = omega arith
number-not-zero Refusal.counts h = omega arith
number-not-zero Refusal.no_dimension h = omega arith
number-not-zero Refusal.no_set h = omega arith
number-not-zero Refusal.no_quotient h = omega arith
number-not-zero Refusal.visits h = omega arith
number-not-zero Refusal.bits h = omega arith
number-not-zero Refusal.no_identity h = omega arith

pub bind-some : {A B : Type 0} (o : Option A) (f : A → Option B) {b : B} → bind o f ≡ some b → (a : A) × (o ≡ some a) × (f a ≡ some b)
bind-some none f {b} h = absurd (none-ne-some b h)
bind-some (some a) f h = (a, refl, h)

-- what holds of each member
module _ {A : Type 0} (P : A → Type 0) where
  pub each_left : (xs ys : List A) → Each P (xs ++ ys) → Each P xs
  each_left [] ys h = tt
  each_left (x ∷ xs) ys h = (h.0, each_left xs ys h.1)

  pub each_right : (xs ys : List A) → Each P (xs ++ ys) → Each P ys
  each_right [] ys h = h
  each_right (x ∷ xs) ys h = each_right xs ys h.1

  pub each-join : (xs ys : List A) → Each P xs → Each P ys → Each P (xs ++ ys)
  each-join [] ys h k = k
  each-join (x ∷ xs) ys h k = (h.0, each-join xs ys h.1 k)

pub each_map : {A : Type 0} (P Q : A → Type 0) → ((a : A) → P a → Q a) → (xs : List A) → Each P xs → Each Q xs
each_map P Q f [] h = tt
each_map P Q f (x ∷ xs) h = (f x h.0, each_map P Q f xs h.1)

pub each_both : {A : Type 0} (P Q R : A → Type 0) → ((a : A) → P a → Q a → R a) → (xs : List A) → Each P xs → Each Q xs → Each R xs
each_both P Q R f [] h k = tt
each_both P Q R f (x ∷ xs) h k = (f x h.0 k.0, each_both P Q R f xs h.1 k.1)

pub each_member : {A : Type 0} (P : A → Type 0) (xs : List A) → Each P xs → (a : A) → Member a xs → P a
each_member P [] h a k = absurd k
each_member P (x ∷ xs) h a (inl q) = subst P q h.0
each_member P (x ∷ xs) h a (inr k) = each_member P xs h.1 a k

-- the member at a number
pub nth-below : {A : Type 0} (l : List A) (n : ℕ) {a : A} → nth l n ≡ some a → n < length l
nth-below [] n {a} h = absurd (none-ne-some a h)
nth-below (x ∷ l) zero h = omega arith
nth-below (x ∷ l) (suc n) h = let k = nth-below l n h in omega arith

pub nth_past : {A : Type 0} (l : List A) (n : ℕ) → nth l n ≡ none → length l ≤ n
nth_past [] n h = omega arith
nth_past (x ∷ l) zero h = absurd (none-ne-some x (sym h))
nth_past (x ∷ l) (suc n) h = let k = nth_past l n h in omega arith
