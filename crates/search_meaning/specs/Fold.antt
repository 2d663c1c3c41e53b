-- THE FOLD WITHOUT ITS TREE: two visits for each identity but the first, then the identities in order. So a loop reads what the folded tree says, and the number
-- of "vc" does not count.
-- Assumes nothing.
use Rattle.std.specs.Prelude.{ℕ, zero, suc, max, ◌≡◌, refl, Bool, true, false, cond, List, [], ◌∷◌, length}
use Rattle.std.proofs.Common.{sym, ◌∙◌, ap, arith}
use Rattle.std.proofs.Math.Option.{Option, none, some}
use Rattle.meaning.specs.Refusals.{Refusal}
use Rattle.meaning.specs.Trees.{Expr}
use Rattle.search_meaning.specs.Search.{Tally, Out, done, refused, Search, next, counted, Found, found, set_of, both, room, visit, rule, reference, identity_leaf, folded, fold_more}

pub next-next : {A B C : Type 0} (o : Out A) (f : A → Search B) (g : B → Search C) → next (next o f) g ≡ next o (λ a k. next (f a k) g)
next-next (done a k) f g = refl
next-next (refused r v) f g = refl

pub next-same : {A B : Type 0} (o : Out A) (f g : A → Search B) → ((a : A) (k : Tally) → f a k ≡ g a k) → next o f ≡ next o g
next-same (done a k) f g h = h a k
next-same (refused r v) f g h = refl

module _ (limit : Option ℕ) where
  -- one visit that does nothing by itself
  abbrev pub tick : Search Found → Search Found
  tick f k = cond (room limit k.visits) (f (counted k)) (refused Refusal.visits k.visits)

  tick-next : (f : Search Found) (g : Found → Search Found) (k : Tally) → next (tick f k) g ≡ tick (λ k. next (f k) g) k
  tick-next f g k = go (room limit k.visits)
    where
      go : (b : Bool) → next (cond b (f (counted k)) (refused Refusal.visits k.visits)) g ≡ cond b (next (f (counted k)) g) (refused Refusal.visits k.visits)
      go true = refl
      go false = refl

  tick-same : (f g : Search Found) → ((k : Tally) → f k ≡ g k) → (k : Tally) → tick f k ≡ tick g k
  tick-same f g h k = ap (λ o. cond (room limit k.visits) o (refused Refusal.visits k.visits)) (h (counted k))

  -- two visits n times: those of the fold's add and mul
  abbrev pub ticks : ℕ → Search Found → Search Found
  ticks zero f k = f k
  ticks (suc n) f k = tick (tick (ticks n f)) k

  ticks-same : (n : ℕ) (f g : Search Found) → ((k : Tally) → f k ≡ g k) → (k : Tally) → ticks n f k ≡ ticks n g k
  ticks-same zero f g h k = h k
  ticks-same (suc n) f g h k = tick-same (tick (ticks n f)) (tick (ticks n g)) (tick-same (ticks n f) (ticks n g) (ticks-same n f g h)) k

  ticks-last : (n : ℕ) (f : Search Found) (k : Tally) → ticks n (tick (tick f)) k ≡ tick (tick (ticks n f)) k
  ticks-last zero f k = refl
  ticks-last (suc n) f k = tick-same (tick (ticks n (tick (tick f)))) (tick (tick (tick (ticks n f)))) (tick-same (ticks n (tick (tick f))) (tick (tick (ticks n f))) (ticks-last n f)) k

  module _ (full_of : ℕ → Option ℕ) (B : ℕ → List ℕ → Search Found) (m : ℕ) where
    -- one identity more, after what was found so far
    abbrev pub identity : ℕ → Found → Search Found
    identity e x k = next (visit limit (reference limit full_of B e) (set_of x) m k) (λ y k. done (both max x y) k)

    abbrev pub identities : List ℕ → Found → Search Found
    identities [] x k = done x k
    identities (e ∷ es) x k = next (identity e x k) (identities es)

    next-done : (o : Out Found) → next o (identities []) ≡ o
    next-done (done a k) = refl
    next-done (refused r v) = refl

    fold-visits :
        (vc : ℕ) (es : List ℕ) (c : Expr) (s : List ℕ) (k : Tally) →
        visit limit (rule limit full_of B (fold_more vc c es)) (some s) m k ≡ ticks (length es) (λ k. next (visit limit (rule limit full_of B c) (some s) m k) (identities es)) k
    fold-visits vc [] c s k = sym (next-done (visit limit (rule limit full_of B c) (some s) m k))
    fold-visits vc (e ∷ es) c s k =
        fold-visits vc es (folded vc c (identity_leaf e)) s k
        ∙ ticks-same (length es) _ _ (λ k. step k) k
        ∙ ticks-last (length es) (λ k. next (U k) (identities (e ∷ es))) k
      where
        U : Search Found
        U k = visit limit (rule limit full_of B c) (some s) m k

        step : (k : Tally) → next (tick (λ k. next (tick U k) (identity e)) k) (identities es) ≡ tick (tick (λ k. next (U k) (identities (e ∷ es)))) k
        step k =
            tick-next (λ k. next (tick U k) (identity e)) (identities es) k
            ∙ tick-same (λ k. next (next (tick U k) (identity e)) (identities es)) (tick (λ k. next (U k) (identities (e ∷ es))))
            (λ k. ap (λ o. next o (identities es)) (tick-next U (identity e) k) ∙ tick-next (λ k. next (U k) (identity e)) (identities es) k
            ∙ tick-same (λ k. next (next (U k) (identity e)) (identities es)) (λ k. next (U k) (identities (e ∷ es))) (λ k. next-next (U k) (identity e) (identities es)) k) k

    -- THE FOLDED TREE, read from no members: first two visits for each identity but the first, then each identity in order
    pub fold_is :
        (vc e : ℕ) (es : List ℕ) (k : Tally) →
        visit limit (rule limit full_of B (fold_more vc (identity_leaf e) es)) (some []) m k ≡ ticks (length es) (identities (e ∷ es) (found [] 0)) k
    fold_is vc e es k = fold-visits vc es (identity_leaf e) [] k ∙ ticks-same (length es) _ _ (λ k. sym (first k)) k
      where
        alone : (y : Found) → both max (found [] 0) y ≡ y
        alone none = refl
        alone (some r) = let z : max 0 r.degree ≡ r.degree = omega arith in ap (found r.set) z

        first : (k : Tally) → identities (e ∷ es) (found [] 0) k ≡ next (visit limit (reference limit full_of B e) (some []) m k) (identities es)
        first k =
            next-next (visit limit (reference limit full_of B e) (some []) m k) (λ y k. done (both max (found [] 0) y) k) (identities es)
            ∙ next-same (visit limit (reference limit full_of B e) (some []) m k) (λ y k. identities es (both max (found [] 0) y) k) (identities es) (λ y k. ap (λ y. identities es y k) (alone y))
