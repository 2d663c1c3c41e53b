-- In an acyclic forest as many levels as there are expressions are enough: a request for an expression that is there is refused only for a double prime.
-- Assumes nothing.
use Rattle.std.specs.Prelude.{ℕ, zero, suc, ◌+◌, ◌<◌, ◌≡◌, refl, Bool, true, false, cond, List, [], ◌∷◌, ◌⊎◌, length}
use Rattle.std.proofs.Math.Option.{Option, some}
use Rattle.std.proofs.Common.{inl, inr, ⊎_elim, arith}
use Rattle.meaning.specs.Refusals.{Refusal, Answer, done, refused, ◌then◌}
use Rattle.meaning.specs.Trees.{Leaf, Expression, Forest, Falls, Acyclic, nth, Placed, ◌at◌, leaves, Each}
use Rattle.meaning.specs.Order.{Marks, Asked, nothing, asked, in_rows, primed, own, ask_leaf, ask_leaves, fresh, ask_below, ask}

-- inversion: a refusal is the first part's, or that of what follows
pub then-refused :
    {A B : Type 0} (x : Answer A) (f : A → Answer B) {r : Refusal} {n : Option ℕ} → (x then f) ≡ refused r n →
    (x ≡ refused r n) ⊎ ((a : A) × (x ≡ done a) × (f a ≡ refused r n))
then-refused (done a) f h = inr (a, refl, h)
then-refused (refused r n) f {r = r'} {n = n'} h =
    let e : r ≡ r' = cc in
    let k : n ≡ n' = cc in
    inl (cc)

-- the one refusal that is left
abbrev pub OnlyDouble : {A : Type 0} → Answer A → Type 0
OnlyDouble x = (r : Refusal) (n : Option ℕ) → x ≡ refused r n → r ≡ Refusal.double_prime

done-double : {A : Type 0} (a : A) → OnlyDouble (done a)
done-double a r n h = absurd (let z : ◌≡◌ {A = ℕ} 0 1 = cc in omega arith)

then-double : {A B : Type 0} (x : Answer A) (f : A → Answer B) → OnlyDouble x → ((a : A) → x ≡ done a → OnlyDouble (f a)) → OnlyDouble (x then f)
then-double x f h k r n q = ⊎_elim (λ e. h r n e) (λ e. k e.0 e.1 r n e.2) (then-refused x f q)

module _ (rows : ℕ) where
  primed-double : (l : Leaf) (n r : ℕ) → OnlyDouble (primed rows l n r)
  primed-double l n r = go (in_rows rows l r)
    where
      go : (b : Bool) → OnlyDouble {A = Unit {0}} (cond b (done tt) (refused Refusal.double_prime (some n)))
      go true = done-double tt
      go false = λ q m h. cc

  own-double : (ls : List Placed) (r : ℕ) → OnlyDouble (own rows ls r)
  own-double [] r = done-double tt
  own-double ((l at n) ∷ ls) r = then-double (primed rows l n r) (λ _. own rows ls r) (primed-double l n r) (λ a e. own-double ls r)

  module _ (E : Forest) (acyclic : Acyclic E) where
    abbrev Asks : Type 0
    Asks = ℕ → ℕ → Marks → Answer Asked

    -- it refuses only a double prime, for each expression of a rank below m
    abbrev Reaches : Asks → ℕ → Type 0
    Reaches f m = (e r : ℕ) (x : Expression) → nth E e ≡ some x → acyclic.rank e < m → (s : Marks) → OnlyDouble (f e r s)

    leaf-double :
        (f : Asks) (m : ℕ) → Reaches f m → (l : Leaf) (n r : ℕ) → Falls E acyclic.rank m (l at n) → (s : Marks) → OnlyDouble (ask_leaf rows f l n r s)
    leaf-double f m R (Leaf.cell k i a) n r h s = done-double (nothing s)
    leaf-double f m R (Leaf.exp i a) n r h s =
        then-double (primed rows (Leaf.exp i a) n r) (λ _. f i (r + a) s) (primed-double (Leaf.exp i a) n r)
        (λ u e. R i (r + a) h.1.0 h.1.1 h.0 s)
    leaf-double f m R (Leaf.number l) n r h s = done-double (nothing s)
    leaf-double f m R (Leaf.flat k i) n r h s = done-double (nothing s)
    leaf-double f m R (Leaf.x k) n r h s = done-double (nothing s)

    leaves-double :
        (f : Asks) (m : ℕ) → Reaches f m → (ls : List Placed) (r : ℕ) → Each (Falls E acyclic.rank m) ls → (s : Marks) →
        OnlyDouble (ask_leaves rows f ls r s)
    leaves-double f m R [] r h s = done-double (nothing s)
    leaves-double f m R ((l at n) ∷ ls) r h s =
        then-double (ask_leaf rows f l n r s) _ (leaf-double f m R l n r h.0 s)
        (λ a e. then-double (ask_leaves rows f ls r a.marks) _ (leaves-double f m R ls r h.1 a.marks) (λ b q. done-double _))

    fresh-double :
        (f : Asks) (fused : Bool) (e r : ℕ) (x : Expression) → nth E e ≡ some x → Reaches f (acyclic.rank e) → (s : Marks) →
        OnlyDouble (fresh rows E f fused e r s)
    fresh-double f fused e r x q R s =
        rw q
        (then-double (ask_leaves rows f (leaves x.tree) r s) _ (leaves-double f (acyclic.rank e) R (leaves x.tree) r (acyclic.falls e x q) s)
        (λ a k. then-double (own rows (leaves (asked fused x.tree)) r) _ (own-double (leaves (asked fused x.tree)) r) (λ u w. done-double _)))

    below-double : (k : ℕ) (fused : Bool) → Reaches (ask_below rows E k fused) k
    below-double zero fused e r x q h s = absurd (omega arith)
    below-double (suc k) fused e r x q h s =
        go
        (fresh-double (ask_below rows E k false) fused e r x q
        (λ i r' y q' l s'. below-double k false i r' y q' (omega arith) s') s)
        (s e r)
      where
        go :
            OnlyDouble (fresh rows E (ask_below rows E k false) fused e r s) → (b : Bool) →
            OnlyDouble (cond b (done (nothing s)) (fresh rows E (ask_below rows E k false) fused e r s))
        go ih true = done-double (nothing s)
        go ih false = ih

    -- THE LEVELS SUFFICE
    pub asks-refuse_5 : (fused : Bool) (e r : ℕ) (x : Expression) → nth E e ≡ some x → (s : Marks) → OnlyDouble (ask rows E fused e r s)
    asks-refuse_5 fused e r x q s = below-double (length E) fused e r x q (acyclic.below e x q) s
