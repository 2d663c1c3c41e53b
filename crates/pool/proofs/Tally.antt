-- Counting uses up to two, one after another.
-- Assumes nothing.
use Prim.Native.Nat.{ℕ, zero, suc, ◌+◌, ◌<◌, ◌≤◌, min}
use mathlib.Core.Path.{◌≡◌, refl, sym, ◌∙◌, ap, subst}
use mathlib.Core.Bool.{Bool, true, false, cond}
use mathlib.Core.List.{List, [], ◌∷◌, ◌++◌, append_assoc, append-nil}
use native.Mathlib.Omega.{arith}
use lib.ListN.{get_or, set, length-set}
use lib.Seq.{get_or-set_same, get_or-set_other}
use lib.Dec.{eqb}
use native.Mathlib.Numerals.{add-one}
use borrow.Author.Tests.{eqb-true, eqb-false, eq-eqb, ne_eqb}
use Rattle.meaning.specs.Trees.{up_to}
use Rattle.frames.specs.Tables.{count_in}
use Rattle.pool.specs.Words.{c0_in, c1_in, c2_in, root_in}
use Rattle.pool.specs.Pool.{times}
use Rattle.pool.specs.Tabled.{children_in}
use Rattle.pool.specs.Shapes.{Tallies, child_uses_in, root_uses_in}

pub times-append : (k : ℕ) (xs ys : List ℕ) → times k (xs ++ ys) ≡ times k xs + times k ys
times-append k [] ys = omega arith
times-append k (x ∷ xs) ys = go (times-append k xs ys) (eqb k x)
  where
    go : times k (xs ++ ys) ≡ times k xs + times k ys → (b : Bool) → cond b (suc (times k (xs ++ ys))) (times k (xs ++ ys)) ≡ cond b (suc (times k xs)) (times k xs) + times k ys
    go ih true = omega arith
    go ih false = ih

one_more : (k : ℕ) (vs : List ℕ) → times k (vs ++ (k ∷ [])) ≡ times k vs + 1
one_more k vs = times-append k vs (k ∷ []) ∙ rw (eq-eqb k k refl)

none_more : (j k : ℕ) (vs : List ℕ) → (j ≡ k → ⊥) → times j (vs ++ (k ∷ [])) ≡ times j vs
none_more j k vs n = times-append j vs (k ∷ []) ∙ rw (ne_eqb j k n) (omega arith)

-- what is at j, by whether j is k
by_index : (j k : ℕ) {Q : Type 0} → (j ≡ k → Q) → ((j ≡ k → ⊥) → Q) → Q
by_index j k {Q} f g = go (eqb j k) refl
  where
    go : (b : Bool) → eqb j k ≡ b → Q
    go true q = f (eqb-true j k q)
    go false q = g (eqb-false j k q)

module _ (u : List ℕ) (k : ℕ) where
  pub tally-past : 4096 ≤ k → Tallies u u (k ∷ [])
  tally-past h vs t = record {
    size = t.size;
    counts = λ j l. t.counts j l ∙ ap (min 2) (sym (none_more j k vs (λ q. omega arith)));
  }

  pub tally-full : k < 4096 → 2 ≤ get_or u k 0 → Tallies u u (k ∷ [])
  tally-full h g vs t = record {
    size = t.size;
    counts = λ j l.
        by_index j k
        (λ q. let c = t.counts j l in let d : get_or u j 0 ≡ get_or u k 0 = ap (λ i. get_or u i 0) q in let e : times j (vs ++ (k ∷ [])) ≡ times j vs + 1 = rw q (one_more k vs) in omega arith)
        (λ n. t.counts j l ∙ ap (min 2) (sym (none_more j k vs n)));
  }

  pub tally-more : k < 4096 → get_or u k 0 < 2 → Tallies u (set u k (get_or u k 0 + 1)) (k ∷ [])
  tally-more h g vs t = record {
    size = simp length-set t.size;
    counts = λ j l.
        by_index j k
        (λ q.
        let c = t.counts j l in
        let d : get_or u j 0 ≡ get_or u k 0 = ap (λ i. get_or u i 0) q in
        let e : times j (vs ++ (k ∷ [])) ≡ times j vs + 1 = rw q (one_more k vs) in
        let s : get_or (set u k (get_or u k 0 + 1)) j 0 ≡ get_or u k 0 + 1 = rw q (get_or-set_same u k (get_or u k 0 + 1) 0 (omega (arith, t.size))) in
        omega arith)
        (λ n. get_or-set_other u k j (get_or u k 0 + 1) 0 n ∙ t.counts j l ∙ ap (min 2) (sym (none_more j k vs n)));
  }

pub tallies_none : (u : List ℕ) → Tallies u u []
tallies_none u vs t = rw (append-nil vs) t

pub tallies_both : {u u1 u2 : List ℕ} (xs ys : List ℕ) → Tallies u u1 xs → Tallies u1 u2 ys → Tallies u u2 (xs ++ ys)
tallies_both xs ys f g vs t = rw (← append_assoc vs xs ys) (g (vs ++ xs) (f vs t))

-- the children of a node by its child count
module _ (w : List ℕ) (i : ℕ) {n : ℕ} (q : n ≡ count_in w i) where
  pub no-child : n ≡ 0 → {u : List ℕ} → Tallies u u (children_in w i)
  no-child h {u} = rw (sym q ∙ h) (tallies_none u)

  up_to-none : (k : ℕ) → up_to {A = ℕ} k [] ≡ []
  up_to-none zero = refl
  up_to-none (suc k) = refl

  three : (a b c m : ℕ) → (m ≡ 0 → ⊥) → (m ≡ 1 → ⊥) → (m ≡ 2 → ⊥) → up_to m (a ∷ b ∷ c ∷ []) ≡ a ∷ b ∷ c ∷ []
  three a b c zero x y z = absurd (x refl)
  three a b c (suc zero) x y z = absurd (y refl)
  three a b c (suc (suc zero)) x y z = absurd (z refl)
  three a b c (suc (suc (suc m))) x y z = rw (up_to-none m)

  module _ {a : ℕ} (qa : a ≡ c0_in w i) {u u1 : List ℕ} (f : Tallies u u1 (a ∷ [])) where
    pub one-child : n ≡ 1 → Tallies u u1 (children_in w i)
    one-child h = rw (sym q ∙ h, ← qa) f

    module _ {b : ℕ} (qb : b ≡ c1_in w i) {u2 : List ℕ} (g : Tallies u1 u2 (b ∷ [])) where
      pub two-children : n ≡ 2 → Tallies u u2 (children_in w i)
      two-children h = rw (sym q ∙ h, ← qa, ← qb) (tallies_both (a ∷ []) (b ∷ []) f g)

      pub three-children : (n ≡ 0 → ⊥) → (n ≡ 1 → ⊥) → (n ≡ 2 → ⊥) → {c : ℕ} → c ≡ c2_in w i → {u3 : List ℕ} → Tallies u2 u3 (c ∷ []) → Tallies u u3 (children_in w i)
      three-children x y z {c} qc k =
          rw (← q, ← qa, ← qb, ← qc, three a b c n x y z) (tallies_both (a ∷ []) (b ∷ c ∷ []) f (tallies_both (b ∷ []) (c ∷ []) g k))

-- loops
pub nodes-none : (w u : List ℕ) → Tallies u u (child_uses_in w 0)
unfolding child_uses_in
nodes-none w u = tallies_none u

pub nodes-more : (w : List ℕ) (i : ℕ) {u u1 u2 : List ℕ} → Tallies u u1 (child_uses_in w i) → Tallies u1 u2 (children_in w i) → Tallies u u2 (child_uses_in w (i + 1))
nodes-more w i f g = rw (add-one i) (unfold child_uses_in in tallies_both (child_uses_in w i) (children_in w i) f g)

pub roots-none : (x u : List ℕ) → Tallies u u (root_uses_in x 0)
unfolding root_uses_in
roots-none x u = tallies_none u

pub roots-more : (x : List ℕ) (e : ℕ) {u u1 u2 : List ℕ} → Tallies u u1 (root_uses_in x e) → {r : ℕ} → r ≡ root_in x e → Tallies u1 u2 (r ∷ []) → Tallies u u2 (root_uses_in x (e + 1))
roots-more x e f {r} q g = rw (add-one e) (unfold root_uses_in in rw (← q) (tallies_both (root_uses_in x e) (r ∷ []) f g))

-- at the end of a loop
pub all-tallied : (f : ℕ → List ℕ) {i n : ℕ} → i ≤ n → n ≤ i → {u u1 : List ℕ} → Tallies u u1 (f i) → Tallies u u1 (f n)
all-tallied f {i} {n} a b {u} {u1} h = subst (λ k. Tallies u u1 (f k)) (let e : i ≡ n = omega arith in e) h
