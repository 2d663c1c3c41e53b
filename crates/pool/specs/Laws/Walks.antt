-- Laws of walks: ranks that fall leave no closed walk, and make the forest acyclic.
-- Assumes nothing.
use Rattle.std.specs.Prelude.{ℕ, zero, suc, ◌<◌, ◌≡◌, refl, Bool, true, false, cond, List, ◌⊎◌, length}
use Rattle.std.proofs.Common.{inl, inr, arith}
use Rattle.meaning.specs.Trees.{Placed, ◌at◌, leaves, Each}
use Rattle.pool.specs.Pool.{Pool, node, children}
use Rattle.pool.specs.Trees.{leaf_of, Class, leafy, class, tree}
use Rattle.pool.specs.Shaped.{Shaped}
use Rattle.pool.specs.Admission.{Walk, ClosedWalk, Ranked}
use Rattle.pool.specs.Laws.Members.{each_member, member-each}
use Rattle.pool.specs.Laws.Trees.{leaves-under, leaf-is}

module _ (p : Pool) (table : List ℕ) (rank : ℕ → ℕ) (ranked : Ranked p table rank) where
  walk-falls : {e t : ℕ} → Walk p table e t → rank t < rank e
  walk-falls (Walk.one d) = ranked.falls _ _ d
  walk-falls (Walk.more w d) = omega (arith, walk-falls w, ranked.falls _ _ d)

  pub no-closed-walk : ClosedWalk p table → ⊥
  no-closed-walk w = omega (arith, walk-falls w.1)

-- only an exp leaf is read as one
pub skip : {A : Type 0} (b : Bool) {x y z : A} → cond b x y ≡ z → (x ≡ z → ⊥) → y ≡ z
skip true h n = absurd (n h)
skip false h n = h

-- a leaf of a tree is the leaf of its node
abbrev pub OfNode : Pool → Placed → Type 0
OfNode p (l at n) = (n < length p.nodes) × (l ≡ leaf_of (node p n)) × (class (node p n).kind ≡ leafy)

class_dec : (c : Class) → (c ≡ leafy) ⊎ (c ≡ leafy → ⊥)
class_dec (Class.binary o) = inr (λ q. let z : ◌≡◌ {A = ℕ} 0 1 = cc in omega arith)
class_dec Class.fused = inr (λ q. let z : ◌≡◌ {A = ℕ} 0 1 = cc in omega arith)
class_dec (Class.constant o) = inr (λ q. let z : ◌≡◌ {A = ℕ} 0 1 = cc in omega arith)
class_dec Class.negation = inr (λ q. let z : ◌≡◌ {A = ℕ} 0 1 = cc in omega arith)
class_dec Class.leafy = inl refl

module _ (p : Pool) (shaped : Shaped p) where
  of-node-below : (k n : ℕ) → n < k → n < length p.nodes → Each (OfNode p) (leaves (tree p n))
  of-node-below zero n a h = absurd (omega arith)
  of-node-below (suc k) n a h = go (of-node-below k) (class_dec (class (node p n).kind))
    where
      go :
          ((m : ℕ) → m < k → m < length p.nodes → Each (OfNode p) (leaves (tree p m))) → (class (node p n).kind ≡ leafy) ⊎ (class (node p n).kind ≡ leafy → ⊥) →
          Each (OfNode p) (leaves (tree p n))
      go ih (inl q) = rw (leaf-is p shaped n h q) ((h, refl, q), tt)
      go ih (inr o) =
          (leaves-under p shaped (OfNode p) n h o).1
          (each_member (λ c. Each (OfNode p) (leaves (tree p c))) (children (node p n))
          (λ c m. let l : c < n = member-each (λ d. d < n) (children (node p n)) (shaped.earlier n h) c m in ih c (omega arith) (omega arith)))

  pub of_node : (n : ℕ) → n < length p.nodes → Each (OfNode p) (leaves (tree p n))
  of_node n h = of-node-below (suc n) n (omega arith) h
