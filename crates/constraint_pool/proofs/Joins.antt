-- What joins an identity or a member, node by node. Over plain variables.
-- Assumes nothing.
use Prim.Native.Nat.{ℕ, ◌+◌, ◌-◌, ◌≤◌, ◌<◌}
use mathlib.Core.Path.{◌≡◌, sym, ◌∙◌, ap, subst}
use mathlib.Core.List.{List, [], ◌∷◌}
use native.Mathlib.Omega.{arith}
use Rattle.kinds.specs.KindBytes as kind
use Rattle.frames.specs.Order.{node_limit}
use Rattle.frames.specs.declared.node.Node.{Node}
use Rattle.pool.specs.Pool.{Pool, node}
use Rattle.pool.specs.Trees.{tree}
use Rattle.pool.specs.Shaped.{Shaped}
use Rattle.pool.specs.Tabled.{tabled}
use Rattle.pool.specs.Ranking.{Tabling}
use Rattle.constraint_meaning.specs.Numbers.{size}
use Rattle.constraint_pool.specs.Nodes.{leaf_node, pair_node, last, copied, scaled, identity_nodes, member_nodes}
use Rattle.constraint_pool.specs.Asked.{Appends, copied_at, CopyAsks, ScaleAsks, MemberAsks}
use Rattle.constraint_pool.specs.Copies.{copied-length, appends_next, pool-kept}

-- one node of which an equation is known
pub appends_is : {w l w' l' : List ℕ} {n r : ℕ} {x y : Node} → x ≡ y → Appends w l n (x ∷ []) w' l' r → Appends w l n (y ∷ []) w' l' r
appends_is {w} {l} {w'} {l'} {n} {r} e p = subst (λ z. Appends w l n (z ∷ []) w' l' r) e p

pub scaled-given :
    {w l w₁ l₁ w₂ l₂ : List ℕ} {at vc i j : ℕ} {x y : Node} {a b : ℕ} → a ≡ at → b ≡ at - 1 → x ≡ leaf_node kind.challenge vc → y ≡ pair_node kind.mul a b
    → Appends w l at (x ∷ []) w₁ l₁ i → Appends w₁ l₁ i (y ∷ []) w₂ l₂ j → Appends w l at (scaled vc at) w₂ l₂ j
scaled-given {at = at} {b = b} d e f g p q = appends_next (appends_is f p) (appends_is (g ∙ ap (λ z. pair_node kind.mul z b) d ∙ ap (pair_node kind.mul at) e) q)

module _ {w l w₁ l₁ w₂ l₂ w₃ l₃ : List ℕ} {at vc e i j k : ℕ} (p : Appends w l at (scaled vc at) w₁ l₁ i) where
  pub identity-given :
      {x y : Node} {a b : ℕ} → a ≡ i - 1 → b ≡ i → x ≡ leaf_node kind.exp e → y ≡ pair_node kind.add a b
      → Appends w₁ l₁ i (x ∷ []) w₂ l₂ j → Appends w₂ l₂ j (y ∷ []) w₃ l₃ k → Appends w l at (identity_nodes vc at e) w₃ l₃ k
  identity-given {x} {y} {a} {b} c d f g q r =
      let h : a ≡ at + 1 = omega (arith, p.next) in
      let o : b ≡ at + 2 = omega (arith, p.next) in
      appends_next p (appends_next (appends_is f q) (appends_is (g ∙ ap (λ z. pair_node kind.add z b) h ∙ ap (pair_node kind.add (at + 1)) o) r))

module _ {w l x : List ℕ} {n m at i : ℕ} (a : MemberAsks w l x n m at i) where
  abbrev P : Pool
  P = tabled (Tabling w l x n m)

  pub scale-asks : ScaleAsks at
  scale-asks = record { some = a.some; room = omega (arith, a.room) }

  module _ {w₁ l₁ : List ℕ} {vc j : ℕ} (p : Appends w l at (scaled vc at) w₁ l₁ j) where
    kept : tabled (Tabling w₁ l₁ x n m) ≡ P
    kept = pool-kept x n m p a.after

    pub own-number : (0 < j) × (j < 65536)
    own-number = (omega (arith, p.next), omega (arith, p.next, a.room))

    pub copy-asks : CopyAsks w₁ l₁ x n m j i
    copy-asks =
        record {
          shaped = subst Shaped (sym kept) a.shaped;
          there = a.there;
          after = omega (arith, p.next, a.after);
          room = rw kept (omega (arith, p.next, a.room));
        }

    module _ {w₂ l₂ : List ℕ} {k : ℕ} (q : Appends w₁ l₁ j (copied_at (tabled (Tabling w₁ l₁ x n m)) j i) w₂ l₂ k) where
      body : Appends w₁ l₁ j (copied (node P) (at + 2) (tree P i)) w₂ l₂ k
      body =
          let f : copied_at (tabled (Tabling w₁ l₁ x n m)) j i ≡ copied (node P) (at + 2) (tree P i) =
          ap (λ z. copied_at z j i) kept ∙ ap (λ z. copied (node P) z (tree P i)) p.next in
          subst (λ ns. Appends w₁ l₁ j ns w₂ l₂ k) f q

      column : k ≡ at + 2 + size (tree P i)
      column = omega (arith, p.next, body.next, copied-length (node P) (at + 2) (tree P i))

      pub column-number : (0 < k) × (k < 65536)
      column-number = (omega (arith, column), omega (arith, column, a.room))

      pub column-room : k + 3 ≤ node_limit
      column-room = omega (arith, column, a.room)

      pub member-given :
          {w₃ l₃ w₄ l₄ w₅ l₅ : List ℕ} {cm y z u : ℕ} {f g h : Node} {b c d e : ℕ} → b ≡ j - 1 → c ≡ k - 1 → d ≡ k → e ≡ y
          → f ≡ leaf_node kind.cm cm → g ≡ pair_node kind.sub c d → h ≡ pair_node kind.add b e
          → Appends w₂ l₂ k (f ∷ []) w₃ l₃ y → Appends w₃ l₃ y (g ∷ []) w₄ l₄ z → Appends w₄ l₄ z (h ∷ []) w₅ l₅ u
          → Appends w l at (member_nodes (node P) vc at (tree P i) cm) w₅ l₅ u
      member-given {y = y} {b = b} {c = c} {d = d} {e = e} b₀ c₀ d₀ e₀ f₀ g₀ h₀ p₃ p₄ p₅ =
          let b₁ : b ≡ at + 1 = omega (arith, p.next) in
          let c₁ : c ≡ last (at + 2) (size (tree P i)) = omega (arith, column) in
          let d₁ : d ≡ at + 2 + size (tree P i) = omega (arith, column) in
          let e₁ : e ≡ at + 3 + size (tree P i) = omega (arith, column, p₃.next) in
          appends_next p
          (appends_next body
          (appends_next (appends_is f₀ p₃)
          (appends_next (appends_is (g₀ ∙ ap (λ v. pair_node kind.sub v d) c₁ ∙ ap (pair_node kind.sub (last (at + 2) (size (tree P i)))) d₁) p₄)
          (appends_is (h₀ ∙ ap (λ v. pair_node kind.add v e) b₁ ∙ ap (pair_node kind.add (at + 1)) e₁) p₅))))
