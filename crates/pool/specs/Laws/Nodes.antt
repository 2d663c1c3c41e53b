-- The pool that stands in tables: its roots and where leaves lead are there; a node, and its children by its child count.
-- Assumes nothing.
use Rattle.std.specs.Prelude.{ℕ, zero, suc, ◌<◌, ◌≤◌, ◌≡◌, refl, List, [], ◌∷◌, ◌⊎◌, length}
use Rattle.std.proofs.Common.{sym, ◌∙◌, ap, subst, inl, inr, ⊎_elim, arith}
use Rattle.meaning.specs.Trees.{Member}
use Rattle.frames.specs.declared.node.Node.{Node}
use Rattle.frames.specs.Tables.{count_in, node_in}
use Rattle.pool.specs.Words.{c0_in, c1_in, c2_in, root_in}
use Rattle.pool.specs.Pool.{Pool, node, root_of, children}
use Rattle.pool.specs.Shaped.{Shaped}
use Rattle.pool.specs.Tabled.{Tables, tabled}
use Rattle.pool.specs.Laws.Members.{member-each}
use Rattle.pool.specs.Laws.Tabled.{node-count, expression-count, node_at, root-at}
use Rattle.pool.specs.Laws.Leads.{LeadsTo, all_there, children-one, children-two, children-three, counts_up_to-three}

module _ (t : Tables) (shaped : Shaped (tabled t)) where
  abbrev p : Pool
  p = tabled t

  pub source : {e : ℕ} → e < t.expression_count → e < length p.expressions
  source {e} l = subst (λ k. e < k) (sym (expression-count t)) l

  pub root-inside : {e : ℕ} → e < t.expression_count → root_of p e < length p.nodes
  root-inside {e} l = shaped.rooted e (source l)

  pub root-there : {e : ℕ} → e < t.expression_count → {r : ℕ} → r ≡ root_in t.expressions e → r < t.node_count
  root-there {e} l q = rw (q, ← root-at t e l) (subst (λ k. root_of p e < k) (node-count t) (root-inside l))

  -- the leaves of a tree lead to expressions that are there
  pub leads-there :
      (table : List ℕ) → ((u : ℕ) → Member u table → u < t.expression_count) → (n : ℕ) → n < length p.nodes → LeadsTo p table shaped (λ v. v < t.expression_count) n
  leads-there table tabulated n h =
      subst (λ k. LeadsTo p table shaped (λ v. v < k) n) (expression-count t) (all_there p table shaped (λ v m. source (tabulated v m)) n h)

  module _ {i : ℕ} (there : i < t.node_count) where
    abbrev x : Node
    x = node p i

    pub inside : i < length p.nodes
    inside = subst (λ n. i < n) (sym (node-count t)) there

    pub is : x ≡ node_in t.nodes t.literals i
    is = node_at t i there

    pub child-earlier : (j : ℕ) → Member j (children x) → j < i
    child-earlier j m = member-each (λ d. d < i) (children x) (shaped.earlier i inside) j m

    module _ {c : ℕ} (ce : c ≡ count_in t.nodes i) where
      pub count-is : x.count ≡ c
      count-is = ap (λ y. y.count) is ∙ sym ce

      pub one-child : c ≡ 1 → children x ≡ c0_in t.nodes i ∷ []
      one-child h = children-one x (count-is ∙ h) ∙ ap (λ (y : Node). y.c0 ∷ []) is

      pub two-children : c ≡ 2 → children x ≡ c0_in t.nodes i ∷ c1_in t.nodes i ∷ []
      two-children h = children-two x (count-is ∙ h) ∙ ap (λ (y : Node). y.c0 ∷ y.c1 ∷ []) is

      pub three-children : c ≡ 3 → children x ≡ c0_in t.nodes i ∷ c1_in t.nodes i ∷ c2_in t.nodes i ∷ []
      three-children h = children-three x (count-is ∙ h) ∙ ap (λ (y : Node). y.c0 ∷ y.c1 ∷ y.c2 ∷ []) is

      at-most-three : c ≤ 3
      at-most-three = subst (λ n. n ≤ 3) (sym (shaped.counts i inside) ∙ count-is) (counts_up_to-three x.kind)

      module _ (some : c ≡ 0 → ⊥) where
        -- one of three counts
        abbrev Count : Type 0
        Count = (c ≡ 1) ⊎ ((c ≡ 2) ⊎ (c ≡ 3))

        which : Count
        which = go c refl
          where
            go : (n : ℕ) → c ≡ n → Count
            go zero q = absurd (some q)
            go (suc zero) q = inl q
            go (suc (suc zero)) q = inr (inl q)
            go (suc (suc (suc zero))) q = inr (inr q)
            go (suc (suc (suc (suc n)))) q = absurd (omega (arith, at-most-three, q))

        pub third-count : (c ≡ 1 → ⊥) → (c ≡ 2 → ⊥) → c ≡ 3
        third-count n m = ⊎_elim (λ h. absurd (n h)) (λ w. ⊎_elim (λ h. absurd (m h)) (λ h. h) w) which

        pub first-child : {j : ℕ} → j ≡ c0_in t.nodes i → Member j (children x)
        first-child q = ⊎_elim (λ h. rw (one-child h) (inl (sym q))) (λ w. ⊎_elim (λ h. rw (two-children h) (inl (sym q))) (λ h. rw (three-children h) (inl (sym q))) w) which

        pub second-child : (c ≡ 1 → ⊥) → {j : ℕ} → j ≡ c1_in t.nodes i → Member j (children x)
        second-child n q = ⊎_elim (λ h. absurd (n h)) (λ w. ⊎_elim (λ h. rw (two-children h) (inr (inl (sym q)))) (λ h. rw (three-children h) (inr (inl (sym q)))) w) which

        pub third-child : (c ≡ 1 → ⊥) → (c ≡ 2 → ⊥) → {j : ℕ} → j ≡ c2_in t.nodes i → Member j (children x)
        third-child n m q = rw (three-children (third-count n m)) (inr (inr (inl (sym q))))
