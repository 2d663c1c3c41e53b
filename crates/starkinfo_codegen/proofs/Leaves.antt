-- The reference that the code makes of a leaf is the definition's.
-- Assumes nothing.
use Prim.Native.Nat.{ℕ, suc, ◌<◌, ◌≤◌}
use mathlib.Core.Path.{◌≡◌, refl}
use mathlib.Core.Bool.{Bool, true, false, cond}
use mathlib.Core.Logic.{◌⊎◌, inl, inr}
use native.Mathlib.Omega.{arith}
use lib.Dec.{eqb, ltb}
use borrow.Author.Tests.{eqb-true, eqb-false, ltb-true, ltb-false}
use Rattle.meaning.specs.Trees.{RowKind, FlatKind, XKind, Leaf}
use Rattle.meaning.specs.Emission.{leaf_ref}
use Rattle.kinds.specs.KindBytes as kind
use Rattle.kinds.specs.Range.{within}
use Rattle.frames.specs.declared.node.Node.{Node}
use Rattle.pool.specs.Trees.{leaf_of, literal_of}
use Rattle.starkinfo_codegen.specs.Encoding.{ref_of}
use Rattle.starkinfo_codegen.specs.Sources.{leaf_by}
use Rattle.starkinfo_codegen.proofs.Reading.{leaf-other}

choose : {A : Type 0} (P : A → Type 0) (b : Bool) (x y : A) → (b ≡ true → P x) → (b ≡ false → P y) → P (cond b x y)
choose P true x y f g = f refl
choose P false x y f g = g refl

module _ (x : Node) (n row : ℕ) where
  abbrev k : ℕ
  k = x.kind

  abbrev Is : Leaf → Type 0
  Is l = leaf_by x n row ≡ ref_of (leaf_ref n l row)

  -- where the kind is known, both sides compute
  known : (v : ℕ) (l : Leaf) → (k ≡ v → Is l) → eqb k v ≡ true → Is l
  known v l f e = f (eqb-true k v e)

  past : (v : ℕ) → v ≤ k → eqb k v ≡ false → suc v ≤ k
  past v h e = let n = eqb-false k v e in omega arith

  pub leaf-is : Is (leaf_of x)
  unfolding leaf_by within
  leaf-is =
      choose Is (eqb k kind.cm) _ _ (known kind.cm (Leaf.cell RowKind.cm x.id x.next) (λ e. rw e)) λ n0.
      choose Is (eqb k kind.const) _ _ (known kind.const (Leaf.cell RowKind.const x.id x.next) (λ e. rw e)) λ n1.
      choose Is (eqb k kind.exp) _ _ (known kind.exp (Leaf.exp x.id x.next) (λ e. rw e)) λ n2.
      choose Is (eqb k kind.q) _ _ (known kind.q (Leaf.cell RowKind.q x.id x.next) (λ e. rw e)) λ n3.
      choose Is (eqb k kind.number) _ _ (known kind.number (Leaf.number (literal_of x)) (λ e. rw e)) λ n4.
      choose Is (eqb k kind.public) _ _ (known kind.public (Leaf.flat FlatKind.public x.id) (λ e. rw e)) λ n5.
      choose Is (eqb k kind.challenge) _ _ (known kind.challenge (Leaf.flat FlatKind.challenge x.id) (λ e. rw e)) λ n6.
      choose Is (eqb k kind.eval) _ _ (known kind.eval (Leaf.flat FlatKind.eval x.id) (λ e. rw e)) λ n7.
      choose Is (eqb k kind.x_div_x_sub_xi) _ _ (known kind.x_div_x_sub_xi (Leaf.x XKind.x_div_x_sub_xi) (λ e. rw e)) λ n8.
      choose Is (eqb k kind.x_div_x_sub_w_xi) _ _ (known kind.x_div_x_sub_w_xi (Leaf.x XKind.x_div_x_sub_w_xi) (λ e. rw e)) λ n9.
      leaf-other x n row k refl (eqb-false k kind.number n4)
      (outside n0 n1 n2 n3 n4 n5 n6 n7 n8 n9)
    where
      outside :
          eqb k 16 ≡ false → eqb k 17 ≡ false → eqb k 18 ≡ false → eqb k 19 ≡ false → eqb k 20 ≡ false → eqb k 21 ≡ false → eqb k 22 ≡ false → eqb k 23 ≡ false →
          eqb k 24 ≡ false → eqb k 25 ≡ false → (k < kind.cm) ⊎ (kind.x_div_x_sub_w_xi < k)
      outside n0 n1 n2 n3 n4 n5 n6 n7 n8 n9 = go (ltb k kind.cm) refl
        where
          go : (b : Bool) → ltb k kind.cm ≡ b → (k < kind.cm) ⊎ (kind.x_div_x_sub_w_xi < k)
          go true h = inl (ltb-true k kind.cm h)
          go false h =
              inr (past 25 (past 24 (past 23 (past 22 (past 21 (past 20 (past 19 (past 18 (past 17 (past 16 (ltb-false k kind.cm h) n0) n1) n2) n3) n4) n5) n6) n7) n8) n9)
