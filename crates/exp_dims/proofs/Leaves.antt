-- The dimension of a leaf that leads nowhere, by its kind.
-- Assumes nothing.
use Prim.Native.Nat.{ℕ, zero, suc, ◌<◌, ◌≤◌}
use mathlib.Core.Path.{◌≡◌, refl, sym, ◌∙◌, ap}
use mathlib.Core.Bool.{Bool, true, false, cond}
use mathlib.Core.Option.{Option, none, some, none-ne-some}
use mathlib.Core.List.{List, [], ◌∷◌}
use native.Mathlib.Omega.{arith}
use native.Mathlib.Nat.{not-suc-le-zero, le_of_suc-le-suc}
use lib.ListN.{length, get_or}
use lib.Dec.{eqb}
use borrow.Author.Tests.{ne_eqb, eqb-true, eqb-false}
use Rattle.meaning.specs.Trees.{RowKind, FlatKind, XKind, Leaf, nth}
use Rattle.frames.specs.declared.node.Node.{Node}
use Rattle.kinds.specs.KindBytes as kind
use Rattle.kinds.specs.Range.{within, within_in, within-below, within-above, within-true}
use Rattle.pool.specs.Trees.{leaf_of, literal_of}
use Rattle.pool.specs.Cycles.{lead_by}
use Rattle.exp_dims.specs.Dimension.{through, leaf_dim}
use Rattle.frames.specs.Tables.{kind_in, id_in}
use Rattle.exp_dims.specs.Known.{leaf_dim_by, leaf_dim_in}

-- nothing stands past the end
pub get_d_past : (l : List ℕ) (i d : ℕ) → length l ≤ i → get_or l i d ≡ d
get_d_past [] i d h = refl
get_d_past (a ∷ l) zero d h = absurd (not-suc-le-zero h)
get_d_past (a ∷ l) (suc i) d h = get_d_past l i d (le_of_suc-le-suc h)

-- ---- the arms of a match on the kind

module _ (dims : List ℕ) (k i : ℕ) where
  by-cm : k ≡ kind.cm → leaf_dim_by dims k i ≡ get_or dims i 0
  by-cm h = rw h

  by-q : k ≡ kind.q → leaf_dim_by dims k i ≡ 0
  by-q h = rw h

  by-extension : kind.challenge ≤ k → k ≤ kind.x_div_x_sub_w_xi → leaf_dim_by dims k i ≡ 3
  by-extension g h = rw (ne_eqb k kind.cm (λ e. omega arith), ne_eqb k kind.q (λ e. omega arith), within_in kind.challenge kind.x_div_x_sub_w_xi k (g, h))

  by_out : (k ≡ kind.cm → ⊥) → (k ≡ kind.q → ⊥) → within kind.challenge kind.x_div_x_sub_w_xi k ≡ false → leaf_dim_by dims k i ≡ 1
  by_out a b e = rw (ne_eqb k kind.cm a, ne_eqb k kind.q b, e)

  by-below : (k ≡ kind.cm → ⊥) → (k ≡ kind.q → ⊥) → k < kind.challenge → leaf_dim_by dims k i ≡ 1
  by-below a b h = by_out a b (within-below kind.challenge kind.x_div_x_sub_w_xi k h)

  by-above : (k ≡ kind.cm → ⊥) → (k ≡ kind.q → ⊥) → kind.x_div_x_sub_w_xi < k → leaf_dim_by dims k i ≡ 1
  by-above a b h = by_out a b (within-above kind.challenge kind.x_div_x_sub_w_xi k h)

-- the same of a node in the tables
module _ (w dims : List ℕ) (n : ℕ) {k : ℕ} (ke : k ≡ kind_in w n) where
  pub cm_in : k ≡ kind.cm → {i r : ℕ} → i ≡ id_in w n → r ≡ get_or dims i 0 → r ≡ leaf_dim_in w dims n
  cm_in h ie q = q ∙ ap (λ j. get_or dims j 0) ie ∙ sym (by-cm dims (kind_in w n) (id_in w n) (sym ke ∙ h))

  pub q_in : k ≡ kind.q → 0 ≡ leaf_dim_in w dims n
  q_in h = sym (by-q dims (kind_in w n) (id_in w n) (sym ke ∙ h))

  pub extension_in : kind.challenge ≤ k → k ≤ kind.x_div_x_sub_w_xi → 3 ≡ leaf_dim_in w dims n
  extension_in a b = sym (by-extension dims (kind_in w n) (id_in w n) (omega (arith, ke, a)) (omega (arith, ke, b)))

  pub low_in : (k ≡ kind.cm → ⊥) → (k ≡ kind.q → ⊥) → k < kind.challenge → 1 ≡ leaf_dim_in w dims n
  low_in a b h = sym (by-below dims (kind_in w n) (id_in w n) (λ e. a (ke ∙ e)) (λ e. b (ke ∙ e)) (omega (arith, ke, h)))

  pub high_in : (k ≡ kind.cm → ⊥) → (k ≡ kind.q → ⊥) → kind.x_div_x_sub_w_xi < k → 1 ≡ leaf_dim_in w dims n
  high_in a b h = sym (by-above dims (kind_in w n) (id_in w n) (λ e. a (ke ∙ e)) (λ e. b (ke ∙ e)) (omega (arith, ke, h)))

-- ---- the leaf of a node

module _ (dims table : List ℕ) (f : ℕ → ℕ) (x : Node) (nowhere : lead_by table x.kind x.id ≡ none) where
  abbrev K : ℕ
  K = x.kind

  abbrev Goal : Leaf → Type 0
  Goal l = leaf_dim dims table f l ≡ leaf_dim_by dims K x.id

  q-nowhere : (o : Option ℕ) → o ≡ none → through dims table f o ≡ 0
  q-nowhere none h = refl
  q-nowhere (some u) h = absurd (none-ne-some u (sym h))

  not-exp : K ≡ kind.exp → ⊥
  not-exp h = let e : some x.id ≡ none = sym (lead h) ∙ nowhere in none-ne-some x.id (sym e)
    where
      lead : K ≡ kind.exp → lead_by table K x.id ≡ some x.id
      lead h = rw h

  lead-q : K ≡ kind.q → lead_by table K x.id ≡ nth table x.id
  lead-q h = rw h

  -- by one test of the kind
  either : (k : ℕ) (l r : Leaf) → (K ≡ k → Goal l) → ((K ≡ k → ⊥) → Goal r) → Goal (cond (eqb K k) l r)
  either k l r taken left = go (eqb K k) refl
    where
      go : (b : Bool) → eqb K k ≡ b → Goal (cond b l r)
      go true e = taken (eqb-true K k e)
      go false e = left (eqb-false K k e)

  -- an extension's, between challenge and the second quotient kind; any other is the base field's
  extension : kind.challenge ≤ K → K ≤ kind.x_div_x_sub_w_xi → 3 ≡ leaf_dim_by dims K x.id
  extension a b = sym (by-extension dims K x.id a b)

  base : (K ≡ kind.cm → ⊥) → (K ≡ kind.q → ⊥) → ((kind.challenge ≤ K) × (K ≤ kind.x_div_x_sub_w_xi) → ⊥) → 1 ≡ leaf_dim_by dims K x.id
  base a b c = sym (by_out dims K x.id a b (go (within kind.challenge kind.x_div_x_sub_w_xi K) refl))
    where
      go : (b : Bool) → within kind.challenge kind.x_div_x_sub_w_xi K ≡ b → within kind.challenge kind.x_div_x_sub_w_xi K ≡ false
      go true e = absurd (c (within-true kind.challenge kind.x_div_x_sub_w_xi K e))
      go false e = e

  -- THE LEAF OF A NODE that leads nowhere has the dimension of its kind
  pub leaf-by : Goal (leaf_of x)
  leaf-by =
      either kind.cm (Leaf.cell RowKind.cm x.id x.next) _ (λ h. sym (by-cm dims K x.id h)) λ n0.
      either kind.const (Leaf.cell RowKind.const x.id x.next) _ (λ h. base n0 (λ e. omega arith) (λ e. omega arith)) λ n1.
      either kind.exp (Leaf.exp x.id x.next) _ (λ h. absurd (not-exp h)) λ n2.
      either kind.q (Leaf.cell RowKind.q x.id x.next) _ (λ h. q-nowhere (nth table x.id) (sym (lead-q h) ∙ nowhere) ∙ sym (by-q dims K x.id h)) λ n3.
      either kind.number (Leaf.number (literal_of x)) _ (λ h. base n0 n3 (λ e. omega arith)) λ n4.
      either kind.public (Leaf.flat FlatKind.public x.id) _ (λ h. base n0 n3 (λ e. omega arith)) λ n5.
      either kind.challenge (Leaf.flat FlatKind.challenge x.id) _ (λ h. extension (omega arith) (omega arith)) λ n6.
      either kind.eval (Leaf.flat FlatKind.eval x.id) _ (λ h. extension (omega arith) (omega arith)) λ n7.
      either kind.x_div_x_sub_xi (Leaf.x XKind.x_div_x_sub_xi) _ (λ h. extension (omega arith) (omega arith)) λ n8.
      either kind.x_div_x_sub_w_xi (Leaf.x XKind.x_div_x_sub_w_xi) (Leaf.x XKind.plain_x) (λ h. extension (omega arith) (omega arith)) λ n9.
      base n0 n3 (λ e. range K n6 n7 n8 n9 e.0 e.1)
    where
      range : (k : ℕ) → (k ≡ kind.challenge → ⊥) → (k ≡ kind.eval → ⊥) → (k ≡ kind.x_div_x_sub_xi → ⊥) → (k ≡ kind.x_div_x_sub_w_xi → ⊥) → kind.challenge ≤ k → k ≤ kind.x_div_x_sub_w_xi → ⊥
      range k a b c d g h = omega arith
