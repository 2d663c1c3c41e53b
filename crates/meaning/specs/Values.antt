-- What an expression's value is: algebras, what is given, the value as a relation and as a total function by levels of expressions.
-- Assumes nothing: these are definitions.
use Rattle.std.specs.Prelude.{ℕ, zero, suc, ◌+◌, ◌≡◌, false, length}
use Rattle.std.proofs.Math.Option.{Option, none, some}
use Rattle.meaning.specs.Trees.{Lit, lit, RowKind, FlatKind, XKind, Op, OpC, Leaf, Expr, Expression, Forest, nth}

-- A carrier with its operations. Demand 3 needs these two laws of them and no other.
pub record Algebra : Type 1 where
  pub A : Type 0
  pub plus : A → A → A
  pub minus : A → A → A
  pub times : A → A → A
  pub negated : A → A
  pub of_lit : Lit → A
  pub plus_comm : (a b : A) → plus a b ≡ plus b a
  pub zero_minus : (a : A) → minus (of_lit (lit false 0)) a ≡ negated a

-- The values given, where they are: by kind, id and row; by kind and id; an x kind's by row.
pub record Given (A : Type 0) : Type 0 where
  pub cells : RowKind → ℕ → ℕ → Option A
  pub flats : FlatKind → ℕ → Option A
  pub xs : XKind → ℕ → Option A

abbrev pub opc : OpC → Op
opc OpC.addc = Op.add
opc OpC.mulc = Op.mul

abbrev pub bind : {A B : Type 0} → Option A → (A → Option B) → Option B
bind none f = none
bind (some a) f = f a

module _ (𝓐 : Algebra) where
  abbrev pub op : Op → 𝓐.A → 𝓐.A → 𝓐.A
  op Op.add a b = 𝓐.plus a b
  op Op.sub a b = 𝓐.minus a b
  op Op.mul a b = 𝓐.times a b

  module _ (G : Given 𝓐.A) (E : Forest) where
    -- THE VALUE: the tree has the value v at row r. A leaf with next n reads row r + n.
    pub data Has : Expr → ℕ → 𝓐.A → Type 0 where
      cell : {n : ℕ} {k : RowKind} {i a r : ℕ} {v : 𝓐.A} → G.cells k i (r + a) ≡ some v → Has (Expr.leaf n (Leaf.cell k i a)) r v
      exp : {n i a r : ℕ} {v : 𝓐.A} (e : Expression) → nth E i ≡ some e → Has e.tree (r + a) v → Has (Expr.leaf n (Leaf.exp i a)) r v
      number : {n : ℕ} {l : Lit} {r : ℕ} {v : 𝓐.A} → v ≡ 𝓐.of_lit l → Has (Expr.leaf n (Leaf.number l)) r v
      flat : {n : ℕ} {k : FlatKind} {i r : ℕ} {v : 𝓐.A} → G.flats k i ≡ some v → Has (Expr.leaf n (Leaf.flat k i)) r v
      x : {n : ℕ} {k : XKind} {r : ℕ} {v : 𝓐.A} → G.xs k r ≡ some v → Has (Expr.leaf n (Leaf.x k)) r v
      bin : {n : ℕ} {o : Op} {a b : Expr} {r : ℕ} {v : 𝓐.A} (y z : 𝓐.A) → Has a r y → Has b r z → v ≡ op o y z → Has (Expr.bin n o a b) r v
      muladd : {n : ℕ} {a b c : Expr} {r : ℕ} {v : 𝓐.A} (y z w : 𝓐.A) → Has a r y → Has b r z → Has c r w → v ≡ 𝓐.plus (𝓐.times y z) w → Has (Expr.muladd n a b c) r v
      binc : {n : ℕ} {o : OpC} {a : Expr} {l : Lit} {r : ℕ} {v : 𝓐.A} (y : 𝓐.A) → Has a r y → v ≡ op (opc o) y (𝓐.of_lit l) → Has (Expr.binc n o a l) r v
      neg : {n : ℕ} {a : Expr} {r : ℕ} {v : 𝓐.A} (y : 𝓐.A) → Has a r y → v ≡ 𝓐.negated y → Has (Expr.neg n a) r v

    -- expression e has the value v at row r
    abbrev pub Value : ℕ → ℕ → 𝓐.A → Type 0
    Value e r v = (t : Expression) × (nth E e ≡ some t) × Has t.tree r v

    -- THE SAME AS A FUNCTION: a tree's value, where expression i's at row r is X i r
    abbrev pub leaf_value : (ℕ → ℕ → Option 𝓐.A) → Leaf → ℕ → Option 𝓐.A
    leaf_value X (Leaf.cell k i a) r = G.cells k i (r + a)
    leaf_value X (Leaf.exp i a) r = X i (r + a)
    leaf_value X (Leaf.number l) r = some (𝓐.of_lit l)
    leaf_value X (Leaf.flat k i) r = G.flats k i
    leaf_value X (Leaf.x k) r = G.xs k r

    abbrev pub tree_value : (ℕ → ℕ → Option 𝓐.A) → Expr → ℕ → Option 𝓐.A
    tree_value X (Expr.leaf n l) r = leaf_value X l r
    tree_value X (Expr.bin n o a b) r = bind (tree_value X a r) (λ y. bind (tree_value X b r) (λ z. some (op o y z)))
    tree_value X (Expr.muladd n a b c) r =
        bind (tree_value X a r) (λ y. bind (tree_value X b r) (λ z. bind (tree_value X c r) (λ w. some (𝓐.plus (𝓐.times y z) w))))
    tree_value X (Expr.binc n o a l) r = bind (tree_value X a r) (λ y. some (op (opc o) y (𝓐.of_lit l)))
    tree_value X (Expr.neg n a) r = bind (tree_value X a r) (λ y. some (𝓐.negated y))

    abbrev pub expression_value : (ℕ → ℕ → Option 𝓐.A) → Option Expression → ℕ → Option 𝓐.A
    expression_value X none r = none
    expression_value X (some t) r = tree_value X t.tree r

    -- with at most m levels of expressions
    abbrev pub value_below : ℕ → ℕ → ℕ → Option 𝓐.A
    value_below zero e r = none
    value_below (suc m) e r = expression_value (value_below m) (nth E e) r

    -- Expressions that form no cycle have at most as many levels as there are expressions.
    abbrev pub value : ℕ → ℕ → Option 𝓐.A
    value e r = value_below (length E) e r
