-- Customers' expressions as trees: literals, kinds, leaves, operations, and the expressions of a pool with their flags.
-- Each operation and each leaf carries the number of its node; values ignore it.
-- Assumes nothing: these are definitions.
use Rattle.std.specs.Prelude.{ℕ, zero, suc, ◌<◌, ◌≡◌, length, Bool, List, [], ◌∷◌, ◌++◌, ◌⊎◌}
use Rattle.std.proofs.Math.Option.{Option, none, some}

-- is it negative, and its magnitude
pub data Lit : Type 0 where
  lit : Bool → ℕ → Lit

-- the kinds of leaves that a row tells apart, those that it does not, and the x kinds
pub data RowKind : Type 0 where
  cm const q : RowKind

pub data FlatKind : Type 0 where
  public challenge eval : FlatKind

pub data XKind : Type 0 where
  x_div_x_sub_xi x_div_x_sub_w_xi plain_x : XKind

pub data Op : Type 0 where
  add sub mul : Op

pub data OpC : Type 0 where
  addc mulc : OpC

-- id and next: how many rows ahead the leaf reads, 0 or 1 today.
-- Number, public, challenge, eval and the x kinds ignore the prime and their own next, so these have none.
pub data Leaf : Type 0 where
  cell : RowKind → ℕ → ℕ → Leaf
  exp : ℕ → ℕ → Leaf
  number : Lit → Leaf
  flat : FlatKind → ℕ → Leaf
  x : XKind → Leaf

-- the first number of each is its node
pub data Expr : Type 0 where
  leaf : ℕ → Leaf → Expr
  bin : ℕ → Op → Expr → Expr → Expr
  muladd : ℕ → Expr → Expr → Expr → Expr
  binc : ℕ → OpC → Expr → Lit → Expr
  neg : ℕ → Expr → Expr

-- an expression of a pool
pub record Expression : Type 0 where
  pub tree : Expr
  pub keep : Bool
  pub keep2ns : Bool
  pub id_q : Bool

-- a pool as its expressions by number
abbrev pub Forest : Type 0
Forest = List Expression

abbrev pub nth : {A : Type 0} → List A → ℕ → Option A
nth [] n = none
nth (a ∷ l) zero = some a
nth (a ∷ l) (suc n) = nth l n

-- a leaf with its node's number
pub data Placed : Type 0 where
  ◌at◌ : Leaf → ℕ → Placed

-- the leaves of a tree, from left to right
abbrev pub leaves : Expr → List Placed
leaves (leaf n l) = (l at n) ∷ []
leaves (bin n o a b) = leaves a ++ leaves b
leaves (muladd n a b c) = leaves a ++ (leaves b ++ leaves c)
leaves (binc n o a l) = leaves a
leaves (neg n a) = leaves a

-- P holds of each member
abbrev pub Each : {A : Type 0} → (A → Type 0) → List A → Type 0
Each P [] = Unit {0}
Each P (a ∷ l) = P a × Each P l

abbrev pub Member : {A : Type 0} → A → List A → Type 0
Member a [] = ⊥
Member a (b ∷ l) = (b ≡ a) ⊎ Member a l

-- the first n, or all
abbrev pub up_to : {A : Type 0} → ℕ → List A → List A
up_to zero l = []
up_to (suc n) [] = []
up_to (suc n) (a ∷ l) = a ∷ up_to n l

-- each expression that a leaf asks for is there, and has a lower rank
abbrev pub Falls : Forest → (ℕ → ℕ) → ℕ → Placed → Type 0
Falls E rank m (cell k i a at n) = Unit {0}
Falls E rank m (exp i a at n) = (rank i < m) × ((x : Expression) × (nth E i ≡ some x))
Falls E rank m (number l at n) = Unit {0}
Falls E rank m (flat k i at n) = Unit {0}
Falls E rank m (x k at n) = Unit {0}

-- Expressions refer to each other only by exp leaves, without a cycle. What admission gives of a pool.
pub record Acyclic (E : Forest) : Type 0 where
  pub rank : ℕ → ℕ
  pub below : (e : ℕ) (x : Expression) → nth E e ≡ some x → rank e < length E
  pub falls : (e : ℕ) (x : Expression) → nth E e ≡ some x → Each (Falls E rank (rank e)) (leaves x.tree)

infix 30 ◌at◌
