-- Numbering anew changes nothing but the numbers of nodes; how many nodes the constraint adds; and the search is asked about its identities.
-- Assumes nothing.
use Rattle.std.specs.Prelude.{ℕ, suc, ◌+◌, ◌*◌, ◌≡◌, refl, List, [], ◌∷◌, length}
use Rattle.std.proofs.Common.{◌∙◌, ap, arith}
use Rattle.std.proofs.Math.Option.{Option, none, some}
use Rattle.meaning.specs.Trees.{Expr, Expression, Forest, nth}
use Rattle.search_meaning.specs.Search.{identity_leaf, folded, fold_more}
use Rattle.constraint_meaning.specs.Tree.{Numbered, number_from, plus, Intermediate, minus_column, plus_member, plus_identities, plus_members, constraint_tree}

-- ── nodes ────────────────────────────────────────────────────────────────────
abbrev pub size : Expr → ℕ
size (Expr.leaf n l) = 1
size (Expr.bin n o a b) = suc (size a + size b)
size (Expr.muladd n a b c) = suc (size a + (size b + size c))
size (Expr.binc n o a l) = suc (size a)
size (Expr.neg n a) = suc (size a)

-- as many numbers as nodes
pub number-free : (t : Expr) (n : ℕ) → (number_from n t).free ≡ n + size t
number-free (Expr.leaf k l) n = omega arith
number-free (Expr.bin k o a b) n = let x = number-free a n in let y = number-free b (number_from n a).free in omega arith
number-free (Expr.muladd k a b c) n =
    let x = number-free a n in
    let y = number-free b (number_from n a).free in
    let z = number-free c (number_from (number_from n a).free b).free in
    omega arith
number-free (Expr.binc k o a l) n = let x = number-free a n in omega arith
number-free (Expr.neg k a) n = let x = number-free a n in omega arith

pub plus-free : (vc : ℕ) (c : Numbered) (e : Expr) → (plus vc c e).free ≡ c.free + size e + 3
plus-free vc c e = let x = number-free e (c.free + 2) in omega arith

-- what a member adds: its body, its column, their difference, and vc, the product and the sum
abbrev pub member_nodes : Option Expression → ℕ
member_nodes none = 0
member_nodes (some x) = size x.tree + 5

abbrev pub members_nodes : Forest → List Intermediate → ℕ
members_nodes E [] = 0
members_nodes E (m ∷ ms) = member_nodes (nth E m.expression) + members_nodes E ms

module _ (vc : ℕ) where
  identities-free : (c : Numbered) (es : List ℕ) → (plus_identities vc c es).free ≡ c.free + 4 * length es
  identities-free c [] = omega arith
  identities-free c (e ∷ es) =
      let x = plus-free vc c (identity_leaf e) in
      let y = identities-free (plus vc c (identity_leaf e)) es in
      omega arith

  member-free : (c : Numbered) (o : Option Expression) (i : ℕ) → (plus_member vc c o i).free ≡ c.free + member_nodes o
  member-free c none i = omega arith
  member-free c (some x) i = let y = plus-free vc c (minus_column x.tree i) in omega arith

  members-free : (E : Forest) (c : Numbered) (ms : List Intermediate) → (plus_members vc E c ms).free ≡ c.free + members_nodes E ms
  members-free E c [] = omega arith
  members-free E c (m ∷ ms) =
      let o = nth E m.expression in
      let x = member-free c o m.cm in
      let y = members-free E (plus_member vc c o m.cm) ms in
      omega arith

  -- THE NODES OF THE POOL WITH THE CONSTRAINT
  pub constraint-nodes :
      (E : Forest) (nodes e : ℕ) (es : List ℕ) (ms : List Intermediate) →
      (constraint_tree vc E nodes e es ms).free ≡ nodes + 1 + 4 * length es + members_nodes E ms
  constraint-nodes E nodes e es ms =
      let c = number_from nodes (identity_leaf e) in
      let x = identities-free c es in
      let y = members-free E (plus_identities vc c es) ms in
      omega arith

-- ── without the numbers ──────────────────────────────────────────────────────
abbrev pub bare : Expr → Expr
bare (Expr.leaf n l) = Expr.leaf 0 l
bare (Expr.bin n o a b) = Expr.bin 0 o (bare a) (bare b)
bare (Expr.muladd n a b c) = Expr.muladd 0 (bare a) (bare b) (bare c)
bare (Expr.binc n o a l) = Expr.binc 0 o (bare a) l
bare (Expr.neg n a) = Expr.neg 0 (bare a)

pub number-bare : (t : Expr) (n : ℕ) → bare (number_from n t).tree ≡ bare t
number-bare (Expr.leaf k l) n = refl
number-bare (Expr.bin k o a b) n = rw (number-bare a n, number-bare b (number_from n a).free) refl
number-bare (Expr.muladd k a b c) n =
    rw (number-bare a n, number-bare b (number_from n a).free, number-bare c (number_from (number_from n a).free b).free) refl
number-bare (Expr.binc k o a l) n = ap (λ z. Expr.binc 0 o z l) (number-bare a n)
number-bare (Expr.neg k a) n = ap (Expr.neg 0) (number-bare a n)

module _ (vc : ℕ) where
  pub plus-bare : (c : Numbered) (e : Expr) → bare (plus vc c e).tree ≡ folded vc (bare c.tree) (bare e)
  plus-bare c e = ap (folded vc (bare c.tree)) (number-bare e (c.free + 2))

  identities-bare : (c : Numbered) (es : List ℕ) → bare (plus_identities vc c es).tree ≡ fold_more vc (bare c.tree) es
  identities-bare c [] = refl
  identities-bare c (e ∷ es) =
      identities-bare (plus vc c (identity_leaf e)) es ∙ ap (λ z. fold_more vc z es) (plus-bare c (identity_leaf e))

  -- THE TREE THAT IS SEARCHED is the constraint with no intermediates
  pub searched-tree :
      (E : Forest) (nodes e : ℕ) (es : List ℕ) → bare (constraint_tree vc E nodes e es []).tree ≡ fold_more vc (identity_leaf e) es
  searched-tree E nodes e es = identities-bare (number_from nodes (identity_leaf e)) es
