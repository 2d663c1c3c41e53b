-- Laws of cells: the test of sameness is equality, and which cells are no temporaries from t on.
-- Assumes nothing.
use Rattle.std.specs.Prelude.{ℕ, ◌+◌, ◌≤◌, ◌<◌, ◌≡◌, refl, true, false, cond, eqb}
use Rattle.std.proofs.Common.{sym, ◌∙◌, ap, arith, eqb-true}
use Rattle.meaning.specs.Trees.{RowKind, FlatKind, XKind, Leaf}
use Rattle.meaning.specs.Steps.{BareKind, Kind, kind_no, Cell, same, place, Ref, exp_cell}
use Rattle.meaning.specs.Emission.{leaf_ref}
use Rattle.meaning.proofs.Laws.Tests.{eqb_same, and_left, and_right, not-true}

-- the kind of a byte
abbrev kind_of : ℕ → Kind
kind_of b =
    cond (eqb b 0x10) (Kind.row RowKind.cm)
    (cond (eqb b 0x11) (Kind.row RowKind.const)
    (cond (eqb b 0x12) Kind.exp
    (cond (eqb b 0x13) (Kind.row RowKind.q)
    (cond (eqb b 0x15) (Kind.flat FlatKind.public)
    (cond (eqb b 0x16) (Kind.flat FlatKind.challenge)
    (cond (eqb b 0x17) (Kind.flat FlatKind.eval)
    (cond (eqb b 0x18) (Kind.x XKind.x_div_x_sub_xi)
    (cond (eqb b 0x19) (Kind.x XKind.x_div_x_sub_w_xi)
    (cond (eqb b 0x1a) (Kind.x XKind.plain_x)
    (cond (eqb b 0x20) Kind.tmp
    (cond (eqb b 0x21) Kind.f
    (cond (eqb b 0x22) Kind.tmp_exp
    (cond (eqb b 0x23) (Kind.bare BareKind.Zi)
    (cond (eqb b 0x24) (Kind.bare BareKind.tree1)
    (cond (eqb b 0x25) (Kind.bare BareKind.tree2)
    (cond (eqb b 0x26) (Kind.bare BareKind.tree3)
    (cond (eqb b 0x27) (Kind.bare BareKind.tree4) (Kind.bare BareKind.Z))))))))))))))))))

kind-of : (k : Kind) → kind_of (kind_no k) ≡ k
kind-of (Kind.row RowKind.cm) = refl
kind-of (Kind.row RowKind.const) = refl
kind-of (Kind.row RowKind.q) = refl
kind-of (Kind.flat FlatKind.public) = refl
kind-of (Kind.flat FlatKind.challenge) = refl
kind-of (Kind.flat FlatKind.eval) = refl
kind-of (Kind.x XKind.x_div_x_sub_xi) = refl
kind-of (Kind.x XKind.x_div_x_sub_w_xi) = refl
kind-of (Kind.x XKind.plain_x) = refl
kind-of Kind.exp = refl
kind-of Kind.tmp = refl
kind-of Kind.f = refl
kind-of Kind.tmp_exp = refl
kind-of (Kind.bare BareKind.Zi) = refl
kind-of (Kind.bare BareKind.tree1) = refl
kind-of (Kind.bare BareKind.tree2) = refl
kind-of (Kind.bare BareKind.tree3) = refl
kind-of (Kind.bare BareKind.tree4) = refl
kind-of (Kind.bare BareKind.Z) = refl

-- no two kinds have one byte
pub kind-same : (k k' : Kind) → kind_no k ≡ kind_no k' → k ≡ k'
kind-same k k' h = sym (kind-of k) ∙ ap kind_of h ∙ kind-of k'

pub same_refl : (c : Cell) → same c c ≡ true
same_refl (Cell.cell k i r) = rw (eqb_same (kind_no k), eqb_same i, eqb_same r)

pub same_eq : (c d : Cell) → same c d ≡ true → c ≡ d
same_eq (Cell.cell k i r) (Cell.cell k' i' r') h =
    let hk : k ≡ k' = kind-same k k' (eqb-true _ _ (and_left (eqb (kind_no k) (kind_no k')) _ h)) in
    let t = and_right (eqb (kind_no k) (kind_no k')) _ h in
    let hi : i ≡ i' = eqb-true _ _ (and_left (eqb i i') (eqb r r') t) in
    let hr : r ≡ r' = eqb-true _ _ (and_right (eqb i i') (eqb r r') t) in
    cc

pub same_not : (c d : Cell) → (c ≡ d → ⊥) → same c d ≡ false
same_not c d h = not-true (same c d) (λ t. h (same_eq c d t))

-- no temporary from t on
abbrev pub Under : Cell → ℕ → Type 0
Under c t = (i : ℕ) → c ≡ Cell.cell Kind.tmp i 0 → i < t

pub under-le : {c : Cell} {t u : ℕ} → t ≤ u → Under c t → Under c u
under-le l h i e = omega (arith, h i e)

pub tmp-apart : (u t : ℕ) (c : Cell) → t ≤ u → Under c t → same (Cell.cell Kind.tmp u 0) c ≡ false
tmp-apart u t c l h = same_not (Cell.cell Kind.tmp u 0) c (λ e. omega (arith, h u (sym e)))

pub tmp-under : (u : ℕ) {t : ℕ} → u < t → Under (Cell.cell Kind.tmp u 0) t
tmp-under u l i e = let q : u ≡ i = cc in omega arith

pub exp-under : (e r t : ℕ) → Under (exp_cell e r) t
exp-under e r t i q = let z : ◌≡◌ {A = ℕ} 0 1 = cc in absurd (omega arith)

abbrev pub Below : Ref → ℕ → Type 0
Below (Ref.var c) t = Under (place c) t
Below (Ref.number l n) t = Unit {0}

-- a leaf's reference is no temporary
pub leaf-below : (n : ℕ) (l : Leaf) (r t : ℕ) → Below (leaf_ref n l r) t
leaf-below n (Leaf.cell k i a) r t = λ j q. let z : ◌≡◌ {A = ℕ} 0 1 = cc in absurd (omega arith)
leaf-below n (Leaf.exp i a) r t = exp-under i (r + a) t
leaf-below n (Leaf.number l) r t = tt
leaf-below n (Leaf.flat k i) r t = λ j q. let z : ◌≡◌ {A = ℕ} 0 1 = cc in absurd (omega arith)
leaf-below n (Leaf.x k) r t = λ j q. let z : ◌≡◌ {A = ℕ} 0 1 = cc in absurd (omega arith)

pub below-le : (r : Ref) {t u : ℕ} → t ≤ u → Below r t → Below r u
below-le (Ref.var c) l h = under-le l h
below-le (Ref.number k n) l h = tt
