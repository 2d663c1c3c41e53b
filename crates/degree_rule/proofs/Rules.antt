-- The degree rule at a node of an admitted pool, by its kind.
-- Assumes nothing.
use Prim.Native.Nat.{ℕ, ◌+◌, ◌<◌, ◌≤◌, min, max}
use mathlib.Core.Path.{◌≡◌, refl, sym, ◌∙◌, ap}
use mathlib.Core.Bool.{Bool, true, false, cond}
use mathlib.Core.Option.{Option, none, some}
use mathlib.Core.List.{List}
use mathlib.Core.Logic.{◌⊎◌, inl, inr}
use native.Mathlib.Omega.{arith}
use lib.Dec.{eqb, ltb}
use borrow.Author.Tests.{eqb-true, eqb-false, ltb-true, ltb-false, lt-leb}
use Rattle.meaning.specs.Refusals.{Refusal}
use Rattle.meaning.specs.Trees.{Expr}
use Rattle.search_meaning.specs.Degrees.{Class}
use Rattle.search_meaning.specs.Search.{Tally, Out, done, refused, Search, Found, found, Reads, visit, pair, splits, leaf_rule, product, rule, free, is_constant}
use Rattle.kinds.specs.KindBytes as kind
use Rattle.kinds.specs.Range.{within, within-below}
use Rattle.frames.specs.Tables.{kind_in, id_in}
use Rattle.pool.specs.Words.{c0_in, c1_in}
use Rattle.pool.specs.Shaped.{Shaped}
use Rattle.pool.specs.Trees.{tree}
use Rattle.pool.specs.Tabled.{Tables, tabled}
use Rattle.full_degrees.specs.Coded.{no_degree, coded}
use Rattle.full_degrees.specs.Shapes.{Sum, plus, minus, Single, with_lit, negated, class_by, Rest, by-exp, by-constant, by-eval, by-q, by-quotient, by-rest, sum_is, mul_is, muladd-is, single-is, leaf-at}

-- ── a full degree as a byte ──────────────────────────────────────────────────
pub coded_none : (o : Option ℕ) → coded o ≡ no_degree → o ≡ none
coded_none none h = refl
coded_none (some n) h = absurd (omega (arith, h))

pub coded-low : (o : Option ℕ) → coded o ≤ 17 → o ≡ some (coded o)
coded-low none h = absurd (omega arith)
coded-low (some n) h = let z : n ≡ min 18 n = omega arith in ap some z

-- above a limit it is above, whatever it is
pub coded-high :
    (lim : Option ℕ) (f : ℕ → Option ℕ) (b : ℕ → List ℕ → Search Found) (o : Option ℕ) (x y : Reads) (s : List ℕ) (m : ℕ) (k : Tally) → m ≤ 17 → (coded o ≡ no_degree → ⊥) → m < coded o →
    product lim f b o x y s m k ≡ splits lim x y s m (m + 1) 0 none k
coded-high lim f b none x y s m k h u l = absurd (u refl)
coded-high lim f b (some n) x y s m k h u l = let z : m < n = omega arith in rw (lt-leb n m z)

-- ── forms of trees ───────────────────────────────────────────────────────────
module _ (lim : Option ℕ) (f : ℕ → Option ℕ) (b : ℕ → List ℕ → Search Found) (s : List ℕ) (m : ℕ) (k : Tally) where
  pub sum-rule : {x a c : Expr} → Sum x a c → rule lim f b x s m k ≡ pair lim max (rule lim f b a) (rule lim f b c) s m m k
  sum-rule plus = refl
  sum-rule minus = refl

  pub single-rule : {x a : Expr} → Single x a → rule lim f b x s m k ≡ visit lim (rule lim f b a) (some s) m k
  single-rule with_lit = refl
  single-rule negated = refl

free-sum : {x a b : Expr} → Sum x a b → free x ≡ false
free-sum plus = refl
free-sum minus = refl

free-single : {x a : Expr} → Single x a → free x ≡ false
free-single with_lit = refl
free-single negated = refl

constant_by : (k i : ℕ) → is_constant (class_by k i) ≡ within kind.number kind.challenge k
constant_by k i = go (eqb k kind.exp) refl (within kind.number kind.challenge k) refl
  where
    rest : (a b c : Bool) → is_constant (cond a Class.evaluation (cond b Class.other (cond c Class.other Class.column))) ≡ false
    rest true b c = refl
    rest false true c = refl
    rest false false true = refl
    rest false false false = refl

    go : (a : Bool) → eqb k kind.exp ≡ a → (b : Bool) → within kind.number kind.challenge k ≡ b → is_constant (class_by k i) ≡ b
    go true q b r = let z : k ≡ 18 = eqb-true k kind.exp q in rw z (sym (within-below kind.number kind.challenge 18 (omega arith)) ∙ ap (within kind.number kind.challenge) (sym z) ∙ r)
    go false q true r = rw (q, r)
    go false q false r = rw (q, r) (rest (eqb k kind.eval) (eqb k kind.q) (within kind.x_div_x_sub_xi kind.x_div_x_sub_w_xi k))

-- ── a node ───────────────────────────────────────────────────────────────────
module _ (t : Tables) (shaped : Shaped (tabled t)) {i : ℕ} (there : i < t.node_count) where
  abbrev k : ℕ
  k = kind_in t.nodes i

  -- a number, a public value or a challenge
  pub free-is : free (tree (tabled t) i) ≡ within kind.number kind.challenge k
  free-is = go (ltb k 1) refl (ltb k kind.mul) refl (eqb k kind.mul) refl (eqb k kind.muladd) refl (ltb kind.neg k) refl
    where
      leaf : (k < 1) ⊎ (kind.neg < k) → free (tree (tabled t) i) ≡ within kind.number kind.challenge k
      leaf h = let l = leaf-at t shaped there h in ap free l.1 ∙ ap is_constant l.2 ∙ constant_by k (id_in t.nodes i)

      low : k < 20 → free (tree (tabled t) i) ≡ false → free (tree (tabled t) i) ≡ within kind.number kind.challenge k
      low h q = q ∙ sym (within-below kind.number kind.challenge k h)

      go :
          (a : Bool) → ltb k 1 ≡ a → (b : Bool) → ltb k kind.mul ≡ b → (c : Bool) → eqb k kind.mul ≡ c → (d : Bool) → eqb k kind.muladd ≡ d → (e : Bool) → ltb kind.neg k ≡ e →
          free (tree (tabled t) i) ≡ within kind.number kind.challenge k
      go true qa b qb c qc d qd e qe = leaf (inl (ltb-true k 1 qa))
      go false qa true qb c qc d qd e qe =
          let x = ltb-false k 1 qa in
          let y = ltb-true k kind.mul qb in
          low (omega arith) (free-sum (sum_is t shaped there x (omega arith)))
      go false qa false qb true qc d qd e qe = let x = eqb-true k kind.mul qc in low (omega arith) (ap free (mul_is t shaped there x))
      go false qa false qb false qc true qd e qe = let x = eqb-true k kind.muladd qd in low (omega arith) (ap free (muladd-is t shaped there x))
      go false qa false qb false qc false qd true qe = leaf (inr (ltb-true kind.neg k qe))
      go false qa false qb false qc false qd false qe =
          let x = ltb-false k kind.mul qb in
          let y = eqb-false k kind.mul qc in
          let z = eqb-false k kind.muladd qd in
          let w = ltb-false kind.neg k qe in
          low (omega arith) (free-single (single-is t shaped there (five k x y z) w))
        where
          five : (k : ℕ) → 3 ≤ k → (k ≡ 3 → ⊥) → (k ≡ 4 → ⊥) → 5 ≤ k
          five k a b c = omega arith

  module _ (lim : Option ℕ) (f : ℕ → Option ℕ) (b : ℕ → List ℕ → Search Found) (s : List ℕ) (m : ℕ) (y : Tally) where
    abbrev Here : Out Found
    Here = rule lim f b (tree (tabled t) i) s m y

    leaf-rule : {c : Class} → (k < 1) ⊎ (kind.neg < k) → class_by k (id_in t.nodes i) ≡ c → Here ≡ leaf_rule lim f b c s m y
    leaf-rule {c} h q =
        let l = leaf-at t shaped there h in
        ap (λ x. rule lim f b x s m y) l.1 ∙ ap (λ c. leaf_rule lim f b c s m y) (l.2 ∙ q)

    pub rule-constant : kind.number ≤ k → k ≤ kind.challenge → Here ≡ done (found s 0) y
    rule-constant a c = leaf-rule (inr (omega arith)) (by-constant k (id_in t.nodes i) a c)

    pub rule-exp : k ≡ kind.exp → Here ≡ leaf_rule lim f b (Class.reference (id_in t.nodes i)) s m y
    rule-exp h = leaf-rule (inr (omega arith)) (by-exp k (id_in t.nodes i) h)

    pub rule-eval : k ≡ kind.eval → Here ≡ refused Refusal.search_kind y.visits
    rule-eval h = leaf-rule (inr (omega arith)) (by-eval k (id_in t.nodes i) h)

    pub rule-q : k ≡ kind.q → Here ≡ refused Refusal.search_kind y.visits
    rule-q h = leaf-rule (inr (omega arith)) (by-q k (id_in t.nodes i) h)

    pub rule-quotient : kind.x_div_x_sub_xi ≤ k → k ≤ kind.x_div_x_sub_w_xi → Here ≡ refused Refusal.search_kind y.visits
    rule-quotient a c = leaf-rule (inr (omega arith)) (by-quotient k (id_in t.nodes i) a c)

    pub rule-muladd : k ≡ kind.muladd → Here ≡ refused Refusal.search_kind y.visits
    rule-muladd h = ap (λ x. rule lim f b x s m y) (muladd-is t shaped there h)

    pub rule-column : (k < 1) ⊎ (kind.neg < k) → Rest k (id_in t.nodes i) → Here ≡ cond (ltb m 1) (done none y) (done (found s 1) y)
    rule-column h r = leaf-rule h (by-rest k (id_in t.nodes i) r)

    pub rule-sum : 1 ≤ k → k ≤ kind.sub → Here ≡ pair lim max (rule lim f b (tree (tabled t) (c0_in t.nodes i))) (rule lim f b (tree (tabled t) (c1_in t.nodes i))) s m m y
    rule-sum a c = sum-rule lim f b s m y (sum_is t shaped there a c)

    pub rule-single : kind.addc ≤ k → k ≤ kind.neg → Here ≡ visit lim (rule lim f b (tree (tabled t) (c0_in t.nodes i))) (some s) m y
    rule-single a c = single-rule lim f b s m y (single-is t shaped there a c)
