-- Marks in a table, a byte for each cell: what setting one says, and that jobs whose cells are unmarked are no more than there are such cells.
-- Assumes nothing.
use Rattle.std.specs.Prelude.{ℕ, zero, suc, ◌+◌, ◌*◌, ◌<◌, ◌≤◌, ◌≡◌, Bool, true, ◌&&◌, ◌||◌, List, [], ◌∷◌, length, get_or, set, ltb}
use Rattle.std.proofs.Math.Path.{refl, fun_ext}
use Rattle.std.proofs.Common.{◌∙◌, ap, subst, arith, not-suc-le-zero, le_of_suc-le-suc, length-set, get_or-set_same, get_or-set_other}
use Rattle.std.proofs.Math.Bool.{false}
use Rattle.std.proofs.Math.Dec.{eqb}
use borrow.Author.Tests.{eq-eqb, lt-ltb, eqb-true, eqb-false, ltb-true, ltb-false}
use Rattle.meaning.specs.Trees.{Each}
use Rattle.meaning.specs.Order.{marking, Job}
use Rattle.meaning.proofs.Laws.Tests.{true-false}
use Rattle.meaning.proofs.Laws.Once.{Chain}
use Rattle.pool.specs.Ranking.{zeros}
use Rattle.starkinfo_codegen.specs.Ordering.{cell_of, marks_of}

pub zeros-set : (l : List ℕ) (c : ℕ) → c < length l → get_or l c 0 ≡ 0 → zeros (set l c 1) + 1 ≡ zeros l
unfolding zeros
zeros-set [] c h z = absurd (not-suc-le-zero h)
zeros-set (zero ∷ l) zero h z = omega arith
zeros-set (suc x ∷ l) zero h z = absurd (omega (arith, z))
zeros-set (zero ∷ l) (suc c) h z = omega (arith, zeros-set l c (le_of_suc-le-suc h) z)
zeros-set (suc x ∷ l) (suc c) h z = zeros-set l c (le_of_suc-le-suc h) z

module _ (s : List ℕ) (e r : ℕ) (h : r < 2) where
  pub marked : 1 ≤ get_or s (cell_of e r) 0 → marks_of s e r ≡ true
  unfolding marks_of
  marked g = rw (lt-ltb r 2 h, lt-ltb 0 (get_or s (cell_of e r) 0) g)

  pub not-marked : get_or s (cell_of e r) 0 ≡ 0 → marks_of s e r ≡ false
  unfolding marks_of
  not-marked g = rw (lt-ltb r 2 h, g)

  marks-set-at : cell_of e r < length s → (e' r' : ℕ) → marking (marks_of s) e r e' r' ≡ marks_of (set s (cell_of e r) 1) e' r'
  unfolding marks_of
  marks-set-at l e' r' = go (ltb r' 2) (eqb (cell_of e' r') (cell_of e r)) refl refl
    where
      off : (eqb e e' && eqb r r') ≡ false → (v v' : Bool) → v ≡ v' → ((eqb e e' && eqb r r') || v) ≡ v'
      off q v v' p = rw q p

      neither : ((e ≡ e') → (r ≡ r') → ⊥) → (eqb e e' && eqb r r') ≡ false
      neither n = by (eqb e e') (eqb r r') refl refl
        where
          by : (x y : Bool) → eqb e e' ≡ x → eqb r r' ≡ y → (x && y) ≡ false
          by true true p q = absurd (n (eqb-true e e' p) (eqb-true r r' q))
          by true false p q = refl
          by false y p q = refl

      go :
          (x y : Bool) → ltb r' 2 ≡ x → eqb (cell_of e' r') (cell_of e r) ≡ y →
          ((eqb e e' && eqb r r') || (ltb r' 2 && ltb 0 (get_or s (cell_of e' r') 0))) ≡ (ltb r' 2 && ltb 0 (get_or (set s (cell_of e r) 1) (cell_of e' r') 0))
      go false y p q = let g = ltb-false r' 2 p in rw (p, neither (λ a b. omega (arith, g, h, b)))
      go true true p q =
          let g = ltb-true r' 2 p in
          let k = eqb-true (cell_of e' r') (cell_of e r) q in
          let a : e ≡ e' = omega (arith, g, h, k) in
          let b : r ≡ r' = omega (arith, g, h, k) in
          let z : get_or (set s (cell_of e r) 1) (cell_of e' r') 0 ≡ 1 = ap (λ c. get_or (set s (cell_of e r) 1) c 0) k ∙ get_or-set_same s (cell_of e r) 1 0 l in
          rw (p, z, eq-eqb e e' a, eq-eqb r r' b)
      go true false p q =
          let k = eqb-false (cell_of e' r') (cell_of e r) q in
          let z = get_or-set_other s (cell_of e r) (cell_of e' r') 1 0 k in
          rw (p, z, neither (λ a b. k (omega (arith, a, b))))

  pub marks-set : cell_of e r < length s → marking (marks_of s) e r ≡ marks_of (set s (cell_of e r) 1)
  marks-set l = fun_ext (λ e'. fun_ext (λ r'. marks-set-at l e' r'))

-- a cell that the table has and that is unmarked has the byte 0
clear : (s : List ℕ) (e r : ℕ) → r < 2 → marks_of s e r ≡ false → get_or s (cell_of e r) 0 ≡ 0
clear s e r h g = go (get_or s (cell_of e r) 0) refl
  where
    go : (v : ℕ) → get_or s (cell_of e r) 0 ≡ v → get_or s (cell_of e r) 0 ≡ 0
    go zero q = q
    go (suc v) q = absurd (true-false (marked s e r h (omega (arith, q))) g)

-- JOBS THAT ARE MADE ONCE are no more than the cells without a mark
pub chain_room : (s : List ℕ) (js : List Job) (m : ℕ) → 2 * m ≤ length s → Each (λ j. (j.expression < m) × (j.row < 2)) js → Chain (marks_of s) js → length js ≤ zeros s
chain_room s [] m few there h = omega arith
chain_room s (j ∷ js) m few there h =
    let c = cell_of j.expression j.row in
    let l : c < length s = omega (arith, there.0.0, there.0.1) in
    let n = chain_room (set s c 1) js m (rw length-set few) there.1 (subst (λ z. Chain z js) (marks-set s j.expression j.row there.0.1 l) h.1) in
    omega (arith, n, zeros-set s c l (clear s j.expression j.row there.0.1 h.0))
