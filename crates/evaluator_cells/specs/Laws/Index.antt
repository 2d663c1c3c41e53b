-- Laws of the number of a key among the first n keys.
-- Assumes nothing.
use Rattle.std.specs.Prelude.{ℕ, zero, suc, ◌<◌, ◌≡◌, refl, Bool, true, false, cond, List, ◌⊎◌, get_or, eqb, Option, Some, None}
use Rattle.std.proofs.Common.{◌∙◌, inl, inr, eq-or-lt_of_le, arith, eq-eqb, ne_eqb, eqb-true}
use Rattle.std.proofs.lemmas.Bool.{eqb-false}
use Rattle.evaluator_cells.specs.Cells.{or_else, index_of}

pub index_none : (ks : List ℕ) (n key : ℕ) → ((j : ℕ) → j < n → get_or ks j 0 ≡ key → ⊥) → index_of ks n key ≡ None
unfolding index_of
index_none ks zero key h = refl
index_none ks (suc n) key h = rw (index_none ks n key (λ j l. h j (omega arith)), ne_eqb (get_or ks n 0) key (h n (omega arith)))

pub index_at :
    (ks : List ℕ) (n key i : ℕ) → i < n → get_or ks i 0 ≡ key → ((j : ℕ) → j < n → get_or ks j 0 ≡ key → j ≡ i) → index_of ks n key ≡ Some i
unfolding index_of
index_at ks zero key i l e u = absurd (omega arith)
index_at ks (suc n) key i l e u = by (eq-or-lt_of_le {n = i} {m = n} (omega arith)) (index_at ks n key i)
  where
    by :
        (i ≡ n) ⊎ (i < n) → (i < n → get_or ks i 0 ≡ key → ((j : ℕ) → j < n → get_or ks j 0 ≡ key → j ≡ i) → index_of ks n key ≡ Some i)
        → or_else (index_of ks n key) (cond (eqb (get_or ks n 0) key) (Some n) None) ≡ Some i
    by (inl q) ih =
        let none : index_of ks n key ≡ None = index_none ks n key (λ j g f. let w : j ≡ i = u j (omega arith) f in omega arith) in
        let here : get_or ks n 0 ≡ key = rw (← q) e in
        rw (none, eq-eqb (get_or ks n 0) key here, q)
    by (inr g) ih = rw (ih g e (λ j k. u j (omega arith)))

pub index_there : (ks : List ℕ) (n key i : ℕ) → index_of ks n key ≡ Some i → (i < n) × (get_or ks i 0 ≡ key)
unfolding index_of
index_there ks zero key i h = absurd (let z : ◌≡◌ {A = ℕ} 0 1 = cc in omega arith)
index_there ks (suc n) key i h = by (index_there ks n key i) (index_of ks n key) refl (eqb (get_or ks n 0) key) refl h
  where
    by :
        (index_of ks n key ≡ Some i → (i < n) × (get_or ks i 0 ≡ key))
        → (o : Option ℕ) → index_of ks n key ≡ o → (b : Bool) → eqb (get_or ks n 0) key ≡ b → or_else o (cond b (Some n) None) ≡ Some i
        → (i < suc n) × (get_or ks i 0 ≡ key)
    by ih (Some k) e b f h =
        let r = ih (e ∙ h) in
        (omega (arith, r.0), r.1)
    by ih None e true f h =
        let q : n ≡ i = cc in
        (omega arith, rw q at (eqb-true (get_or ks n 0) key f))
    by ih None e false f h = absurd (let z : ◌≡◌ {A = ℕ} 0 1 = cc in omega arith)

pub index_not : (ks : List ℕ) (n key : ℕ) → index_of ks n key ≡ None → (j : ℕ) → j < n → get_or ks j 0 ≡ key → ⊥
unfolding index_of
index_not ks zero key h j l e = omega arith
index_not ks (suc n) key h j l e = by (index_not ks n key) (index_of ks n key) refl (eqb (get_or ks n 0) key) refl h (eq-or-lt_of_le {n = j} {m = n} (omega arith))
  where
    by :
        (index_of ks n key ≡ None → (j : ℕ) → j < n → get_or ks j 0 ≡ key → ⊥)
        → (o : Option ℕ) → index_of ks n key ≡ o → (b : Bool) → eqb (get_or ks n 0) key ≡ b → or_else o (cond b (Some n) None) ≡ None
        → (j ≡ n) ⊎ (j < n) → ⊥
    by ih (Some k) p b f h q = let z : ◌≡◌ {A = ℕ} 0 1 = cc in omega arith
    by ih None p true f h q = let z : ◌≡◌ {A = ℕ} 0 1 = cc in omega arith
    by ih None p false f h (inl q) = eqb-false (get_or ks n 0) key f (rw (← q) e)
    by ih None p false f h (inr g) = ih p j g e
