-- Numbers seen one after the other are marked in a table; a number that is marked was seen before.
-- Assumes nothing.
use Prim.Native.Nat.{ℕ, suc, ◌+◌, ◌≤◌, ◌<◌}
use mathlib.Core.Path.{◌≡◌, refl, sym, ◌∙◌, ap, subst}
use mathlib.Core.List.{List}
use mathlib.Core.Bool.{Bool, true, false}
use mathlib.Core.Logic.{◌⊎◌, inl, inr, ⊎_elim}
use native.Mathlib.Omega.{arith}
use native.Mathlib.Nat.{eq-or-lt_of_le, le_of_suc-le-suc}
use lib.ListN.{length, get_or, set, replicate, length-set, length-replicate}
use lib.Dec.{eqb}
use borrow.Author.Tests.{eqb-true, eqb-false}
use lib.Seq.{get_or-set_same, get_or-set_other}
use Rattle.context.specs.Context.{Exactly}
use Rattle.context.specs.Zeros.{zeros-at}
use Rattle.context.proofs.Tells.{not_so, is_so}

same_or : (a b : ℕ) → (a ≡ b) ⊎ (a ≡ b → ⊥)
same_or a b = by (eqb a b) refl
  where
    by : (t : Bool) → eqb a b ≡ t → (a ≡ b) ⊎ (a ≡ b → ⊥)
    by true e = inl (eqb-true a b e)
    by false e = inr (eqb-false a b e)

-- below k + 1: at k or below it
last_or : (k j : ℕ) → j < k + 1 → (j ≡ k) ⊎ (j < k)
last_or k j h = eq-or-lt_of_le (le_of_suc-le-suc (let z : suc j ≤ suc k = omega arith in z))

module _ (cell : ℕ → ℕ) (size : ℕ) where
  abbrev pub Apart : ℕ → Type 0
  Apart n = (i k : ℕ) → i < k → k < n → cell i ≡ cell k → ⊥

  pub record Seen (k : ℕ) (s : List ℕ) : Type 0 where
    pub full : length s ≡ size
    pub held : (i : ℕ) → i < k → get_or s (cell i) 0 ≡ 1
    pub from : (c : ℕ) → get_or s c 0 ≡ 1 → (i : ℕ) × (i < k) × (cell i ≡ c)
    pub apart : Apart k

  pub none_seen : Seen 0 (replicate size 0)
  none_seen = record {
    full = length-replicate size 0;
    held = λ i h. absurd (omega arith);
    from = λ c e. let z : ◌≡◌ {A = ℕ} 0 1 = sym (zeros-at size c) ∙ e in absurd (omega arith);
    apart = λ i k h l. absurd (omega arith);
  }

  seen_one : (k : ℕ) (s : List ℕ) → Seen k s → cell k < size → (get_or s (cell k) 0 ≡ 1 → ⊥) → Seen (k + 1) (set s (cell k) 1)
  seen_one k s q h n = record {
    full = length-set s (cell k) 1 ∙ q.full;
    held = held;
    from = from;
    apart = apart;
  }
    where
      now : get_or (set s (cell k) 1) (cell k) 0 ≡ 1
      now = get_or-set_same s (cell k) 1 0 (rw q.full h)

      other : (i : ℕ) → i < k → cell i ≡ cell k → ⊥
      other i l e = n (ap (λ c. get_or s c 0) (sym e) ∙ q.held i l)

      held : (i : ℕ) → i < k + 1 → get_or (set s (cell k) 1) (cell i) 0 ≡ 1
      held i l = ⊎_elim (λ e. ap (λ j. get_or (set s (cell k) 1) (cell j) 0) e ∙ now) (λ b. get_or-set_other s (cell k) (cell i) 1 0 (other i b) ∙ q.held i b) (last_or k i l)

      before : (c : ℕ) → ((i : ℕ) × (i < k) × (cell i ≡ c)) → (i : ℕ) × (i < k + 1) × (cell i ≡ c)
      before c f = (f.0, let l : f.0 < k = f.1 in omega arith, f.2)

      from : (c : ℕ) → get_or (set s (cell k) 1) c 0 ≡ 1 → (i : ℕ) × (i < k + 1) × (cell i ≡ c)
      from c e = ⊎_elim (λ same. (k, omega arith, sym same)) (λ ne. before c (q.from c (sym (get_or-set_other s (cell k) c 1 0 ne) ∙ e))) (same_or c (cell k))

      apart : Apart (k + 1)
      apart i j l m e = ⊎_elim (λ z. other i (omega arith) (e ∙ ap cell z)) (λ b. q.apart i j l b e) (last_or k j m)

  pub one_seen : (k : ℕ) (s : List ℕ) (c : ℕ) → Seen k s → c ≡ cell k → cell k < size → (get_or s c 0 ≡ 1 → ⊥) → Seen (k + 1) (set s c 1)
  one_seen k s c q e h = subst (λ (y : ℕ). (get_or s y 0 ≡ 1 → ⊥) → Seen (k + 1) (set s y 1)) (sym e) (seen_one k s q h)

  pub seen_twice : (n k : ℕ) (s : List ℕ) (c : ℕ) → Seen k s → k < n → c ≡ cell k → get_or s c 0 ≡ 1 → Exactly false (Apart n)
  seen_twice n k s c q l p e = not_so (λ a. let f = q.from c e in a f.0 k f.1 l (f.2 ∙ p))

  pub all_seen : (n k : ℕ) (s : List ℕ) → Seen k s → n ≤ k → Exactly true (Apart n)
  all_seen n k s q l = is_so (λ i j a b. q.apart i j a (omega arith))
