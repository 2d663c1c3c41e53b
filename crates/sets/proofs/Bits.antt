-- Bit arrays, and the ascending lists of their members.
-- Assumes nothing.
use mathlib.Core.Path.{◌≡◌, refl, sym, ap, ◌∙◌}
use mathlib.Core.Bool.{Bool, true, false, cond}
use mathlib.Core.List.{List, [], ◌∷◌}
use Prim.Native.Nat.{ℕ, zero, suc, ◌+◌, ◌*◌, ◌-◌, ◌/◌, ◌%◌, ◌^◌, ◌≤◌, ◌<◌}
use native.Mathlib.Omega.{arith}
use lib.Dec.{eqb, ltb}
use lib.Bits.{bit_or, bit_and, and_mask, or_shr, or_mod, or_zero_r}
use lib.Pow.{shl_exact, pow-lt, pow-add, shl-shr}
use native.Mathlib.Nat.{one-mul, div-eq_of_lt, mul-mod_left, pow-suc, mod-lt}
use lib.ListN.{length, get_or, set, length-set}
use lib.Seq.{get_or-set_same, get_or-set_other}
use borrow.Author.Tests.{eq-eqb, ne_eqb, lt-ltb, le-ltb, eqb-true, eqb-false, ltb-true, ltb-false}
use Rattle.search_meaning.specs.Search.{member, insert}
use Rattle.sets.specs.Members.{those, bit, members, Good, Put}

-- ── ascending lists ──────────────────────────────────────────────────────────
those_ext : (f g : ℕ → Bool) (i n : ℕ) → ((j : ℕ) → i ≤ j → j < i + n → f j ≡ g j) → those f i n ≡ those g i n
unfolding those
those_ext f g i zero h = refl
those_ext f g i (suc n) h =
    rw (h i (omega arith) (omega arith), those_ext f g (suc i) n (λ j l k. h j (omega arith) (omega arith)))

member-low : (f : ℕ → Bool) (e i n : ℕ) → e < i → member e (those f i n) ≡ false
unfolding those
member-low f e i zero h = refl
member-low f e i (suc n) h = go (f i) (member-low f e (suc i) n (omega arith))
  where
    go : (b : Bool) → member e (those f (suc i) n) ≡ false → member e (cond b (i ∷ those f (suc i) n) (those f (suc i) n)) ≡ false
    go true r = let z : e ≡ i → ⊥ = λ q. omega arith in rw (ne_eqb e i z) r
    go false r = r

pub member-those : (f : ℕ → Bool) (e i n : ℕ) → i ≤ e → e < i + n → member e (those f i n) ≡ f e
unfolding those
member-those f e i zero h k = absurd (omega arith)
member-those f e i (suc n) h k = go (λ l. member-those f e (suc i) n l (omega arith)) (eqb e i) refl (f i) refl
  where
    go : (suc i ≤ e → member e (those f (suc i) n) ≡ f e) → (c : Bool) → eqb e i ≡ c → (b : Bool) → f i ≡ b
        → member e (cond b (i ∷ those f (suc i) n) (those f (suc i) n)) ≡ f e
    go ih true q true r = rw q (sym (ap f (eqb-true e i q) ∙ r))
    go ih true q false r = let z : e ≡ i = eqb-true e i q in member-low f e (suc i) n (omega arith) ∙ sym (ap f z ∙ r)
    go ih false q true r = let z : e ≡ i → ⊥ = eqb-false e i q in rw q (ih (omega arith))
    go ih false q false r = let z : e ≡ i → ⊥ = eqb-false e i q in ih (omega arith)

insert-low : (f : ℕ → Bool) (e i n : ℕ) → e < i → insert e (those f i n) ≡ e ∷ those f i n
unfolding those
insert-low f e i zero h = refl
insert-low f e i (suc n) h = go (f i) (insert-low f e (suc i) n (omega arith))
  where
    go : (b : Bool) → insert e (those f (suc i) n) ≡ e ∷ those f (suc i) n
        → insert e (cond b (i ∷ those f (suc i) n) (those f (suc i) n)) ≡ e ∷ cond b (i ∷ those f (suc i) n) (those f (suc i) n)
    go true r = let z : e ≡ i → ⊥ = λ q. omega arith in rw (ne_eqb e i z, lt-ltb e i h)
    go false r = r

pub insert-those : (f g : ℕ → Bool) (e i n : ℕ) → i ≤ e → e < i + n → g e ≡ true → ((j : ℕ) → (j ≡ e → ⊥) → j < i + n → f j ≡ g j)
    → insert e (those f i n) ≡ those g i n
unfolding those
insert-those f g e i zero h k t o = absurd (omega arith)
insert-those f g e i (suc n) h k t o =
    go (λ l. insert-those f g e (suc i) n l (omega arith) t (λ j z b. o j z (omega arith))) (eqb e i) refl (f i) refl
  where
    go : (suc i ≤ e → insert e (those f (suc i) n) ≡ those g (suc i) n) → (c : Bool) → eqb e i ≡ c → (b : Bool) → f i ≡ b
        → insert e (cond b (i ∷ those f (suc i) n) (those f (suc i) n)) ≡ cond (g i) (i ∷ those g (suc i) n) (those g (suc i) n)
    go ih true q true r =
        let z : e ≡ i = eqb-true e i q in
        rw (q, ap g (sym z) ∙ t, those_ext f g (suc i) n (λ j l m. o j (λ y. omega arith) (omega arith)))
    go ih true q false r =
        let z : e ≡ i = eqb-true e i q in
        rw (ap g (sym z) ∙ t)
        (insert-low f e (suc i) n (omega arith) ∙ rw z (ap (λ l. i ∷ l) (those_ext f g (suc i) n (λ j l m. o j (λ y. omega arith) (omega arith)))))
    go ih false q true r =
        let z : e ≡ i → ⊥ = eqb-false e i q in
        rw (q, le-ltb e i h, sym (o i (λ y. z (sym y)) (omega arith)) ∙ r, ih (omega arith))
    go ih false q false r =
        let z : e ≡ i → ⊥ = eqb-false e i q in
        rw (sym (o i (λ y. z (sym y)) (omega arith)) ∙ r) (ih (omega arith))

those-few : (f : ℕ → Bool) (i n : ℕ) → length (those f i n) ≤ n
unfolding those
those-few f i zero = omega arith
those-few f i (suc n) = go (f i) (those-few f (suc i) n)
  where
    go : (b : Bool) → length (those f (suc i) n) ≤ n → length (cond b (i ∷ those f (suc i) n) (those f (suc i) n)) ≤ suc n
    go true r = omega arith
    go false r = omega arith

insert-length : (e : ℕ) (s : List ℕ) → member e s ≡ false → length (insert e s) ≡ suc (length s)
insert-length e [] h = refl
insert-length e (i ∷ s) h = go (insert-length e s) (eqb e i) (ltb e i) h
  where
    go : (member e s ≡ false → length (insert e s) ≡ suc (length s)) → (b c : Bool) → cond b true (member e s) ≡ false
        → length (cond b (i ∷ s) (cond c (e ∷ i ∷ s) (i ∷ insert e s))) ≡ suc (suc (length s))
    go ih true c h = let z : ◌≡◌ {A = ℕ} 0 1 = cc in absurd (omega arith)
    go ih false true h = refl
    go ih false false h = ap suc (ih h)

-- ── bits ─────────────────────────────────────────────────────────────────────
above : (i j : ℕ) → 2 ^ (suc i + j) / 2 ^ j % 2 ≡ 0
above i j =
    ap (λ x. x / 2 ^ j % 2) (pow-add 2 (suc i) j) ∙ ap (λ x. x % 2) (shl-shr (2 ^ suc i) j) ∙ ap (λ x. x % 2) (pow-suc 2 i) ∙ mul-mod_left (2 ^ i) 2

one_bit : (k j : ℕ) → 2 ^ k / 2 ^ j % 2 ≡ cond (eqb k j) 1 0
one_bit k j = go (eqb k j) refl (ltb k j) refl
  where
    go : (b : Bool) → eqb k j ≡ b → (c : Bool) → ltb k j ≡ c → 2 ^ k / 2 ^ j % 2 ≡ cond b 1 0
    go true q c r = rw (eqb-true k j q) (ap (λ x. x / 2 ^ j % 2) (sym (one-mul (2 ^ j))) ∙ ap (λ x. x % 2) (shl-shr 1 j))
    go false q true r = ap (λ x. x % 2) (div-eq_of_lt (pow-lt (ltb-true k j r)))
    go false q false r =
        let n : k ≡ j → ⊥ = eqb-false k j q in
        let l : j ≤ k = ltb-false k j r in
        let e : k ≡ suc (k - suc j) + j = omega arith in
        ap (λ x. 2 ^ x / 2 ^ j % 2) e ∙ above (k - suc j) j

-- a bit of a word, after another was set
or_bit : (w k j : ℕ) → eqb (bit_or w (2 ^ k) / 2 ^ j % 2) 1 ≡ cond (eqb k j) true (eqb (w / 2 ^ j % 2) 1)
or_bit w k j =
    ap (λ x. eqb (x % 2) 1) (or_shr w (2 ^ k) j) ∙ ap (λ x. eqb x 1) (or_mod (w / 2 ^ j) (2 ^ k / 2 ^ j) 1)
    ∙ ap (λ x. eqb (bit_or (w / 2 ^ j % 2) x) 1) (one_bit k j) ∙ go (eqb k j) (w / 2 ^ j % 2) (mod-lt (w / 2 ^ j) (omega arith))
  where
    go : (b : Bool) (x : ℕ) → x < 2 → eqb (bit_or x (cond b 1 0)) 1 ≡ cond b true (eqb x 1)
    go true zero h = refl
    go true (suc zero) h = refl
    go true (suc (suc x)) h = absurd (omega arith)
    go false x h = rw (or_zero_r x)

bit-set : (w : List ℕ) (e j : ℕ) → e / 64 < length w → bit (set w (e / 64) (bit_or (get_or w (e / 64) 0) (2 ^ (e % 64)))) j ≡ cond (eqb e j) true (bit w j)
unfolding bit
bit-set w e j l = go (eqb (e / 64) (j / 64)) refl
  where
    go : (b : Bool) → eqb (e / 64) (j / 64) ≡ b
        → eqb (get_or (set w (e / 64) (bit_or (get_or w (e / 64) 0) (2 ^ (e % 64)))) (j / 64) 0 / 2 ^ (j % 64) % 2) 1 ≡ cond (eqb e j) true (eqb (get_or w (j / 64) 0 / 2 ^ (j % 64) % 2) 1)
    go true q =
        let z : e / 64 ≡ j / 64 = eqb-true _ _ q in
        rw (← z, get_or-set_same w (e / 64) (bit_or (get_or w (e / 64) 0) (2 ^ (e % 64))) 0 l)
        (or_bit (get_or w (e / 64) 0) (e % 64) (j % 64) ∙ ap (λ b. cond b true (eqb (get_or w (e / 64) 0 / 2 ^ (j % 64) % 2) 1)) (same (eqb e j) refl))
      where
        same : (b : Bool) → eqb e j ≡ b → eqb (e % 64) (j % 64) ≡ b
        same true r = let x : e ≡ j = eqb-true e j r in eq-eqb (e % 64) (j % 64) (omega arith)
        same false r = let x : e ≡ j → ⊥ = eqb-false e j r in let z : e / 64 ≡ j / 64 = eqb-true _ _ q in ne_eqb (e % 64) (j % 64) (λ (y : e % 64 ≡ j % 64). x (omega arith))
    go false q =
        let z : e / 64 ≡ j / 64 → ⊥ = eqb-false _ _ q in
        rw (get_or-set_other w (e / 64) (j / 64) (bit_or (get_or w (e / 64) 0) (2 ^ (e % 64))) 0 (λ y. z (sym y)), ne_eqb e j (λ y. z (ap (λ x. x / 64) y)))

-- the size stands after the bits
bit-size : (w : List ℕ) (v j : ℕ) → j < 512 → bit (set w 8 v) j ≡ bit w j
unfolding bit
bit-size w v j h = rw (get_or-set_other w 8 (j / 64) v 0 (λ (q : j / 64 ≡ 8). omega arith))

members-few : (w : List ℕ) → length (members w) < 513
unfolding members
members-few w = let h = those-few (bit w) 0 512 in omega arith

module _ (w : List ℕ) (e : ℕ) (h : e < 512) where
  pub has-is : eqb (bit_and (get_or w (e / 64) 0 / 2 ^ (e % 64)) 1) 1 ≡ member e (members w)
  unfolding members bit
  has-is = ap (λ x. eqb x 1) (and_mask (get_or w (e / 64) 0 / 2 ^ (e % 64)) 1) ∙ sym (member-those (bit w) e 0 512 (omega arith) h)

  kept : member e (members w) ≡ true → members w ≡ insert e (members w)
  unfolding members
  kept q = sym (insert-those (bit w) (bit w) e 0 512 (omega arith) h (sym (member-those (bit w) e 0 512 (omega arith) h) ∙ q) (λ j z l. refl))

  pub put_same : Good w → member e (members w) ≡ true → Put w e w
  put_same g q = record { is = kept q; good = g }

  abbrev marked : List ℕ
  marked = set w (e / 64) (bit_or (get_or w (e / 64) 0) (1 * 2 ^ (e % 64) % 18446744073709551616))

  abbrev new : List ℕ
  new = set marked 8 (get_or marked 8 0 + 1)

  module _ (g : Good w) where
    new-bit : (j : ℕ) → j < 512 → bit new j ≡ cond (eqb e j) true (bit w j)
    new-bit j l =
        let f : 1 * 2 ^ (e % 64) % 18446744073709551616 ≡ 2 ^ (e % 64) = shl_exact 1 (e % 64) 64 (omega arith) (omega arith) ∙ one-mul _ in
        bit-size marked (get_or marked 8 0 + 1) j l ∙ rw f (bit-set w e j (omega (arith, g.whole)))

    new-members : members new ≡ insert e (members w)
    unfolding members
    new-members =
        sym (insert-those (bit w) (bit new) e 0 512 (omega arith) h (rw (new-bit e h, eq-eqb e e refl)) (λ j z k. rw (new-bit j k, ne_eqb e j (λ y. z (sym y)))))

    size_same : get_or marked 8 0 ≡ get_or w 8 0
    size_same = get_or-set_other w (e / 64) 8 (bit_or (get_or w (e / 64) 0) (1 * 2 ^ (e % 64) % 18446744073709551616)) 0 (λ (y : 8 ≡ e / 64). omega arith)

    pub size_fits : get_or marked 8 0 < 513
    size_fits = omega (arith, size_same, g.size, g.few)

    pub put-new : member e (members w) ≡ false → Put w e new
    put-new q =
        let n : length marked ≡ 9 = length-set w (e / 64) (bit_or (get_or w (e / 64) 0) (1 * 2 ^ (e % 64) % 18446744073709551616)) ∙ g.whole in
        let b : get_or new 8 0 ≡ get_or marked 8 0 + 1 = get_or-set_same marked 8 (get_or marked 8 0 + 1) 0 (omega (arith, n)) in
        record {
          is = new-members;
          good = record {
            whole = length-set marked 8 (get_or marked 8 0 + 1) ∙ n;
            size = rw new-members (omega (arith, size_same, b, g.size, insert-length e (members w) q));
            few = members-few new;
          };
        }
