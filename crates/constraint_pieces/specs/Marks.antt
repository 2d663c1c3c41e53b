-- MEMBERS MARKED AT BOTH ROWS, in a table of marks and in what a context says; and that the one is the other.
-- Assumes nothing.
use Prim.Native.Nat.{ℕ, zero, suc, ◌+◌, ◌*◌, ◌<◌}
use Rattle.std.specs.Prelude.{◌≡◌, Bool, ◌&&◌, ◌||◌, List, [], ◌∷◌, length, set}
use Rattle.std.proofs.Math.Path.{refl, fun_ext}
use Rattle.std.proofs.Common.{◌∙◌, ap}
use Rattle.std.proofs.Math.Bool.{true, false, cond}
use native.Mathlib.Omega.{arith}
use Rattle.std.proofs.Math.ListN.{get_or, length-set}
use Rattle.std.proofs.Math.Seq.{get_or-set_same, get_or-set_other}
use Rattle.std.proofs.Math.Dec.{ltb, eqb}
use borrow.Author.Tests.{ltb-true, eqb-true, eqb-false}
use Rattle.meaning.specs.Order.{Marks}
use Rattle.meaning.proofs.Laws.Tests.{and_left, and_right}
use Rattle.search_meaning.specs.Search.{member}
use Rattle.starkinfo_codegen.specs.Ordering.{cell_of, marks_of}

-- ── definitions ──────────────────────────────────────────────────────────────
-- each is below m
abbrev pub AllBelow : ℕ → List ℕ → Type 0
AllBelow m es = (k : ℕ) → k < length es → get_or es k 0 < m

abbrev pub all_below : ℕ → List ℕ → Bool
all_below m [] = true
all_below m (e ∷ es) = ltb e m && all_below m es

-- both bytes of expression e
unfoldable pub mark_one : ℕ → List ℕ → List ℕ
mark_one e s = set (set s (2 * e) 1) (2 * e + 1) 1

-- THE MARKS' BYTES with those of the members set
unfoldable pub mark_all : List ℕ → List ℕ → List ℕ
mark_all [] s = s
mark_all (e ∷ es) s = mark_all es (mark_one e s)

-- marks with the members' at both rows
abbrev pub with_members : List ℕ → Marks → Marks
with_members es m = λ e r. m e r || (member e es && ltb r 2)

-- ── laws ─────────────────────────────────────────────────────────────────────
pub one_size : (e : ℕ) (s : List ℕ) → length (mark_one e s) ≡ length s
unfolding mark_one
one_size e s = length-set (set s (2 * e) 1) (2 * e + 1) 1 ∙ length-set s (2 * e) 1

pub all-size : (es s : List ℕ) → length (mark_all es s) ≡ length s
unfolding mark_all
all-size [] s = refl
all-size (e ∷ es) s = all-size es (mark_one e s) ∙ one_size e s

pub below-tail : (m e : ℕ) (es : List ℕ) → AllBelow m (e ∷ es) → AllBelow m es
below-tail m e es h k g = h (suc k) (omega arith)

-- a test that each is below
pub below_true : (m : ℕ) (es : List ℕ) → all_below m es ≡ true → AllBelow m es
below_true m [] h k g = absurd (omega arith)
below_true m (e ∷ es) h zero g = ltb-true e m (and_left (ltb e m) (all_below m es) h)
below_true m (e ∷ es) h (suc k) g = below_true m es (and_right (ltb e m) (all_below m es) h) k (omega arith)

-- one of them
module _ (i : ℕ) (s : List ℕ) (size : length s ≡ 1024) (low : i < 512) where
  one_at : (e r : ℕ) → r < 2 → get_or (mark_one i s) (cell_of e r) 0 ≡ cond (eqb e i) 1 (get_or s (cell_of e r) 0)
  unfolding mark_one
  one_at e r h = go (eqb e i) refl r h
    where
      go : (v : Bool) → eqb e i ≡ v → (r : ℕ) → r < 2 → get_or (set (set s (2 * i) 1) (2 * i + 1) 1) (2 * e + r) 0 ≡ cond v 1 (get_or s (2 * e + r) 0)
      go true q zero h =
          let z = eqb-true e i q in
          let c : 2 * e + 0 ≡ 2 * i = omega arith in
          rw c (get_or-set_other (set s (2 * i) 1) (2 * i + 1) (2 * i) 1 0 (λ f. omega arith) ∙ get_or-set_same s (2 * i) 1 0 (omega (arith, size)))
      go true q (suc r) h =
          let z = eqb-true e i q in
          let c : 2 * e + suc r ≡ 2 * i + 1 = omega arith in
          rw c (get_or-set_same (set s (2 * i) 1) (2 * i + 1) 1 0 (rw length-set (omega (arith, size))))
      go false q r h =
          let z = eqb-false e i q in
          get_or-set_other (set s (2 * i) 1) (2 * i + 1) (2 * e + r) 1 0 (λ f. z (omega arith))
          ∙ get_or-set_other s (2 * i) (2 * e + r) 1 0 (λ f. z (omega arith))

  one-marks : marks_of (mark_one i s) ≡ (λ e r. marks_of s e r || (eqb e i && ltb r 2))
  unfolding marks_of
  one-marks = fun_ext (λ e. fun_ext (λ r. go e r (ltb r 2) refl))
    where
      byte : (v : Bool) (g : ℕ) → ltb 0 (cond v 1 g) ≡ (ltb 0 g || (v && true))
      byte true g = by (ltb 0 g)
        where
          by : (b : Bool) → true ≡ (b || true)
          by true = refl
          by false = refl
      byte false g = by (ltb 0 g)
        where
          by : (b : Bool) → b ≡ (b || false)
          by true = refl
          by false = refl

      none : (v : Bool) → false ≡ (v && false)
      none true = refl
      none false = refl

      go : (e r : ℕ) (v : Bool) → ltb r 2 ≡ v → (ltb r 2 && ltb 0 (get_or (mark_one i s) (cell_of e r) 0)) ≡ ((ltb r 2 && ltb 0 (get_or s (cell_of e r) 0)) || (eqb e i && ltb r 2))
      go e r true q = rw (q, one_at e r (ltb-true r 2 q)) (byte (eqb e i) (get_or s (cell_of e r) 0))
      go e r false q = rw q (none (eqb e i))

-- THE MARKS' BYTES SAY the marks with the members'
pub all-marks : (es s : List ℕ) → length s ≡ 1024 → AllBelow 512 es → marks_of (mark_all es s) ≡ with_members es (marks_of s)
unfolding mark_all
all-marks [] s size h = fun_ext (λ e. fun_ext (λ r. none (marks_of s e r)))
  where
    none : (b : Bool) → b ≡ (b || false)
    none true = refl
    none false = refl
all-marks (i ∷ es) s size h =
    all-marks es (mark_one i s) (one_size i s ∙ size) (below-tail 512 i es h)
    ∙ ap (with_members es) (one-marks i s size (h 0 (omega arith)))
    ∙ fun_ext (λ e. fun_ext (λ r. join (marks_of s e r) (eqb e i) (member e es) (ltb r 2)))
  where
    join : (a b c d : Bool) → ((a || (b && d)) || (c && d)) ≡ (a || (cond b true c && d))
    join true b c d = refl
    join false true c true = refl
    join false true true false = refl
    join false true false false = refl
    join false false c d = refl
