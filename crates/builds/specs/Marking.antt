-- The marks that a build leaves, byte for byte: every expression with neither keep nor id_q is marked at both rows. What they say is what `after_build` says.
-- Assumes nothing.
use Prim.Native.Nat.{ℕ, zero, suc, ◌+◌, ◌*◌, ◌<◌, ◌≤◌}
use Rattle.std.specs.Prelude.{◌≡◌, Bool, ◌&&◌, ◌||◌, length, get_or, set, ltb, eqb}
use Rattle.std.proofs.Math.Path.{refl, fun_ext}
use Rattle.std.proofs.Common.{◌∙◌, arith, length-set, get_or-set_same, get_or-set_other, lt-ltb, le-ltb, ltb-true, ltb-false, eqb-true}
use Rattle.std.proofs.Math.Bool.{true, false, cond}
use mathlib.Core.List.{List}
use Rattle.std.proofs.lemmas.Bool.{eqb-false}
use Rattle.frames.specs.Tables.{expression_in}
use Rattle.starkinfo_codegen.specs.Ordering.{cell_of, marks_of}
use Rattle.builds.specs.Raw.{released_by, released_in}

-- ── definitions ──────────────────────────────────────────────────────────────
-- expression e of table x, in marks s
unfoldable pub release_one : List ℕ → ℕ → List ℕ → List ℕ
release_one x e s = cond (released_by (expression_in x e).flags) (set (set s (2 * e) 1) (2 * e + 1) 1) s

-- THE MARKS' BYTES AFTER A BUILD, for a table of m expressions
unfoldable pub release : List ℕ → ℕ → List ℕ → List ℕ
release x zero s = s
release x (suc m) s = release_one x m (release x m s)

-- ── laws ─────────────────────────────────────────────────────────────────────
pub one-length : (x : List ℕ) (e : ℕ) (s : List ℕ) → length (release_one x e s) ≡ length s
unfolding release_one
one-length x e s = go (released_by (expression_in x e).flags)
  where
    go : (v : Bool) → length (cond v (set (set s (2 * e) 1) (2 * e + 1) 1) s) ≡ length s
    go true = length-set (set s (2 * e) 1) (2 * e + 1) 1 ∙ length-set s (2 * e) 1
    go false = refl

pub release_length : (x : List ℕ) (m : ℕ) (s : List ℕ) → length (release x m s) ≡ length s
unfolding release
release_length x zero s = refl
release_length x (suc m) s = one-length x m (release x m s) ∙ release_length x m s

-- both bytes of expression m, and those of another
two-same : (s : List ℕ) (m r : ℕ) → r < 2 → 2 * m + 1 < length s → get_or (set (set s (2 * m) 1) (2 * m + 1) 1) (2 * m + r) 0 ≡ 1
two-same s m r h g = go (eqb r 0) refl
  where
    go : (v : Bool) → eqb r 0 ≡ v → get_or (set (set s (2 * m) 1) (2 * m + 1) 1) (2 * m + r) 0 ≡ 1
    go true q =
        let z = eqb-true r 0 q in
        let e : 2 * m + r ≡ 2 * m = omega arith in
        rw e (get_or-set_other (set s (2 * m) 1) (2 * m + 1) (2 * m) 1 0 (λ f. omega arith) ∙ get_or-set_same s (2 * m) 1 0 (omega arith))
    go false q =
        let z = eqb-false r 0 q in
        let e : 2 * m + r ≡ 2 * m + 1 = omega (arith, go2 r h z) in
        rw e (get_or-set_same (set s (2 * m) 1) (2 * m + 1) 1 0 (rw length-set g))
      where
        go2 : (r : ℕ) → r < 2 → (r ≡ 0 → ⊥) → r ≡ 1
        go2 zero h z = absurd (z refl)
        go2 (suc r) h z = omega arith

two-other : (s : List ℕ) (m e r : ℕ) → r < 2 → (e ≡ m → ⊥) → get_or (set (set s (2 * m) 1) (2 * m + 1) 1) (2 * e + r) 0 ≡ get_or s (2 * e + r) 0
two-other s m e r h n =
    get_or-set_other (set s (2 * m) 1) (2 * m + 1) (2 * e + r) 1 0 (λ q. n (omega arith))
    ∙ get_or-set_other s (2 * m) (2 * e + r) 1 0 (λ q. n (omega arith))

ltb-more : (e m : ℕ) → (e ≡ m → ⊥) → ltb e (suc m) ≡ ltb e m
ltb-more e m n = go (ltb e m) refl
  where
    go : (v : Bool) → ltb e m ≡ v → ltb e (suc m) ≡ v
    go true q = let z = ltb-true e m q in lt-ltb e (suc m) (omega arith)
    go false q =
        let z = ltb-false e m q in
        le-ltb e (suc m) (above z)
      where
        above : m ≤ e → suc m ≤ e
        above z = by (ltb m e) refl
          where
            by : (v : Bool) → ltb m e ≡ v → suc m ≤ e
            by true p = ltb-true m e p
            by false p = let y = ltb-false m e p in absurd (n (omega arith))

module _ (x s : List ℕ) (size : length s ≡ 1024) where
  pub release-at : (m e r : ℕ) → m ≤ 512 → r < 2 → get_or (release x m s) (2 * e + r) 0 ≡ cond (released_in x m e) 1 (get_or s (2 * e + r) 0)
  unfolding release release_one
  release-at zero e r k h = rw (le-ltb e 0 (omega arith))
  release-at (suc m) e r k h = go (eqb e m) refl (release-at m e r (omega arith) h)
    where
      S : List ℕ
      S = release x m s

      go :
          (v : Bool) → eqb e m ≡ v → get_or S (2 * e + r) 0 ≡ cond (released_in x m e) 1 (get_or s (2 * e + r) 0) →
          get_or (release_one x m S) (2 * e + r) 0 ≡ cond (released_in x (suc m) e) 1 (get_or s (2 * e + r) 0)
      go true q ih =
          let z = eqb-true e m q in
          rw z (by (released_by (expression_in x m).flags) (rw (z, le-ltb m m (omega arith)) at ih))
        where
          by :
              (v : Bool) → get_or S (2 * m + r) 0 ≡ get_or s (2 * m + r) 0 →
              get_or (cond v (set (set S (2 * m) 1) (2 * m + 1) 1) S) (2 * m + r) 0 ≡ cond (ltb m (suc m) && v) 1 (get_or s (2 * m + r) 0)
          by true g = rw (lt-ltb m (suc m) (omega arith)) (two-same S m r h (omega (arith, release_length x m s)))
          by false g = rw (lt-ltb m (suc m) (omega arith)) g
      go false q ih =
          let z = eqb-false e m q in
          rw (ltb-more e m z) (by (released_by (expression_in x m).flags))
        where
          by : (v : Bool) → get_or (cond v (set (set S (2 * m) 1) (2 * m + 1) 1) S) (2 * e + r) 0 ≡ cond (released_in x m e) 1 (get_or s (2 * e + r) 0)
          by true = two-other S m e r h (eqb-false e m q) ∙ ih
          by false = ih

  -- THE MARKS AFTER A BUILD, as `after_build` gives them
  pub release-marks : (m : ℕ) → m ≤ 512 → marks_of (release x m s) ≡ (λ e r. marks_of s e r || (released_in x m e && ltb r 2))
  unfolding marks_of
  release-marks m k = fun_ext (λ e. fun_ext (λ r. go e r (ltb r 2) refl))
    where
      mark : (v u : Bool) → cond v true u ≡ (u || v)
      mark true true = refl
      mark true false = refl
      mark false true = refl
      mark false false = refl

      byte : (v : Bool) (g : ℕ) → ltb 0 (cond v 1 g) ≡ (ltb 0 g || v)
      byte true g = mark true (ltb 0 g)
      byte false g = mark false (ltb 0 g)

      none : (v : Bool) → false ≡ (v && false)
      none true = refl
      none false = refl

      whole : (v : Bool) → v ≡ (v && true)
      whole true = refl
      whole false = refl

      go :
          (e r : ℕ) (v : Bool) → ltb r 2 ≡ v →
          (ltb r 2 && ltb 0 (get_or (release x m s) (cell_of e r) 0)) ≡ ((ltb r 2 && ltb 0 (get_or s (cell_of e r) 0)) || (released_in x m e && ltb r 2))
      go e r true q = rw (q, release-at m e r k (ltb-true r 2 q), ← whole (released_in x m e)) (byte (released_in x m e) (get_or s (2 * e + r) 0))
      go e r false q = rw q (none (released_in x m e))
