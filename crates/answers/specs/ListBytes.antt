-- STEPS ARE THEIR BYTES: two lists of bytes that hold the same first steps, and the same after them, are the same bytes.
-- Assumes nothing.
use Prim.Native.Nat.{ℕ, zero, suc, ◌+◌, ◌*◌, ◌-◌, ◌/◌, ◌%◌, ◌<◌, ◌≤◌}
use Rattle.std.specs.Prelude.{◌≡◌, Bool, length, drop}
use Rattle.std.proofs.Math.Path.{refl, sym, ap}
use Rattle.std.proofs.Common.{◌∙◌}
use Rattle.std.proofs.Math.Bool.{true, false}
use mathlib.Core.List.{List}
use Rattle.std.proofs.Math.Nat.{add-zero}
use native.Mathlib.Omega.{arith}
use Rattle.std.proofs.Math.ListN.{get_or}
use Rattle.std.proofs.Math.Seq.{get_or-drop, ext_get_or}
use Rattle.std.proofs.Math.Dec.{ltb}
use borrow.Author.Tests.{ltb-true, ltb-false}
use Rattle.kinds.specs.Records.{Same}
use Rattle.kinds.specs.BigEndian.{u16_at}
use Rattle.kinds.specs.References.{ref_at}
use Rattle.kinds.specs.Steps.{step_size, step_at, steps_of, steps-at}
use Rattle.kinds.specs.declared.reference.Reference.{Reference}
use Rattle.kinds.specs.declared.step.Step.{Step}
use Rattle.frames.specs.Taking.{Bytes}
use Rattle.codegen.specs.Said.{Said}
use Rattle.codegen.specs.Written.{step_count, ListWith}

-- ── byte by byte ─────────────────────────────────────────────────────────────
module _ (l m : List ℕ) (bl : Bytes l) (bm : Bytes m) where
  same-one : (i j : ℕ) → get_or l i 0 ≡ get_or m j 0 → Same 1 l i m j
  unfolding Same
  same-one i j e zero h = simp add-zero e
  same-one i j e (suc k) h = absurd (omega arith)

  same-join : (a b i j : ℕ) → Same a l i m j → Same b l (i + a) m (j + a) → Same (a + b) l i m j
  unfolding Same
  same-join a b i j p q k h = by (ltb k a) refl
    where
      by : (t : Bool) → ltb k a ≡ t → get_or l (i + k) 0 ≡ get_or m (j + k) 0
      by true e = p k (ltb-true k a e)
      by false e =
          let g : a ≤ k = ltb-false k a e in
          let u : i + a + (k - a) ≡ i + k = omega arith in
          let v : j + a + (k - a) ≡ j + k = omega arith in
          rw (u, v) at (q (k - a) (omega arith))

  same-u16 : (i j : ℕ) → u16_at l i ≡ u16_at m j → Same 2 l i m j
  unfolding u16_at Bytes
  same-u16 i j e =
      let a = bl (i + 1) in
      let b = bm (j + 1) in
      let p : get_or l i 0 ≡ get_or m j 0 = omega (arith, e, a, b) in
      let q : get_or l (i + 1) 0 ≡ get_or m (j + 1) 0 = omega (arith, e, a, b) in
      same-join 1 1 i j (same-one i j p) (same-one (i + 1) (j + 1) q)

  same-ref : (i j : ℕ) → ref_at l i ≡ ref_at m j → Same 12 l i m j
  unfolding ref_at
  same-ref i j e =
      same-join 10 2 i j
      (same-join 8 2 i j
      (same-join 6 2 i j
      (same-join 4 2 i j
      (same-join 2 2 i j
      (same-join 1 1 i j (same-one i j (ap (λ (r : Reference). r.kind) e)) (same-one (i + 1) (j + 1) (ap (λ (r : Reference). r.prime) e)))
      (same-u16 (i + 2) (j + 2) (ap (λ (r : Reference). r.id) e)))
      (same-u16 (i + 4) (j + 4) (ap (λ (r : Reference). r.dim) e)))
      (same-u16 (i + 6) (j + 6) (ap (λ (r : Reference). r.p) e)))
      (same-u16 (i + 8) (j + 8) (ap (λ (r : Reference). r.tree_pos) e)))
      (same-u16 (i + 10) (j + 10) (ap (λ (r : Reference). r.extra) e))

  same_step : (i j : ℕ) → step_at l i ≡ step_at m j → Same step_size l i m j
  unfolding step_at
  same_step i j e =
      same-join 40 12 i j
      (same-join 28 12 i j
      (same-join 16 12 i j
      (same-join 4 12 i j
      (same-join 2 2 i j
      (same-join 1 1 i j (same-one i j (ap (λ (s : Step). s.op) e)) (same-one (i + 1) (j + 1) (ap (λ (s : Step). s.count) e)))
      (same-u16 (i + 2) (j + 2) (ap (λ (s : Step). s.origin) e)))
      (same-ref (i + 4) (j + 4) (ap (λ (s : Step). s.dest) e)))
      (same-ref (i + 16) (j + 16) (ap (λ (s : Step). s.s0) e)))
      (same-ref (i + 28) (j + 28) (ap (λ (s : Step). s.s1) e)))
      (same-ref (i + 40) (j + 40) (ap (λ (s : Step). s.s2) e))

  -- the first n steps, and what stands after them
  same-steps : (n : ℕ) → length l ≡ length m → steps_of l n ≡ steps_of m n → drop (step_size * n) l ≡ drop (step_size * n) m → l ≡ m
  unfolding Same
  same-steps n e f g = ext_get_or 0 l m e (λ i _. by i (ltb i (step_size * n)) refl)
    where
      by : (i : ℕ) (t : Bool) → ltb i (step_size * n) ≡ t → get_or l i 0 ≡ get_or m i 0
      by i true q =
          let low : i < step_size * n = ltb-true i (step_size * n) q in
          let k = i / step_size in
          let few : k < n = omega arith in
          let d = step_at l 0 in
          let at : step_at l (step_size * k) ≡ step_at m (step_size * k)
          = sym (steps-at l k n d few) ∙ ap (λ (s : List Step). get_or s k d) f ∙ steps-at m k n d few in
          let is : step_size * k + i % step_size ≡ i = omega arith in
          rw is at (same_step (step_size * k) (step_size * k) at (i % step_size) (omega arith))
      by i false q =
          let high : step_size * n ≤ i = ltb-false i (step_size * n) q in
          let is : step_size * n + (i - step_size * n) ≡ i = omega arith in
          rw is at (sym (get_or-drop (step_size * n) l (i - step_size * n) 0) ∙ ap (λ (x : List ℕ). get_or x (i - step_size * n) 0) g ∙ get_or-drop (step_size * n) m (i - step_size * n) 0)

-- ONE LIST: the bytes of a list after requests were served are fixed by what it says
pub one_list : {l l₁ l₂ : List ℕ} {st : Said} → ListWith l st l₁ → ListWith l st l₂ → Bytes l₁ → Bytes l₂ → l₁ ≡ l₂
one_list {l} {l₁} {l₂} {st} a b p q =
    same-steps l₁ l₂ p q (step_count st) (a.size ∙ sym b.size) (a.steps ∙ sym b.steps) (a.rest ∙ sym b.rest)
