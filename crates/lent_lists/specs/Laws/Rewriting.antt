-- Laws of rewriting: a reference by the tables, and a list record by record in place.
-- Assumes nothing.
use Rattle.std.specs.Prelude.{ℕ, zero, suc, ◌+◌, ◌*◌, ◌≤◌, ◌≡◌, Bool, true, false, List, [], ◌∷◌, ◌++◌, length, ltb}
use Rattle.std.proofs.Math.Path.{refl, sym, ap}
use Rattle.std.proofs.Common.{◌∙◌, inr, zero-add, add-one, arith}
use Rattle.std.proofs.Math.ListN.{get_or}
use Rattle.kinds.specs.declared.reference.Reference.{Reference}
use Rattle.kinds.specs.Write.{write, write-none, write-length, write_then, write-next}
use Rattle.kinds.specs.BigEndian.{u16_at, u16_bytes}
use Rattle.kinds.specs.References.{ref_at, ref_bytes, ref-sized, ref-kept}
use Rattle.kinds.specs.Steps.{step_size, step_at, head_bytes, step_bytes, steps_of, steps_bytes, step_kept, steps-none, steps-more, steps-length, steps-bytes-none, steps-bytes-one, steps-bytes-length, steps-bytes-append}
use Rattle.kinds.specs.declared.step.Step.{Step}
use Rattle.lists.specs.Records.{record_count}
use Rattle.lists.specs.Parts.{Bytes, ref-there, head-there}
use Rattle.lent_lists.specs.Records.{used_by, record_by, mapped, rewritten}

pub past_the_end : (l : List ℕ) (i : ℕ) → length l ≤ i → 0 ≡ get_or l i 0
past_the_end [] i h = refl
past_the_end (x ∷ l) zero h = absurd (omega arith)
past_the_end (x ∷ l) (suc i) h = past_the_end l i (omega arith)

pub mapped-append : (f : Step → Step) (xs ys : List Step) → mapped f (xs ++ ys) ≡ mapped f xs ++ mapped f ys
unfolding mapped
mapped-append f [] ys = refl
mapped-append f (x ∷ xs) ys = ap (λ l. f x ∷ l) (mapped-append f xs ys)

pub mapped-length : (f : Step → Step) (xs : List Step) → length (mapped f xs) ≡ length xs
unfolding mapped
mapped-length f [] = refl
mapped-length f (x ∷ xs) = ap suc (mapped-length f xs)

-- the bytes of the first k records, rewritten
abbrev pub front : (Step → Step) → List ℕ → ℕ → List ℕ
front f l k = steps_bytes (mapped f (steps_of l k))

front_length : (f : Step → Step) (l : List ℕ) (k : ℕ) → length (front f l k) ≡ step_size * k
front_length f l k = steps-bytes-length (mapped f (steps_of l k)) ∙ ap (λ n. step_size * n) (mapped-length f (steps_of l k) ∙ steps-length l k)

front-more : (f : Step → Step) (l : List ℕ) (k : ℕ) → front f l (suc k) ≡ front f l k ++ step_bytes (f (step_at l (step_size * k)))
unfolding mapped
front-more f l k =
    rw (steps-more l k, mapped-append f (steps_of l k), steps-bytes-append (mapped f (steps_of l k)))
    (ap (λ z. front f l k ++ z) (steps-bytes-one (f (step_at l (step_size * k)))))

pub rewrite-begin : (f : Step → Step) (l : List ℕ) → l ≡ write l 0 (front f l 0)
unfolding mapped
rewrite-begin f l = rw (steps-none l, steps-bytes-none, write-none l 0)

pub rewrite-room : (l l₁ ws : List ℕ) (n : ℕ) → l₁ ≡ write l 0 ws → n ≤ length l → n ≤ length l₁
rewrite-room l l₁ ws n e h = rw (e, write-length l 0 ws) h

pub rewrite-length : (l l₁ ws : List ℕ) → l₁ ≡ write l 0 ws → length l₁ ≡ length l
rewrite-length l l₁ ws e = rw e (write-length l 0 ws)

-- one record more
pub rewrite-next :
    (f : Step → Step) (l : List ℕ) (k : ℕ) (l₁ l₂ : List ℕ) → l₁ ≡ write l 0 (front f l k) → (x y : Step) → x ≡ step_at l₁ (step_size * k) → y ≡ f x →
    l₂ ≡ write l₁ (step_size * k) (step_bytes y) → l₂ ≡ write l 0 (front f l (k + 1))
rewrite-next f l k l₁ l₂ e x y ex ey ew =
    let n : length (front f l k) ≡ step_size * k = front_length f l k in
    let r : step_at l₁ (step_size * k) ≡ step_at l (step_size * k) = rw e (step_kept l 0 (front f l k) (step_size * k) (inr (omega arith))) in
    let w : write (write l 0 (front f l k)) (step_size * k) (step_bytes (f (step_at l (step_size * k)))) ≡ write l 0 (front f l k ++ step_bytes (f (step_at l (step_size * k))))
    = write_then l 0 (front f l k) (step_size * k) (step_bytes (f (step_at l (step_size * k)))) (zero-add _ ∙ n) in
    ew ∙ rw (ey, ex, r, e, add-one k, front-more f l k) w

pub rewrite-end : (f : Step → Step) (l : List ℕ) (k : ℕ) (l₁ : List ℕ) → l₁ ≡ write l 0 (front f l k) → k ≤ record_count l → record_count l ≤ k → l₁ ≡ rewritten f l
unfolding rewritten
rewrite-end f l k l₁ e a b =
    let n : record_count l ≡ k = omega arith in
    rw n e

-- ---- a record, whatever its references become

module _ (f : Reference → Reference) where
  pub used-fixed : (u : Bool) (r x : Reference) → u ≡ true → x ≡ f r → x ≡ used_by f u r
  unfolding used_by
  used-fixed u r x h e = rw h e

  pub unused-fixed : (u : Bool) (r : Reference) → u ≡ false → r ≡ used_by f u r
  unfolding used_by
  unused-fixed u r h = rw h

  pub record-fixed :
      (x : Step) (d a b c : Reference) → d ≡ f x.dest → a ≡ used_by f (ltb 0 x.count) x.s0 → b ≡ used_by f (ltb 1 x.count) x.s1 →
      c ≡ used_by f (ltb 2 x.count) x.s2 → record { op = x.op; count = x.count; origin = x.origin; dest = d; s0 = a; s1 = b; s2 = c } ≡ record_by f x
  unfolding record_by
  record-fixed x d a b c ed ea eb ec = rw (ed, ea, eb, ec)

-- ---- a record in place, part by part

-- a reference after one that was put before it
after : (l l₁ : List ℕ) (i : ℕ) (r : Reference) (j : ℕ) → l₁ ≡ write l i (ref_bytes r) → i + 12 ≤ j → ref_at l₁ j ≡ ref_at l j
after l l₁ i r j e h = ap (λ (m : List ℕ). ref_at m j) e ∙ ref-kept l i (ref_bytes r) j (inr (omega (arith, ref-sized r)))

module _ (f : Reference → Reference) where
  pub made-put : (l l₁ : List ℕ) (i : ℕ) (r x : Reference) → r ≡ ref_at l i → x ≡ f r → l₁ ≡ write l i (ref_bytes x) → l₁ ≡ write l i (ref_bytes (f (ref_at l i)))
  made-put l l₁ i r x er ex e = e ∙ ap (λ y. write l i (ref_bytes y)) (ex ∙ ap f er)

  pub kept_put : (l : List ℕ) (i : ℕ) → Bytes l → ref_at l i ≡ f (ref_at l i) → l ≡ write l i (ref_bytes (f (ref_at l i)))
  kept_put l i b e = sym (ref-there l i b) ∙ ap (λ y. write l i (ref_bytes y)) e

  pub used-put : (u : Bool) (l l₁ : List ℕ) (i : ℕ) → u ≡ true → l₁ ≡ write l i (ref_bytes (f (ref_at l i))) → l₁ ≡ write l i (ref_bytes (used_by f u (ref_at l i)))
  unfolding used_by
  used-put u l l₁ i h e = rw h e

  pub unused-put : (u : Bool) (l : List ℕ) (i : ℕ) → u ≡ false → Bytes l → l ≡ write l i (ref_bytes (used_by f u (ref_at l i)))
  unfolding used_by
  unused-put u l i h b = rw h (sym (ref-there l i b))

  abbrev uses : ℕ → List ℕ → ℕ → ℕ → Reference
  uses c l k i = used_by f (ltb k c) (ref_at l i)

  pub record-put :
      (l : List ℕ) (at : ℕ) (l₁ l₂ l₃ l₄ : List ℕ) → Bytes l → l₁ ≡ write l (at + 4) (ref_bytes (f (ref_at l (at + 4))))
      → l₂ ≡ write l₁ (at + 16) (ref_bytes (uses (get_or l (at + 1) 0) l₁ 0 (at + 16)))
      → l₃ ≡ write l₂ (at + 28) (ref_bytes (uses (get_or l (at + 1) 0) l₂ 1 (at + 28)))
      → l₄ ≡ write l₃ (at + 40) (ref_bytes (uses (get_or l (at + 1) 0) l₃ 2 (at + 40)))
      → l₄ ≡ write l at (step_bytes (record_by f (step_at l at)))
  unfolding record_by step_at step_bytes head_bytes u16_bytes ref_bytes
  record-put l at l₁ l₂ l₃ l₄ b e₁ e₂ e₃ e₄ =
      let c = get_or l (at + 1) 0 in
      let d = f (ref_at l (at + 4)) in
      let r₂ : ref_at l₁ (at + 16) ≡ ref_at l (at + 16) = after l l₁ (at + 4) d (at + 16) e₁ (omega arith) in
      let x = uses c l 0 (at + 16) in
      let f₂ : l₂ ≡ write l₁ (at + 16) (ref_bytes x) = e₂ ∙ ap (λ r. write l₁ (at + 16) (ref_bytes (used_by f (ltb 0 c) r))) r₂ in
      let r₃ : ref_at l₂ (at + 28) ≡ ref_at l (at + 28) = after l₁ l₂ (at + 16) x (at + 28) f₂ (omega arith) ∙ after l l₁ (at + 4) d (at + 28) e₁ (omega arith) in
      let y = uses c l 1 (at + 28) in
      let f₃ : l₃ ≡ write l₂ (at + 28) (ref_bytes y) = e₃ ∙ ap (λ r. write l₂ (at + 28) (ref_bytes (used_by f (ltb 1 c) r))) r₃ in
      let r₄ : ref_at l₃ (at + 40) ≡ ref_at l (at + 40)
      = after l₂ l₃ (at + 28) y (at + 40) f₃ (omega arith) ∙ after l₁ l₂ (at + 16) x (at + 40) f₂ (omega arith) ∙ after l l₁ (at + 4) d (at + 40) e₁ (omega arith) in
      let z = uses c l 2 (at + 40) in
      let f₄ : l₄ ≡ write l₃ (at + 40) (ref_bytes z) = e₄ ∙ ap (λ r. write l₃ (at + 40) (ref_bytes (used_by f (ltb 2 c) r))) r₄ in
      let h = head_bytes (get_or l at 0) c (u16_at l (at + 2)) in
      let g₀ : l ≡ write l at h = sym (head-there l at b) in
      let g₁ : l₁ ≡ write l at (h ++ ref_bytes d) = write-next l at h (ref_bytes d) (at + 4) g₀ e₁ refl in
      let g₂ : l₂ ≡ write l at ((h ++ ref_bytes d) ++ ref_bytes x) = write-next l at (h ++ ref_bytes d) (ref_bytes x) (at + 16) g₁ f₂ refl in
      let g₃ : l₃ ≡ write l at (((h ++ ref_bytes d) ++ ref_bytes x) ++ ref_bytes y) = write-next l at ((h ++ ref_bytes d) ++ ref_bytes x) (ref_bytes y) (at + 28) g₂ f₃ refl in
      write-next l at (((h ++ ref_bytes d) ++ ref_bytes x) ++ ref_bytes y) (ref_bytes z) (at + 40) g₃ f₄ refl
