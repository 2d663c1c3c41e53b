-- WRITING A PART OF A RECORD is writing the record: the rest of its bytes stand there already.
-- Assumes nothing.
use Rattle.std.specs.Prelude.{ℕ, suc, ◌+◌, ◌*◌, ◌/◌, ◌%◌, ◌≤◌, ◌<◌, ◌≡◌, refl, List, [], ◌∷◌, ◌++◌, ◌⊎◌, length, get_or, set}
use Rattle.std.proofs.Common.{sym, ◌∙◌, ap, inl, inr, arith, set-set}
use Rattle.std.proofs.lemmas.List.Edits.{sets}
use Rattle.std.proofs.lemmas.List.{set-get_or, set_comm}
use Rattle.kinds.specs.Write.{write, write-append, write_two}
use Rattle.kinds.specs.Records.{Apart}
use Rattle.kinds.specs.BigEndian.{u16_at, u16_bytes, u16-sized}
use Rattle.kinds.specs.References.{ref_at, ref_bytes, ref-sized}
use Rattle.kinds.specs.Steps.{step_at, head_bytes, step_bytes}
use Rattle.kinds.specs.declared.reference.Reference.{Reference}

-- every number is a byte
abbrev pub Bytes : List ℕ → Type 0
Bytes l = (i : ℕ) → get_or l i 0 < 256

-- ---- two writes

set_past : (l : List ℕ) (i : ℕ) (xs : List ℕ) (j b : ℕ) → (j < i) ⊎ (i + length xs ≤ j) → set (sets l i xs) j b ≡ sets (set l j b) i xs
set_past l i [] j b h = refl
set_past l i (x ∷ xs) j b (inl h) = set_past (set l i x) (suc i) xs j b (inl (omega arith)) ∙ ap (λ (m : List ℕ). sets m (suc i) xs) (set_comm l i j x b (λ e. omega arith))
set_past l i (x ∷ xs) j b (inr h) = set_past (set l i x) (suc i) xs j b (inr (omega arith)) ∙ ap (λ (m : List ℕ). sets m (suc i) xs) (set_comm l i j x b (λ e. omega arith))

-- apart, in either order
pub write-apart : (l : List ℕ) (i : ℕ) (xs : List ℕ) (j : ℕ) (ys : List ℕ) → Apart i (length xs) j (length ys) → write (write l i xs) j ys ≡ write (write l j ys) i xs
unfolding write
write-apart l i xs j [] h = refl
write-apart l i xs j (y ∷ ys) (inl h) = ap (λ (m : List ℕ). sets m (suc j) ys) (set_past l i xs j y (inl (omega arith))) ∙ write-apart (set l j y) i xs (suc j) ys (inl (omega arith))
write-apart l i xs j (y ∷ ys) (inr h) = ap (λ (m : List ℕ). sets m (suc j) ys) (set_past l i xs j y (inr (omega arith))) ∙ write-apart (set l j y) i xs (suc j) ys (inr (omega arith))

-- one over the other
pub write-over : (l : List ℕ) (i : ℕ) (vs ws : List ℕ) → length vs ≡ length ws → write (write l i vs) i ws ≡ write l i ws
unfolding write
write-over l i [] ws e = refl
write-over l i (v ∷ vs) [] e = absurd (omega arith)
write-over l i (v ∷ vs) (w ∷ ws) e =
    ap (λ (m : List ℕ). sets m (suc i) ws) (set_past (set l i v) (suc i) vs i w (inl (omega arith)) ∙ ap (λ (m : List ℕ). sets m (suc i) vs) (set-set l i v w))
    ∙ write-over (set l i w) (suc i) vs ws (omega arith)

-- a part of what stands there
pub replace : (l : List ℕ) (i : ℕ) (xs vs ws ys : List ℕ) → write l i (xs ++ (vs ++ ys)) ≡ l → length vs ≡ length ws → write l (i + length xs) ws ≡ write l i (xs ++ (ws ++ ys))
replace l i xs vs ws ys e n =
    let a = write l i xs in
    let j = i + length xs in
    let parts : (us : List ℕ) → write l i (xs ++ (us ++ ys)) ≡ write (write a j us) (j + length us) ys = λ us. write-append l i xs (us ++ ys) ∙ write-append a j us ys in
    ap (λ (m : List ℕ). write m j ws) (sym e ∙ parts vs)
    ∙ write-apart (write a j vs) (j + length vs) ys j ws (inl (omega arith))
    ∙ ap (λ (m : List ℕ). write m (j + length vs) ys) (write-over a j vs ws n)
    ∙ ap (λ k. write (write a j ws) (j + k) ys) n
    ∙ sym (parts ws)

-- ---- what stands there

there-then : (l : List ℕ) (i : ℕ) (xs : List ℕ) (j : ℕ) (ys : List ℕ) → write l i xs ≡ l → i + length xs ≡ j → write l j ys ≡ l → write l i (xs ++ ys) ≡ l
there-then l i xs j ys e n f = write-append l i xs ys ∙ rw (e, n) f

there-two : (l : List ℕ) (i : ℕ) → write l i (get_or l i 0 ∷ get_or l (i + 1) 0 ∷ []) ≡ l
there-two l i = sym (write_two l i (get_or l i 0) (get_or l (i + 1) 0)) ∙ rw (set-get_or l i 0, set-get_or l (i + 1) 0)

there-u16 : (l : List ℕ) (i : ℕ) → Bytes l → write l i (u16_bytes (u16_at l i)) ≡ l
unfolding u16_at u16_bytes
there-u16 l i b =
    let a : (get_or l i 0 * 256 + get_or l (i + 1) 0) / 256 ≡ get_or l i 0 = omega (arith, b (i + 1)) in
    let c : (get_or l i 0 * 256 + get_or l (i + 1) 0) % 256 ≡ get_or l (i + 1) 0 = omega (arith, b (i + 1)) in
    rw (a, c) (there-two l i)

pub ref-there : (l : List ℕ) (i : ℕ) → Bytes l → write l i (ref_bytes (ref_at l i)) ≡ l
unfolding ref_at ref_bytes u16_bytes
ref-there l i b =
    let n : (x : ℕ) → length (u16_bytes x) ≡ 2 = u16-sized in
    there-then l i _ (i + 2) _ (there-two l i) refl
    (there-then l (i + 2) _ (i + 4) _ (there-u16 l (i + 2) b) (omega (arith, n (u16_at l (i + 2))))
    (there-then l (i + 4) _ (i + 6) _ (there-u16 l (i + 4) b) (omega (arith, n (u16_at l (i + 4))))
    (there-then l (i + 6) _ (i + 8) _ (there-u16 l (i + 6) b) (omega (arith, n (u16_at l (i + 6))))
    (there-then l (i + 8) _ (i + 10) _ (there-u16 l (i + 8) b) (omega (arith, n (u16_at l (i + 8))))
    (there-u16 l (i + 10) b)))))

pub head-there : (l : List ℕ) (i : ℕ) → Bytes l → write l i (head_bytes (get_or l i 0) (get_or l (i + 1) 0) (u16_at l (i + 2))) ≡ l
unfolding head_bytes
head-there l i b = there-then l i _ (i + 2) _ (there-two l i) refl (there-u16 l (i + 2) b)

pub head-sized : (o c n : ℕ) → length (head_bytes o c n) ≡ 4
unfolding head_bytes u16_bytes
head-sized o c n = refl

pub step-there : (l : List ℕ) (i : ℕ) → Bytes l → write l i (step_bytes (step_at l i)) ≡ l
unfolding step_at step_bytes head_bytes ref_bytes u16_bytes ref_at
step-there l i b =
    there-then l i _ (i + 4) _ (head-there l i b) (omega (arith, head-sized (get_or l i 0) (get_or l (i + 1) 0) (u16_at l (i + 2))))
    (there-then l (i + 4) _ (i + 16) _ (ref-there l (i + 4) b) (omega (arith, ref-sized (ref_at l (i + 4))))
    (there-then l (i + 16) _ (i + 28) _ (ref-there l (i + 16) b) (omega (arith, ref-sized (ref_at l (i + 16))))
    (there-then l (i + 28) _ (i + 40) _ (ref-there l (i + 28) b) (omega (arith, ref-sized (ref_at l (i + 28))))
    (ref-there l (i + 40) b))))

-- ---- a part of a reference

-- the bytes up to a place, and those from one on
module _ (r : Reference) where
  abbrev up_to_id : List ℕ
  up_to_id = (r.kind ∷ r.prime ∷ []) ++ u16_bytes r.id

  abbrev from_tree : List ℕ
  from_tree = u16_bytes r.tree_pos ++ u16_bytes r.extra

-- its p
pub put-p :
    (l : List ℕ) (i p : ℕ) → Bytes l → (r : Reference) → r ≡ ref_at l i →
    write l (i + 6) (u16_bytes p) ≡ write l i (ref_bytes (record { kind = r.kind; prime = r.prime; id = r.id; dim = r.dim; p = p; tree_pos = r.tree_pos; extra = r.extra }))
unfolding ref_bytes u16_bytes
put-p l i p b r e =
    let there : write l i (ref_bytes r) ≡ l = rw e (ref-there l i b) in
    replace l i (up_to_id r ++ u16_bytes r.dim) (u16_bytes r.p) (u16_bytes p) (from_tree r) there refl
