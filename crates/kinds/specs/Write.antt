-- A list of numbers with others written over it from an index on, and the laws of such writes.
-- Assumes nothing.
use Rattle.std.specs.Prelude.{◌≡◌, refl, List, [], ◌∷◌, ◌++◌, ℕ, suc, ◌+◌, ◌≤◌, ◌<◌, length, get_or, set, take, drop}
use Rattle.std.proofs.Common.{sym, ◌∙◌, arith, add-zero, add-suc, suc-add, length-take, length-append, get_or-append-add, get_or-set_other}
use Rattle.std.proofs.Math.ListN.{get_or-append}
use Rattle.std.proofs.lemmas.List.Edits.{sets, sets-eq}
use Rattle.std.proofs.Math.Seq.{length-sets}

-- l with ws from index i on; what would stand past the end of l is left out
unfoldable pub write : List ℕ → ℕ → List ℕ → List ℕ
write l i ws = sets l i ws

-- where there is room for all of ws: what stands before i, ws, and what stands after
pub write-is : (l : List ℕ) (i : ℕ) (ws : List ℕ) → i + length ws ≤ length l → write l i ws ≡ take i l ++ ws ++ drop (i + length ws) l
unfolding write
write-is l i ws h = sets-eq ws l i h

pub write-none : (l : List ℕ) (i : ℕ) → write l i [] ≡ l
unfolding write
write-none l i = refl

pub write-length : (l : List ℕ) (i : ℕ) (ws : List ℕ) → length (write l i ws) ≡ length l
unfolding write
write-length l i ws = length-sets l i ws

-- two runs, one after the other, are one run
pub write-append : (l : List ℕ) (i : ℕ) (xs ys : List ℕ) → write l i (xs ++ ys) ≡ write (write l i xs) (i + length xs) ys
unfolding write
write-append l i [] ys = simp add-zero
write-append l i (x ∷ xs) ys = write-append (set l i x) (suc i) xs ys ∙ simp (suc-add, add-suc)

pub write_then : (l : List ℕ) (i : ℕ) (xs : List ℕ) (j : ℕ) (ys : List ℕ) → i + length xs ≡ j → write (write l i xs) j ys ≡ write l i (xs ++ ys)
write_then l i xs j ys e = rw (← e) (sym (write-append l i xs ys))

-- the same where each list is known by its equation: the writes of a run of calls are taken one after the other
pub write-next : {l₁ l₂ : List ℕ} (l : List ℕ) (i : ℕ) (xs ys : List ℕ) (j : ℕ) → l₁ ≡ write l i xs → l₂ ≡ write l₁ j ys → i + length xs ≡ j → l₂ ≡ write l i (xs ++ ys)
write-next l i xs ys j e f g = f ∙ (rw e (write_then l i xs j ys g))

-- two stores
pub write_two : (l : List ℕ) (i a b : ℕ) → set (set l i a) (i + 1) b ≡ write l i (a ∷ b ∷ [])
unfolding write
write_two l i a b =
    let e : i + 1 ≡ suc i = omega arith in
    rw e

-- what stands in a list after a write: at the places written
pub write-there : (l : List ℕ) (i : ℕ) (ws : List ℕ) (k : ℕ) → i + length ws ≤ length l → k < length ws → get_or (write l i ws) (i + k) 0 ≡ get_or ws k 0
write-there l i ws k h g =
    let e : length (take i l) ≡ i = simp length-take (omega arith) in
    let f : i + k < length (take i l ++ ws) = simp length-append (omega arith) in
    rw (write-is l i ws h, get_or-append (take i l ++ ws) (drop (i + length ws) l) 0 (i + k) f)
    (rw e at (get_or-append-add (take i l) ws k 0))

-- and at any other
pub write-before : (l : List ℕ) (i : ℕ) (ws : List ℕ) (j : ℕ) → j < i → get_or (write l i ws) j 0 ≡ get_or l j 0
unfolding write
write-before l i [] j h = refl
write-before l i (w ∷ ws) j h = write-before (set l i w) (suc i) ws j (omega arith) ∙ get_or-set_other l i j w 0 (λ e. omega arith)

pub write-after : (l : List ℕ) (i : ℕ) (ws : List ℕ) (j : ℕ) → i + length ws ≤ j → get_or (write l i ws) j 0 ≡ get_or l j 0
unfolding write
write-after l i [] j h = refl
write-after l i (w ∷ ws) j h = write-after (set l i w) (suc i) ws j (omega arith) ∙ get_or-set_other l i j w 0 (λ e. omega arith)
