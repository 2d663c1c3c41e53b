-- Lists written one number after the other, in a loop: marks read and written, zeros.
-- Assumes nothing.
use Prim.Native.Nat.{ℕ, ◌+◌, ◌≤◌, ◌<◌}
use mathlib.Core.Bool.{true, false}
use mathlib.Core.Path.{◌≡◌, refl, sym, ◌∙◌, ap}
use mathlib.Core.List.{List, [], ◌∷◌, ◌++◌, append-nil}
use native.Mathlib.Omega.{arith}
use native.Mathlib.Numerals.{add-one}
use lib.ListN.{length, get_or, set, take, drop, replicate, length-take, length-drop, drop_of_length-le}
use lib.Seq.{take-suc, take_all, get_or-drop}
use lib.Dec.{eqb}
use borrow.Author.Tests.{eq-eqb, ne_eqb}
use Rattle.kinds.specs.Write.{write, write-is, write-none, write_then}
use Rattle.context.specs.Context.{rows_at, marks_at, cells, context_size}
use Rattle.context.specs.Tables.{marks_in, with_marks, fresh_bytes, Freshened}

-- a store at the end of what is written
pub write-more : (l : List ℕ) (i : ℕ) (ws : List ℕ) (j v : ℕ) → i + length ws ≡ j → set (write l i ws) j v ≡ write l i (ws ++ (v ∷ []))
unfolding write
write-more l i ws j v e = write_then l i ws j (v ∷ []) e

-- what is written over the whole
pub write-over : (l ws : List ℕ) → length l ≡ length ws → write l 0 ws ≡ ws
write-over l ws e =
    let f : drop (0 + length ws) l ≡ [] = drop_of_length-le l {i = 0 + length ws} (omega arith) in
    write-is l 0 ws (omega arith) ∙ rw f (append-nil ws)

pub nothing_written : (l : List ℕ) (i : ℕ) → l ≡ write l i []
nothing_written l i = sym (write-none l i)

-- one more of src is written from i on
copy_more : (l l' : List ℕ) (i : ℕ) (src : List ℕ) (k j v : ℕ) → l' ≡ write l i (take k src) → k < length src → i + k ≡ j → get_or src k 0 ≡ v → set l' j v ≡ write l i (take (k + 1) src)
copy_more l l' i src k j v e h p q =
    let f : length (take k src) ≡ k = simp length-take (omega arith) in
    let g : i + length (take k src) ≡ j = rw f p in
    rw (e, add-one, take-suc src k 0 h, q) (write-more l i (take k src) j v g)

-- ── marks read ───────────────────────────────────────────────────────────────
pub mark-read : (x l l' : List ℕ) (k : ℕ) → length x ≡ context_size → k < cells → l' ≡ write l 0 (take k (drop marks_at x)) → set l' k (get_or x (marks_at + k) 0) ≡ write l 0 (take (k + 1) (drop marks_at x))
mark-read x l l' k s h e =
    copy_more l l' 0 (drop marks_at x) k k (get_or x (marks_at + k) 0) e
    (simp length-drop (omega arith)) (omega arith) (get_or-drop marks_at x k 0)

pub marks-read : (x l l' : List ℕ) (k : ℕ) → length x ≡ context_size → length l ≡ cells → k ≤ cells → cells ≤ k → l' ≡ write l 0 (take k (drop marks_at x)) → l' ≡ marks_in x
marks-read x l l' k s f a b e =
    let z : k ≡ cells = omega arith in
    let g : length (marks_in x) ≡ cells = simp (length-take, length-drop) (omega arith) in
    e ∙ ap (λ (n : ℕ). write l 0 (take n (drop marks_at x))) z ∙ write-over l (marks_in x) (omega arith)

-- ── marks written ────────────────────────────────────────────────────────────
pub mark-written : (x x' s : List ℕ) (k : ℕ) → length s ≡ cells → k < cells → x' ≡ write x marks_at (take k s) → set x' (marks_at + k) (get_or s k 0) ≡ write x marks_at (take (k + 1) s)
mark-written x x' s k f h e = copy_more x x' marks_at s k (marks_at + k) (get_or s k 0) e (omega arith) refl refl

pub marks-written : (x x' s : List ℕ) (k : ℕ) → length s ≡ cells → cells ≤ k → x' ≡ write x marks_at (take k s) → x' ≡ with_marks x s
marks-written x x' s k f h e = e ∙ ap (write x marks_at) (take_all k s (omega arith))

-- ── fresh ────────────────────────────────────────────────────────────────────
pub not-fresh : (x : List ℕ) → (length x ≡ context_size → ⊥) → Freshened x x false
not-fresh x n =
    let e : eqb (length x) context_size ≡ false = ne_eqb (length x) context_size n in
    record { answer = sym e; bytes = rw e }

pub made-fresh : (x y : List ℕ) → length x ≡ context_size → y ≡ replicate (length x) 0 → Freshened x (set y rows_at 2) true
unfolding fresh_bytes
made-fresh x y s e =
    let f : eqb (length x) context_size ≡ true = eq-eqb (length x) context_size s in
    record { answer = sym f; bytes = rw f (ap (λ (l : List ℕ). set l rows_at 2) (e ∙ ap (λ (n : ℕ). replicate n 0) s)) }
