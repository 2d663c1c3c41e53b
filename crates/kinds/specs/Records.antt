-- Records of one size in a list of numbers, one after the other: the laws of reading and writing them, once for every sort of record.
-- Assumes nothing.
use Rattle.std.specs.Prelude.{◌≡◌, ◌⊎◌, drop}
use Rattle.std.proofs.Math.Path.{refl, sym}
use Rattle.std.proofs.Common.{ap, ◌∙◌, inl, inr, add_assoc, add-suc, mul-zero, take_all, get_or-take, get_or-drop}
use mathlib.Core.List.{List, [], ◌∷◌, ◌++◌, append_assoc, append-nil}
use Prim.Native.Nat.{ℕ, zero, suc, ◌+◌, ◌*◌, ◌≤◌, ◌<◌}
use Rattle.std.proofs.Math.Nat.{add-zero, zero-add, mul-suc, mul-add, mul-le-mul_left}
use Rattle.std.proofs.Math.Decide.{le_ind}
use native.Mathlib.Omega.{arith}
use Rattle.std.proofs.Math.ListN.{length, get_or, take, set, length-append, get_or-append}
use Rattle.std.proofs.Math.Seq.{take-append-le}
use Rattle.std.proofs.lemmas.List.{set-append_left, set_at, get_or_at}
use Rattle.kinds.specs.Write.{write, write-none, write-append, write-length, write-there, write-before, write-after}

-- the n numbers of l from i on are those of m from j on
unfoldable pub Same : ℕ → List ℕ → ℕ → List ℕ → ℕ → Type 0
Same n l i m j = (k : ℕ) → k < n → get_or l (i + k) 0 ≡ get_or m (j + k) 0

pub same-part : (n : ℕ) (l : List ℕ) (i : ℕ) (m : List ℕ) (j a b : ℕ) → a + b ≤ n → Same n l i m j → Same b l (i + a) m (j + a)
unfolding Same
same-part n l i m j a b g h k q = rw (add_assoc i a k, add_assoc j a k) (h (a + k) (omega arith))

pub same-front : (n : ℕ) (l m : List ℕ) → take n l ≡ take n m → Same n l 0 m 0
unfolding Same
same-front n l m e k g = rw zero-add (sym (get_or-take n l k 0 g) ∙ ap (λ (x : List ℕ). get_or x k 0) e ∙ get_or-take n m k 0 g)

pub same_drop : (n : ℕ) (l : List ℕ) (j i : ℕ) → Same n (drop j l) i l (j + i)
unfolding Same
same_drop n l j i k g = get_or-drop j l (i + k) 0 ∙ rw add_assoc

-- no place is both among the n from i on and among the m from j on
abbrev pub Apart : ℕ → ℕ → ℕ → ℕ → Type 0
Apart i n j m = (j + m ≤ i) ⊎ (i + n ≤ j)

pub same-written : (l : List ℕ) (i : ℕ) (ws : List ℕ) → i + length ws ≤ length l → Same (length ws) (write l i ws) i ws 0
unfolding Same
same-written l i ws h k g = write-there l i ws k h g ∙ simp zero-add

pub same-apart : (l : List ℕ) (i : ℕ) (ws : List ℕ) (j m : ℕ) → Apart i (length ws) j m → Same m (write l i ws) j l j
unfolding Same
same-apart l i ws j m (inl h) k g = write-before l i ws (j + k) (omega arith)
same-apart l i ws j m (inr h) k g = write-after l i ws (j + k) (omega arith)

-- how a value stands in a list: in how many numbers, how it is read from an index on, and what is written of it
pub record Layout (A : Type 0) : Type 0 where
  pub size : ℕ
  pub at : List ℕ → ℕ → A
  pub words : A → List ℕ
  pub sized : (a : A) → length (words a) ≡ size
  pub same : (l : List ℕ) (i : ℕ) (m : List ℕ) (j : ℕ) → Same size l i m j → at l i ≡ at m j
  pub back : (a : A) → at (words a) 0 ≡ a

-- the first n records of a list
unfoldable pub first : {A : Type 0} → Layout A → List ℕ → ℕ → List A
first c l zero = []
first c l (suc n) = first c l n ++ (c.at l (c.size * n) ∷ [])

-- records as they are written, one after the other
unfoldable pub joined : {A : Type 0} → Layout A → List A → List ℕ
joined c [] = []
joined c (x ∷ xs) = c.words x ++ joined c xs

module _ {A : Type 0} (c : Layout A) where
  -- a record that is written is read back
  pub put-read : (l : List ℕ) (i : ℕ) (a : A) → i + c.size ≤ length l → c.at (write l i (c.words a)) i ≡ a
  put-read l i a h =
      let g : i + length (c.words a) ≤ length l = rw (c.sized a) h in
      let s : Same c.size (write l i (c.words a)) i (c.words a) 0 = rw (c.sized a) at (same-written l i (c.words a) g) in
      c.same _ i _ 0 s ∙ c.back a

  -- and any other is as it was
  pub put-kept : (l : List ℕ) (i : ℕ) (ws : List ℕ) (j : ℕ) → Apart i (length ws) j c.size → c.at (write l i ws) j ≡ c.at l j
  put-kept l i ws j h = c.same _ j _ j (same-apart l i ws j c.size h)

  pub first-length : (l : List ℕ) (n : ℕ) → length (first c l n) ≡ n
  unfolding first
  first-length l zero = refl
  first-length l (suc n) = length-append (first c l n) (c.at l (c.size * n) ∷ []) ∙ rw (first-length l n) (omega arith)

  -- lists that hold the same numbers hold the same records
  pub first-same : (l m : List ℕ) (n : ℕ) → Same (c.size * n) l 0 m 0 → first c l n ≡ first c m n
  unfolding first
  first-same l m zero h = refl
  first-same l m (suc n) h =
      let e : c.size * suc n ≡ c.size * n + c.size = mul-suc c.size n in
      let f : Same (c.size * n) l 0 m 0 = same-part (c.size * suc n) l 0 m 0 0 (c.size * n) (omega arith) h in
      let s : Same c.size l (c.size * n) m (c.size * n) = simp zero-add at (same-part (c.size * suc n) l 0 m 0 (c.size * n) c.size (omega arith) h) in
      rw (first-same l m n f, c.same l (c.size * n) m (c.size * n) s)

  -- a write past n records leaves them
  pub first-kept : (l : List ℕ) (i : ℕ) (ws : List ℕ) (n : ℕ) → c.size * n ≤ i → first c (write l i ws) n ≡ first c l n
  first-kept l i ws n h = first-same (write l i ws) l n (same-apart l i ws 0 (c.size * n) (inl (omega arith)))

  -- a record written at the end
  pub first-snoc : (l : List ℕ) (n : ℕ) (a : A) → c.size * n + c.size ≤ length l → first c (write l (c.size * n) (c.words a)) (suc n) ≡ first c l n ++ (a ∷ [])
  unfolding first
  first-snoc l n a h = rw (first-kept l (c.size * n) (c.words a) n (omega arith), put-read l (c.size * n) a h)

  -- fewer records are the front of more
  pub first-take : (l : List ℕ) (m n : ℕ) → m ≤ n → take m (first c l n) ≡ first c l m
  unfolding first
  first-take l m n h =
      le_ind (λ n. take m (first c l n) ≡ first c l m)
      (take_all m (first c l m) (rw first-length (omega arith)))
      (λ n g e. take-append-le m (first c l n) _ (rw first-length g) ∙ e)
      n h

  -- and the others are those of the rest of the list
  pub first-split : (l : List ℕ) (m n : ℕ) → first c l (m + n) ≡ first c l m ++ first c (drop (c.size * m) l) n
  unfolding first
  first-split l m zero = rw (add-zero, append-nil)
  first-split l m (suc n) =
      let e : c.size * (m + n) ≡ c.size * m + c.size * n = mul-add c.size m n in
      let s : c.at (drop (c.size * m) l) (c.size * n) ≡ c.at l (c.size * m + c.size * n)
      = c.same _ (c.size * n) _ (c.size * m + c.size * n) (same_drop c.size l (c.size * m) (c.size * n)) in
      rw (add-suc, first-split l m n, append_assoc, s, e)

  pub first-at : (l : List ℕ) (k n : ℕ) (d : A) → k < n → get_or (first c l n) k d ≡ c.at l (c.size * k)
  unfolding first
  first-at l k n d h =
      le_ind (λ n. get_or (first c l n) k d ≡ c.at l (c.size * k))
      (get_or_at (first c l k) _ [] d k (first-length l k))
      (λ n g e. get_or-append (first c l n) _ d k (rw first-length g) ∙ e)
      n h

  -- a record written over another
  pub first-set : (l : List ℕ) (k n : ℕ) (a : A) → k < n → c.size * n ≤ length l → first c (write l (c.size * k) (c.words a)) n ≡ set (first c l n) k a
  unfolding first
  first-set l k n a h =
      le_ind (λ n. c.size * n ≤ length l → first c (write l (c.size * k) (c.words a)) n ≡ set (first c l n) k a)
      (λ g. first-snoc l k a (rw mul-suc at g) ∙ sym (set_at (first c l k) _ [] a k (first-length l k)))
      (λ n g f r.
      let e : c.size * suc n ≡ c.size * n + c.size = mul-suc c.size n in
      let e' : c.size * suc k ≡ c.size * k + c.size = mul-suc c.size k in
      let m : c.size * suc k ≤ c.size * n = mul-le-mul_left c.size g in
      let s : length (c.words a) ≡ c.size = c.sized a in
      rw (f (omega arith), put-kept l (c.size * k) (c.words a) (c.size * n) (inr (omega arith)))
      (sym (set-append_left (first c l n) _ k a (rw first-length g))))
      n h

  pub joined_length : (xs : List A) → length (joined c xs) ≡ c.size * length xs
  unfolding joined
  joined_length [] = sym (mul-zero c.size)
  joined_length (x ∷ xs) = rw (length-append, c.sized x, joined_length xs, mul-suc) (omega arith)

  pub joined-append : (xs ys : List A) → joined c (xs ++ ys) ≡ joined c xs ++ joined c ys
  unfolding joined
  joined-append [] ys = refl
  joined-append (x ∷ xs) ys = rw (joined-append xs ys, append_assoc)

  -- records written at the end
  pub first-joined : (l : List ℕ) (n : ℕ) (xs : List A) → c.size * (n + length xs) ≤ length l → first c (write l (c.size * n) (joined c xs)) (n + length xs) ≡ first c l n ++ xs
  unfolding joined
  first-joined l n [] h = rw (write-none, add-zero, append-nil)
  first-joined l n (x ∷ xs) h =
      let e : c.size * suc n ≡ c.size * n + c.size = mul-suc c.size n in
      let f : n + length (x ∷ xs) ≡ suc n + length xs = omega arith in
      let g : c.size * (suc n + length xs) ≤ length l = rw f at h in
      let m : c.size * suc n ≤ c.size * (suc n + length xs) = mul-le-mul_left c.size (omega arith) in
      let l' : List ℕ = write l (c.size * n) (c.words x) in
      rw (write-append l (c.size * n) (c.words x) (joined c xs), c.sized x, ← e, f)
      (first-joined l' (suc n) xs (rw write-length g)
      ∙ rw (first-snoc l n x (omega arith), append_assoc))
