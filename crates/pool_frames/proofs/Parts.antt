-- A frame's parts put one after the other are the frame. Over plain lists and numbers.
-- Assumes nothing.
use Prim.Native.Nat.{ℕ, zero, suc, ◌+◌, ◌≤◌, ◌<◌}
use mathlib.Core.Path.{◌≡◌, refl, sym, ◌∙◌, ap}
use mathlib.Core.Bool.{Bool, true, false, cond}
use mathlib.Core.List.{List, [], ◌∷◌, ◌++◌, append-nil}
use native.Mathlib.Omega.{arith}
use lib.ListN.{length, set, length-append}
use borrow.Author.Tests.{le-ltb, lt-ltb}
use Rattle.kinds.specs.Kinds.{carries_literal}
use Rattle.kinds.specs.BigEndian.{u16_bytes}
use Rattle.kinds.specs.Write.{write, write-none, write-next}
use Rattle.frames.specs.Written.{child_bytes, u64_bytes, literal_bytes, node_bytes}
use Rattle.frames.specs.declared.node.Node.{Node}
use Rattle.pool_frames.specs.Frames.{framed, head_bytes, children_size, children_of, literal_of, Puts}

-- ---- the children that are there

module _ (count c0 c1 c2 : ℕ) where
  pub children-none : count < 1 → child_bytes count c0 c1 c2 ≡ []
  unfolding child_bytes
  children-none h =
      let b : count ≤ 1 = omega arith in
      let c : count ≤ 2 = omega arith in
      let a : count ≤ 0 = omega arith in
      rw (le-ltb 0 count a, le-ltb 1 count b, le-ltb 2 count c)

  pub children-one : 1 ≤ count → count < 2 → child_bytes count c0 c1 c2 ≡ u16_bytes c0
  unfolding child_bytes
  children-one g h =
      let b : count ≤ 1 = omega arith in
      let c : count ≤ 2 = omega arith in
      rw (lt-ltb 0 count g, le-ltb 1 count b, le-ltb 2 count c) (append-nil (u16_bytes c0))

  pub children-two : 2 ≤ count → count < 3 → child_bytes count c0 c1 c2 ≡ u16_bytes c0 ++ u16_bytes c1
  unfolding child_bytes
  children-two g h =
      let a : 0 < count = omega arith in
      let c : count ≤ 2 = omega arith in
      rw (lt-ltb 0 count a, lt-ltb 1 count g, le-ltb 2 count c) (simp append-nil)

  pub children-three : 3 ≤ count → child_bytes count c0 c1 c2 ≡ u16_bytes c0 ++ (u16_bytes c1 ++ u16_bytes c2)
  unfolding child_bytes
  children-three g =
      let a : 0 < count = omega arith in
      let b : 1 < count = omega arith in
      rw (lt-ltb 0 count a, lt-ltb 1 count b, lt-ltb 2 count g)

-- ---- sizes

pub children-size : (count c0 c1 c2 : ℕ) → length (child_bytes count c0 c1 c2) ≡ children_size count
unfolding child_bytes u16_bytes
children-size zero c0 c1 c2 = refl
children-size (suc zero) c0 c1 c2 = refl
children-size (suc (suc zero)) c0 c1 c2 = refl
children-size (suc (suc (suc n))) c0 c1 c2 =
    let e : length (child_bytes (suc (suc (suc n))) c0 c1 c2) ≡ 6 = ap length (children-three (suc (suc (suc n))) c0 c1 c2 (omega arith)) in
    omega arith

pub literal-size : (b : Bool) (sign magnitude : ℕ) → length (literal_bytes b sign magnitude) ≡ cond b 9 0
unfolding literal_bytes u64_bytes u16_bytes
literal-size true sign magnitude = refl
literal-size false sign magnitude = refl

pub node-length : (x : Node) → length (node_bytes x) ≡ 6 + children_size x.count + cond (carries_literal x.kind) 9 0
unfolding node_bytes
node-length x =
    let a = children-size x.count x.c0 x.c1 x.c2 in
    let b = literal-size (carries_literal x.kind) x.sign x.magnitude in
    simp length-append (omega arith)

module _ (x : Node) (b : Bool) (e : b ≡ carries_literal x.kind) where
  pub size-with : b ≡ true → (s : ℕ) → s ≡ children_size x.count → 6 + s + 9 ≡ length (node_bytes x)
  size-with q s f =
      let z : carries_literal x.kind ≡ true = sym e ∙ q in
      let g = rw z at (node-length x) in
      omega arith

  pub size-without : b ≡ false → (s : ℕ) → s ≡ children_size x.count → 6 + s ≡ length (node_bytes x)
  size-without q s f =
      let z : carries_literal x.kind ≡ false = sym e ∙ q in
      let g = rw z at (node-length x) in
      omega arith

  pub literal-room : b ≡ true → length (literal_of x) ≡ 9
  literal-room q = literal-size (carries_literal x.kind) x.sign x.magnitude ∙ ap (λ z. cond z 9 0) (sym e ∙ q)

pub node-small : (x : Node) → length (node_bytes x) ≤ 21
node-small x = by (carries_literal x.kind) (node-length x)
  where
    by : (b : Bool) → length (node_bytes x) ≡ 6 + children_size x.count + cond b 9 0 → length (node_bytes x) ≤ 21
    by true e = omega arith
    by false e = omega arith

pub framed-length : (f : List ℕ) → length (framed f) ≡ 2 + length f
unfolding framed
framed-length f = omega arith

pub node-framed-length : (x : Node) → length (framed (node_bytes x)) ≡ 8 + length (children_of x) + length (literal_of x)
unfolding node_bytes framed
node-framed-length x = simp length-append (omega arith)

-- ---- runs of bytes

pub puts_none : (l : List ℕ) (at : ℕ) → Puts l at [] l at
puts_none l at = record { list = sym (write-none l at); next = omega arith }

pub puts-next :
    {l₁ l₂ : List ℕ} (l : List ℕ) (at : ℕ) (xs ys : List ℕ) (j k : ℕ) → Puts l at xs l₁ j → Puts l₁ j ys l₂ k → Puts l at (xs ++ ys) l₂ k
puts-next l at xs ys j k p q =
    let n : length (xs ++ ys) ≡ length xs + length ys = length-append xs ys in
    record { list = write-next l at xs ys j p.list q.list (sym p.next); next = omega (arith, p.next, q.next) }

-- ---- children

module _ (count c0 c1 c2 : ℕ) where
  module _ (l : List ℕ) (at : ℕ) where
    pub put-none : count < 1 → Puts l at (child_bytes count c0 c1 c2) l at
    put-none h = rw (children-none count c0 c1 c2 h) (puts_none l at)

    module _ {l₁ : List ℕ} (e : l₁ ≡ write l at (u16_bytes c0)) where
      pub put_one : 1 ≤ count → count < 2 → Puts l at (child_bytes count c0 c1 c2) l₁ (at + 2)
      unfolding u16_bytes
      put_one g h = rw (children-one count c0 c1 c2 g h) (record { list = e; next = refl })

      module _ {l₂ : List ℕ} (f : l₂ ≡ write l₁ (at + 2) (u16_bytes c1)) where
        two-put : l₂ ≡ write l at (u16_bytes c0 ++ u16_bytes c1)
        unfolding u16_bytes
        two-put = write-next l at (u16_bytes c0) (u16_bytes c1) (at + 2) e f refl

        pub put-pair : 2 ≤ count → count < 3 → Puts l at (child_bytes count c0 c1 c2) l₂ (at + 4)
        unfolding u16_bytes
        put-pair g h = rw (children-two count c0 c1 c2 g h) (record { list = two-put; next = refl })

        pub put_three : {l₃ : List ℕ} → l₃ ≡ write l₂ (at + 4) (u16_bytes c2) → 3 ≤ count → Puts l at (child_bytes count c0 c1 c2) l₃ (at + 6)
        unfolding u16_bytes
        put_three d g =
            rw (children-three count c0 c1 c2 g)
            (record { list = write-next l at (u16_bytes c0 ++ u16_bytes c1) (u16_bytes c2) (at + 4) two-put d refl; next = refl })

-- ---- a literal

module _ (l : List ℕ) (at : ℕ) (x : Node) (b : Bool) (e : b ≡ carries_literal x.kind) where
  pub put-with : {l₁ : List ℕ} → b ≡ true → l₁ ≡ write (set l at x.sign) (at + 1) (u64_bytes x.magnitude) → Puts l at (literal_of x) l₁ (at + 9)
  unfolding literal_bytes u64_bytes u16_bytes write
  put-with q f =
      let z : carries_literal x.kind ≡ true = sym e ∙ q in
      rw z (record { list = write-next l at (x.sign ∷ []) (u64_bytes x.magnitude) (at + 1) refl f refl; next = refl })

  pub put-without : b ≡ false → Puts l at (literal_of x) l at
  unfolding literal_bytes
  put-without q =
      let z : carries_literal x.kind ≡ false = sym e ∙ q in
      rw z (puts_none l at)

-- ---- a frame

pub put-frame :
    {l₁ l₂ l₃ : List ℕ} (l : List ℕ) (at : ℕ) (x : Node) (s j k : ℕ) → s ≡ length (node_bytes x) → l₁ ≡ write l at (head_bytes s x)
    → Puts l₁ (at + 8) (children_of x) l₂ j → Puts l₂ j (literal_of x) l₃ k → Puts l at (framed (node_bytes x)) l₃ k
unfolding framed node_bytes head_bytes
put-frame {l₁} l at x s j k e f p q =
    let n = length (node_bytes x) in
    let g : l₁ ≡ write l at (head_bytes n x) = f ∙ ap (λ m. write l at (head_bytes m x)) e in
    puts-next l at (head_bytes n x ++ children_of x) (literal_of x) j k
    (puts-next l at (head_bytes n x) (children_of x) (at + 8) j (record { list = g; next = refl }) p) q
