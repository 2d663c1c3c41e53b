-- Fusing changes no value, and neither adds nor drops a leaf.
-- Assumes nothing.
use Rattle.std.specs.Prelude.{ℕ, ◌≡◌, refl, Bool, true, false, List, ◌++◌, ◌↔◌}
use Rattle.std.proofs.Common.{◌∙◌, ap}
use Rattle.meaning.specs.Trees.{Op, Expr, Forest, Placed, leaves, Each}
use Rattle.meaning.specs.Values.{Algebra, Given, Has}
use Rattle.meaning.specs.Fusing.{second, first, fuse}
use Rattle.meaning.specs.Order.{asked}
use Rattle.meaning.proofs.Laws.Tests.{each_left, each_right, each-join}

module _ (P : Placed → Type 0) where
  abbrev AllOf : List Placed → Type 0
  AllOf ls = Each P ls

  -- P of each leaf of a sum, however it is made: of each leaf of either operand
  abbrev Sum : Expr → Expr → Expr → Type 0
  Sum x a b = AllOf (leaves x) ↔ (AllOf (leaves a) × AllOf (leaves b))

  split : (xs ys : List Placed) → AllOf (xs ++ ys) ↔ (AllOf xs × AllOf ys)
  split xs ys = (λ h. (each_left P xs ys h, each_right P xs ys h), λ h. each-join P xs ys h.0 h.1)

  sum-second : (n m : ℕ) (a b c : Expr) → Sum (Expr.muladd n b c a) a (Expr.bin m Op.mul b c)
  sum-second n m a b c =
      let B = leaves b in
      let C = leaves c in
      let A = leaves a in (
        λ h. let k = (split B (C ++ A)).0 h in let l = (split C A).0 k.1 in (l.1, (split B C).1 (k.0, l.0)),
        λ h. let k = (split B C).0 h.1 in (split B (C ++ A)).1 (k.0, (split C A).1 (k.1, h.0)),
      )

  sum_first : (n m : ℕ) (a b c : Expr) → Sum (Expr.muladd n b c a) (Expr.bin m Op.mul b c) a
  sum_first n m a b c = let s = sum-second n m a b c in (λ h. let k = s.0 h in (k.1, k.0), λ h. s.1 (h.1, h.0))

  second-leaves : (n : ℕ) (a b : Expr) → Sum (second n a b) a b
  second-leaves n a (Expr.leaf m l) = split (leaves a) (leaves (Expr.leaf m l))
  second-leaves n a (Expr.bin m Op.add b c) = split (leaves a) (leaves (Expr.bin m Op.add b c))
  second-leaves n a (Expr.bin m Op.sub b c) = split (leaves a) (leaves (Expr.bin m Op.sub b c))
  second-leaves n a (Expr.bin m Op.mul b c) = sum-second n m a b c
  second-leaves n a (Expr.muladd m b c d) = split (leaves a) (leaves (Expr.muladd m b c d))
  second-leaves n a (Expr.binc m o b l) = split (leaves a) (leaves (Expr.binc m o b l))
  second-leaves n a (Expr.neg m b) = split (leaves a) (leaves (Expr.neg m b))

  first-leaves : (n : ℕ) (a b : Expr) → Sum (first n a b) a b
  first-leaves n (Expr.leaf m l) b = second-leaves n (Expr.leaf m l) b
  first-leaves n (Expr.bin m Op.add c d) b = second-leaves n (Expr.bin m Op.add c d) b
  first-leaves n (Expr.bin m Op.sub c d) b = second-leaves n (Expr.bin m Op.sub c d) b
  first-leaves n (Expr.bin m Op.mul c d) b = sum_first n m b c d
  first-leaves n (Expr.muladd m c d e) b = second-leaves n (Expr.muladd m c d e) b
  first-leaves n (Expr.binc m o c l) b = second-leaves n (Expr.binc m o c l) b
  first-leaves n (Expr.neg m c) b = second-leaves n (Expr.neg m c) b

  -- two parts, each with its equivalence
  parts :
      (xs xs' ys ys' : List Placed) → (AllOf xs ↔ AllOf xs') → (AllOf ys ↔ AllOf ys') → AllOf (xs ++ ys) ↔ AllOf (xs' ++ ys')
  parts xs xs' ys ys' f g = (
    λ h. let k = (split xs ys).0 h in (split xs' ys').1 (f.0 k.0, g.0 k.1),
    λ h. let k = (split xs' ys').0 h in (split xs ys).1 (f.1 k.0, g.1 k.1),
  )

  -- FUSING CHANGES NO DEPENDENCY: the same leaves, with the same nodes
  pub fuse-leaves : (x : Expr) → AllOf (leaves (fuse x)) ↔ AllOf (leaves x)
  fuse-leaves (Expr.leaf n l) = (λ h. h, λ h. h)
  fuse-leaves (Expr.bin n Op.add a b) =
      let p = parts (leaves (fuse a)) (leaves a) (leaves (fuse b)) (leaves b) (fuse-leaves a) (fuse-leaves b) in
      let s = first-leaves n (fuse a) (fuse b) in
      let t = split (leaves (fuse a)) (leaves (fuse b)) in
      (λ h. p.0 (t.1 (s.0 h)), λ h. s.1 (t.0 (p.1 h)))
  fuse-leaves (Expr.bin n Op.sub a b) = parts (leaves (fuse a)) (leaves a) (leaves (fuse b)) (leaves b) (fuse-leaves a) (fuse-leaves b)
  fuse-leaves (Expr.bin n Op.mul a b) = parts (leaves (fuse a)) (leaves a) (leaves (fuse b)) (leaves b) (fuse-leaves a) (fuse-leaves b)
  fuse-leaves (Expr.muladd n a b c) =
      parts (leaves (fuse a)) (leaves a) (leaves (fuse b) ++ leaves (fuse c)) (leaves b ++ leaves c) (fuse-leaves a)
      (parts (leaves (fuse b)) (leaves b) (leaves (fuse c)) (leaves c) (fuse-leaves b) (fuse-leaves c))
  fuse-leaves (Expr.binc n o a l) = fuse-leaves a
  fuse-leaves (Expr.neg n a) = fuse-leaves a

  pub asked-leaves : (fused : Bool) (x : Expr) → AllOf (leaves (asked fused x)) ↔ AllOf (leaves x)
  asked-leaves true x = fuse-leaves x
  asked-leaves false x = (λ h. h, λ h. h)

module _ (𝓐 : Algebra) (G : Given 𝓐.A) (E : Forest) (r : ℕ) where
  abbrev H : Expr → 𝓐.A → Type 0
  H x v = Has 𝓐 G E x r v

  -- a value of a sum, however it is made, is a sum of values
  abbrev SumOf : Expr → Expr → 𝓐.A → Type 0
  SumOf a b v = (y : 𝓐.A) × (z : 𝓐.A) × H a y × H b z × (v ≡ 𝓐.plus y z)

  sum-value : (n : ℕ) (a b : Expr) {v : 𝓐.A} → H (Expr.bin n Op.add a b) v → SumOf a b v
  sum-value n a b (Has.bin y z h k q) = (y, z, h, k, q)

  second-value : (n : ℕ) (a b : Expr) {v : 𝓐.A} → H (second n a b) v → SumOf a b v
  second-value n a (Expr.leaf m l) h = sum-value n a (Expr.leaf m l) h
  second-value n a (Expr.bin m Op.add b c) h = sum-value n a (Expr.bin m Op.add b c) h
  second-value n a (Expr.bin m Op.sub b c) h = sum-value n a (Expr.bin m Op.sub b c) h
  second-value n a (Expr.bin m Op.mul b c) (Has.muladd y z w h k l q) =
      (w, 𝓐.times y z, l, Has.bin y z h k refl, q ∙ 𝓐.plus_comm (𝓐.times y z) w)
  second-value n a (Expr.muladd m b c d) h = sum-value n a (Expr.muladd m b c d) h
  second-value n a (Expr.binc m o b l) h = sum-value n a (Expr.binc m o b l) h
  second-value n a (Expr.neg m b) h = sum-value n a (Expr.neg m b) h

  first-value : (n : ℕ) (a b : Expr) {v : 𝓐.A} → H (first n a b) v → SumOf a b v
  first-value n (Expr.leaf m l) b h = second-value n (Expr.leaf m l) b h
  first-value n (Expr.bin m Op.add c d) b h = second-value n (Expr.bin m Op.add c d) b h
  first-value n (Expr.bin m Op.sub c d) b h = second-value n (Expr.bin m Op.sub c d) b h
  first-value n (Expr.bin m Op.mul c d) b (Has.muladd y z w h k l q) = (𝓐.times y z, w, Has.bin y z h k refl, l, q)
  first-value n (Expr.muladd m c d e) b h = second-value n (Expr.muladd m c d e) b h
  first-value n (Expr.binc m o c l) b h = second-value n (Expr.binc m o c l) b h
  first-value n (Expr.neg m c) b h = second-value n (Expr.neg m c) b h

  -- and back
  value-sum : (n : ℕ) (a b : Expr) {v : 𝓐.A} → SumOf a b v → H (Expr.bin n Op.add a b) v
  value-sum n a b s = Has.bin s.0 s.1 s.2 s.3 s.4

  value-second : (n : ℕ) (a b : Expr) {v : 𝓐.A} → SumOf a b v → H (second n a b) v
  value-second n a (Expr.leaf m l) s = value-sum n a (Expr.leaf m l) s
  value-second n a (Expr.bin m Op.add b c) s = value-sum n a (Expr.bin m Op.add b c) s
  value-second n a (Expr.bin m Op.sub b c) s = value-sum n a (Expr.bin m Op.sub b c) s
  value-second n a (Expr.bin m Op.mul b c) {v} s = product s.3
    where
      product : H (Expr.bin m Op.mul b c) s.1 → H (Expr.muladd n b c a) v
      product (Has.bin y z h k q) = Has.muladd y z s.0 h k s.2 (s.4 ∙ 𝓐.plus_comm s.0 s.1 ∙ ap (λ u. 𝓐.plus u s.0) q)
  value-second n a (Expr.muladd m b c d) s = value-sum n a (Expr.muladd m b c d) s
  value-second n a (Expr.binc m o b l) s = value-sum n a (Expr.binc m o b l) s
  value-second n a (Expr.neg m b) s = value-sum n a (Expr.neg m b) s

  value-first : (n : ℕ) (a b : Expr) {v : 𝓐.A} → SumOf a b v → H (first n a b) v
  value-first n (Expr.leaf m l) b s = value-second n (Expr.leaf m l) b s
  value-first n (Expr.bin m Op.add c d) b s = value-second n (Expr.bin m Op.add c d) b s
  value-first n (Expr.bin m Op.sub c d) b s = value-second n (Expr.bin m Op.sub c d) b s
  value-first n (Expr.bin m Op.mul c d) b {v} s = product s.2
    where
      product : H (Expr.bin m Op.mul c d) s.0 → H (Expr.muladd n c d b) v
      product (Has.bin y z h k q) = Has.muladd y z s.1 h k s.3 (s.4 ∙ ap (λ u. 𝓐.plus u s.1) q)
  value-first n (Expr.muladd m c d e) b s = value-second n (Expr.muladd m c d e) b s
  value-first n (Expr.binc m o c l) b s = value-second n (Expr.binc m o c l) b s
  value-first n (Expr.neg m c) b s = value-second n (Expr.neg m c) b s

  to-plain : (x : Expr) {v : 𝓐.A} → H (fuse x) v → H x v
  to-plain (Expr.leaf n l) h = h
  to-plain (Expr.bin n Op.add a b) h =
      let s = first-value n (fuse a) (fuse b) h in
      Has.bin s.0 s.1 (to-plain a s.2) (to-plain b s.3) s.4
  to-plain (Expr.bin n Op.sub a b) (Has.bin y z h k q) = Has.bin y z (to-plain a h) (to-plain b k) q
  to-plain (Expr.bin n Op.mul a b) (Has.bin y z h k q) = Has.bin y z (to-plain a h) (to-plain b k) q
  to-plain (Expr.muladd n a b c) (Has.muladd y z w h k l q) = Has.muladd y z w (to-plain a h) (to-plain b k) (to-plain c l) q
  to-plain (Expr.binc n o a l) (Has.binc y h q) = Has.binc y (to-plain a h) q
  to-plain (Expr.neg n a) (Has.neg y h q) = Has.neg y (to-plain a h) q

  to-fused : (x : Expr) {v : 𝓐.A} → H x v → H (fuse x) v
  to-fused (Expr.leaf n l) h = h
  to-fused (Expr.bin n Op.add a b) (Has.bin y z h k q) = value-first n (fuse a) (fuse b) (y, z, to-fused a h, to-fused b k, q)
  to-fused (Expr.bin n Op.sub a b) (Has.bin y z h k q) = Has.bin y z (to-fused a h) (to-fused b k) q
  to-fused (Expr.bin n Op.mul a b) (Has.bin y z h k q) = Has.bin y z (to-fused a h) (to-fused b k) q
  to-fused (Expr.muladd n a b c) (Has.muladd y z w h k l q) = Has.muladd y z w (to-fused a h) (to-fused b k) (to-fused c l) q
  to-fused (Expr.binc n o a l) (Has.binc y h q) = Has.binc y (to-fused a h) q
  to-fused (Expr.neg n a) (Has.neg y h q) = Has.neg y (to-fused a h) q

  -- FUSING CHANGES NO VALUE
  pub fuse-value : (x : Expr) (v : 𝓐.A) → H (fuse x) v ↔ H x v
  fuse-value x v = (to-plain x, to-fused x)

  pub asked-value : (fused : Bool) (x : Expr) {v : 𝓐.A} → H (asked fused x) v → H x v
  asked-value true x h = to-plain x h
  asked-value false x h = h
