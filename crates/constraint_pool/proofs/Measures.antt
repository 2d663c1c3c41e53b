-- Sizes of trees and of members, and what fits. Over plain variables.
-- Assumes nothing.
use Prim.Native.Nat.{ℕ, zero, suc, ◌+◌, ◌-◌, ◌*◌, ◌≤◌, ◌<◌, min}
use mathlib.Core.Path.{◌≡◌, refl, sym, ◌∙◌, ap, subst}
use mathlib.Core.List.{List, [], ◌∷◌, ◌++◌}
use native.Mathlib.Omega.{arith}
use native.Mathlib.Numerals.{add-one}
use lib.ListN.{length, get_or, take}
use lib.Seq.{take-suc, take_all}
use Rattle.meaning.specs.Trees.{Each}
use Rattle.frames.specs.Order.{node_limit, expression_limit}
use Rattle.frames.specs.Tables.{node_in, count_in, child_in}
use Rattle.pool.specs.Words.{root_in}
use Rattle.pool.specs.Pool.{Pool, node, children}
use Rattle.pool.specs.Trees.{tree}
use Rattle.pool.specs.Tabled.{tabled}
use Rattle.pool.specs.Ranking.{Tabling}
use Rattle.pool.specs.Laws.Tabled.{node-count, node_at, root-at}
use Rattle.pool.specs.Laws.Nodes.{root-there}
use Rattle.constraint_meaning.specs.Numbers.{size}
use Rattle.constraint_pool.specs.Nodes.{body_of}
use Rattle.constraint_pool.specs.Copies.{Law, count_law}
use Rattle.constraint_pool.specs.Sizes.{over, SizeAsks, members_size, MembersSizeAsks, WholeSizeAsks}

cap_three :
    (a b c s t u r : ℕ) → s ≡ min over a → t ≡ min over b → u ≡ min over c → r ≡ min over (s + t + u + 1) → r ≡ min over (suc (a + (b + c)))
cap_three a b c s t u r e f g h = omega arith

module _ {w l x : List ℕ} {n m i : ℕ} (a : SizeAsks w l x n m i) where
  abbrev P : Pool
  P = tabled (Tabling w l x n m)

  inside : i < length P.nodes
  inside = rw (node-count (Tabling w l x n m)) a.there

  pub room-here : i < node_limit
  room-here = omega (arith, a.there, a.few)

  is : node P i ≡ node_in w l i
  is = node_at (Tabling w l x n m) i a.there

  child-asks : {j : ℕ} → j < i → SizeAsks w l x n m j
  child-asks h = record { shaped = a.shaped; there = omega (arith, a.there); few = a.few }

  module _ {c : ℕ} (ce : c ≡ count_in w i) where
    law : (k : ℕ) → c ≡ k → Law P (node_in w l i) k (tree P i)
    law k q = subst (λ j. Law P (node_in w l i) j (tree P i)) (sym ce ∙ q) (subst (λ y. Law P y y.count (tree P i)) is (count_law P a.shaped i inside))

    earlier : Each (λ j. j < i) (children (node_in w l i))
    earlier = subst (λ y. Each (λ j. j < i) (children y)) is (a.shaped.earlier i inside)

    at_most : (k : ℕ) → c ≡ suc (suc (suc (suc k))) → ⊥
    at_most k q = law (suc (suc (suc (suc k)))) q

    pub leaf-size : c ≡ 0 → 1 ≡ min over (size (tree P i))
    leaf-size q = omega (arith, (law 0 q).0)

    module _ (some : c ≡ 0 → ⊥) where
      first_less : child_in w i 0 < i
      first_less = go c refl
        where
          go : (k : ℕ) → c ≡ k → child_in w i 0 < i
          go zero q = absurd (some q)
          go (suc k) q = (rw (sym ce ∙ q) at earlier).0

      module _ {j : ℕ} (f : j ≡ child_in w i 0) where
        pub less0 : j < i
        less0 = omega (arith, first_less)

        pub asks0 : SizeAsks w l x n m j
        asks0 = child-asks less0

        module _ {s : ℕ} (e : s ≡ min over (size (tree P j))) where
          tree0 : s ≡ min over (size (tree P (child_in w i 0)))
          tree0 = e ∙ ap (λ z. min over (size (tree P z))) f

          pub one_size : {r : ℕ} → c ≡ 1 → r ≡ min over (s + 1) → r ≡ min over (size (tree P i))
          one_size q h = omega (arith, tree0, (law 1 q).0)

          module _ (more : c ≡ 1 → ⊥) where
            second_less : child_in w i 1 < i
            second_less = go c refl
              where
                go : (k : ℕ) → c ≡ k → child_in w i 1 < i
                go zero q = absurd (some q)
                go (suc zero) q = absurd (more q)
                go (suc (suc k)) q = (rw (sym ce ∙ q) at earlier).1.0

            module _ {k : ℕ} (g : k ≡ child_in w i 1) where
              pub less1 : k < i
              less1 = omega (arith, second_less)

              pub asks1 : SizeAsks w l x n m k
              asks1 = child-asks less1

              module _ {t : ℕ} (d : t ≡ min over (size (tree P k))) where
                tree1 : t ≡ min over (size (tree P (child_in w i 1)))
                tree1 = d ∙ ap (λ z. min over (size (tree P z))) g

                pub two_size : {r : ℕ} → c ≡ 2 → r ≡ min over (s + t + 1) → r ≡ min over (size (tree P i))
                two_size q h = omega (arith, tree0, tree1, (law 2 q).0)

                module _ (most : c ≡ 2 → ⊥) where
                  three : c ≡ 3
                  three = go c refl
                    where
                      go : (k : ℕ) → c ≡ k → c ≡ 3
                      go zero q = absurd (some q)
                      go (suc zero) q = absurd (more q)
                      go (suc (suc zero)) q = absurd (most q)
                      go (suc (suc (suc zero))) q = q
                      go (suc (suc (suc (suc k)))) q = absurd (at_most k q)

                  third_less : child_in w i 2 < i
                  third_less = (rw (sym ce ∙ three) at earlier).1.1.0

                  module _ {o : ℕ} (v : o ≡ child_in w i 2) where
                    pub less2 : o < i
                    less2 = omega (arith, third_less)

                    pub asks2 : SizeAsks w l x n m o
                    asks2 = child-asks less2

                    pub three-size : {u r : ℕ} → u ≡ min over (size (tree P o)) → r ≡ min over (s + t + u + 1) → r ≡ min over (size (tree P i))
                    three-size {u} {r} z h =
                        let y : u ≡ min over (size (tree P (child_in w i 2))) = z ∙ ap (λ q. min over (size (tree P q))) v in
                        cap_three (size (tree P (child_in w i 0))) (size (tree P (child_in w i 1))) (size (tree P (child_in w i 2))) s t u r tree0 tree1 y h ∙ ap (min over) (sym (law 3 three).0)

pub capped_small : (s t : ℕ) → s ≡ min over t → s ≤ over
capped_small s t e = omega arith

-- ---- members

size-append : (p : Pool) (xs ys : List ℕ) → members_size p (xs ++ ys) ≡ members_size p xs + members_size p ys
unfolding members_size
size-append p [] ys = omega arith
size-append p (x ∷ xs) ys = let h = size-append p xs ys in omega arith

pub size_none : (p : Pool) → 0 ≡ min over (members_size p [])
unfolding members_size
size_none p = refl

pub size-all : (p : Pool) (es : List ℕ) (k s : ℕ) → s ≡ min over (members_size p (take k es)) → length es ≤ k → s ≡ min over (members_size p es)
size-all p es k s e h = e ∙ ap (λ z. min over (members_size p z)) (take_all k es h)

module _ {w l x es : List ℕ} {n m : ℕ} (a : MembersSizeAsks w l x es n m) {k : ℕ} (h : k < length es) where
  abbrev R : Pool
  R = tabled (Tabling w l x n m)

  pub root-room : get_or es k 0 < expression_limit
  root-room = omega (arith, a.expressions, a.there k h)

  module _ {r : ℕ} (q : r ≡ root_in x (get_or es k 0)) where
    pub body-asks : SizeAsks w l x n m r
    body-asks = record { shaped = a.shaped; there = root-there (Tabling w l x n m) a.shaped (a.there k h) q; few = a.nodes }

    body_is : tree R r ≡ body_of R (get_or es k 0)
    body_is = ap (tree R) (q ∙ sym (root-at (Tabling w l x n m) (get_or es k 0) (a.there k h)))

    pub size-more :
        {s t u : ℕ} → s ≡ min over (members_size R (take k es)) → t ≡ min over (size (tree R r)) → u ≡ min over (s + t + 5) → u ≡ min over (members_size R (take (k + 1) es))
    unfolding members_size
    size-more {s} {t} {u} e f g =
        let b : take (k + 1) es ≡ take k es ++ (get_or es k 0 ∷ []) = rw (add-one k) (take-suc es k 0 h) in
        let c : members_size R (take (k + 1) es) ≡ members_size R (take k es) + (size (body_of R (get_or es k 0)) + 5 + 0) = ap (members_size R) b ∙ size-append R (take k es) (get_or es k 0 ∷ []) in
        let d : t ≡ min over (size (body_of R (get_or es k 0))) = f ∙ ap (λ z. min over (size z)) body_is in
        omega arith

-- ---- all nodes

module _ {w l x ids es : List ℕ} {n m : ℕ} (a : WholeSizeAsks w l x ids es n m) where
  abbrev S : Pool
  S = tabled (Tabling w l x n m)

  pub many : node_limit < length ids → over ≡ min over (n + 1 + 4 * (length ids - 1) + members_size S es)
  many h = omega arith

  pub whole : {s r : ℕ} → s ≡ min over (members_size S es) → r ≡ min over (n + 1 + 4 * (length ids - 1) + s) → r ≡ min over (n + 1 + 4 * (length ids - 1) + members_size S es)
  whole e f = omega arith
