-- The nodes of identities and of members, one after the other.
-- Assumes nothing.
use Prim.Native.Nat.{ℕ, suc, ◌+◌, ◌*◌}
use Rattle.std.specs.Prelude.{◌≡◌, refl}
use Rattle.std.proofs.Common.{sym, ◌∙◌}
use mathlib.Core.List.{List, [], ◌∷◌, ◌++◌, append_assoc, append-nil}
use native.Mathlib.Omega.{arith}
use Rattle.std.proofs.Math.Nat.{add-zero}
use Rattle.std.proofs.Math.ListN.{length, length-append}
use Rattle.meaning.specs.Trees.{Expr}
use Rattle.frames.specs.declared.node.Node.{Node}
use Rattle.pool.specs.Pool.{Pool, node}
use Rattle.constraint_meaning.specs.Numbers.{size}
use Rattle.constraint_pool.specs.Nodes.{identity_nodes, identities_nodes, member_nodes, body_of, members_nodes, constraint_nodes}
use Rattle.constraint_pool.specs.Copies.{copied-length}

pub identities-length : (vc n : ℕ) (es : List ℕ) → length (identities_nodes vc n es) ≡ 4 * length es
unfolding identities_nodes
identities-length vc n [] = refl
identities-length vc n (e ∷ es) = let h = identities-length vc (n + 4) es in omega arith

pub identities-append :
    (vc n : ℕ) (xs ys : List ℕ) → identities_nodes vc n (xs ++ ys) ≡ identities_nodes vc n xs ++ identities_nodes vc (n + 4 * length xs) ys
unfolding identities_nodes
identities-append vc n [] ys = simp add-zero
identities-append vc n (x ∷ xs) ys =
    let e : n + 4 + 4 * length xs ≡ n + 4 * suc (length xs) = omega arith in
    rw (identities-append vc (n + 4) xs ys, e)

pub identities-one : (vc n e : ℕ) → identities_nodes vc n (e ∷ []) ≡ identity_nodes vc n e
unfolding identities_nodes
identities-one vc n e = refl

pub member-length : (g : ℕ → Node) (vc n : ℕ) (t : Expr) (i : ℕ) → length (member_nodes g vc n t i) ≡ size t + 5
member-length g vc n t i = let h = copied-length g (n + 2) t in simp length-append (omega arith)

module _ (p : Pool) (vc : ℕ) where
  pub members-one : (n i e : ℕ) → members_nodes p vc n i (e ∷ []) ≡ member_nodes (node p) vc n (body_of p e) i
  unfolding members_nodes
  members-one n i e = append-nil (member_nodes (node p) vc n (body_of p e) i)

  pub members-append :
      (n i : ℕ) (xs ys : List ℕ) → members_nodes p vc n i (xs ++ ys) ≡ members_nodes p vc n i xs ++ members_nodes p vc (n + length (members_nodes p vc n i xs)) (i + length xs) ys
  unfolding members_nodes
  members-append n i [] ys = simp add-zero
  members-append n i (x ∷ xs) ys =
      let M = member_nodes (node p) vc n (body_of p x) i in
      let N = members_nodes p vc (n + (size (body_of p x) + 5)) (suc i) xs in
      let e : length (M ++ N) ≡ size (body_of p x) + 5 + length N = length-append M N ∙ rw (member-length (node p) vc n (body_of p x) i) in
      let f : n + (size (body_of p x) + 5) + length N ≡ n + length (M ++ N) = omega arith in
      let g : suc i + length xs ≡ i + suc (length xs) = omega arith in
      rw (members-append (n + (size (body_of p x) + 5)) (suc i) xs ys, f, g) (sym (append_assoc M N _))

-- how many there are
pub constraint-length :
    (p : Pool) (vc i e : ℕ) (es ms : List ℕ) →
    length (constraint_nodes p vc i e es ms) ≡ 1 + 4 * length es + length (members_nodes p vc (length p.nodes + 1 + 4 * length es) i ms)
unfolding constraint_nodes
constraint-length p vc i e es ms =
    let n = length p.nodes in
    let h = identities-length vc (n + 1) es in
    let g = length-append (identities_nodes vc (n + 1) es) (members_nodes p vc (n + 1 + 4 * length es) i ms) in
    omega arith
