-- A tree copied, child by child. Over plain variables.
-- Assumes nothing.
use Prim.Native.Nat.{ℕ, zero, suc, ◌+◌, ◌-◌, ◌<◌}
use mathlib.Core.Path.{◌≡◌, refl, sym, ◌∙◌, ap, subst}
use mathlib.Core.List.{List, [], ◌∷◌, ◌++◌, append_assoc}
use native.Mathlib.Omega.{arith}
use lib.ListN.{length}
use Rattle.meaning.specs.Trees.{Each}
use Rattle.frames.specs.Order.{node_limit}
use Rattle.frames.specs.Tables.{node_in}
use Rattle.frames.specs.declared.node.Node.{Node}
use Rattle.pool.specs.Pool.{Pool, node, children}
use Rattle.pool.specs.Trees.{tree}
use Rattle.pool.specs.Shaped.{Shaped}
use Rattle.pool.specs.Tabled.{tabled}
use Rattle.pool.specs.Ranking.{Tabling}
use Rattle.pool.specs.Laws.Tabled.{node-count, node_at}
use Rattle.constraint_meaning.specs.Numbers.{size}
use Rattle.constraint_pool.specs.Nodes.{moved, last, copied}
use Rattle.constraint_pool.specs.Asked.{Appends, copied_at, CopyAsks}
use Rattle.constraint_pool.specs.Copies.{size-some, copied-length, Law, count_law, appends_next, pool-kept}

module _ {w l x : List ℕ} {n m at i : ℕ} (a : CopyAsks w l x n m at i) where
  abbrev P : Pool
  P = tabled (Tabling w l x n m)

  inside : i < length P.nodes
  inside = rw (node-count (Tabling w l x n m)) a.there

  pub room-here : i < node_limit
  room-here = omega (arith, a.there, a.after, a.room)

  pub room_next : at < node_limit
  room_next = omega (arith, a.room, size-some (tree P i))

  module _ {r : Node} (e : r ≡ node_in w l i) where
    same : node P i ≡ r
    same = node_at (Tabling w l x n m) i a.there ∙ sym e

    law : (k : ℕ) → r.count ≡ k → Law P r k (tree P i)
    law k q = subst (λ j. Law P r j (tree P i)) q (subst (λ y. Law P y y.count (tree P i)) same (count_law P a.shaped i inside))

    earlier : (k : ℕ) → r.count ≡ k → Each (λ c. c < i) (children r)
    earlier k q = subst (λ y. Each (λ c. c < i) (children y)) same (a.shaped.earlier i inside)

    pub leaf-given :
        {w' l' : List ℕ} {y : Node} {q : ℕ} → r.count ≡ 0 → y ≡ moved r 0 0 0 → Appends w l at (y ∷ []) w' l' q → Appends w l at (copied_at P at i) w' l' q
    leaf-given {w'} {l'} {y} {q} z f p = subst (λ ns. Appends w l at ns w' l' q) (ap (λ b. b ∷ []) f ∙ sym ((law 0 z).1 at)) p

    module _ (some : r.count ≡ 0 → ⊥) where
      first_part : (r.c0 < i) × (size (tree P r.c0) < size (tree P i))
      first_part = go r.count refl
        where
          go : (k : ℕ) → r.count ≡ k → (r.c0 < i) × (size (tree P r.c0) < size (tree P i))
          go zero q = absurd (some q)
          go (suc zero) q = let z = law 1 q in ((rw q at (earlier 1 q)).0, omega (arith, z.0))
          go (suc (suc zero)) q = let z = law 2 q in ((rw q at (earlier 2 q)).0, omega (arith, z.0))
          go (suc (suc (suc zero))) q = let z = law 3 q in ((rw q at (earlier 3 q)).0, omega (arith, z.0))
          go (suc (suc (suc (suc k)))) q = absurd (law (suc (suc (suc (suc k)))) q)

      pub less0 : r.c0 < i
      less0 = first_part.0

      pub asks0 : CopyAsks w l x n m at r.c0
      asks0 = record { shaped = a.shaped; there = omega (arith, a.there, first_part.0); after = a.after; room = omega (arith, a.room, first_part.1) }

      module _ {w₁ l₁ : List ℕ} {j : ℕ} (p : Appends w l at (copied_at P at r.c0) w₁ l₁ j) where
        here : j ≡ at + size (tree P r.c0)
        here = omega (arith, p.next, copied-length (node P) at (tree P r.c0))

        pub before0 : (0 < j) × (j < 65536)
        before0 = (omega (arith, here, size-some (tree P r.c0)), omega (arith, here, a.room, first_part.1))

        pub room0 : j < node_limit
        room0 = omega (arith, here, a.room, first_part.1)

        pub one-given :
            {w' l' : List ℕ} {y : Node} {c q : ℕ} → r.count ≡ 1 → c ≡ j - 1 → y ≡ moved r c 0 0 → Appends w₁ l₁ j (y ∷ []) w' l' q
            → Appends w l at (copied_at P at i) w' l' q
        one-given {w'} {l'} {y} {c} {q} z d f b =
            let e₀ : c ≡ last at (size (tree P r.c0)) = omega (arith, here) in
            let g : y ≡ moved r (last at (size (tree P r.c0))) 0 0 = f ∙ ap (λ k. moved r k 0 0) e₀ in
            subst (λ ns. Appends w l at ns w' l' q) (ap (λ v. copied_at P at r.c0 ++ (v ∷ [])) g ∙ sym ((law 1 z).1 at)) (appends_next p b)

        module _ (more : r.count ≡ 1 → ⊥) where
          second-part : (r.c1 < i) × (size (tree P r.c0) + size (tree P r.c1) < size (tree P i))
          second-part = go r.count refl
            where
              go : (k : ℕ) → r.count ≡ k → (r.c1 < i) × (size (tree P r.c0) + size (tree P r.c1) < size (tree P i))
              go zero q = absurd (some q)
              go (suc zero) q = absurd (more q)
              go (suc (suc zero)) q = let z = law 2 q in ((rw q at (earlier 2 q)).1.0, omega (arith, z.0))
              go (suc (suc (suc zero))) q = let z = law 3 q in ((rw q at (earlier 3 q)).1.0, omega (arith, z.0))
              go (suc (suc (suc (suc k)))) q = absurd (law (suc (suc (suc (suc k)))) q)

          kept : tabled (Tabling w₁ l₁ x n m) ≡ P
          kept = pool-kept x n m p a.after

          pub less1 : r.c1 < i
          less1 = second-part.0

          pub asks1 : CopyAsks w₁ l₁ x n m j r.c1
          asks1 =
              record {
                shaped = subst Shaped (sym kept) a.shaped;
                there = omega (arith, a.there, second-part.0);
                after = omega (arith, here, a.after);
                room = rw kept (omega (arith, here, a.room, second-part.1));
              }

          module _ {w₂ l₂ : List ℕ} {k : ℕ} (b : Appends w₁ l₁ j (copied_at (tabled (Tabling w₁ l₁ x n m)) j r.c1) w₂ l₂ k) where
            second : Appends w₁ l₁ j (copied (node P) (at + size (tree P r.c0)) (tree P r.c1)) w₂ l₂ k
            second =
                let f : copied_at (tabled (Tabling w₁ l₁ x n m)) j r.c1 ≡ copied (node P) (at + size (tree P r.c0)) (tree P r.c1) =
                ap (λ z. copied_at z j r.c1) kept ∙ ap (λ z. copied (node P) z (tree P r.c1)) here in
                subst (λ ns. Appends w₁ l₁ j ns w₂ l₂ k) f b

            there2 : k ≡ at + size (tree P r.c0) + size (tree P r.c1)
            there2 = omega (arith, here, second.next, copied-length (node P) (at + size (tree P r.c0)) (tree P r.c1))

            pub before1 : (0 < k) × (k < 65536)
            before1 = (omega (arith, there2, size-some (tree P r.c0)), omega (arith, there2, a.room, second-part.1))

            pub room1 : k < node_limit
            room1 = omega (arith, there2, a.room, second-part.1)

            both : Appends w l at (copied_at P at r.c0 ++ copied (node P) (at + size (tree P r.c0)) (tree P r.c1)) w₂ l₂ k
            both = appends_next p second

            pub two-given :
                {w' l' : List ℕ} {y : Node} {c d q : ℕ} → r.count ≡ 2 → c ≡ j - 1 → d ≡ k - 1 → y ≡ moved r c d 0 → Appends w₂ l₂ k (y ∷ []) w' l' q
                → Appends w l at (copied_at P at i) w' l' q
            two-given {w'} {l'} {y} {c} {d} {q} z u v f g =
                let A = copied_at P at r.c0 in
                let B = copied (node P) (at + size (tree P r.c0)) (tree P r.c1) in
                let e₀ : c ≡ last at (size (tree P r.c0)) = omega (arith, here) in
                let e₁ : d ≡ last (at + size (tree P r.c0)) (size (tree P r.c1)) = omega (arith, there2) in
                let h : y ≡ moved r (last at (size (tree P r.c0))) (last (at + size (tree P r.c0)) (size (tree P r.c1))) 0 = f ∙ ap (λ s. moved r s d 0) e₀ ∙ ap (λ s. moved r (last at (size (tree P r.c0))) s 0) e₁ in
                subst (λ ns. Appends w l at ns w' l' q) (append_assoc A B (y ∷ []) ∙ ap (λ v. A ++ (B ++ (v ∷ []))) h ∙ sym ((law 2 z).1 at)) (appends_next both g)

            module _ (most : r.count ≡ 2 → ⊥) where
              third-part : (r.c2 < i) × (r.count ≡ 3)
              third-part = go r.count refl
                where
                  go : (k : ℕ) → r.count ≡ k → (r.c2 < i) × (r.count ≡ 3)
                  go zero q = absurd (some q)
                  go (suc zero) q = absurd (more q)
                  go (suc (suc zero)) q = absurd (most q)
                  go (suc (suc (suc zero))) q = ((rw q at (earlier 3 q)).1.1.0, q)
                  go (suc (suc (suc (suc k)))) q = absurd (law (suc (suc (suc (suc k)))) q)

              all-size : size (tree P i) ≡ suc (size (tree P r.c0) + (size (tree P r.c1) + size (tree P r.c2)))
              all-size = (law 3 third-part.1).0

              kept2 : tabled (Tabling w₂ l₂ x n m) ≡ P
              kept2 = pool-kept x n m both a.after

              pub less2 : r.c2 < i
              less2 = third-part.0

              pub asks2 : CopyAsks w₂ l₂ x n m k r.c2
              asks2 =
                  record {
                    shaped = subst Shaped (sym kept2) a.shaped;
                    there = omega (arith, a.there, third-part.0);
                    after = omega (arith, there2, a.after);
                    room = rw kept2 (omega (arith, there2, a.room, all-size));
                  }

              module _ {w₃ l₃ : List ℕ} {o : ℕ} (t : Appends w₂ l₂ k (copied_at (tabled (Tabling w₂ l₂ x n m)) k r.c2) w₃ l₃ o) where
                third : Appends w₂ l₂ k (copied (node P) (at + size (tree P r.c0) + size (tree P r.c1)) (tree P r.c2)) w₃ l₃ o
                third =
                    let f : copied_at (tabled (Tabling w₂ l₂ x n m)) k r.c2 ≡ copied (node P) (at + size (tree P r.c0) + size (tree P r.c1)) (tree P r.c2) =
                    ap (λ z. copied_at z k r.c2) kept2 ∙ ap (λ z. copied (node P) z (tree P r.c2)) there2 in
                    subst (λ ns. Appends w₂ l₂ k ns w₃ l₃ o) f t

                there3 : o ≡ at + size (tree P r.c0) + size (tree P r.c1) + size (tree P r.c2)
                there3 = omega (arith, there2, third.next, copied-length (node P) (at + size (tree P r.c0) + size (tree P r.c1)) (tree P r.c2))

                pub before2 : (0 < o) × (o < 65536)
                before2 = (omega (arith, there3, size-some (tree P r.c0)), omega (arith, there3, a.room, all-size))

                pub room2 : o < node_limit
                room2 = omega (arith, there3, a.room, all-size)

                pub three-given :
                    {w' l' : List ℕ} {y : Node} {c d f q : ℕ} → c ≡ j - 1 → d ≡ k - 1 → f ≡ o - 1 → y ≡ moved r c d f → Appends w₃ l₃ o (y ∷ []) w' l' q
                    → Appends w l at (copied_at P at i) w' l' q
                three-given {w'} {l'} {y} {c} {d} {f} {q} u v z g h =
                    let A = copied_at P at r.c0 in
                    let B = copied (node P) (at + size (tree P r.c0)) (tree P r.c1) in
                    let C = copied (node P) (at + size (tree P r.c0) + size (tree P r.c1)) (tree P r.c2) in
                    let m₀ = last at (size (tree P r.c0)) in
                    let m₁ = last (at + size (tree P r.c0)) (size (tree P r.c1)) in
                    let m₂ = last (at + size (tree P r.c0) + size (tree P r.c1)) (size (tree P r.c2)) in
                    let e₀ : c ≡ m₀ = omega (arith, here) in
                    let e₁ : d ≡ m₁ = omega (arith, there2) in
                    let e₂ : f ≡ m₂ = omega (arith, there3) in
                    let b : y ≡ moved r m₀ m₁ m₂ = g ∙ ap (λ s. moved r s d f) e₀ ∙ ap (λ s. moved r m₀ s f) e₁ ∙ ap (λ s. moved r m₀ m₁ s) e₂ in
                    let e₃ : ((A ++ B) ++ C) ++ (y ∷ []) ≡ A ++ (B ++ (C ++ (moved r m₀ m₁ m₂ ∷ []))) = rw (append_assoc (A ++ B) C (y ∷ []), append_assoc A B (C ++ (y ∷ [])), b) in
                    subst (λ ns. Appends w l at ns w' l' q) (e₃ ∙ sym ((law 3 third-part.1).1 at)) (appends_next (appends_next both third) h)
