-- A dependency is never fused: the only fused block that a request makes is that of its own expression at its own row.
-- Assumes nothing.
use Rattle.std.specs.Prelude.{ℕ, zero, suc, ◌+◌, ◌≡◌, refl, Bool, true, false, cond, List, [], ◌∷◌, ◌++◌}
use Rattle.std.proofs.Common.{subst, arith}
use Rattle.meaning.specs.Refusals.{Answer, done}
use Rattle.meaning.specs.Trees.{Leaf, Forest, nth, Placed, ◌at◌, leaves, Each}
use Rattle.meaning.specs.Order.{Marks, Job, Asked, nothing, asked, there, primed, own, ask_leaf, ask_leaves, fresh, ask_below}
use Rattle.meaning.proofs.Laws.Tests.{true-false, then-done, done-same, each_map, each-join}

abbrev Unfused : Job → Type 0
Unfused j = j.fused ≡ false

-- fused only where it is the request's own
abbrev pub OwnFused : ℕ → ℕ → Job → Type 0
OwnFused e r j = j.fused ≡ true → (j.expression ≡ e) × (j.row ≡ r)

module _ (rows : ℕ) (E : Forest) where
  abbrev Asks : Type 0
  Asks = ℕ → ℕ → Marks → Answer Asked

  abbrev Plain : Asks → Type 0
  Plain f = (e r : ℕ) (m : Marks) (a : Asked) → f e r m ≡ done a → Each Unfused a.jobs

  leaf-plain : (f : Asks) → Plain f → (l : Leaf) (n r : ℕ) (m : Marks) (a : Asked) → ask_leaf rows f l n r m ≡ done a → Each Unfused a.jobs
  leaf-plain f P (Leaf.cell k i b) n r m a h = subst (λ z. Each Unfused z.jobs) (done-same (nothing m) a h) tt
  leaf-plain f P (Leaf.exp i b) n r m a h = let x = then-done (primed rows (Leaf.exp i b) n r) _ h in P i (r + b) m a x.2
  leaf-plain f P (Leaf.number l) n r m a h = subst (λ z. Each Unfused z.jobs) (done-same (nothing m) a h) tt
  leaf-plain f P (Leaf.flat k i) n r m a h = subst (λ z. Each Unfused z.jobs) (done-same (nothing m) a h) tt
  leaf-plain f P (Leaf.x k) n r m a h = subst (λ z. Each Unfused z.jobs) (done-same (nothing m) a h) tt

  leaves-plain : (f : Asks) → Plain f → (ls : List Placed) (r : ℕ) (m : Marks) (a : Asked) → ask_leaves rows f ls r m ≡ done a → Each Unfused a.jobs
  leaves-plain f P [] r m a h = subst (λ z. Each Unfused z.jobs) (done-same (nothing m) a h) tt
  leaves-plain f P ((l at n) ∷ ls) r m a h =
      let x = then-done (ask_leaf rows f l n r m) _ h in
      let y = then-done (ask_leaves rows f ls r x.0.marks) _ x.2 in
      let p = leaf-plain f P l n r m x.0 x.1 in
      let q = leaves-plain f P ls r x.0.marks y.0 y.1 in
      subst (λ z. Each Unfused z.jobs) (done-same _ _ y.2) (each-join Unfused x.0.jobs y.0.jobs p q)

  -- its dependencies' jobs, then its own
  fresh-parts :
      (f : Asks) → Plain f → (fused : Bool) (e r : ℕ) (m : Marks) (a : Asked) → fresh rows E f fused e r m ≡ done a →
      (js : List Job) × Each Unfused js × (a.jobs ≡ js ++ (record { expression = e; row = r; fused = fused } ∷ []))
  fresh-parts f P fused e r m a h =
      let x = then-done (there (nth E e)) _ h in
      let y = then-done (ask_leaves rows f (leaves x.0.tree) r m) _ x.2 in
      let z = then-done (own rows (leaves (asked fused x.0.tree)) r) _ y.2 in (
        y.0.jobs,
        leaves-plain f P (leaves x.0.tree) r m y.0 y.1,
        subst (λ q. q.jobs ≡ y.0.jobs ++ (record { expression = e; row = r; fused = fused } ∷ [])) (done-same _ _ z.2) refl,
      )

  below_plain : (k : ℕ) → Plain (ask_below rows E k false)
  below_plain zero e r m a h = absurd (let z : ◌≡◌ {A = ℕ} 0 1 = cc in omega arith)
  below_plain (suc k) e r m a h = go (fresh-parts (ask_below rows E k false) (below_plain k) false e r m a) (m e r) h
    where
      go :
          (fresh rows E (ask_below rows E k false) false e r m ≡ done a →
          (js : List Job) × Each Unfused js × (a.jobs ≡ js ++ (record { expression = e; row = r; fused = false } ∷ []))) →
          (b : Bool) → cond b (done (nothing m)) (fresh rows E (ask_below rows E k false) false e r m) ≡ done a → Each Unfused a.jobs
      go ih true q = subst (λ z. Each Unfused z.jobs) (done-same (nothing m) a q) tt
      go ih false q =
          let p = ih q in
          rw p.2 (each-join Unfused p.0 (record { expression = e; row = r; fused = false } ∷ []) p.1 (refl, tt))

  -- A DEPENDENCY IS NEVER FUSED
  pub only-own-fused : (k : ℕ) (fused : Bool) (e r : ℕ) (m : Marks) (a : Asked) → ask_below rows E k fused e r m ≡ done a → Each (OwnFused e r) a.jobs
  only-own-fused zero fused e r m a h = absurd (let z : ◌≡◌ {A = ℕ} 0 1 = cc in omega arith)
  only-own-fused (suc k) fused e r m a h = go (m e r) h
    where
      go : (b : Bool) → cond b (done (nothing m)) (fresh rows E (ask_below rows E k false) fused e r m) ≡ done a → Each (OwnFused e r) a.jobs
      go true q = subst (λ z. Each (OwnFused e r) z.jobs) (done-same (nothing m) a q) tt
      go false q =
          let p = fresh-parts (ask_below rows E k false) (below_plain k) fused e r m a q in
          rw p.2
          (each-join (OwnFused e r) p.0 (record { expression = e; row = r; fused = fused } ∷ [])
          (each_map Unfused (OwnFused e r) (λ j u t. absurd (true-false t u)) p.0 p.1)
          ((λ t. (refl, refl)), tt))
