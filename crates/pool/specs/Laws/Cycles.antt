-- A walk comes back to where it began exactly when some leaf is on a cycle, and only one such leaf is the smallest.
-- Assumes nothing.
use Rattle.std.specs.Prelude.{ℕ, ◌<◌, ◌≡◌, refl, List, ◌⊎◌, ◌↔◌}
use Rattle.std.proofs.Common.{subst, inl, inr, arith}
use Rattle.std.proofs.Math.Option.{some}
use Rattle.meaning.specs.Trees.{Placed, ◌at◌, leaves, Member}
use Rattle.pool.specs.Pool.{Pool, root_of}
use Rattle.pool.specs.Trees.{tree}
use Rattle.pool.specs.Admission.{leads_to, Edge, Walk, ClosedWalk, LeadsBack, OnCycle, FirstOnCycle}

module _ (p : Pool) (table : List ℕ) where
  -- u is e, or leads on to it
  abbrev pub Reaches : ℕ → ℕ → Type 0
  Reaches u e = (u ≡ e) ⊎ Walk p table u e

  -- the edge of a leaf that leads back, and back
  pub edge_of : {u n : ℕ} (b : LeadsBack p table u n) → Edge p table b.expression u
  edge_of {u} {n} b = record { source = b.source; leaf = b.leaf at n; stands = b.stands; leads = b.leads }

  on-cycle : {e u : ℕ} → Edge p table e u → Reaches u e → (n : ℕ) × OnCycle p table n
  on-cycle {e} {u} d r = go d.leaf d.stands d.leads
    where
      go : (w : Placed) → Member w (leaves (tree p (root_of p e))) → leads_to table w ≡ some u → (n : ℕ) × OnCycle p table n
      go (l at n) m q = (n, (u, record { expression = e; source = d.source; leaf = l; stands = m; leads = q; back = r }))

  pub closed_on : ClosedWalk p table → (n : ℕ) × OnCycle p table n
  closed_on (e, Walk.one d) = on-cycle d (inl refl)
  closed_on (e, Walk.more w d) = on-cycle d (inr w)

  pub on-closed : {n : ℕ} → OnCycle p table n → ClosedWalk p table
  on-closed (u, b) = (u, go b.back)
    where
      go : Reaches u b.expression → Walk p table u u
      go (inl q) = subst (λ e. Walk p table e u → Walk p table u u) q (λ w. w) (Walk.one (edge_of b))
      go (inr w) = Walk.more w (edge_of b)

  -- A CLOSED WALK IS A LEAF ON A CYCLE
  pub closed-is-on : ClosedWalk p table ↔ ((n : ℕ) × OnCycle p table n)
  closed-is-on = (closed_on, λ o. on-closed o.1)

  -- ONLY ONE IS THE SMALLEST
  pub one-first : {m n : ℕ} → FirstOnCycle p table m → FirstOnCycle p table n → m ≡ n
  one-first {m} {n} a b =
      let f : m < n → ⊥ = λ l. b.least m l a.on in
      let g : n < m → ⊥ = λ l. a.least n l b.on in
      omega arith
