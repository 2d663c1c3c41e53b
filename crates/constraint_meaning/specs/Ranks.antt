-- THE POOL WITH THE CONSTRAINT IS ACYCLIC where the pool is and its identities are there, so that all that is proved of generation holds of it.
-- Assumes nothing.
use Rattle.std.specs.Prelude.{ℕ, zero, suc, ◌+◌, ◌<◌, ◌≤◌, ◌≡◌, refl, false, cond, List, [], ◌∷◌, ◌++◌, ◌⊎◌, length, ltb}
use Rattle.std.proofs.Common.{sym, ◌∙◌, ap, subst, inl, inr, arith, lt-ltb, le-ltb}
use Rattle.std.proofs.Math.Option.{Option, none, some, none-ne-some}
use Rattle.meaning.specs.Trees.{RowKind, FlatKind, Leaf, Expr, Expression, Forest, nth, Placed, ◌at◌, leaves, Each, Falls, Acyclic}
use Rattle.meaning.proofs.Laws.Tests.{each_left, each_right, each-join, each_map, nth-below}
use Rattle.search_meaning.specs.Search.{identity_leaf}
use Rattle.constraint_meaning.specs.Tree.{Numbered, number_from, plus, Intermediate, minus_column, plus_member, plus_identities, plus_members, constraint_tree, extended}

-- ── the forest with one expression more ──────────────────────────────────────
abbrev pub unflagged : Expr → Expression
unflagged t = record { tree = t; keep = false; keep2ns = false; id_q = false }

pub length-extended : (E : Forest) (t : Expr) → length (extended E t) ≡ suc (length E)
length-extended [] t = refl
length-extended (x ∷ E) t = ap suc (length-extended E t)

pub nth-extended : (E : Forest) (t : Expr) (e : ℕ) {x : Expression} → nth E e ≡ some x → nth (extended E t) e ≡ some x
nth-extended [] t e {x} h = absurd (none-ne-some x h)
nth-extended (y ∷ E) t zero h = h
nth-extended (y ∷ E) t (suc e) h = nth-extended E t e h

pub nth-constraint : (E : Forest) (t : Expr) → nth (extended E t) (length E) ≡ some (unflagged t)
nth-constraint [] t = refl
nth-constraint (y ∷ E) t = nth-constraint E t

-- each is the pool's or the constraint
pub nth-of-extended :
    (E : Forest) (t : Expr) (e : ℕ) {x : Expression} → nth (extended E t) e ≡ some x → (nth E e ≡ some x) ⊎ ((e ≡ length E) × (unflagged t ≡ x))
nth-of-extended [] t zero {x} h = inr (refl, cc)
nth-of-extended [] t (suc e) {x} h = absurd (none-ne-some x h)
nth-of-extended (y ∷ E) t zero h = inl h
nth-of-extended (y ∷ E) t (suc e) {x} h = go (nth-of-extended E t e h)
  where
    go : (nth E e ≡ some x) ⊎ ((e ≡ length E) × (unflagged t ≡ x)) → (nth E e ≡ some x) ⊎ ((suc e ≡ suc (length E)) × (unflagged t ≡ x))
    go (inl q) = inl q
    go (inr q) = inr (ap suc q.0, q.1)

nth-there : {A : Type 0} (l : List A) (n : ℕ) → n < length l → (a : A) × (nth l n ≡ some a)
nth-there [] n h = absurd (omega arith)
nth-there (a ∷ l) zero h = (a, refl)
nth-there (a ∷ l) (suc n) h = nth-there l n (omega arith)

-- ── leaves fall ──────────────────────────────────────────────────────────────
module _ (E : Forest) (rank : ℕ → ℕ) (m : ℕ) where
  placed_anywhere : (l : Leaf) (k n : ℕ) → Falls E rank m (l at k) → Falls E rank m (l at n)
  placed_anywhere (Leaf.cell j i a) k n h = h
  placed_anywhere (Leaf.exp i a) k n h = h
  placed_anywhere (Leaf.number j) k n h = h
  placed_anywhere (Leaf.flat j i) k n h = h
  placed_anywhere (Leaf.x j) k n h = h

  abbrev pub AllFall : Expr → Type 0
  AllFall t = Each (Falls E rank m) (leaves t)

  -- numbers of nodes do not count
  number-falls : (t : Expr) (n : ℕ) → AllFall t → AllFall (number_from n t).tree
  number-falls (Expr.leaf k l) n h = (placed_anywhere l k n h.0, tt)
  number-falls (Expr.bin k o a b) n h =
      let F = Falls E rank m in
      let x = number_from n a in
      let y = number_from x.free b in
      each-join F (leaves x.tree) (leaves y.tree)
      (number-falls a n (each_left F (leaves a) (leaves b) h))
      (number-falls b x.free (each_right F (leaves a) (leaves b) h))
  number-falls (Expr.muladd k a b c) n h =
      let F = Falls E rank m in
      let x = number_from n a in
      let y = number_from x.free b in
      let z = number_from y.free c in
      let r = each_right F (leaves a) (leaves b ++ leaves c) h in
      each-join F (leaves x.tree) (leaves y.tree ++ leaves z.tree)
      (number-falls a n (each_left F (leaves a) (leaves b ++ leaves c) h))
      (each-join F (leaves y.tree) (leaves z.tree)
      (number-falls b x.free (each_left F (leaves b) (leaves c) r))
      (number-falls c y.free (each_right F (leaves b) (leaves c) r)))
  number-falls (Expr.binc k o a l) n h = number-falls a n h
  number-falls (Expr.neg k a) n h = number-falls a n h

  plus-falls : (vc : ℕ) (c : Numbered) (e : Expr) → AllFall c.tree → AllFall e → AllFall (plus vc c e).tree
  plus-falls vc c e h k =
      each-join (Falls E rank m) ((Leaf.flat FlatKind.challenge vc at c.free) ∷ leaves c.tree) (leaves (number_from (c.free + 2) e).tree) (tt, h) (number-falls e (c.free + 2) k)

-- a higher rank is fallen from as well
falls_higher : (E : Forest) (rank : ℕ → ℕ) (m n : ℕ) → m ≤ n → (p : Placed) → Falls E rank m p → Falls E rank n p
falls_higher E rank m n h (Leaf.cell k i a at j) f = f
falls_higher E rank m n h (Leaf.exp i a at j) f = (let b = f.0 in omega arith, f.1)
falls_higher E rank m n h (Leaf.number l at j) f = f
falls_higher E rank m n h (Leaf.flat k i at j) f = f
falls_higher E rank m n h (Leaf.x k at j) f = f

module _ (E : Forest) (acyclic : Acyclic E) where
  abbrev There : ℕ → Type 0
  There e = e < length E

  -- each leaf of the constraint falls from the number of expressions
  abbrev Fall : Expr → Type 0
  Fall t = AllFall E acyclic.rank (length E) t

  identity-falls : (e : ℕ) → There e → Fall (identity_leaf e)
  identity-falls e h = let x = nth-there E e h in ((acyclic.below e x.0 x.1, x), tt)

  body-falls : (e : ℕ) (x : Expression) → nth E e ≡ some x → Fall x.tree
  body-falls e x h =
      let b = acyclic.below e x h in
      each_map (Falls E acyclic.rank (acyclic.rank e)) (Falls E acyclic.rank (length E))
      (falls_higher E acyclic.rank (acyclic.rank e) (length E) (omega arith)) (leaves x.tree) (acyclic.falls e x h)

  module _ (vc : ℕ) where
    identities_fall : (c : Numbered) (es : List ℕ) → Fall c.tree → Each There es → Fall (plus_identities vc c es).tree
    identities_fall c [] h k = h
    identities_fall c (e ∷ es) h k =
        identities_fall (plus vc c (identity_leaf e)) es
        (plus-falls E acyclic.rank (length E) vc c (identity_leaf e) h (identity-falls e k.0)) k.1

    member-falls : (c : Numbered) (e : ℕ) (o : Option Expression) → nth E e ≡ o → (i : ℕ) → Fall c.tree → Fall (plus_member vc c o i).tree
    member-falls c e none q i h = h
    member-falls c e (some x) q i h =
        plus-falls E acyclic.rank (length E) vc c (minus_column x.tree i) h
        (each-join (Falls E acyclic.rank (length E)) (leaves x.tree) ((Leaf.cell RowKind.cm i 0 at 0) ∷ []) (body-falls e x q) (tt, tt))

    members_fall : (c : Numbered) (ms : List Intermediate) → Fall c.tree → Fall (plus_members vc E c ms).tree
    members_fall c [] h = h
    members_fall c (w ∷ ms) h =
        members_fall (plus_member vc c (nth E w.expression) w.cm) ms
        (member-falls c w.expression (nth E w.expression) refl w.cm h)

    constraint-falls :
        (nodes e : ℕ) (es : List ℕ) (ms : List Intermediate) → Each There (e ∷ es) → Fall (constraint_tree vc E nodes e es ms).tree
    constraint-falls nodes e es ms h =
        members_fall (plus_identities vc (number_from nodes (identity_leaf e)) es) ms
        (identities_fall (number_from nodes (identity_leaf e)) es (identity-falls e h.0) h.1)

  -- ── ranks of the forest with a tree that falls ─────────────────────────────
  module _ (t : Expr) (fall : Fall t) where
    -- the new expression has the highest
    abbrev rank_with : ℕ → ℕ
    rank_with e = cond (ltb e (length E)) (acyclic.rank e) (length E)

    rank-kept : (e : ℕ) → There e → rank_with e ≡ acyclic.rank e
    rank-kept e h = rw (lt-ltb e (length E) h) refl

    rank-new : rank_with (length E) ≡ length E
    rank-new = rw (le-ltb (length E) (length E) (omega arith)) refl

    grows : (n : ℕ) (p : Placed) → Falls E acyclic.rank n p → Falls (extended E t) rank_with n p
    grows n (Leaf.cell k i a at j) f = f
    grows n (Leaf.exp i a at j) f =
        let x = f.1 in
        let q = rank-kept i (nth-below E i x.1) in
        let b = f.0 in
        (omega arith, (x.0, nth-extended E t i x.1))
    grows n (Leaf.number l at j) f = f
    grows n (Leaf.flat k i at j) f = f
    grows n (Leaf.x k at j) f = f

    all-grow : (n : ℕ) (s : Expr) → AllFall E acyclic.rank n s → AllFall (extended E t) rank_with n s
    all-grow n s = each_map (Falls E acyclic.rank n) (Falls (extended E t) rank_with n) (grows n) (leaves s)

    below-with : (e : ℕ) (x : Expression) → nth (extended E t) e ≡ some x → rank_with e < length (extended E t)
    below-with e x h = go (nth-of-extended E t e h)
      where
        go : (nth E e ≡ some x) ⊎ ((e ≡ length E) × (unflagged t ≡ x)) → rank_with e < length (extended E t)
        go (inl q) = let b = acyclic.below e x q in let k = rank-kept e (nth-below E e q) in let l = length-extended E t in omega arith
        go (inr q) = let k = ap rank_with q.0 ∙ rank-new in let l = length-extended E t in omega arith

    falls-with :
        (e : ℕ) (x : Expression) → nth (extended E t) e ≡ some x → Each (Falls (extended E t) rank_with (rank_with e)) (leaves x.tree)
    falls-with e x h = go (nth-of-extended E t e h)
      where
        go : (nth E e ≡ some x) ⊎ ((e ≡ length E) × (unflagged t ≡ x)) → Each (Falls (extended E t) rank_with (rank_with e)) (leaves x.tree)
        go (inl q) = subst (λ n. AllFall (extended E t) rank_with n x.tree) (sym (rank-kept e (nth-below E e q))) (all-grow (acyclic.rank e) x.tree (acyclic.falls e x q))
        go (inr q) =
            subst (λ n. AllFall (extended E t) rank_with n x.tree) (sym (ap rank_with q.0 ∙ rank-new))
            (subst (λ z. AllFall (extended E t) rank_with (length E) z.tree) q.1 (all-grow (length E) t fall))

    pub acyclic-with : Acyclic (extended E t)
    acyclic-with = record { rank = rank_with; below = below-with; falls = falls-with }

  -- THE POOL WITH THE CONSTRAINT IS ACYCLIC
  pub extended-acyclic :
      (vc nodes e : ℕ) (es : List ℕ) (ms : List Intermediate) → Each There (e ∷ es) →
      Acyclic (extended E (constraint_tree vc E nodes e es ms).tree)
  extended-acyclic vc nodes e es ms h = acyclic-with (constraint_tree vc E nodes e es ms).tree (constraint-falls vc nodes e es ms h)
