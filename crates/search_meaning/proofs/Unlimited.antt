-- THE LIMIT ON VISITS: in a forest without a cycle a search with a limit is the search without one, cut off where its visits pass the limit. Without a limit only
-- refusal 6 can be met.
-- Assumes nothing.
use Rattle.std.specs.Prelude.{ℕ, zero, suc, ◌+◌, ◌-◌, ◌<◌, ◌≤◌, max, ◌≡◌, refl, Bool, true, false, cond, List, ltb, leb}
use Rattle.std.proofs.Common.{sym, ◌∙◌, ap, subst, arith, le-leb, leb-true, leb-false, ltb-true, ltb-false}
use Rattle.std.proofs.Math.Option.{Option, none, some}
use Rattle.std.proofs.lemmas.Bool.{lt-leb}
use Rattle.meaning.specs.Refusals.{Refusal}
use Rattle.meaning.specs.Trees.{RowKind, FlatKind, XKind, Op, Leaf, Expr, Expression, Forest, nth, Placed, ◌at◌, leaves, Each, Falls, Acyclic}
use Rattle.meaning.proofs.Laws.Tests.{each_left, each_right, each_map}
use Rattle.search_meaning.specs.Degrees.{Class, class_of, full}
use Rattle.search_meaning.specs.Search.{Tally, Out, done, refused, Search, next, bind, give, refuse, pick, cut_at, counted, Found, found, set_of, both, better, settled, free, Reads, visit, pair, splits, cut_body, reference, leaf_rule, product, rule, body_in, body, member, insert}

-- the visits made
abbrev pub seen : {A : Type 0} → Out A → ℕ
seen (done a k) = k.visits
seen (refused r v) = v

abbrev pub OnlyKind : {A : Type 0} → Out A → Type 0
OnlyKind (done a k) = Unit {0}
OnlyKind (refused r v) = r ≡ Refusal.search_kind

-- cut off where the visits pass m
abbrev pub clip : {A : Type 0} → ℕ → Out A → Out A
clip m (done a k) = cond (leb k.visits m) (done a k) (refused Refusal.visits m)
clip m (refused r v) = cond (leb v m) (refused r v) (refused Refusal.visits m)

pub clip-over : {A : Type 0} (m : ℕ) (o : Out A) → m < seen o → clip m o ≡ refused Refusal.visits m
clip-over m (done a k) h = ap (λ b. cond b (done a k) (refused Refusal.visits m)) (lt-leb k.visits m h)
clip-over m (refused r v) h = ap (λ b. cond b (refused r v) (refused Refusal.visits m)) (lt-leb v m h)

pub clip-under : {A : Type 0} (m : ℕ) (o : Out A) → seen o ≤ m → clip m o ≡ o
clip-under m (done a k) h = ap (λ b. cond b (done a k) (refused Refusal.visits m)) (le-leb k.visits m h)
clip-under m (refused r v) h = ap (λ b. cond b (refused r v) (refused Refusal.visits m)) (le-leb v m h)

module _ (m : ℕ) where
  -- s is t cut off, where no more than m visits were made before
  pub record Cuts {A : Type 0} (s t : Search A) : Type 0 where
    pub same : (k : Tally) → k.visits ≤ m → s k ≡ clip m (t k)
    pub grows : (k : Tally) → k.visits ≤ seen (t k)
    pub only : (k : Tally) → OnlyKind (t k)

  pub cuts_give : {A : Type 0} (a : A) → Cuts (give a) (give a)
  cuts_give a = record { same = λ k h. sym (clip-under m (done a k) h); grows = λ k. omega arith; only = λ k. tt }

  cuts_kind : Cuts {A = Found} (refuse Refusal.search_kind) (refuse Refusal.search_kind)
  cuts_kind = record { same = λ k h. sym (clip-under {A = Found} m (refused Refusal.search_kind k.visits) h); grows = λ k. omega arith; only = λ k. refl }

  cuts_cut : {A : Type 0} (n : ℕ) (a : A) → Cuts (cut_at n a) (cut_at n a)
  cuts_cut n a = record { same = λ k h. sym (clip-under m (cut_at n a k) h); grows = λ k. omega arith; only = λ k. tt }

  cuts_pick : {A : Type 0} (b : Bool) {s t s' t' : Search A} → Cuts s t → Cuts s' t' → Cuts (pick b s s') (pick b t t')
  cuts_pick true x y = record { same = x.same; grows = x.grows; only = x.only }
  cuts_pick false x y = record { same = y.same; grows = y.grows; only = y.only }

  pub cuts_bind : {A B : Type 0} {s t : Search A} {f g : A → Search B} → Cuts s t → ((a : A) → Cuts (f a) (g a)) → Cuts (bind s f) (bind t g)
  cuts_bind {A} {B} {s} {t} {f} {g} x y = record {
    same = λ k h. ap (λ o. next o f) (x.same k h) ∙ by (t k);
    grows = λ k. grown k (t k) (x.grows k);
    only = λ k. kinds (t k) (x.only k);
  }
    where
      by : (o : Out A) → next (clip m o) f ≡ clip m (next o g)
      by (refused r v) = go (leb v m) refl
        where
          go : (b : Bool) → leb v m ≡ b → next (cond b (refused r v) (refused Refusal.visits m)) f ≡ clip m (refused r v)
          go true q = sym (ap (λ b. cond b (refused r v) (refused Refusal.visits m)) q)
          go false q = sym (ap (λ b. cond b (refused r v) (refused Refusal.visits m)) q)
      by (done a k) = go (leb k.visits m) refl
        where
          go : (b : Bool) → leb k.visits m ≡ b → next (cond b (done a k) (refused Refusal.visits m)) f ≡ clip m (g a k)
          go true q = (y a).same k (leb-true k.visits m q)
          go false q = let l = leb-false k.visits m q in let n = (y a).grows k in sym (clip-over m (g a k) (omega (arith, l, n)))

      grown : (k : Tally) (o : Out A) → k.visits ≤ seen o → k.visits ≤ seen (next o g)
      grown k (refused r v) h = h
      grown k (done a k') h = let n = (y a).grows k' in omega (arith, h, n)

      kinds : (o : Out A) → OnlyKind o → OnlyKind (next o g)
      kinds (refused r v) h = h
      kinds (done a k) h = (y a).only k

  abbrev pub CutsR : Reads → Reads → Type 0
  CutsR f g = (s : List ℕ) (l : ℕ) → Cuts (f s l) (g s l)

  pub cuts_visit : {f g : Reads} → CutsR f g → (o : Option (List ℕ)) (l : ℕ) → Cuts (visit (some m) f o l) (visit none g o l)
  cuts_visit {f} {g} x none l = record {
    same = λ k h. go k h (ltb k.visits m) refl;
    grows = λ k. omega arith;
    only = λ k. tt;
  }
    where
      nothing : Found
      nothing = none

      go : (k : Tally) → k.visits ≤ m → (b : Bool) → ltb k.visits m ≡ b → cond b (done nothing (counted k)) (refused Refusal.visits k.visits) ≡ clip m (done nothing (counted k))
      go k h true q = let l = ltb-true k.visits m q in sym (clip-under m (done nothing (counted k)) (omega (arith, l)))
      go k h false q = let l = ltb-false k.visits m q in let z : k.visits ≡ m = omega (arith, l, h) in ap (refused Refusal.visits) z ∙ sym (clip-over m (done nothing (counted k)) (omega (arith, l)))
  cuts_visit {f} {g} x (some s) l = record {
    same = λ k h. go k h (ltb k.visits m) refl;
    grows = λ k. let n = (x s l).grows (counted k) in omega (arith, n);
    only = λ k. (x s l).only (counted k);
  }
    where
      go : (k : Tally) → k.visits ≤ m → (b : Bool) → ltb k.visits m ≡ b → cond b (f s l (counted k)) (refused Refusal.visits k.visits) ≡ clip m (g s l (counted k))
      go k h true q = let u = ltb-true k.visits m q in (x s l).same (counted k) (omega (arith, u))
      go k h false q =
          let u = ltb-false k.visits m q in
          let z : k.visits ≡ m = omega (arith, u, h) in
          let n = (x s l).grows (counted k) in
          ap (refused Refusal.visits) z ∙ sym (clip-over m (g s l (counted k)) (omega (arith, u, n)))

  cuts_pair : (d : ℕ → ℕ → ℕ) {f g f' g' : Reads} → CutsR f f' → CutsR g g' → (s : List ℕ) (l r : ℕ) → Cuts (pair (some m) d f g s l r) (pair none d f' g' s l r)
  cuts_pair d x y s l r = cuts_bind (cuts_visit x (some s) l) (λ a. cuts_bind (cuts_visit y (set_of a) r) (λ b. cuts_give (both d a b)))

  cuts_splits : {f g f' g' : Reads} → CutsR f f' → CutsR g g' → (s : List ℕ) (w n l : ℕ) (best : Found) → Cuts (splits (some m) f g s w n l best) (splits none f' g' s w n l best)
  cuts_splits x y s w zero l best = cuts_give best
  cuts_splits x y s w (suc n) l best =
      cuts_bind (cuts_pair ◌+◌ x y s l (w - l)) (λ z. cuts_pick (settled (better best z) s) (cuts_give (better best z)) (cuts_splits x y s w n (l + 1) (better best z)))

  cuts_body : (e w : ℕ) (x : Found) → Cuts (cut_body (some m) e w x) (cut_body none e w x)
  cuts_body e w none = cuts_give none
  cuts_body e w (some r) = cuts_pick (ltb w r.degree) (cuts_cut r.degree (found (insert e r.set) 1)) (cuts_give (some r))

  module _ (F : ℕ → Option ℕ) (b b' : ℕ → List ℕ → Search Found) where
    -- the bodies that a tree's leaves lead to
    abbrev pub Bodies : Placed → Type 0
    Bodies (l at n) = (e a : ℕ) → l ≡ Leaf.exp e a → (s : List ℕ) → Cuts (b e s) (b' e s)

    pub cuts_reference : (e : ℕ) → ((s : List ℕ) → Cuts (b e s) (b' e s)) → CutsR (reference (some m) F b e) (reference none F b' e)
    cuts_reference e h s l = cuts_pick (ltb l 1) (cuts_give none) (cuts_pick (member e s) (cuts_give (found s 1)) (cuts_bind (h s) (cuts_body e l)))

    cuts_column : CutsR (leaf_rule (some m) F b Class.column) (leaf_rule none F b' Class.column)
    cuts_column s l = cuts_pick (ltb l 1) (cuts_give none) (cuts_give (found s 1))

    cuts_leaf : (l : Leaf) (n : ℕ) → Bodies (l at n) → CutsR (leaf_rule (some m) F b (class_of l)) (leaf_rule none F b' (class_of l))
    cuts_leaf (Leaf.cell RowKind.cm i a) n h = cuts_column
    cuts_leaf (Leaf.cell RowKind.const i a) n h = cuts_column
    cuts_leaf (Leaf.cell RowKind.q i a) n h = λ s l. cuts_kind
    cuts_leaf (Leaf.exp i a) n h = cuts_reference i (h i a refl)
    cuts_leaf (Leaf.number x) n h = λ s l. cuts_give (found s 0)
    cuts_leaf (Leaf.flat FlatKind.public i) n h = λ s l. cuts_give (found s 0)
    cuts_leaf (Leaf.flat FlatKind.challenge i) n h = λ s l. cuts_give (found s 0)
    cuts_leaf (Leaf.flat FlatKind.eval i) n h = λ s l. cuts_kind
    cuts_leaf (Leaf.x XKind.x_div_x_sub_xi) n h = λ s l. cuts_kind
    cuts_leaf (Leaf.x XKind.x_div_x_sub_w_xi) n h = λ s l. cuts_kind
    cuts_leaf (Leaf.x XKind.plain_x) n h = cuts_column

    cuts_product : (o : Option ℕ) {f g f' g' : Reads} → CutsR f f' → CutsR g g' → CutsR (product (some m) F b o f g) (product none F b' o f' g')
    cuts_product none x y s l = cuts_kind
    cuts_product (some n) x y s l = cuts_pick (leb n l) (cuts_give (found s n)) (cuts_splits x y s l (l + 1) 0 none)

    pub cuts_rule : (x : Expr) → Each Bodies (leaves x) → CutsR (rule (some m) F b x) (rule none F b' x)
    cuts_rule (Expr.leaf n l) h s w = cuts_leaf l n h.0 s w
    cuts_rule (Expr.bin n Op.add x y) h s l = cuts_pair max (cuts_rule x (each_left Bodies (leaves x) (leaves y) h)) (cuts_rule y (each_right Bodies (leaves x) (leaves y) h)) s l l
    cuts_rule (Expr.bin n Op.sub x y) h s l = cuts_pair max (cuts_rule x (each_left Bodies (leaves x) (leaves y) h)) (cuts_rule y (each_right Bodies (leaves x) (leaves y) h)) s l l
    cuts_rule (Expr.bin n Op.mul x y) h s l =
        let u = cuts_rule x (each_left Bodies (leaves x) (leaves y) h) in
        let v = cuts_rule y (each_right Bodies (leaves x) (leaves y) h) in
        cuts_pick (free x) (cuts_visit v (some s) l) (cuts_pick (free y) (cuts_visit u (some s) l) (cuts_product (full F (Expr.bin n Op.mul x y)) u v s l))
    cuts_rule (Expr.muladd n x y z) h s l = cuts_kind
    cuts_rule (Expr.binc n o x c) h s l = cuts_visit (cuts_rule x h) (some s) l
    cuts_rule (Expr.neg n x) h s l = cuts_visit (cuts_rule x h) (some s) l

  module _ (E : Forest) (acyclic : Acyclic E) (d : ℕ) (F : ℕ → Option ℕ) where
    pub cuts_bodies : (n e : ℕ) (x : Expression) → nth E e ≡ some x → acyclic.rank e < n → (s : List ℕ) → Cuts (body (some m) E d F n e s) (body none E d F n e s)
    cuts_bodies zero e x q h s = absurd (omega arith)
    cuts_bodies (suc n) e x q h s =
        subst (λ o. Cuts (body_in (some m) E d F (body (some m) E d F n) o s) (body_in none E d F (body none E d F n) o s)) (sym q)
        (cuts_visit (cuts_rule F (body (some m) E d F n) (body none E d F n) x.tree
        (each_map (Falls E acyclic.rank (acyclic.rank e)) (Bodies F (body (some m) E d F n) (body none E d F n)) (falls (cuts_bodies n)) (leaves x.tree) (acyclic.falls e x q))) (some s) d)
      where
        Below : Type 0
        Below = (e : ℕ) (x : Expression) → nth E e ≡ some x → acyclic.rank e < n → (s : List ℕ) → Cuts (body (some m) E d F n e s) (body none E d F n e s)

        falls : Below → (w : Placed) → Falls E acyclic.rank (acyclic.rank e) w → Bodies F (body (some m) E d F n) (body none E d F n) w
        falls ih (Leaf.exp i c at k) f = λ j a z s.
            let y : i ≡ j = cc in
            subst (λ j. Cuts (body (some m) E d F n j s) (body none E d F n j s)) y (ih i f.1.0 f.1.1 (omega (arith, f.0, h)) s)
        falls ih (Leaf.cell r i c at k) f = λ j a z s. absurd (let y : ◌≡◌ {A = ℕ} 0 1 = cc in omega arith)
        falls ih (Leaf.number l at k) f = λ j a z s. absurd (let y : ◌≡◌ {A = ℕ} 0 1 = cc in omega arith)
        falls ih (Leaf.flat r i at k) f = λ j a z s. absurd (let y : ◌≡◌ {A = ℕ} 0 1 = cc in omega arith)
        falls ih (Leaf.x r at k) f = λ j a z s. absurd (let y : ◌≡◌ {A = ℕ} 0 1 = cc in omega arith)
