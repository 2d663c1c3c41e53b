-- THE MEMBERS OF AN ACCEPTED SEARCH ARE EXPRESSIONS OF THE POOL: a number enters a set only after its body was read.
-- Assumes nothing.
use Rattle.std.specs.Prelude.{ℕ, zero, suc, ◌+◌, ◌<◌, ◌-◌, ◌^◌, max, ◌≡◌, refl, Bool, true, false, ◌||◌, cond, eqb, ltb, leb, length}
use Rattle.std.proofs.Common.{sym, subst, ltb-true}
use Rattle.std.proofs.Math.Option.{Option, none, some}
use mathlib.Core.List.{List, [], ◌∷◌}
use Rattle.meaning.specs.Refusals.{Refusal, Answer, done, refused}
use Rattle.meaning.specs.Trees.{Op, Expr, Expression, Forest, nth, Each}
use Rattle.meaning.proofs.Laws.Tests.{true-false, done-not-refused, nth-below}
use Rattle.search_meaning.specs.Degrees.{Class, class_of, full, full_table}
use Rattle.search_meaning.specs.Search.{member, insert, Tally, Out, Search, next, counted, Found, found, set_of, both, better, settled, free, Reads, room, visit, pair, splits, cut_body, reference, leaf_rule, product, rule, body_in, body, top, candidate, q_of, weight, keep, Choice, finish_at, finish, onward, tries, identity_leaf, fold_more, all_below, bits_ok, unless, search}

module _ (N : ℕ) where
  abbrev pub Below : List ℕ → Type 0
  Below s = Each (λ e. e < N) s

  -- ── what was found, and what a reading gives ───────────────────────────────
  abbrev InFound : Found → Type 0
  InFound none = Unit {0}
  InFound (some r) = Below r.set

  abbrev In : Out Found → Type 0
  In (Out.done x k) = InFound x
  In (Out.refused r v) = Unit {0}

  abbrev InSet : Option (List ℕ) → Type 0
  InSet none = Unit {0}
  InSet (some s) = Below s

  abbrev Good : Reads → Type 0
  Good f = (s : List ℕ) (m : ℕ) (k : Tally) → Below s → In (f s m k)

  insert-below : (e : ℕ) (s : List ℕ) → e < N → Below s → Below (insert e s)
  insert-below e [] h k = (h, tt)
  insert-below e (i ∷ s) h k = go (insert-below e s h k.1) (eqb e i) (ltb e i)
    where
      go : Below (insert e s) → (b c : Bool) → Below (cond b (i ∷ s) (cond c (e ∷ i ∷ s) (i ∷ insert e s)))
      go r true c = k
      go r false true = (h, k)
      go r false false = (k.0, r)

  set_in : (x : Found) → InFound x → InSet (set_of x)
  set_in none h = tt
  set_in (some r) h = h

  both_in : (d : ℕ → ℕ → ℕ) (x y : Found) → InFound y → InFound (both d x y)
  both_in d x none h = tt
  both_in d x (some r) h = h

  pick_in : (b : Bool) (x y : Found) → InFound x → InFound y → InFound (cond b x y)
  pick_in true x y h k = h
  pick_in false x y h k = k

  better_in : (x y : Found) → InFound x → InFound y → InFound (better x y)
  better_in x none h k = h
  better_in none (some r) h k = k
  better_in (some b) (some r) h k = pick_in (ltb (length r.set) (length b.set)) (some r) (some b) k h

  next_in : (o : Out Found) (f : Found → Search Found) → In o → ((x : Found) (k : Tally) → InFound x → In (f x k)) → In (next o f)
  next_in (Out.done x k) f h g = g x k h
  next_in (Out.refused r v) f h g = tt

  -- one of two by a test
  one_in : (b : Bool) (x y : Out Found) → In x → In y → In (cond b x y)
  one_in true x y h k = h
  one_in false x y h k = k

  module _ (limit : Option ℕ) where
    visit_in : (f : Reads) → Good f → (o : Option (List ℕ)) → InSet o → (m : ℕ) (k : Tally) → In (visit limit f o m k)
    visit_in f g none h m k = one_in (room limit k.visits) (Out.done none (counted k)) (Out.refused Refusal.visits k.visits) tt tt
    visit_in f g (some s) h m k =
        one_in (room limit k.visits) (f s m (counted k)) (Out.refused Refusal.visits k.visits) (g s m (counted k) h) tt

    pair_in :
        (d : ℕ → ℕ → ℕ) (f g : Reads) → Good f → Good g → (s : List ℕ) → Below s → (l r : ℕ) (k : Tally) → In (pair limit d f g s l r k)
    pair_in d f g p q s h l r k =
        next_in (visit limit f (some s) l k) _ (visit_in f p (some s) h l k) (λ x k₁ hx.
        next_in (visit limit g (set_of x) r k₁) _ (visit_in g q (set_of x) (set_in x hx) r k₁) (λ y k₂ hy.
        both_in d x y hy))

    splits_in :
        (f g : Reads) → Good f → Good g → (s : List ℕ) → Below s → (m n l : ℕ) (best : Found) → InFound best → (k : Tally) →
        In (splits limit f g s m n l best k)
    splits_in f g p q s h m zero l best b k = b
    splits_in f g p q s h m (suc n) l best b k =
        next_in (pair limit ◌+◌ f g s l (m - l) k) _ (pair_in ◌+◌ f g p q s h l (m - l) k) (λ y k₁ hy.
        let c = better_in best y b hy in
        one_in (settled (better best y) s) (Out.done (better best y) k₁) (splits limit f g s m n (l + 1) (better best y) k₁) c
        (splits_in f g p q s h m n (l + 1) (better best y) c k₁))

    -- a body that was read is there
    abbrev InAt : ℕ → Out Found → Type 0
    InAt e (Out.done none k) = Unit {0}
    InAt e (Out.done (some r) k) = (e < N) × Below r.set
    InAt e (Out.refused r v) = Unit {0}

    in-at : (e : ℕ) → e < N → (o : Out Found) → In o → InAt e o
    in-at e h (Out.done none k) g = tt
    in-at e h (Out.done (some r) k) g = (h, g)
    in-at e h (Out.refused r v) g = tt

    cut_in : (e m : ℕ) (o : Out Found) → InAt e o → In (next o (cut_body limit e m))
    cut_in e m (Out.done none k) h = tt
    cut_in e m (Out.done (some r) k) h =
        one_in (ltb m r.degree) _ (Out.done (some r) k) (insert-below e r.set h.0 h.1) h.1
    cut_in e m (Out.refused r v) h = tt

    module _ (full_of : ℕ → Option ℕ) (body : ℕ → List ℕ → Search Found) (there : (e : ℕ) (s : List ℕ) (k : Tally) → Below s → InAt e (body e s k)) where
      reference_in : (e : ℕ) → Good (reference limit full_of body e)
      reference_in e s m k h =
          one_in (ltb m 1) (Out.done none k) _ tt
          (one_in (member e s) (Out.done (found s 1) k) _ h (cut_in e m (body e s k) (there e s k h)))

      leaf_in_lem : (c : Class) → Good (leaf_rule limit full_of body c)
      leaf_in_lem Class.constant s m k h = h
      leaf_in_lem Class.evaluation s m k h = tt
      leaf_in_lem Class.column s m k h = one_in (ltb m 1) (Out.done none k) (Out.done (found s 1) k) tt h
      leaf_in_lem Class.other s m k h = tt
      leaf_in_lem (Class.reference e) s m k h = reference_in e s m k h

      product_in : (o : Option ℕ) (f g : Reads) → Good f → Good g → Good (product limit full_of body o f g)
      product_in none f g p q s m k h = tt
      product_in (some n) f g p q s m k h =
          one_in (leb n m) (Out.done (found s n) k) _ h (splits_in f g p q s h m (m + 1) 0 none tt k)

      rule_in : (t : Expr) → Good (rule limit full_of body t)
      rule_in (Expr.leaf n l) s m k h = leaf_in_lem (class_of l) s m k h
      rule_in (Expr.bin n Op.add a b) s m k h = pair_in max (rule limit full_of body a) (rule limit full_of body b) (rule_in a) (rule_in b) s h m m k
      rule_in (Expr.bin n Op.sub a b) s m k h = pair_in max (rule limit full_of body a) (rule limit full_of body b) (rule_in a) (rule_in b) s h m m k
      rule_in (Expr.bin n Op.mul a b) s m k h =
          let f = rule limit full_of body a in
          let g = rule limit full_of body b in
          let o = full full_of (Expr.bin n Op.mul a b) in
          one_in (free a) (visit limit g (some s) m k) (cond (free b) (visit limit f (some s) m k) (product limit full_of body o f g s m k))
          (visit_in g (rule_in b) (some s) h m k)
          (one_in (free b) (visit limit f (some s) m k) (product limit full_of body o f g s m k) (visit_in f (rule_in a) (some s) h m k)
          (product_in o f g (rule_in a) (rule_in b) s m k h))
      rule_in (Expr.muladd n a b c) s m k h = tt
      rule_in (Expr.binc n o a l) s m k h = visit_in (rule limit full_of body a) (rule_in a) (some s) h m k
      rule_in (Expr.neg n a) s m k h = visit_in (rule limit full_of body a) (rule_in a) (some s) h m k

-- ── the search of a pool ─────────────────────────────────────────────────────
module _ (E : Forest) (limit : Option ℕ) where
  module _ (d : ℕ) (fulls : ℕ → Option ℕ) where
    -- of an expression that is there or not
    body-one :
        (b : ℕ → List ℕ → Search Found) → ((e : ℕ) (s : List ℕ) (k : Tally) → Below (length E) s → InAt (length E) limit e (b e s k)) →
        (e : ℕ) (o : Option Expression) → nth E e ≡ o → (s : List ℕ) (k : Tally) → Below (length E) s →
        InAt (length E) limit e (body_in limit E d fulls b o s k)
    body-one b g e none q s k h = tt
    body-one b g e (some x) q s k h =
        in-at (length E) limit e (nth-below E e q) (visit limit (rule limit fulls b x.tree) (some s) d k)
        (visit_in (length E) limit (rule limit fulls b x.tree) (rule_in (length E) limit fulls b g x.tree) (some s) h d k)

    body_in_lem : (n e : ℕ) (s : List ℕ) (k : Tally) → Below (length E) s → InAt (length E) limit e (body limit E d fulls n e s k)
    body_in_lem zero e s k h = tt
    body_in_lem (suc n) e s k h = body-one (body limit E d fulls n) (body_in_lem n) e (nth E e) refl s k h

    top_in : (x : Found) (cut : ℕ) → InFound (length E) x → InFound (length E) (top limit E d fulls x cut)
    top_in none cut h = tt
    top_in (some r) cut h = h

    candidate_in : (n : ℕ) (c : Expr) (v : ℕ) → In (length E) (candidate limit E d fulls n c v)
    candidate_in n c v =
        next_in (length E) (visit limit (rule limit fulls (body limit E d fulls n) c) (some []) d (record { cut = 0; visits = v })) _
        (visit_in (length E) limit (rule limit fulls (body limit E d fulls n) c) (rule_in (length E) limit fulls (body limit E d fulls n) (body_in_lem n) c) (some []) tt d _)
        (λ x k h. top_in x k.cut h)

  abbrev InAnswer : Answer Choice → Type 0
  InAnswer (done x) = Below (length E) x.set
  InAnswer (refused r n) = Unit {0}

  keep_in : (x y : Found) → InFound (length E) x → InFound (length E) y → InFound (length E) (keep x y)
  keep_in x none h k = h
  keep_in none (some r) h k = k
  keep_in (some a) (some r) h k = pick_in (length E) (eqb (q_of a.degree) 0 || ltb (weight r) (weight a)) (some r) (some a) k h

  finish-at : (s : List ℕ) (v n : ℕ) → Below (length E) s → InAnswer (finish_at s v n)
  finish-at s v zero h = tt
  finish-at s v (suc q) h = h

  finish_in : (x : Found) (v : ℕ) → InFound (length E) x → InAnswer (finish x v)
  finish_in none v h = tt
  finish_in (some r) v h = finish-at r.set v r.degree h

  onward_in :
      (o : Out Found) (f : Found → ℕ → Answer Choice) → In (length E) o → ((x : Found) (v : ℕ) → InFound (length E) x → InAnswer (f x v)) →
      InAnswer (onward o f)
  onward_in (Out.done x k) f h g = g x k.visits h
  onward_in (Out.refused r v) f h g = tt

  tries_in : (c : Expr) (n d : ℕ) (kept : Found) (v : ℕ) → InFound (length E) kept → InAnswer (tries limit E c n d kept v)
  tries_in c zero d kept v h = finish_in kept v h
  tries_in c (suc n) d kept v h =
      onward_in (candidate limit E d (full_table E) (length E) c v) _ (candidate_in d (full_table E) (length E) c v)
      (λ x w g. tries_in c n (d + 1) (keep kept x) w (keep_in kept x h g))

  unless_in : (r : Refusal) (b : Bool) (a : Answer Choice) → InAnswer a → InAnswer (unless r b a)
  unless_in r true a h = h
  unless_in r false a h = tt

  search_in : (es : List ℕ) (vc n ext : ℕ) → InAnswer (search E es vc n ext limit)
  unfolding search
  search_in [] vc n ext = tt
  search_in (e ∷ es) vc n ext =
      unless_in Refusal.bits (bits_ok n ext) _
      (unless_in Refusal.not_there (all_below (length E) (e ∷ es)) _
      (tries_in (fold_more vc (identity_leaf e) es) (2 ^ (ext - n)) 2 none 0 tt))

  -- THE MEMBERS ARE THERE
  pub members-there : (es : List ℕ) (vc n ext : ℕ) (x : Choice) → search E es vc n ext limit ≡ done x → Each (λ e. e < length E) x.set
  members-there es vc n ext x h = subst InAnswer h (search_in es vc n ext)

  -- ── and so are the identities ──────────────────────────────────────────────
  all-below : (n : ℕ) (es : List ℕ) → all_below n es ≡ true → Each (λ e. e < n) es
  all-below n [] h = tt
  all-below n (e ∷ es) h = go (all-below n es) (ltb e n) refl h
    where
      go :
          (all_below n es ≡ true → Each (λ i. i < n) es) → (b : Bool) → ltb e n ≡ b → cond b (all_below n es) false ≡ true →
          (e < n) × Each (λ i. i < n) es
      go r true q k = (ltb-true e n q, r k)
      go r false q k = absurd (true-false k refl)

  passed : (r : Refusal) (b : Bool) (a : Answer Choice) {x : Choice} → unless r b a ≡ done x → (b ≡ true) × (a ≡ done x)
  passed r true a h = (refl, h)
  passed r false a h = absurd (done-not-refused (sym h))

  pub identities-there :
      (es : List ℕ) (vc n ext : ℕ) (x : Choice) → search E es vc n ext limit ≡ done x → Each (λ e. e < length E) es
  unfolding search
  identities-there [] vc n ext x h = tt
  identities-there (e ∷ es) vc n ext x h =
      all-below (length E) (e ∷ es) (passed Refusal.not_there (all_below (length E) (e ∷ es)) _ (passed Refusal.bits (bits_ok n ext) _ h).1).0

  -- and there is one
  pub some-identity : (vc n ext : ℕ) (x : Choice) → search E [] vc n ext limit ≡ done x → ⊥
  unfolding search
  some-identity vc n ext x h = done-not-refused (sym h)
