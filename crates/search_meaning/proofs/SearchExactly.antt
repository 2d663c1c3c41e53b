-- WHAT A PERSON WANTS TO KNOW OF A SEARCH, in a forest without a cycle: each refusal exactly when, what an accepted choice is, and that the limit on visits changes
-- nothing once it is enough.
-- Assumes nothing.
use Rattle.std.specs.Prelude.{ℕ, zero, suc, ◌+◌, ◌<◌, ◌≤◌, ◌≡◌, refl, Bool, true, false, cond, ◌||◌, List, [], ◌∷◌, ◌⊎◌, eqb, ltb, length}
use Rattle.std.proofs.Common.{sym, ◌∙◌, ap, inl, inr, arith}
use Rattle.std.proofs.Math.Option.{Option, none, some, none-ne-some}
use Rattle.meaning.specs.Refusals.{Refusal, Answer}
use Rattle.meaning.specs.Trees.{Leaf, Expr, Expression, Forest, nth, Placed, ◌at◌, leaves, Each, Acyclic}
use Rattle.search_meaning.specs.Degrees.{full_table}
use Rattle.search_meaning.specs.Search.{Tally, Out, done, refused, next, Read, Found, found, body, top, candidate, q_of, weight, keep, Choice, finish, onward, tries}
use Rattle.search_meaning.proofs.Unlimited.{OnlyKind, clip, clip-under, Cuts, cuts_give, cuts_bind, cuts_visit, Bodies, cuts_rule, cuts_bodies}

-- ── all candidates, with what was counted ────────────────────────────────────
-- n degree limits from d on, over the tree c: the one kept at the end
abbrev pub try_all : Option ℕ → Forest → Expr → ℕ → ℕ → Found → ℕ → Out Found
try_all limit E c zero d kept v = done kept (record { cut = 0; visits = v })
try_all limit E c (suc n) d kept v = next (candidate limit E d (full_table E) (length E) c v) (λ x k. try_all limit E c n (d + 1) (keep kept x) k.visits)

abbrev pub close : Out Found → Answer Choice
close (done x k) = finish x k.visits
close (refused r v) = Answer.refused r none

pub tries_are : (limit : Option ℕ) (E : Forest) (c : Expr) (n d : ℕ) (kept : Found) (v : ℕ) → tries limit E c n d kept v ≡ close (try_all limit E c n d kept v)
tries_are limit E c zero d kept v = refl
tries_are limit E c (suc n) d kept v = go (tries_are limit E c n (d + 1)) (candidate limit E d (full_table E) (length E) c v)
  where
    go : ((kept : Found) (v : ℕ) → tries limit E c n (d + 1) kept v ≡ close (try_all limit E c n (d + 1) kept v)) → (o : Out Found) → onward o (λ x. tries limit E c n (d + 1) (keep kept x)) ≡ close (next o (λ x k. try_all limit E c n (d + 1) (keep kept x) k.visits))
    go ih (done x k) = ih (keep kept x) k.visits
    go ih (refused r v) = refl

-- ── one of the candidates is kept ────────────────────────────────────────────
-- a candidate with a set, of one of the n degree limits from d on
pub record Given (limit : Option ℕ) (E : Forest) (c : Expr) (d n : ℕ) (r : Read) : Type 0 where
  pub limit_d : ℕ
  pub from : d ≤ limit_d
  pub below : limit_d < d + n
  pub before : ℕ
  pub tally : Tally
  pub is : candidate limit E limit_d (full_table E) (length E) c before ≡ done (some r) tally

-- each degree limit in turn yields no set
abbrev pub NoneYields : Option ℕ → Forest → Expr → ℕ → ℕ → ℕ → Type 0
NoneYields limit E c zero d v = Unit {0}
NoneYields limit E c (suc n) d v = (k : Tally) × (candidate limit E d (full_table E) (length E) c v ≡ done none k) × NoneYields limit E c n (d + 1) k.visits

keep_one : (x y : Found) {r : Read} → keep x y ≡ some r → (x ≡ some r) ⊎ (y ≡ some r)
keep_one x none h = inl h
keep_one none (some r) h = inr h
keep_one (some k) (some r) h = go (eqb (q_of k.degree) 0 || ltb (weight r) (weight k)) h
  where
    go : (b : Bool) {z : Read} → cond b (some r) (some k) ≡ some z → (some k ≡ some z) ⊎ (some r ≡ some z)
    go true h = inr h
    go false h = inl h

keep-none : (x y : Found) → keep x y ≡ none → (x ≡ none) × (y ≡ none)
keep-none x none h = (h, refl)
keep-none none (some r) h = absurd (none-ne-some r (sym h))
keep-none (some k) (some r) h = go (eqb (q_of k.degree) 0 || ltb (weight r) (weight k)) h
  where
    go : (b : Bool) → cond b (some r) (some k) ≡ none → (some k ≡ none) × (some r ≡ none)
    go true h = absurd (none-ne-some r (sym h))
    go false h = absurd (none-ne-some k (sym h))

done-found : {x y : Found} {k k' : Tally} → done x k ≡ done y k' → x ≡ y
done-found h = cc

not-refused : {x : Found} {k : Tally} {r : Refusal} {v : ℕ} → ◌≡◌ {A = Out Found} (refused r v) (done x k) → ⊥
not-refused h = let z : ◌≡◌ {A = ℕ} 0 1 = cc in omega arith

module _ (limit : Option ℕ) (E : Forest) (c : Expr) where
  -- WHAT IS KEPT WAS GIVEN by one of the degree limits, unless it was kept before
  pub kept-given : (n d : ℕ) (kept : Found) (v : ℕ) (r : Read) (k : Tally) → try_all limit E c n d kept v ≡ done (some r) k → (kept ≡ some r) ⊎ Given limit E c d n r
  kept-given zero d kept v r k h = inl (done-found h)
  kept-given (suc n) d kept v r k h = go (kept-given n (d + 1)) (candidate limit E d (full_table E) (length E) c v) refl h
    where
      Later : Type 0
      Later = (kept : Found) (v : ℕ) (r : Read) (k : Tally) → try_all limit E c n (d + 1) kept v ≡ done (some r) k → (kept ≡ some r) ⊎ Given limit E c (d + 1) n r

      later : Given limit E c (d + 1) n r → Given limit E c d (suc n) r
      later g = record { limit_d = g.limit_d; from = omega (arith, g.from); below = omega (arith, g.below); before = g.before; tally = g.tally; is = g.is }

      go :
          Later → (o : Out Found) → candidate limit E d (full_table E) (length E) c v ≡ o →
          next o (λ x k. try_all limit E c n (d + 1) (keep kept x) k.visits) ≡ done (some r) k → (kept ≡ some r) ⊎ Given limit E c d (suc n) r
      go ih (refused w u) q h = absurd (not-refused h)
      go ih (done x t) q h = by (ih (keep kept x) t.visits r k h)
        where
          one : (kept ≡ some r) ⊎ (x ≡ some r) → (kept ≡ some r) ⊎ Given limit E c d (suc n) r
          one (inl z) = inl z
          one (inr z) = inr (record { limit_d = d; from = omega arith; below = omega arith; before = v; tally = t; is = q ∙ ap (λ x. done x t) z })

          by : (keep kept x ≡ some r) ⊎ Given limit E c (d + 1) n r → (kept ≡ some r) ⊎ Given limit E c d (suc n) r
          by (inl z) = one (keep_one kept x z)
          by (inr g) = inr (later g)

  -- NOTHING IS KEPT exactly when no degree limit yields a set
  pub none_yields : (n d : ℕ) (kept : Found) (v : ℕ) (k : Tally) → try_all limit E c n d kept v ≡ done none k → (kept ≡ none) × NoneYields limit E c n d v
  none_yields zero d kept v k h = (done-found h, tt)
  none_yields (suc n) d kept v k h = go (none_yields n (d + 1)) (candidate limit E d (full_table E) (length E) c v) refl h
    where
      Later : Type 0
      Later = (kept : Found) (v : ℕ) (k : Tally) → try_all limit E c n (d + 1) kept v ≡ done none k → (kept ≡ none) × NoneYields limit E c n (d + 1) v

      go :
          Later → (o : Out Found) → candidate limit E d (full_table E) (length E) c v ≡ o →
          next o (λ x k. try_all limit E c n (d + 1) (keep kept x) k.visits) ≡ done none k → (kept ≡ none) × NoneYields limit E c (suc n) d v
      go ih (refused w u) q h = absurd (not-refused h)
      go ih (done x t) q h =
          let y = ih (keep kept x) t.visits k h in
          let z = keep-none kept x y.0 in
          (z.0, (t, q ∙ ap (λ x. done x t) z.1, y.1))

  pub yields_none : (n d v : ℕ) → NoneYields limit E c n d v → (k : Tally) × (try_all limit E c n d none v ≡ done none k)
  yields_none zero d v h = (record { cut = 0; visits = v }, refl)
  yields_none (suc n) d v h =
      let y = yields_none n (d + 1) h.0.visits h.2 in
      (y.0, ap (λ o. next o (λ x k. try_all limit E c n (d + 1) (keep none x) k.visits)) h.1 ∙ y.1)

-- ── the limit ────────────────────────────────────────────────────────────────
module _ (E : Forest) (acyclic : Acyclic E) (m : ℕ) where
  -- the leaves of the folded identities lead to expressions that are there
  abbrev pub There : Placed → Type 0
  There (l at n) = (e a : ℕ) → l ≡ Leaf.exp e a → e < length E

  nth-there : (l : Forest) (n : ℕ) → n < length l → (x : Expression) × (nth l n ≡ some x)
  nth-there [] n h = absurd (omega arith)
  nth-there (x ∷ l) zero h = (x, refl)
  nth-there (x ∷ l) (suc n) h = nth-there l n (omega arith)

  module _ (c : Expr) (there : Each There (leaves c)) where
    bodies : (d : ℕ) → Each (Bodies m (full_table E) (body (some m) E d (full_table E) (length E)) (body none E d (full_table E) (length E))) (leaves c)
    bodies d = go (leaves c) there
      where
        one : (w : Placed) → There w → Bodies m (full_table E) (body (some m) E d (full_table E) (length E)) (body none E d (full_table E) (length E)) w
        one (l at n) h = λ e a q s. let x = nth-there E e (h e a q) in cuts_bodies m E acyclic d (full_table E) (length E) e x.0 x.1 (acyclic.below e x.0 x.1) s

        go : (l : List Placed) → Each There l → Each (Bodies m (full_table E) (body (some m) E d (full_table E) (length E)) (body none E d (full_table E) (length E))) l
        go [] h = tt
        go (w ∷ l) h = (one w h.0, go l h.1)

    cuts_candidate : (d : ℕ) → Cuts m (λ k. candidate (some m) E d (full_table E) (length E) c k.visits) (λ k. candidate none E d (full_table E) (length E) c k.visits)
    cuts_candidate d =
        let u = cuts_bind m {f = λ x k. done (top (some m) E d (full_table E) x k.cut) k} {g = λ x k. done (top none E d (full_table E) x k.cut) k}
        (cuts_visit m (cuts_rule m (full_table E) (body (some m) E d (full_table E) (length E)) (body none E d (full_table E) (length E)) c (bodies d)) (some []) d) (λ x. topped d x) in
        record { same = λ k h. u.same (fresh k) h; grows = λ k. u.grows (fresh k); only = λ k. u.only (fresh k) }
      where
        fresh : Tally → Tally
        fresh k = record { cut = 0; visits = k.visits }

        topped : (d : ℕ) (x : Found) → Cuts m (λ k. done (top (some m) E d (full_table E) x k.cut) k) (λ k. done (top none E d (full_table E) x k.cut) k)
        topped d none = cuts_give m none
        topped d (some r) = record { same = λ k h. sym (clip-under m (done (found r.set _) k) h); grows = λ k. omega arith; only = λ k. tt }

    cuts_all : (n d : ℕ) (kept : Found) → Cuts m (λ k. try_all (some m) E c n d kept k.visits) (λ k. try_all none E c n d kept k.visits)
    cuts_all zero d kept = record { same = λ k h. sym (clip-under m (done kept (record { cut = 0; visits = k.visits })) h); grows = λ k. omega arith; only = λ k. tt }
    cuts_all (suc n) d kept = cuts_bind m (cuts_candidate d) (λ x. cuts_all n (d + 1) (keep kept x))

    -- WITH A LIMIT, the search without one, cut off
    pub limited : (n d : ℕ) → try_all (some m) E c n d none 0 ≡ clip m (try_all none E c n d none 0)
    limited n d = (cuts_all n d none).same (record { cut = 0; visits = 0 }) (omega arith)

    pub only-kind : (n d : ℕ) → OnlyKind (try_all none E c n d none 0)
    only-kind n d = (cuts_all n d none).only (record { cut = 0; visits = 0 })
