-- EACH NUMBER OF A SEARCH EXACTLY WHEN its row's condition holds, in a forest without a cycle; and the limit on visits changes nothing once it is enough.
-- Assumes nothing.
use Rattle.std.specs.Prelude.{ℕ, zero, suc, ◌-◌, ◌^◌, ◌<◌, ◌≤◌, ◌≡◌, Bool, ◌⊎◌, ◌↔◌, eqb, ltb, length}
use Rattle.std.proofs.Math.Path.{refl, ap}
use Rattle.std.proofs.Common.{sym, ◌∙◌, subst, inl, inr, arith, eq-eqb, ne_eqb, eqb-true, le-leb, leb-true, leb-false, ltb-true}
use Rattle.std.proofs.Math.Bool.{true, false, cond}
use Rattle.std.proofs.Math.Option.{Option, none, some, none-ne-some}
use mathlib.Core.List.{List, [], ◌∷◌, ◌++◌}
use Rattle.std.proofs.Math.Dec.{leb}
use Rattle.std.proofs.lemmas.Bool.{eqb-false, lt-leb}
use Rattle.meaning.specs.Refusals.{Refusal, number, Answer, answer_no}
use Rattle.meaning.specs.Trees.{FlatKind, Leaf, Expr, Forest, leaves, Each, Acyclic}
use Rattle.meaning.proofs.Laws.Tests.{true-false, each-join}
use Rattle.search_meaning.specs.Search.{Tally, Out, done, refused, Read, Found, Choice, finish_at, tries, identity_leaf, folded, fold_more, folds, all_below, bits_ok, unless, search}
use Rattle.search_meaning.proofs.Unlimited.{seen, OnlyKind, clip, clip-over, clip-under}
use Rattle.search_meaning.proofs.SearchExactly.{try_all, close, tries_are, Given, NoneYields, kept-given, none_yields, yields_none, There, limited, only-kind}

module _ (E : Forest) (acyclic : Acyclic E) (es : List ℕ) (vc n ext m : ℕ) where
  -- the answer of the search with the limit m
  abbrev answer : Answer Choice
  answer = search E es vc n ext (some m)

  abbrev tree : Expr
  tree = folds vc es

  -- how many degree limits there are
  abbrev count : ℕ
  count = 2 ^ (ext - n)

  -- what is kept at the end with no limit on visits, and the visits needed
  abbrev all : Out Found
  all = try_all none E tree count 2 none 0

  abbrev pub needed : ℕ
  needed = seen all

  -- an identity, bits in their range, every identity's expression there
  pub record Ready : Type 0 where
    pub some : length es ≡ 0 → ⊥
    pub bits : bits_ok n ext ≡ true
    pub there : all_below (length E) es ≡ true

  pub record Enough : Type 0 where
    pub ready : Ready
    pub enough : needed ≤ m

  -- THE ROWS: what each number of a search says
  pub data Row (i : ℕ) : Type 0 where
    no_identity : i ≡ 17 → length es ≡ 0 → Row i
    bits : i ≡ 16 → (length es ≡ 0 → ⊥) → bits_ok n ext ≡ false → Row i
    not_there : i ≡ 3 → (length es ≡ 0 → ⊥) → bits_ok n ext ≡ true → all_below (length E) es ≡ false → Row i
    over_limit : i ≡ 15 → Ready → m < needed → Row i
    bad_kind : i ≡ 6 → Enough → (v : ℕ) → all ≡ refused Refusal.search_kind v → Row i
    no_set : i ≡ 13 → Enough → NoneYields none E tree count 2 0 → Row i
    no_quotient : i ≡ 14 → Enough → (r : Read) (k : Tally) → all ≡ done (some r) k → r.degree ≡ 0 → Row i
    chosen : i ≡ 0 → Enough → (r : Read) (k : Tally) → all ≡ done (some r) k → (r.degree ≡ 0 → ⊥) → Row i

  -- ── the number by its tests ────────────────────────────────────────────────
  abbrev out_no : Out Found → ℕ
  out_no (done none k) = 13
  out_no (done (some r) k) = cond (eqb r.degree 0) 14 0
  out_no (refused r v) = number r

  abbrev expected : ℕ
  expected = cond (eqb (length es) 0) 17 (cond (bits_ok n ext) (cond (all_below (length E) es) (cond (leb needed m) (out_no all) 15) 3) 16)

  there-of : all_below (length E) es ≡ true → (length es ≡ 0 → ⊥) → Each (There E acyclic m) (leaves tree)
  there-of h s = go es h s
    where
      leaf : (e : ℕ) → e < length E → Each (There E acyclic m) (leaves (identity_leaf e))
      leaf e l = (λ i a q. let z : e ≡ i = cc in subst (λ i. i < length E) z l, tt)

      flat : Each (There E acyclic m) (leaves (Expr.leaf 0 (Leaf.flat FlatKind.challenge vc)))
      flat = (λ i a q. absurd (let z : ◌≡◌ {A = ℕ} 0 1 = cc in omega arith), tt)

      split : (x : ℕ) (l : List ℕ) → all_below (length E) (x ∷ l) ≡ true → (x < length E) × (all_below (length E) l ≡ true)
      split x l h = by (ltb x (length E)) refl h
        where
          by : (b : Bool) → ltb x (length E) ≡ b → cond b (all_below (length E) l) false ≡ true → (x < length E) × (all_below (length E) l ≡ true)
          by true q h = (ltb-true x (length E) q, h)
          by false q h = absurd (true-false h refl)

      more : (l : List ℕ) (c : Expr) → Each (There E acyclic m) (leaves c) → all_below (length E) l ≡ true → Each (There E acyclic m) (leaves (fold_more vc c l))
      more [] c h g = h
      more (x ∷ l) c h g =
          let u = split x l g in
          more l (folded vc c (identity_leaf x))
          (each-join (There E acyclic m) (leaves (Expr.leaf 0 (Leaf.flat FlatKind.challenge vc)) ++ leaves c) (leaves (identity_leaf x))
          (each-join (There E acyclic m) (leaves (Expr.leaf 0 (Leaf.flat FlatKind.challenge vc))) (leaves c) flat h) (leaf x u.0)) u.1

      go : (l : List ℕ) → all_below (length E) l ≡ true → (length l ≡ 0 → ⊥) → Each (There E acyclic m) (leaves (folds vc l))
      go [] h s = absurd (s refl)
      go (x ∷ l) h s = let u = split x l h in more l (identity_leaf x) (leaf x u.0) u.1

  search-by : (length es ≡ 0 → ⊥) → (lim : Option ℕ) → search E es vc n ext lim ≡ unless Refusal.bits (bits_ok n ext) (unless Refusal.not_there (all_below (length E) es) (tries lim E tree count 2 none 0))
  unfolding search
  search-by s lim = go es s
    where
      go : (l : List ℕ) → (length l ≡ 0 → ⊥) → search E l vc n ext lim ≡ unless Refusal.bits (bits_ok n ext) (unless Refusal.not_there (all_below (length E) l) (tries lim E (folds vc l) count 2 none 0))
      go [] s = absurd (s refl)
      go (x ∷ l) s = refl

  ready_by : Ready → (lim : Option ℕ) → search E es vc n ext lim ≡ close (try_all lim E tree count 2 none 0)
  ready_by r lim = search-by r.some lim ∙ rw (r.bits, r.there) (tries_are lim E tree count 2 none 0)

  -- THE LIMIT CHANGES NOTHING once it is enough
  pub limit-enough : Enough → answer ≡ search E es vc n ext none
  limit-enough h =
      ready_by h.ready (some m) ∙ ap close (limited E acyclic m tree (there-of h.ready.there h.ready.some) count 2 ∙ clip-under m all h.enough) ∙ sym (ready_by h.ready none)

  -- and where the visits needed pass it, the answer is 15
  pub limit-passed : Ready → m < needed → answer ≡ Answer.refused Refusal.visits none
  limit-passed h l = ready_by h (some m) ∙ ap close (limited E acyclic m tree (there-of h.there h.some) count 2 ∙ clip-over m all l)

  -- ── the number is the expected one ─────────────────────────────────────────
  close-number : (o : Out Found) → answer_no (close o) ≡ out_no o
  close-number (done none k) = refl
  close-number (done (some r) k) = go r.degree
    where
      go : (d : ℕ) → answer_no (finish_at r.set k.visits d) ≡ cond (eqb d 0) 14 0
      go zero = refl
      go (suc d) = sym (ap (λ b. cond b 14 0) (ne_eqb (suc d) 0 (λ (q : suc d ≡ 0). omega arith)))
  close-number (refused r v) = refl

  pub is-expected : answer_no answer ≡ expected
  unfolding search
  is-expected = go (eqb (length es) 0) refl
    where
      enough : (b : Bool) → leb needed m ≡ b → answer_no (close (clip m all)) ≡ cond b (out_no all) 15
      enough true q = ap (λ o. answer_no (close o)) (clip-under m all (leb-true needed m q)) ∙ close-number all
      enough false q = ap (λ o. answer_no (close o)) (clip-over m all (leb-false needed m q))

      empty : (l : List ℕ) → length l ≡ 0 → answer_no (search E l vc n ext (some m)) ≡ 17
      empty [] h = refl
      empty (x ∷ l) h = absurd (omega arith)

      below : (c : Bool) → all_below (length E) es ≡ c → (length es ≡ 0 → ⊥) → answer_no (unless Refusal.not_there c (tries (some m) E tree count 2 none 0)) ≡ cond c (cond (leb needed m) (out_no all) 15) 3
      below true q s = ap answer_no (tries_are (some m) E tree count 2 none 0 ∙ ap close (limited E acyclic m tree (there-of q s) count 2)) ∙ enough (leb needed m) refl
      below false q s = refl

      ranged : (b c : Bool) → answer_no (unless Refusal.not_there c (tries (some m) E tree count 2 none 0)) ≡ cond c (cond (leb needed m) (out_no all) 15) 3
          → answer_no (unless Refusal.bits b (unless Refusal.not_there c (tries (some m) E tree count 2 none 0))) ≡ cond b (cond c (cond (leb needed m) (out_no all) 15) 3) 16
      ranged true c h = h
      ranged false c h = refl

      go : (b : Bool) → eqb (length es) 0 ≡ b → answer_no answer ≡ cond b 17 (cond (bits_ok n ext) (cond (all_below (length E) es) (cond (leb needed m) (out_no all) 15) 3) 16)
      go true q = empty es (eqb-true (length es) 0 q)
      go false q =
          let s = eqb-false (length es) 0 q in
          ap answer_no (search-by s (some m)) ∙ ranged (bits_ok n ext) (all_below (length E) es) (below (all_below (length E) es) refl s)

  -- ── exactly when ───────────────────────────────────────────────────────────
  enough-number : Enough → expected ≡ out_no all
  enough-number e = rw (ne_eqb (length es) 0 e.ready.some, e.ready.bits, e.ready.there, le-leb needed m e.enough)

  row_number : {i : ℕ} → Row i → i ≡ expected
  row_number (no_identity q h) = q ∙ sym (rw (eq-eqb (length es) 0 h))
  row_number (bits q s h) = q ∙ sym (rw (ne_eqb (length es) 0 s, h))
  row_number (not_there q s b h) = q ∙ sym (rw (ne_eqb (length es) 0 s, b, h))
  row_number (over_limit q r l) = q ∙ sym (rw (ne_eqb (length es) 0 r.some, r.bits, r.there, lt-leb needed m l))
  row_number (bad_kind q e v h) = q ∙ ap out_no (sym h) ∙ sym (enough-number e)
  row_number (no_set q e h) = let y = yields_none none E tree count 2 0 h in q ∙ ap out_no (sym y.1) ∙ sym (enough-number e)
  row_number (no_quotient q e r k h z) = q ∙ sym (ap (λ b. cond b 14 0) (eq-eqb r.degree 0 z)) ∙ ap out_no (sym h) ∙ sym (enough-number e)
  row_number (chosen q e r k h z) = q ∙ sym (ap (λ b. cond b 14 0) (ne_eqb r.degree 0 z)) ∙ ap out_no (sym h) ∙ sym (enough-number e)

  row_is : Row expected
  row_is = empty (eqb (length es) 0) refl
    where
      kept : Enough → (o : Out Found) → all ≡ o → OnlyKind o → Row (out_no o)
      kept e (done none k) q h = no_set refl e (none_yields none E tree count 2 none 0 k q).1
      kept e (done (some r) k) q h = go (eqb r.degree 0) refl
        where
          go : (b : Bool) → eqb r.degree 0 ≡ b → Row (cond b 14 0)
          go true z = no_quotient refl e r k q (eqb-true r.degree 0 z)
          go false z = chosen refl e r k q (eqb-false r.degree 0 z)
      kept e (refused r v) q h = bad_kind (ap number h) e v (q ∙ ap (λ r. refused r v) h)

      within : Ready → (b : Bool) → leb needed m ≡ b → Row (cond b (out_no all) 15)
      within r true q = kept (record { ready = r; enough = leb-true needed m q }) all refl (only-kind E acyclic m tree (there-of r.there r.some) count 2)
      within r false q = over_limit refl r (leb-false needed m q)

      below : (length es ≡ 0 → ⊥) → bits_ok n ext ≡ true → (b : Bool) → all_below (length E) es ≡ b → Row (cond b (cond (leb needed m) (out_no all) 15) 3)
      below s h true q = within (record { some = s; bits = h; there = q }) (leb needed m) refl
      below s h false q = not_there refl s h q

      ranged : (length es ≡ 0 → ⊥) → (b : Bool) → bits_ok n ext ≡ b → Row (cond b (cond (all_below (length E) es) (cond (leb needed m) (out_no all) 15) 3) 16)
      ranged s true q = below s q (all_below (length E) es) refl
      ranged s false q = bits refl s q

      empty : (b : Bool) → eqb (length es) 0 ≡ b → Row (cond b 17 (cond (bits_ok n ext) (cond (all_below (length E) es) (cond (leb needed m) (out_no all) 15) 3) 16))
      empty true q = no_identity refl (eqb-true (length es) 0 q)
      empty false q = ranged (eqb-false (length es) 0 q) (bits_ok n ext) refl

  -- EACH NUMBER EXACTLY WHEN ITS ROW HOLDS
  pub exactly : (k : ℕ) → (answer_no answer ≡ k) ↔ Row k
  exactly k = (λ h. subst Row (sym is-expected ∙ h) row_is, λ r. is-expected ∙ sym (row_number r))

  -- AN ACCEPTED CHOICE IS WHAT ONE OF THE DEGREE LIMITS GAVE: its set, and its q and 1 as the largest degree; q is at least 0
  pub accepted : (c : Choice) → answer ≡ Answer.done c → Enough × Given none E tree 2 count (record { set = c.set; degree = suc c.q })
  accepted c h = go ((exactly 0).0 (ap answer_no h))
    where
      wrong : (i : ℕ) → 0 ≡ suc i → Enough × Given none E tree 2 count (record { set = c.set; degree = suc c.q })
      wrong i q = absurd (omega (arith, q))

      go : Row 0 → Enough × Given none E tree 2 count (record { set = c.set; degree = suc c.q })
      go (no_identity q u) = wrong 16 q
      go (bits q u v) = wrong 15 q
      go (not_there q u v w) = wrong 2 q
      go (over_limit q u v) = wrong 14 q
      go (bad_kind q u v w) = wrong 5 q
      go (no_set q u v) = wrong 12 q
      go (no_quotient q u v w y z) = wrong 13 q
      go (chosen q e r k a z) = (e, given r.degree refl)
        where
          same : answer ≡ finish_at r.set k.visits r.degree
          same = ready_by e.ready (some m) ∙ ap close (limited E acyclic m tree (there-of e.ready.there e.ready.some) count 2 ∙ clip-under m all e.enough ∙ a)

          of_one : {r' : Read} → (none ≡ some r) ⊎ Given none E tree 2 count r → r ≡ r' → Given none E tree 2 count r'
          of_one (inl w) y = absurd (none-ne-some r w)
          of_one (inr g) y = subst (Given none E tree 2 count) y g

          given : (d : ℕ) → r.degree ≡ d → Given none E tree 2 count (record { set = c.set; degree = suc c.q })
          given zero y = absurd (z y)
          given (suc d) y =
              let w : Answer.done (record { set = r.set; q = d; visits = k.visits }) ≡ Answer.done c = sym (same ∙ ap (finish_at r.set k.visits) y) ∙ h in
              let u : r.set ≡ c.set = cc in
              let v : d ≡ c.q = cc in
              of_one (kept-given none E tree count 2 none 0 r k a) (rw (← u, ← v, ← y))
