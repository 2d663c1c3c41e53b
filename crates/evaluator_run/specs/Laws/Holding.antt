-- THE TABLE AND THE STORE: what a table of cells holds is what meaning's store holds, and stays so as cells are written.
-- Assumes nothing.
use Rattle.std.specs.Prelude.{ℕ, zero, suc, ◌+◌, ◌<◌, ◌≡◌, Bool, cond, ◌||◌, List, [], ◌∷◌, ◌++◌, ◌⊎◌, length, get_or, set, eqb}
use Rattle.std.proofs.Math.Path.{refl, sym}
use Rattle.std.proofs.Common.{◌∙◌, ap, subst, inl, inr, arith, get_or-set_same, get_or-set_other}
use Rattle.std.proofs.Math.Bool.{true, false}
use Rattle.std.proofs.Math.Option.{none, some, none-ne-some}
use Rattle.std.proofs.Math.ListN.{length-append}
use Rattle.std.proofs.Math.Dec.{ltb}
use borrow.Author.Tests.{eqb-true, eqb-false, ltb-true, ltb-false}
use Rattle.meaning.specs.Trees.{nth}
use Rattle.meaning.specs.Steps.{Cell, same}
use Rattle.meaning.specs.Running as running
use Rattle.meaning.specs.Running.{Store, empty}
use Rattle.meaning.proofs.Laws.Cells.{same_refl, same_eq}
use Rattle.meaning.proofs.Laws.Tests.{not-true, nth-below}
use Rattle.evaluator_cells.specs.Cells.{cell_limit, id_in, index_of}
use Rattle.evaluator_run.specs.Evaluation.{is_among, adding}
use Rattle.evaluator_step.specs.Machine.{Table, table, Kept, value_at, lookup, Outcome, next, no_rule, over, stored_at, stored}
use Rattle.evaluator_cells.specs.Laws.Keys.{Small, key_of, key-same}
use Rattle.evaluator_cells.specs.Laws.Index.{index_there, index_not}
use Rattle.std.specs.Prelude as code

-- ---- members of a list by number

pub nth-there : {A : Type 0} (l : List A) (n : ℕ) → n < length l → (a : A) × (nth l n ≡ some a)
nth-there [] n h = absurd (omega arith)
nth-there (x ∷ l) zero h = (x, refl)
nth-there (x ∷ l) (suc n) h = nth-there l n (omega arith)

some_same : {A : Type 0} (a b : A) → some a ≡ some b → a ≡ b
some_same a b e = cc

-- a member of a list with one more is an older one, or the last
nth-snoc : {A : Type 0} (l : List A) (p : A) (n : ℕ) (a : A) → nth (l ++ (p ∷ [])) n ≡ some a → (nth l n ≡ some a) ⊎ ((n ≡ length l) × (p ≡ a))
nth-snoc [] p zero a e = inr (refl, some_same p a e)
nth-snoc [] p (suc n) a e = absurd (none-ne-some a e)
nth-snoc (x ∷ l) p zero a e = inl e
nth-snoc (x ∷ l) p (suc n) a e = by (nth-snoc l p n a e)
  where
    by : (nth l n ≡ some a) ⊎ ((n ≡ length l) × (p ≡ a)) → (nth l n ≡ some a) ⊎ ((suc n ≡ length (x ∷ l)) × (p ≡ a))
    by (inl q) = inl q
    by (inr q) = inr (ap suc q.0, q.1)

among-at : (ds : List Cell) (i : ℕ) (c : Cell) → nth ds i ≡ some c → is_among c ds ≡ true
unfolding is_among
among-at [] i c e = absurd (none-ne-some c e)
among-at (d ∷ ds) zero c e =
    let q : d ≡ c = some_same d c e in
    rw (q, same_refl c)
among-at (d ∷ ds) (suc i) c e = by (same d c) (among-at ds i c e)
  where
    by : (b : Bool) → is_among c ds ≡ true → (b || is_among c ds) ≡ true
    by true h = refl
    by false h = h

among_where : (ds : List Cell) (c : Cell) → is_among c ds ≡ true → (i : ℕ) × (nth ds i ≡ some c)
unfolding is_among
among_where [] c h = absurd (let z : ◌≡◌ {A = ℕ} 0 1 = cc in omega arith)
among_where (d ∷ ds) c h = by (among_where ds c) (same d c) refl h
  where
    by : (is_among c ds ≡ true → (i : ℕ) × (nth ds i ≡ some c)) → (b : Bool) → same d c ≡ b → (b || is_among c ds) ≡ true → (i : ℕ) × (nth (d ∷ ds) i ≡ some c)
    by ih true e h = (0, ap some (same_eq d c e))
    by ih false e h = let w = ih h in (suc w.0, w.1)

-- ---- a table that holds a store

-- ds are the cells written, in order
pub record Held (s : Store ℕ) (ds : List Cell) (t : Table) : Type 0 where
  pub count : length ds ≡ t.count
  pub keys : (j : ℕ) (c : Cell) → nth ds j ≡ some c → get_or t.keys j 0 ≡ key_of c
  pub small : (j : ℕ) (c : Cell) → nth ds j ≡ some c → Small c
  pub values : (j : ℕ) (c : Cell) → nth ds j ≡ some c → s c ≡ some (get_or t.values j 0)
  pub others : (c : Cell) → Small c → ((j : ℕ) → j < t.count → get_or t.keys j 0 ≡ key_of c → ⊥) → s c ≡ none

pub held_none : (t : Table) → t.count ≡ 0 → Held empty [] t
held_none t e =
    record {
      count = sym e;
      keys = λ j c q. absurd (none-ne-some c q);
      small = λ j c q. absurd (none-ne-some c q);
      values = λ j c q. absurd (none-ne-some c q);
      others = λ c l h. refl;
    }

module _ (s : Store ℕ) (ds : List Cell) (t : Table) (h : Held s ds t) where
  -- the cell at the number of a key
  cell_at : (c : Cell) (i : ℕ) → Small c → index_of t.keys t.count (key_of c) ≡ code.Some i → nth ds i ≡ some c
  cell_at c i l e =
      let w = index_there t.keys t.count (key_of c) i e in
      let d = nth-there ds i (omega (arith, w.0, h.count)) in
      let q : key_of d.0 ≡ key_of c = sym (h.keys i d.0 d.1) ∙ w.1 in
      rw (key-same d.0 c (h.small i d.0 d.1) l q) at d.1

  pub lookup-is : (c : Cell) → Small c → lookup t (key_of c) ≡ s c
  unfolding lookup
  lookup-is c l = by (index_of t.keys t.count (key_of c)) refl
    where
      by : (f : code.Option ℕ) → index_of t.keys t.count (key_of c) ≡ f → value_at t.values f ≡ s c
      by (code.Some i) e = sym (h.values i c (cell_at c i l e))
      by code.None e = sym (h.others c l (index_not t.keys t.count (key_of c) e))

  module _ (m : ℕ) (k : Kept m t) (p : Cell) (l : Small p) (v : ℕ) where
    -- a cell at another number is another cell
    apart-cell : (i j : ℕ) (d : Cell) → nth ds i ≡ some p → nth ds j ≡ some d → (j ≡ i → ⊥) → same p d ≡ false
    apart-cell i j d e f n =
        not-true (same p d)
        (λ q.
        let w : p ≡ d = same_eq p d q in
        let x : get_or t.keys i 0 ≡ get_or t.keys j 0 = h.keys i p e ∙ ap key_of w ∙ sym (h.keys j d f) in
        let a : i < t.count = omega (arith, nth-below ds i e, h.count) in
        let b : j < t.count = omega (arith, nth-below ds j f, h.count) in
        n (sym (k.chained.apart i j a b x)))

    module _ (i : ℕ) (e : index_of t.keys t.count (key_of p) ≡ code.Some i) where
      here : nth ds i ≡ some p
      here = cell_at p i l e

      old-values : (j : ℕ) (d : Cell) → nth ds j ≡ some d → cond (same p d) (some v) (s d) ≡ some (get_or (set t.values i v) j 0)
      old-values j d f = by (eqb j i) refl
        where
          by : (b : Bool) → eqb j i ≡ b → cond (same p d) (some v) (s d) ≡ some (get_or (set t.values i v) j 0)
          by true q =
              let n : j ≡ i = eqb-true j i q in
              let w : p ≡ d = some_same p d (sym here ∙ rw (← n) f) in
              let r : i < length t.values = omega (arith, nth-below ds i here, h.count, k.chained.few, k.size) in
              rw (← w, same_refl p, n, get_or-set_same t.values i v 0 r)
          by false q =
              let n : j ≡ i → ⊥ = eqb-false j i q in
              rw (apart-cell i j d here f n, get_or-set_other t.values i j v 0 n) (h.values j d f)

      old-others :
          (c : Cell) → Small c → ((j : ℕ) → j < t.count → get_or t.keys j 0 ≡ key_of c → ⊥) → cond (same p c) (some v) (s c) ≡ none
      old-others c g n =
          let q : same p c ≡ false
          = not-true (same p c)
          (λ q.
          n i (omega (arith, nth-below ds i here, h.count)) (h.keys i p here ∙ ap key_of (same_eq p c q))) in
          rw q (h.others c g n)

      held-old : Held (running.set s p v) ds (table t.heads t.nexts t.keys (set t.values i v) t.count)
      held-old = record { count = h.count; keys = h.keys; small = h.small; values = old-values; others = old-others }

      adding-old : adding p ds ≡ ds
      unfolding adding
      adding-old = rw (among-at ds i p here)

    module _ (e : index_of t.keys t.count (key_of p) ≡ code.None) (room : t.count < cell_limit) where
      nowhere : (j : ℕ) (d : Cell) → nth ds j ≡ some d → same p d ≡ false
      nowhere j d f =
          not-true (same p d)
          (λ q.
          index_not t.keys t.count (key_of p) e j (omega (arith, nth-below ds j f, h.count)) (h.keys j d f ∙ ap key_of (sym (same_eq p d q))))

      abbrev ks' : List ℕ
      ks' = set t.keys t.count (key_of p)

      abbrev vs' : List ℕ
      vs' = set t.values t.count v

      key-older : (j : ℕ) → j < t.count → get_or ks' j 0 ≡ get_or t.keys j 0
      key-older j g = get_or-set_other t.keys t.count j (key_of p) 0 (λ q. omega arith)

      key-last : get_or ks' t.count 0 ≡ key_of p
      key-last = get_or-set_same t.keys t.count (key_of p) 0 (omega (arith, k.chained.key_size))

      new-keys : (j : ℕ) (c : Cell) → nth (ds ++ (p ∷ [])) j ≡ some c → get_or ks' j 0 ≡ key_of c
      new-keys j c f = by (nth-snoc ds p j c f)
        where
          by : (nth ds j ≡ some c) ⊎ ((j ≡ length ds) × (p ≡ c)) → get_or ks' j 0 ≡ key_of c
          by (inl q) = key-older j (omega (arith, nth-below ds j q, h.count)) ∙ h.keys j c q
          by (inr q) = rw (q.0 ∙ h.count) (key-last ∙ ap key_of q.1)

      new-small : (j : ℕ) (c : Cell) → nth (ds ++ (p ∷ [])) j ≡ some c → Small c
      new-small j c f = by (nth-snoc ds p j c f)
        where
          by : (nth ds j ≡ some c) ⊎ ((j ≡ length ds) × (p ≡ c)) → Small c
          by (inl q) = h.small j c q
          by (inr q) = subst Small q.1 l

      new-values : (j : ℕ) (c : Cell) → nth (ds ++ (p ∷ [])) j ≡ some c → cond (same p c) (some v) (s c) ≡ some (get_or vs' j 0)
      new-values j c f = by (nth-snoc ds p j c f)
        where
          by : (nth ds j ≡ some c) ⊎ ((j ≡ length ds) × (p ≡ c)) → cond (same p c) (some v) (s c) ≡ some (get_or vs' j 0)
          by (inl q) =
              let g : j < t.count = omega (arith, nth-below ds j q, h.count) in
              rw (nowhere j c q, get_or-set_other t.values t.count j v 0 (λ n. omega arith)) (h.values j c q)
          by (inr q) = rw (← q.1, same_refl p, q.0 ∙ h.count, get_or-set_same t.values t.count v 0 (omega (arith, k.size)))

      new_others : (c : Cell) → Small c → ((j : ℕ) → j < t.count + 1 → get_or ks' j 0 ≡ key_of c → ⊥) → cond (same p c) (some v) (s c) ≡ none
      new_others c g n =
          let q : same p c ≡ false = not-true (same p c) (λ q. n t.count (omega arith) (key-last ∙ ap key_of (same_eq p c q))) in
          rw q (h.others c g (λ j r f. n j (omega arith) (key-older j r ∙ f)))

      held_new :
          (hs ns : List ℕ) → Held (running.set s p v) (ds ++ (p ∷ [])) (table hs ns ks' vs' (t.count + 1))
      held_new hs ns =
          record {
            count = length-append ds (p ∷ []) ∙ rw h.count;
            keys = new-keys;
            small = new-small;
            values = new-values;
            others = new_others;
          }

    adding-new : index_of t.keys t.count (key_of p) ≡ code.None → adding p ds ≡ ds ++ (p ∷ [])
    unfolding adding
    adding-new e =
        let q : is_among p ds ≡ false
        = not-true (is_among p ds)
        (λ q.
        let w = among_where ds p q in
        index_not t.keys t.count (key_of p) e w.0 (omega (arith, nth-below ds w.0 w.1, h.count)) (h.keys w.0 p w.1)) in
        rw q

    -- WHAT A STORE MAKES OF THEM
    abbrev pub Stored : Outcome → Type 0
    Stored (next u) = Held (running.set s p v) (adding p ds) u
    Stored no_rule = ⊥
    Stored over = cell_limit < length (adding p ds)

    pub stored-holds : Stored (stored t (key_of p) v)
    unfolding stored
    stored-holds = by (index_of t.keys t.count (key_of p)) refl
      where
        fresh :
            (b : Bool) → ltb t.count cell_limit ≡ b → (e : index_of t.keys t.count (key_of p) ≡ code.None)
            → Stored
            (cond b
            (next
            (table (set t.heads (id_in (key_of p)) (t.count + 1)) (set t.nexts t.count (get_or t.heads (id_in (key_of p)) 0))
            (set t.keys t.count (key_of p)) (set t.values t.count v) (t.count + 1)))
            over)
        fresh true q e = rw (adding-new e) (held_new e (ltb-true t.count cell_limit q) _ _)
        fresh false q e = rw (adding-new e, length-append ds (p ∷ [])) (omega (arith, ltb-false t.count cell_limit q, h.count))

        by : (f : code.Option ℕ) → index_of t.keys t.count (key_of p) ≡ f → Stored (stored_at t (key_of p) v f)
        by (code.Some i) e = rw (adding-old i e) (held-old i e)
        by code.None e = fresh (ltb t.count cell_limit) refl e
