-- Fixing a segment is a renaming by the map that it ends with, its new temporaries are apart, and no exp cell is left.
-- Assumes nothing.
use Rattle.std.specs.Prelude.{ℕ, suc, ◌≤◌, ◌<◌, ◌≡◌, refl, Bool, true, false, ◌&&◌, cond, List, [], ◌∷◌, ◌⊎◌, eqb}
use Rattle.std.proofs.Common.{sym, ◌∙◌, ap, ap₂, subst, inl, inr, arith, eqb-true}
use Rattle.std.proofs.Math.Option.{Option, none, some, none-ne-some, some-injective}
use Rattle.meaning.specs.Trees.{Each}
use Rattle.meaning.specs.Steps.{Kind, Cell, Ref, Step, step, exp_cell}
use Rattle.meaning.specs.Building.{Segment}
use Rattle.meaning.proofs.Laws.Tests.{eqb_same, and_left, and_right}
use Rattle.fixed_meaning.specs.Fixing.{Plan, Map, Fixing, begin, become, given, grow, rename_ref, fix_cell, meet_cell, fix_ref, fix_refs, fix_step, fix_list, fix_end, fix_segment}
use Rattle.fixed_meaning.specs.Demand3Fixed.{NotExp}
use Rattle.fixed_meaning.specs.Renaming.{rename_refs, rename_step, rename, InRef, InStep, In}

-- ── one more temporary ───────────────────────────────────────────────────────
is_it : (e r e' r' : ℕ) → (eqb e e' && eqb r r') ≡ true → exp_cell e r ≡ exp_cell e' r'
is_it e r e' r' h =
    let a : e ≡ e' = eqb-true e e' (and_left (eqb e e') (eqb r r') h) in
    let b : r ≡ r' = eqb-true r r' (and_right (eqb e e') (eqb r r') h) in
    ap₂ exp_cell a b

pub given-there : (m : Map) (e r t : ℕ) → given m e r t e r ≡ some t
given-there m e r t = rw (eqb_same e, eqb_same r)

-- what the map with one more says
given-cases : (m : Map) (e r t e' r' u : ℕ) → given m e r t e' r' ≡ some u → ((exp_cell e r ≡ exp_cell e' r') × (t ≡ u)) ⊎ (m e' r' ≡ some u)
given-cases m e r t e' r' u h = go (eqb e e' && eqb r r') refl h
  where
    go : (b : Bool) → (eqb e e' && eqb r r') ≡ b → cond b (some t) (m e' r') ≡ some u → ((exp_cell e r ≡ exp_cell e' r') × (t ≡ u)) ⊎ (m e' r' ≡ some u)
    go true s k = inl (is_it e r e' r' s, some-injective _ _ k)
    go false s k = inr k

-- ── the map only grows ───────────────────────────────────────────────────────
pub record Extends (m m' : Map) : Type 0 where
  pub keeps : (e r t : ℕ) → m e r ≡ some t → m' e r ≡ some t

pub extends-refl : (m : Map) → Extends m m
extends-refl m = record { keeps = λ e r t h. h }

pub extends_trans : {m m' m'' : Map} → Extends m m' → Extends m' m'' → Extends m m''
extends_trans a b = record { keeps = λ e r t h. b.keeps e r t (a.keeps e r t h) }

grow-extends : (a b m : Option ℕ) (e r : ℕ) (s : Fixing) → s.map e r ≡ m → Extends s.map (grow a b m e r s).map
grow-extends (some c) b m e r s q = extends-refl s.map
grow-extends none (some k) m e r s q = extends-refl s.map
grow-extends none none (some t) e r s q = extends-refl s.map
grow-extends none none none e r s q = record { keeps = λ e' r' t h. go e' r' t h (eqb e e' && eqb r r') refl }
  where
    go : (e' r' t : ℕ) → s.map e' r' ≡ some t → (b : Bool) → (eqb e e' && eqb r r') ≡ b → cond b (some s.next) (s.map e' r') ≡ some t
    go e' r' t h true k =
        let z : exp_cell e r ≡ exp_cell e' r' = is_it e r e' r' k in
        let z₁ : e ≡ e' = cc in
        let z₂ : r ≡ r' = cc in
        absurd (none-ne-some t (sym q ∙ ap₂ s.map z₁ z₂ ∙ h))
    go e' r' t h false k = h

-- once met, a cell stands where every later map has it
grow_settles :
    (a b m : Option ℕ) (e r : ℕ) (s : Fixing) → s.map e r ≡ m → (M : Map) → Extends (grow a b m e r s).map M →
    become a b ((grow a b m e r s).map e r) e r ≡ become a b (M e r) e r
grow_settles (some c) b m e r s q M x = refl
grow_settles none (some k) m e r s q M x = refl
grow_settles none none (some t) e r s q M x = rw (q, x.keeps e r t q)
grow_settles none none none e r s q M x =
    rw (given-there s.map e r s.next, x.keeps e r s.next (given-there s.map e r s.next))

grow-settled : (a b m : Option ℕ) (e r : ℕ) (s : Fixing) → s.map e r ≡ m → NotExp (become a b ((grow a b m e r s).map e r) e r)
grow-settled (some c) b m e r s q = tt
grow-settled none (some k) m e r s q = tt
grow-settled none none (some t) e r s q = rw q tt
grow-settled none none none e r s q = rw (given-there s.map e r s.next) tt

-- ── fixing is a renaming ─────────────────────────────────────────────────────
module _ (L : Plan) where
  cell-extends : (c : Cell) (s : Fixing) → Extends s.map (meet_cell L c s).map
  cell-extends (Cell.cell (Kind.row k) i r) s = extends-refl s.map
  cell-extends (Cell.cell (Kind.flat k) i r) s = extends-refl s.map
  cell-extends (Cell.cell (Kind.x k) i r) s = extends-refl s.map
  cell-extends (Cell.cell Kind.exp e r) s = grow-extends (L.im e) (L.column e) (s.map e r) e r s refl
  cell-extends (Cell.cell Kind.tmp i r) s = extends-refl s.map
  cell-extends (Cell.cell Kind.f i r) s = extends-refl s.map
  cell-extends (Cell.cell Kind.tmp_exp i r) s = extends-refl s.map
  cell-extends (Cell.cell (Kind.bare k) i r) s = extends-refl s.map

  cell_settles : (c : Cell) (s : Fixing) (M : Map) → Extends (meet_cell L c s).map M → fix_cell L (meet_cell L c s).map c ≡ fix_cell L M c
  cell_settles (Cell.cell (Kind.row k) i r) s M x = refl
  cell_settles (Cell.cell (Kind.flat k) i r) s M x = refl
  cell_settles (Cell.cell (Kind.x k) i r) s M x = refl
  cell_settles (Cell.cell Kind.exp e r) s M x = grow_settles (L.im e) (L.column e) (s.map e r) e r s refl M x
  cell_settles (Cell.cell Kind.tmp i r) s M x = refl
  cell_settles (Cell.cell Kind.f i r) s M x = refl
  cell_settles (Cell.cell Kind.tmp_exp i r) s M x = refl
  cell_settles (Cell.cell (Kind.bare k) i r) s M x = refl

  -- a cell of which M leaves no exp
  abbrev pub Settled : Map → Cell → Type 0
  Settled M c = NotExp (fix_cell L M c)

  cell-settled : (c : Cell) (s : Fixing) → Settled (meet_cell L c s).map c
  cell-settled (Cell.cell (Kind.row k) i r) s = tt
  cell-settled (Cell.cell (Kind.flat k) i r) s = tt
  cell-settled (Cell.cell (Kind.x k) i r) s = tt
  cell-settled (Cell.cell Kind.exp e r) s = grow-settled (L.im e) (L.column e) (s.map e r) e r s refl
  cell-settled (Cell.cell Kind.tmp i r) s = tt
  cell-settled (Cell.cell Kind.f i r) s = tt
  cell-settled (Cell.cell Kind.tmp_exp i r) s = tt
  cell-settled (Cell.cell (Kind.bare k) i r) s = tt

  -- what is fixed is the renaming under every map that extends the one after it, and no exp is left
  pub record Renamed (M : Map) (x : Ref) (y : Ref) : Type 0 where
    pub is : y ≡ rename_ref (fix_cell L M) x
    pub settled : InRef (Settled M) x

  ref-extends : (x : Ref) (s : Fixing) → Extends s.map (fix_ref L x s).after.map
  ref-extends (Ref.var c) s = cell-extends c s
  ref-extends (Ref.number l n) s = extends-refl s.map

  ref_renamed : (x : Ref) (s : Fixing) (M : Map) → Extends (fix_ref L x s).after.map M → Renamed M x (fix_ref L x s).out
  ref_renamed (Ref.var c) s M k = record { is = ap Ref.var (cell_settles c s M k); settled = subst NotExp (cell_settles c s M k) (cell-settled c s) }
  ref_renamed (Ref.number l n) s M k = record { is = refl; settled = tt }

  refs-extends : (xs : List Ref) (s : Fixing) → Extends s.map (fix_refs L xs s).after.map
  refs-extends [] s = extends-refl s.map
  refs-extends (x ∷ xs) s = extends_trans (ref-extends x s) (refs-extends xs (fix_ref L x s).after)

  refs_renamed :
      (xs : List Ref) (s : Fixing) (M : Map) → Extends (fix_refs L xs s).after.map M →
      ((fix_refs L xs s).out ≡ rename_refs (fix_cell L M) xs) × Each (InRef (Settled M)) xs
  refs_renamed [] s M k = (refl, tt)
  refs_renamed (x ∷ xs) s M k =
      let s' = (fix_ref L x s).after in
      let u = ref_renamed x s M (extends_trans (refs-extends xs s') k) in
      let v = refs_renamed xs s' M k in
      (ap₂ (λ a b. a ∷ b) u.is v.0, (u.settled, v.1))

  step-extends : (x : Step) (s : Fixing) → Extends s.map (fix_step L x s).after.map
  step-extends x s = extends_trans (refs-extends x.sources s) (ref-extends x.destination (fix_refs L x.sources s).after)

  step_renamed :
      (x : Step) (s : Fixing) (M : Map) → Extends (fix_step L x s).after.map M →
      ((fix_step L x s).out ≡ rename_step (fix_cell L M) x) × InStep (Settled M) x
  step_renamed x s M k =
      let s' = (fix_refs L x.sources s).after in
      let u = ref_renamed x.destination s' M k in
      let v = refs_renamed x.sources s M (extends_trans (ref-extends x.destination s') k) in
      (ap₂ (λ a b. step x.op a b) u.is v.0, (u.settled, v.1))

  pub list-extends : (xs : List Step) (s : Fixing) → Extends s.map (fix_list L xs s).after.map
  list-extends [] s = extends-refl s.map
  list-extends (x ∷ xs) s = extends_trans (step-extends x s) (list-extends xs (fix_step L x s).after)

  -- FIXING A LIST IS A RENAMING, by the map after it and by every map that extends it
  pub list_renamed :
      (xs : List Step) (s : Fixing) (M : Map) → Extends (fix_list L xs s).after.map M →
      ((fix_list L xs s).out ≡ rename (fix_cell L M) xs) × In (Settled M) xs
  list_renamed [] s M k = (refl, tt)
  list_renamed (x ∷ xs) s M k =
      let s' = (fix_step L x s).after in
      let u = step_renamed x s M (extends_trans (list-extends xs s') k) in
      let v = list_renamed xs s' M k in
      (ap₂ (λ a b. a ∷ b) u.0 v.0, (u.1, v.1))

  -- FIXING A SEGMENT IS A RENAMING by the map that it ends with, and leaves no exp
  pub segment_renamed :
      (S : Segment) → let f = fix_cell L (fix_end L S).map in
      fix_segment L S ≡ record { first = rename f S.first; i = rename f S.i; last = rename f S.last; counter = (fix_end L S).next }
  segment_renamed S =
      let M = (fix_end L S).map in
      let s₁ = (fix_list L S.first (begin S.counter)).after in
      let s₂ = (fix_list L S.i s₁).after in
      let a = (list_renamed S.first (begin S.counter) M (extends_trans (list-extends S.i s₁) (list-extends S.last s₂))).0 in
      let b = (list_renamed S.i s₁ M (list-extends S.last s₂)).0 in
      let c = (list_renamed S.last s₂ M (extends-refl M)).0 in
      cc

  pub segment-settled : (S : Segment) → let M = (fix_end L S).map in In (Settled M) S.first × In (Settled M) S.i × In (Settled M) S.last
  segment-settled S =
      let M = (fix_end L S).map in
      let s₁ = (fix_list L S.first (begin S.counter)).after in
      let s₂ = (fix_list L S.i s₁).after in (
        (list_renamed S.first (begin S.counter) M (extends_trans (list-extends S.i s₁) (list-extends S.last s₂))).1,
        (list_renamed S.i s₁ M (list-extends S.last s₂)).1,
        (list_renamed S.last s₂ M (extends-refl M)).1,
      )

-- ── new temporaries are apart ────────────────────────────────────────────────
-- the temporaries given are from n on, below the counter, and no two are the same
pub record Fresh (n : ℕ) (s : Fixing) : Type 0 where
  pub above : n ≤ s.next
  pub low : (e r t : ℕ) → s.map e r ≡ some t → n ≤ t
  pub high : (e r t : ℕ) → s.map e r ≡ some t → t < s.next
  pub one : (e r e' r' t : ℕ) → s.map e r ≡ some t → s.map e' r' ≡ some t → exp_cell e r ≡ exp_cell e' r'

pub begin-fresh : (n : ℕ) → Fresh n (begin n)
begin-fresh n = record {
  above = omega arith;
  low = λ e r t h. absurd (none-ne-some t h);
  high = λ e r t h. absurd (none-ne-some t h);
  one = λ e r e' r' t h k. absurd (none-ne-some t h);
}

module _ (n : ℕ) where
  grow-fresh : (a b m : Option ℕ) (e r : ℕ) (s : Fixing) → Fresh n s → Fresh n (grow a b m e r s)
  grow-fresh (some c) b m e r s f = f
  grow-fresh none (some k) m e r s f = f
  grow-fresh none none (some t) e r s f = f
  grow-fresh none none none e r s f = record {
    above = omega (arith, f.above);
    low = λ e' r' t h. lo e' r' t (given-cases s.map e r s.next e' r' t h);
    high = λ e' r' t h. hi e' r' t (given-cases s.map e r s.next e' r' t h);
    one = λ e₁ r₁ e₂ r₂ t h k. un e₁ r₁ e₂ r₂ t (given-cases s.map e r s.next e₁ r₁ t h) (given-cases s.map e r s.next e₂ r₂ t k);
  }
    where
      lo : (e' r' t : ℕ) → ((exp_cell e r ≡ exp_cell e' r') × (s.next ≡ t)) ⊎ (s.map e' r' ≡ some t) → n ≤ t
      lo e' r' t (inl w) = omega (arith, f.above, w.1)
      lo e' r' t (inr w) = f.low e' r' t w

      hi : (e' r' t : ℕ) → ((exp_cell e r ≡ exp_cell e' r') × (s.next ≡ t)) ⊎ (s.map e' r' ≡ some t) → t < suc s.next
      hi e' r' t (inl w) = omega (arith, w.1)
      hi e' r' t (inr w) = omega (arith, f.high e' r' t w)

      un :
          (e₁ r₁ e₂ r₂ t : ℕ) → ((exp_cell e r ≡ exp_cell e₁ r₁) × (s.next ≡ t)) ⊎ (s.map e₁ r₁ ≡ some t) →
          ((exp_cell e r ≡ exp_cell e₂ r₂) × (s.next ≡ t)) ⊎ (s.map e₂ r₂ ≡ some t) → exp_cell e₁ r₁ ≡ exp_cell e₂ r₂
      un e₁ r₁ e₂ r₂ t (inl w) (inl x) = sym w.0 ∙ x.0
      un e₁ r₁ e₂ r₂ t (inl w) (inr x) = absurd (omega (arith, w.1, f.high e₂ r₂ t x))
      un e₁ r₁ e₂ r₂ t (inr w) (inl x) = absurd (omega (arith, x.1, f.high e₁ r₁ t w))
      un e₁ r₁ e₂ r₂ t (inr w) (inr x) = f.one e₁ r₁ e₂ r₂ t w x

  module _ (L : Plan) where
    ref-fresh : (x : Ref) (s : Fixing) → Fresh n s → Fresh n (fix_ref L x s).after
    ref-fresh (Ref.var (Cell.cell (Kind.row k) i r)) s f = f
    ref-fresh (Ref.var (Cell.cell (Kind.flat k) i r)) s f = f
    ref-fresh (Ref.var (Cell.cell (Kind.x k) i r)) s f = f
    ref-fresh (Ref.var (Cell.cell Kind.exp e r)) s f = grow-fresh (L.im e) (L.column e) (s.map e r) e r s f
    ref-fresh (Ref.var (Cell.cell Kind.tmp i r)) s f = f
    ref-fresh (Ref.var (Cell.cell Kind.f i r)) s f = f
    ref-fresh (Ref.var (Cell.cell Kind.tmp_exp i r)) s f = f
    ref-fresh (Ref.var (Cell.cell (Kind.bare k) i r)) s f = f
    ref-fresh (Ref.number l k) s f = f

    refs-fresh : (xs : List Ref) (s : Fixing) → Fresh n s → Fresh n (fix_refs L xs s).after
    refs-fresh [] s f = f
    refs-fresh (x ∷ xs) s f = refs-fresh xs (fix_ref L x s).after (ref-fresh x s f)

    pub list-fresh : (xs : List Step) (s : Fixing) → Fresh n s → Fresh n (fix_list L xs s).after
    list-fresh [] s f = f
    list-fresh (x ∷ xs) s f = list-fresh xs _ (ref-fresh x.destination (fix_refs L x.sources s).after (refs-fresh x.sources s f))

pub end_fresh : (L : Plan) (S : Segment) → Fresh S.counter (fix_end L S)
end_fresh L S = list-fresh _ L S.last _ (list-fresh _ L S.i _ (list-fresh _ L S.first _ (begin-fresh S.counter)))
