-- The renaming of a fixed segment is one to one on the cells of a generated list.
-- Assumes nothing.
use Rattle.std.specs.Prelude.{ℕ, ◌<◌, ◌≡◌, refl, true}
use Rattle.std.proofs.Common.{sym, ◌∙◌, ap, ap₂, subst, arith}
use Rattle.std.proofs.Math.Option.{Option, none, some, none-ne-some}
use Rattle.meaning.specs.Trees.{RowKind}
use Rattle.meaning.specs.Steps.{Kind, Cell, place, exp_cell}
use Rattle.meaning.specs.Values.{Given}
use Rattle.meaning.specs.Running.{writable, before}
use Rattle.meaning.specs.Building.{Segment}
use Rattle.fixed_meaning.specs.Fixing.{Plan, Fixing, become, fix_cell, fix_end}
use Rattle.fixed_meaning.specs.Demand3Fixed.{ColumnsDiffer, Free, NotExp}
use Rattle.fixed_meaning.specs.Renaming.{Renaming}
use Rattle.fixed_meaning.proofs.FixingLaws.{Fresh, end_fresh}

-- the cells of a generated list: exp cells, temporaries below n without a prime, and cells given a value, of which no cm is an intermediate's
abbrev pub Occurs : Plan → ℕ → Cell → Type 0
Occurs L n (Cell.cell (Kind.row RowKind.cm) i r) = Free L i
Occurs L n (Cell.cell (Kind.row RowKind.const) i r) = Unit {0}
Occurs L n (Cell.cell (Kind.row RowKind.q) i r) = Unit {0}
Occurs L n (Cell.cell (Kind.flat k) i r) = Unit {0}
Occurs L n (Cell.cell (Kind.x k) i r) = Unit {0}
Occurs L n (Cell.cell Kind.exp i r) = Unit {0}
Occurs L n (Cell.cell Kind.tmp i r) = (i < n) × (r ≡ 0)
Occurs L n (Cell.cell Kind.f i r) = ⊥
Occurs L n (Cell.cell Kind.tmp_exp i r) = ⊥
Occurs L n (Cell.cell (Kind.bare k) i r) = ⊥

occurs_placed : (L : Plan) (n : ℕ) (c : Cell) → Occurs L n c → place c ≡ c
occurs_placed L n (Cell.cell (Kind.row k) i r) o = refl
occurs_placed L n (Cell.cell (Kind.flat k) i r) o = refl
occurs_placed L n (Cell.cell (Kind.x k) i r) o = refl
occurs_placed L n (Cell.cell Kind.exp i r) o = refl
occurs_placed L n (Cell.cell Kind.tmp i r) o = rw o.1
occurs_placed L n (Cell.cell Kind.f i r) o = refl
occurs_placed L n (Cell.cell Kind.tmp_exp i r) o = refl
occurs_placed L n (Cell.cell (Kind.bare k) i r) o = refl

module _ (L : Plan) (n : ℕ) (s : Fixing) (fresh : Fresh n s) (differ : ColumnsDiffer L) where
  abbrev f : Cell → Cell
  f c = fix_cell L s.map c

  -- x is where the cell of expression e at row r is put
  abbrev From : Cell → ℕ → ℕ → Type 0
  From (Cell.cell (Kind.row RowKind.cm) i q) e r = (L.im e ≡ some i) × (q ≡ r)
  From (Cell.cell (Kind.row RowKind.const) i q) e r = ⊥
  From (Cell.cell (Kind.row RowKind.q) i q) e r = ⊥
  From (Cell.cell (Kind.flat k) i q) e r = ⊥
  From (Cell.cell (Kind.x k) i q) e r = ⊥
  From (Cell.cell Kind.exp i q) e r = exp_cell i q ≡ exp_cell e r
  From (Cell.cell Kind.tmp i q) e r = s.map e r ≡ some i
  From (Cell.cell Kind.f i q) e r = ⊥
  From (Cell.cell Kind.tmp_exp i q) e r = (L.column e ≡ some i) × (q ≡ r)
  From (Cell.cell (Kind.bare k) i q) e r = ⊥

  become-from : (a b m : Option ℕ) (e r : ℕ) → L.im e ≡ a → L.column e ≡ b → s.map e r ≡ m → From (place (become a b m e r)) e r
  become-from (some c) b m e r x y z = (x, refl)
  become-from none (some k) m e r x y z = (y, refl)
  become-from none none (some t) e r x y z = z
  become-from none none none e r x y z = refl

  exp-from : (e r : ℕ) → From (place (f (exp_cell e r))) e r
  exp-from e r = become-from (L.im e) (L.column e) (s.map e r) e r refl refl refl

  from_one : (x : Cell) (e r e' r' : ℕ) → From x e r → From x e' r' → exp_cell e r ≡ exp_cell e' r'
  from_one (Cell.cell (Kind.row RowKind.cm) i q) e r e' r' h k = ap₂ exp_cell (differ.ims e e' i h.0 k.0) (sym h.1 ∙ k.1)
  from_one (Cell.cell (Kind.row RowKind.const) i q) e r e' r' h k = absurd h
  from_one (Cell.cell (Kind.row RowKind.q) i q) e r e' r' h k = absurd h
  from_one (Cell.cell (Kind.flat j) i q) e r e' r' h k = absurd h
  from_one (Cell.cell (Kind.x j) i q) e r e' r' h k = absurd h
  from_one (Cell.cell Kind.exp i q) e r e' r' h k = sym h ∙ k
  from_one (Cell.cell Kind.tmp i q) e r e' r' h k = fresh.one e r e' r' i h k
  from_one (Cell.cell Kind.f i q) e r e' r' h k = absurd h
  from_one (Cell.cell Kind.tmp_exp i q) e r e' r' h k = ap₂ exp_cell (differ.columns e e' i h.0 k.0) (sym h.1 ∙ k.1)
  from_one (Cell.cell (Kind.bare j) i q) e r e' r' h k = absurd h

  from-other : (x : Cell) (e r : ℕ) → From x e r → Occurs L n x → NotExp x → ⊥
  from-other (Cell.cell (Kind.row RowKind.cm) i q) e r h o k = o e h.0
  from-other (Cell.cell (Kind.row RowKind.const) i q) e r h o k = h
  from-other (Cell.cell (Kind.row RowKind.q) i q) e r h o k = h
  from-other (Cell.cell (Kind.flat j) i q) e r h o k = h
  from-other (Cell.cell (Kind.x j) i q) e r h o k = h
  from-other (Cell.cell Kind.exp i q) e r h o k = k
  from-other (Cell.cell Kind.tmp i q) e r h o k = omega (arith, fresh.low e r i h, o.0)
  from-other (Cell.cell Kind.f i q) e r h o k = h
  from-other (Cell.cell Kind.tmp_exp i q) e r h o k = o
  from-other (Cell.cell (Kind.bare j) i q) e r h o k = h

  -- a cell that occurs is an exp cell, or stays where it is
  data Sort (c : Cell) : Type 0 where
    is_exp : (e r : ℕ) → c ≡ exp_cell e r → Sort c
    stays : NotExp c → f c ≡ c → Sort c

  sort : (c : Cell) → Sort c
  sort (Cell.cell (Kind.row k) i r) = stays tt refl
  sort (Cell.cell (Kind.flat k) i r) = stays tt refl
  sort (Cell.cell (Kind.x k) i r) = stays tt refl
  sort (Cell.cell Kind.exp i r) = is_exp i r refl
  sort (Cell.cell Kind.tmp i r) = stays tt refl
  sort (Cell.cell Kind.f i r) = stays tt refl
  sort (Cell.cell Kind.tmp_exp i r) = stays tt refl
  sort (Cell.cell (Kind.bare k) i r) = stays tt refl

  abbrev g : Cell → Cell
  g c = place (f c)

  g-stays : (c : Cell) → Occurs L n c → f c ≡ c → g c ≡ c
  g-stays c o y = ap place y ∙ occurs_placed L n c o

  one-to-one : (c d : Cell) → Sort c → Sort d → Occurs L n c → Occurs L n d → g c ≡ g d → c ≡ d
  one-to-one c d (is_exp e r x) (is_exp e' r' y) o o' k =
      let z : g (exp_cell e r) ≡ g (exp_cell e' r') = sym (ap g x) ∙ k ∙ ap g y in
      x ∙ from_one (g (exp_cell e r)) e r e' r' (exp-from e r) (subst (λ w. From w e' r') (sym z) (exp-from e' r')) ∙ sym y
  one-to-one c d (is_exp e r x) (stays j y) o o' k =
      let z : g (exp_cell e r) ≡ d = sym (ap g x) ∙ k ∙ g-stays d o' y in
      absurd (from-other d e r (subst (λ w. From w e r) z (exp-from e r)) o' j)
  one-to-one c d (stays j y) (is_exp e r x) o o' k =
      let z : g (exp_cell e r) ≡ c = sym (ap g x) ∙ sym k ∙ g-stays c o y in
      absurd (from-other c e r (subst (λ w. From w e r) z (exp-from e r)) o j)
  one-to-one c d (stays j y) (stays j' y') o o' k = sym (g-stays c o y) ∙ k ∙ g-stays d o' y'

  -- what an exp cell becomes can be written; what is given stays
  become-writes : (a b m : Option ℕ) (e r : ℕ) → writable (become a b m e r) ≡ true
  become-writes (some c) b m e r = refl
  become-writes none (some k) m e r = refl
  become-writes none none (some t) e r = refl
  become-writes none none none e r = refl

  f-writes : (c : Cell) → Sort c → writable c ≡ true → writable (f c) ≡ true
  f-writes c (is_exp e r x) k = rw x (become-writes (L.im e) (L.column e) (s.map e r) e r)
  f-writes c (stays j y) k = rw y k

  f-given : {A : Type 0} (G : Given A) (c : Cell) → Sort c → (v : A) → before G c ≡ some v → before G (f c) ≡ some v
  f-given G c (is_exp e r x) v k = absurd (none-ne-some v (subst (λ z. before G z ≡ some v) x k))
  f-given G c (stays j y) v k = rw y k

  pub fix_renaming : {A : Type 0} (G : Given A) → Renaming G (Occurs L n) (fix_cell L s.map)
  fix_renaming G = record {
    apart = λ c d o o' k. ap place (one-to-one c d (sort c) (sort d) o o' k);
    together = λ c d o o' k. ap g (sym (occurs_placed L n c o) ∙ k ∙ occurs_placed L n d o');
    given = λ c o v k. f-given G c (sort c) v k;
    writes = λ c o k. f-writes c (sort c) k;
  }

-- THE MAP THAT A SEGMENT ENDS WITH IS ONE TO ONE on the cells of a generated list
pub segment_renaming : (L : Plan) → ColumnsDiffer L → (S : Segment) {A : Type 0} (G : Given A) → Renaming G (Occurs L S.counter) (fix_cell L (fix_end L S).map)
segment_renaming L differ S G = fix_renaming L S.counter (fix_end L S) (end_fresh L S) differ G
