-- THE RECORD'S LINE IS THE STEP'S: what emission makes of a pool that stands in tables, printed from its records, is printed as the definition says.
-- The content is that a number reference carries the literal which the tables give its node.
-- Assumes nothing.
use Rattle.std.specs.Prelude.{ℕ, zero, suc, ◌≤◌, ◌<◌, ◌≡◌, Bool, true, false, cond, not, length, eqb, ltb}
use Rattle.std.proofs.Math.Path.{refl, sym}
use Rattle.std.proofs.Common.{◌∙◌, ap, lt-ltb, ltb-true, ltb-false}
use mathlib.Core.List.{List, [], ◌∷◌, ◌++◌, append-nil, append_assoc}
use native.Mathlib.Omega.{arith}
use Rattle.std.proofs.lemmas.Bool.{not-true}
use Rattle.kinds.specs.KindBytes as kind
use Rattle.kinds.specs.Kinds.{carries_literal, takes_i64}
use Rattle.kinds.specs.Range.{within, true-over}
use Rattle.kinds.specs.declared.step.Step as record_of
use Rattle.meaning.specs.Trees.{Lit, lit, RowKind, FlatKind, XKind, Op, OpC, Leaf, Expr, Each}
use Rattle.meaning.specs.Steps.{BareKind, Kind, kind_no, Cell, Ref, StepOp, Step, step, tmp_ref, exp_cell}
use Rattle.meaning.specs.Fusing.{second, first, fuse}
use Rattle.meaning.specs.Emission.{leaf_ref, Own, Emitted, Settled, settle, settled, emit, root_step, block_steps}
use Rattle.meaning.specs.Order.{asked}
use Rattle.meaning.specs.Generation.{Block}
use Rattle.meaning.specs.Building.{every}
use Rattle.meaning.proofs.Laws.Tests.{each-join, each_map}
use Rattle.frames.specs.declared.node.Node.{Node}
use Rattle.frames.specs.Order.{node_limit}
use Rattle.pool.specs.Pool.{Pool, node, children}
use Rattle.pool.specs.Trees.{literal_of, leaf_of, Class, binary, fused, constant, negation, leafy, class, tree}
use Rattle.pool.specs.Shaped.{Shaped}
use Rattle.pool.specs.Laws.Trees.{class-leafy, children_are, tree_is}
use Rattle.pool.specs.Laws.Tabled.{node-count, node_at}
use Rattle.starkinfo_codegen.specs.Encoding.{ref_of, source_of, step_record, records}
use Rattle.starkinfo_codegen.specs.Emitting.{Rest, tables_of, pool_of, Pooled, steps_of_block}
use Rattle.output.specs.Output.{cell_out, ref_out, refs_out, step_out, step_line, list_lines}
use Rattle.output.specs.Records.{brought_by, literal_in, cell_bytes, source_bytes, sources_bytes, record_bytes, record_line, record_lines}

-- ---- what a node brings, by its class

abbrev right : Class → Bool → Bool
right (binary o) b = true
right fused b = true
right (constant o) b = b
right negation b = not b
right leafy b = true

class-right : (k : ℕ) → right (class k) (carries_literal k) ≡ true
unfolding carries_literal takes_i64 within
class-right k = by (ltb k 8) refl
  where
    by : (b : Bool) → ltb k 8 ≡ b → right (class k) (carries_literal k) ≡ true
    by true h = sym (true-over (λ k. right (class k) (carries_literal k)) 0 7 tt k (omega arith, omega (arith, ltb-true k 8 h)))
    by false h = rw (class-leafy k (ltb-false k 8 h))

constant-brought : (x : Node) (o : OpC) → class x.kind ≡ constant o → literal_of x ≡ brought_by x
unfolding brought_by
constant-brought x o e =
    let z : carries_literal x.kind ≡ true = rw e at (class-right x.kind) in
    rw z

neg-brought : (x : Node) → class x.kind ≡ negation → lit false 0 ≡ brought_by x
unfolding brought_by
neg-brought x e =
    let z : carries_literal x.kind ≡ false = not-true (carries_literal x.kind) (rw e at (class-right x.kind)) in
    rw z

-- ---- what emission brings

abbrev pub IsCell : Ref → Type 0
IsCell (Ref.var c) = Unit {0}
IsCell (Ref.number l n) = ⊥

module _ (p : Pool) where
  -- node n is there, and l is the literal that it brings
  abbrev pub Says : ℕ → Lit → Type 0
  Says n l = (n < length p.nodes) × (l ≡ brought_by (node p n))

  pub record LeafSays (n : ℕ) (l : Leaf) : Type 0 where
    pub number : (k : Lit) → l ≡ Leaf.number k → Says n k

  -- so of each number, addc, mulc and neg of a tree
  abbrev pub Brought : Expr → Type 0
  Brought (Expr.leaf n l) = LeafSays n l
  Brought (Expr.bin n o a b) = Brought a × Brought b
  Brought (Expr.muladd n a b c) = Brought a × (Brought b × Brought c)
  Brought (Expr.binc n o a l) = Says n l × Brought a
  Brought (Expr.neg n a) = Says n (lit false 0) × Brought a

  -- of each number of a step, whose destination is a cell; it has no more sources than a record
  abbrev pub RefSays : Ref → Type 0
  RefSays (Ref.var c) = Unit {0}
  RefSays (Ref.number l n) = Says n l

  pub record StepSays (s : Step) : Type 0 where
    pub into : IsCell s.destination
    pub from : Each RefSays s.sources
    pub few : length s.sources ≤ 3

  -- a copy from cell to cell brings nothing
  pub copy-says : (d r : Ref) → IsCell d → IsCell r → StepSays (step StepOp.copy d (r ∷ []))
  copy-says d r h g = record { into = h; from = (plain r g, tt); few = omega arith }
    where
      plain : (r : Ref) → IsCell r → RefSays r
      plain (Ref.var c) g = tt
      plain (Ref.number l n) g = absurd g

  -- ---- the tree of a node

  other-leaf : (n : ℕ) (l : Leaf) → ((k : Lit) → l ≡ Leaf.number k → ⊥) → LeafSays n l
  other-leaf n l h = record { number = λ k e. absurd (h k e) }

  cell-leaf : (n : ℕ) (c : RowKind) (i a : ℕ) → LeafSays n (Leaf.cell c i a)
  cell-leaf n c i a = other-leaf n (Leaf.cell c i a) (λ k e. let z : ◌≡◌ {A = ℕ} 0 1 = cc in omega arith)

  exp-leaf : (n i a : ℕ) → LeafSays n (Leaf.exp i a)
  exp-leaf n i a = other-leaf n (Leaf.exp i a) (λ k e. let z : ◌≡◌ {A = ℕ} 0 1 = cc in omega arith)

  flat-leaf : (n : ℕ) (c : FlatKind) (i : ℕ) → LeafSays n (Leaf.flat c i)
  flat-leaf n c i = other-leaf n (Leaf.flat c i) (λ k e. let z : ◌≡◌ {A = ℕ} 0 1 = cc in omega arith)

  x-leaf : (n : ℕ) (c : XKind) → LeafSays n (Leaf.x c)
  x-leaf n c = other-leaf n (Leaf.x c) (λ k e. let z : ◌≡◌ {A = ℕ} 0 1 = cc in omega arith)

  pick : {n : ℕ} {l m : Leaf} (b : Bool) → (b ≡ true → LeafSays n l) → LeafSays n m → LeafSays n (cond b l m)
  pick true f g = f refl
  pick false f g = g

  number-leaf : (n : ℕ) → n < length p.nodes → eqb (node p n).kind kind.number ≡ true → LeafSays n (Leaf.number (literal_of (node p n)))
  unfolding brought_by carries_literal
  number-leaf n h q =
      let z : literal_of (node p n) ≡ brought_by (node p n) = rw q in
      record { number = λ k e. let y : literal_of (node p n) ≡ k = cc in (h, sym y ∙ z) }

  leaf-brought : (n : ℕ) → n < length p.nodes → LeafSays n (leaf_of (node p n))
  leaf-brought n h =
      let x = node p n in
      pick (eqb x.kind kind.cm) (λ _. cell-leaf n RowKind.cm x.id x.next)
      (pick (eqb x.kind kind.const) (λ _. cell-leaf n RowKind.const x.id x.next)
      (pick (eqb x.kind kind.exp) (λ _. exp-leaf n x.id x.next)
      (pick (eqb x.kind kind.q) (λ _. cell-leaf n RowKind.q x.id x.next)
      (pick (eqb x.kind kind.number) (number-leaf n h)
      (pick (eqb x.kind kind.public) (λ _. flat-leaf n FlatKind.public x.id)
      (pick (eqb x.kind kind.challenge) (λ _. flat-leaf n FlatKind.challenge x.id)
      (pick (eqb x.kind kind.eval) (λ _. flat-leaf n FlatKind.eval x.id)
      (pick (eqb x.kind kind.x_div_x_sub_xi) (λ _. x-leaf n XKind.x_div_x_sub_xi)
      (pick (eqb x.kind kind.x_div_x_sub_w_xi) (λ _. x-leaf n XKind.x_div_x_sub_w_xi) (x-leaf n XKind.plain_x))))))))))

  tree-brought-at : Shaped p → (m n : ℕ) → n < m → n < length p.nodes → Brought (tree p n)
  tree-brought-at shaped zero n g h = absurd (omega arith)
  tree-brought-at shaped (suc m) n g h = by (tree-brought-at shaped m) (class (node p n).kind) refl
    where
      x : Node
      x = node p n

      earlier : Each (λ k. k < n) (children x)
      earlier = shaped.earlier n h

      by : ((k : ℕ) → k < m → k < length p.nodes → Brought (tree p k)) → (c : Class) → class x.kind ≡ c → Brought (tree p n)
      by ih (binary o) e =
          let l : (x.c0 < n) × ((x.c1 < n) × Unit {0}) = rw (children_are p shaped n h, e) at earlier in
          rw (tree_is p shaped n h, e) (ih x.c0 (omega arith) (omega arith), ih x.c1 (omega arith) (omega arith))
      by ih fused e =
          let l : (x.c0 < n) × ((x.c1 < n) × ((x.c2 < n) × Unit {0})) = rw (children_are p shaped n h, e) at earlier in
          rw (tree_is p shaped n h, e) (ih x.c0 (omega arith) (omega arith), (ih x.c1 (omega arith) (omega arith), ih x.c2 (omega arith) (omega arith)))
      by ih (constant o) e =
          let l : (x.c0 < n) × Unit {0} = rw (children_are p shaped n h, e) at earlier in
          rw (tree_is p shaped n h, e) ((h, constant-brought x o e), ih x.c0 (omega arith) (omega arith))
      by ih negation e =
          let l : (x.c0 < n) × Unit {0} = rw (children_are p shaped n h, e) at earlier in
          rw (tree_is p shaped n h, e) ((h, neg-brought x e), ih x.c0 (omega arith) (omega arith))
      by ih leafy e = rw (tree_is p shaped n h, e) (leaf-brought n h)

  -- EACH NUMBER IN A NODE'S TREE says what its node brings
  pub tree-brought : Shaped p → (n : ℕ) → n < length p.nodes → Brought (tree p n)
  tree-brought shaped n h = tree-brought-at shaped (suc n) n (omega arith) h

  -- ---- fusing keeps it

  second-brought : (n : ℕ) (a b : Expr) → Brought a → Brought b → Brought (second n a b)
  second-brought n a (Expr.leaf m l) x y = (x, y)
  second-brought n a (Expr.bin m Op.add b c) x y = (x, y)
  second-brought n a (Expr.bin m Op.sub b c) x y = (x, y)
  second-brought n a (Expr.bin m Op.mul b c) x y = (y.0, (y.1, x))
  second-brought n a (Expr.muladd m b c d) x y = (x, y)
  second-brought n a (Expr.binc m o b l) x y = (x, y)
  second-brought n a (Expr.neg m b) x y = (x, y)

  first-brought : (n : ℕ) (a b : Expr) → Brought a → Brought b → Brought (first n a b)
  first-brought n (Expr.leaf m l) b x y = second-brought n (Expr.leaf m l) b x y
  first-brought n (Expr.bin m Op.add c d) b x y = second-brought n (Expr.bin m Op.add c d) b x y
  first-brought n (Expr.bin m Op.sub c d) b x y = second-brought n (Expr.bin m Op.sub c d) b x y
  first-brought n (Expr.bin m Op.mul c d) b x y = (x.0, (x.1, y))
  first-brought n (Expr.muladd m c d e) b x y = second-brought n (Expr.muladd m c d e) b x y
  first-brought n (Expr.binc m o c l) b x y = second-brought n (Expr.binc m o c l) b x y
  first-brought n (Expr.neg m c) b x y = second-brought n (Expr.neg m c) b x y

  pub fuse-brought : (e : Expr) → Brought e → Brought (fuse e)
  fuse-brought (Expr.leaf n l) x = x
  fuse-brought (Expr.bin n Op.add a b) x = first-brought n (fuse a) (fuse b) (fuse-brought a x.0) (fuse-brought b x.1)
  fuse-brought (Expr.bin n Op.sub a b) x = (fuse-brought a x.0, fuse-brought b x.1)
  fuse-brought (Expr.bin n Op.mul a b) x = (fuse-brought a x.0, fuse-brought b x.1)
  fuse-brought (Expr.muladd n a b c) x = (fuse-brought a x.0, (fuse-brought b x.1.0, fuse-brought c x.1.1))
  fuse-brought (Expr.binc n o a l) x = (x.0, fuse-brought a x.1)
  fuse-brought (Expr.neg n a) x = (x.0, fuse-brought a x.1)

  asked-brought : (f : Bool) (e : Expr) → Brought e → Brought (asked f e)
  asked-brought true e x = fuse-brought e x
  asked-brought false e x = x

  -- ---- emission keeps it

  abbrev OwnSays : Own → Type 0
  OwnSays (Own.ref r) = RefSays r
  OwnSays (Own.operation o rs) = Each RefSays rs × (length rs ≤ 3)

  record EmittedSays (x : Emitted) : Type 0 where
    steps : Each StepSays x.steps
    own : OwnSays x.own

  record SettledSays (x : Settled) : Type 0 where
    steps : Each StepSays x.steps
    result : RefSays x.result

  settle-says : (xs : List Step) (o : Own) (t : ℕ) → Each StepSays xs → OwnSays o → SettledSays (settle xs o t)
  settle-says xs (Own.ref r) t h g = record { steps = h; result = g }
  settle-says xs (Own.operation o rs) t h g =
      record { steps = each-join StepSays xs (step o (tmp_ref t) rs ∷ []) h (record { into = tt; from = g.0; few = g.1 }, tt); result = tt }

  settled_says : {x : Emitted} → EmittedSays x → SettledSays (settled x)
  settled_says {x} h = settle-says x.steps x.own x.free h.steps h.own

  leaf-says : (n : ℕ) (l : Leaf) (r : ℕ) → LeafSays n l → RefSays (leaf_ref n l r)
  leaf-says n (Leaf.cell k i a) r h = tt
  leaf-says n (Leaf.exp i a) r h = tt
  leaf-says n (Leaf.number l) r h = h.number l refl
  leaf-says n (Leaf.flat k i) r h = tt
  leaf-says n (Leaf.x k) r h = tt

  emit-says : (e : Expr) (r t : ℕ) → Brought e → EmittedSays (emit e r t)
  emit-says (Expr.leaf n l) r t h = record { steps = tt; own = leaf-says n l r h }
  emit-says (Expr.bin n o a b) r t h =
      let x = settled (emit a r t) in
      let y = settled (emit b r x.free) in
      let u : SettledSays x = settled_says (emit-says a r t h.0) in
      let v : SettledSays y = settled_says (emit-says b r x.free h.1) in
      record { steps = each-join StepSays x.steps y.steps u.steps v.steps; own = ((u.result, (v.result, tt)), omega arith) }
  emit-says (Expr.muladd n a b c) r t h =
      let x = settled (emit a r t) in
      let y = settled (emit b r x.free) in
      let z = settled (emit c r y.free) in
      let u : SettledSays x = settled_says (emit-says a r t h.0) in
      let v : SettledSays y = settled_says (emit-says b r x.free h.1.0) in
      let w : SettledSays z = settled_says (emit-says c r y.free h.1.1) in
      record {
        steps = each-join StepSays x.steps (y.steps ++ z.steps) u.steps (each-join StepSays y.steps z.steps v.steps w.steps);
        own = ((u.result, (v.result, (w.result, tt))), omega arith);
      }
  emit-says (Expr.binc n o a l) r t h =
      let u : SettledSays (settled (emit a r t)) = settled_says (emit-says a r t h.1) in
      record { steps = u.steps; own = ((u.result, (h.0, tt)), omega arith) }
  emit-says (Expr.neg n a) r t h =
      let u : SettledSays (settled (emit a r t)) = settled_says (emit-says a r t h.1) in
      record { steps = u.steps; own = ((h.0, (u.result, tt)), omega arith) }

  root-says : (o : Own) (c : Cell) → OwnSays o → StepSays (root_step o (Ref.var c))
  root-says (Own.ref r) c h = record { into = tt; from = (h, tt); few = omega arith }
  root-says (Own.operation o rs) c h = record { into = tt; from = h.0; few = h.1 }

  -- EACH NUMBER IN A BLOCK says what its node brings
  pub block-says : Shaped p → (f : Bool) (n : ℕ) → n < length p.nodes → (r t : ℕ) (c : Cell) → Each StepSays (block_steps (emit (asked f (tree p n)) r t) (Ref.var c))
  block-says shaped f n h r t c =
      let x = emit (asked f (tree p n)) r t in
      let u : EmittedSays x = emit-says (asked f (tree p n)) r t (asked-brought f (tree p n) (tree-brought shaped n h)) in
      each-join StepSays x.steps (root_step x.own (Ref.var c) ∷ []) u.steps (root-says x.own c u.own, tt)

  -- many blocks
  pub blocks-say : (bs : List Block) → Each (λ x. Each StepSays x.steps) bs → Each StepSays (every bs)
  blocks-say [] h = tt
  blocks-say (x ∷ bs) h = each-join StepSays x.steps (every bs) h.0 (blocks-say bs h.1)

-- ---- a step that says so is printed as the definition says

not-number : (k : Kind) → eqb (kind_no k) kind.number ≡ false
not-number (Kind.row RowKind.cm) = refl
not-number (Kind.row RowKind.const) = refl
not-number (Kind.row RowKind.q) = refl
not-number (Kind.flat FlatKind.public) = refl
not-number (Kind.flat FlatKind.challenge) = refl
not-number (Kind.flat FlatKind.eval) = refl
not-number (Kind.x XKind.x_div_x_sub_xi) = refl
not-number (Kind.x XKind.x_div_x_sub_w_xi) = refl
not-number (Kind.x XKind.plain_x) = refl
not-number Kind.exp = refl
not-number Kind.tmp = refl
not-number Kind.f = refl
not-number Kind.tmp_exp = refl
not-number (Kind.bare BareKind.Zi) = refl
not-number (Kind.bare BareKind.tree1) = refl
not-number (Kind.bare BareKind.tree2) = refl
not-number (Kind.bare BareKind.tree3) = refl
not-number (Kind.bare BareKind.tree4) = refl
not-number (Kind.bare BareKind.Z) = refl

module _ (w : List ℕ) (b : Rest) (few : b.node_count ≤ node_limit) where
  -- the tables give the literal that the reference carries
  literal-shown : (n : ℕ) (l : Lit) → Says (pool_of w b) n l → literal_in w b.literals n ≡ l
  unfolding literal_in
  literal-shown n l h =
      let g : n < b.node_count = rw (node-count (tables_of w b)) at h.0 in
      let f : n < node_limit = omega arith in
      rw (lt-ltb n node_limit f) (ap brought_by (sym (node_at (tables_of w b) n g)) ∙ sym h.1)

  source-shown : (r : Ref) → RefSays (pool_of w b) r → source_bytes w b.literals (ref_of r) ≡ ref_out r
  unfolding source_bytes ref_out
  source-shown (Ref.var (Cell.cell k i a)) h = rw (not-number k, append-nil (cell_out (kind_no k) i a))
  source-shown (Ref.number l n) h = rw (literal-shown n l h)

  into-shown : (r : Ref) → IsCell r → cell_bytes (ref_of r) ≡ ref_out r
  unfolding ref_out
  into-shown (Ref.var (Cell.cell k i a)) h = refl
  into-shown (Ref.number l n) h = absurd h

  -- in the record of a step with these sources, whatever else it has
  sources-shown :
      (x : record_of.Step) (rs : List Ref) → Each (RefSays (pool_of w b)) rs → length rs ≤ 3 → x.count ≡ length rs → x.s0 ≡ source_of rs 0 → x.s1 ≡ source_of rs 1 → x.s2 ≡ source_of rs 2
      → sources_bytes w b.literals x ≡ refs_out rs
  unfolding sources_bytes refs_out
  sources-shown x [] h g c e0 e1 e2 = rw c
  sources-shown x (r ∷ []) h g c e0 e1 e2 = rw (c, e0, source-shown r h.0) (simp append-nil)
  sources-shown x (r ∷ q ∷ []) h g c e0 e1 e2 = rw (c, e0, e1, source-shown r h.0, source-shown q h.1.0) (simp append-nil)
  sources-shown x (r ∷ q ∷ s ∷ []) h g c e0 e1 e2 =
      rw (c, e0, e1, e2, source-shown r h.0, source-shown q h.1.0, source-shown s h.1.1.0) (simp (append-nil, append_assoc))
  sources-shown x (r ∷ q ∷ s ∷ u ∷ rs) h g c e0 e1 e2 = absurd (omega arith)

  pub step-shown : (s : Step) → StepSays (pool_of w b) s → record_line w b.literals (step_record s) ≡ step_line s
  unfolding record_line record_bytes step_line step_out
  step-shown s h = rw (into-shown s.destination h.into, sources-shown (step_record s) s.sources h.from h.few refl refl refl refl)

  -- THE LINES OF THE RECORDS of a list are the lines of its steps
  pub list-shown : (ss : List Step) → Each (StepSays (pool_of w b)) ss → record_lines w b.literals (records ss) ≡ list_lines ss
  unfolding record_lines records list_lines
  list-shown [] h = refl
  list-shown (s ∷ ss) h = rw (step-shown s h.0, list-shown ss h.1)

-- EACH STEP OF A BLOCK of a pool that stands in tables
pub block-shown :
    (w : List ℕ) (b : Rest) → Pooled w b → (f : Bool) (row t root e : ℕ) → root < b.node_count
    → Each (StepSays (pool_of w b)) (steps_of_block w b f row t root e)
    × Each (λ s. record_line w b.literals (step_record s) ≡ step_line s) (steps_of_block w b f row t root e)
block-shown w b o f row t root e h =
    let g : root < length (pool_of w b).nodes = rw (node-count (tables_of w b)) h in
    let u = block-says (pool_of w b) o.shaped f root g row t (exp_cell e row) in
    (u, each_map (StepSays (pool_of w b)) (λ s. record_line w b.literals (step_record s) ≡ step_line s) (step-shown w b o.few) (steps_of_block w b f row t root e) u)
