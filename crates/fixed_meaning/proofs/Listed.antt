-- The cells of a list that requests without results generate.
-- Assumes nothing.
use Rattle.std.specs.Prelude.{ℕ, suc, ◌≤◌, ◌≡◌, refl, Bool, true, false, cond, List, [], ◌∷◌, ◌++◌}
use Rattle.std.proofs.Common.{subst, arith}
use Rattle.std.proofs.Math.Option.{Option, none, some, some-ne-none}
use Rattle.meaning.specs.Refusals.{done}
use Rattle.meaning.specs.Trees.{RowKind, Leaf, Expr, Expression, Forest, nth, Placed, ◌at◌, leaves, Each}
use Rattle.meaning.specs.Steps.{Kind, Cell, Ref, Step, exp_cell}
use Rattle.meaning.specs.Emission.{leaf_ref, Own, Emitted, Settled, settle, settled, emit, root_step, block_steps}
use Rattle.meaning.specs.Order.{Job, Asked, asked, there, ask}
use Rattle.meaning.specs.Generation.{Block, State, start, Result, Request, make_one, make, plain_result, adding, copy_out, generate, serve, serve_all}
use Rattle.meaning.specs.Building.{every}
use Rattle.meaning.specs.Demand3.{Throughout, NoResult}
use Rattle.meaning.proofs.Laws.Tests.{then-done, done-same, each_left, each_right, each-join, each_map}
use Rattle.meaning.proofs.Laws.Fuse.{asked-leaves}
use Rattle.meaning.proofs.Laws.Requests.{every_append}
use Rattle.fixed_meaning.specs.Fixing.{Plan}
use Rattle.fixed_meaning.specs.Demand3Fixed.{NoIntermediateRead}
use Rattle.fixed_meaning.specs.Renaming.{InRef, InStep, In}
use Rattle.fixed_meaning.proofs.OneToOne.{Occurs}

module _ (L : Plan) where
  -- a cell that can occur stays one where there are more temporaries
  occurs_le : (n m : ℕ) → n ≤ m → (c : Cell) → Occurs L n c → Occurs L m c
  occurs_le n m l (Cell.cell (Kind.row RowKind.cm) i r) h = h
  occurs_le n m l (Cell.cell (Kind.row RowKind.const) i r) h = h
  occurs_le n m l (Cell.cell (Kind.row RowKind.q) i r) h = h
  occurs_le n m l (Cell.cell (Kind.flat k) i r) h = h
  occurs_le n m l (Cell.cell (Kind.x k) i r) h = h
  occurs_le n m l (Cell.cell Kind.exp i r) h = h
  occurs_le n m l (Cell.cell Kind.tmp i r) h = (omega (arith, h.0), h.1)
  occurs_le n m l (Cell.cell Kind.f i r) h = h
  occurs_le n m l (Cell.cell Kind.tmp_exp i r) h = h
  occurs_le n m l (Cell.cell (Kind.bare k) i r) h = h

  abbrev Has : ℕ → Ref → Type 0
  Has n x = InRef (Occurs L n) x

  abbrev Steps : ℕ → List Step → Type 0
  Steps n xs = In (Occurs L n) xs

  ref-le : (n m : ℕ) → n ≤ m → (x : Ref) → Has n x → Has m x
  ref-le n m l (Ref.var c) h = occurs_le n m l c h
  ref-le n m l (Ref.number k i) h = tt

  steps-le : (n m : ℕ) → n ≤ m → (xs : List Step) → Steps n xs → Steps m xs
  steps-le n m l =
      each_map (InStep (Occurs L n)) (InStep (Occurs L m))
      (λ x h. (ref-le n m l x.destination h.0, each_map (Has n) (Has m) (ref-le n m l) x.sources h.1))

  steps-join : (n : ℕ) (xs ys : List Step) → Steps n xs → Steps n ys → Steps n (xs ++ ys)
  steps-join n = each-join (InStep (Occurs L n))

  leaf-has : (m : ℕ) (l : Leaf) (n r : ℕ) → NoIntermediateRead L (l at n) → Has m (leaf_ref n l r)
  leaf-has m (Leaf.cell RowKind.cm i a) n r h = h
  leaf-has m (Leaf.cell RowKind.const i a) n r h = tt
  leaf-has m (Leaf.cell RowKind.q i a) n r h = tt
  leaf-has m (Leaf.exp i a) n r h = tt
  leaf-has m (Leaf.number k) n r h = tt
  leaf-has m (Leaf.flat k i) n r h = tt
  leaf-has m (Leaf.x k) n r h = tt

  -- ── one tree ───────────────────────────────────────────────────────────────
  abbrev OwnHas : ℕ → Own → Type 0
  OwnHas n (Own.ref x) = Has n x
  OwnHas n (Own.operation o xs) = Each (Has n) xs

  record Emits (t : ℕ) (x : Emitted) : Type 0 where
    grows : t ≤ x.free
    steps : Steps x.free x.steps
    own : OwnHas x.free x.own

  record Settles (t : ℕ) (x : Settled) : Type 0 where
    grows : t ≤ x.free
    steps : Steps x.free x.steps
    result : Has x.free x.result

  settle-has : (t : ℕ) (xs : List Step) (o : Own) (u : ℕ) → t ≤ u → Steps u xs → OwnHas u o → Settles t (settle xs o u)
  settle-has t xs (Own.ref x) u l h k = record { grows = l; steps = h; result = k }
  settle-has t xs (Own.operation o ys) u l h k =
      let up : u ≤ suc u = omega arith in
      record {
        grows = omega arith;
        steps = steps-join (suc u) xs _ (steps-le u (suc u) up xs h) (((omega arith, refl), each_map (Has u) (Has (suc u)) (ref-le u (suc u) up) ys k), tt);
        result = (omega arith, refl);
      }

  settled-has : (t : ℕ) (x : Emitted) → Emits t x → Settles t (settled x)
  settled-has t x h = settle-has t x.steps x.own x.free h.grows h.steps h.own

  abbrev Alone : List Placed → Type 0
  Alone ls = Each (NoIntermediateRead L) ls

  emits : (T : Expr) (r t : ℕ) → Alone (leaves T) → Emits t (emit T r t)
  emits (Expr.leaf n l) r t h = record { grows = omega arith; steps = tt; own = leaf-has t l n r h.0 }
  emits (Expr.bin n o a b) r t h =
      let x = settled (emit a r t) in
      let f = settled-has t (emit a r t) (emits a r t (each_left (NoIntermediateRead L) (leaves a) (leaves b) h)) in
      let y = settled (emit b r x.free) in
      let g = settled-has x.free (emit b r x.free) (emits b r x.free (each_right (NoIntermediateRead L) (leaves a) (leaves b) h)) in
      record {
        grows = omega (arith, f.grows, g.grows);
        steps = steps-join y.free x.steps y.steps (steps-le x.free y.free g.grows x.steps f.steps) g.steps;
        own = (ref-le x.free y.free g.grows x.result f.result, (g.result, tt));
      }
  emits (Expr.muladd n a b c) r t h =
      let bc = each_right (NoIntermediateRead L) (leaves a) (leaves b ++ leaves c) h in
      let x = settled (emit a r t) in
      let f = settled-has t (emit a r t) (emits a r t (each_left (NoIntermediateRead L) (leaves a) (leaves b ++ leaves c) h)) in
      let y = settled (emit b r x.free) in
      let g = settled-has x.free (emit b r x.free) (emits b r x.free (each_left (NoIntermediateRead L) (leaves b) (leaves c) bc)) in
      let z = settled (emit c r y.free) in
      let k = settled-has y.free (emit c r y.free) (emits c r y.free (each_right (NoIntermediateRead L) (leaves b) (leaves c) bc)) in
      let xz : x.free ≤ z.free = omega (arith, g.grows, k.grows) in
      record {
        grows = omega (arith, f.grows, g.grows, k.grows);
        steps =
            steps-join z.free x.steps (y.steps ++ z.steps) (steps-le x.free z.free xz x.steps f.steps)
            (steps-join z.free y.steps z.steps (steps-le y.free z.free k.grows y.steps g.steps) k.steps);
        own = (ref-le x.free z.free xz x.result f.result, (ref-le y.free z.free k.grows y.result g.result, (k.result, tt)));
      }
  emits (Expr.binc n o a l) r t h =
      let f = settled-has t (emit a r t) (emits a r t h) in
      record { grows = f.grows; steps = f.steps; own = (f.result, (tt, tt)) }
  emits (Expr.neg n a) r t h =
      let f = settled-has t (emit a r t) (emits a r t h) in
      record { grows = f.grows; steps = f.steps; own = (tt, (f.result, tt)) }

  root-has : (n : ℕ) (o : Own) (e r : ℕ) → OwnHas n o → InStep (Occurs L n) (root_step o (Ref.var (exp_cell e r)))
  root-has n (Own.ref x) e r h = (tt, (h, tt))
  root-has n (Own.operation o xs) e r h = (tt, h)

  block-has : (t : ℕ) (x : Emitted) (e r : ℕ) → Emits t x → Steps x.free (block_steps x (Ref.var (exp_cell e r)))
  block-has t x e r h = steps-join x.free x.steps _ h.steps (root-has x.free x.own e r h.own, tt)

  -- ── requests ───────────────────────────────────────────────────────────────
  module _ (rows : ℕ) (E : Forest) (alone : Throughout (NoIntermediateRead L) E) where
    abbrev pub Lists : State → Type 0
    Lists st = Steps st.counter (every st.blocks)

    -- blocks made from temporary t on
    record Makes (t : ℕ) (n : ℕ) (bs : List Block) : Type 0 where
      grows : t ≤ n
      steps : Steps n (every bs)

    one-makes : (j : Job) (o : Option Expression) (t : ℕ) → nth E j.expression ≡ o → Makes t (make_one j o t).counter (make_one j o t).blocks
    one-makes j none t q = record { grows = omega arith; steps = tt }
    one-makes j (some x) t q =
        let T = asked j.fused x.tree in
        let e = emits T j.row t ((asked-leaves (NoIntermediateRead L) j.fused x.tree).1 (alone j.expression x q)) in
        let n = (emit T j.row t).free in
        record { grows = e.grows; steps = steps-join n (block_steps (emit T j.row t) (Ref.var (exp_cell j.expression j.row))) [] (block-has t (emit T j.row t) j.expression j.row e) tt }

    makes : (js : List Job) (t : ℕ) → Makes t (make E js t).counter (make E js t).blocks
    makes [] t = record { grows = omega arith; steps = tt }
    makes (j ∷ js) t =
        let x = make_one j (nth E j.expression) t in
        let f = one-makes j (nth E j.expression) t refl in
        let y = make E js x.counter in
        let g = makes js x.counter in
        record {
          grows = omega (arith, f.grows, g.grows);
          steps = rw (every_append x.blocks y.blocks) (steps-join y.counter (every x.blocks) (every y.blocks) (steps-le x.counter y.counter g.grows (every x.blocks) f.steps) g.steps);
        }

    adding-lists : (a : Asked) (st : State) → Lists st → Lists (adding E a st)
    adding-lists a st h =
        let x = make E a.jobs st.counter in
        let f = makes a.jobs st.counter in
        rw (every_append st.blocks x.blocks) (steps-join x.counter (every st.blocks) (every x.blocks) (steps-le st.counter x.counter f.grows (every st.blocks) h) f.steps)

    generate-lists : (q : Request) (st st' : State) → Lists st → generate rows E q st ≡ done st' → Lists st'
    generate-lists q st st' h k =
        let x = then-done (ask rows E q.fused q.expression q.row st.marks) _ k in
        let y = then-done (plain_result q.row q.result) _ x.2 in
        subst Lists (done-same _ _ y.2) (adding-lists x.0 st h)

    copy_lists : (e r : ℕ) (o : Option Result) → o ≡ none → (st st' : State) → Lists st → copy_out e r o st ≡ done st' → Lists st'
    copy_lists e r none n st st' h k = subst Lists (done-same _ _ k) h
    copy_lists e r (some w) n st st' h k = absurd (some-ne-none w n)

    serve-lists : (q : Request) → NoResult q → (st st' : State) → Lists st → serve rows E q st ≡ done st' → Lists st'
    serve-lists q n st st' h k =
        let x = then-done (there (nth E q.expression)) _ k in
        let y = then-done (cond (st.marks q.expression q.row) (done st) (generate rows E q st)) _ x.2 in
        copy_lists q.expression q.row q.result n y.0 st' (go y.0 (st.marks q.expression q.row) y.1) y.2
      where
        go : (s : State) (b : Bool) → cond b (done st) (generate rows E q st) ≡ done s → Lists s
        go s true z = subst Lists (done-same _ _ z) h
        go s false z = generate-lists q st s h z

    pub serve_all-lists : (qs : List Request) → Each NoResult qs → (st st' : State) → Lists st → serve_all rows E qs st ≡ done st' → Lists st'
    serve_all-lists [] n st st' h k = subst Lists (done-same _ _ k) h
    serve_all-lists (q ∷ qs) n st st' h k =
        let x = then-done (serve rows E q st) _ k in
        serve_all-lists qs n.1 x.0 st' (serve-lists q n.0 st x.0 h x.1) x.2

    -- THE CELLS OF A GENERATED LIST
    pub listed : (qs : List Request) → Each NoResult qs → (st : State) → serve_all rows E qs start ≡ done st → In (Occurs L st.counter) (every st.blocks)
    listed qs n st h = serve_all-lists qs n start st tt h
