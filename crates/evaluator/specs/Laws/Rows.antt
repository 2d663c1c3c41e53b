-- The first list of accepted requests: every reference is of a row that is there, and it has no more steps than document 01 makes room for.
-- Assumes nothing.
use Rattle.std.specs.Prelude.{ℕ, ◌+◌, ◌<◌, ◌≤◌, ◌≡◌, refl, List, [], ◌∷◌, ◌++◌, length}
use Rattle.std.proofs.Common.{sym, ◌∙◌, subst, arith, ltb-true}
use Rattle.std.proofs.Math.Option.{Option, none, some}
use Rattle.meaning.specs.Refusals.{done}
use Rattle.meaning.specs.Trees.{Leaf, ◌at◌, Expr, Expression, Forest, nth, leaves, Each, Acyclic}
use Rattle.meaning.specs.Steps.{Ref, Step, step, tmp_ref, exp_cell}
use Rattle.meaning.specs.Emission.{leaf_ref, Own, Emitted, Settled, settle, settled, emit, root_step}
use Rattle.meaning.specs.Order.{Marks, marking, Job, Asked, asked, there, unmarked}
use Rattle.meaning.specs.Generation.{Block, State, start, Request, make_one, make, adding, serve_all}
use Rattle.meaning.specs.Building.{Segment, every, segment, whole}
use Rattle.meaning.specs.Demand3.{NoResult}
use Rattle.meaning.specs.Asking.{ask_one, ask_all}
use Rattle.meaning.specs.Holding.{serve_all-asks}
use Rattle.meaning.proofs.Laws.Tests.{each_left, each_right, each-join, then-done, done-same}
use Rattle.meaning.proofs.Laws.Jobs.{InRows, AllFine, asks}
use Rattle.meaning.proofs.Laws.Fuse.{asked-leaves}
use Rattle.meaning.proofs.Laws.Once.{all-rows}
use Rattle.frames.specs.Order.{node_limit}
use Rattle.pool.specs.Pool.{Pool}
use Rattle.pool.specs.Trees.{forest}
use Rattle.pool.specs.Shaped.{Shaped}
use Rattle.starkinfo_codegen.specs.Totals.{room-suffices}
use Rattle.evaluator.specs.Laws.ReadBack.{InTwo, StepInTwo}

-- ---- emission

abbrev OwnInTwo : Own → Type 0
OwnInTwo (Own.ref r) = InTwo r
OwnInTwo (Own.operation o rs) = Each InTwo rs

record EmittedInTwo (x : Emitted) : Type 0 where
  steps : Each StepInTwo x.steps
  own : OwnInTwo x.own

record SettledInTwo (x : Settled) : Type 0 where
  steps : Each StepInTwo x.steps
  result : InTwo x.result

settle_in : (xs : List Step) (o : Own) (t : ℕ) → Each StepInTwo xs → OwnInTwo o → SettledInTwo (settle xs o t)
settle_in xs (Own.ref r) t h g = record { steps = h; result = g }
settle_in xs (Own.operation o rs) t h g =
    record { steps = each-join StepInTwo xs (step o (tmp_ref t) rs ∷ []) h (record { dest = omega arith; sources = g }, tt); result = omega arith }

settled_in : {x : Emitted} → EmittedInTwo x → SettledInTwo (settled x)
settled_in {x} h = settle_in x.steps x.own x.free h.steps h.own

leaf_in_lem : (n : ℕ) (l : Leaf) (r : ℕ) → InRows 2 r (l at n) → InTwo (leaf_ref n l r)
leaf_in_lem n (Leaf.cell k i a) r h = ltb-true (r + a) 2 h
leaf_in_lem n (Leaf.exp i a) r h = ltb-true (r + a) 2 h
leaf_in_lem n (Leaf.number l) r h = tt
leaf_in_lem n (Leaf.flat k i) r h = omega arith
leaf_in_lem n (Leaf.x k) r h = omega arith

emit_in : (e : Expr) (r t : ℕ) → Each (InRows 2 r) (leaves e) → EmittedInTwo (emit e r t)
emit_in (Expr.leaf n l) r t h = record { steps = tt; own = leaf_in_lem n l r h.0 }
emit_in (Expr.bin n o a b) r t h =
    let x = settled (emit a r t) in
    let y = settled (emit b r x.free) in
    let u : SettledInTwo x = settled_in (emit_in a r t (each_left (InRows 2 r) (leaves a) (leaves b) h)) in
    let v : SettledInTwo y = settled_in (emit_in b r x.free (each_right (InRows 2 r) (leaves a) (leaves b) h)) in
    record { steps = each-join StepInTwo x.steps y.steps u.steps v.steps; own = (u.result, (v.result, tt)) }
emit_in (Expr.muladd n a b c) r t h =
    let x = settled (emit a r t) in
    let y = settled (emit b r x.free) in
    let z = settled (emit c r y.free) in
    let k = each_right (InRows 2 r) (leaves a) (leaves b ++ leaves c) h in
    let u : SettledInTwo x = settled_in (emit_in a r t (each_left (InRows 2 r) (leaves a) (leaves b ++ leaves c) h)) in
    let v : SettledInTwo y = settled_in (emit_in b r x.free (each_left (InRows 2 r) (leaves b) (leaves c) k)) in
    let w : SettledInTwo z = settled_in (emit_in c r y.free (each_right (InRows 2 r) (leaves b) (leaves c) k)) in
    record {
      steps = each-join StepInTwo x.steps (y.steps ++ z.steps) u.steps (each-join StepInTwo y.steps z.steps v.steps w.steps);
      own = (u.result, (v.result, (w.result, tt)));
    }
emit_in (Expr.binc n o a l) r t h =
    let u : SettledInTwo (settled (emit a r t)) = settled_in (emit_in a r t h) in
    record { steps = u.steps; own = (u.result, (tt, tt)) }
emit_in (Expr.neg n a) r t h =
    let u : SettledInTwo (settled (emit a r t)) = settled_in (emit_in a r t h) in
    record { steps = u.steps; own = (tt, (u.result, tt)) }

root_in : (o : Own) (d : Ref) → InTwo d → OwnInTwo o → StepInTwo (root_step o d)
root_in (Own.ref r) d h g = record { dest = h; sources = (g, tt) }
root_in (Own.operation o rs) d h g = record { dest = h; sources = g }

-- ---- blocks

record BlockInTwo (b : Block) : Type 0 where
  steps : Each StepInTwo b.steps

every_in : (bs : List Block) → Each BlockInTwo bs → Each StepInTwo (every bs)
every_in [] h = tt
every_in (b ∷ bs) h = each-join StepInTwo b.steps (every bs) h.0.steps (every_in bs h.1)

module _ (E : Forest) where
  -- a job whose row is there, and every row that its leaves read
  record JobIn (j : Job) : Type 0 where
    expression : Expression
    found : nth E j.expression ≡ some expression
    reads : Each (InRows 2 j.row) (leaves expression.tree)

  fine_in : (m : Marks) (js : List Job) → AllFine 2 E m js → Each JobIn js
  fine_in m [] h = tt
  fine_in m (j ∷ js) h = (record { expression = h.0.expression; found = h.0.found; reads = h.0.rows_there }, fine_in (marking m j.expression j.row) js h.1)

  all_in : (qs : List Request) (m : Marks) (a : Asked) → ask_all 2 E qs m ≡ done a → Each JobIn a.jobs
  all_in [] m a h = subst (λ (z : Asked). Each JobIn z.jobs) (done-same _ a h) tt
  all_in (q ∷ qs) m a h =
      let x = then-done (ask_one 2 E q m) _ h in
      let w = then-done (there (nth E q.expression)) _ x.1 in
      let y = then-done (ask_all 2 E qs x.0.marks) _ x.2 in
      let g = asks 2 E q.fused q.expression q.row m x.0 w.2 in
      subst (λ (z : Asked). Each JobIn z.jobs) (done-same _ a y.2)
      (each-join JobIn x.0.jobs y.0.jobs (fine_in m x.0.jobs g.0.fine) (all_in qs x.0.marks y.0 y.1))

  one_in : (j : Job) (o : Option Expression) (t : ℕ) → nth E j.expression ≡ o → j.row < 2 → JobIn j → Each BlockInTwo (make_one j o t).blocks
  one_in j none t e l h = tt
  one_in j (some x) t e l h =
      let q : h.expression ≡ x = same h.expression x (sym h.found ∙ e) in
      let r : Each (InRows 2 j.row) (leaves x.tree) = subst (λ (z : Expression). Each (InRows 2 j.row) (leaves z.tree)) q h.reads in
      let y = emit (asked j.fused x.tree) j.row t in
      let u : EmittedInTwo y = emit_in (asked j.fused x.tree) j.row t ((asked-leaves (InRows 2 j.row) j.fused x.tree).1 r) in
      (record { steps = each-join StepInTwo y.steps (root_step y.own (Ref.var (exp_cell j.expression j.row)) ∷ []) u.steps (root_in y.own _ l u.own, tt) }, tt)
    where
      same : (a b : Expression) → some a ≡ some b → a ≡ b
      same a b e = cc

  made_in : (js : List Job) (t : ℕ) → Each (λ j. j.row < 2) js → Each JobIn js → Each BlockInTwo (make E js t).blocks
  made_in [] t l h = tt
  made_in (j ∷ js) t l h =
      let x = make_one j (nth E j.expression) t in
      each-join BlockInTwo x.blocks (make E js x.counter).blocks (one_in j (nth E j.expression) t refl l.0 h.0) (made_in js x.counter l.1 h.1)

  -- EVERY REFERENCE OF THE FIRST LIST is of this row or the next
  pub first_in : (qs : List Request) (s : Segment) → Each NoResult qs → Each (λ q. q.row < 2) qs → whole 2 E qs ≡ done s → Each StepInTwo s.first
  first_in qs s plain rows e =
      let y = then-done (serve_all 2 E qs start) _ e in
      let z = then-done (ask_all 2 E qs unmarked) (λ a. done (adding E a start)) (sym (serve_all-asks 2 E qs plain start) ∙ y.1) in
      let a = z.0 in
      let k = every_in (make E a.jobs 0).blocks (made_in a.jobs 0 (all-rows 2 E qs unmarked a rows z.1) (all_in qs unmarked a z.1)) in
      let p : adding E a start ≡ y.0 = done-same _ _ z.2 in
      let q : segment E y.0 ≡ s = done-same _ _ y.2 in
      subst (λ (v : Segment). Each StepInTwo v.first) q (subst (λ (v : State). Each StepInTwo (segment E v).first) p k)

-- AND IT HAS AT MOST 8,192 STEPS, two for each node
pub first-few :
    (p : Pool) → Shaped p → length p.nodes ≤ node_limit → Acyclic (forest p) → (qs : List Request) (s : Segment) → Each NoResult qs → Each (λ q. q.row < 2) qs
    → whole 2 (forest p) qs ≡ done s → length s.first ≤ 8192
first-few p shaped few acyclic qs s plain rows e =
    let y = then-done (serve_all 2 (forest p) qs start) _ e in
    let z = then-done (ask_all 2 (forest p) qs unmarked) (λ a. done (adding (forest p) a start)) (sym (serve_all-asks 2 (forest p) qs plain start) ∙ y.1) in
    let k = room-suffices p shaped few acyclic qs unmarked z.0 0 rows z.1 in
    let u : adding (forest p) z.0 start ≡ y.0 = done-same _ _ z.2 in
    let q : segment (forest p) y.0 ≡ s = done-same _ _ y.2 in
    subst (λ (v : Segment). length v.first ≤ 8192) q (subst (λ (v : State). length (segment (forest p) v).first ≤ 8192) u k)
