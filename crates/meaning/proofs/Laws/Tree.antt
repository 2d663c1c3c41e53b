-- The lemma of one tree: running the steps of a tree changes only temporaries from t on and leaves the tree's value readable.
-- Assumes nothing.
use Rattle.std.specs.Prelude.{ℕ, ◌≤◌, ◌≡◌, refl, false, List, [], ◌∷◌, ◌++◌}
use Rattle.std.proofs.Common.{◌∙◌, ap, arith}
use Rattle.std.proofs.Math.Option.{some}
use Rattle.meaning.specs.Trees.{Lit, lit, Op, OpC, Leaf, Expr, Forest, Placed, ◌at◌, leaves, Each}
use Rattle.meaning.specs.Steps.{Kind, Cell, Ref, StepOp, Step, tmp_ref}
use Rattle.meaning.specs.Values.{Algebra, Given, op, opc, Has}
use Rattle.meaning.specs.Running.{Store, set, write, read, computes, run}
use Rattle.meaning.specs.Emission.{leaf_ref, step_op, Own, Emitted, Settled, settle, settled, emit, root_step, block_steps}
use Rattle.meaning.proofs.Laws.Tests.{each_left, each_right, each_map}
use Rattle.meaning.proofs.Laws.Cells.{same_refl, tmp-apart, tmp-under, Below, leaf-below, below-le}
use Rattle.meaning.proofs.Laws.Runs.{Agree, agree_refl, agree_trans, read-agree, run-then, run-last}

-- what a tree's own step does, a leaf's being a copy
abbrev pub own_op : Own → StepOp
own_op (Own.ref r) = StepOp.copy
own_op (Own.operation o rs) = o

abbrev pub own_refs : Own → List Ref
own_refs (Own.ref r) = r ∷ []
own_refs (Own.operation o rs) = rs

abbrev OwnBelow : Own → ℕ → Type 0
OwnBelow (Own.ref r) t = Below r t
OwnBelow (Own.operation o rs) t = Unit {0}

module _ (𝓐 : Algebra) (G : Given 𝓐.A) where
  -- the steps before a tree's own leave a store in which its own computes v
  pub record Good (s : Store 𝓐.A) (t : ℕ) (x : Emitted) (v : 𝓐.A) : Type 0 where
    pub mid : Store 𝓐.A
    pub runs : run 𝓐 G x.steps s ≡ some mid
    pub gives : computes 𝓐 G mid (own_op x.own) (own_refs x.own) ≡ some v
    pub agree : Agree t s mid
    pub low : OwnBelow x.own t
    pub grows : t ≤ x.free

  -- a tree's steps leave its value where it is read
  record Final (s : Store 𝓐.A) (t : ℕ) (x : Settled) (v : 𝓐.A) : Type 0 where
    end : Store 𝓐.A
    runs : run 𝓐 G x.steps s ≡ some end
    reads : read 𝓐 G end x.result ≡ some v
    agree : Agree t s end
    below : Below x.result x.free
    grows : t ≤ x.free

  finish : {s : Store 𝓐.A} {t : ℕ} {v : 𝓐.A} (xs : List Step) (o : Own) (u : ℕ) → Good s t (record { steps = xs; own = o; free = u }) v → Final s t (settle xs o u) v
  finish xs (Own.ref r) u g = record {
    end = g.mid;
    runs = g.runs;
    reads = g.gives;
    agree = g.agree;
    below = below-le r g.grows g.low;
    grows = g.grows;
  }
  finish {s} {t} {v} xs (Own.operation o rs) u g = record {
    end = set g.mid (Cell.cell Kind.tmp u 0) v;
    runs = run-last 𝓐 G xs o (tmp_ref u) rs s g.runs g.gives refl;
    reads = rw (same_refl (Cell.cell Kind.tmp u 0));
    agree = record { kept = λ c h. rw (tmp-apart u t c g.grows h) (g.agree.kept c h) };
    below = tmp-under u (omega arith);
    grows = omega (arith, g.grows);
  }

  -- THE BLOCK: its steps run, and d is written last
  pub block_runs :
      {s : Store 𝓐.A} {t : ℕ} {v : 𝓐.A} (x : Emitted) (d : Ref) (g : Good s t x v) {s' : Store 𝓐.A} → write g.mid d v ≡ some s' →
      run 𝓐 G (block_steps x d) s ≡ some s'
  block_runs {s} {t} {v} x d g {s'} w = go x.own g.gives
    where
      go : (o : Own) → computes 𝓐 G g.mid (own_op o) (own_refs o) ≡ some v → run 𝓐 G (x.steps ++ (root_step o d ∷ [])) s ≡ some s'
      go (Own.ref r) q = run-last 𝓐 G x.steps StepOp.copy d (r ∷ []) s g.runs q w
      go (Own.operation o rs) q = run-last 𝓐 G x.steps o d rs s g.runs q w

  final : {s : Store 𝓐.A} {t : ℕ} {v : 𝓐.A} (x : Emitted) → Good s t x v → Final s t (settled x) v
  final x g = finish x.steps x.own x.free g

  computes-bin : (s : Store 𝓐.A) (o : Op) (r r' : Ref) {v w : 𝓐.A} → read 𝓐 G s r ≡ some v → read 𝓐 G s r' ≡ some w → computes 𝓐 G s (step_op o) (r ∷ r' ∷ []) ≡ some (op 𝓐 o v w)
  computes-bin s Op.add r r' h k = rw (h, k)
  computes-bin s Op.sub r r' h k = rw (h, k)
  computes-bin s Op.mul r r' h k = rw (h, k)

  computes-muladd :
      (s : Store 𝓐.A) (r r' r'' : Ref) {v w u : 𝓐.A} →
      read 𝓐 G s r ≡ some v → read 𝓐 G s r' ≡ some w → read 𝓐 G s r'' ≡ some u →
      computes 𝓐 G s StepOp.muladd (r ∷ r' ∷ r'' ∷ []) ≡ some (𝓐.plus (𝓐.times v w) u)
  computes-muladd s r r' r'' h k l = rw (h, k, l)

  -- an operation after the steps of one, two or three operands
  good-one :
      {s : Store 𝓐.A} {t : ℕ} {u v : 𝓐.A} (x : Settled) (f : Final s t x u) (o : StepOp) (rs : List Ref) → computes 𝓐 G f.end o rs ≡ some v →
      Good s t (record { steps = x.steps; own = Own.operation o rs; free = x.free }) v
  good-one x f o rs q = record { mid = f.end; runs = f.runs; gives = q; agree = f.agree; low = tt; grows = f.grows }

  good-two :
      {s : Store 𝓐.A} {t : ℕ} {u v : 𝓐.A} (x y : Settled) (f : Final s t x u) (g : Final f.end x.free y v) (o : Op) →
      Good s t (record { steps = x.steps ++ y.steps; own = Own.operation (step_op o) (x.result ∷ y.result ∷ []); free = y.free }) (op 𝓐 o u v)
  good-two {s} x y f g o = record {
    mid = g.end;
    runs = run-then 𝓐 G x.steps y.steps s f.runs g.runs;
    gives = computes-bin g.end o x.result y.result (read-agree 𝓐 G x.result f.below g.agree ∙ f.reads) g.reads;
    agree = agree_trans f.grows f.agree g.agree;
    low = tt;
    grows = omega (arith, f.grows, g.grows);
  }

  good-three :
      {s : Store 𝓐.A} {t : ℕ} {u v w : 𝓐.A} (x y z : Settled) (f : Final s t x u) (g : Final f.end x.free y v) (k : Final g.end y.free z w) →
      Good s t (record { steps = x.steps ++ (y.steps ++ z.steps); own = Own.operation StepOp.muladd (x.result ∷ y.result ∷ z.result ∷ []); free = z.free })
      (𝓐.plus (𝓐.times u v) w)
  good-three {s} x y z f g k =
      let gk : Agree x.free f.end k.end = agree_trans g.grows g.agree k.agree in
      record {
        mid = k.end;
        runs = run-then 𝓐 G x.steps (y.steps ++ z.steps) s f.runs (run-then 𝓐 G y.steps z.steps f.end g.runs k.runs);
        gives =
            computes-muladd k.end x.result y.result z.result
            (read-agree 𝓐 G x.result f.below gk ∙ f.reads)
            (read-agree 𝓐 G y.result g.below k.agree ∙ g.reads)
            k.reads;
        agree = agree_trans f.grows f.agree gk;
        low = tt;
        grows = omega (arith, f.grows, g.grows, k.grows);
      }

  module _ (E : Forest) (r : ℕ) where
    -- a leaf can be read, and what is read is its value
    abbrev pub Ready : Store 𝓐.A → Placed → Type 0
    Ready s (l at n) = (v : 𝓐.A) × (read 𝓐 G s (leaf_ref n l r) ≡ some v) × Has 𝓐 G E (Expr.leaf n l) r v

    ready-one : {t : ℕ} {s s' : Store 𝓐.A} → Agree t s s' → (p : Placed) → Ready s p → Ready s' p
    ready-one {t} a (l at n) h = (h.0, read-agree 𝓐 G (leaf_ref n l r) (leaf-below n l r t) a ∙ h.1, h.2)

    ready-agree : {t : ℕ} {s s' : Store 𝓐.A} → Agree t s s' → (ls : List Placed) → Each (Ready s) ls → Each (Ready s') ls
    ready-agree {s = s} {s' = s'} a ls h = each_map (Ready s) (Ready s') (ready-one a) ls h

    -- a value of the tree, with its steps
    pub record Valued (s : Store 𝓐.A) (t : ℕ) (T : Expr) : Type 0 where
      pub value : 𝓐.A
      pub good : Good s t (emit T r t) value
      pub has : Has 𝓐 G E T r value

    -- what is shown of a tree, for each store in which its leaves are ready
    abbrev Plans : Expr → Type 0
    Plans T = (t : ℕ) (s : Store 𝓐.A) → Each (Ready s) (leaves T) → Valued s t T

    plans-bin : (n : ℕ) (o : Op) (a b : Expr) → Plans a → Plans b → Plans (Expr.bin n o a b)
    plans-bin n o a b pa pb t s h =
        let A = pa t s (each_left (Ready s) (leaves a) (leaves b) h) in
        let f = final (emit a r t) A.good in
        let u = (settled (emit a r t)).free in
        let B = pb u f.end (ready-agree f.agree (leaves b) (each_right (Ready s) (leaves a) (leaves b) h)) in
        let g = final (emit b r u) B.good in
        record {
          value = op 𝓐 o A.value B.value;
          good = good-two (settled (emit a r t)) (settled (emit b r u)) f g o;
          has = Has.bin A.value B.value A.has B.has refl;
        }

    has-muladd : (n : ℕ) (a b c : Expr) {u v w : 𝓐.A} → Has 𝓐 G E a r u → Has 𝓐 G E b r v → Has 𝓐 G E c r w → Has 𝓐 G E (Expr.muladd n a b c) r (𝓐.plus (𝓐.times u v) w)
    has-muladd n a b c {u} {v} {w} h k l = Has.muladd u v w h k l refl

    plans-muladd : (n : ℕ) (a b c : Expr) → Plans a → Plans b → Plans c → Plans (Expr.muladd n a b c)
    plans-muladd n a b c pa pb pc t s h =
        let A = pa t s (each_left (Ready s) (leaves a) (leaves b ++ leaves c) h) in
        let bc = each_right (Ready s) (leaves a) (leaves b ++ leaves c) h in
        let f = final (emit a r t) A.good in
        let u = (settled (emit a r t)).free in
        let B = pb u f.end (ready-agree f.agree (leaves b) (each_left (Ready s) (leaves b) (leaves c) bc)) in
        let g = final (emit b r u) B.good in
        let w = (settled (emit b r u)).free in
        let fg : Agree t s g.end = agree_trans f.grows f.agree g.agree in
        let C = pc w g.end (ready-agree fg (leaves c) (each_right (Ready s) (leaves b) (leaves c) bc)) in
        let k = final (emit c r w) C.good in
        record {
          value = 𝓐.plus (𝓐.times A.value B.value) C.value;
          good = good-three (settled (emit a r t)) (settled (emit b r u)) (settled (emit c r w)) f g k;
          has = has-muladd n a b c A.has B.has C.has;
        }

    plans-binc : (n : ℕ) (o : OpC) (a : Expr) (l : Lit) → Plans a → Plans (Expr.binc n o a l)
    plans-binc n o a l pa t s h =
        let A = pa t s h in
        let x = settled (emit a r t) in
        let f = final (emit a r t) A.good in
        record {
          value = op 𝓐 (opc o) A.value (𝓐.of_lit l);
          good = good-one x f (step_op (opc o)) (x.result ∷ Ref.number l n ∷ []) (computes-bin f.end (opc o) x.result (Ref.number l n) f.reads refl);
          has = Has.binc A.value A.has refl;
        }

    plans-neg : (n : ℕ) (a : Expr) → Plans a → Plans (Expr.neg n a)
    plans-neg n a pa t s h =
        let A = pa t s h in
        let x = settled (emit a r t) in
        let f = final (emit a r t) A.good in
        let z = Ref.number (lit false 0) n in
        record {
          value = 𝓐.negated A.value;
          good =
              good-one x f StepOp.sub (z ∷ x.result ∷ [])
              (computes-bin f.end Op.sub z x.result refl f.reads ∙ ap some (𝓐.zero_minus A.value));
          has = Has.neg A.value A.has refl;
        }

    plans-leaf : (n : ℕ) (l : Leaf) → Plans (Expr.leaf n l)
    plans-leaf n l t s h = record {
      value = h.0.0;
      good = record { mid = s; runs = refl; gives = h.0.1; agree = agree_refl t s; low = leaf-below n l r t; grows = omega arith };
      has = h.0.2;
    }

    -- THE LEMMA OF ONE TREE
    pub planned : (T : Expr) → Plans T
    planned (Expr.leaf n l) = plans-leaf n l
    planned (Expr.bin n o a b) = plans-bin n o a b (planned a) (planned b)
    planned (Expr.muladd n a b c) = plans-muladd n a b c (planned a) (planned b) (planned c)
    planned (Expr.binc n o a l) = plans-binc n o a l (planned a)
    planned (Expr.neg n a) = plans-neg n a (planned a)
