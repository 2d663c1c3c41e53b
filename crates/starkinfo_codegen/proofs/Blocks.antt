-- A block: the steps of its root's tree, with the last one's destination changed, or a copy.
-- Assumes nothing.
use Prim.Native.Nat.{ℕ, zero, suc, ◌+◌, ◌*◌, ◌-◌, ◌<◌, ◌≤◌}
use mathlib.Core.Path.{◌≡◌, refl, sym, ◌∙◌, ap, subst}
use mathlib.Core.Bool.{Bool}
use mathlib.Core.List.{List, [], ◌∷◌, ◌++◌, append_assoc}
use native.Mathlib.Omega.{arith}
use lib.ListN.{length, take, drop, length-append, length-take}
use lib.Seq.{take_at, drop_at}
use Rattle.meaning.specs.Trees.{Expr}
use Rattle.meaning.specs.Steps.{Ref, StepOp, Step, step, tmp_ref, exp_cell}
use Rattle.meaning.specs.Emission.{leaf_ref, Emitted, settled, emit, block_steps}
use Rattle.kinds.specs.KindBytes as kind
use Rattle.kinds.specs.Write.{write, write-is, write-none, write-append, write-length}
use Rattle.kinds.specs.BigEndian.{u16_bytes}
use Rattle.kinds.specs.Steps.{step_size, head_bytes, step_bytes, step-sized}
use Rattle.kinds.specs.References.{reference_size, ref_bytes, plain_ref, ref-sized}
use Rattle.kinds.specs.declared.reference.Reference.{Reference}
use Rattle.kinds.specs.declared.step.Step as bytes
use Rattle.pool.specs.Pool.{node}
use Rattle.pool.specs.Trees.{leaf_of}
use Rattle.pool.specs.Laws.Tabled.{node-count}
use Rattle.starkinfo_codegen.specs.Words.{node_of_words}
use Rattle.starkinfo_codegen.specs.Encoding.{step_record, encoded, encoded-append, encoded-one, encoded-none, encoded-length}
use Rattle.starkinfo_codegen.specs.Sources.{leaf_in, copy_step, into}
use Rattle.starkinfo_codegen.specs.Counting.{ops, block-length}
use Rattle.starkinfo_codegen.specs.Plans.{part_steps}
use Rattle.starkinfo_codegen.specs.Roots.{Root, root, root-settled, root-block, root-count, block-count, block-leaf, block-enough}
use Rattle.starkinfo_codegen.specs.Sizes.{tree-steps}
use Rattle.starkinfo_codegen.specs.Emitting.{Rest, tables_of, pool_of, Pooled, tree_of, taken, CountAsks, Asks, Gives, Sizes, BlockAsks, BlockGives}
use Rattle.starkinfo_codegen.proofs.Planned.{part-under}
use Rattle.starkinfo_codegen.proofs.Calls.{taken-node, stepless, leaf_in_lem}

-- ── a destination put over another ───────────────────────────────────────────
-- bytes put over the front of others
write-front :
    (m : List ℕ) (q : ℕ) (us vs rest : List ℕ) → length us ≡ length vs → q + length (us ++ rest) ≤ length m →
    write (write m q (us ++ rest)) q vs ≡ write m q (vs ++ rest)
write-front m q us vs rest e h =
    let x : List ℕ = write m q (us ++ rest) in
    let tail : List ℕ = drop (q + length (us ++ rest)) m in
    let k : length (us ++ rest) ≡ length us + length rest = length-append us rest in
    let k' : length (vs ++ rest) ≡ length vs + length rest = length-append vs rest in
    let same : length (vs ++ rest) ≡ length (us ++ rest) = omega (arith, k, k', e) in
    let t : length (take q m) ≡ q = simp length-take (omega arith) in
    let is : x ≡ (take q m ++ us) ++ (rest ++ tail) = write-is m q (us ++ rest) h ∙ (simp append_assoc) in
    let g : q + length vs ≤ length x = rw write-length (omega (arith, h, k, e)) in
    let e1 : take q x ≡ take q m = ap (take q) (is ∙ append_assoc (take q m) us (rest ++ tail)) ∙ take_at (take q m) _ q t in
    let e2 : drop (q + length vs) x ≡ rest ++ tail
    = ap (drop (q + length vs)) is ∙ drop_at (take q m ++ us) (rest ++ tail) (q + length vs) (simp length-append (omega arith)) in
    let back : write m q (vs ++ rest) ≡ (take q m ++ (vs ++ rest)) ++ tail
    = write-is m q (vs ++ rest) (omega (arith, h, same)) ∙ ap (λ n. (take q m ++ (vs ++ rest)) ++ drop (q + n) m) same in
    write-is x q vs g ∙ rw (e1, e2) (sym (back ∙ (simp append_assoc) ∙ sym (append_assoc (take q m) vs (rest ++ tail))))

module _ (s : bytes.Step) where
  abbrev before : List ℕ
  before = head_bytes s.op s.count s.origin

  abbrev sources : List ℕ
  sources = ref_bytes s.s0 ++ (ref_bytes s.s1 ++ ref_bytes s.s2)

  before-size : length before ≡ 4
  unfolding head_bytes u16_bytes
  before-size = refl

  step-parts : (d : Reference) → step_bytes (into s d) ≡ before ++ (ref_bytes d ++ sources)
  unfolding step_bytes
  step-parts d = simp append_assoc

  step-written : (l : List ℕ) (p : ℕ) (d : Reference) → write l p (step_bytes (into s d)) ≡ write (write l p before) (p + 4) (ref_bytes d ++ sources)
  step-written l p d =
      ap (write l p) (step-parts d) ∙ write-append l p before (ref_bytes d ++ sources)
      ∙ ap (λ k. write (write l p before) (p + k) (ref_bytes d ++ sources)) before-size

  parts-size : (d : Reference) → length (ref_bytes d ++ sources) ≡ 48
  parts-size d =
      let n = step-sized (into s d) in
      let m = ap length (step-parts d) in
      omega (arith, n, m, length-append before (ref_bytes d ++ sources), before-size)

  -- another destination put over a step's
  pub retargeted : (l : List ℕ) (p : ℕ) (d : Reference) → p + step_size ≤ length l → write (write l p (step_bytes s)) (p + 4) (ref_bytes d) ≡ write l p (step_bytes (into s d))
  retargeted l p d h =
      ap (λ m. write m (p + 4) (ref_bytes d)) (step-written l p s.dest)
      ∙ write-front (write l p before) (p + 4) (ref_bytes s.dest) (ref_bytes d) sources (ref-sized s.dest ∙ sym (ref-sized d))
      (rw write-length (omega (arith, h, parts-size s.dest)))
      ∙ sym (step-written l p d)

-- ── sizes ────────────────────────────────────────────────────────────────────
module _ (w : List ℕ) (b : Rest) (f : Bool) (i : ℕ) (pool : Pooled w b) (there : i < b.node_count) where
  few : i < 4096
  few = omega (arith, pool.few)

  taken-few : taken w b f i ≤ 4096
  taken-few = let h = subst (λ n. i < n) (sym (node-count (tables_of w b))) there in omega (arith, taken-node w b f i few, tree-steps (pool_of w b) pool.shaped f i h)

  pub size-asks : CountAsks w b f i
  size-asks = record { pool = pool; there = λ h. there; few = taken-few }

  module _ {n : ℕ} (e : n ≡ taken w b f i) where
    counted : n ≡ ops (tree_of w b f i)
    counted = e ∙ taken-node w b f i few

    sized : (m : ℕ) → m ≤ 4096 → ((row t : ℕ) (d : Ref) → m ≡ length (block_steps (emit (tree_of w b f i) row t) d)) → Sizes w b f i m
    sized m l h =
        record {
          steps = h;
          counter = λ row t. block-length row (tree_of w b f i) t (tmp_ref 0) ∙ ap (λ k. t + k) (sym (h row t (tmp_ref 0)));
          few = l;
        }

    size-one : n ≡ 0 → Sizes w b f i 1
    size-one z = sized 1 (omega arith) (λ row t d. sym (block-leaf row t (tree_of w b f i) d (sym counted ∙ z)))

    size-more : (n ≡ 0 → ⊥) → Sizes w b f i n
    size-more z = sized n (omega (arith, taken-few, e)) (λ row t d. counted ∙ sym (block-count row t (tree_of w b f i) d (λ q. z (counted ∙ q))))

    pub size-of : {m : ℕ} → (n ≡ 0 → m ≡ 1) → ((n ≡ 0 → ⊥) → m ≡ n) → Sizes w b f i m
    size-of {m} one more = go n refl
      where
        go : (k : ℕ) → n ≡ k → Sizes w b f i m
        go zero z = subst (Sizes w b f i) (sym (one z)) (size-one z)
        go (suc k) z = let x : n ≡ 0 → ⊥ = λ q. omega (arith, q, z) in subst (Sizes w b f i) (sym (more x)) (size-more x)

-- ── writing ──────────────────────────────────────────────────────────────────
module _ (w : List ℕ) (b : Rest) (f : Bool) (row t i e : ℕ) {at room : ℕ} (a : BlockAsks w b f row t i e at room) where
  abbrev D : Ref
  D = Ref.var (exp_cell e row)

  abbrev E : Expr
  E = tree_of w b f i

  abbrev X : Emitted
  X = emit E row t

  small : i < 4096
  small = few w b f i a.pool a.there

  steps_are : taken w b f i ≡ ops E
  steps_are = taken-node w b f i small

  pub eval-asks : Asks w b f row at t i room
  eval-asks =
      let k = block-enough row t E D in
      record {
        pool = a.pool;
        rows = a.rows;
        there = λ h. a.there;
        fits = omega (arith, a.fits, k.0, steps_are);
        temporaries = omega (arith, a.counter, block-length row E t D, k.0, steps_are);
      }

  pub leaf-asks : (i < 4096) × (row + (node_of_words w i).next ≤ 255)
  leaf-asks = (small, a.rows i a.there)

  pub copy-room : {room' : ℕ} → room' ≡ room → step_size * at + step_size ≤ room'
  copy-room er = omega (arith, a.fits, (block-enough row t E D).1, er)

  module _ {l l1 : List ℕ} {n : ℕ} (g : Gives w b f row at t i l l1 n) where
    n-is : n ≡ ops E
    n-is = g.count ∙ steps_are

    written : l1 ≡ write l (step_size * at) (encoded (settled X).steps)
    written = g.list ∙ ap (λ p. write l (step_size * at) (encoded (part_steps row p t))) (part-under w b f i small)

    gives : {l2 : List ℕ} {m : ℕ} → l2 ≡ write l (step_size * at) (encoded (block_steps X D)) → m ≡ length (block_steps X D) → BlockGives w b f row t i e at l l2 m
    gives el em = record { list = el; count = em; counter = block-length row E t D ∙ ap (λ k. t + k) (sym em) }

    -- a leaf
    module _ (z : n ≡ 0) where
      is_leaf : E ≡ Expr.leaf i (leaf_of (node (pool_of w b) i))
      is_leaf = stepless w b f a.pool row i t i a.there (sym n-is ∙ z)

      pub copy_gives :
          {l2 : List ℕ} {r c : Reference} {s : bytes.Step} → r ≡ leaf_in w row i → c ≡ plain_ref kind.exp row e → s ≡ copy_step c r → l2 ≡ write l1 (step_size * at) (step_bytes s) →
          BlockGives w b f row t i e at l l2 1
      copy_gives {r = r} {s = s} er ec es e2 =
          let k = leaf_ref i (leaf_of (node (pool_of w b) i)) row in
          let st = step StepOp.copy D (k ∷ []) in
          let eb : block_steps X D ≡ st ∷ [] = ap (λ z. block_steps (emit z row t) D) is_leaf in
          let e1 : l1 ≡ l = written ∙ ap (λ z. write l (step_size * at) (encoded (settled (emit z row t)).steps)) is_leaf ∙ ap (write l (step_size * at)) encoded-none ∙ write-none l (step_size * at) in
          let e3 : s ≡ step_record st = es ∙ ap (λ c. copy_step c r) ec ∙ ap (copy_step (plain_ref kind.exp row e)) (er ∙ leaf_in_lem w b f a.pool row i t i a.there) in
          gives
          (e2 ∙ ap (λ m. write m (step_size * at) (step_bytes s)) e1 ∙ ap (write l (step_size * at)) (ap step_bytes e3 ∙ sym (encoded-one st) ∙ ap encoded (sym eb)))
          (sym (block-leaf row t E D (sym n-is ∙ z)))

    -- an operation
    module _ (z : n ≡ 0 → ⊥) where
      q : Root row t E
      q = root row t E (λ h. z (n-is ∙ h))

      count-is : n ≡ length X.steps + 1
      count-is = n-is ∙ root-count row t E q

      pub last-room : {room' : ℕ} → room' ≡ room → (step_size * (at + (n - 1)) + step_size ≤ room') × (1 ≤ n)
      last-room er = (omega (arith, a.fits, (block-enough row t E D).0, n-is, er, count-is), omega (arith, count-is))

      -- where the last step stands, and what is written before it
      abbrev p : ℕ
      p = step_size * (at + (n - 1))

      abbrev l0 : List ℕ
      l0 = write l (step_size * at) (encoded X.steps)

      abbrev own : Ref → Step
      own d = step q.op d q.sources

      before-ends : step_size * at + length (encoded X.steps) ≡ p
      before-ends = omega (arith, encoded-length X.steps, count-is)

      -- steps that end with that one, as two writes
      two-writes : (d : Ref) → write l (step_size * at) (encoded (X.steps ++ (own d ∷ []))) ≡ write l0 p (step_bytes (step_record (own d)))
      two-writes d =
          ap (write l (step_size * at)) (encoded-append X.steps (own d ∷ []) ∙ ap (λ ws. encoded X.steps ++ ws) (encoded-one (own d)))
          ∙ write-append l (step_size * at) (encoded X.steps) (step_bytes (step_record (own d)))
          ∙ ap (λ k. write l0 k (step_bytes (step_record (own d)))) before-ends

      abbrev tmp : Ref
      tmp = tmp_ref X.free

      evaluated : l1 ≡ write l0 p (step_bytes (step_record (own tmp)))
      evaluated = written ∙ ap (λ ss. write l (step_size * at) (encoded ss)) (root-settled row t E q) ∙ two-writes tmp

      room-before : length l ≡ room → p + step_size ≤ length l0
      room-before er = let k = (last-room er).0 in rw write-length k

      pub dest-room : {room' : ℕ} → room' ≡ room → p + 4 + reference_size ≤ room'
      dest-room er = let k = (last-room er).0 in omega (arith, k)

      pub into_gives :
          length l ≡ room → {l2 : List ℕ} {c : Reference} → c ≡ plain_ref kind.exp row e → l2 ≡ write l1 (p + 4) (ref_bytes c) →
          BlockGives w b f row t i e at l l2 n
      into_gives er ec e2 =
          let d = plain_ref kind.exp row e in
          gives
          (e2 ∙ ap (λ c. write l1 (p + 4) (ref_bytes c)) ec ∙ ap (λ m. write m (p + 4) (ref_bytes d)) evaluated
          ∙ retargeted (step_record (own tmp)) l0 p d (room-before er)
          ∙ sym (two-writes D) ∙ ap (λ ss. write l (step_size * at) (encoded ss)) (sym (root-block row t E q D)))
          (n-is ∙ sym (block-count row t E D (λ h. z (n-is ∙ h))))
