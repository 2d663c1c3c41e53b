-- DOCUMENT 01'S TWO RUNS, byte by byte: cm0·cm1 + const0', fused and not, as the exported whole run must answer them.
-- Assumes nothing.
use Rattle.std.specs.Prelude.{ℕ, zero, suc, ◌*◌, ◌<◌, ◌≤◌, ◌≡◌, refl, false, List, [], ◌∷◌, length, set}
use Rattle.std.proofs.Common.{sym, ◌∙◌, ap, subst, arith, le-leb, lt-ltb}
use Rattle.std.proofs.Math.Option.{some, none-ne-some, some-injective}
use Rattle.kinds.specs.KindBytes as kind
use Rattle.kinds.specs.Kinds.{is_operation, is_leaf, is_node_kind, carries_id, carries_next, takes_i64, carries_literal, child_count}
use Rattle.kinds.specs.Range.{within}
use Rattle.kinds.specs.BigEndian.{u16_at}
use Rattle.kinds.specs.Literals.{is_minus_zero, fits_i64, is_allowed}
use Rattle.kinds.specs.Write.{write}
use Rattle.kinds.specs.Steps.{step_size}
use Rattle.meaning.specs.Refusals.{Answer, done, refused, answer_no, ◌then◌}
use Rattle.meaning.specs.Trees.{RowKind, Op, Leaf, Expr, Expression, Forest, Acyclic, nth, Each, leaves, Falls}
use Rattle.meaning.specs.Steps.{Kind, Cell, Ref, StepOp, Step, step, tmp_ref, exp_cell}
use Rattle.meaning.specs.Building.{Segment, whole}
use Rattle.meaning.proofs.Laws.Tests.{done-not-refused, number-not-zero}
use Rattle.frames.specs.Nodes.{u64_at, child_of, sign_of, magnitude_of, node_size, head_ok, literal_ok, node_ok, node_from, node_of}
use Rattle.frames.specs.Rest.{expression_ok, expression_from, expression_of, request_ok, request_from, request_of}
use Rattle.frames.specs.Frames.{frame_of}
use Rattle.frames.specs.Order as order
use Rattle.frames.specs.Order.{Input, place_node, place_expression, place_request, at_fault, count_of, counts_of}
use Rattle.frames.specs.Reading.{split, frames_in, read_from, reading}
use Rattle.frames.specs.declared.node.Node.{Node}
use Rattle.pool.specs.Pool.{Pool}
use Rattle.pool.specs.Trees.{tree, forest}
use Rattle.pool.specs.Admission.{shape}
use Rattle.pool.specs.Shaped.{Shaped}
use Rattle.pool.specs.Verdict.{Verdict}
use Rattle.pool.specs.Laws.Shape.{Shape, shape_is}
use Rattle.pool.specs.Exactly.{exactly_0}
use Rattle.pool.specs.Numbered.{pool_of}
use Rattle.starkinfo_codegen.specs.Encoding.{encoded}
use Rattle.requests.specs.Generating.{number_limit}
use Rattle.requests.specs.Whole as run
use Rattle.requests.specs.Whole.{totals, list_after}
use Rattle.requests.specs.Runs.{requests_of}
use Rattle.host.specs.Runs.{RunNumbered, totals_told}

-- ── the statement ────────────────────────────────────────────────────────────
-- the frames of document 01, each behind its length; the last byte asks for fusing
abbrev pub frames : ℕ → List ℕ
frames muladd =
    0 ∷ 6 ∷ 0x01 ∷ 0x10 ∷ 0 ∷ 0 ∷ 0 ∷ 0
    ∷ 0 ∷ 6 ∷ 0x01 ∷ 0x10 ∷ 0 ∷ 0 ∷ 1 ∷ 0
    ∷ 0 ∷ 10 ∷ 0x01 ∷ 0x03 ∷ 0 ∷ 0 ∷ 0 ∷ 2 ∷ 0 ∷ 0 ∷ 0 ∷ 1
    ∷ 0 ∷ 6 ∷ 0x01 ∷ 0x11 ∷ 1 ∷ 0 ∷ 0 ∷ 0
    ∷ 0 ∷ 10 ∷ 0x01 ∷ 0x01 ∷ 0 ∷ 0 ∷ 0 ∷ 2 ∷ 0 ∷ 2 ∷ 0 ∷ 3
    ∷ 0 ∷ 4 ∷ 0x02 ∷ 0 ∷ 4 ∷ 0
    ∷ 0 ∷ 5 ∷ 0x03 ∷ 0 ∷ 0 ∷ 0 ∷ muladd ∷ []

abbrev cm : ℕ → Ref
cm i = Ref.var (Cell.cell (Kind.row RowKind.cm) i 0)

abbrev const_next : Ref
const_next = Ref.var (Cell.cell (Kind.row RowKind.const) 0 1)

abbrev e0 : Ref
e0 = Ref.var (exp_cell 0 0)

-- exp0 = muladd cm0 cm1 const0'
abbrev pub fused_steps : List Step
fused_steps = step StepOp.muladd e0 (cm 0 ∷ cm 1 ∷ const_next ∷ []) ∷ []

-- tmp0 = mul cm0 cm1; exp0 = add tmp0 const0'
abbrev pub plain_steps : List Step
plain_steps = step StepOp.mul (tmp_ref 0) (cm 0 ∷ cm 1 ∷ []) ∷ step StepOp.add e0 (tmp_ref 0 ∷ const_next ∷ []) ∷ []

-- the answer to these frames: number 0, these steps at the front of the list, how many they are and the counter after them
pub record Answers (muladd : ℕ) (steps : List Step) (counter : ℕ) : Type 0 where
  pub runs :
      (l l' z z' : List ℕ) (n : ℕ) → step_size * length steps ≤ length l → RunNumbered (frames muladd) l l' z z' n →
      (n ≡ 0) × (l' ≡ write l 0 (encoded steps)) × (z' ≡ set (set z 0 (length steps)) 1 counter)

-- ── what is read ─────────────────────────────────────────────────────────────
abbrev leaf : ℕ → ℕ → ℕ → Node
leaf k next id = record { kind = k; next = next; id = id; count = 0; c0 = 0; c1 = 0; c2 = 0; sign = 0; magnitude = 0 }

abbrev binary : ℕ → ℕ → ℕ → Node
binary k a b = record { kind = k; next = 0; id = 0; count = 2; c0 = a; c1 = b; c2 = 0; sign = 0; magnitude = 0 }

abbrev input : ℕ → Input
input muladd =
    record {
      nodes = leaf kind.cm 0 0 ∷ leaf kind.cm 0 1 ∷ binary kind.mul 0 1 ∷ leaf kind.const 1 0 ∷ binary kind.add 2 3 ∷ [];
      expressions = record { root = 4; flags = 0 } ∷ [];
      requests = record { expression = 0; prime = 0; muladd = muladd } ∷ [];
    }

abbrev p : Pool
p = pool_of (input 0)

read-fused : reading (frames 1) ≡ done (input 1)
unfolding reading frames_in split read_from order.step count_of counts_of place_node place_expression place_request at_fault frame_of node_of node_from node_ok literal_ok head_ok node_size magnitude_of sign_of child_of u64_at expression_of expression_from expression_ok request_of request_from request_ok u16_at is_operation is_leaf is_node_kind carries_id carries_next takes_i64 carries_literal within is_minus_zero fits_i64 is_allowed
read-fused = refl

read_plain : reading (frames 0) ≡ done (input 0)
unfolding reading frames_in split read_from order.step count_of counts_of place_node place_expression place_request at_fault frame_of node_of node_from node_ok literal_ok head_ok node_size magnitude_of sign_of child_of u64_at expression_of expression_from expression_ok request_of request_from request_ok u16_at is_operation is_leaf is_node_kind carries_id carries_next takes_i64 carries_literal within is_minus_zero fits_i64 is_allowed
read_plain = refl

-- ── the pool is admitted ─────────────────────────────────────────────────────
abbrev E : Forest
E =
    record {
      tree =
          Expr.bin 4 Op.add (Expr.bin 2 Op.mul (Expr.leaf 0 (Leaf.cell RowKind.cm 0 0)) (Expr.leaf 1 (Leaf.cell RowKind.cm 1 0)))
          (Expr.leaf 3 (Leaf.cell RowKind.const 0 1));
      keep = false;
      keep2ns = false;
      id_q = false;
    }
    ∷ []

forest_is : forest p ≡ E
unfolding forest tree
forest_is = refl

shape-done : shape p ≡ done tt
unfolding shape child_count is_operation is_leaf within
shape-done = refl

shaped : Shaped p
shaped = go (shape p) (shape_is p) shape-done
  where
    go : (a : Answer (Unit {0})) → Shape p a → a ≡ done tt → Shaped p
    go a (Shape.count n w) e = absurd (done-not-refused (sym e))
    go a (Shape.child n w x) e = absurd (done-not-refused (sym e))
    go a (Shape.root w x) e = absurd (done-not-refused (sym e))
    go a (Shape.fine s) e = s

acyclic : Acyclic E
acyclic = record { rank = λ e. 0; below = λ e x h. omega arith; falls = falls }
  where
    falls : (e : ℕ) (x : Expression) → nth E e ≡ some x → Each (Falls E (λ e. 0) 0) (leaves x.tree)
    falls zero x h = subst (λ (y : Expression). Each (Falls E (λ e. 0) 0) (leaves y.tree)) (some-injective _ x h) (tt, (tt, (tt, tt)))
    falls (suc e) x h = absurd (none-ne-some x h)

-- ── the answers ──────────────────────────────────────────────────────────────
module _ (muladd : ℕ) (read : reading (frames muladd) ≡ done (input muladd)) (g : Segment) (made : whole 2 E (requests_of (input muladd)) ≡ done g) (small : g.counter < 2) where
  answers : Answers muladd g.first g.counter
  answers = record { runs = go }
    where
      verdict-done : (v : Answer (Unit {0})) → Verdict p [] v → v ≡ done tt
      verdict-done v w = is v ((exactly_0 p v w).1 (shaped, subst Acyclic (sym forest_is) acyclic))
        where
          is : (v : Answer (Unit {0})) → answer_no v ≡ 0 → v ≡ done tt
          is (done u) e = refl
          is (refused k o) e = absurd (number-not-zero k e)

      go :
          (l l' z z' : List ℕ) (n : ℕ) → step_size * length g.first ≤ length l → RunNumbered (frames muladd) l l' z z' n →
          (n ≡ 0) × (l' ≡ write l 0 (encoded g.first)) × (z' ≡ set (set z 0 (length g.first)) 1 g.counter)
      go l l' z z' n room h =
          let j = h.1.judged (input muladd) read in
          let v = verdict-done j.0 j.1 in
          let a : h.0 ≡ run.served (forest p) (requests_of (input muladd)) (length l) = j.2 ∙ ap (λ (v : Answer (Unit {0})). v then λ _. run.served (forest p) (requests_of (input muladd)) (length l)) v in
          let b : h.0 ≡ run.fitting (length l) g = a ∙ ap (λ (F : Forest). run.served F (requests_of (input muladd)) (length l)) forest_is ∙ ap (λ (y : Answer Segment). y then run.fitting (length l)) made in
          let d : h.0 ≡ done g = b ∙ rw (le-leb (step_size * length g.first) (length l) room, lt-ltb g.counter number_limit (omega (arith, small))) in
          (h.2 ∙ ap answer_no d, h.3 ∙ ap (list_after l) d, h.4 ∙ ap (λ (y : Answer Segment). totals_told (y then λ u. done (totals u)) z) d)

-- THE FIRST RUN: one fused step, and the counter 0
pub first_run : Answers 1 fused_steps 0
first_run = answers 1 read-fused _ refl (omega arith)

-- THE SECOND RUN: two steps, and the counter 1
pub second_run : Answers 0 plain_steps 1
second_run = answers 0 read_plain _ refl (omega arith)
