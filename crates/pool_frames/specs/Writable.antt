-- READING WHAT WAS WRITTEN GIVES THE POOL: for a pool that is well formed, and whatever was read is, but for child counts that admission refuses.
-- Assumes nothing.
use Rattle.std.specs.Prelude.{Option, Some, None, ℕ, ◌≤◌, ◌≡◌, refl, Bool, true, false, List, [], ◌∷◌, ◌++◌, length, take, drop, leb, eqb}
use Rattle.std.proofs.Common.{arith, zero-add, le-ltb, leb-true}
use Rattle.std.proofs.Math.Seq.{take-append_seam}
use Rattle.kinds.specs.Kinds.{carries_literal}
use Rattle.kinds.specs.Write.{write, write-is}
use Rattle.meaning.specs.Refusals.{Answer, done, refused, ◌then◌}
use Rattle.meaning.specs.Trees.{Each}
use Rattle.meaning.proofs.Laws.Tests.{and_left, and_right, each-join}
use Rattle.frames.specs.Nodes.{kind_byte, next_byte, id_field, count_byte, head_ok, literal_ok, child_of, sign_of, magnitude_of, node_size, node_ok, node_from}
use Rattle.frames.specs.Rest.{expression_from, request_from}
use Rattle.frames.specs.Frames.{Item, node, expression, request, frame_of}
use Rattle.frames.specs.Order.{place, Input, nothing, counts_of, add, step}
use Rattle.frames.specs.Views.{View, bad, is_node, is_expression, is_request, view}
use Rattle.frames.specs.Taking.{then-done}
use Rattle.frames.specs.Reading.{read_from, frames_in, reading}
use Rattle.frames.specs.Limits.{within}
use Rattle.frames.specs.Ranges.{ranged}
use Rattle.frames.specs.Written.{WellNode, WellExpression, All, no_more, one_more, WellFormed, frames_of, read_back}
use Rattle.frames.specs.declared.node.Node.{Node}
use Rattle.frames.specs.declared.rest.Expression.{Expression}
use Rattle.frames.specs.declared.count.Counts.{Counts}
use Rattle.pool_frames.specs.Pools.{Writes}

-- ---- what is written

front : (out bytes : List ℕ) → length bytes ≤ length out → write out 0 bytes ≡ bytes ++ drop (length bytes) out
front out bytes h = simp zero-add at (write-is out 0 bytes (simp zero-add h))

module _ (bytes out out' : List ℕ) (w : Option ℕ) (h : Writes bytes out w out') where
  -- where it fits, its bytes stand at the front
  pub written-front : (k : ℕ) → w ≡ Some k → take k out' ≡ bytes
  written-front k e = by (leb (length bytes) (length out)) refl
    where
      by : (b : Bool) → leb (length bytes) (length out) ≡ b → take k out' ≡ bytes
      by true q =
          let a : w ≡ Some (length bytes) = rw q at h.answer in
          let n : k ≡ length bytes = cc in
          let z : length bytes ≤ length out = leb-true _ _ q in
          let r : out' ≡ write out 0 bytes = rw q at h.after in
          let f : write out 0 bytes ≡ bytes ++ drop (length bytes) out = front out bytes z in
          rw (n, r, f) (take-append_seam bytes (drop (length bytes) out))
      by false q =
          let a : w ≡ None = rw q at h.answer in
          let z : ◌≡◌ {A = ℕ} 0 1 = cc in
          absurd (omega arith)

-- THERE AND BACK
pub written_read :
    (i : Input) → WellFormed i → (out out' : List ℕ) (w : Option ℕ) → Writes (frames_of i) out w out' → (k : ℕ) → w ≡ Some k → reading (take k out') ≡ done i
written_read i f out out' w h k e = rw (written-front (frames_of i) out out' w h k e) (read_back i f)

-- ---- what was read is well formed

-- a node as reading gives one
pub record ReadNode (x : Node) : Type 0 where
  pub head : head_ok x.kind x.next x.id ≡ true
  pub no_first : x.count ≤ 0 → x.c0 ≡ 0
  pub no_second : x.count ≤ 1 → x.c1 ≡ 0
  pub no_third : x.count ≤ 2 → x.c2 ≡ 0
  pub literal : literal_ok x.kind x.sign x.magnitude ≡ true
  pub bare : carries_literal x.kind ≡ false → (x.sign ≡ 0) × (x.magnitude ≡ 0)

pub read-well : (x : Node) → ReadNode x → x.count ≤ 3 → WellNode x
read-well x r h =
    record {
      head = r.head;
      few = h;
      no_first = r.no_first;
      no_second = r.no_second;
      no_third = r.no_third;
      literal = r.literal;
      bare = r.bare;
    }

module _ (f : List ℕ) where
  no-child : (k count : ℕ) → count ≤ k → child_of f count k ≡ 0
  unfolding child_of
  no-child k count h = rw (le-ltb k count h)

  from-read : node_ok f ≡ true → ReadNode (node_from f)
  unfolding node_ok node_from sign_of magnitude_of
  from-read e =
      let h = and_right (leb 6 (length f)) _ e in
      let l = and_right (head_ok (kind_byte f) (next_byte f) (id_field f)) _ h in
      record {
        head = and_left (head_ok (kind_byte f) (next_byte f) (id_field f)) _ h;
        no_first = no-child 0 (count_byte f);
        no_second = no-child 1 (count_byte f);
        no_third = no-child 2 (count_byte f);
        literal = and_right (eqb (length f) (node_size (kind_byte f) (count_byte f))) _ l;
        bare = λ q. (rw q, rw q);
      }

abbrev ItemRead : Item → Type 0
ItemRead (node x) = ReadNode x
ItemRead (expression x) = Unit
ItemRead (request x) = Unit

item_read : (f : List ℕ) (x : Item) → frame_of f ≡ done x → ItemRead x
item_read f x e = by (view f)
  where
    by : View f (frame_of f) → ItemRead x
    by (bad m g) = let z : ◌≡◌ {A = ℕ} 0 1 = cc in absurd (omega arith)
    by (is_node t k g) = let q : x ≡ node (node_from f) = cc in rw q (from-read f k)
    by (is_expression t k g) = let q : x ≡ expression (expression_from f) = cc in rw q tt
    by (is_request t k g) = let q : x ≡ request (request_from f) = cc in rw q tt

abbrev NodesRead : Input → Type 0
NodesRead i = Each ReadNode i.nodes

add_read : (i : Input) (x : Item) → NodesRead i → ItemRead x → NodesRead (add i x)
add_read i (node x) r h = each-join ReadNode i.nodes (x ∷ []) r (h, tt)
add_read i (expression x) r h = r
add_read i (request x) r h = r

step-read : (i j : Input) (f : List ℕ) → NodesRead i → step i f ≡ done j → NodesRead j
unfolding step
step-read i j f r e = then-done (frame_of f) _ j _ e (NodesRead j) (λ x p q. by x (item_read f x p) (place (counts_of i) x) q)
  where
    by : (x : Item) → ItemRead x → (a : Answer Counts) → (a then λ c. done (add i x)) ≡ done j → NodesRead j
    by x h (done c) e =
        let p : add i x ≡ j = cc in
        rw (← p) (add_read i x r h)
    by x h (refused k n) e = let z : ◌≡◌ {A = ℕ} 0 1 = cc in absurd (omega arith)

read-from : (i j : Input) (fs : List (List ℕ)) → NodesRead i → read_from i fs ≡ done j → NodesRead j
unfolding read_from
read-from i j [] r e =
    let p : i ≡ j = cc in
    rw (← p) r
read-from i j (f ∷ fs) r e = by (step i f) refl e (λ k. read-from k j fs)
  where
    by :
        (a : Answer Input) → step i f ≡ a → (a then λ k. read_from k fs) ≡ done j
        → ((k : Input) → NodesRead k → read_from k fs ≡ done j → NodesRead j) → NodesRead j
    by (done k) q e h = h k (step-read i k f r q) e
    by (refused k n) q e h = let z : ◌≡◌ {A = ℕ} 0 1 = cc in absurd (omega arith)

-- WHAT IS READ, node by node
pub nodes-read : (s : List ℕ) (i : Input) → reading s ≡ done i → Each ReadNode i.nodes
unfolding reading
nodes-read s i e = read-from nothing i (frames_in s) tt e

-- each is all
pub all-nodes : (xs : List Node) → Each ReadNode xs → Each (λ x. x.count ≤ 3) xs → All WellNode xs
all-nodes [] r h = no_more
all-nodes (x ∷ xs) r h = one_more (read-well x r.0 h.0) (all-nodes xs r.1 h.1)

all-expressions : (xs : List Expression) → Each (λ x. x.flags ≤ 7) xs → All WellExpression xs
all-expressions [] r = no_more
all-expressions (x ∷ xs) r = one_more (record { flags = r.0 }) (all-expressions xs r.1)

-- THE POOL OF WHAT WAS READ can be written back, where no node has more children than the table of kinds gives any
pub read-formed :
    (s : List ℕ) (i : Input) → reading s ≡ done i → Each (λ x. x.count ≤ 3) i.nodes
    → WellFormed (record { nodes = i.nodes; expressions = i.expressions; requests = [] })
unfolding counts_of
read-formed s i e h =
    let w = within s i e in
    record {
      nodes = all-nodes i.nodes (nodes-read s i e) h;
      expressions = all-expressions i.expressions (ranged s i e).expressions;
      requests = no_more;
      nodes_fit = w.nodes;
      expressions_fit = w.expressions;
      requests_fit = omega arith;
    }
