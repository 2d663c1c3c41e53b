-- What is read is in range: a node's next, an expression's flags, a request's prime and muladd.
-- Assumes nothing.
use Rattle.std.specs.Prelude.{Ok, ◌≡◌, refl, true, List, [], ◌∷◌, ℕ, ◌≤◌, ◌<◌, length, eqb, leb}
use Rattle.std.proofs.Common.{sym, arith}
use Rattle.std.proofs.Math.Decide.{le_ind}
use borrow.Author.Tests.{leb-true}
use Rattle.kinds.specs.Kinds.{is_node_kind}
use Rattle.meaning.specs.Refusals.{Answer, done, refused, ◌then◌}
use Rattle.meaning.specs.Trees.{Each}
use Rattle.meaning.proofs.Laws.Tests.{and_left, and_right, each_left, each_right, each-join}
use Rattle.frames.specs.Nodes.{kind_byte, next_byte, id_field, head_ok, node_ok, node_from}
use Rattle.frames.specs.Rest.{prime_byte, expression_ok, expression_from, request_ok, request_from}
use Rattle.frames.specs.Frames.{Item, node, expression, request, frame_of}
use Rattle.frames.specs.Order.{place, Input, nothing, counts_of, add, step}
use Rattle.frames.specs.Tables.{Tables, next_in, node_in, expression_in, request_in, first, input_in}
use Rattle.frames.specs.Views.{View, bad, is_node, is_expression, is_request, view}
use Rattle.frames.specs.Taking.{then-done}
use Rattle.frames.specs.Reading.{read_from, frames_in, reading, held}
use Rattle.frames.specs.declared.node.Node.{Node}
use Rattle.frames.specs.declared.rest.Expression.{Expression}
use Rattle.frames.specs.declared.rest.Request.{Request}
use Rattle.frames.specs.declared.count.Counts.{Counts}

-- ---- one item

abbrev pub NodeRange : Node → Type 0
NodeRange x = x.next ≤ 1

abbrev pub ExpressionRange : Expression → Type 0
ExpressionRange x = x.flags ≤ 7

abbrev pub RequestRange : Request → Type 0
RequestRange x = (x.prime ≤ 1) × (x.muladd ≤ 1)

abbrev ItemRange : Item → Type 0
ItemRange (node x) = NodeRange x
ItemRange (expression x) = ExpressionRange x
ItemRange (request x) = RequestRange x

module _ (f : List ℕ) where
  node-range : node_ok f ≡ true → NodeRange (node_from f)
  unfolding node_ok head_ok node_from
  node-range e =
      let h = and_left (head_ok (kind_byte f) (next_byte f) (id_field f)) _ (and_right (leb 6 (length f)) _ e) in
      leb-true _ _ (and_left (leb (next_byte f) 1) _ (and_right (is_node_kind (kind_byte f)) _ h))

  expression-range : expression_ok f ≡ true → ExpressionRange (expression_from f)
  unfolding expression_ok expression_from
  expression-range e = leb-true _ _ (and_right (eqb (length f) 4) _ e)

  request-range : request_ok f ≡ true → RequestRange (request_from f)
  unfolding request_ok request_from
  request-range e =
      let h = and_right (eqb (length f) 5) _ e in
      (leb-true _ _ (and_left (leb (prime_byte f) 1) _ h), leb-true _ _ (and_right (leb (prime_byte f) 1) _ h))

  item_range : (x : Item) → frame_of f ≡ done x → ItemRange x
  item_range x e = by (view f)
    where
      by : View f (frame_of f) → ItemRange x
      by (bad m g) = let z : ◌≡◌ {A = ℕ} 0 1 = cc in absurd (omega arith)
      by (is_node t k g) = let q : x ≡ node (node_from f) = cc in rw q (node-range k)
      by (is_expression t k g) = let q : x ≡ expression (expression_from f) = cc in rw q (expression-range k)
      by (is_request t k g) = let q : x ≡ request (request_from f) = cc in rw q (request-range k)

-- ---- all that is read

pub record Ranged (i : Input) : Type 0 where
  pub nodes : Each (λ x. x.next ≤ 1) i.nodes
  pub expressions : Each (λ x. x.flags ≤ 7) i.expressions
  pub requests : Each (λ q. (q.prime ≤ 1) × (q.muladd ≤ 1)) i.requests

ranged-add : (i : Input) (x : Item) → Ranged i → ItemRange x → Ranged (add i x)
ranged-add i (node x) r h = record { nodes = each-join NodeRange i.nodes (x ∷ []) r.nodes (h, tt); expressions = r.expressions; requests = r.requests }
ranged-add i (expression x) r h = record { nodes = r.nodes; expressions = each-join ExpressionRange i.expressions (x ∷ []) r.expressions (h, tt); requests = r.requests }
ranged-add i (request x) r h = record { nodes = r.nodes; expressions = r.expressions; requests = each-join RequestRange i.requests (x ∷ []) r.requests (h, tt) }

ranged-step : (i j : Input) (f : List ℕ) → Ranged i → step i f ≡ done j → Ranged j
unfolding step
ranged-step i j f r e = then-done (frame_of f) _ j _ e (Ranged j) (λ x p q. by x (item_range f x p) (place (counts_of i) x) q)
  where
    by : (x : Item) → ItemRange x → (a : Answer Counts) → (a then λ c. done (add i x)) ≡ done j → Ranged j
    by x h (done c) e =
        let p : add i x ≡ j = cc in
        rw (← p) (ranged-add i x r h)
    by x h (refused k n) e = let z : ◌≡◌ {A = ℕ} 0 1 = cc in absurd (omega arith)

ranged-from : (i j : Input) (fs : List (List ℕ)) → Ranged i → read_from i fs ≡ done j → Ranged j
unfolding read_from
ranged-from i j [] r e =
    let p : i ≡ j = cc in
    rw (← p) r
ranged-from i j (f ∷ fs) r e = by (step i f) refl e (λ k. ranged-from k j fs)
  where
    by :
        (a : Answer Input) → step i f ≡ a → (a then λ k. read_from k fs) ≡ done j
        → ((k : Input) → Ranged k → read_from k fs ≡ done j → Ranged j) → Ranged j
    by (done k) q e h = h k (ranged-step i k f r q) e
    by (refused k n) q e h = let z : ◌≡◌ {A = ℕ} 0 1 = cc in absurd (omega arith)

-- WHAT IS READ IS IN RANGE: of any frames
pub ranged-all : (fs : List (List ℕ)) (i : Input) → read_from nothing fs ≡ done i → Ranged i
ranged-all fs i e = ranged-from nothing i fs (record { nodes = tt; expressions = tt; requests = tt }) e

-- of a whole slice
pub ranged : (s : List ℕ) (i : Input) → reading s ≡ done i → Ranged i
unfolding reading
ranged s i e = ranged-all (frames_in s) i e

-- ---- what stands in the tables, by index

each_first : {A : Type 0} (P : A → Type 0) (g : ℕ → A) (n k : ℕ) → Each P (first g n) → k < n → P (g k)
unfolding first
each_first P g n k h l =
    le_ind (λ n. Each P (first g n) → P (g k)) (λ h. (each_right P (first g k) (g k ∷ []) h).0) (λ n q e h. e (each_left P (first g n) (g n ∷ []) h)) n l h

pub record RangedIn (t : Tables) (c : Counts) : Type 0 where
  pub next : (n : ℕ) → n < c.nodes → next_in t.nodes n ≤ 1
  pub flags : (k : ℕ) → k < c.expressions → (expression_in t.expressions k).flags ≤ 7
  pub prime : (k : ℕ) → k < c.requests → (request_in t.requests k).prime ≤ 1
  pub muladd : (k : ℕ) → k < c.requests → (request_in t.requests k).muladd ≤ 1

pub held-ranged : (fs : List (List ℕ)) (t : Tables) (c : Counts) → held t (Ok c) ≡ read_from nothing fs → RangedIn t c
unfolding input_in
held-ranged fs t c e =
    let r = ranged-all fs (input_in t c) (sym e) in
    record {
      next = λ n l. each_first NodeRange (node_in t.nodes t.literals) c.nodes n r.nodes l;
      flags = λ k l. each_first ExpressionRange (expression_in t.expressions) c.expressions k r.expressions l;
      prime = λ k l. (each_first RequestRange (request_in t.requests) c.requests k r.requests l).0;
      muladd = λ k l. (each_first RequestRange (request_in t.requests) c.requests k r.requests l).1;
    }

-- of what `fill` and `read` answer
pub read-ranged : (s : List ℕ) (t : Tables) (c : Counts) → held t (Ok c) ≡ reading s → RangedIn t c
unfolding reading
read-ranged s t c e = held-ranged (frames_in s) t c e
