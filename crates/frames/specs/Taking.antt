-- Laws of taking a frame: what the tables and the counts hold after it.
-- Assumes nothing.
use Rattle.std.proofs.Math.Path.{◌≡◌}
use Rattle.std.specs.Prelude.{refl, Bool, ◌&&◌, List, ℕ, ◌+◌, ◌*◌, ◌<◌, length, get_or, eqb, ltb}
use Rattle.std.proofs.Common.{ap, sym, ◌∙◌, length-set, length-append, ltb-true}
use Rattle.std.proofs.Math.Bool.{true, false, cond}
use Rattle.std.proofs.Math.Option.{Option, none}
use native.Mathlib.Omega.{arith}
use Rattle.kinds.specs.BigEndian.{u16_at}
use Rattle.kinds.specs.Kinds.{carries_literal}
use Rattle.meaning.specs.Refusals.{Answer, done, refused, malformed, full, ◌then◌}
use Rattle.frames.specs.Nodes.{node_from, child_of, sign_of}
use Rattle.frames.specs.Rest.{expression_from, request_from}
use Rattle.frames.specs.Frames.{Item, node, expression, request, frame_of}
use Rattle.frames.specs.Order.{node_limit, expression_limit, request_limit, place_node, place_expression, place_request, place, at_fault, blaming, count_of, Input, counts_of, add, step}
use Rattle.frames.specs.Tables.{Tables, Sized, node_in, expression_in, request_in, put, Room, or_else, take_into, input_in}
use Rattle.frames.specs.Views.{View, bad, is_node, is_expression, is_request, view}
use Rattle.frames.specs.Packing.{FitsNode, FitsExpression, FitsRequest, node_read, node_kept, put_node_length, expression_read, expression_kept, request_read, request_kept, first-length, first-snoc}
use Rattle.frames.specs.declared.count.Counts.{Counts}

-- ---- what a frame of bytes brings fits the tables

unfoldable pub Bytes : List ℕ → Type 0
Bytes f = (i : ℕ) → get_or f i 0 < 256

unfoldable pub Fits : Item → Type 0
Fits (node x) = FitsNode x
Fits (expression x) = FitsExpression x
Fits (request x) = FitsRequest x

module _ (f : List ℕ) (h : Bytes f) where
  u16-fits : (i : ℕ) → u16_at f i < 65536
  unfolding u16_at Bytes
  u16-fits i = omega (arith, h i, h (i + 1))

  child_fits : (count k : ℕ) → child_of f count k < 65536
  unfolding child_of
  child_fits count k = by (ltb k count)
    where
      by : (b : Bool) → cond b (u16_at f (6 + 2 * k)) 0 < 65536
      by true = u16-fits (6 + 2 * k)
      by false = omega arith

  sign_fits : (kind count : ℕ) → sign_of f kind count < 256
  unfolding sign_of Bytes
  sign_fits kind count = by (carries_literal kind)
    where
      by : (b : Bool) → cond b (get_or f (6 + 2 * count) 0) 0 < 256
      by true = h (6 + 2 * count)
      by false = omega arith

  node-fits : FitsNode (node_from f)
  unfolding node_from Bytes
  node-fits =
      record {
        kind = h 1;
        next = h 2;
        id = u16-fits 3;
        count = h 5;
        c0 = child_fits (get_or f 5 0) 0;
        c1 = child_fits (get_or f 5 0) 1;
        c2 = child_fits (get_or f 5 0) 2;
        sign = sign_fits (get_or f 1 0) (get_or f 5 0);
      }

  pub item_fits : (x : Item) → frame_of f ≡ done x → Fits x
  unfolding Fits expression_from request_from Bytes
  item_fits x e = by (view f)
    where
      by : View f (frame_of f) → Fits x
      by (bad m g) = let z : ◌≡◌ {A = ℕ} 0 1 = cc in absurd (omega arith)
      by (is_node t k g) = let q : x ≡ node (node_from f) = cc in rw q node-fits
      by (is_expression t k g) = let q : x ≡ expression (expression_from f) = cc in rw q (record { root = u16-fits 1; flags = h 3 })
      by (is_request t k g) = let q : x ≡ request (request_from f) = cc in rw q (record { expression = u16-fits 1; prime = h 3; muladd = h 4 })

-- ---- where an item finds its place

abbrev pub more : Counts → Item → Counts
more c (node x) = record { nodes = c.nodes + 1; expressions = c.expressions; requests = c.requests }
more c (expression x) = record { nodes = c.nodes; expressions = c.expressions + 1; requests = c.requests }
more c (request x) = record { nodes = c.nodes; expressions = c.expressions; requests = c.requests + 1 }

-- what is counted is one more, and there is room
pub record Placed (c : Counts) (x : Item) (d : Counts) : Type 0 where
  pub counts : d ≡ more c x
  pub room : Room c (done x)

pub placed : (c : Counts) (x : Item) (d : Counts) → place c x ≡ done d → Placed c x d
unfolding place_node place_expression place_request Room
placed c (node x) d e = by (eqb c.expressions 0 && eqb c.requests 0) (ltb c.nodes node_limit) (ltb-true _ _) e
  where
    by :
        (a b : Bool) → (b ≡ true → c.nodes < node_limit)
        → cond a (cond b (done (more c (node x))) (refused full none)) (refused malformed none) ≡ done d → Placed c (node x) d
    by true true h e = record { counts = cc; room = h refl }
    by true false h e = let z : ◌≡◌ {A = ℕ} 0 1 = cc in absurd (omega arith)
    by false b h e = let z : ◌≡◌ {A = ℕ} 0 1 = cc in absurd (omega arith)
placed c (expression x) d e = by (eqb c.requests 0) (ltb c.expressions expression_limit) (ltb-true _ _) e
  where
    by :
        (a b : Bool) → (b ≡ true → c.expressions < expression_limit)
        → cond a (cond b (done (more c (expression x))) (refused full none)) (refused malformed none) ≡ done d → Placed c (expression x) d
    by true true h e = record { counts = cc; room = h refl }
    by true false h e = let z : ◌≡◌ {A = ℕ} 0 1 = cc in absurd (omega arith)
    by false b h e = let z : ◌≡◌ {A = ℕ} 0 1 = cc in absurd (omega arith)
placed c (request x) d e = by (ltb c.requests request_limit) (ltb-true _ _) e
  where
    by : (b : Bool) → (b ≡ true → c.requests < request_limit) → cond b (done (more c (request x))) (refused full none) ≡ done d → Placed c (request x) d
    by true h e = record { counts = cc; room = h refl }
    by false h e = let z : ◌≡◌ {A = ℕ} 0 1 = cc in absurd (omega arith)

-- what an answer that is done came from
pub then-done : {A B : Type 0} (a : Answer A) (g : A → Answer B) (y : B) (o : Option ℕ) → blaming o (a then g) ≡ done y → (P : Type 0) → ((x : A) → a ≡ done x → g x ≡ done y → P) → P
then-done (done x) g y o e P k = by (g x) refl e
  where
    by : (w : Answer _) → g x ≡ w → blaming o w ≡ done y → P
    by (done z) q e = k x refl (q ∙ e)
    by (refused r n) q e = let z : ◌≡◌ {A = ℕ} 0 1 = cc in absurd (omega arith)
then-done (refused r n) g y o e P k = let z : ◌≡◌ {A = ℕ} 0 1 = cc in absurd (omega arith)

pub has_room : (c : Counts) (a : Answer Item) (o : Option ℕ) (d : Counts) → blaming o (a then place c) ≡ done d → Room c a
has_room c a o d e = then-done a (place c) d o e (Room c a) (λ x p q. rw p (placed c x d q).room)

-- ---- what the tables hold after it

module _ (t : Tables) (s : Sized t) (c : Counts) where
  pub stored : (x : Item) → Fits x → Room c (done x) → input_in (put t c x) (more c x) ≡ add (input_in t c) x
  unfolding Fits Room input_in
  stored (node x) f r =
      rw (first-snoc (node_in t.nodes t.literals) _ c.nodes x
      (λ k q. node_kept t.nodes t.literals c.nodes x k (λ e. omega arith))
      (node_read t.nodes t.literals c.nodes x f (omega arith) (omega arith)))
  stored (expression x) f r =
      rw (first-snoc (expression_in t.expressions) _ c.expressions x
      (λ k q. expression_kept t.expressions c.expressions x k (λ e. omega arith))
      (expression_read t.expressions c.expressions x f (omega arith)))
  stored (request x) f r =
      rw (first-snoc (request_in t.requests) _ c.requests x
      (λ k q. request_kept t.requests c.requests x k (λ e. omega arith))
      (request_read t.requests c.requests x f (omega arith)))

  pub sized-put : (x : Item) → Sized (put t c x)
  sized-put (node x) = record { nodes = put_node_length t.nodes t.literals c.nodes x ∙ s.nodes; literals = simp length-set s.literals; expressions = s.expressions; requests = s.requests }
  sized-put (expression x) = record { nodes = s.nodes; literals = s.literals; expressions = simp length-set s.expressions; requests = s.requests }
  sized-put (request x) = record { nodes = s.nodes; literals = s.literals; expressions = s.expressions; requests = simp length-set s.requests }

  pub sized-take : (f : List ℕ) → Sized (take_into t c f)
  unfolding take_into
  sized-take f = by (frame_of f)
    where
      placing : (x : Item) (w : Answer Counts) → Sized (or_else (w then λ d. done (put t c x)) t)
      placing x (done d) = sized-put x
      placing x (refused r n) = s

      by : (a : Answer Item) → Sized (or_else (a then λ x. place c x then λ d. done (put t c x)) t)
      by (done x) = placing x (place c x)
      by (refused r n) = s

pub counts_in : (t : Tables) (c : Counts) → counts_of (input_in t c) ≡ c
unfolding counts_of input_in
counts_in t c = simp first-length

nodes_in : (t : Tables) (c : Counts) → length (input_in t c).nodes ≡ c.nodes
unfolding input_in
nodes_in t c = simp first-length

-- one frame more: the tables hold what the definition says
pub take_step : (t : Tables) → Sized t → (c : Counts) (f : List ℕ) → Bytes f → (count_of c f then λ d. done (input_in (take_into t c f) d)) ≡ step (input_in t c) f
unfolding count_of step take_into
take_step t s c f h = rw (counts_in t c, nodes_in t c) (by (frame_of f) refl)
  where
    placing :
        (x : Item) → Fits x → (w : Answer Counts) → place c x ≡ w
        → (blaming (at_fault c.nodes f) w then λ d. done (input_in (or_else (w then λ e. done (put t c x)) t) d))
        ≡ blaming (at_fault c.nodes f) (w then λ d. done (add (input_in t c) x))
    placing x g (done d) q = ap done (rw (placed c x d q).counts (stored t s c x g (placed c x d q).room))
    placing x g (refused r n) q = refl

    by :
        (a : Answer Item) → frame_of f ≡ a
        → (blaming (at_fault c.nodes f) (a then place c) then λ d. done (input_in (or_else (a then λ x. place c x then λ e. done (put t c x)) t) d))
        ≡ blaming (at_fault c.nodes f) (a then λ x. place c x then λ d. done (add (input_in t c) x))
    by (done x) q = placing x (item_fits f h x q) (place c x) refl
    by (refused r n) q = refl

pub counts-add : (i : Input) (x : Item) → counts_of (add i x) ≡ more (counts_of i) x
unfolding counts_of
counts-add i (node x) = simp length-append
counts-add i (expression x) = simp length-append
counts-add i (request x) = simp length-append

-- what is counted of it
pub count-step : (i : Input) (f : List ℕ) → count_of (counts_of i) f ≡ (step i f then λ j. done (counts_of j))
unfolding count_of step counts_of
count-step i f = by (frame_of f)
  where
    placing : (x : Item) (w : Answer Counts) (b : Option ℕ) → place (counts_of i) x ≡ w → blaming b w ≡ (blaming b (w then λ d. done (add i x)) then λ j. done (counts_of j))
    placing x (done d) b q = ap done ((placed (counts_of i) x d q).counts ∙ sym (counts-add i x))
    placing x (refused r n) b q = refl

    by :
        (a : Answer Item)
        → blaming (at_fault (length i.nodes) f) (a then place (counts_of i))
        ≡ (blaming (at_fault (length i.nodes) f) (a then λ x. place (counts_of i) x then λ c. done (add i x)) then λ j. done (counts_of j))
    by (done x) = placing x (place (counts_of i) x) (at_fault (length i.nodes) f) refl
    by (refused r n) = refl
