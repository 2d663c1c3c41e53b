-- A pool written back as frames, each behind its length, and that reading them gives the pool.
-- Assumes nothing.
use Rattle.std.specs.Prelude.{◌≡◌, refl, Bool, true, false, cond, List, [], ◌∷◌, ◌++◌, map, length, ltb}
use Rattle.std.proofs.Common.{◌∙◌, append_assoc, append-nil, arith, length-append, ne_eqb, le-leb, lt-ltb}
use Prim.Native.Nat.{ℕ, zero, suc, ◌+◌, ◌*◌, ◌/◌, ◌%◌, ◌≤◌, ◌<◌}
use Rattle.std.proofs.Math.Nat.{div-add-mod'}
use Rattle.std.proofs.Math.Seq.{take-append_seam, drop-append_seam}
use Rattle.kinds.specs.Kinds.{carries_literal}
use Rattle.kinds.specs.BigEndian.{u16_at, u16_bytes}
use Rattle.meaning.specs.Refusals.{done}
use Rattle.frames.specs.Nodes.{type_byte, u64_at, child_of, sign_of, magnitude_of, node_size, head_ok, literal_ok, node_ok, node_from, node_of}
use Rattle.frames.specs.Rest.{expression_ok, expression_from, expression_of, request_ok, request_from, request_of}
use Rattle.frames.specs.Frames.{node, expression, request, frame_of, from_node}
use Rattle.frames.specs.Order.{node_limit, expression_limit, request_limit, place_node, place_expression, place_request, Input, counts_of, step}
use Rattle.frames.specs.Reading.{frames_in, read_from, reading}
use Rattle.frames.specs.Splitting.{frames-none, frames-more}
use Rattle.frames.specs.declared.node.Node.{Node}
use Rattle.frames.specs.declared.rest.Expression.{Expression}
use Rattle.frames.specs.declared.rest.Request.{Request}

-- ---- one frame

unfoldable pub child_bytes : ℕ → ℕ → ℕ → ℕ → List ℕ
child_bytes count c0 c1 c2 = cond (ltb 0 count) (u16_bytes c0) [] ++ (cond (ltb 1 count) (u16_bytes c1) [] ++ cond (ltb 2 count) (u16_bytes c2) [])

-- eight bytes, the high one first
unfoldable pub u64_bytes : ℕ → List ℕ
u64_bytes m = u16_bytes (m / 0x1000000000000) ++ (u16_bytes (m / 0x100000000 % 65536) ++ (u16_bytes (m / 0x10000 % 65536) ++ u16_bytes (m % 65536)))

unfoldable pub literal_bytes : Bool → ℕ → ℕ → List ℕ
literal_bytes b sign magnitude = cond b (sign ∷ u64_bytes magnitude) []

unfoldable pub node_bytes : Node → List ℕ
node_bytes x =
    1 ∷ x.kind ∷ x.next ∷ x.id / 256 ∷ x.id % 256 ∷ x.count
    ∷ (child_bytes x.count x.c0 x.c1 x.c2 ++ literal_bytes (carries_literal x.kind) x.sign x.magnitude)

unfoldable pub expression_bytes : Expression → List ℕ
expression_bytes x = 2 ∷ x.root / 256 ∷ x.root % 256 ∷ x.flags ∷ []

unfoldable pub request_bytes : Request → List ℕ
request_bytes x = 3 ∷ x.expression / 256 ∷ x.expression % 256 ∷ x.prime ∷ x.muladd ∷ []

-- a node as reading gives one, with no more children than it has room for
pub record WellNode (x : Node) : Type 0 where
  pub head : head_ok x.kind x.next x.id ≡ true
  pub few : x.count ≤ 3
  pub no_first : x.count ≤ 0 → x.c0 ≡ 0
  pub no_second : x.count ≤ 1 → x.c1 ≡ 0
  pub no_third : x.count ≤ 2 → x.c2 ≡ 0
  pub literal : literal_ok x.kind x.sign x.magnitude ≡ true
  pub bare : carries_literal x.kind ≡ false → (x.sign ≡ 0) × (x.magnitude ≡ 0)

pub record WellExpression (x : Expression) : Type 0 where
  pub flags : x.flags ≤ 7

pub record WellRequest (x : Request) : Type 0 where
  pub prime : x.prime ≤ 1
  pub muladd : x.muladd ≤ 1

parts : (m : ℕ) → ((m / 0x1000000000000 * 65536 + m / 0x100000000 % 65536) * 65536 + m / 0x10000 % 65536) * 65536 + m % 65536 ≡ m
parts m = omega arith

module _ (kind next id c0 c1 c2 sign magnitude : ℕ) (h : head_ok kind next id ≡ true) (l : literal_ok kind sign magnitude ≡ true) where
  abbrev node_with : ℕ → Node
  node_with count = record { kind = kind; next = next; id = id; count = count; c0 = c0; c1 = c1; c2 = c2; sign = sign; magnitude = magnitude }

  with-literal :
      carries_literal kind ≡ true → (count : ℕ) → count ≤ 3 → (count ≤ 0 → c0 ≡ 0) → (count ≤ 1 → c1 ≡ 0) → (count ≤ 2 → c2 ≡ 0)
      → node_of (node_bytes (node_with count)) ≡ done (node_with count)
  unfolding node_bytes child_bytes literal_bytes u64_bytes u16_bytes node_of node_ok node_from child_of sign_of magnitude_of node_size u64_at u16_at
  with-literal q zero g p₀ p₁ p₂ = simp (q, div-add-mod', parts magnitude, h, l, p₀ (omega arith), p₁ (omega arith), p₂ (omega arith))
  with-literal q (suc zero) g p₀ p₁ p₂ = simp (q, div-add-mod', parts magnitude, h, l, p₁ (omega arith), p₂ (omega arith))
  with-literal q (suc (suc zero)) g p₀ p₁ p₂ = simp (q, div-add-mod', parts magnitude, h, l, p₂ (omega arith))
  with-literal q (suc (suc (suc zero))) g p₀ p₁ p₂ = simp (q, div-add-mod', parts magnitude, h, l)
  with-literal q (suc (suc (suc (suc n)))) g p₀ p₁ p₂ = absurd (omega arith)

  without :
      carries_literal kind ≡ false → sign ≡ 0 → magnitude ≡ 0 → (count : ℕ) → count ≤ 3 → (count ≤ 0 → c0 ≡ 0) → (count ≤ 1 → c1 ≡ 0) → (count ≤ 2 → c2 ≡ 0)
      → node_of (node_bytes (node_with count)) ≡ done (node_with count)
  unfolding node_bytes child_bytes literal_bytes u64_bytes u16_bytes node_of node_ok node_from child_of sign_of magnitude_of node_size u64_at u16_at
  without q s m zero g p₀ p₁ p₂ = simp (q, div-add-mod', h, rw (s, m) at l, s, m, p₀ (omega arith), p₁ (omega arith), p₂ (omega arith))
  without q s m (suc zero) g p₀ p₁ p₂ = simp (q, div-add-mod', h, rw (s, m) at l, s, m, p₁ (omega arith), p₂ (omega arith))
  without q s m (suc (suc zero)) g p₀ p₁ p₂ = simp (q, div-add-mod', h, rw (s, m) at l, s, m, p₂ (omega arith))
  without q s m (suc (suc (suc zero))) g p₀ p₁ p₂ = simp (q, div-add-mod', h, rw (s, m) at l, s, m)
  without q s m (suc (suc (suc (suc n)))) g p₀ p₁ p₂ = absurd (omega arith)

node-back : (x : Node) → WellNode x → node_of (node_bytes x) ≡ done x
node-back x w = by (carries_literal x.kind) refl
  where
    by : (b : Bool) → carries_literal x.kind ≡ b → node_of (node_bytes x) ≡ done x
    by true q = with-literal x.kind x.next x.id x.c0 x.c1 x.c2 x.sign x.magnitude w.head w.literal q x.count w.few w.no_first w.no_second w.no_third
    by false q = without x.kind x.next x.id x.c0 x.c1 x.c2 x.sign x.magnitude w.head w.literal q (w.bare q).0 (w.bare q).1 x.count w.few w.no_first w.no_second w.no_third

of_node : (f : List ℕ) → (length f ≡ 0 → ⊥) → type_byte f ≡ 1 → frame_of f ≡ from_node (node_of f)
unfolding frame_of
of_node f h t = simp (ne_eqb _ _ h, t)

node_typed : (x : Node) → (length (node_bytes x) ≡ 0 → ⊥) × (type_byte (node_bytes x) ≡ 1)
unfolding node_bytes
node_typed x = (λ e. omega arith, refl)

pub node-frame-back : (x : Node) → WellNode x → frame_of (node_bytes x) ≡ done (node x)
node-frame-back x w = of_node (node_bytes x) (node_typed x).0 (node_typed x).1 ∙ rw (node-back x w)

pub expression-frame-back : (x : Expression) → WellExpression x → frame_of (expression_bytes x) ≡ done (expression x)
unfolding frame_of expression_bytes expression_of expression_ok expression_from u16_at
expression-frame-back x w = simp (le-leb _ _ w.flags, div-add-mod')

pub request-frame-back : (x : Request) → WellRequest x → frame_of (request_bytes x) ≡ done (request x)
unfolding frame_of request_bytes request_of request_ok request_from u16_at
request-frame-back x w = simp (le-leb _ _ w.prime, le-leb _ _ w.muladd, div-add-mod')

-- ---- frames, each behind its length

unfoldable pub behind_lengths : List (List ℕ) → List ℕ
behind_lengths [] = []
behind_lengths (f ∷ fs) = length f / 256 ∷ length f % 256 ∷ (f ++ behind_lengths fs)

pub frames-back : (fs : List (List ℕ)) → frames_in (behind_lengths fs) ≡ fs
unfolding behind_lengths
frames-back [] = frames-none
frames-back (f ∷ fs) =
    let n : length f / 256 * 256 + length f % 256 ≡ length f = div-add-mod' (length f) 256 in
    let z : length f ≤ length (f ++ behind_lengths fs) = simp length-append (omega arith) in
    frames-more (length f / 256) (length f % 256) (f ++ behind_lengths fs)
    ∙ rw n (simp (le-leb _ _ z, take-append_seam, drop-append_seam, frames-back fs))

-- ---- a pool

unfoldable pub pool_frames : Input → List (List ℕ)
pool_frames i = map node_bytes i.nodes ++ (map expression_bytes i.expressions ++ map request_bytes i.requests)

-- THE FRAMES OF A POOL
unfoldable pub frames_of : Input → List ℕ
frames_of i = behind_lengths (pool_frames i)

-- P of each
pub data All {A : Type 0} (P : A → Type 0) : List A → Type 0 where
  no_more : All P []
  one_more : {a : A} {l : List A} → P a → All P l → All P (a ∷ l)

pub record WellFormed (i : Input) : Type 0 where
  pub nodes : All WellNode i.nodes
  pub expressions : All WellExpression i.expressions
  pub requests : All WellRequest i.requests
  pub nodes_fit : length i.nodes ≤ node_limit
  pub expressions_fit : length i.expressions ≤ expression_limit
  pub requests_fit : length i.requests ≤ request_limit

step-node : (ns : List Node) (x : Node) → WellNode x → length ns < node_limit → step (record { nodes = ns; expressions = []; requests = [] }) (node_bytes x) ≡ done (record { nodes = ns ++ (x ∷ []); expressions = []; requests = [] })
unfolding step counts_of place_node
step-node ns x w h = rw (node-frame-back x w) (simp (lt-ltb _ _ h))

step-expression : (ns : List Node) (es : List Expression) (x : Expression) → WellExpression x → length es < expression_limit → step (record { nodes = ns; expressions = es; requests = [] }) (expression_bytes x) ≡ done (record { nodes = ns; expressions = es ++ (x ∷ []); requests = [] })
unfolding step counts_of place_expression
step-expression ns es x w h = rw (expression-frame-back x w) (simp (lt-ltb _ _ h))

step-request : (ns : List Node) (es : List Expression) (rs : List Request) (x : Request) → WellRequest x → length rs < request_limit → step (record { nodes = ns; expressions = es; requests = rs }) (request_bytes x) ≡ done (record { nodes = ns; expressions = es; requests = rs ++ (x ∷ []) })
unfolding step counts_of place_request
step-request ns es rs x w h = rw (request-frame-back x w) (simp (lt-ltb _ _ h))

read-nodes :
    (ns xs : List Node) → All WellNode xs → length ns + length xs ≤ node_limit → (fs : List (List ℕ))
    → read_from (record { nodes = ns; expressions = []; requests = [] }) (map node_bytes xs ++ fs) ≡ read_from (record { nodes = ns ++ xs; expressions = []; requests = [] }) fs
unfolding read_from
read-nodes ns [] w h fs = rw (append-nil ns)
read-nodes ns (x ∷ xs) (one_more p w) h fs =
    rw (step-node ns x p (omega arith))
    (read-nodes (ns ++ (x ∷ [])) xs w (simp length-append (omega arith)) fs ∙ rw (append_assoc ns (x ∷ []) xs))

read-expressions :
    (ns : List Node) (es xs : List Expression) → All WellExpression xs → length es + length xs ≤ expression_limit → (fs : List (List ℕ))
    → read_from (record { nodes = ns; expressions = es; requests = [] }) (map expression_bytes xs ++ fs) ≡ read_from (record { nodes = ns; expressions = es ++ xs; requests = [] }) fs
unfolding read_from
read-expressions ns es [] w h fs = rw (append-nil es)
read-expressions ns es (x ∷ xs) (one_more p w) h fs =
    rw (step-expression ns es x p (omega arith))
    (read-expressions ns (es ++ (x ∷ [])) xs w (simp length-append (omega arith)) fs ∙ rw (append_assoc es (x ∷ []) xs))

read-requests :
    (ns : List Node) (es : List Expression) (rs xs : List Request) → All WellRequest xs → length rs + length xs ≤ request_limit
    → read_from (record { nodes = ns; expressions = es; requests = rs }) (map request_bytes xs) ≡ done (record { nodes = ns; expressions = es; requests = rs ++ xs })
unfolding read_from
read-requests ns es rs [] w h = rw (append-nil rs)
read-requests ns es rs (x ∷ xs) (one_more p w) h =
    rw (step-request ns es rs x p (omega arith))
    (read-requests ns es (rs ++ (x ∷ [])) xs w (simp length-append (omega arith)) ∙ rw (append_assoc rs (x ∷ []) xs))

-- THERE AND BACK: the frames of a well_formed_lem pool are read as that pool
pub read_back : (i : Input) → WellFormed i → reading (frames_of i) ≡ done i
unfolding reading frames_of pool_frames
read_back i w =
    rw (frames-back (map node_bytes i.nodes ++ (map expression_bytes i.expressions ++ map request_bytes i.requests)))
    (read-nodes [] i.nodes w.nodes (omega (arith, w.nodes_fit)) (map expression_bytes i.expressions ++ map request_bytes i.requests)
    ∙ read-expressions i.nodes [] i.expressions w.expressions (omega (arith, w.expressions_fit)) (map request_bytes i.requests)
    ∙ read-requests i.nodes i.expressions [] i.requests w.requests (omega (arith, w.requests_fit)))
