-- Laws of the tables: what was put is read back, and what stands at another index is kept.
-- Assumes nothing.
use Rattle.std.specs.Prelude.{◌≡◌, refl, List, [], ◌∷◌, ◌++◌, ℕ, zero, suc, ◌+◌, ◌*◌, ◌/◌, ◌%◌, ◌<◌, length, get_or, set}
use Rattle.std.proofs.Common.{◌∙◌, add-one, length-append}
use Rattle.std.proofs.Math.Decide.{le_ind}
use native.Mathlib.Omega.{arith}
use Rattle.std.proofs.Math.ListN.{length-set, get_or-append}
use Rattle.std.proofs.Math.Seq.{get_or-set_same, get_or-set_other}
use Rattle.std.proofs.lemmas.List.{get_or_at}
use Rattle.frames.specs.Tables.{head_word, child_word, expression_word, request_word, kind_in, next_in, id_in, count_in, sign_in, child_in, node_in, expression_in, request_in, put_node, first}
use Rattle.frames.specs.declared.node.Node.{Node}
use Rattle.frames.specs.declared.rest.Expression.{Expression}
use Rattle.frames.specs.declared.rest.Request.{Request}

-- the fields that a word has room for
pub record FitsNode (x : Node) : Type 0 where
  pub kind : x.kind < 256
  pub next : x.next < 256
  pub id : x.id < 65536
  pub count : x.count < 256
  pub c0 : x.c0 < 65536
  pub c1 : x.c1 < 65536
  pub c2 : x.c2 < 65536
  pub sign : x.sign < 256

pub record FitsExpression (x : Expression) : Type 0 where
  pub root : x.root < 65536
  pub flags : x.flags < 256

pub record FitsRequest (x : Request) : Type 0 where
  pub expression : x.expression < 65536
  pub prime : x.prime < 256
  pub muladd : x.muladd < 256

-- ---- words

module _ (x : Node) (f : FitsNode x) where
  head_kind : head_word x / 0x10000000000 % 256 ≡ x.kind
  unfolding head_word
  head_kind = omega arith

  head_next : head_word x / 0x100000000 % 256 ≡ x.next
  unfolding head_word
  head_next = omega arith

  head_id : head_word x / 0x10000 % 65536 ≡ x.id
  unfolding head_word
  head_id = omega arith

  head_count : head_word x / 256 % 256 ≡ x.count
  unfolding head_word
  head_count = omega arith

  head_sign : head_word x % 256 ≡ x.sign
  unfolding head_word
  head_sign = omega arith

  child_c0 : child_word x / 0x100000000 % 65536 ≡ x.c0
  unfolding child_word
  child_c0 = omega arith

  child_c1 : child_word x / 0x10000 % 65536 ≡ x.c1
  unfolding child_word
  child_c1 = omega arith

  child_c2 : child_word x % 65536 ≡ x.c2
  unfolding child_word
  child_c2 = omega arith

-- ---- a node

module _ (nodes literals : List ℕ) (n : ℕ) (x : Node) where
  put-head : 2 * n < length nodes → get_or (put_node nodes n x) (2 * n) 0 ≡ head_word x
  unfolding put_node
  put-head h =
      get_or-set_other (set nodes (2 * n) (head_word x)) (2 * n + 1) (2 * n) (child_word x) 0 (λ e. omega arith)
      ∙ get_or-set_same nodes (2 * n) (head_word x) 0 h

  put-children : 2 * n + 1 < length nodes → get_or (put_node nodes n x) (2 * n + 1) 0 ≡ child_word x
  unfolding put_node
  put-children h = get_or-set_same (set nodes (2 * n) (head_word x)) (2 * n + 1) (child_word x) 0 (simp length-set h)

  put_other : (j : ℕ) → (j ≡ 2 * n → ⊥) → (j ≡ 2 * n + 1 → ⊥) → get_or (put_node nodes n x) j 0 ≡ get_or nodes j 0
  unfolding put_node
  put_other j g h =
      get_or-set_other (set nodes (2 * n) (head_word x)) (2 * n + 1) j (child_word x) 0 h
      ∙ get_or-set_other nodes (2 * n) j (head_word x) 0 g

  -- what was put is read back
  pub node_read : FitsNode x → 2 * n + 1 < length nodes → n < length literals → node_in (put_node nodes n x) (set literals n x.magnitude) n ≡ x
  unfolding kind_in next_in id_in count_in sign_in child_in
  node_read f h g =
      simp (
        put-head (omega arith),
        put-children h,
        get_or-set_same literals n x.magnitude 0 g,
        head_kind x f,
        head_next x f,
        head_id x f,
        head_count x f,
        head_sign x f,
        child_c0 x f,
        child_c1 x f,
        child_c2 x f,
      )

  -- any other is as it was
  pub node_kept : (j : ℕ) → (j ≡ n → ⊥) → node_in (put_node nodes n x) (set literals n x.magnitude) j ≡ node_in nodes literals j
  unfolding kind_in next_in id_in count_in sign_in child_in
  node_kept j e =
      simp (
        put_other (2 * j) (λ q. e (omega arith)) (λ q. omega arith),
        put_other (2 * j + 1) (λ q. omega arith) (λ q. e (omega arith)),
        get_or-set_other literals n j x.magnitude 0 e,
      )

  pub put_node_length : length (put_node nodes n x) ≡ length nodes
  unfolding put_node
  put_node_length = simp length-set

-- ---- an expression

module _ (expressions : List ℕ) (n : ℕ) (x : Expression) where
  pub expression_read : FitsExpression x → n < length expressions → expression_in (set expressions n (expression_word x)) n ≡ x
  unfolding expression_in expression_word
  expression_read f g =
      let a : (x.root * 256 + x.flags) / 256 % 65536 ≡ x.root = omega arith in
      let b : (x.root * 256 + x.flags) % 256 ≡ x.flags = omega arith in
      simp (get_or-set_same expressions n (x.root * 256 + x.flags) 0 g, a, b)

  pub expression_kept : (j : ℕ) → (j ≡ n → ⊥) → expression_in (set expressions n (expression_word x)) j ≡ expression_in expressions j
  unfolding expression_in
  expression_kept j e = simp (get_or-set_other expressions n j (expression_word x) 0 e)

-- ---- a request

module _ (requests : List ℕ) (n : ℕ) (x : Request) where
  pub request_read : FitsRequest x → n < length requests → request_in (set requests n (request_word x)) n ≡ x
  unfolding request_in request_word
  request_read f g =
      let a : ((x.expression * 256 + x.prime) * 256 + x.muladd) / 0x10000 % 65536 ≡ x.expression = omega arith in
      let b : ((x.expression * 256 + x.prime) * 256 + x.muladd) / 256 % 256 ≡ x.prime = omega arith in
      let d : ((x.expression * 256 + x.prime) * 256 + x.muladd) % 256 ≡ x.muladd = omega arith in
      simp (get_or-set_same requests n ((x.expression * 256 + x.prime) * 256 + x.muladd) 0 g, a, b, d)

  pub request_kept : (j : ℕ) → (j ≡ n → ⊥) → request_in (set requests n (request_word x)) j ≡ request_in requests j
  unfolding request_in
  request_kept j e = simp (get_or-set_other requests n j (request_word x) 0 e)

-- ---- the first n

pub first-length : {A : Type 0} (g : ℕ → A) (n : ℕ) → length (first g n) ≡ n
unfolding first
first-length g zero = refl
first-length g (suc n) = length-append (first g n) (g n ∷ []) ∙ rw (first-length g n) (add-one n)

pub first-same : {A : Type 0} (g h : ℕ → A) (n : ℕ) → ((k : ℕ) → k < n → h k ≡ g k) → first h n ≡ first g n
unfolding first
first-same g h zero e = refl
first-same g h (suc n) e = rw (first-same g h n (λ k q. e k (omega arith)), e n (omega arith))

-- n that agree, and one more
pub first-snoc : {A : Type 0} (g h : ℕ → A) (n : ℕ) (x : A) → ((k : ℕ) → k < n → h k ≡ g k) → h n ≡ x → first h (n + 1) ≡ first g n ++ (x ∷ [])
unfolding first
first-snoc g h n x e f = rw (add-one n) (rw (first-same g h n e, f))

pub first-at : {A : Type 0} (g : ℕ → A) (k n : ℕ) (d : A) → k < n → get_or (first g n) k d ≡ g k
unfolding first
first-at g k n d h =
    le_ind (λ n. get_or (first g n) k d ≡ g k)
    (get_or_at (first g k) (g k) [] d k (first-length g k))
    (λ n q e. get_or-append (first g n) _ d k (rw first-length q) ∙ e)
    n h
