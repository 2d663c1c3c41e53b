-- WHAT THE CONSTRAINT IS WORTH: from the first identity on, each identity's value and each intermediate's difference from its column is added to vc times what was there.
-- Assumes nothing.
use Rattle.std.specs.Prelude.{ℕ, ◌+◌, ◌≡◌, refl, List, [], ◌∷◌, length}
use Rattle.std.proofs.Common.{subst, arith}
use Rattle.std.proofs.Math.Option.{some}
use Rattle.meaning.specs.Trees.{RowKind, FlatKind, Leaf, Expr, Forest, nth}
use Rattle.meaning.specs.Values.{Algebra, Given, Has, Value}
use Rattle.search_meaning.specs.Search.{identity_leaf}
use Rattle.constraint_meaning.specs.Tree.{Numbered, number_from, plus, Intermediate, minus_column, plus_member, plus_identities, plus_members, constraint_tree, extended}
use Rattle.constraint_meaning.specs.Ranks.{unflagged, nth-extended, nth-constraint}

module _ (𝓐 : Algebra) (G : Given 𝓐.A) where
  -- ── the numbers of nodes, and expressions that come later, do not count ────
  module _ (E : Forest) where
    number-has : (t : Expr) (n r : ℕ) (v : 𝓐.A) → Has 𝓐 G E t r v → Has 𝓐 G E (number_from n t).tree r v
    number-has (Expr.leaf k (Leaf.cell j i a)) n r v (Has.cell q) = Has.cell q
    number-has (Expr.leaf k (Leaf.exp i a)) n r v (Has.exp e q h) = Has.exp e q h
    number-has (Expr.leaf k (Leaf.number l)) n r v (Has.number q) = Has.number q
    number-has (Expr.leaf k (Leaf.flat j i)) n r v (Has.flat q) = Has.flat q
    number-has (Expr.leaf k (Leaf.x j)) n r v (Has.x q) = Has.x q
    number-has (Expr.bin k o a b) n r v (Has.bin y z h g q) = Has.bin y z (number-has a n r y h) (number-has b (number_from n a).free r z g) q
    number-has (Expr.muladd k a b c) n r v (Has.muladd y z w h g f q) =
        Has.muladd y z w (number-has a n r y h) (number-has b (number_from n a).free r z g)
        (number-has c (number_from (number_from n a).free b).free r w f) q
    number-has (Expr.binc k o a l) n r v (Has.binc y h q) = Has.binc y (number-has a n r y h) q
    number-has (Expr.neg k a) n r v (Has.neg y h q) = Has.neg y (number-has a n r y h) q

  later-has : (E : Forest) (s t : Expr) (r : ℕ) (v : 𝓐.A) → Has 𝓐 G E t r v → Has 𝓐 G (extended E s) t r v
  later-has E s t r v (Has.cell q) = Has.cell q
  later-has E s t r v (Has.exp {i = i} {a = a} e q h) = Has.exp e (nth-extended E s i q) (later-has E s e.tree (r + a) v h)
  later-has E s t r v (Has.number q) = Has.number q
  later-has E s t r v (Has.flat q) = Has.flat q
  later-has E s t r v (Has.x q) = Has.x q
  later-has E s t r v (Has.bin {a = a} {b = b} y z h g q) = Has.bin y z (later-has E s a r y h) (later-has E s b r z g) q
  later-has E s t r v (Has.muladd {a = a} {b = b} {c = c} y z w h g f q) =
      Has.muladd y z w (later-has E s a r y h) (later-has E s b r z g) (later-has E s c r w f) q
  later-has E s t r v (Has.binc {a = a} y h q) = Has.binc y (later-has E s a r y h) q
  later-has E s t r v (Has.neg {a = a} y h q) = Has.neg y (later-has E s a r y h) q

  -- ── what is added up ───────────────────────────────────────────────────────
  -- vc's value, what was there, and what is added to it in turn
  abbrev pub sum_of : 𝓐.A → 𝓐.A → List 𝓐.A → 𝓐.A
  sum_of w c [] = c
  sum_of w c (z ∷ zs) = sum_of w (𝓐.plus (𝓐.times w c) z) zs

  module _ (E : Forest) (r : ℕ) where
    -- the values of identities at row r
    abbrev pub Identities : List ℕ → List 𝓐.A → Type 0
    Identities [] [] = Unit {0}
    Identities [] (v ∷ vs) = ⊥
    Identities (e ∷ es) [] = ⊥
    Identities (e ∷ es) (v ∷ vs) = Value 𝓐 G E e r v × Identities es vs

    -- the value of an intermediate's expression less that of its column
    pub record Difference (m : Intermediate) (v : 𝓐.A) : Type 0 where
      pub body : 𝓐.A
      pub column : 𝓐.A
      pub is_body : Value 𝓐 G E m.expression r body
      pub is_column : G.cells RowKind.cm m.cm r ≡ some column
      pub is : v ≡ 𝓐.minus body column

    abbrev pub Differences : List Intermediate → List 𝓐.A → Type 0
    Differences [] [] = Unit {0}
    Differences [] (v ∷ vs) = ⊥
    Differences (m ∷ ms) [] = ⊥
    Differences (m ∷ ms) (v ∷ vs) = Difference m v × Differences ms vs

    module _ (vc : ℕ) (w : 𝓐.A) (given : G.flats FlatKind.challenge vc ≡ some w) where
      this-row : r ≡ r + 0
      this-row = omega arith

      plus-has : (c : Numbered) (e : Expr) (y z : 𝓐.A) → Has 𝓐 G E c.tree r y → Has 𝓐 G E e r z → Has 𝓐 G E (plus vc c e).tree r (𝓐.plus (𝓐.times w y) z)
      plus-has c e y z h g = Has.bin (𝓐.times w y) z (Has.bin w y (Has.flat given) h refl) (number-has E e (c.free + 2) r z g) refl

      identity-has : (e : ℕ) (v : 𝓐.A) → Value 𝓐 G E e r v → Has 𝓐 G E (identity_leaf e) r v
      identity-has e v h = Has.exp h.0 h.1 (subst (λ s. Has 𝓐 G E h.0.tree s v) this-row h.2)

      identities_have :
          (c : Numbered) (y : 𝓐.A) → Has 𝓐 G E c.tree r y → (es : List ℕ) (vs : List 𝓐.A) → Identities es vs →
          Has 𝓐 G E (plus_identities vc c es).tree r (sum_of w y vs)
      identities_have c y h [] [] k = h
      identities_have c y h [] (v ∷ vs) k = absurd k
      identities_have c y h (e ∷ es) [] k = absurd k
      identities_have c y h (e ∷ es) (v ∷ vs) k =
          identities_have (plus vc c (identity_leaf e)) (𝓐.plus (𝓐.times w y) v) (plus-has c (identity_leaf e) y v h (identity-has e v k.0)) es vs k.1

      member-has :
          (c : Numbered) (y : 𝓐.A) → Has 𝓐 G E c.tree r y → (m : Intermediate) (v : 𝓐.A) → Difference m v →
          Has 𝓐 G E (plus_member vc c (nth E m.expression) m.cm).tree r (𝓐.plus (𝓐.times w y) v)
      member-has c y h m v d =
          let b = d.is_body in
          let k : G.cells RowKind.cm m.cm (r + 0) ≡ some d.column = subst (λ s. G.cells RowKind.cm m.cm s ≡ some d.column) this-row d.is_column in
          rw b.1 (plus-has c (minus_column b.0.tree m.cm) y v h (Has.bin d.body d.column b.2 (Has.cell k) d.is))

      members_have :
          (c : Numbered) (y : 𝓐.A) → Has 𝓐 G E c.tree r y → (ms : List Intermediate) (vs : List 𝓐.A) → Differences ms vs →
          Has 𝓐 G E (plus_members vc E c ms).tree r (sum_of w y vs)
      members_have c y h [] [] k = h
      members_have c y h [] (v ∷ vs) k = absurd k
      members_have c y h (m ∷ ms) [] k = absurd k
      members_have c y h (m ∷ ms) (v ∷ vs) k =
          members_have (plus_member vc c (nth E m.expression) m.cm) (𝓐.plus (𝓐.times w y) v) (member-has c y h m v k.0) ms vs k.1

      -- THE VALUE OF THE CONSTRAINT at row r
      pub constraint-value :
          (nodes e : ℕ) (es : List ℕ) (ms : List Intermediate) (v : 𝓐.A) (vs ds : List 𝓐.A) →
          Value 𝓐 G E e r v → Identities es vs → Differences ms ds →
          Value 𝓐 G (extended E (constraint_tree vc E nodes e es ms).tree) (length E) r (sum_of w (sum_of w v vs) ds)
      constraint-value nodes e es ms v vs ds h k d =
          let t = (constraint_tree vc E nodes e es ms).tree in
          let c = number_from nodes (identity_leaf e) in
          let i = identities_have c v (number-has E (identity_leaf e) nodes r v (identity-has e v h)) es vs k in
          (unflagged t, nth-constraint E t, later-has E t t r _ (members_have (plus_identities vc c es) (sum_of w v vs) i ms ds d))
