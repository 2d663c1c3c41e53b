-- The result that a request asks for, by its kind byte and its id: 0 and 0 ask for none.
-- Assumes nothing.
use Rattle.std.specs.Prelude.{ℕ, zero, suc, ◌<◌, ◌≤◌, ◌≡◌, refl, Bool, true, false, cond, not, ◌&&◌, ◌||◌, List, [], ◌∷◌, eqb, ltb, leb}
use Rattle.std.proofs.Common.{sym, ◌∙◌, ap, ⊎_elim, arith, not-suc-le-zero, le_of_suc-le-suc, eq-or-lt_of_le, eqb-true, ne_eqb, ltb-true, ltb-false}
use Rattle.std.proofs.Math.Option.{Option, none, some, some-injective, none-ne-some}
use Rattle.std.proofs.lemmas.Bool.{lt-leb}
use Rattle.meaning.specs.Trees.{RowKind, FlatKind, XKind, Each}
use Rattle.meaning.specs.Steps.{BareKind, Kind, kind_no}
use Rattle.meaning.specs.Generation.{Result, result, Request}
use Rattle.meaning.specs.Demand3.{NoResult}
use Rattle.meaning.proofs.Laws.Tests.{true-false, and_left, and_right}
use Rattle.kinds.specs.Range.{within}
use Rattle.kinds.specs.Kinds.{is_leaf, is_reference, is_result}

-- the kinds that a result may be asked for in
abbrev pub result_kinds : List Kind
result_kinds =
    Kind.row RowKind.cm ∷ Kind.row RowKind.const ∷ Kind.exp ∷ Kind.row RowKind.q ∷ Kind.flat FlatKind.public ∷ Kind.flat FlatKind.challenge ∷ Kind.flat FlatKind.eval ∷
    Kind.x XKind.x_div_x_sub_xi ∷ Kind.x XKind.x_div_x_sub_w_xi ∷ Kind.x XKind.plain_x ∷ Kind.tmp ∷ Kind.f ∷ Kind.tmp_exp ∷ Kind.bare BareKind.Zi ∷
    Kind.bare BareKind.tree1 ∷ Kind.bare BareKind.tree2 ∷ Kind.bare BareKind.tree3 ∷ Kind.bare BareKind.tree4 ∷ Kind.bare BareKind.Z ∷ []

abbrev pub kind_among : List Kind → ℕ → Option Kind
kind_among [] n = none
kind_among (k ∷ ks) n = cond (eqb (kind_no k) n) (some k) (kind_among ks n)

-- THE RESULT ASKED FOR
abbrev pub result_from : Option Kind → ℕ → Option Result
result_from none id = none
result_from (some k) id = some (result k id)

unfoldable pub result_of : ℕ → ℕ → Option Result
result_of kind id = result_from (kind_among result_kinds kind) id

-- the last of some requests asks for it
abbrev pub asking : Option Result → List Request → List Request
asking x [] = []
asking x (q ∷ []) = record { expression = q.expression; row = q.row; fused = q.fused; result = x } ∷ []
asking x (q ∷ p ∷ qs) = q ∷ asking x (p ∷ qs)

-- it is well formed: none, or of a result's kind where there is a request
unfoldable pub result_good : ℕ → ℕ → ℕ → Bool
result_good kind id requests = cond (eqb kind 0) (eqb id 0) (is_result kind && ltb 0 requests)

-- ── laws ─────────────────────────────────────────────────────────────────────
among-is : (ks : List Kind) (n : ℕ) (k : Kind) → kind_among ks n ≡ some k → kind_no k ≡ n
among-is [] n k h = absurd (none-ne-some k h)
among-is (j ∷ ks) n k h = go (eqb (kind_no j) n) refl h (among-is ks n k)
  where
    go : (b : Bool) → eqb (kind_no j) n ≡ b → cond b (some j) (kind_among ks n) ≡ some k → (kind_among ks n ≡ some k → kind_no k ≡ n) → kind_no k ≡ n
    go true e q ih = ap kind_no (sym (some-injective j k q)) ∙ eqb-true (kind_no j) n e
    go false e q ih = ih q

-- a result's kind byte is among the kinds': of each byte up to the last kind, by computing
abbrev is_some : Option Kind → Bool
is_some none = false
is_some (some k) = true

abbrev named : ℕ → Bool
named kind = not (is_result kind) || is_some (kind_among result_kinds kind)

abbrev all_below : (ℕ → Bool) → ℕ → Bool
all_below f zero = true
all_below f (suc n) = f n && all_below f n

below_all : (f : ℕ → Bool) (n k : ℕ) → all_below f n ≡ true → k < n → f k ≡ true
below_all f zero k h g = absurd (not-suc-le-zero g)
below_all f (suc n) k h g = ⊎_elim (λ e. ap f e ∙ and_left (f n) (all_below f n) h) (λ l. below_all f n k (and_right (f n) (all_below f n) h) l) (eq-or-lt_of_le (le_of_suc-le-suc g))

all_named : all_below named 41 ≡ true
unfolding is_result is_reference is_leaf within
all_named = refl

past-kinds : (kind : ℕ) → 41 ≤ kind → is_result kind ≡ false
unfolding is_result is_reference is_leaf within
past-kinds kind h = rw (ne_eqb kind 0x14 (λ e. omega arith), lt-leb kind 0x1a (omega arith), lt-leb kind 0x28 (omega arith), and-false (leb 0x10 kind), and-false (leb 0x20 kind))
  where
    and-false : (b : Bool) → (b && false) ≡ false
    and-false true = refl
    and-false false = refl

-- A RESULT'S KIND BYTE names a kind
pub kind-of : (kind : ℕ) → is_result kind ≡ true → (k : Kind) × (kind_among result_kinds kind ≡ some k) × (kind_no k ≡ kind)
kind-of kind h = go (kind_among result_kinds kind) refl
  where
    low : kind < 41
    low = by (ltb kind 41) refl
      where
        by : (b : Bool) → ltb kind 41 ≡ b → kind < 41
        by true e = ltb-true kind 41 e
        by false e = absurd (true-false h (past-kinds kind (ltb-false kind 41 e)))

    is-named : named kind ≡ true
    is-named = below_all named 41 kind all_named low

    go : (o : Option Kind) → kind_among result_kinds kind ≡ o → (k : Kind) × (kind_among result_kinds kind ≡ some k) × (kind_no k ≡ kind)
    go none e = absurd (true-false is-named (rw (h, e)))
    go (some k) e = (k, e, among-is result_kinds kind k e)

-- ── none is asked for by kind 0 ──────────────────────────────────────────────
pub no_result : (id : ℕ) → result_of 0 id ≡ none
unfolding result_of
no_result id = refl

pub asking-none : (qs : List Request) → Each NoResult qs → asking none qs ≡ qs
asking-none [] h = refl
asking-none (q ∷ []) h = ap (λ (o : Option Result). record { expression = q.expression; row = q.row; fused = q.fused; result = o } ∷ []) (sym h.0)
asking-none (q ∷ p ∷ qs) h = ap (λ (z : List Request). q ∷ z) (asking-none (p ∷ qs) h.1)
