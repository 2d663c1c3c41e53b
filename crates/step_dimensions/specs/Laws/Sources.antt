-- The dimension of a source: each way through the code.
-- Assumes nothing.
use Rattle.std.specs.Prelude.{ℕ, ◌≤◌, ◌<◌, ◌≡◌, List, length, get_or}
use Rattle.std.proofs.Common.{sym, ◌∙◌}
use Rattle.std.proofs.Math.Option.{none}
use borrow.Author.Tests.{ne_eqb, lt-ltb, le-ltb}
use Rattle.kinds.specs.declared.reference.Reference.{Reference}
use Rattle.meaning.specs.Refusals.{Refusal, done, refused}
use Rattle.step_dimensions.specs.Rules as rule
use Rattle.step_dimensions.specs.Rules.{rule_no}
use Rattle.step_dimensions.specs.StepDimensions.{Given, positive, written, through, source_dim}

pub positive-none : (d : ℕ) → d ≡ 0 → refused Refusal.no_dimension none ≡ positive d
positive-none d e = rw e

pub positive-some : (d : ℕ) → (d ≡ 0 → ⊥) → done d ≡ positive d
positive-some d h = rw (ne_eqb d 0 h)

pub written_none : (d : ℕ) → d ≡ 0 → refused Refusal.no_rule none ≡ written d
written_none d e = rw e

pub written-some : (d : ℕ) → (d ≡ 0 → ⊥) → done d ≡ written d
written-some d h = rw (ne_eqb d 0 h)

module _ (dims numbers : List ℕ) (id : ℕ) where
  pub through-no-number : length numbers ≤ id → refused Refusal.not_there none ≡ through dims numbers id
  unfolding through
  through-no-number h = rw (le-ltb id (length numbers) h)

  pub through-no-record : id < length numbers → length dims ≤ get_or numbers id 0 → refused Refusal.not_there none ≡ through dims numbers id
  unfolding through
  through-no-record h g = rw (lt-ltb id (length numbers) h, le-ltb (get_or numbers id 0) (length dims) g)

  pub through-both : id < length numbers → get_or numbers id 0 < length dims → positive (get_or dims (get_or numbers id 0) 0) ≡ through dims numbers id
  unfolding through
  through-both h g = rw (lt-ltb id (length numbers) h, lt-ltb (get_or numbers id 0) (length dims) g)

module _ (g : Given) (ts : List ℕ) (r : Reference) (n : ℕ) (is : n ≡ rule_no r.kind) where
  abbrev back : (m : ℕ) → n ≡ m → rule_no r.kind ≡ m
  back m e = sym is ∙ e

  pub by-temporary : n ≡ rule.temporary → written (get_or ts r.id 0) ≡ source_dim g ts r
  unfolding source_dim
  by-temporary e = rw (back rule.temporary e)

  pub by-own : n ≡ rule.own → positive r.dim ≡ source_dim g ts r
  unfolding source_dim
  by-own e = rw (back rule.own e)

  pub by-column : n ≡ rule.column → through g.record_dims g.cm2ns r.id ≡ source_dim g ts r
  unfolding source_dim
  by-column e = rw (back rule.column e)

  pub by-quotient : n ≡ rule.quotient → through g.record_dims g.qs r.id ≡ source_dim g ts r
  unfolding source_dim
  by-quotient e = rw (back rule.quotient e)

  pub by_one : n ≡ rule.one → done 1 ≡ source_dim g ts r
  unfolding source_dim
  by_one e = rw (back rule.one e)

  pub by_three : n ≡ rule.three → done 3 ≡ source_dim g ts r
  unfolding source_dim
  by_three e = rw (back rule.three e)

  pub by-x : n ≡ rule.x → positive g.dim_x ≡ source_dim g ts r
  unfolding source_dim
  by-x e = rw (back rule.x e)

  pub by-none : (n ≡ 1 → ⊥) → (n ≡ 2 → ⊥) → (n ≡ 3 → ⊥) → (n ≡ 4 → ⊥) → (n ≡ 5 → ⊥) → (n ≡ 6 → ⊥) → (n ≡ 7 → ⊥) → refused Refusal.no_rule none ≡ source_dim g ts r
  unfolding source_dim
  by-none a b c d e f h = rw (← is) (simp (ne_eqb n 1 a, ne_eqb n 2 b, ne_eqb n 3 c, ne_eqb n 4 d, ne_eqb n 5 e, ne_eqb n 6 f, ne_eqb n 7 h))
