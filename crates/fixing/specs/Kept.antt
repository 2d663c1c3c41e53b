-- WHAT IS FIXED IS WELL FORMED, and as long as it was. Assumes nothing.
use Rattle.std.specs.Prelude.{ℕ, ◌≡◌, Bool, cond, List, length, eqb, leb}
use Rattle.std.proofs.Math.Bool.{true, false}
use Rattle.std.proofs.Math.Option.{Option, none, some}
use Rattle.kinds.specs.KindBytes as kind
use Rattle.kinds.specs.Kinds.{is_reference, is_leaf}
use Rattle.kinds.specs.Range.{within}
use Rattle.kinds.specs.declared.reference.Reference.{Reference}
use Rattle.meaning.proofs.Laws.Tests.{and_right}
use Rattle.fixed_meaning.specs.Fixing.{Map}
use Rattle.lists.specs.Records.{records_in, good_reference, good_list}
use Rattle.lent_lists.specs.Verdicts.{fine}
use Rattle.lent_lists.specs.Laws.Kept.{records-kept, rewritten-length, good-records}
use Rattle.fixing.specs.ProverCode.{fix_expression, placed, fix_reference, fix_record, plan_of, rule_for, rule_dim, temporaries, prover_verdict, list_after}
use Rattle.fixing.specs.Laws.Joined.{list-fixed}

-- the prime stays, and what an expression becomes has a kind
expression_kept : (a b c : Option ℕ) (d : ℕ) (r : Reference) → leb r.prime 1 ≡ true → good_reference r ≡ true → good_reference (fix_expression a b c d r) ≡ true
unfolding good_reference is_reference is_leaf within
expression_kept (some c) b t d r h g = h
expression_kept none (some k) t d r h g = h
expression_kept none none (some t) d r h g = h
expression_kept none none none d r h g = g

placed-kept : (cms : List ℕ) (r : Reference) → leb r.prime 1 ≡ true → good_reference (placed cms r) ≡ true
unfolding good_reference is_reference is_leaf within
placed-kept cms r h = h

prime-low : (r : Reference) → good_reference r ≡ true → leb r.prime 1 ≡ true
unfolding good_reference
prime-low r h = and_right (is_reference r.kind) (leb r.prime 1) h

module _ (rules cms : List ℕ) (m : Map) where
  pub reference-kept : (r : Reference) → good_reference r ≡ true → good_reference (fix_reference rules cms m r) ≡ true
  unfolding fix_reference
  reference-kept r h =
      either (eqb r.kind kind.cm) (placed cms r) _ (placed-kept cms r (prime-low r h))
      (either (eqb r.kind kind.exp) (fix_expression ((plan_of rules).im r.id) ((plan_of rules).column r.id) (m r.id r.prime) (rule_dim (rule_for rules r.id)) r) r
      (expression_kept ((plan_of rules).im r.id) ((plan_of rules).column r.id) (m r.id r.prime) (rule_dim (rule_for rules r.id)) r (prime-low r h) h) h)
    where
      either : (b : Bool) (x y : Reference) → good_reference x ≡ true → good_reference y ≡ true → good_reference (cond b x y) ≡ true
      either true x y f g = f
      either false x y f g = g

module _ (rules cms : List ℕ) (counter : ℕ) (first i last : List ℕ) (accepted : prover_verdict rules cms counter first i last ≡ fine) where
  pub fixed-length : (l : List ℕ) → length (list_after rules cms counter first i last l) ≡ length l
  unfolding list_after
  fixed-length l = rw accepted (rewritten-length (fix_record rules cms (temporaries rules counter first i last).map) l)

  pub fixed-good : (l : List ℕ) → good_list l ≡ true → good_list (list_after rules cms counter first i last l) ≡ true
  fixed-good l h =
      good-records l (list_after rules cms counter first i last l) h (fixed-length l)
      (λ g. rw (list-fixed rules cms counter first i last l accepted)
      (records-kept (fix_reference rules cms (temporaries rules counter first i last).map) (reference-kept rules cms (temporaries rules counter first i last).map) (records_in l) g))
