-- Laws of the query code's walk: what each way through the code answers.
-- Assumes nothing.
use Rattle.std.specs.Prelude.{ℕ, ◌/◌, ◌%◌, ◌<◌, ◌≤◌, Bool, cond, List, eqb, leb, Result, Ok, Err}
use Rattle.std.proofs.Math.Path.{◌≡◌, refl, sym, ap}
use Rattle.std.proofs.Common.{◌∙◌, arith, eq-eqb, ne_eqb, le-leb}
use Rattle.std.proofs.Math.Bool.{true, false}
use Rattle.kinds.specs.KindBytes as kind
use Rattle.kinds.specs.Range.{within, within-below}
use Rattle.kinds.specs.declared.reference.Reference.{Reference}
use Rattle.lent_lists.specs.Verdicts.{Verdict, fine, malformed, not_there, no_rule, full, verdict_no, only}
use Rattle.lent_lists.specs.Records.{segment_in, good_lists, record_by, rewritten}
use Rattle.lent_lists.specs.Walks.{walked, record_verdict}
use Rattle.lent_lists.specs.Laws.Walks.{Met, walk-met, is-not-there, is-no-rule}
use Rattle.lent_lists.specs.Laws.Verdicts.{no-refusal}
use Rattle.query_fixing.specs.QueryCode.{tree_for, tree_kind, tree_position, tree_dim, has_tree, treed_reference, tree_reference, query_verdict, queried_after}
use Rattle.query_fixing.specs.QueryAnswers.{Says, QueryCodeIs}
use Rattle.kinds.specs.AnswerLaws.{refusal_same, refusal-some}
use Rattle.kinds.specs.Answers.{refusal_of}
use Rattle.kinds.specs.declared.refusal.Refusal as codes
use Rattle.kinds.specs.declared.refusal.Refusal.TheVariants as code
use Rattle.meaning.specs.Refusals.{number}

pub low-kind : (tree : ℕ) → tree / 0x100000000 < kind.tree1 → false ≡ has_tree tree
unfolding has_tree tree_kind
low-kind tree h = sym (within-below kind.tree1 kind.tree4 (tree / 0x100000000) h)

pub high-kind : (tree : ℕ) → kind.tree1 ≤ tree / 0x100000000 → leb (tree / 0x100000000) kind.tree4 ≡ has_tree tree
unfolding has_tree tree_kind within
high-kind tree h = rw (le-leb kind.tree1 (tree / 0x100000000) h)

module _ (trees : List ℕ) where
  -- ---- a reference
  pub no-cm : (r : Reference) → (r.kind ≡ kind.cm → ⊥) → 0 ≡ verdict_no (treed_reference trees r)
  unfolding treed_reference
  no-cm r h = rw (ne_eqb r.kind kind.cm h)

  module _ (r : Reference) (h : r.kind ≡ kind.cm) (tree : ℕ) (e : tree ≡ tree_for trees r.id) (b : Bool) (q : b ≡ has_tree tree) where
    pub tree-there : b ≡ true → 0 ≡ verdict_no (treed_reference trees r)
    unfolding treed_reference
    tree-there k =
        let z : has_tree (tree_for trees r.id) ≡ true = ap has_tree (sym e) ∙ sym q ∙ k in
        rw (eq-eqb r.kind kind.cm h, z)

    pub tree-lost : b ≡ false → 3 ≡ verdict_no (treed_reference trees r)
    unfolding treed_reference
    tree-lost k =
        let z : has_tree (tree_for trees r.id) ≡ false = ap has_tree (sym e) ∙ sym q ∙ k in
        rw (eq-eqb r.kind kind.cm h, z)

  pub stays : (r : Reference) → (r.kind ≡ kind.cm → ⊥) → r ≡ tree_reference trees r
  unfolding tree_reference
  stays r h = rw (ne_eqb r.kind kind.cm h)

  pub becomes-tree :
      (r : Reference) → r.kind ≡ kind.cm → (tree : ℕ) → tree ≡ tree_for trees r.id →
      record { kind = tree / 0x100000000 % 256; prime = r.prime; id = r.id; dim = tree % 0x10000; p = r.p; tree_pos = tree / 0x10000 % 0x10000; extra = r.extra } ≡ tree_reference trees r
  unfolding tree_reference tree_kind tree_dim tree_position
  becomes-tree r h tree e = rw (eq-eqb r.kind kind.cm h, e)

  reference-met : (r : Reference) → Met (treed_reference trees r)
  unfolding treed_reference
  reference-met r = go (eqb r.kind kind.cm) (has_tree (tree_for trees r.id))
    where
      go : (a b : Bool) → Met (cond a (only b not_there) fine)
      go true true = tt
      go true false = tt
      go false b = tt

  -- ---- the whole
  module _ (first i last : List ℕ) (g : Bool) (eg : g ≡ good_lists first i last) where
    abbrev v : Verdict
    v = walked (record_verdict (treed_reference trees)) (segment_in first i last)

    unchanged : (w : Verdict) (r : Result Unit codes.Refusal) → query_verdict trees first i last ≡ w → (w ≡ fine → ⊥) → Says w r → QueryCodeIs trees first i last first i last r
    unfolding queried_after
    unchanged fine r e h k = absurd (h refl)
    unchanged malformed r e h k = record { answer = rw e k; first_is = rw e; i_is = rw e; last_is = rw e }
    unchanged not_there r e h k = record { answer = rw e k; first_is = rw e; i_is = rw e; last_is = rw e }
    unchanged no_rule r e h k = record { answer = rw e k; first_is = rw e; i_is = rw e; last_is = rw e }
    unchanged full r e h k = absurd k

    pub query-malformed : g ≡ false → QueryCodeIs trees first i last first i last (Err code.Malformed)
    unfolding query_verdict
    query-malformed h =
        let z : good_lists first i last ≡ false = sym eg ∙ h in
        unchanged malformed (Err code.Malformed) (rw z) (λ q. let y : ◌≡◌ {A = ℕ} 1 0 = ap verdict_no q in omega arith) refl

    module _ (h : g ≡ true) (n : ℕ) (en : n ≡ verdict_no (walked (record_verdict (treed_reference trees)) (segment_in first i last))) where
      verdict-is : query_verdict trees first i last ≡ v
      unfolding query_verdict
      verdict-is =
          let z : good_lists first i last ≡ true = sym eg ∙ h in
          rw z

      pub query-not-there : n ≡ 3 → QueryCodeIs trees first i last first i last (Err code.NotThere)
      query-not-there k =
          let q : v ≡ not_there = is-not-there v (sym en ∙ k) in
          unchanged not_there (Err code.NotThere) (verdict-is ∙ q) (λ q. let y : ◌≡◌ {A = ℕ} 3 0 = ap verdict_no q in omega arith) refl

      pub query-no-rule : (n ≡ 3 → ⊥) → (n ≡ 0 → ⊥) → QueryCodeIs trees first i last first i last (Err code.NoRule)
      query-no-rule b c =
          let q : v ≡ no_rule = is-no-rule v (walk-met (treed_reference trees) reference-met (segment_in first i last)) (λ z. b (en ∙ z)) (λ z. c (en ∙ z)) in
          unchanged no_rule (Err code.NoRule) (verdict-is ∙ q) (λ q. let y : ◌≡◌ {A = ℕ} 10 0 = ap verdict_no q in omega arith) refl

      -- what the walk refuses
      pub query-refused : (w : codes.Refusal) → n ≡ number (refusal_of w) → QueryCodeIs trees first i last first i last (Err w)
      query-refused w k = by v refl (walk-met (treed_reference trees) reference-met (segment_in first i last)) (sym k ∙ en)
        where
          by : (x : Verdict) → v ≡ x → Met x → number (refusal_of w) ≡ verdict_no x → QueryCodeIs trees first i last first i last (Err w)
          by fine q m e = absurd (refusal-some (refusal_of w) e)
          by malformed q m e = absurd m
          by not_there q m e = unchanged not_there (Err w) (verdict-is ∙ q) (λ z. let y : ◌≡◌ {A = ℕ} 3 0 = ap verdict_no z in omega arith) (ap Err (refusal_same w code.NotThere e))
          by no_rule q m e = unchanged no_rule (Err w) (verdict-is ∙ q) (λ z. let y : ◌≡◌ {A = ℕ} 10 0 = ap verdict_no z in omega arith) (ap Err (refusal_same w code.NoRule e))
          by full q m e = absurd m

      pub query-done :
          n ≡ 0 → (first' i' last' : List ℕ) → first' ≡ rewritten (record_by (tree_reference trees)) first → i' ≡ rewritten (record_by (tree_reference trees)) i →
          last' ≡ rewritten (record_by (tree_reference trees)) last → QueryCodeIs trees first i last first' i' last' (Ok tt)
      unfolding queried_after
      query-done k first' i' last' ef ei el =
          let q : query_verdict trees first i last ≡ fine = verdict-is ∙ no-refusal v (sym en ∙ k) in
          record { answer = rw q; first_is = ef ∙ rw q; i_is = ei ∙ rw q; last_is = el ∙ rw q }

-- ONLY ONE OUTCOME FITS
one_answer : (w : Verdict) (r r' : Result Unit codes.Refusal) → Says w r → Says w r' → r ≡ r'
one_answer fine r r' h k = h ∙ sym k
one_answer malformed r r' h k = h ∙ sym k
one_answer not_there r r' h k = h ∙ sym k
one_answer no_rule r r' h k = h ∙ sym k
one_answer full r r' h k = absurd h

pub one-query-outcome :
    (trees first i last a b c a' b' c' : List ℕ) (r r' : Result Unit codes.Refusal) → QueryCodeIs trees first i last a b c r → QueryCodeIs trees first i last a' b' c' r' →
    (r ≡ r') × (a ≡ a') × (b ≡ b') × (c ≡ c')
one-query-outcome trees first i last a b c a' b' c' r r' x y =
    (one_answer (query_verdict trees first i last) r r' x.answer y.answer, x.first_is ∙ sym y.first_is, x.i_is ∙ sym y.i_is, x.last_is ∙ sym y.last_is)
