-- EXACTLY WHEN the walk of the query code answers 3 and 10, and when it refuses nothing.
-- Assumes nothing.
use Rattle.std.specs.Prelude.{ℕ, ◌≤◌, ◌<◌, ◌≡◌, Bool, cond, List, ◌⊎◌, ◌↔◌, get_or, leb}
use Rattle.std.proofs.Math.Path.{refl, ap}
use Rattle.std.proofs.Common.{sym, ◌∙◌, arith, eqb-true, eq-eqb, ltb-true, ltb-false, leb-true, leb-false}
use Rattle.std.proofs.Math.Bool.{true, false}
use Rattle.std.proofs.Math.Logic.{inl, inr}
use Rattle.std.proofs.Math.ListN.{length, get_or-eq_default}
use Rattle.std.proofs.Math.Dec.{eqb, ltb}
use Rattle.kinds.specs.KindBytes as kind
use Rattle.kinds.specs.Range.{within, within_in, within-below, within-above}
use Rattle.kinds.specs.declared.reference.Reference.{Reference}
use Rattle.kinds.specs.declared.step.Step.{Step}
use Rattle.meaning.specs.Trees.{Each}
use Rattle.meaning.proofs.Laws.Tests.{true-false, each_map}
use Rattle.lent_lists.specs.Verdicts.{Verdict, fine, malformed, not_there, no_rule, verdict_no, first_of, only}
use Rattle.lent_lists.specs.Records.{segment_in, good_lists}
use Rattle.lent_lists.specs.Walks.{walked, record_verdict}
use Rattle.lent_lists.specs.Conditions.{First, references_of, NoStep, RecordRuled, ByReference, RecordNoRule}
use Rattle.lent_lists.specs.Exactly.{not-fine-rule, not-fine-there, rule-is-not-there, first_so, records_0, records_10, records_3}
use Rattle.query_fixing.specs.QueryCode.{tree_for, tree_kind, has_tree, treed_reference, query_verdict}
use Rattle.query_fixing.specs.QueryConditions.{NoTree, Lost, Treed, Refused3, Refused10, Accepted}

-- ---- a tree

outside : (a b k : ℕ) → within a b k ≡ false → (k < a) ⊎ (b < k)
outside a b k h = low (ltb k a) refl
  where
    high : a ≤ k → (t : Bool) → leb k b ≡ t → (k < a) ⊎ (b < k)
    high g true e = absurd (true-false (within_in a b k (g, leb-true k b e)) h)
    high g false e = inr (leb-false k b e)

    low : (t : Bool) → ltb k a ≡ t → (k < a) ⊎ (b < k)
    low true e = inl (ltb-true k a e)
    low false e = high (ltb-false k a e) (leb k b) refl

treeless : (tree : ℕ) → (has_tree tree ≡ false) ↔ NoTree tree
unfolding has_tree
treeless tree = (outside kind.tree1 kind.tree4 (tree_kind tree), from)
  where
    from : NoTree tree → within kind.tree1 kind.tree4 (tree_kind tree) ≡ false
    from (inl h) = within-below kind.tree1 kind.tree4 (tree_kind tree) h
    from (inr h) = within-above kind.tree1 kind.tree4 (tree_kind tree) h

zero-treeless : has_tree 0 ≡ false
unfolding has_tree tree_kind within
zero-treeless = refl

-- ---- a reference

module _ (trees : List ℕ) where
  past : (id : ℕ) → length trees ≤ id → has_tree (tree_for trees id) ≡ false
  unfolding tree_for
  past id h = ap has_tree (get_or-eq_default trees 0 {n = id} h) ∙ zero-treeless

  lost : (r : Reference) → r.kind ≡ kind.cm → has_tree (tree_for trees r.id) ≡ false → Lost trees r
  unfolding tree_for
  lost r c h = (c, go (ltb r.id (length trees)) refl)
    where
      go : (b : Bool) → ltb r.id (length trees) ≡ b → (length trees ≤ r.id) ⊎ ((r.id < length trees) × NoTree (get_or trees r.id 0))
      go true e = inr (ltb-true _ _ e, (treeless (get_or trees r.id 0)).0 h)
      go false e = inl (ltb-false _ _ e)

  lost-has-none : (r : Reference) → Lost trees r → has_tree (tree_for trees r.id) ≡ false
  unfolding tree_for
  lost-has-none r w = go w.1
    where
      go : (length trees ≤ r.id) ⊎ ((r.id < length trees) × NoTree (get_or trees r.id 0)) → has_tree (get_or trees r.id 0) ≡ false
      go (inl h) = past r.id h
      go (inr h) = (treeless (get_or trees r.id 0)).1 h.1

  -- what a reference is told, by its kind and its tree
  abbrev told : Bool → Bool → Verdict
  told cm tree = cond cm (only tree not_there) fine

  reference_3 : (r : Reference) → (treed_reference trees r ≡ not_there) ↔ Lost trees r
  unfolding treed_reference
  reference_3 r = (λ h. to (eqb r.kind kind.cm) refl (has_tree (tree_for trees r.id)) refl h, λ w. rw (eq-eqb r.kind kind.cm w.0, lost-has-none r w))
    where
      to : (b : Bool) → eqb r.kind kind.cm ≡ b → (t : Bool) → has_tree (tree_for trees r.id) ≡ t → told b t ≡ not_there → Lost trees r
      to true e true q h = absurd (not-fine-there (sym h))
      to true e false q h = lost r (eqb-true _ _ e) q
      to false e t q h = absurd (not-fine-there (sym h))

  reference_10 : (r : Reference) → (treed_reference trees r ≡ no_rule) ↔ ⊥
  unfolding treed_reference
  reference_10 r = (to (eqb r.kind kind.cm) (has_tree (tree_for trees r.id)), λ w. absurd w)
    where
      to : (b t : Bool) → told b t ≡ no_rule → ⊥
      to true true h = not-fine-rule (sym h)
      to true false h = rule-is-not-there (sym h)
      to false t h = not-fine-rule (sym h)

  reference_0 : (r : Reference) → (treed_reference trees r ≡ fine) ↔ Treed (Lost trees) r
  unfolding treed_reference
  reference_0 r = (λ h w. not-fine-there (sym ((reference_3 r).1 w) ∙ h), λ n. from n (eqb r.kind kind.cm) refl (has_tree (tree_for trees r.id)) refl)
    where
      from : Treed (Lost trees) r → (b : Bool) → eqb r.kind kind.cm ≡ b → (t : Bool) → has_tree (tree_for trees r.id) ≡ t → told b t ≡ fine
      from n true e true q = refl
      from n true e false q = absurd (n (lost r (eqb-true _ _ e) q))
      from n false e t q = refl

  -- ---- a segment
  abbrev W : List Step → Verdict
  W xs = walked (record_verdict (treed_reference trees)) xs

  segment_0 : (xs : List Step) → (W xs ≡ fine) ↔ Each (RecordRuled (Treed (Lost trees))) xs
  segment_0 = records_0 (treed_reference trees) (Treed (Lost trees)) (λ _. ⊥) (Lost trees) reference_0 reference_10 reference_3

  segment_3 : (xs : List Step) → (W xs ≡ not_there) ↔ First (RecordRuled (Treed (Lost trees))) (ByReference (Treed (Lost trees)) (Lost trees)) xs
  segment_3 = records_3 (treed_reference trees) (Treed (Lost trees)) (λ _. ⊥) (Lost trees) reference_0 reference_10 reference_3

  segment_10 : (xs : List Step) → (W xs ≡ no_rule) ↔ First (RecordRuled (Treed (Lost trees))) NoStep xs
  segment_10 xs = let e = records_10 (treed_reference trees) (Treed (Lost trees)) (λ _. ⊥) (Lost trees) reference_0 reference_10 reference_3 xs in (λ h. first_so (λ x p. p) stepless (e.0 h), λ w. e.1 (first_so (λ x p. p) (λ x n. inl n) w))
    where
      stepless : (x : Step) → RecordNoRule (Treed (Lost trees)) (λ _. ⊥) x → NoStep x
      stepless x (inl n) = n
      stepless x (inr w) = absurd w.1.it_meets

  module _ (first i last : List ℕ) where
    -- a verdict that is not 1 is that of the records
    from-records :
        (k : Verdict) → (malformed ≡ k → ⊥) →
        (query_verdict trees first i last ≡ k) ↔ ((good_lists first i last ≡ true) × (W (segment_in first i last) ≡ k))
    unfolding query_verdict
    from-records k n = (λ h. to (good_lists first i last) refl h, λ w. rw w.0 w.1)
      where
        to : (b : Bool) → good_lists first i last ≡ b → first_of (only b malformed) (W (segment_in first i last)) ≡ k → (good_lists first i last ≡ true) × (W (segment_in first i last) ≡ k)
        to false e h = absurd (n h)
        to true e h = (e, h)

    -- EXACTLY WHEN IT ANSWERS 3
    pub query_3 : (query_verdict trees first i last ≡ not_there) ↔ Refused3 (Lost trees) first i last
    query_3 =
        let f = from-records not_there (λ z. let y : ◌≡◌ {A = ℕ} 1 3 = ap verdict_no z in omega arith) in (
          λ h. let w = f.0 h in record { well_formed = w.0; met = (segment_3 (segment_in first i last)).0 w.1 },
          λ r. f.1 (r.well_formed, (segment_3 (segment_in first i last)).1 r.met),
        )

    -- EXACTLY WHEN IT ANSWERS 10
    pub query_10 : (query_verdict trees first i last ≡ no_rule) ↔ Refused10 (Lost trees) first i last
    query_10 =
        let f = from-records no_rule (λ z. let y : ◌≡◌ {A = ℕ} 1 10 = ap verdict_no z in omega arith) in (
          λ h. let w = f.0 h in record { well_formed = w.0; met = (segment_10 (segment_in first i last)).0 w.1 },
          λ r. f.1 (r.well_formed, (segment_10 (segment_in first i last)).1 r.met),
        )

    -- AND WHEN IT REFUSES NOTHING
    pub query_0 : (query_verdict trees first i last ≡ fine) ↔ Accepted (Lost trees) first i last
    query_0 =
        let f = from-records fine (λ z. let y : ◌≡◌ {A = ℕ} 1 0 = ap verdict_no z in omega arith) in (
          λ h. let w = f.0 h in record { well_formed = w.0; treed = (segment_0 (segment_in first i last)).0 w.1 },
          λ r. f.1 (r.well_formed, (segment_0 (segment_in first i last)).1 r.treed),
        )

-- ---- in other words

-- where the same references are not there
module _ (A B : Reference → Type 0) (same : (r : Reference) → A r ↔ B r) where
  treed_so : (r : Reference) → Treed A r → Treed B r
  treed_so r h w = h ((same r).1 w)

  record_so : (x : Step) → RecordRuled (Treed A) x → RecordRuled (Treed B) x
  record_so x h = (h.0, each_map (Treed A) (Treed B) treed_so (references_of x) h.1)

  pub refused_3_so : (first i last : List ℕ) → Refused3 A first i last → Refused3 B first i last
  refused_3_so first i last h = record { well_formed = h.well_formed; met = first_so record_so (λ x w. (w.0, first_so treed_so (λ r. (same r).0) w.1)) h.met }

  pub refused_10_so : (first i last : List ℕ) → Refused10 A first i last → Refused10 B first i last
  refused_10_so first i last h = record { well_formed = h.well_formed; met = first_so record_so (λ x n. n) h.met }

  pub accepted_so : (first i last : List ℕ) → Accepted A first i last → Accepted B first i last
  accepted_so first i last h = record { well_formed = h.well_formed; treed = each_map (RecordRuled (Treed A)) (RecordRuled (Treed B)) record_so (segment_in first i last) h.treed }
