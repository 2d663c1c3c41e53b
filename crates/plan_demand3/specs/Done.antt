-- WHAT A CALL OF fix THAT IS DONE HAS DONE: the record is a plan that fits, and the lists are those of fix_prover_code, which refuses nothing, by the plan's own rules.
-- Assumes nothing.
use Rattle.std.specs.Prelude.{ℕ, ◌≤◌, ◌≡◌, refl, Bool, true, List, [], ◌∷◌}
use Rattle.std.proofs.Common.{sym, ◌∙◌, ap, subst}
use Rattle.meaning.specs.Refusals.{Answer, done}
use Rattle.meaning.proofs.Laws.Tests.{then-done, done-same, done-not-refused}
use Rattle.frames.specs.Order.{Input}
use Rattle.frames.specs.Reading.{reading}
use Rattle.pool.specs.Pool.{Pool}
use Rattle.pool.specs.Numbered.{pool_of}
use Rattle.plans.specs.Columns.{record_limit, record_count, fits}
use Rattle.plans.specs.Passed.{few-records}
use Rattle.map_records.specs.Mapping.{mapped}
use Rattle.lent_lists.specs.Verdicts.{Verdict, fine, malformed, not_there, no_rule, full}
use Rattle.fixing.specs.ProverCode.{temporaries, prover_verdict, list_after}
use Rattle.planning.specs.Planning.{Planned, planned, Plans}
use Rattle.plan_walks.specs.Walks.{Walk, good_segment, Walked, ruled, walk_says, lists_after}
use Rattle.plan_walks.specs.Cms.{cms_of}
use Rattle.plan_walks.specs.Fix.{is_n, rules_in, fix_with, fix_by, FixIs}
use Rattle.plan_exactly.specs.Known.{known}

-- ---- a plan that is answered

planned_so :
    (b : List ℕ) (own : Bool) (x : Answer Input) (i : Input) (z : Planned) → Plans b own x (done z) → x ≡ done i →
    (fits b ≡ true) × (planned (pool_of i) (mapped b (pool_of i)) ≡ z)
planned_so b own x i z h q =
    let k = known b own x z h in
    let e : i ≡ k.input = done-same i k.input (sym q ∙ k.read) in
    (k.fitting, ap (λ (j : Input). planned (pool_of j) (mapped b (pool_of j))) e ∙ sym k.is)

-- ---- fixing that is done

pub record Fixes (rules cms : List ℕ) (counter : ℕ) (first i last first' i' last' : List ℕ) (n : ℕ) : Type 0 where
  pub accepts : prover_verdict rules cms counter first i last ≡ fine
  pub first_is : first' ≡ list_after rules cms counter first i last first
  pub i_is : i' ≡ list_after rules cms counter first i last i
  pub last_is : last' ≡ list_after rules cms counter first i last last
  pub counter_is : n ≡ (temporaries rules counter first i last).next

ruled-done : {A : Type 0} (v : Verdict) (a c : A) → ruled v a ≡ done c → (v ≡ fine) × (a ≡ c)
ruled-done fine a c h = (refl, done-same a c h)
ruled-done malformed a c h = absurd (done-not-refused (sym h))
ruled-done not_there a c h = absurd (done-not-refused (sym h))
ruled-done no_rule a c h = absurd (done-not-refused (sym h))
ruled-done full a c h = absurd (done-not-refused (sym h))

three-same : (a b c a' b' c' : List ℕ) → ◌≡◌ {A = List (List ℕ)} (a ∷ b ∷ c ∷ []) (a' ∷ b' ∷ c' ∷ []) → (a ≡ a') × (b ≡ b') × (c ≡ c')
three-same a b c a' b' c' h = (cc, cc, cc)

fixes_so :
    (rules cms : List ℕ) (counter : ℕ) (first i last first' i' last' : List ℕ) (n : ℕ) (w : Walked) → fix_with counter first i last rules cms ≡ done w → w.counter ≡ n →
    ◌≡◌ {A = List (List ℕ)} (first' ∷ i' ∷ last' ∷ []) w.lists → Fixes rules cms counter first i last first' i' last' n
unfolding fix_with
fixes_so rules cms counter first i last first' i' last' n w h e l =
    let after : List ℕ → List ℕ = list_after rules cms counter first i last in
    let d = ruled-done (prover_verdict rules cms counter first i last) _ w h in
    let s = three-same first' i' last' (after first) (after i) (after last) (l ∙ sym (ap (λ (y : Walked). y.lists) d.1)) in
    record { accepts = d.0; first_is = s.0; i_is = s.1; last_is = s.2; counter_is = sym e ∙ sym (ap (λ (y : Walked). y.counter) d.1) }

-- ── a call ───────────────────────────────────────────────────────────────────
pub record Called (b : List ℕ) (p : Pool) (domain counter : ℕ) (first i last first' i' last' : List ℕ) (n : ℕ) : Type 0 where
  pub few : record_count b ≤ record_limit
  pub fixes : Fixes (rules_in (is_n domain) b (planned p (mapped b p))) (cms_of (is_n domain) (mapped b p).sections) counter first i last first' i' last' n

module _ (s b : List ℕ) (domain counter : ℕ) (first i last first' i' last' : List ℕ) (r : Walk) (n : ℕ) where
  pub call_done : (x : Input) → reading s ≡ done x → FixIs s b domain counter first i last first' i' last' r → walk_says r ≡ done n → Called b (pool_of x) domain counter first i last first' i' last' n
  call_done x read h said =
      let own : Bool = good_segment domain counter first i last in
      let w = then-done h.answer _ (sym h.does.says ∙ said) in
      let z = then-done h.goes.0 (fix_by counter first i last (is_n domain) b) (sym h.goes.2 ∙ w.1) in
      let q = planned_so b own (reading s) x z.0 (subst (Plans b own (reading s)) z.1 h.goes.1) read in
      let f : fix_by counter first i last (is_n domain) b (planned (pool_of x) (mapped b (pool_of x))) ≡ done w.0 = ap (fix_by counter first i last (is_n domain) b) q.1 ∙ z.2 in
      record {
        few = few-records b q.0;
        fixes =
            fixes_so (rules_in (is_n domain) b (planned (pool_of x) (mapped b (pool_of x)))) (cms_of (is_n domain) (mapped b (pool_of x)).sections) counter first i last first' i' last' n w.0 f
            (done-same w.0.counter n w.2)
            (h.does.lists ∙ ap (lists_after (first ∷ i ∷ last ∷ [])) w.1);
      }
