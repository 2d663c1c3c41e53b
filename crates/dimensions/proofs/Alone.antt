-- A first list alone is a segment whose other lists are empty.
-- Assumes nothing.
use Rattle.std.specs.Prelude.{ℕ, ◌≡◌, refl, Bool, true, false, List, [], ◌∷◌, Result}
use Rattle.std.proofs.Common.{◌∙◌}
use Rattle.std.proofs.Math.Option.{none}
use Rattle.kinds.specs.Steps.{steps_bytes, steps-none, steps-bytes-none}
use Rattle.kinds.specs.declared.refusal.Refusal.{Refusal}
use Rattle.meaning.specs.Refusals as spec
use Rattle.meaning.specs.Refusals.{Answer, done, refused, ◌then◌}
use Rattle.lists.specs.Records.{records_in, good_records, good_list}
use Rattle.step_dimensions.specs.StepDimensions.{Given, unwritten}
use Rattle.dimensions.specs.Dimensions.{Passed, passed, passed_lists, good_lists, dimensions}
use Rattle.dimensions.specs.Answers.{DimensionedIs}

good-empty : good_list [] ≡ true
unfolding good_list good_records
good-empty = rw (steps-none [])

good-alone : (l : List ℕ) → good_lists (l ∷ [] ∷ [] ∷ []) ≡ good_lists (l ∷ [])
unfolding good_lists
good-alone l = rw good-empty

module _ (g : Given) where
  passed-empty : (ts : List ℕ) → passed g ts (records_in []) ≡ done (record { records = []; temporaries = ts })
  unfolding passed
  passed-empty ts = rw (steps-none [])

  module _ (l : List ℕ) where
    abbrev after : Answer Passed → List (List ℕ) → Answer (List (List ℕ))
    after P ls = P then λ p. done (steps_bytes p.records ∷ ls)

    passed-with : (ts : List ℕ) → passed_lists g ts (l ∷ [] ∷ [] ∷ []) ≡ after (passed g ts (records_in l)) ([] ∷ [] ∷ [])
    unfolding passed_lists
    passed-with ts = by (passed g ts (records_in l))
      where
        by : (P : Answer Passed)
            → (P then λ p. (passed g p.temporaries (records_in []) then λ q. (passed g q.temporaries (records_in []) then λ u. done (steps_bytes u.records ∷ [])) then λ ls. done (steps_bytes q.records ∷ ls)) then λ ls. done (steps_bytes p.records ∷ ls))
            ≡ after P ([] ∷ [] ∷ [])
        by (done p) = rw (passed-empty p.temporaries, passed-empty p.temporaries, steps-bytes-none)
        by (refused r n) = refl

    passed-alone : (ts : List ℕ) → passed_lists g ts (l ∷ []) ≡ after (passed g ts (records_in l)) []
    unfolding passed_lists
    passed-alone ts = by (passed g ts (records_in l))
      where
        by : (P : Answer Passed) → (P then λ p. done [] then λ ls. done (steps_bytes p.records ∷ ls)) ≡ after P []
        by (done p) = refl
        by (refused r n) = refl

    first-same : {a b c d e f : List ℕ} → ◌≡◌ {A = List (List ℕ)} (a ∷ b ∷ c ∷ []) (d ∷ e ∷ f ∷ []) → ◌≡◌ {A = List (List ℕ)} (a ∷ []) (d ∷ [])
    first-same e = cc

    pub alone : {l' i n : List ℕ} {r : Result Unit Refusal} → DimensionedIs g (l ∷ [] ∷ [] ∷ []) (l' ∷ i ∷ n ∷ []) r → DimensionedIs g (l ∷ []) (l' ∷ []) r
    unfolding dimensions
    alone {l'} {i} {n} {r} h = by (good_lists (l ∷ [])) (passed g unwritten (records_in l)) refl refl
      where
        by : (b : Bool) (P : Answer Passed) → good_lists (l ∷ []) ≡ b → passed g unwritten (records_in l) ≡ P → DimensionedIs g (l ∷ []) (l' ∷ []) r
        by false P e f =
            let w : dimensions g (l ∷ [] ∷ [] ∷ []) ≡ refused spec.Refusal.malformed none = rw (good-alone l, e) in
            record { says = h.says ∙ rw (w, e); lists = first-same (rw w at h.lists) ∙ rw e }
        by true (done p) e f =
            let w : dimensions g (l ∷ [] ∷ [] ∷ []) ≡ done (steps_bytes p.records ∷ [] ∷ [] ∷ []) = rw (good-alone l, e, passed-with unwritten, f) in
            record { says = h.says ∙ rw (w, e, passed-alone unwritten, f); lists = first-same (rw w at h.lists) ∙ rw (e, passed-alone unwritten, f) }
        by true (refused q k) e f =
            let w : dimensions g (l ∷ [] ∷ [] ∷ []) ≡ refused q k = rw (good-alone l, e, passed-with unwritten, f) in
            record { says = h.says ∙ rw (w, e, passed-alone unwritten, f); lists = first-same (rw w at h.lists) ∙ rw (e, passed-alone unwritten, f) }
