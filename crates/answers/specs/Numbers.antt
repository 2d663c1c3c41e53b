-- WHICH NUMBERS THE WAYS OF EACH EXPORTED FUNCTION LEAD TO.
-- Assumes nothing.
use Rattle.std.specs.Prelude.{ℕ, ◌≡◌, refl, Bool, true, false, ◌||◌, List, [], ◌∷◌, ◌⊎◌, eqb}
use Rattle.std.proofs.Common.{sym, ◌∙◌, ap, subst, inl, inr}
use Rattle.meaning.specs.Refusals.{Refusal, number, answer_no}
use Rattle.meaning.specs.Trees.{Acyclic}
use Rattle.meaning.proofs.Laws.Tests.{number-not-zero}
use Rattle.kinds.specs.declared.reference.Reference.{Reference}
use Rattle.kinds.specs.declared.step.Step.{Step}
use Rattle.frames.specs.Order.{Input}
use Rattle.frames.specs.Reading.{reading}
use Rattle.frames.specs.Exactly as frames
use Rattle.pool.specs.Pool.{Pool}
use Rattle.pool.specs.Trees.{forest}
use Rattle.pool.specs.Numbered.{pool_of}
use Rattle.codegen.specs.Building.{Lists}
use Rattle.codegen.specs.declared.asked.Wanted.{Wanted}
use Rattle.planning.specs.Planning.{Planned}
use Rattle.planning.specs.Ways as plan
use Rattle.step_dimensions.specs.StepDimensions.{Given, noted}
use Rattle.dimensions.specs.Conditions.{SourceRefused, SourcesRefused, StepRefused, StepsRefused}
use Rattle.search_meaning.proofs.SearchCases.{Row}
use Rattle.records.specs.declared.PolType.{PolType}
use Rattle.constraint_frames.specs.Extension.{Question}
use Rattle.search_meaning.specs.Search.{Choice}
use Rattle.constraint_build.specs.Both.{Lent}
use Rattle.constraint_choice.specs.declared.answer.Before.{Before}
use Rattle.answers.specs.PolynomialWays.{Listed, Chosen, Generated, ConstraintRead}
use Rattle.answers.specs.ConstraintWays.{MarkWay, CloseWay, Extended, ExtendRead}
use Rattle.answers.specs.Ways.{OfFrames, OfPool, OfPlan, FreshWay, Served, ServeRead, Built, BuildRead, Ran, Evaluated, EvaluateRead, Mapped, Fixed, Queried, Dimensioned, SectionWay}

-- ── the numbers ──────────────────────────────────────────────────────────────
-- n is one of these
abbrev pub among : ℕ → List ℕ → Bool
among n [] = false
among n (x ∷ xs) = eqb n x || among n xs

-- those that each function gives
abbrev pub fresh_numbers : List ℕ
fresh_numbers = 0 ∷ 1 ∷ []

abbrev pub serve_numbers : List ℕ
serve_numbers = 0 ∷ 1 ∷ 2 ∷ 3 ∷ 4 ∷ 5 ∷ 7 ∷ 8 ∷ 9 ∷ []

abbrev pub build_numbers : List ℕ
build_numbers = 0 ∷ 1 ∷ 2 ∷ 3 ∷ 4 ∷ 9 ∷ []

abbrev pub run_numbers : List ℕ
run_numbers = 0 ∷ 1 ∷ 2 ∷ 3 ∷ 4 ∷ 5 ∷ 9 ∷ []

abbrev pub evaluate_numbers : List ℕ
evaluate_numbers = 0 ∷ 1 ∷ 2 ∷ 3 ∷ 4 ∷ 9 ∷ 10 ∷ []

abbrev pub map_numbers : List ℕ
map_numbers = 0 ∷ 1 ∷ 2 ∷ 3 ∷ 4 ∷ 9 ∷ 11 ∷ 12 ∷ 16 ∷ []

abbrev pub search_numbers : List ℕ
search_numbers = 0 ∷ 1 ∷ 2 ∷ 3 ∷ 4 ∷ 6 ∷ 9 ∷ 13 ∷ 14 ∷ 15 ∷ 16 ∷ 17 ∷ []

abbrev pub mark_numbers : List ℕ
mark_numbers = 0 ∷ 1 ∷ 3 ∷ 9 ∷ []

abbrev pub close_numbers : List ℕ
close_numbers = 0 ∷ 1 ∷ 8 ∷ 9 ∷ []

abbrev pub extend_numbers : List ℕ
extend_numbers = 0 ∷ 1 ∷ 2 ∷ 3 ∷ 4 ∷ 9 ∷ 11 ∷ 17 ∷ []

abbrev pub constraint_numbers : List ℕ
constraint_numbers = 0 ∷ 1 ∷ 2 ∷ 3 ∷ 4 ∷ 5 ∷ 6 ∷ 9 ∷ 11 ∷ 13 ∷ 14 ∷ 15 ∷ 16 ∷ 17 ∷ []

abbrev pub section_numbers : List ℕ
section_numbers = 0 ∷ 1 ∷ 9 ∷ []

-- of any walk by a plan
abbrev pub walk_numbers : List ℕ
walk_numbers = 0 ∷ 1 ∷ 2 ∷ 3 ∷ 4 ∷ 9 ∷ 10 ∷ 11 ∷ 12 ∷ 16 ∷ []

-- ── the ways ─────────────────────────────────────────────────────────────────
module _ (ns : List ℕ) where
  abbrev Has : ℕ → Type 0
  Has k = among k ns ≡ true

  pub frames-has : (s : List ℕ) (C : Input → ℕ → Type 0) → Has 1 → Has 9 → ((i : Input) (k : ℕ) → C i k → Has k) → (k : ℕ) → OfFrames s C k → Has k
  frames-has s C one nine f k (OfFrames.malformed w) = one
  frames-has s C one nine f k (OfFrames.past w) = nine
  frames-has s C one nine f k (OfFrames.read i e c) = f i k c

  pub pool-has : (p : Pool) (C : Acyclic (forest p) → ℕ → Type 0) → Has 2 → Has 3 → Has 4 → ((a : Acyclic (forest p)) (k : ℕ) → C a k → Has k) → (k : ℕ) → OfPool p C k → Has k
  pool-has p C two three four f k (OfPool.child_count w) = two
  pool-has p C two three four f k (OfPool.lost w x) = three
  pool-has p C two three four f k (OfPool.cycle w x y) = four
  pool-has p C two three four f k (OfPool.admitted s a c) = f a k c

  -- the numbers of every plan
  pub record Planning : Type 0 where
    pub has0 : Has 0
    pub has1 : Has 1
    pub has2 : Has 2
    pub has3 : Has 3
    pub has4 : Has 4
    pub has9 : Has 9
    pub has11 : Has 11
    pub has12 : Has 12
    pub has16 : Has 16

  -- reading gives 1 and 9
  pub unread-has : Planning → (s : List ℕ) (k : Refusal) → answer_no (reading s) ≡ number k → Has (number k)
  unread-has p s k e = go (frames.no_other s)
    where
      go : (answer_no (reading s) ≡ 0) ⊎ ((answer_no (reading s) ≡ 1) ⊎ (answer_no (reading s) ≡ 9)) → Has (number k)
      go (inl z) = absurd (number-not-zero k (sym e ∙ z))
      go (inr (inl z)) = subst Has (sym z ∙ e) p.has1
      go (inr (inr z)) = subst Has (sym z ∙ e) p.has9

  pub unplanned-has : Planning → (s b : List ℕ) (own : Bool) (k : ℕ) → plan.Way b own (reading s) k → Has k
  unplanned-has p s b own n (plan.Way.unread k o e) = unread-has p s k (ap answer_no e)
  unplanned-has p s b own n (plan.Way.no_plan i e q) = p.has1
  unplanned-has p s b own n (plan.Way.too_many i e q r) = p.has9
  unplanned-has p s b own n (plan.Way.ill_formed i e q r t) = p.has1
  unplanned-has p s b own n (plan.Way.child_count i e w q) = p.has2
  unplanned-has p s b own n (plan.Way.lost i e w m q) = p.has3
  unplanned-has p s b own n (plan.Way.cycle i e w t m c) = p.has4
  unplanned-has p s b own n (plan.Way.bits i e w d q) = p.has16
  unplanned-has p s b own n (plan.Way.counts i e w d m q) = p.has11
  unplanned-has p s b own n (plan.Way.undimensioned i e w d m k q) = p.has12
  unplanned-has p s b own n (plan.Way.planned i e w d m k q) = p.has0

  pub plan-has : Planning → (s b : List ℕ) (own : Bool) (C : Planned → ℕ → Type 0) → ((z : Planned) (k : ℕ) → C z k → Has k) → (k : ℕ) → OfPlan s b own C k → Has k
  plan-has p s b own C f k (OfPlan.unplanned n w) = unplanned-has p s b own k w
  plan-has p s b own C f k (OfPlan.planned z q c) = f z k c

pub served-has : (w : Wanted) (x l : List ℕ) (i : Input) (a : Acyclic (forest (pool_of i))) (k : ℕ) → Served w x l i a k → among k serve_numbers ≡ true
served-has w x l i a k (Served.lost c) = refl
served-has w x l i a k (Served.double_prime c) = refl
served-has w x l i a k (Served.no_primed_mark c) = refl
served-has w x l i a k (Served.no_block c) = refl
served-has w x l i a k (Served.full st e c) = refl
served-has w x l i a k (Served.served st e c) = refl

pub serve-has : (w : Wanted) (x l : List ℕ) (i : Input) (k : ℕ) → ServeRead w x l i k → among k serve_numbers ≡ true
serve-has w x l i k (ServeRead.bad_result p) = refl
serve-has w x l i k (ServeRead.bad_context p n) = refl
serve-has w x l i k (ServeRead.good p g c) = pool-has serve_numbers (pool_of i) (Served w x l i) refl refl refl (served-has w x l i) k c

pub built-has : (x l : List ℕ) (o : Lists) (i : Input) (k : ℕ) → Built x l o i k → among k build_numbers ≡ true
built-has x l o i k (Built.full n) = refl
built-has x l o i k (Built.built n) = refl

pub build-has : (x l : List ℕ) (o : Lists) (i : Input) (k : ℕ) → BuildRead x l o i k → among k build_numbers ≡ true
build-has x l o i k (BuildRead.bad_context n) = refl
build-has x l o i k (BuildRead.good g c) = pool-has build_numbers (pool_of i) (λ a. Built x l o i) refl refl refl (λ a. built-has x l o i) k c

pub ran-has : (room : ℕ) (i : Input) (k : ℕ) → Ran room i k → among k run_numbers ≡ true
ran-has room i k (Ran.lost c) = refl
ran-has room i k (Ran.double_prime c) = refl
ran-has room i k (Ran.full g e n) = refl
ran-has room i k (Ran.ran g e f) = refl

pub evaluated-has : (list : List ℕ) (m : ℕ) (ws : List ℕ) (room : ℕ) (i : Input) (k : ℕ) → Evaluated list m ws room i k → among k evaluate_numbers ≡ true
evaluated-has list m ws room i k (Evaluated.no_rule c) = refl
evaluated-has list m ws room i k (Evaluated.full c) = refl
evaluated-has list m ws room i k (Evaluated.answered c) = refl

pub evaluate-has : (list : List ℕ) (m : ℕ) (ws : List ℕ) (room : ℕ) (i : Input) (k : ℕ) → EvaluateRead list m ws room i k → among k evaluate_numbers ≡ true
evaluate-has list m ws room i k (EvaluateRead.ill_formed c) = refl
evaluate-has list m ws room i k (EvaluateRead.formed f c) =
    pool-has evaluate_numbers (pool_of i) (λ a. Evaluated list m ws room i) refl refl refl (λ a. evaluated-has list m ws room i) k c

pub mapped-has : (b : List ℕ) (room : ℕ) (z : Planned) (k : ℕ) → Mapped b room z k → among k map_numbers ≡ true
mapped-has b room z k (Mapped.full l) = refl
mapped-has b room z k (Mapped.fits l) = refl

pub fixed_has : (b : List ℕ) (domain counter : ℕ) (first i last : List ℕ) (z : Planned) (k : ℕ) → Fixed b domain counter first i last z k → among k walk_numbers ≡ true
fixed_has b domain counter first i last z k (Fixed.no_rule c) = refl
fixed_has b domain counter first i last z k (Fixed.not_there c) = refl
fixed_has b domain counter first i last z k (Fixed.full c) = refl
fixed_has b domain counter first i last z k (Fixed.fixed c) = refl

pub queried-has : (b first i last : List ℕ) (z : Planned) (k : ℕ) → Queried b first i last z k → among k walk_numbers ≡ true
queried-has b first i last z k (Queried.not_there c) = refl
queried-has b first i last z k (Queried.no_rule c) = refl
queried-has b first i last z k (Queried.queried c) = refl

-- a step of a dimension pass is refused with 3, 10 or 12
module _ (g : Given) where
  pub source-has : (ts : List ℕ) (r : Reference) (w : Refusal) → SourceRefused g ts r w → among (number w) walk_numbers ≡ true
  source-has ts r w (SourceRefused.no_rule e) = refl
  source-has ts r w (SourceRefused.not_written e z) = refl
  source-has ts r w (SourceRefused.no_column e c) = refl
  source-has ts r w (SourceRefused.no_quotient e c) = refl
  source-has ts r w (SourceRefused.own_zero e z) = refl
  source-has ts r w (SourceRefused.x_zero e z) = refl
  source-has ts r w (SourceRefused.column_zero e c) = refl
  source-has ts r w (SourceRefused.quotient_zero e c) = refl

  pub sources-has : (ts : List ℕ) (w : Refusal) (rs : List Reference) → SourcesRefused g ts w rs → among (number w) walk_numbers ≡ true
  sources-has ts w [] x' = elim x' [ ]
  sources-has ts w (r ∷ rs) (SourcesRefused.this c) = source-has ts r w c
  sources-has ts w (r ∷ rs) (SourcesRefused.next d e c) = sources-has ts w rs c

  pub step-has : (ts : List ℕ) (s : Step) (w : Refusal) → StepRefused g ts s w → among (number w) walk_numbers ≡ true
  step-has ts s w (StepRefused.no_step e) = refl
  step-has ts s w (StepRefused.a_source e c) = sources-has ts w _ c
  step-has ts s w (StepRefused.no_destination e ds z q) = refl

  pub steps-has : (w : Refusal) (ts : List ℕ) (ss : List Step) → StepsRefused g w ts ss → among (number w) walk_numbers ≡ true
  steps-has w ts [] x' = elim x' [ ]
  steps-has w ts (s ∷ ss) (StepsRefused.this c) = step-has ts s w c
  steps-has w ts (s ∷ ss) (StepsRefused.next s' e c) = steps-has w (noted ts s') ss c

pub dimensioned_has : (d : ℕ) (ls : List (List ℕ)) (b : List ℕ) (z : Planned) (k : ℕ) → Dimensioned d ls b z k → among k walk_numbers ≡ true
dimensioned_has d ls b z k (Dimensioned.met w c) = steps-has _ w _ _ c
dimensioned_has d ls b z k (Dimensioned.sized n) = refl

pub row_has : (i : Input) (a : Acyclic (forest (pool_of i))) (es : List ℕ) (vc b e limit k : ℕ) → Row (forest (pool_of i)) a es vc b e limit k → among k search_numbers ≡ true
row_has i a es vc b e limit k (Row.no_identity q h) = rw q
row_has i a es vc b e limit k (Row.bits q s h) = rw q
row_has i a es vc b e limit k (Row.not_there q s r h) = rw q
row_has i a es vc b e limit k (Row.over_limit q r l) = rw q
row_has i a es vc b e limit k (Row.bad_kind q n v h) = rw q
row_has i a es vc b e limit k (Row.no_set q n h) = rw q
row_has i a es vc b e limit k (Row.no_quotient q n r t h z) = rw q
row_has i a es vc b e limit k (Row.chosen q n r t h z) = rw q

pub mark-has : (es : List ℕ) (m : ℕ) (x l : List ℕ) (k : ℕ) → MarkWay es m x l k → among k mark_numbers ≡ true
mark-has es m x l k (MarkWay.full f) = refl
mark-has es m x l k (MarkWay.bad_context f g) = refl
mark-has es m x l k (MarkWay.lost f g d) = refl
mark-has es m x l k (MarkWay.marked f g d) = refl

pub close-has : (m : ℕ) (x l : List ℕ) (k : ℕ) → CloseWay m x l k → among k close_numbers ≡ true
close-has m x l k (CloseWay.past f) = refl
close-has m x l k (CloseWay.bad_context f g) = refl
close-has m x l k (CloseWay.no_block f g b) = refl
close-has m x l k (CloseWay.full f g b r) = refl
close-has m x l k (CloseWay.closed f g b r) = refl

extended-has : (q : Question) (room : ℕ) (i : Input) (k : ℕ) → Extended q room i k → among k extend_numbers ≡ true
extended-has q room i k (Extended.no_identity e) = refl
extended-has q room i k (Extended.lost s r) = refl
extended-has q room i k (Extended.past o w) = refl
extended-has q room i k (Extended.counts o w l) = refl
extended-has q room i k (Extended.full o w l r) = refl
extended-has q room i k (Extended.extended o w l r) = refl

pub extend-has : (w : List ℕ) (q : Question) (room : ℕ) (i : Input) (k : ℕ) → ExtendRead w q room i k → among k extend_numbers ≡ true
extend-has w q room i k (ExtendRead.bad_set e) = refl
extend-has w q room i k (ExtendRead.good_set e c) = pool-has extend_numbers (pool_of i) (λ a. Extended q room i) refl refl refl (λ a. extended-has q room i) k c

module _ (ids : List ℕ) (vc b e limit : ℕ) (c : Before) (u v : Lent) (room : ℕ) (i : Input) where
  listed_has : (x : Choice) (k : ℕ) → Listed ids vc b e limit c u v room i x k → among k constraint_numbers ≡ true
  listed_has x k (Listed.member d) = refl
  listed_has x k (Listed.constraint s p d) = refl
  listed_has x k (Listed.full s t p q r) = refl
  listed_has x k (Listed.made s t p q r) = refl

  chosen-has : (x : Choice) (k : ℕ) → Chosen ids vc b e limit c u v room i x k → among k constraint_numbers ≡ true
  chosen-has x k (Chosen.past h) = refl
  chosen-has x k (Chosen.counts h l) = refl
  chosen-has x k (Chosen.kept h l w) = listed_has x k w

  searched-has : (a : Acyclic (forest (pool_of i))) (k : ℕ) → Row (forest (pool_of i)) a ids vc b e limit k → among k constraint_numbers ≡ true
  searched-has a k (Row.no_identity q h) = rw q
  searched-has a k (Row.bits q s h) = rw q
  searched-has a k (Row.not_there q s r h) = rw q
  searched-has a k (Row.over_limit q r l) = rw q
  searched-has a k (Row.bad_kind q n w h) = rw q
  searched-has a k (Row.no_set q n h) = rw q
  searched-has a k (Row.no_quotient q n r t h z) = rw q
  searched-has a k (Row.chosen q n r t h z) = rw q

  generated-has : (a : Acyclic (forest (pool_of i))) (k : ℕ) → Generated ids vc b e limit c u v room i a k → among k constraint_numbers ≡ true
  generated-has a k (Generated.unchosen z r) = searched-has a k r
  generated-has a k (Generated.chosen x q w) = chosen-has x k w

  pub constraint-has : (k : ℕ) → ConstraintRead ids vc b e limit c u v room i k → among k constraint_numbers ≡ true
  constraint-has k (ConstraintRead.bad_context n) = refl
  constraint-has k (ConstraintRead.bad_second g n) = refl
  constraint-has k (ConstraintRead.good g h w) = pool-has constraint_numbers (pool_of i) (Generated ids vc b e limit c u v room i) refl refl refl generated-has k w

pub section-has : (rs : List PolType) (a b c room k : ℕ) → SectionWay rs a b c room k → among k section_numbers ≡ true
section-has rs a b c room k (SectionWay.malformed h) = refl
section-has rs a b c room k (SectionWay.full e f l) = refl
section-has rs a b c room k (SectionWay.mapped e f l) = refl

pub fresh-has : (x : List ℕ) (k : ℕ) → FreshWay x k → among k fresh_numbers ≡ true
fresh-has x k (FreshWay.sized e) = refl
fresh-has x k (FreshWay.malformed e) = refl

pub walks-plan : Planning walk_numbers
walks-plan = record { has0 = refl; has1 = refl; has2 = refl; has3 = refl; has4 = refl; has9 = refl; has11 = refl; has12 = refl; has16 = refl }

pub maps-plan : Planning map_numbers
maps-plan = record { has0 = refl; has1 = refl; has2 = refl; has3 = refl; has4 = refl; has9 = refl; has11 = refl; has12 = refl; has16 = refl }
