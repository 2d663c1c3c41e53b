-- DEMAND 1: every call is answered with 0 or with one of document 01's seventeen numbers; and a number other than 0 means that every lent buffer is what it was.
-- Assumes nothing.
use Rattle.std.specs.Prelude.{ℕ, ◌≤◌, ◌≡◌, refl, Bool, true, false, cond, List, [], ◌∷◌, ◌⊎◌, length, eqb}
use Rattle.std.proofs.Common.{◌∙◌, ap, subst, inl, inr, arith}
use Rattle.std.proofs.Math.Option.{Option}
use Rattle.meaning.specs.Refusals.{Refusal, number, Answer, done, refused, answer_no, ◌then◌}
use Rattle.meaning.specs.Building.{Segment}
use Rattle.frames.specs.Reading.{reading}
use Rattle.requests.specs.Whole.{totals, list_after}
use Rattle.builds.specs.Raw.{RawSegment}
use Rattle.context.specs.Context.{context_size}
use Rattle.context.specs.Tables.{fresh_bytes}
use Rattle.codegen.specs.Said.{Said}
use Rattle.codegen.specs.Written.{Stands}
use Rattle.codegen.specs.Building.{Lists, StandsBuilt, sizes, forest_read}
use Rattle.codegen.specs.declared.asked.Wanted.{Wanted}
use Rattle.evaluator_run.specs.Evaluation.{Valued, out_after}
use Rattle.planning.specs.Planning.{Planned}
use Rattle.plan_map.specs.Whole as map
use Rattle.plan_walks.specs.Walks.{Walked, lists_after}
use Rattle.search_meaning.specs.Search.{Choice}
use Rattle.sections.specs.Answer.{positions_after, widths_after}
use Rattle.degree_search.specs.Choosing.{SetAfter}
use Rattle.records.specs.Records.{RecordsMapped, records_mapping, records_after, column_after, sections_of, dims_of}
use Rattle.records.specs.declared.PolType.{PolType}
use Rattle.host.specs.Numbered.{FreshNumbered, ServeNumbered, BuildNumbered, EvaluateNumbered, sizes_told, cells_told}
use Rattle.host.specs.Runs.{RunNumbered, totals_told}
use Rattle.host.specs.Maps.{MapNumbered}
use Rattle.host.specs.Plans.{WalkNumbered, WalkCounted, QueryNumbered, DimensionNumbered, FirstNumbered}
use Rattle.host.specs.Searches.{SearchNumbered, choice_told}
use Rattle.constraint_pool.specs.declared.judge.Columns.{Columns}
use Rattle.constraint_pieces.specs.Marking.{StandsMarked}
use Rattle.constraint_frames.specs.Extension.{Extension, room_after}
use Rattle.constraint_host.specs.Numbered.{MarkNumbered, CloseNumbered, PoolNumbered, numbers_told}
use Rattle.constraint_meaning.specs.Constraint.{Asked}
use Rattle.constraint_build.specs.Both.{Lent}
use Rattle.starkinfo_cp_prover.specs.Polynomial as polynomial
use Rattle.starkinfo_cp_prover.specs.Polynomial.{Polynomial, told_of}
use Rattle.constraint_host.specs.Whole as whole
use Rattle.constraint_host.specs.Whole.{ConstraintNumbered, found_told}
use Rattle.promises.specs.OneList.{nth_of}

-- 0, or the number of a refusal
abbrev pub Answered : ℕ → Type 0
Answered n = (n ≡ 0) ⊎ ((k : Refusal) × (n ≡ number k))

-- there are seventeen
pub at-most_17 : {n : ℕ} → Answered n → n ≤ 17
at-most_17 (inl e) = omega arith
at-most_17 (inr (k, e)) = omega (arith, e, below k)
  where
    below : (k : Refusal) → number k ≤ 17
    below Refusal.malformed = omega arith
    below Refusal.child_count = omega arith
    below Refusal.not_there = omega arith
    below Refusal.cycle = omega arith
    below Refusal.double_prime = omega arith
    below Refusal.search_kind = omega arith
    below Refusal.no_primed_mark = omega arith
    below Refusal.no_block = omega arith
    below Refusal.full = omega arith
    below Refusal.no_rule = omega arith
    below Refusal.counts = omega arith
    below Refusal.no_dimension = omega arith
    below Refusal.no_set = omega arith
    below Refusal.no_quotient = omega arith
    below Refusal.visits = omega arith
    below Refusal.bits = omega arith
    below Refusal.no_identity = omega arith

-- ── of any answer ────────────────────────────────────────────────────────────
numbered : {A : Type 0} {n : ℕ} (a : Answer A) → n ≡ answer_no a → Answered n
numbered (done x) e = inl e
numbered (refused k o) e = inr (k, e)

-- a number other than 0 is that of a refusal
is-refused : {A : Type 0} {n : ℕ} (a : Answer A) → n ≡ answer_no a → (n ≡ 0 → ⊥) → (k : Refusal) × (o : Option ℕ) × (a ≡ refused k o)
is-refused (done x) e h = absurd (h e)
is-refused (refused k o) e h = (k, o, refl)

-- ── generation ───────────────────────────────────────────────────────────────
module _ {x x' : List ℕ} {n : ℕ} (h : FreshNumbered x x' n) where
  by_size : {A : Type 0} → ((b : Bool) → n ≡ cond b 0 1 → x' ≡ cond b (fresh_bytes context_size) x → A) → A
  by_size f = f (eqb (length x) context_size) h.number h.bytes

  -- enonkasse_fresh: 0 or 1
  pub answered-fresh : Answered n
  answered-fresh = by_size go
    where
      go : (b : Bool) → n ≡ cond b 0 1 → x' ≡ cond b (fresh_bytes context_size) x → Answered n
      go true e f = inl e
      go false e f = inr (Refusal.malformed, e)

  -- refused, the context is what it was
  pub unchanged-fresh : (n ≡ 0 → ⊥) → x' ≡ x
  unchanged-fresh z = by_size go
    where
      go : (b : Bool) → n ≡ cond b 0 1 → x' ≡ cond b (fresh_bytes context_size) x → x' ≡ x
      go true e f = absurd (z e)
      go false e f = f

module _ (s : List ℕ) (w : Wanted) (x l : List ℕ) {x' l' : List ℕ} {n : ℕ} (h : ServeNumbered s w x x' l l' n) where
  -- enonkasse_serve
  pub answered-serve : Answered n
  answered-serve = numbered h.0 h.2

  -- refused, the context and the list are what they were
  pub unchanged-serve : (n ≡ 0 → ⊥) → (x' ≡ x) × (l' ≡ l)
  unchanged-serve z = let r = is-refused h.0 h.2 z in subst (λ (a : Answer Said). Stands a x l x' l') r.2 h.3

module _ (s x l : List ℕ) (o : Lists) (z : List ℕ) {x' : List ℕ} {o' : Lists} {z' : List ℕ} {n : ℕ} (h : BuildNumbered s x x' l o o' z z' n) where
  -- enonkasse_build
  pub answered-build : Answered n
  answered-build = numbered h.0 h.2

  -- refused, the context, the three lists and the sizes are what they were
  pub unchanged-build : (n ≡ 0 → ⊥) → (x' ≡ x) × (o' ≡ o) × (z' ≡ z)
  unchanged-build y =
      let r = is-refused h.0 h.2 y in
      let c : (x' ≡ x) × (o' ≡ o) = subst (λ (a : Answer RawSegment). StandsBuilt (forest_read (reading s)) a x l o x' o') r.2 h.3 in
      (c.0, c.1, h.4 ∙ ap (λ (a : Answer RawSegment). sizes_told (a then λ u. done (sizes u)) z) r.2)

module _ (s l z : List ℕ) {l' z' : List ℕ} {n : ℕ} (h : RunNumbered s l l' z z' n) where
  -- enonkasse_run
  pub answered-run : Answered n
  answered-run = numbered h.0 h.2

  -- refused, the list and the totals are what they were
  pub unchanged-run : (n ≡ 0 → ⊥) → (l' ≡ l) × (z' ≡ z)
  unchanged-run y =
      let r = is-refused h.0 h.2 y in
      (h.3 ∙ ap (list_after l) r.2, h.4 ∙ ap (λ (a : Answer Segment). totals_told (a then λ u. done (totals u)) z) r.2)

-- ── the evaluator ────────────────────────────────────────────────────────────
module _ (s list : List ℕ) (m : ℕ) (ws o z : List ℕ) {o' z' : List ℕ} {n : ℕ} (h : EvaluateNumbered s list m ws o o' z z' n) where
  -- enonkasse_evaluate
  pub answered-evaluate : Answered n
  answered-evaluate = numbered h.0 h.2

  -- refused, the room and the count are what they were
  pub unchanged-evaluate : (n ≡ 0 → ⊥) → (o' ≡ o) × (z' ≡ z)
  unchanged-evaluate y =
      let r = is-refused h.0 h.2 y in
      (h.3 ∙ ap (out_after o) r.2, h.4 ∙ ap (λ (a : Answer (List Valued)). cells_told (a then λ vs. done (length vs)) z) r.2)

-- ── plans ────────────────────────────────────────────────────────────────────
module _ (s b o z : List ℕ) {o' z' : List ℕ} {n : ℕ} (h : MapNumbered s b o o' z z' n) where
  -- enonkasse_map
  pub answered-map : Answered n
  answered-map = numbered h.0 h.2

  -- refused, the room and the size are what they were
  pub unchanged-map : (n ≡ 0 → ⊥) → (o' ≡ o) × (z' ≡ z)
  unchanged-map y =
      let r = is-refused h.0 h.2 y in
      (h.3 ∙ ap (map.out_after o) r.2, h.4 ∙ ap (λ (a : Answer (List ℕ)). cells_told (a then λ bytes. done (length bytes)) z) r.2)

unchanged-walk :
    (s b : List ℕ) (own : Bool) (what : Planned → Answer Walked) (ls : List (List ℕ)) {ls' : List (List ℕ)} {n : ℕ} →
    WalkNumbered s b own what ls ls' n → (n ≡ 0 → ⊥) → ls' ≡ ls
unchanged-walk s b own what ls h y = let r = is-refused h.0 h.2 y in h.3 ∙ ap (lists_after ls) r.2

module _ (s b : List ℕ) (domain : ℕ) (z first i last : List ℕ) {z' first' i' last' : List ℕ} {n : ℕ} (h : WalkCounted s b domain z z' first i last first' i' last' n) where
  -- enonkasse_fix
  pub answered-fix : Answered n
  answered-fix = numbered h.0 h.2

  -- refused, the counter and the three lists are what they were
  pub unchanged-fix : (n ≡ 0 → ⊥) → (z' ≡ z) × (first' ≡ first) × (i' ≡ i) × (last' ≡ last)
  unchanged-fix y =
      let r = is-refused h.0 h.2 y in
      let ls = h.3 ∙ ap (lists_after (first ∷ i ∷ last ∷ [])) r.2 in
      (h.4 ∙ ap (λ (a : Answer Walked). cells_told (a then λ w. done w.counter) z) r.2, ap (nth_of 0) ls, ap (nth_of 1) ls, ap (nth_of 2) ls)

module _ (s b first i last : List ℕ) {first' i' last' : List ℕ} {n : ℕ} (h : QueryNumbered s b first i last first' i' last' n) where
  -- enonkasse_query
  pub answered-query : Answered n
  answered-query = numbered h.0 h.2

  -- refused, the three lists are what they were
  pub unchanged-query : (n ≡ 0 → ⊥) → (first' ≡ first) × (i' ≡ i) × (last' ≡ last)
  unchanged-query y = let ls = unchanged-walk s b _ _ (first ∷ i ∷ last ∷ []) h y in (ap (nth_of 0) ls, ap (nth_of 1) ls, ap (nth_of 2) ls)

module _ (s b : List ℕ) (d : ℕ) (first i last : List ℕ) {first' i' last' : List ℕ} {n : ℕ} (h : DimensionNumbered s b d first i last first' i' last' n) where
  -- enonkasse_dimension
  pub answered-dimension : Answered n
  answered-dimension = numbered h.0 h.2

  -- refused, the three lists are what they were
  pub unchanged-dimension : (n ≡ 0 → ⊥) → (first' ≡ first) × (i' ≡ i) × (last' ≡ last)
  unchanged-dimension y = let ls = unchanged-walk s b _ _ (first ∷ i ∷ last ∷ []) h y in (ap (nth_of 0) ls, ap (nth_of 1) ls, ap (nth_of 2) ls)

module _ (s b first : List ℕ) {first' : List ℕ} {n : ℕ} (h : FirstNumbered s b first first' n) where
  -- enonkasse_dimension_first
  pub answered-dimension-first : Answered n
  answered-dimension-first = numbered h.0 h.2

  -- refused, the list is what it was
  pub unchanged-dimension-first : (n ≡ 0 → ⊥) → first' ≡ first
  unchanged-dimension-first y = ap (nth_of 0) (unchanged-walk s b _ _ (first ∷ []) h y)

module _ (rs : List PolType) (ss ds ps ws : List ℕ) {rs' : List PolType} {ss' ds' ps' ws' : List ℕ} {n : ℕ} (h : RecordsMapped rs rs' ss ss' ds ds' ps ps' ws ws' n) where
  -- enonkasse_map_section of `records`
  pub answered-map-section : Answered n
  answered-map-section = numbered (records_mapping rs (length ss) (length ds) (length ps) (length ws)) h.says

  -- refused, the records and the four columns are what they were
  pub unchanged-map-section : (n ≡ 0 → ⊥) → (rs' ≡ rs) × (ss' ≡ ss) × (ds' ≡ ds) × (ps' ≡ ps) × (ws' ≡ ws)
  unchanged-map-section y =
      let r = is-refused (records_mapping rs (length ss) (length ds) (length ps) (length ws)) h.says y in (
        h.records ∙ ap (records_after rs) r.2,
        h.sections ∙ ap (column_after (sections_of rs) ss) r.2,
        h.dims ∙ ap (column_after (dims_of rs) ds) r.2,
        h.positions ∙ ap (positions_after ps) r.2,
        h.widths ∙ ap (widths_after ws) r.2,
      )

-- ── the degree search ────────────────────────────────────────────────────────
module _ (s es : List ℕ) (b e limit : ℕ) (w z : List ℕ) {w' z' : List ℕ} {n : ℕ} (h : SearchNumbered s es b e limit w w' z z' n) where
  -- enonkasse_search
  pub answered-search : Answered n
  answered-search = numbered (h 0).0 (h 0).2

  -- refused, the set and the two words are what they were
  pub unchanged-search : (n ≡ 0 → ⊥) → (w' ≡ w) × (z' ≡ z)
  unchanged-search y =
      let r = is-refused (h 0).0 (h 0).2 y in
      (subst (λ (a : Answer Choice). SetAfter a w w') r.2 (h 0).3, (h 0).5 ∙ ap (λ (a : Answer Choice). choice_told a z) r.2)

-- ── the pieces of the constraint ─────────────────────────────────────────────
module _ (es : List ℕ) (m : ℕ) (x l : List ℕ) {x' : List ℕ} {n : ℕ} (h : MarkNumbered es m x x' l n) where
  -- enonkasse_mark
  pub answered-mark : Answered n
  answered-mark = numbered h.0 h.2

  -- refused, the context is what it was
  pub unchanged-mark : (n ≡ 0 → ⊥) → x' ≡ x
  unchanged-mark z = let r = is-refused h.0 h.2 z in subst (λ (a : Answer Said). StandsMarked es a x x') r.2 h.3

module _ (m : ℕ) (x l : List ℕ) {x' l' : List ℕ} {n : ℕ} (h : CloseNumbered m x x' l l' n) where
  -- enonkasse_close
  pub answered-close : Answered n
  answered-close = numbered h.0 h.2

  -- refused, the context and the list are what they were
  pub unchanged-close : (n ≡ 0 → ⊥) → (x' ≡ x) × (l' ≡ l)
  unchanged-close z = let r = is-refused h.0 h.2 z in subst (λ (a : Answer Said). Stands a x l x' l') r.2 h.3

module _ (s ids w : List ℕ) (vc : ℕ) (c : Columns) (o z : List ℕ) {o' z' : List ℕ} {n : ℕ} (h : PoolNumbered s ids w vc c o o' z z' n) where
  -- enonkasse_constraint_pool
  pub answered-constraint-pool : Answered n
  answered-constraint-pool = numbered h.answer h.number

  -- refused, the room and the numbers are what they were
  pub unchanged-constraint-pool : (n ≡ 0 → ⊥) → (o' ≡ o) × (z' ≡ z)
  unchanged-constraint-pool y =
      let r = is-refused h.answer h.number y in
      (h.room ∙ ap (room_after o) r.2, h.told ∙ ap (λ (a : Answer Extension). numbers_told (a then λ x. done x.numbers) z) r.2)

-- ── the constraint polynomial in one call ────────────────────────────────────
module _ (s : List ℕ) (a : Asked) (u v : Lent) (o w f z : List ℕ) {u' v' : Lent} {o' w' f' z' : List ℕ} {n : ℕ} (h : ConstraintNumbered s a u v o w f z u' v' o' w' f' z' n) where
  -- enonkasse_constraint
  pub answered-constraint : Answered n
  answered-constraint = numbered h.answer h.number

  -- refused, both contexts with their lists, the room, the set, the two words and the sizes are what they were
  pub unchanged-constraint : (n ≡ 0 → ⊥) → (u' ≡ u) × (v' ≡ v) × (o' ≡ o) × (w' ≡ w) × (f' ≡ f) × (z' ≡ z)
  unchanged-constraint y =
      let r = is-refused h.answer h.number y in
      let c : (u' ≡ u) × (v' ≡ v) × (o' ≡ o) × (w' ≡ w) = subst (λ (x : Answer Polynomial). polynomial.Stands x u v o w u' v' o' w') r.2 h.stands in (
        c.0,
        c.1,
        c.2,
        c.3,
        h.found ∙ ap (λ (x : Answer Polynomial). found_told (x then λ y. done (told_of y)) f) r.2,
        h.totals ∙ ap (λ (x : Answer Polynomial). whole.totals_told (x then λ y. done (told_of y)) z) r.2,
      )
