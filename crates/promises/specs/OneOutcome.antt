-- ONLY ONE OUTCOME FITS what each exported function promises: for the same inputs the number is the same, and so is all that is lent after it.
-- Four are stated of what a slice holds, since a contract speaks of numbers: the list after `serve` and `close` and both lists after `constraint` of bytes, the set after `search` and
-- `constraint` of 64-bit words. Nothing is left open.
-- Assumes nothing.
use Rattle.std.specs.Prelude.{ℕ, ◌^◌, ◌<◌, ◌≡◌, Bool, true, List, [], ◌∷◌, length, get_or}
use Rattle.std.proofs.Common.{sym, ◌∙◌, ap, subst}
use Rattle.meaning.specs.Refusals.{Answer, done, refused, answer_no, ◌then◌}
use Rattle.meaning.specs.Trees.{Forest}
use Rattle.meaning.specs.Building.{Segment}
use Rattle.frames.specs.Reading.{reading}
use Rattle.frames.specs.Taking.{Bytes}
use Rattle.requests.specs.Whole.{totals, list_after}
use Rattle.requests.specs.Serving as requests
use Rattle.builds.specs.Raw.{RawSegment}
use Rattle.codegen.specs.Said.{Said}
use Rattle.codegen.specs.Written.{Stands}
use Rattle.codegen.specs.Building.{Lists, StandsBuilt, sizes, forest_read}
use Rattle.codegen.specs.Exactly.{one-served, one-built}
use Rattle.codegen.specs.declared.asked.Wanted.{Wanted}
use Rattle.evaluator_run.specs.Evaluation.{Valued, out_after}
use Rattle.evaluator.specs.Exactly as evaluator
use Rattle.planning.specs.Planning.{Planned}
use Rattle.planning.specs.Exactly.{one-gone}
use Rattle.plan_map.specs.Whole as map
use Rattle.plan_walks.specs.Walks.{Walked, good_segment, lists_after}
use Rattle.plan_walks.specs.Fix.{is_n, fix_by}
use Rattle.search_meaning.specs.Search.{Choice}
use Rattle.sets.proofs.Words.{words_same}
use Rattle.degree_search.specs.Choosing.{SetAfter}
use Rattle.degree_search.specs.Searching.{asking}
use Rattle.degree_search.specs.Unique as search
use Rattle.records.specs.Records.{RecordsMapped}
use Rattle.records.specs.Exactly as records
use Rattle.records.specs.declared.PolType.{PolType}
use Rattle.host.specs.Numbered.{FreshNumbered, ServeNumbered, BuildNumbered, EvaluateNumbered, sizes_told, cells_told}
use Rattle.host.specs.Runs.{RunNumbered, totals_told}
use Rattle.host.specs.Maps.{MapNumbered}
use Rattle.host.specs.Plans.{WalkNumbered, WalkCounted, QueryNumbered, DimensionNumbered, FirstNumbered}
use Rattle.host.specs.Searches.{SearchNumbered, set_is, choice_told}
use Rattle.sets.specs.Members.{members}
use Rattle.constraint_pool.specs.declared.judge.Columns.{Columns}
use Rattle.constraint_pieces.specs.Marking.{StandsMarked}
use Rattle.constraint_frames.specs.Extension as constrain
use Rattle.constraint_frames.specs.Extension.{Extension, room_after}
use Rattle.constraint_frames.specs.Unique as constraint
use Rattle.constraint_host.specs.Numbered.{MarkNumbered, CloseNumbered, PoolNumbered, numbers_told}
use Rattle.constraint_host.specs.Exactly.{one-marked, one-closed}
use Rattle.constraint_meaning.specs.Constraint.{Asked}
use Rattle.constraint_lists.specs.Lists.{Written}
use Rattle.constraint_build.specs.Both.{Lent, lent}
use Rattle.starkinfo_cp_prover.specs.Polynomial as polynomial
use Rattle.starkinfo_cp_prover.specs.Polynomial.{Polynomial, told_of}
use Rattle.starkinfo_cp_prover.specs.Unique as unique
use Rattle.constraint_host.specs.Whole as whole
use Rattle.constraint_host.specs.Whole.{ConstraintNumbered, found_told}
use Rattle.answers.specs.ListBytes.{one_list}
use Rattle.promises.specs.OneList.{nth_of}

-- ── generation ───────────────────────────────────────────────────────────────
-- enonkasse_fresh: the number and the context
pub one-fresh : {x x₁ x₂ : List ℕ} {n₁ n₂ : ℕ} → FreshNumbered x x₁ n₁ → FreshNumbered x x₂ n₂ → (n₁ ≡ n₂) × (x₁ ≡ x₂)
one-fresh a b = (a.number ∙ sym b.number, a.bytes ∙ sym b.bytes)

-- what stands in a context and its list after an answer is one context, and one list of bytes
same-stands :
    (a : Answer Said) (x l : List ℕ) {x₁ x₂ l₁ l₂ : List ℕ} → Bytes l₁ → Bytes l₂ → Stands a x l x₁ l₁ → Stands a x l x₂ l₂ → (x₁ ≡ x₂) × (l₁ ≡ l₂)
same-stands (done st) x l p q c d = (c.0 ∙ sym d.0, one_list c.1 d.1 p q)
same-stands (refused k o) x l p q c d = (c.0 ∙ sym d.0, c.1 ∙ sym d.1)

-- enonkasse_serve: the number, the context, and the list's bytes
pub one-serve :
    (s : List ℕ) (w : Wanted) (x l : List ℕ) {x₁ x₂ l₁ l₂ : List ℕ} {n₁ n₂ : ℕ} →
    ServeNumbered s w x x₁ l l₁ n₁ → ServeNumbered s w x x₂ l l₂ n₂ → Bytes l₁ → Bytes l₂ → (n₁ ≡ n₂) × (x₁ ≡ x₂) × (l₁ ≡ l₂)
one-serve s w x l {x₁} {x₂} {l₁} {l₂} g h p q =
    let e = one-served (reading s) w x l g.0 h.0 g.1 h.1 in
    let z = same-stands g.0 x l p q g.3 (subst (λ (a : Answer Said). Stands a x l x₂ l₂) (sym e) h.3) in
    (g.2 ∙ ap answer_no e ∙ sym h.2, z.0, z.1)

-- enonkasse_build: the number, the context, the three lists, and their sizes
pub one-build :
    (s x l : List ℕ) (o : Lists) (z : List ℕ) {x₁ x₂ : List ℕ} {o₁ o₂ : Lists} {z₁ z₂ : List ℕ} {n₁ n₂ : ℕ} →
    BuildNumbered s x x₁ l o o₁ z z₁ n₁ → BuildNumbered s x x₂ l o o₂ z z₂ n₂ → (n₁ ≡ n₂) × (x₁ ≡ x₂) × (o₁ ≡ o₂) × (z₁ ≡ z₂)
one-build s x l o z {x₁} {x₂} {o₁} {o₂} g h =
    let e = one-built (reading s) x l o g.0 h.0 g.1 h.1 in
    let y = same g.0 g.3 (subst (λ (a : Answer RawSegment). StandsBuilt (forest_read (reading s)) a x l o x₂ o₂) (sym e) h.3) in
    (g.2 ∙ ap answer_no e ∙ sym h.2, y.0, y.1, g.4 ∙ ap (λ (a : Answer RawSegment). sizes_told (a then λ u. done (sizes u)) z) e ∙ sym h.4)
  where
    same : (a : Answer RawSegment) → StandsBuilt (forest_read (reading s)) a x l o x₁ o₁ → StandsBuilt (forest_read (reading s)) a x l o x₂ o₂ → (x₁ ≡ x₂) × (o₁ ≡ o₂)
    same (done t) c d = (c.0 ∙ sym d.0, c.1 ∙ sym d.1)
    same (refused k i) c d = (c.0 ∙ sym d.0, c.1 ∙ sym d.1)

-- enonkasse_run: the number, the list, and the two totals
pub one-run :
    (s l z : List ℕ) {l₁ l₂ z₁ z₂ : List ℕ} {n₁ n₂ : ℕ} → RunNumbered s l l₁ z z₁ n₁ → RunNumbered s l l₂ z z₂ n₂ → (n₁ ≡ n₂) × (l₁ ≡ l₂) × (z₁ ≡ z₂)
one-run s l z g h =
    let e = requests.one-run (reading s) (length l) g.0 h.0 g.1 h.1 in
    (g.2 ∙ ap answer_no e ∙ sym h.2, g.3 ∙ ap (list_after l) e ∙ sym h.3, g.4 ∙ ap (λ (a : Answer Segment). totals_told (a then λ u. done (totals u)) z) e ∙ sym h.4)

-- ── the evaluator ────────────────────────────────────────────────────────────
-- enonkasse_evaluate: the number, the cells' values, and how many they are
pub one-evaluate :
    (s list : List ℕ) (m : ℕ) (ws o z : List ℕ) {o₁ o₂ z₁ z₂ : List ℕ} {n₁ n₂ : ℕ} →
    EvaluateNumbered s list m ws o o₁ z z₁ n₁ → EvaluateNumbered s list m ws o o₂ z z₂ n₂ → (n₁ ≡ n₂) × (o₁ ≡ o₂) × (z₁ ≡ z₂)
one-evaluate s list m ws o z g h =
    let e = evaluator.one-answered list m ws (length o) (reading s) g.0 h.0 g.1 h.1 in
    (g.2 ∙ ap answer_no e ∙ sym h.2, g.3 ∙ ap (out_after o) e ∙ sym h.3, g.4 ∙ ap (λ (a : Answer (List Valued)). cells_told (a then λ vs. done (length vs)) z) e ∙ sym h.4)

-- ── plans ────────────────────────────────────────────────────────────────────
-- enonkasse_map: the number, the bytes of the answer, and how many they are
pub one_map :
    (s b o z : List ℕ) {o₁ o₂ z₁ z₂ : List ℕ} {n₁ n₂ : ℕ} → MapNumbered s b o o₁ z z₁ n₁ → MapNumbered s b o o₂ z z₂ n₂ → (n₁ ≡ n₂) × (o₁ ≡ o₂) × (z₁ ≡ z₂)
one_map s b o z g h =
    let e = one-gone b true (map.map_by b (length o)) (reading s) g.0 h.0 g.1 h.1 in
    (g.2 ∙ ap answer_no e ∙ sym h.2, g.3 ∙ ap (map.out_after o) e ∙ sym h.3, g.4 ∙ ap (λ (a : Answer (List ℕ)). cells_told (a then λ bytes. done (length bytes)) z) e ∙ sym h.4)

-- a walk over lists: the number, and the lists
one-walk :
    (s b : List ℕ) (own : Bool) (what : Planned → Answer Walked) (ls : List (List ℕ)) {ls₁ ls₂ : List (List ℕ)} {n₁ n₂ : ℕ} →
    WalkNumbered s b own what ls ls₁ n₁ → WalkNumbered s b own what ls ls₂ n₂ → (n₁ ≡ n₂) × (ls₁ ≡ ls₂)
one-walk s b own what ls g h =
    let e = one-gone b own what (reading s) g.0 h.0 g.1 h.1 in
    (g.2 ∙ ap answer_no e ∙ sym h.2, g.3 ∙ ap (lists_after ls) e ∙ sym h.3)

-- enonkasse_fix: the number, the counter, and the three lists
pub one-fix :
    (s b : List ℕ) (domain : ℕ) (z first i last : List ℕ) {z₁ z₂ first₁ first₂ i₁ i₂ last₁ last₂ : List ℕ} {n₁ n₂ : ℕ} →
    WalkCounted s b domain z z₁ first i last first₁ i₁ last₁ n₁ → WalkCounted s b domain z z₂ first i last first₂ i₂ last₂ n₂ →
    (n₁ ≡ n₂) × (z₁ ≡ z₂) × (first₁ ≡ first₂) × (i₁ ≡ i₂) × (last₁ ≡ last₂)
one-fix s b domain z first i last g h =
    let e = one-gone b (good_segment domain (get_or z 0 0) first i last) (fix_by (get_or z 0 0) first i last (is_n domain) b) (reading s) g.0 h.0 g.1 h.1 in
    let ls = g.3 ∙ ap (lists_after (first ∷ i ∷ last ∷ [])) e ∙ sym h.3 in
    (g.2 ∙ ap answer_no e ∙ sym h.2, g.4 ∙ ap (λ (a : Answer Walked). cells_told (a then λ w. done w.counter) z) e ∙ sym h.4, ap (nth_of 0) ls, ap (nth_of 1) ls, ap (nth_of 2) ls)

-- enonkasse_query: the number, and the three lists
pub one-query :
    (s b first i last : List ℕ) {first₁ first₂ i₁ i₂ last₁ last₂ : List ℕ} {n₁ n₂ : ℕ} →
    QueryNumbered s b first i last first₁ i₁ last₁ n₁ → QueryNumbered s b first i last first₂ i₂ last₂ n₂ → (n₁ ≡ n₂) × (first₁ ≡ first₂) × (i₁ ≡ i₂) × (last₁ ≡ last₂)
one-query s b first i last g h =
    let y = one-walk s b _ _ (first ∷ i ∷ last ∷ []) g h in
    (y.0, ap (nth_of 0) y.1, ap (nth_of 1) y.1, ap (nth_of 2) y.1)

-- enonkasse_dimension: the number, and the three lists
pub one-dimension :
    (s b : List ℕ) (d : ℕ) (first i last : List ℕ) {first₁ first₂ i₁ i₂ last₁ last₂ : List ℕ} {n₁ n₂ : ℕ} →
    DimensionNumbered s b d first i last first₁ i₁ last₁ n₁ → DimensionNumbered s b d first i last first₂ i₂ last₂ n₂ →
    (n₁ ≡ n₂) × (first₁ ≡ first₂) × (i₁ ≡ i₂) × (last₁ ≡ last₂)
one-dimension s b d first i last g h =
    let y = one-walk s b _ _ (first ∷ i ∷ last ∷ []) g h in
    (y.0, ap (nth_of 0) y.1, ap (nth_of 1) y.1, ap (nth_of 2) y.1)

-- enonkasse_dimension_first: the number, and the list
pub one-dimension-first :
    (s b first : List ℕ) {first₁ first₂ : List ℕ} {n₁ n₂ : ℕ} → FirstNumbered s b first first₁ n₁ → FirstNumbered s b first first₂ n₂ → (n₁ ≡ n₂) × (first₁ ≡ first₂)
one-dimension-first s b first g h = let y = one-walk s b _ _ (first ∷ []) g h in (y.0, ap (nth_of 0) y.1)

-- enonkasse_map_section: the number, the records, and the four columns
pub one-map-section :
    (rs : List PolType) (ss ds ps ws : List ℕ) {rs₁ rs₂ : List PolType} {ss₁ ss₂ ds₁ ds₂ ps₁ ps₂ ws₁ ws₂ : List ℕ} {n₁ n₂ : ℕ} →
    RecordsMapped rs rs₁ ss ss₁ ds ds₁ ps ps₁ ws ws₁ n₁ → RecordsMapped rs rs₂ ss ss₂ ds ds₂ ps ps₂ ws ws₂ n₂ →
    (n₁ ≡ n₂) × (rs₁ ≡ rs₂) × (ss₁ ≡ ss₂) × (ds₁ ≡ ds₂) × (ps₁ ≡ ps₂) × (ws₁ ≡ ws₂)
one-map-section = records.one-mapping

-- ── the degree search ────────────────────────────────────────────────────────
-- what a slice of 64-bit words holds
abbrev pub Words : List ℕ → Type 0
Words w = (i : ℕ) → get_or w i 0 < 2 ^ 64

-- enonkasse_search: the number, the set's words, and q with the visits
pub one-search :
    (s es : List ℕ) (b e limit : ℕ) (w z : List ℕ) {w₁ w₂ z₁ z₂ : List ℕ} {n₁ n₂ : ℕ} →
    SearchNumbered s es b e limit w w₁ z z₁ n₁ → SearchNumbered s es b e limit w w₂ z z₂ n₂ → Words w₁ → Words w₂ → (n₁ ≡ n₂) × (w₁ ≡ w₂) × (z₁ ≡ z₂)
one-search s es b e limit w z {w₁} {w₂} g h p q =
    let c = g 0 in
    let d = h 0 in
    let y : c.0 ≡ d.0 = search.one-run (reading s) (asking es 0 b e limit) c.0 d.0 c.1 d.1 in
    (c.2 ∙ ap answer_no y ∙ sym d.2, same c.0 c.3 c.4 (subst (λ (a : Answer Choice). SetAfter a w w₂) (sym y) d.3) (subst (λ (a : Answer Choice). set_is a w₂) (sym y) d.4), c.5 ∙ ap (λ (a : Answer Choice). choice_told a z) y ∙ sym d.5)
  where
    same : (a : Answer Choice) → SetAfter a w w₁ → set_is a w₁ → SetAfter a w w₂ → set_is a w₂ → w₁ ≡ w₂
    same (done c) u m v k = words_same w₁ w₂ u v (sym m ∙ k) p q
    same (refused k o) u m v n = u ∙ sym v

-- ── the pieces of the constraint ─────────────────────────────────────────────
-- enonkasse_mark: the number, and the context
pub one-mark :
    (es : List ℕ) (m : ℕ) (x l : List ℕ) {x₁ x₂ : List ℕ} {n₁ n₂ : ℕ} → MarkNumbered es m x x₁ l n₁ → MarkNumbered es m x x₂ l n₂ → (n₁ ≡ n₂) × (x₁ ≡ x₂)
one-mark es m x l {x₁} {x₂} g h =
    let e = one-marked es m x l g.0 h.0 g.1 h.1 in
    (g.2 ∙ ap answer_no e ∙ sym h.2, same g.0 g.3 (subst (λ (a : Answer Said). StandsMarked es a x x₂) (sym e) h.3))
  where
    same : (a : Answer Said) → StandsMarked es a x x₁ → StandsMarked es a x x₂ → x₁ ≡ x₂
    same (done st) c d = c ∙ sym d
    same (refused k o) c d = c ∙ sym d

-- enonkasse_close: the number, the context, and the list's bytes
pub one-close :
    (m : ℕ) (x l : List ℕ) {x₁ x₂ l₁ l₂ : List ℕ} {n₁ n₂ : ℕ} →
    CloseNumbered m x x₁ l l₁ n₁ → CloseNumbered m x x₂ l l₂ n₂ → Bytes l₁ → Bytes l₂ → (n₁ ≡ n₂) × (x₁ ≡ x₂) × (l₁ ≡ l₂)
one-close m x l {x₁} {x₂} {l₁} {l₂} g h p q =
    let e = one-closed m x l g.0 h.0 g.1 h.1 in
    let z = same-stands g.0 x l p q g.3 (subst (λ (a : Answer Said). Stands a x l x₂ l₂) (sym e) h.3) in
    (g.2 ∙ ap answer_no e ∙ sym h.2, z.0, z.1)

-- enonkasse_constraint_pool: the number, the frames, and the six numbers
pub one-constraint-pool :
    (s ids w : List ℕ) (vc : ℕ) (c : Columns) (o z : List ℕ) {o₁ o₂ z₁ z₂ : List ℕ} {n₁ n₂ : ℕ} →
    PoolNumbered s ids w vc c o o₁ z z₁ n₁ → PoolNumbered s ids w vc c o o₂ z z₂ n₂ → (n₁ ≡ n₂) × (o₁ ≡ o₂) × (z₁ ≡ z₂)
one-constraint-pool s ids w vc c o z g h =
    let e = constraint.one-run (reading s) w (constrain.asking ids (members w) vc c) (length o) g.answer h.answer g.runs h.runs in (
      g.number ∙ ap answer_no e ∙ sym h.number,
      g.room ∙ ap (room_after o) e ∙ sym h.room,
      g.told ∙ ap (λ (a : Answer Extension). numbers_told (a then λ x. done x.numbers) z) e ∙ sym h.told,
    )

-- ── the constraint polynomial in one call ────────────────────────────────────
-- a context, its list and three lists after they were written: one of each, where the list holds bytes
same-written :
    {E : Forest} {u u₁ u₂ : Lent} {st : Said} → Written E u.context u.list u.lists st u₁.context u₁.list u₁.lists →
    Written E u.context u.list u.lists st u₂.context u₂.list u₂.lists → Bytes u₁.list → Bytes u₂.list → u₁ ≡ u₂
same-written {E} {u} {u₁} {u₂} a b p q =
    ap (λ x. lent x u₁.list u₁.lists) (a.context ∙ sym b.context) ∙ ap (λ l. lent u₂.context l u₁.lists) (one_list a.list b.list p q)
    ∙ ap (λ (o : Lists). lent u₂.context u₂.list o) (a.built ∙ sym b.built)

-- what holds bytes and words after a call: both lists of steps, and the set
pub record Held (u v : Lent) (w : List ℕ) : Type 0 where
  pub list : Bytes u.list
  pub list_2ns : Bytes v.list
  pub set : Words w

-- enonkasse_constraint: the number, both contexts with their lists and the three lists of each, the frames, the set's words, q with the visits, and the sizes
pub one-constraint :
    (s : List ℕ) (a : Asked) (u v : Lent) (o w f z : List ℕ) {u₁ u₂ v₁ v₂ : Lent} {o₁ o₂ w₁ w₂ f₁ f₂ z₁ z₂ : List ℕ} {n₁ n₂ : ℕ} →
    ConstraintNumbered s a u v o w f z u₁ v₁ o₁ w₁ f₁ z₁ n₁ → ConstraintNumbered s a u v o w f z u₂ v₂ o₂ w₂ f₂ z₂ n₂ → Held u₁ v₁ w₁ → Held u₂ v₂ w₂ →
    (n₁ ≡ n₂) × (u₁ ≡ u₂) × (v₁ ≡ v₂) × (o₁ ≡ o₂) × (w₁ ≡ w₂) × (f₁ ≡ f₂) × (z₁ ≡ z₂)
one-constraint s a u v o w f z {u₁} {u₂} {v₁} {v₂} {o₁} {o₂} {w₁} {w₂} g h p q =
    let e = unique.one-run (reading s) a u v (length o) g.answer h.answer g.runs h.runs in
    let y = same g.answer g.stands (subst (λ (x : Answer Polynomial). polynomial.Stands x u v o w u₂ v₂ o₂ w₂) (sym e) h.stands) in (
      g.number ∙ ap answer_no e ∙ sym h.number,
      y.0,
      y.1,
      y.2,
      y.3,
      g.found ∙ ap (λ (x : Answer Polynomial). found_told (x then λ y. done (told_of y)) f) e ∙ sym h.found,
      g.totals ∙ ap (λ (x : Answer Polynomial). whole.totals_told (x then λ y. done (told_of y)) z) e ∙ sym h.totals,
    )
  where
    same :
        (x : Answer Polynomial) → polynomial.Stands x u v o w u₁ v₁ o₁ w₁ → polynomial.Stands x u v o w u₂ v₂ o₂ w₂ → (u₁ ≡ u₂) × (v₁ ≡ v₂) × (o₁ ≡ o₂) × (w₁ ≡ w₂)
    same (done y) c d = (
      same-written {u = u} {u₁ = u₁} {u₂ = u₂} c.0.step3 d.0.step3 p.list q.list,
      same-written {u = v} {u₁ = v₁} {u₂ = v₂} c.0.step42ns d.0.step42ns p.list_2ns q.list_2ns,
      c.0.frames ∙ sym d.0.frames,
      words_same w₁ w₂ c.1.good d.1.good (c.1.is ∙ sym d.1.is) p.set q.set,
    )
    same (refused k i) c d = (c.0 ∙ sym d.0, c.1 ∙ sym d.1, c.2 ∙ sym d.2, c.3 ∙ sym d.3)
