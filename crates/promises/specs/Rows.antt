-- THE REFUSAL TABLE: whatever exported function is called, and with whatever it is lent, the number is k exactly when row k of document 01's table holds of the call.
-- The conditions stand in `Ways.antt`, `ConstraintWays.antt` and `PolynomialWays.antt` of `answers`, a way for each; where to look for a row:
--   1  frames `OfFrames.malformed`; result and context `ServeRead.bad_result`, `bad_context`, `BuildRead.bad_context`; `FreshWay.malformed`; list, modulus and values
--      `EvaluateRead.ill_formed`; plan and lists `plan.Way.no_plan`, `ill_formed`; records `SectionWay.malformed`; `MarkWay.bad_context`, `CloseWay.bad_context`, `ExtendRead.bad_set`;
--      `ConstraintRead.bad_context`, `bad_second`
--   2  `OfPool.child_count`, `plan.Way.child_count`
--   3  `OfPool.lost`, `plan.Way.lost`; of a request `Served.lost`, `Ran.lost`; of a list `Fixed.not_there`, `Queried.not_there`, `Dimensioned.met`; of an identity `Row.not_there`, `Extended.lost`; of a member `MarkWay.lost`
--   4  `OfPool.cycle`, `plan.Way.cycle`
--   5  `Served.double_prime`, `Ran.double_prime`; `Listed.member`, `Listed.constraint`
--   6  `Row.bad_kind`
--   7  `Served.no_primed_mark`           8  `Served.no_block`, `CloseWay.no_block`
--   9  frames `OfFrames.past`; no room `Served.full`, `Built.full`, `Ran.full`, `Evaluated.full`, `Mapped.full`, `Fixed.full`, `SectionWay.full`; `plan.Way.too_many`; `MarkWay.full`, `CloseWay.past`, `full`, `Extended.past`, `full`;
--      `Chosen.past`, `Listed.full`
--   10 `Evaluated.no_rule`, `Fixed.no_rule`, `Queried.no_rule`, `Dimensioned.met`
--   11 `plan.Way.counts`, `Extended.counts`, `Chosen.counts`
--   12 `plan.Way.undimensioned`, `Dimensioned.met`
--   13 `Row.no_set`                     14 `Row.no_quotient`
--   15 `Row.over_limit`                 16 `plan.Way.bits`, `Row.bits`
--   17 `Row.no_identity`, `Extended.no_identity`
-- The rows of a search, `Row`, are also those of the constraint polynomial's search: `Generated.unchosen`.
-- Assumes nothing.
use Rattle.std.specs.Prelude.{ℕ, ◌≡◌, refl, Bool, true, false, cond, List, ◌↔◌, length, get_or, eqb}
use Rattle.std.proofs.Common.{sym, ◌∙◌, eqb-true, eq-eqb, ne_eqb}
use Rattle.std.proofs.lemmas.Bool.{eqb-false}
use Rattle.meaning.specs.Refusals.{Answer, answer_no}
use Rattle.context.specs.Context.{context_size}
use Rattle.codegen.specs.Building.{Lists}
use Rattle.codegen.specs.declared.asked.Wanted.{Wanted}
use Rattle.dimensions.specs.Answers.{first_dim_x}
use Rattle.records.specs.Records.{records_mapping, RecordsMapped}
use Rattle.records.specs.declared.PolType.{PolType}
use Rattle.host.specs.Numbered.{FreshNumbered, ServeNumbered, BuildNumbered, EvaluateNumbered}
use Rattle.host.specs.Runs.{RunNumbered}
use Rattle.host.specs.Maps.{MapNumbered}
use Rattle.host.specs.Plans.{WalkCounted, QueryNumbered, DimensionNumbered, FirstNumbered}
use Rattle.host.specs.Searches.{SearchNumbered}
use Rattle.sets.specs.Members.{members}
use Rattle.constraint_pool.specs.declared.judge.Columns.{Columns}
use Rattle.constraint_frames.specs.Extension.{asking}
use Rattle.constraint_host.specs.Numbered.{MarkNumbered, CloseNumbered, PoolNumbered}
use Rattle.constraint_build.specs.Both.{Lent}
use Rattle.starkinfo_cp_prover.specs.Polynomial.{asked}
use Rattle.constraint_choice.specs.declared.answer.Before.{Before}
use Rattle.constraint_host.specs.Whole.{ConstraintNumbered}
use Rattle.answers.specs.PolynomialWays.{ConstraintWay}
use Rattle.answers.proofs.ExactPolynomial.{of-constraint}
use Rattle.answers.specs.ConstraintWays.{MarkWay, CloseWay, ExtendWay}
use Rattle.answers.proofs.ExactConstraint.{of-mark, of-close, of-extend}
use Rattle.answers.specs.Ways.{FreshWay, ServeWay, BuildWay, RunWay, EvaluateWay, MapWay, FixWay, QueryWay, DimensionWay, FirstWay, SearchWay, SectionWay}
use Rattle.answers.proofs.Exact.{of-serve, of-build, of-run, of-evaluate, of-search}
use Rattle.answers.proofs.ExactPlans.{of_map, of-fix, of-query, of-dimension, of-dimension-first, of-section}

-- ── the statement ────────────────────────────────────────────────────────────
-- A CALL that is answered with n: the function, what it takes, and that its contract holds of what stands after it
pub data Call (n : ℕ) : Type 0 where
  fresh : (x x' : List ℕ) → FreshNumbered x x' n → Call n
  serve : (s : List ℕ) (w : Wanted) (x x' l l' : List ℕ) → ServeNumbered s w x x' l l' n → Call n
  build : (s x x' l : List ℕ) (o o' : Lists) (z z' : List ℕ) → BuildNumbered s x x' l o o' z z' n → Call n
  run : (s l l' z z' : List ℕ) → RunNumbered s l l' z z' n → Call n
  evaluate : (s list : List ℕ) (m : ℕ) (ws o o' z z' : List ℕ) → EvaluateNumbered s list m ws o o' z z' n → Call n
  map : (s b o o' z z' : List ℕ) → MapNumbered s b o o' z z' n → Call n
  fix : (s b : List ℕ) (domain : ℕ) (z z' first i last first' i' last' : List ℕ) → WalkCounted s b domain z z' first i last first' i' last' n → Call n
  query : (s b first i last first' i' last' : List ℕ) → QueryNumbered s b first i last first' i' last' n → Call n
  dimension : (s b : List ℕ) (d : ℕ) (first i last first' i' last' : List ℕ) → DimensionNumbered s b d first i last first' i' last' n → Call n
  dimension_first : (s b first first' : List ℕ) → FirstNumbered s b first first' n → Call n
  -- whatever the number of "vc" is taken to be
  search : (vc : ℕ) (s es : List ℕ) (b e limit : ℕ) (w w' z z' : List ℕ) → SearchNumbered s es b e limit w w' z z' n → Call n
  mark : (es : List ℕ) (m : ℕ) (x x' l : List ℕ) → MarkNumbered es m x x' l n → Call n
  close : (m : ℕ) (x x' l l' : List ℕ) → CloseNumbered m x x' l l' n → Call n
  constraint_pool : (s ids w : List ℕ) (vc : ℕ) (c : Columns) (o o' z z' : List ℕ) → PoolNumbered s ids w vc c o o' z z' n → Call n
  constraint :
      (s ids : List ℕ) (vc b e limit : ℕ) (c : Before) (u u' v v' : Lent) (o o' w w' f f' z z' : List ℕ) →
      ConstraintNumbered s (asked ids vc b e limit c) u v o w f z u' v' o' w' f' z' n → Call n
  map_section : (rs rs' : List PolType) (ss ss' ds ds' ps ps' ws ws' : List ℕ) → RecordsMapped rs rs' ss ss' ds ds' ps ps' ws ws' n → Call n

-- ROW k HOLDS of a call
abbrev pub Holds : {n : ℕ} → Call n → ℕ → Type 0
Holds (Call.fresh x x' h) k = FreshWay x k
Holds (Call.serve s w x x' l l' h) k = ServeWay s w x l k
Holds (Call.build s x x' l o o' z z' h) k = BuildWay s x l o k
Holds (Call.run s l l' z z' h) k = RunWay s (length l) k
Holds (Call.evaluate s list m ws o o' z z' h) k = EvaluateWay s list m ws (length o) k
Holds (Call.map s b o o' z z' h) k = MapWay s b (length o) k
Holds (Call.fix s b domain z z' first i last first' i' last' h) k = FixWay s b domain (get_or z 0 0) first i last k
Holds (Call.query s b first i last first' i' last' h) k = QueryWay s b first i last k
Holds (Call.dimension s b d first i last first' i' last' h) k = DimensionWay s b d first i last k
Holds (Call.dimension_first s b first first' h) k = FirstWay s b first k
Holds (Call.search vc s es b e limit w w' z z' h) k = SearchWay s es vc b e limit k
Holds (Call.mark es m x x' l h) k = MarkWay es m x l k
Holds (Call.close m x x' l l' h) k = CloseWay m x l k
Holds (Call.constraint_pool s ids w vc c o o' z z' h) k = ExtendWay s w (asking ids (members w) vc c) (length o) k
Holds (Call.constraint s ids vc b e limit c u u' v v' o o' w w' f f' z z' h) k = ConstraintWay s ids vc b e limit c u v (length o) k
Holds (Call.map_section rs rs' ss ss' ds ds' ps ps' ws ws' h) k = SectionWay rs (length ss) (length ds) (length ps) (length ws) k

-- ── the proof ────────────────────────────────────────────────────────────────
-- the number of an answer is the number given
told : {A : Type 0} {n k : ℕ} {W : Type 0} (a : Answer A) → n ≡ answer_no a → (answer_no a ≡ k) ↔ W → (n ≡ k) ↔ W
told a e h = (λ q. h.0 (sym e ∙ q), λ w. e ∙ h.1 w)

of-fresh : (x x' : List ℕ) (n : ℕ) → FreshNumbered x x' n → (k : ℕ) → (n ≡ k) ↔ FreshWay x k
of-fresh x x' n h k = (λ q. to k (sym q ∙ h.number), λ w. h.number ∙ from k w)
  where
    to : (k : ℕ) → k ≡ cond (eqb (length x) context_size) 0 1 → FreshWay x k
    to k = go (eqb (length x) context_size) refl
      where
        zero-way : (m : ℕ) → m ≡ 0 → length x ≡ context_size → FreshWay x m
        zero-way m q e = rw q (FreshWay.sized e)

        one_way : (m : ℕ) → m ≡ 1 → (length x ≡ context_size → ⊥) → FreshWay x m
        one_way m q e = rw q (FreshWay.malformed e)

        go : (b : Bool) → eqb (length x) context_size ≡ b → k ≡ cond b 0 1 → FreshWay x k
        go true e q = zero-way k q (eqb-true (length x) context_size e)
        go false e q = one_way k q (eqb-false (length x) context_size e)

    from : (k : ℕ) → FreshWay x k → cond (eqb (length x) context_size) 0 1 ≡ k
    from k (FreshWay.sized e) = rw (eq-eqb (length x) context_size e)
    from k (FreshWay.malformed e) = rw (ne_eqb (length x) context_size e)

-- EXACTLY WHEN, of every call and every row
pub rows : {n : ℕ} (c : Call n) (k : ℕ) → (n ≡ k) ↔ Holds c k
rows {n} (Call.fresh x x' h) k = of-fresh x x' n h k
rows (Call.serve s w x x' l l' h) k = told h.0 h.2 (of-serve s w x l h.0 h.1 k)
rows (Call.build s x x' l o o' z z' h) k = told h.0 h.2 (of-build s x l o h.0 h.1 k)
rows (Call.run s l l' z z' h) k = told h.0 h.2 (of-run s (length l) h.0 h.1 k)
rows (Call.evaluate s list m ws o o' z z' h) k = told h.0 h.2 (of-evaluate s list m ws (length o) h.0 h.1 k)
rows (Call.map s b o o' z z' h) k = told h.0 h.2 (of_map s b (length o) h.0 h.1 k)
rows (Call.fix s b domain z z' first i last first' i' last' h) k = told h.0 h.2 (of-fix s b domain (get_or z 0 0) first i last h.0 h.1 k)
rows (Call.query s b first i last first' i' last' h) k = told h.0 h.2 (of-query s b first i last h.0 h.1 k)
rows (Call.dimension s b d first i last first' i' last' h) k = told h.0 h.2 (of-dimension s b d first i last h.0 h.1 k)
rows (Call.dimension_first s b first first' h) k = told h.0 h.2 (of-dimension-first s b first_dim_x first h.0 h.1 k)
rows (Call.search vc s es b e limit w w' z z' h) k = told (h vc).0 (h vc).2 (of-search s es vc b e limit (h vc).0 (h vc).1 k)
rows (Call.mark es m x x' l h) k = told h.0 h.2 (of-mark es m x l h.0 h.1 k)
rows (Call.close m x x' l l' h) k = told h.0 h.2 (of-close m x l h.0 h.1 k)
rows (Call.constraint_pool s ids w vc c o o' z z' h) k = told h.answer h.number (of-extend s w (asking ids (members w) vc c) (length o) h.answer h.runs k)
rows (Call.constraint s ids vc b e limit c u u' v v' o o' w w' f f' z z' h) k = told h.answer h.number (of-constraint s ids vc b e limit c u v (length o) h.answer h.runs h.back k)
rows (Call.map_section rs rs' ss ss' ds ds' ps ps' ws ws' h) k = told (records_mapping rs (length ss) (length ds) (length ps) (length ws)) h.says (of-section rs (length ss) (length ds) (length ps) (length ws) k)

-- EVERY CALL HAS A ROW, and no call has two
pub some-row : {n : ℕ} (c : Call n) → (k : ℕ) × Holds c k
some-row {n} c = (n, (rows c n).0 refl)

pub one-row : {n : ℕ} (c : Call n) (j k : ℕ) → Holds c j → Holds c k → j ≡ k
one-row c j k a b = sym ((rows c j).1 a) ∙ (rows c k).1 b

-- DEMAND 2'S DOMAIN, where the answer is to be the Rust's: the calls of which row 0 holds, and no others
pub accepted : {n : ℕ} (c : Call n) → (n ≡ 0) ↔ Holds c 0
accepted c = rows c 0
