-- The whole answer: of a plan that is drawn up, and of frames. Assumes nothing.
use Prim.Native.Nat.{ℕ, ◌+◌, ◌*◌, ◌<◌, ◌≤◌}
use mathlib.Core.Path.{◌≡◌, refl, sym, ◌∙◌, ap, ap₂}
use mathlib.Core.Bool.{true}
use mathlib.Core.Option.{none}
use mathlib.Core.List.{List, [], ◌∷◌, ◌++◌}
use native.Mathlib.Omega.{arith}
use native.Mathlib.Nat.{zero-add}
use lib.ListN.{length, take, drop, replicate, length-append}
use lib.Seq.{length-take-le}
use Rattle.kinds.specs.Write.{write-is}
use Rattle.std.specs.Prelude.{Ok, Err}
use Rattle.kinds.specs.Answers.{refusing}
use Rattle.kinds.specs.declared.refusal.Refusal.TheVariants as refusal
use Rattle.meaning.specs.Refusals.{Refusal, Answer, done, refused, ◌then◌}
use Rattle.pool.specs.Pool.{Pool}
use Rattle.plans.specs.Plan.{n_bits, n_bits_ext}
use Rattle.plans.specs.Passed.{names-there, names-below}
use Rattle.plans.specs.Columns.{record_limit}
use Rattle.plans.specs.Agreement.{cm_count}
use Rattle.sections.specs.Sums.{each-length}
use Rattle.sections.specs.Sections.{known, positions_from}
use Rattle.map_records.specs.Mapping.{cm_limit, cm1_n, cm4_n, twin, mapped}
use Rattle.map_records.specs.Agreed.{few-cms}
use Rattle.plan_tables.specs.Tables.{numbers_in, column_records, record_of, positions, exp2pol, cm_n}
use Rattle.plan_tables.specs.Listed.{Listed, listed_front, listed-size}
use Rattle.plan_tables.specs.Gathered.{Fitting, columns_of}
use Rattle.plan_tables.specs.Sizes.{cm-n-size, cm_2ns_size, mapped-columns, held-few}
use Rattle.plan_tables.specs.Whole.{bits-few}
use Rattle.planning.specs.Planning.{Planned, planned}
use Rattle.planning.specs.Answers.{Unplanned, Planning, unplanned_says, FramesGiven}
use Rattle.planning.specs.Drawn.{Drawn}
use Rattle.planning.specs.Laws.Argued.{reason, unplanned-then}
use Rattle.planning.specs.Laws.Drawn.{pool_in, unplanned, answered}
use Rattle.planning.specs.Laws.Known.{mapped-known}
use Rattle.planning.specs.declared.answer.Plan.{Plan}
use Rattle.plan_map.specs.Numbers.{rows_by, column_row, section_numbers, cm_numbers, expression_numbers, counts, map_numbers, map_bytes}
use Rattle.plan_map.specs.Puts.{Puts, u16s-size, puts-next, puts-is, rows-size}
use Rattle.plan_map.specs.Parts.{head_size, SectionsAsked, SectionsGiven, CmsAsked, CmsGiven, ExpressionsAsks}
use Rattle.plan_map.specs.Whole.{Mapping, map_by, out_after, Does, MapIs}
use Rattle.plan_map.specs.Exactly.{by-no-room, by_room}
use Rattle.plan_map.proofs.Placing.{section-size}

-- ---- how long the parts are

pub cm-size : (ss cs : List ℕ) (n : ℕ) → length (numbers_in cm1_n cm4_n 0 ss) ≡ n → length (numbers_in (twin cm1_n) (twin cm4_n) 0 ss) ≡ n → n ≤ length cs → length (cm_numbers ss cs n) ≡ 3 * n
unfolding cm_numbers
cm-size ss cs n e f h =
    omega (
      arith,
      length-append (numbers_in cm1_n cm4_n 0 ss ++ numbers_in (twin cm1_n) (twin cm4_n) 0 ss) (take n cs),
      length-append (numbers_in cm1_n cm4_n 0 ss) (numbers_in (twin cm1_n) (twin cm4_n) 0 ss),
      length-take-le n cs h,
      e,
      f,
    )

expression-size : (b : List ℕ) (p : Pool) (n : ℕ) → length (expression_numbers b (mapped b p) n) ≡ 2 * length (columns_of b) + n
unfolding expression_numbers
expression-size b p n =
    let m = mapped b p in
    length-append (rows_by (column_row m.columns (column_records m)) (length m.columns)) (exp2pol b m n)
    ∙ ap₂ (λ x y. x + y)
    (rows-size (column_row m.columns (column_records m)) 2 (length m.columns) (λ k. refl) ∙ ap (λ (z : List ℕ). 2 * length z) (mapped-columns b p))
    (each-length (record_of b (cm_n m) (column_records m) m.columns) n)

-- ---- a plan that is drawn up

module _ {b : List ℕ} {p : Pool} {ss ds cs : List ℕ} {k : Plan} (d : Drawn b p ss ds cs k) where
  pub fitting : Fitting b
  fitting = (d.planned.whole, d.planned.fits, names-below b d.few (names-there b k.expressions d.names))

  pub records-few : k.records ≤ record_limit
  records-few = held-few b p d.planned d.holds

  pub cms-few : cm_count b < cm_limit
  cms-few = few-cms b d.planned

  pub columns-few : length (columns_of b) ≤ record_limit
  columns-few = omega (arith, d.planned.fits)

  in_n_lem : length (numbers_in cm1_n cm4_n 0 (mapped b p).sections) ≡ cm_count b
  in_n_lem = cm-n-size b p d.planned.agree

  in_2ns : length (numbers_in (twin cm1_n) (twin cm4_n) 0 (mapped b p).sections) ≡ cm_count b
  in_2ns = cm_2ns_size b p d.planned.agree

  module _ {cms : ℕ} (e : cms ≡ cm_count b) where
    dims-there : cms ≤ length cs
    dims-there = omega (arith, cms-few, d.holds.cm_size, e)

    pub cms-asked : (at room : ℕ) → at + 6 * cms ≤ room → CmsAsked ss cs k.records cms at room
    cms-asked at room h = record {
      size = d.holds.sections_size;
      few = records-few;
      in_n = ap (λ (z : List ℕ). length (numbers_in cm1_n cm4_n 0 z)) d.holds.sections ∙ in_n_lem ∙ sym e;
      in2ns = ap (λ (z : List ℕ). length (numbers_in (twin cm1_n) (twin cm4_n) 0 z)) d.holds.sections ∙ in_2ns ∙ sym e;
      dims = dims-there;
      fits = h;
    }

    pub cms-end : {out o : List ℕ} {at r : ℕ} → CmsGiven ss cs k.records cms at out o r → r ≡ at + 6 * cms
    cms-end {at = at} g =
        let a = cms-asked at (at + 6 * cms) (omega arith) in
        omega (arith, g.next, cm-size (take k.records ss) cs cms a.in_n a.in2ns dims-there)

    module _ {count : ℕ} (f : count ≡ length (columns_of b)) where
      pub sections-asked : (room : ℕ) → head_size + 6 * k.records ≤ room → SectionsAsked b ss ds k cms count room
      sections-asked room h = record {
        headed = d.planned.whole.0;
        bits = bits-few b d.bits;
        few = records-few;
        sections_size = d.holds.sections_size;
        dims_size = d.holds.dims_size;
        there = ap known d.holds.sections ∙ mapped-known b p;
        counted = record { few_records = omega (arith, records-few); few_cms = omega (arith, cms-few, e); few_columns = omega (arith, columns-few, f) };
        fits = h;
      }

      abbrev m : ℕ
      m = k.expressions

      -- THE SIZE OF THE ANSWER
      pub map-size : length (map_bytes b (planned p (mapped b p))) ≡ head_size + 6 * k.records + 6 * cms + 4 * count + 2 * m
      unfolding map_numbers
      map-size =
          let z : Planned = planned p (mapped b p) in
          let one = section_numbers (n_bits b) (n_bits_ext b) (mapped b p).sections (mapped b p).dims (positions (mapped b p)) (counts b z) in
          let two = cm_numbers (mapped b p).sections (mapped b p).cm_dims (cm_count b) in
          let three = expression_numbers b (mapped b p) (length p.expressions) in
          let there : cm_count b ≤ length (mapped b p).cm_dims = omega (arith, dims-there, e, ap length d.holds.cm_dims) in
          omega (
            arith,
            u16s-size (one ++ two ++ three),
            length-append (one ++ two) three,
            length-append one two,
            section-size (n_bits b) (n_bits_ext b) (mapped b p).sections (mapped b p).dims (positions (mapped b p)) (counts b z) refl,
            cm-size (mapped b p).sections (mapped b p).cm_dims (cm_count b) in_n_lem in_2ns there,
            expression-size b p (length p.expressions),
            d.holds.count,
            d.expressions,
            e,
            f,
          )

      sections_are :
          section_numbers (n_bits b) (n_bits_ext b) (take k.records ss) (take k.records ds) (positions_from (take k.records ss) (take k.records ds) (replicate k.records 0)) (k.records ∷ cms ∷ count ∷ k.q_dim ∷ [])
          ≡ section_numbers (n_bits b) (n_bits_ext b) (mapped b p).sections (mapped b p).dims (positions (mapped b p)) (counts b (planned p (mapped b p)))
      sections_are =
          let ps : List ℕ = (mapped b p).sections in
          let qs : List ℕ = (mapped b p).dims in
          ap₂ (λ (x y : List ℕ). section_numbers (n_bits b) (n_bits_ext b) x y (positions_from x y (replicate k.records 0)) (k.records ∷ cms ∷ count ∷ k.q_dim ∷ [])) d.holds.sections d.holds.dims
          ∙ ap (λ u. section_numbers (n_bits b) (n_bits_ext b) ps qs (positions_from ps qs (replicate u 0)) (u ∷ cms ∷ count ∷ k.q_dim ∷ [])) (sym d.holds.count)
          ∙ ap₂ (λ u v. section_numbers (n_bits b) (n_bits_ext b) ps qs (positions (mapped b p)) (length ps ∷ u ∷ v ∷ k.q_dim ∷ [])) e (f ∙ ap length (sym (mapped-columns b p)))
          ∙ ap (λ u. section_numbers (n_bits b) (n_bits_ext b) ps qs (positions (mapped b p)) (length ps ∷ cm_count b ∷ length (mapped b p).columns ∷ u ∷ [])) d.quotient

      cms_are : cm_numbers (take k.records ss) cs cms ≡ cm_numbers (mapped b p).sections (mapped b p).cm_dims (cm_count b)
      cms_are = ap₂ (λ (x y : List ℕ). cm_numbers x y cms) d.holds.sections d.holds.cm_dims ∙ ap (cm_numbers (mapped b p).sections (mapped b p).cm_dims) e

      pub whole-put :
          {out o₁ o₂ o₃ : List ℕ} {e₁ e₂ r : ℕ} → SectionsGiven b ss ds k cms count out o₁ e₁ → CmsGiven ss cs k.records cms e₁ o₁ o₂ e₂
          → Puts o₂ e₂ (expression_numbers b (mapped b p) m) o₃ r → Puts out 0 (map_numbers b (planned p (mapped b p))) o₃ r
      unfolding map_numbers
      whole-put g h i =
          puts-is
          (ap₂ (λ (x y : List ℕ). x ++ y) (ap₂ (λ (x y : List ℕ). x ++ y) sections_are cms_are) (ap (expression_numbers b (mapped b p)) (sym d.expressions)))
          (puts-next (puts-next g h) i)

      pub no_room : (out : List ℕ) → length out < head_size + 6 * k.records + 6 * cms + 4 * count + 2 * m → Does (map_by b (length out) (planned p (mapped b p))) out out (refusing refusal.Full)
      no_room out h =
          let z : Planned = planned p (mapped b p) in
          let over : length out < length (map_bytes b z) = omega (arith, map-size, h) in
          let is : map_by b (length out) z ≡ refused Refusal.full none = by-no-room b (length out) z over in
          record { says = sym (ap (λ (y : Answer (List ℕ)). y then λ bytes. done (length bytes)) is); room = sym (ap (out_after out) is) }

      pub all-put :
          {out o : List ℕ} {r : ℕ} → head_size + 6 * k.records + 6 * cms + 4 * count + 2 * m ≤ length out → Puts out 0 (map_numbers b (planned p (mapped b p))) o r
          → Does (map_by b (length out) (planned p (mapped b p))) out o (Ok r)
      all-put {out} {o} {r} h g =
          let z : Planned = planned p (mapped b p) in
          let under : length (map_bytes b z) ≤ length out = omega (arith, map-size, h) in
          let is : map_by b (length out) z ≡ done (map_bytes b z) = by_room b (length out) z under in
          let many : r ≡ length (map_bytes b z) = omega (arith, g.next, u16s-size (map_numbers b z)) in
          record {
            says = ap (λ n. done n) many ∙ sym (ap (λ (y : Answer (List ℕ)). y then λ bytes. done (length bytes)) is);
            room = g.list ∙ write-is out 0 (map_bytes b z) (omega (arith, under)) ∙ ap (λ n. map_bytes b z ++ drop n out) (zero-add (length (map_bytes b z))) ∙ sym (ap (out_after out) is);
          }

  pub sections-end : (cms count : ℕ) {out o : List ℕ} {r : ℕ} → SectionsGiven b ss ds k cms count out o r → r ≡ head_size + 6 * k.records
  sections-end cms count g =
      let n = k.records in
      let taken : length (take n ss) ≡ n = length-take-le n ss (omega (arith, records-few, d.holds.sections_size)) in
      omega (
        arith,
        g.next,
        section-size (n_bits b) (n_bits_ext b) (take n ss) (take n ds) (positions_from (take n ss) (take n ds) (replicate n 0)) (n ∷ cms ∷ count ∷ k.q_dim ∷ []) refl,
        taken,
      )

  pub expressions-asks :
      {before columns : List ℕ} {count : ℕ} (at room : ℕ) → Listed before columns count (columns_of b) → length before ≡ record_limit → at + 4 * count + 2 * k.expressions ≤ room
      → ExpressionsAsks b ss k.records k.expressions columns count at room p
  expressions-asks at room l s h = record {
    planned = d.planned;
    names = d.names;
    few_expressions = d.few;
    size = d.holds.sections_size;
    few = records-few;
    sections = d.holds.sections;
    columns_size = listed-size l ∙ s;
    counted = l.count;
    listed = listed_front l (omega (arith, columns-few, s));
    fits = h;
  }

-- ---- frames

module _ {s b : List ℕ} {w x ss ds cs : List ℕ} {r : Planning} (g : FramesGiven s b true w x ss ds cs r) (out : List ℕ) where
  pub unplanned-map : {u : Unplanned} → r ≡ Err u → MapIs s b out out (Err u)
  unplanned-map {u} q =
      let what : Planned → Answer (List ℕ) = map_by b (length out) in
      let a : (g.answer then what) ≡ unplanned_says u = ap (λ (z : Answer Planned). z then what) (unplanned g q) ∙ unplanned-then u what in
      let z = reason u in
      record {
        answer = g.answer then what;
        goes = (g.answer, g.plans, refl);
        does = record {
          says = sym (ap (λ (y : Answer (List ℕ)). y then λ bytes. done (length bytes)) a ∙ unplanned-then u (λ (bytes : List ℕ). done (length bytes)));
          room = sym (ap (out_after out) (a ∙ z.says (List ℕ)));
        };
      }

  pub planned-map :
      {k : Plan} (q : r ≡ Ok k) {out' : List ℕ} {y : Mapping} → Does (map_by b (length out) (planned (pool_in g) (mapped b (pool_in g)))) out out' y → MapIs s b out out' y
  planned-map q d = record {
    answer = map_by b (length out) (planned (pool_in g) (mapped b (pool_in g)));
    goes = (g.answer, g.plans, sym (ap (λ (z : Answer Planned). z then map_by b (length out)) (answered g q)));
    does = d;
  }
