-- The sections: positions and widths, the head of the answer, and the records. Assumes nothing.
use Prim.Native.Nat.{ℕ, zero, suc, ◌+◌, ◌*◌, ◌<◌, ◌≤◌}
use mathlib.Core.Path.{◌≡◌, refl, sym, ◌∙◌, ap, ap₂}
use mathlib.Core.Bool.{true}
use mathlib.Core.List.{List, [], ◌∷◌, ◌++◌, append_assoc}
use native.Mathlib.Omega.{arith}
use lib.ListN.{length, get_or, take, replicate, length-append, length-replicate}
use lib.Seq.{take_all, take_at, get_or-take, length-take-le}
use borrow.Author.Tests.{eq-eqb}
use Rattle.meaning.specs.Refusals.{done}
use Rattle.plans.specs.Columns.{record_limit}
use Rattle.sections.specs.Sums.{each, each-length}
use Rattle.sections.specs.Sections.{mapping, known, section_count, width_count, widths, first_width, whole_width, third_width, well_formed, positions_from, position_of}
use Rattle.sections.specs.Answer.{MappedIs, positions_after, widths_after}
use Rattle.sections.specs.Exactly.{maps}
use Rattle.std.specs.Prelude.{Result}
use Rattle.kinds.specs.declared.refusal.Refusal.{Refusal}
use Rattle.plan_tables.specs.Tables.{offset_count, offset_of, offsets_of}
use Rattle.plan_map.specs.Numbers.{rows_by, offset_row, record_row, head_numbers, section_numbers}
use Rattle.plan_map.specs.Puts.{Puts, puts-next, puts-is, rows-size, rows_same}
use Rattle.plan_map.specs.Parts.{PlaceAsked, PlaceGiven, head_size}

-- ---- positions and widths

take-zeros : (n m : ℕ) → n ≤ m → take n (replicate {A = ℕ} m 0) ≡ replicate n 0
take-zeros zero m h = refl
take-zeros (suc n) zero h = absurd (omega arith)
take-zeros (suc n) (suc m) h = ap (λ (l : List ℕ). 0 ∷ l) (take-zeros n m (omega arith))

pub widths-size : (ss ds : List ℕ) → length (widths ss ds) ≡ width_count
widths-size ss ds =
    length-append (each (first_width ss ds) section_count ++ each (whole_width ss ds) section_count) (each (third_width ss ds) section_count)
    ∙ ap₂ (λ x y. x + y)
    (length-append (each (first_width ss ds) section_count) (each (whole_width ss ds) section_count)
    ∙ ap₂ (λ x y. x + y) (each-length (first_width ss ds) section_count) (each-length (whole_width ss ds) section_count))
    (each-length (third_width ss ds) section_count)

well_formed_lem :
    (ss ds ps : List ℕ) (room : ℕ) → length ds ≡ length ss → length ps ≡ length ss → room ≡ width_count → length ss ≤ record_limit → known ss ≡ true
    → well_formed ss ds ps room ≡ true
unfolding well_formed
well_formed_lem ss ds ps room a c e few h =
    rw (eq-eqb (length ds) (length ss) a, eq-eqb (length ps) (length ss) c, eq-eqb room width_count e, take_all (record_limit + 1) ss (omega arith)) h

module _ {ss ds : List ℕ} {n : ℕ} {ps ws : List ℕ} (a : PlaceAsked ss ds n ps ws) where
  pub sections-taken : length (take n ss) ≡ n
  sections-taken = length-take-le n ss (omega (arith, a.few, a.sections_size))

  pub dims-taken : length (take n ds) ≡ n
  dims-taken = length-take-le n ds (omega (arith, a.few, a.dims_size))

  pub positions-room : n ≤ length ps
  positions-room = omega (arith, a.few, ap length a.cleared ∙ length-replicate {A = ℕ} record_limit 0)

  pub positions-taken : length (take n ps) ≡ n
  positions-taken = length-take-le n ps positions-room

  pub placed : {ps' ws' : List ℕ} {r : Result (Unit {0}) Refusal} → MappedIs (take n ss) (take n ds) (take n ps) ps' ws ws' r → (rest : List ℕ) → PlaceGiven ss ds n (ps' ++ rest) ws'
  placed {ps'} {ws'} g rest = record { placed = take_at ps' rest n long ∙ is; wide = wide }
    where
      zeros : take n ps ≡ replicate n 0
      zeros = ap (take n) a.cleared ∙ take-zeros n record_limit a.few

      fine : mapping (take n ss) (take n ds) (take n ps) (length ws) ≡ done (record { positions = positions_from (take n ss) (take n ds) (take n ps); widths = widths (take n ss) (take n ds) })
      fine =
          maps (take n ss) (take n ds) (take n ps) (length ws)
          (well_formed_lem (take n ss) (take n ds) (take n ps) (length ws) (dims-taken ∙ sym sections-taken) (positions-taken ∙ sym sections-taken) a.room (omega (arith, sections-taken, a.few)) a.there)
          (omega (arith, sections-taken, a.few))

      first : ps' ≡ positions_from (take n ss) (take n ds) (take n ps)
      first = g.positions ∙ ap (positions_after (take n ps)) fine

      is : ps' ≡ positions_from (take n ss) (take n ds) (replicate n 0)
      is = first ∙ ap (positions_from (take n ss) (take n ds)) zeros

      long : length ps' ≡ n
      long = ap length first ∙ each-length (λ k. position_of (take n ss) (take n ds) (get_or (take n ps) k 0) k) (length (take n ps)) ∙ positions-taken

      wide : ws' ≡ widths (take n ss) (take n ds)
      wide = g.widths ∙ ap (widths_after ws) fine

-- ---- the head

pub offsets-size : (n e : ℕ) (ws : List ℕ) {offsets : List ℕ} → offsets ≡ offsets_of n e ws → length offsets ≡ offset_count
offsets-size n e ws h = ap length h ∙ each-length (offset_of n e ws) offset_count

pub head-size : (n e : ℕ) (ws counts : List ℕ) → length ws ≡ width_count → length counts ≡ 4 → length (head_numbers n e ws counts) ≡ 85
unfolding head_numbers
head-size n e ws counts h g =
    omega (
      arith,
      length-append (rows_by (offset_row (offsets_of n e ws)) offset_count ++ counts) ws,
      length-append (rows_by (offset_row (offsets_of n e ws)) offset_count) counts,
      rows-size (offset_row (offsets_of n e ws)) 4 offset_count (λ k. refl),
      h,
      g,
    )

pub head-end : (n e : ℕ) (ws : List ℕ) {out o : List ℕ} (records cms columns q : ℕ) {r : ℕ} → Puts out 0 (head_numbers n e ws (records ∷ cms ∷ columns ∷ q ∷ [])) o r → length ws ≡ width_count → r ≡ head_size
head-end n e ws records cms columns q h w = omega (arith, h.next, head-size n e ws (records ∷ cms ∷ columns ∷ q ∷ []) w refl)

pub head-put :
    {out o₁ o₂ o₃ o₄ : List ℕ} (offsets ws : List ℕ) {e₁ e₂ e₃ r : ℕ} (n e : ℕ) {records cms columns q : ℕ} → offsets ≡ offsets_of n e ws → length ws ≡ width_count
    → Puts out 0 (rows_by (offset_row offsets) offset_count) o₁ e₁ → Puts o₁ e₁ (records ∷ cms ∷ []) o₂ e₂ → Puts o₂ e₂ (columns ∷ q ∷ []) o₃ e₃
    → Puts o₃ e₃ (take width_count ws) o₄ r → Puts out 0 (head_numbers n e ws (records ∷ cms ∷ columns ∷ q ∷ [])) o₄ r
unfolding head_numbers
head-put offsets ws n e {records} {cms} {columns} {q} s w f g h k =
    puts-is
    (ap₂ (λ (x y : List ℕ). x ++ y)
    (append_assoc (rows_by (offset_row offsets) offset_count) (records ∷ cms ∷ []) (columns ∷ q ∷ [])
    ∙ ap (λ (z : List ℕ). rows_by (offset_row z) offset_count ++ (records ∷ cms ∷ columns ∷ q ∷ [])) s)
    (take_all width_count ws (omega (arith, w))))
    (puts-next (puts-next (puts-next f g) h) k)

-- ---- and the records

module _ {ss ds : List ℕ} {n : ℕ} {ps ws : List ℕ} (g : PlaceGiven ss ds n ps ws) where
  pub given-size : length ws ≡ width_count
  given-size = ap length g.wide ∙ widths-size (take n ss) (take n ds)

  abbrev places : List ℕ
  places = positions_from (take n ss) (take n ds) (replicate n 0)

  pub sections-put :
      {out o₁ o₂ : List ℕ} {e r : ℕ} (a c : ℕ) (counts : List ℕ) → length (take n ss) ≡ n → Puts out 0 (head_numbers a c ws counts) o₁ e
      → Puts o₁ e (rows_by (record_row ss ds ps) n) o₂ r → Puts out 0 (section_numbers a c (take n ss) (take n ds) places counts) o₂ r
  unfolding section_numbers
  sections-put a c counts s f h =
      puts-is (ap₂ (λ (x y : List ℕ). x ++ y) (ap (λ (z : List ℕ). head_numbers a c z counts) g.wide) rows) (puts-next f h)
    where
      row : (k : ℕ) → k < n → record_row ss ds ps k ≡ record_row (take n ss) (take n ds) places k
      row k l =
          let x : get_or (take n ss) k 0 ≡ get_or ss k 0 = get_or-take n ss k 0 l in
          let y : get_or (take n ds) k 0 ≡ get_or ds k 0 = get_or-take n ds k 0 l in
          let z : get_or places k 0 ≡ get_or ps k 0 = ap (λ (p : List ℕ). get_or p k 0) (sym g.placed) ∙ get_or-take n ps k 0 l in
          cc

      rows : rows_by (record_row ss ds ps) n ≡ rows_by (record_row (take n ss) (take n ds) places) (length (take n ss))
      rows = rows_same (record_row ss ds ps) (record_row (take n ss) (take n ds) places) n row ∙ ap (rows_by (record_row (take n ss) (take n ds) places)) (sym s)

pub section-size : (n e : ℕ) (ss ds ps counts : List ℕ) → length counts ≡ 4 → length (section_numbers n e ss ds ps counts) ≡ 85 + 3 * length ss
unfolding section_numbers
section-size n e ss ds ps counts h =
    length-append (head_numbers n e (widths ss ds) counts) (rows_by (record_row ss ds ps) (length ss))
    ∙ ap₂ (λ x y. x + y) (head-size n e (widths ss ds) counts (widths-size ss ds) h) (rows-size (record_row ss ds ps) 3 (length ss) (λ k. refl))
