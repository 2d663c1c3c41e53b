-- THE TWO CONDITIONS ON A PLAN, over its record: no two intermediates have one cm number, and no cm leaf of an expression reads one. They are what demand 3
-- after fixing asks of the plan that the record's rules are.
-- Assumes nothing.
use Rattle.std.specs.Prelude.{ℕ, ◌<◌, ◌≤◌, ◌≡◌, Bool, List, length}
use Rattle.std.proofs.Common.{sym, ◌∙◌, ap}
use Rattle.meaning.specs.Trees.{RowKind, Leaf, Forest, Placed, ◌at◌, leaves}
use Rattle.meaning.specs.Demand3.{Throughout}
use Rattle.meaning.proofs.Laws.Tests.{each_map}
use Rattle.frames.specs.Order.{expression_limit}
use Rattle.frames.specs.Taking.{Bytes}
use Rattle.pool.specs.Pool.{Pool}
use Rattle.plans.specs.Plan.{im_count, im_of, im_cm}
use Rattle.plans.specs.Columns.{record_limit, record_count}
use Rattle.map_records.specs.Mapping.{mapped}
use Rattle.fixed_meaning.specs.Fixing.{Plan}
use Rattle.fixed_meaning.specs.Demand3Fixed.{ColumnsDiffer, NoIntermediateRead}
use Rattle.fixing.specs.ProverCode.{plan_of}
use Rattle.planning.specs.Planning.{planned}
use Rattle.plan_walks.specs.Fix.{rules_in}
use Rattle.plan_demand3.specs.Rules.{im-of, column-of}

module _ (b : List ℕ) where
  -- no two intermediates have one cm number
  abbrev pub IntermediatesDiffer : Type 0
  IntermediatesDiffer = (i j : ℕ) → i < im_count b → j < im_count b → im_cm b i ≡ im_cm b j → i ≡ j

  -- a cm leaf reads no intermediate's
  abbrev pub NoLeafReadsIntermediate : Placed → Type 0
  NoLeafReadsIntermediate (Leaf.cell RowKind.cm c a at n) = (k : ℕ) → k < im_count b → im_cm b k ≡ c → ⊥
  NoLeafReadsIntermediate (Leaf.cell RowKind.const i a at n) = Unit {0}
  NoLeafReadsIntermediate (Leaf.cell RowKind.q i a at n) = Unit {0}
  NoLeafReadsIntermediate (Leaf.exp i a at n) = Unit {0}
  NoLeafReadsIntermediate (Leaf.number l at n) = Unit {0}
  NoLeafReadsIntermediate (Leaf.flat k i at n) = Unit {0}
  NoLeafReadsIntermediate (Leaf.x k at n) = Unit {0}

-- the plan that the record's rules are
abbrev pub plan_for : Bool → List ℕ → Pool → Plan
plan_for in_n b p = plan_of (rules_in in_n b (planned p (mapped b p)))

module _ (in_n : Bool) (b : List ℕ) (p : Pool) (few : length p.expressions ≤ expression_limit) (bytes : Bytes b) (fit : record_count b ≤ record_limit) where
  -- ITS COLUMNS DIFFER
  pub columns_differ : IntermediatesDiffer b → ColumnsDiffer (plan_for in_n b p)
  columns_differ differ =
      record {
        ims =
            λ e e' c h h'.
            let x = im-of in_n b p few bytes fit e c h in
            let y = im-of in_n b p few bytes fit e' c h' in
            sym x.2 ∙ ap (im_of b) (differ x.0 y.0 x.1 y.1 (x.3 ∙ sym y.3)) ∙ y.2;
        columns = λ e e' k h h'. sym (column-of in_n b p few bytes fit e k h).1 ∙ (column-of in_n b p few bytes fit e' k h').1;
      }

  -- NO LEAF READS AN INTERMEDIATE'S COLUMN
  leaf-alone : (l : Placed) → NoLeafReadsIntermediate b l → NoIntermediateRead (plan_for in_n b p) l
  leaf-alone (Leaf.cell RowKind.cm c a at n) h = λ e q. let x = im-of in_n b p few bytes fit e c q in h x.0 x.1 x.3
  leaf-alone (Leaf.cell RowKind.const i a at n) h = tt
  leaf-alone (Leaf.cell RowKind.q i a at n) h = tt
  leaf-alone (Leaf.exp i a at n) h = tt
  leaf-alone (Leaf.number l at n) h = tt
  leaf-alone (Leaf.flat k i at n) h = tt
  leaf-alone (Leaf.x k at n) h = tt

  pub alone_throughout : (E : Forest) → Throughout (NoLeafReadsIntermediate b) E → Throughout (NoIntermediateRead (plan_for in_n b p)) E
  alone_throughout E h e x q = each_map (NoLeafReadsIntermediate b) (NoIntermediateRead (plan_for in_n b p)) leaf-alone (leaves x.tree) (h e x q)
