-- DEMAND 3, before fixing: proved, over every algebra and so over the integers and modulo every number from 2 up.
-- Assumes nothing.
use Rattle.std.specs.Prelude.{ℕ, ◌+◌, ◌≤◌}
use Rattle.std.proofs.Common.{sym, ◌∙◌}
use Rattle.meaning.specs.Trees.{RowKind, Leaf, Placed, ◌at◌, leaves, Each}
use Rattle.meaning.specs.Values.{Algebra, Given}
use Rattle.meaning.specs.Generation.{start}
use Rattle.meaning.specs.Building.{every}
use Rattle.meaning.specs.Models.{integers, modulo}
use Rattle.meaning.specs.Demand3.{PlainLeaf, AllGiven, HeldFor, ValueFor, Demand3, Fed, Demand3Fed}
use Rattle.meaning.proofs.Laws.Tests.{each_map}
use Rattle.meaning.proofs.Laws.Early.{runs_in_order}
use Rattle.meaning.proofs.Laws.Value.{value-is}
use Rattle.meaning.proofs.Laws.Blocks.{start-inv}
use Rattle.meaning.proofs.Laws.Requests.{MarkedFor, serve_all-good}

pub demand3-fed : (𝓐 : Algebra) → Demand3Fed 𝓐
demand3-fed 𝓐 rows G E acyclic fed qs plain st h =
    let k = serve_all-good rows E 𝓐 G fed qs plain start st (start-inv 𝓐 G E) h in
    let v = k.inv in
    let held : Each (HeldFor 𝓐 G E v.end) qs = each_map (MarkedFor rows E st) (HeldFor 𝓐 G E v.end) (λ q m. v.holds q.expression q.row m) qs k.marked in
    record {
      end = v.end;
      runs = v.runs;
      no_early_read = runs_in_order 𝓐 G (every st.blocks) v.end v.runs;
      held = held;
      values =
          each_map (HeldFor 𝓐 G E v.end) (ValueFor 𝓐 G E v.end)
          (λ q w. w.1 ∙ sym ((value-is 𝓐 G E acyclic q.expression q.row w.0).0 w.2)) qs held;
    }

-- without x-kind and q leaves, what is given feeds every leaf
plain-fed : {A : Type 0} (rows : ℕ) (G : Given A) → AllGiven rows G → (p : Placed) → PlainLeaf p → Fed rows G p
plain-fed rows G g (Leaf.cell RowKind.cm i a at n) h = λ r l. g.cms i (r + a) l
plain-fed rows G g (Leaf.cell RowKind.const i a at n) h = λ r l. g.consts i (r + a) l
plain-fed rows G g (Leaf.cell RowKind.q i a at n) h = absurd h
plain-fed rows G g (Leaf.exp i a at n) h = tt
plain-fed rows G g (Leaf.number l at n) h = tt
plain-fed rows G g (Leaf.flat k i at n) h = g.flats k i
plain-fed rows G g (Leaf.x k at n) h = absurd h

pub demand3 : (𝓐 : Algebra) → Demand3 𝓐
demand3 𝓐 rows G E acyclic plain given =
    demand3-fed 𝓐 rows G E acyclic (λ e x q. each_map PlainLeaf (Fed rows G) (plain-fed rows G given) (leaves x.tree) (plain e x q))

pub demand3-integers : Demand3 integers
demand3-integers = demand3 integers

pub demand3-modulo : (n : ℕ) → 2 ≤ n → Demand3 (modulo n)
demand3-modulo n h = demand3 (modulo n)
