-- Requests of which the last asks for a result: those before it, and it. No word of the code.
-- Assumes nothing.
use Prim.Native.Nat.{ℕ, ◌+◌, ◌*◌, ◌<◌}
use mathlib.Core.Path.{◌≡◌, ◌∙◌, ap, subst}
use mathlib.Core.Bool.{Bool}
use mathlib.Core.Option.{Option, none, some}
use mathlib.Core.List.{List, [], ◌∷◌, ◌++◌}
use native.Mathlib.Omega.{arith}
use lib.ListN.{get_or}
use lib.Dec.{ltb}
use borrow.Author.Tests.{lt-ltb}
use Rattle.std.specs.Prelude.{Result, Ok, Err}
use Rattle.meaning.specs.Refusals.{Refusal, Answer, refused}
use Rattle.meaning.specs.Trees.{Forest, Acyclic}
use Rattle.meaning.specs.Order.{Asked}
use Rattle.meaning.specs.Generation.{Request}
use Rattle.meaning.specs.Asking.{ask_one, ask_all}
use Rattle.kinds.specs.declared.refusal.Refused.{Refused}
use Rattle.frames.specs.Order.{expression_limit}
use Rattle.frames.specs.Tables.{request_in}
use Rattle.frames.specs.declared.rest.Request as frame
use Rattle.pool.specs.Trees.{forest}
use Rattle.starkinfo_codegen.specs.Emitting.{Rest, pool_of}
use Rattle.starkinfo_codegen.specs.Ordering.{marks_of}
use Rattle.requests.specs.Planning.{request_at, requests_in, Adds, Says, OneAsks, PlanAsks}
use Rattle.requests.specs.Last.{MarkedBefore, LastSays}
use Rattle.requests.specs.declared.last.LastPlan.{LastPlan}
use Rattle.requests.proofs.Plans.{adds_then, stops_then, stays, one_more}

pub mark-at : (s : List ℕ) (e r : ℕ) → r < 2 → ltb 0 (get_or s (2 * e + r) 0) ≡ marks_of s e r
unfolding marks_of
mark-at s e r h = rw (lt-ltb r 2 h)

-- the cell of a request that is there
module _ (w x : List ℕ) (b : Rest) (A : Acyclic (forest (pool_of w b))) {r s j : List ℕ} {m n k : ℕ} (a : OneAsks w x b A r s j m n k) (q : frame.Request) (h : q ≡ request_in r k) where
  pub cell-there : q.expression < m → (q.expression < expression_limit) × (q.prime < 2)
  cell-there l = (omega (arith, a.world.few, a.expressions), omega (arith, a.in_row, ap (λ z. z.prime) h))

  pub mark-is : {v : Bool} → v ≡ marks_of s q.expression q.prime → v ≡ marks_of s (request_at r k).expression (request_at r k).row
  mark-is e = e ∙ ap (λ z. marks_of s z.expression z.prime) h

-- those before the last
module _ (w x : List ℕ) (b : Rest) (A : Acyclic (forest (pool_of w b))) {r s j : List ℕ} {m : ℕ} (k : ℕ) (a : PlanAsks w x b A r s j m (k + 1)) where
  abbrev E : Forest
  E = forest (pool_of w b)

  abbrev first_ones : Answer Asked
  first_ones = ask_all 2 E (requests_in r k) (marks_of s)

  abbrev all : Answer Asked
  all = ask_all 2 E (requests_in r (k + 1)) (marks_of s)

  pub before-asks : PlanAsks w x b A r s j m k
  before-asks = record {
    world = a.world;
    state = a.state;
    expressions = a.expressions;
    few = omega (arith, a.few);
    in_rows = λ i l. a.in_rows i (omega arith);
  }

  before-stops : {f : Refusal} {o : Option ℕ} → first_ones ≡ refused f o → all ≡ refused f o
  before-stops h = stays E r s k (k + 1) h (omega arith)

  module _ (s' j' : List ℕ) (z : Result ℕ Refused) (g : Says first_ones s' j j' 0 z) where
    pub before-stopped : {f : Refused} → z ≡ Err f → LastSays (MarkedBefore E r k s) all s' j j' 0 (Err f)
    before-stopped e = let h = subst (Says first_ones s' j j' 0) e g in (before-stops h.0, h.1)

    module _ {n : ℕ} (e : z ≡ Ok n) where
      planned : Adds first_ones s' j j' 0 n
      planned = subst (Says first_ones s' j j' 0) e g

      pub final-asks : OneAsks w x b A r s' j' m n k
      final-asks = record {
        world = a.world;
        state = planned.state;
        expressions = a.expressions;
        there = omega (arith, a.few);
        in_row = a.in_rows k (omega arith);
      }

      abbrev MarkIs : Bool → Type 0
      MarkIs v = v ≡ marks_of s' (request_at r k).expression (request_at r k).row

      more : {y : Answer Asked} → ask_all 2 E (requests_in r k ++ (request_at r k ∷ [])) (marks_of s) ≡ y → all ≡ y
      more h = ap (λ (qs : List Request). ask_all 2 E qs (marks_of s)) (one_more E r k) ∙ h

      pub final-says :
          (s'' j'' : List ℕ) (p : Result LastPlan Refused) → LastSays MarkIs (ask_one 2 E (request_at r k) (marks_of s')) s'' j' j'' n p →
          LastSays (MarkedBefore E r k s) all s'' j j'' 0 p
      final-says s'' j'' (Ok p) h = (
        rw (one_more E r k) (adds_then E (requests_in r k) (request_at r k) s planned h.0),
        record { before = _; is = planned.is; marked = h.1 },
      )
      final-says s'' j'' (Err f) h = (more (stops_then E (requests_in r k) (request_at r k) s planned h.0), h.1)

-- what a plan says, by its case
pub told : (y : Answer Asked) (s' j j' : List ℕ) (n : ℕ) (p q : Result ℕ Refused) → Says y s' j j' n p → p ≡ q → Says y s' j j' n q
told y s' j j' n p q g e = subst (Says y s' j j' n) e g
