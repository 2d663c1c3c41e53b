-- The loop over all expressions: those before e are ranked and none is being followed.
-- Assumes nothing.
use Prim.Native.Nat.{ℕ, zero, suc, ◌+◌, ◌<◌, ◌≤◌}
use mathlib.Core.Path.{◌≡◌, refl, sym, ap, subst}
use mathlib.Core.List.{List}
use mathlib.Core.Logic.{⊎_elim}
use native.Mathlib.Omega.{arith}
use native.Mathlib.Nat.{eq-or-lt_of_le}
use lib.ListN.{get_or, replicate, length-replicate}
use Rattle.std.specs.Prelude.{Option, Some}
use Rattle.meaning.specs.Trees.{leaves}
use Rattle.pool.specs.Pool.{Pool, root_of}
use Rattle.pool.specs.Trees.{tree}
use Rattle.pool.specs.Admission.{leads_to, Ranked}
use Rattle.pool.specs.Tabled.{Tables, tabled}
use Rattle.pool.specs.Ranking.{count_below, pending, State, AsksVisit, Gives, Starts, rank_in}
use Rattle.pool.specs.Laws.Members.{member-each}
use Rattle.pool.specs.Laws.Tabled.{expression-count}
use Rattle.pool.proofs.Ranks.{later-ranked, later-followed, ranked-some}

-- a table of ranks in which nothing is reached
pub zero-at : (n i : ℕ) → get_or {A = ℕ} (replicate n 0) i 0 ≡ 0
zero-at zero i = refl
zero-at (suc n) zero = refl
zero-at (suc n) (suc i) = zero-at n i

all-pending : (s : List ℕ) → ((i : ℕ) → get_or s i 0 ≡ 0) → (m : ℕ) → count_below (pending s) m ≡ m
unfolding count_below
all-pending s z zero = refl
all-pending s z (suc m) = rw (z m) (ap suc (all-pending s z m))

module _ (t : Tables) (table : List ℕ) where
  abbrev p : Pool
  p = tabled t

  pub record Progress (s : List ℕ) (done e : ℕ) : Type 0 where
    pub state : State t table s done
    pub quiet : (g : ℕ) → get_or s g 0 ≡ 1 → ⊥
    pub ranked : (j : ℕ) → j < e → 2 ≤ get_or s j 0

  pub begin : Starts t table → Progress (replicate 512 0) 0 0
  begin a = record {
    state = record {
      shaped = a.shaped;
      few_nodes = a.few_nodes;
      few_expressions = a.few_expressions;
      tabulated = a.tabulated;
      size = length-replicate {A = ℕ} 512 0;
      sound = record {
        low = λ b l h. absurd (omega (arith, zero-at 512 b));
        falls = λ b l h. absurd (omega (arith, zero-at 512 b));
      };
      counted = omega (arith, all-pending (replicate 512 0) (zero-at 512) t.expression_count);
    };
    quiet = λ g h. omega (arith, zero-at 512 g);
    ranked = λ j l. absurd (omega arith);
  }

  module _ {s : List ℕ} {done e : ℕ} (a : Progress s done e) where
    pub asks : e < t.expression_count → AsksVisit t table s done e
    asks l = record { state = a.state; there = l; follows = λ g h. absurd (a.quiet g h) }

    pub advance : {s' : List ℕ} {r : Option ℕ} → Gives t table s s' r (2 ≤ get_or s' e 0) → {d : ℕ} → r ≡ Some d → Progress s' d (e + 1)
    advance {s'} g q =
        let k = ranked-some t table g q in
        record {
          state = k.state;
          quiet = λ j h. a.quiet j (later-followed s s' k.later j h);
          ranked = λ j l. ⊎_elim (λ w. subst (λ i. 2 ≤ get_or s' i 0) (sym w) k.goal) (λ w. later-ranked s s' k.later j (a.ranked j w)) (eq-or-lt_of_le (let z : j ≤ e = omega arith in z));
        }

    pub finish : t.expression_count ≤ e → Ranked p table (rank_in s)
    finish l = record {
      below = λ b h.
          let i : b < t.expression_count = subst (λ n. b < n) (expression-count t) h in
          let k = a.ranked b (omega arith) in
          rw (expression-count t) (omega (arith, k, a.state.sound.low b i k, a.state.counted));
      falls = λ b u d.
          let i : b < t.expression_count = subst (λ n. b < n) (expression-count t) d.source in
          let k = a.ranked b (omega arith) in
          let q = member-each (λ w. (u : ℕ) → leads_to table w ≡ mathlib.Core.Option.some u → (2 ≤ get_or s u 0) × (get_or s u 0 < get_or s b 0)) (leaves (tree p (root_of p b))) (a.state.sound.falls b i k) d.leaf d.stands u d.leads in
          omega (arith, q.0, q.1, k);
    }
