-- From each part of a plan to the next, over plain variables. Assumes nothing.
use Prim.Native.Nat.{ℕ, ◌+◌, ◌<◌}
use mathlib.Core.Path.{◌≡◌, sym, ◌∙◌, ap, subst}
use mathlib.Core.List.{List, []}
use native.Mathlib.Omega.{arith}
use lib.ListN.{set, replicate}
use Rattle.frames.specs.Order.{expression_limit}
use Rattle.pool.specs.Pool.{Pool}
use Rattle.pool.specs.Admission.{Ranked}
use Rattle.pool.specs.Ranking.{Starts}
use Rattle.pool.specs.Tabled.{Tables, tabled}
use Rattle.exp_dims.specs.Dimension.{exp_dim}
use Rattle.plans.specs.Plan.{Is, number_limit, cm1, c_exp, pu_count, im_count, product_count, q_deg}
use Rattle.plans.specs.Columns.{record_limit}
use Rattle.plans.specs.Counting.{Tells, MarkAsks, known}
use Rattle.plans.specs.Counts.{none_told}
use Rattle.map_records.specs.Mapping.{pol, cm1s, lookups, products, intermediates, quotient_dim, quotients, mapped}
use Rattle.map_records.specs.Tables.{Holds, State, Planned, ProductsLow, DimAsks, Begun, ImAsks, QuotientAsks}
use Rattle.map_records.specs.All.{AllAsks, Mapped}
use Rattle.map_records.specs.Held.{holds-pol}
use Rattle.plans.specs.Passed.{names-there}
use Rattle.map_records.specs.Sizes.{cm1s-columns, quotients-fit}

module _ {b : List ℕ} {t : Tables} {rank : ℕ → ℕ} {table ss ds cs : List ℕ} (a : AllAsks b t rank table ss ds cs) where
  abbrev p : Pool
  p = tabled t

  pub planned : Planned b
  planned = a.ready.planned

  pub mark-asks : MarkAsks expression_limit b (replicate expression_limit 0)
  mark-asks = record {
    whole = planned.whole;
    low = λ i h g. let k = (names-there b t.expression_count a.ready.names).im i h in omega (arith, k, a.ready.starts.few_expressions);
    blank = none_told expression_limit;
  }

  pub products_low : ProductsLow b
  products_low i h =
      let k = names-there b t.expression_count a.ready.names in
      (let n = k.num i h in omega (arith, n, a.ready.starts.few_expressions), let n = k.den i h in omega (arith, n, a.ready.starts.few_expressions))

  -- the pu follow the first columns
  pub to-lookups :
      {ss1 ds1 cs1 seen : List ℕ} {n : ℕ} → Holds ss1 ds1 cs1 n (cm1s b p (cm1 b)) → Tells expression_limit (known b []) seen → Begun b t rank table ss1 ds1 cs1 seen n (lookups b p 0)
  unfolding lookups
  to-lookups {ss1} {ds1} {cs1} {seen} h q =
      record {
        ready = a.ready;
        tabling = a.tabling;
        state = record { holds = h; tells = subst (λ (z : List ℕ). Tells expression_limit (known b z) seen) (sym (cm1s-columns b p (cm1 b))) q };
      }

  -- the grand products follow the pu
  pub to-products : {ss1 ds1 cs1 seen : List ℕ} {n : ℕ} → State b ss1 ds1 cs1 seen n (lookups b p (pu_count b)) → State b ss1 ds1 cs1 seen n (products b p 0)
  unfolding products
  to-products s = s

  -- the intermediates follow them
  pub to-intermediates : {ss1 ds1 cs1 seen : List ℕ} {n : ℕ} → State b ss1 ds1 cs1 seen n (products b p (product_count b)) → ImAsks b t rank table ss1 ds1 cs1 n
  unfolding intermediates
  to-intermediates s = record { ready = a.ready; tabling = a.tabling; holds = s.holds }

  -- the constraint's expression is there
  pub constraint-asks : {e : ℕ} → Is e (c_exp b) number_limit → DimAsks t table rank e
  constraint-asks h =
      record {
        starts = subst (λ (z : List ℕ). Starts t z) (sym a.tabling) a.ready.starts;
        ranked = subst (λ (z : List ℕ). Ranked (tabled t) z rank) (sym a.tabling) a.ready.ranked;
        there = subst (λ z. z < t.expression_count) (sym h.is) (names-there b t.expression_count a.ready.names).constraint;
      }

  module _ {ss1 ds1 cs1 : List ℕ} {n : ℕ} (h : Holds ss1 ds1 cs1 n (intermediates b p (im_count b))) {e : ℕ} (ee : Is e (c_exp b) number_limit) {d : ℕ} (de : d ≡ exp_dim cs1 table p e) where
    pub dim-is : d ≡ quotient_dim b p
    unfolding quotient_dim
    dim-is = de ∙ rw (h.cm_dims, a.tabling, ee.is)

    -- the pieces of the quotient follow the intermediates
    pub to-quotients : QuotientAsks b ss1 ds1 cs1 n d p
    unfolding quotients
    to-quotients = record { holds = h; dim = dim-is }

    module _ {ss2 ds2 cs2 : List ℕ} {k : ℕ} (g : Holds ss2 ds2 cs2 k (quotients b p (q_deg b))) where
      pub last-room : k + 1 < record_limit
      last-room = let f = quotients-fit b p planned.fits (q_deg b) (omega arith) in let c = g.count in omega arith

      -- q and f last
      pub all-mapped :
          {ss3 ds3 ss4 ds4 : List ℕ} → ss3 ≡ set ss2 k 9 → ds3 ≡ set ds2 k d → ss4 ≡ set ss3 (k + 1) 10 → ds4 ≡ set ds3 (k + 1) 3
          → Mapped b t ss4 ds4 cs2 (record { count = k + 2; q_dim = d })
      unfolding mapped
      all-mapped {ss3} {ds3} {ss4} {ds4} e1 f1 e2 f2 =
          let one : Holds (set ss2 k 9) (set ds2 k d) cs2 (k + 1) (pol 9 d (quotients b p (q_deg b))) = holds-pol g 9 d (omega (arith, last-room)) in
          let two : Holds (set (set ss2 k 9) (k + 1) 10) (set (set ds2 k d) (k + 1) 3) cs2 (k + 1 + 1) (pol 10 3 (pol 9 d (quotients b p (q_deg b)))) = holds-pol one 10 3 last-room in
          let q : k + 1 + 1 ≡ k + 2 = omega arith in
          let s : ss4 ≡ set (set ss2 k 9) (k + 1) 10 = e2 ∙ ap (λ (z : List ℕ). set z (k + 1) 10) e1 in
          let u : ds4 ≡ set (set ds2 k d) (k + 1) 3 = f2 ∙ ap (λ (z : List ℕ). set z (k + 1) 3) f1 in
          record {
            holds =
                subst (λ (z : List ℕ). Holds z ds4 cs2 (k + 2) (pol 10 3 (pol 9 (quotient_dim b p) (quotients b p (q_deg b))))) (sym s)
                (subst (λ (z : List ℕ). Holds (set (set ss2 k 9) (k + 1) 10) z cs2 (k + 2) (pol 10 3 (pol 9 (quotient_dim b p) (quotients b p (q_deg b))))) (sym u)
                (subst (λ (z : ℕ). Holds (set (set ss2 k 9) (k + 1) 10) (set (set ds2 k d) (k + 1) 3) cs2 (k + 2) (pol 10 3 (pol 9 z (quotients b p (q_deg b))))) dim-is
                (subst (λ (z : ℕ). Holds (set (set ss2 k 9) (k + 1) 10) (set (set ds2 k d) (k + 1) 3) cs2 z (pol 10 3 (pol 9 d (quotients b p (q_deg b))))) q two)));
            quotient = dim-is;
          }
