-- One pu and one grand product: the records of their columns, then their temporary columns. Assumes nothing.
use Prim.Native.Nat.{ℕ, ◌+◌, ◌<◌, ◌≤◌, max}
use mathlib.Core.Path.{◌≡◌, refl, sym, ◌∙◌, ap, subst}
use mathlib.Core.List.{List}
use native.Mathlib.Omega.{arith}
use native.Mathlib.Numerals.{add-one}
use lib.ListN.{set}
use Rattle.frames.specs.Order.{expression_limit}
use Rattle.pool.specs.Pool.{Pool}
use Rattle.pool.specs.Admission.{Ranked}
use Rattle.pool.specs.Ranking.{Starts}
use Rattle.pool.specs.Tabled.{Tables, tabled}
use Rattle.exp_dims.specs.Dimension.{exp_dim}
use Rattle.plans.specs.Plan.{Is, number_limit, pu_count, product_count, f_of, t_of, num_of, den_of}
use Rattle.plans.specs.Columns.{record_limit}
use Rattle.map_records.specs.Mapping.{Mapping, pair, twin, column, h_at, z_at, lookup_dim, lookup, lookups, products}
use Rattle.map_records.specs.Tables.{Holds, State, Planned, ProductsLow, DimAsks, Begun, ColumnAsks}
use Rattle.plans.specs.Passed.{names-there}
use Rattle.map_records.specs.Sizes.{size, pair_size, column-size, adding-grows, lookups-fit, products-fit}
use Rattle.map_records.proofs.Parts.{pair-next}

column-grows : (b : List ℕ) (e d : ℕ) (m : Mapping) → size m ≤ size (column b e d m)
column-grows b e d m = let k = column-size b e d m in let g = adding-grows b e m.columns in omega arith

-- ---- two columns after some records

module _ {b ss ds cs seen : List ℕ} {n : ℕ} {m : Mapping} (state : State b ss ds cs seen n m) (d : ℕ) {e x : ℕ} (ee : Is e x expression_limit) {f y : ℕ} (fe : Is f y expression_limit) (fits : size (column b y d (column b x d m)) ≤ record_limit) where
  pub one-asks : ColumnAsks b ss ds cs seen n e d m
  one-asks =
      record {
        state = state;
        small = ee.low;
        fits = let g = column-grows b y d (column b x d m) in subst (λ z. size (column b z d m) ≤ record_limit) (sym ee.is) (omega arith);
      }

  module _ {ss1 ds1 seen1 : List ℕ} {r1 : ℕ} (g1 : State b ss1 ds1 cs seen1 r1 (column b e d m)) where
    pub two-asks : ColumnAsks b ss1 ds1 cs seen1 r1 f d (column b e d m)
    two-asks =
        record {
          state = g1;
          small = fe.low;
          fits = subst (λ z. size (column b f d (column b z d m)) ≤ record_limit) (sym ee.is) (subst (λ z. size (column b z d (column b x d m)) ≤ record_limit) (sym fe.is) fits);
        }

    pub two-end : {ss2 ds2 seen2 : List ℕ} {r2 : ℕ} → State b ss2 ds2 cs seen2 r2 (column b f d (column b e d m)) → State b ss2 ds2 cs seen2 r2 (column b y d (column b x d m))
    two-end {ss2} {ds2} {seen2} {r2} g =
        subst (λ z. State b ss2 ds2 cs seen2 r2 (column b y d (column b z d m))) ee.is (subst (λ z. State b ss2 ds2 cs seen2 r2 (column b z d (column b e d m))) fe.is g)

-- ---- one pu

lookups-next : (b : List ℕ) (p : Pool) (i : ℕ) → lookup b p i (lookup_dim b p i (lookups b p i)) (lookups b p i) ≡ lookups b p (i + 1)
unfolding lookups
lookups-next b p i = ap (lookups b p) (sym (add-one i))

module _ {b : List ℕ} {t : Tables} {rank : ℕ → ℕ} {table ss ds cs seen : List ℕ} {n i : ℕ} (a : Begun b t rank table ss ds cs seen n (lookups b (tabled t) i)) (l : i < pu_count b) where
  abbrev p : Pool
  p = tabled t

  abbrev m : Mapping
  m = lookups b p i

  there-asks : {e : ℕ} → e < t.expression_count → DimAsks t table rank e
  there-asks h =
      record {
        starts = subst (λ z. Starts t z) (sym a.tabling) a.ready.starts;
        ranked = subst (λ z. Ranked (tabled t) z rank) (sym a.tabling) a.ready.ranked;
        there = h;
      }

  module _ {f : ℕ} (fe : Is f (f_of b i) number_limit) {u : ℕ} (ue : Is u (t_of b i) number_limit) where
    f-low : Is f (f_of b i) expression_limit
    f-low = let h = (names-there b t.expression_count a.ready.names).f i l in record { is = fe.is; low = omega (arith, fe.is, h, a.ready.starts.few_expressions) }

    t-low : Is u (t_of b i) expression_limit
    t-low = let h = (names-there b t.expression_count a.ready.names).t i l in record { is = ue.is; low = omega (arith, ue.is, h, a.ready.starts.few_expressions) }

    pub f-asks : DimAsks t table rank f
    f-asks = there-asks (subst (λ z. z < t.expression_count) (sym fe.is) ((names-there b t.expression_count a.ready.names).f i l))

    pub t-asks : DimAsks t table rank u
    t-asks = there-asks (subst (λ z. z < t.expression_count) (sym ue.is) ((names-there b t.expression_count a.ready.names).t i l))

    module _ {d : ℕ} (de : d ≡ max (exp_dim cs table p f) (exp_dim cs table p u)) where
      d-is : d ≡ lookup_dim b p i m
      d-is = de ∙ rw (a.state.holds.cm_dims, a.tabling, fe.is, ue.is)

      whole : lookup b p i d m ≡ lookups b p (i + 1)
      whole = rw d-is (lookups-next b p i)

      lookup-fits : size (lookup b p i d m) ≤ record_limit
      lookup-fits = subst (λ (z : Mapping). size z ≤ record_limit) (sym whole) (lookups-fit b p a.ready.planned.fits (i + 1) (omega (arith, l)))

      pub lookup-room : n + 3 < record_limit
      lookup-room =
          let g1 = column-grows b (f_of b i) d (pair 1 (h_at b p i + 1) d (pair 1 (h_at b p i) d m)) in
          let g2 = column-grows b (t_of b i) d (column b (f_of b i) d (pair 1 (h_at b p i + 1) d (pair 1 (h_at b p i) d m))) in
          let s1 = pair_size 1 (h_at b p i) d m in
          let s2 = pair_size 1 (h_at b p i + 1) d (pair 1 (h_at b p i) d m) in
          let c = a.state.holds.count in
          let w = lookup-fits in
          omega arith

      module _ {ss1 ds1 ss2 ds2 : List ℕ} (e1 : ss1 ≡ set (set ss n 1) (n + 1) (twin 1)) (f1 : ds1 ≡ set (set ds n d) (n + 1) d) (e2 : ss2 ≡ set (set ss1 (n + 2) 1) (n + 2 + 1) (twin 1)) (f2 : ds2 ≡ set (set ds1 (n + 2) d) (n + 2 + 1) d) (h : ℕ) (he : h ≡ h_at b p i) where
        pub lookup-held : State b ss2 ds2 (set (set cs h d) (h + 1) d) seen (n + 4) (pair 1 (h_at b p i + 1) d (pair 1 (h_at b p i) d m))
        lookup-held =
            let one : Holds ss1 ds1 (set cs h d) (n + 2) (pair 1 h d m) = pair-next a.state.holds 1 h d (omega (arith, lookup-room)) e1 f1 refl refl in
            let two : Holds ss2 ds2 (set (set cs h d) (h + 1) d) (n + 4) (pair 1 (h + 1) d (pair 1 h d m)) = pair-next one 1 (h + 1) d (omega (arith, lookup-room)) e2 f2 (omega arith) refl in
            record {
              holds = subst (λ z. Holds ss2 ds2 (set (set cs h d) (h + 1) d) (n + 4) (pair 1 (z + 1) d (pair 1 z d m))) he two;
              tells = a.state.tells;
            }

        pub lookup_first : ColumnAsks b ss2 ds2 (set (set cs h d) (h + 1) d) seen (n + 4) f d (pair 1 (h_at b p i + 1) d (pair 1 (h_at b p i) d m))
        lookup_first = one-asks lookup-held d f-low t-low lookup-fits

        module _ {ss3 ds3 seen3 : List ℕ} {r3 : ℕ} (g3 : State b ss3 ds3 (set (set cs h d) (h + 1) d) seen3 r3 (column b f d (pair 1 (h_at b p i + 1) d (pair 1 (h_at b p i) d m)))) where
          pub lookup-second : ColumnAsks b ss3 ds3 (set (set cs h d) (h + 1) d) seen3 r3 u d (column b f d (pair 1 (h_at b p i + 1) d (pair 1 (h_at b p i) d m)))
          lookup-second = two-asks lookup-held d f-low t-low lookup-fits g3

          pub lookup-end :
              {ss4 ds4 seen4 : List ℕ} {r4 : ℕ} → State b ss4 ds4 (set (set cs h d) (h + 1) d) seen4 r4 (column b u d (column b f d (pair 1 (h_at b p i + 1) d (pair 1 (h_at b p i) d m))))
              → State b ss4 ds4 (set (set cs h d) (h + 1) d) seen4 r4 (lookups b p (i + 1))
          lookup-end {ss4} {ds4} {seen4} {r4} g4 = subst (λ (z : Mapping). State b ss4 ds4 (set (set cs h d) (h + 1) d) seen4 r4 z) whole (two-end lookup-held d f-low t-low lookup-fits g3 g4)

-- ---- one grand product

products-next : (b : List ℕ) (p : Pool) (i : ℕ) → column b (den_of b i) 3 (column b (num_of b i) 3 (pair 2 (z_at b p i) 3 (products b p i))) ≡ products b p (i + 1)
unfolding products
products-next b p i = ap (products b p) (sym (add-one i))

module _ {b ss ds cs seen : List ℕ} {n i : ℕ} (planned : Planned b × ProductsLow b) (p : Pool) (a : State b ss ds cs seen n (products b p i)) (l : i < product_count b) {x : ℕ} (xe : Is x (num_of b i) number_limit) {y : ℕ} (ye : Is y (den_of b i) number_limit) where
  num-low : Is x (num_of b i) expression_limit
  num-low = let h = (planned.1 i l).0 in record { is = xe.is; low = omega (arith, xe.is, h) }

  den-low : Is y (den_of b i) expression_limit
  den-low = let h = (planned.1 i l).1 in record { is = ye.is; low = omega (arith, ye.is, h) }

  product-fits : size (column b (den_of b i) 3 (column b (num_of b i) 3 (pair 2 (z_at b p i) 3 (products b p i)))) ≤ record_limit
  product-fits = subst (λ (z : Mapping). size z ≤ record_limit) (sym (products-next b p i)) (products-fit b p planned.0.fits (i + 1) (omega (arith, l)))

  pub product-room : n + 1 < record_limit
  product-room =
      let g1 = column-grows b (num_of b i) 3 (pair 2 (z_at b p i) 3 (products b p i)) in
      let g2 = column-grows b (den_of b i) 3 (column b (num_of b i) 3 (pair 2 (z_at b p i) 3 (products b p i))) in
      let s = pair_size 2 (z_at b p i) 3 (products b p i) in
      let c = a.holds.count in
      let w = product-fits in
      omega arith

  module _ {ss1 ds1 : List ℕ} (e1 : ss1 ≡ set (set ss n 2) (n + 1) (twin 2)) (f1 : ds1 ≡ set (set ds n 3) (n + 1) 3) (z : ℕ) (ze : z ≡ z_at b p i) where
    product-held : State b ss1 ds1 (set cs z 3) seen (n + 2) (pair 2 (z_at b p i) 3 (products b p i))
    product-held =
        let one : Holds ss1 ds1 (set cs z 3) (n + 2) (pair 2 z 3 (products b p i)) = pair-next a.holds 2 z 3 product-room e1 f1 refl refl in
        record { holds = subst (λ k. Holds ss1 ds1 (set cs z 3) (n + 2) (pair 2 k 3 (products b p i))) ze one; tells = a.tells }

    pub product-first : ColumnAsks b ss1 ds1 (set cs z 3) seen (n + 2) x 3 (pair 2 (z_at b p i) 3 (products b p i))
    product-first = one-asks product-held 3 num-low den-low product-fits

    module _ {ss2 ds2 seen2 : List ℕ} {r2 : ℕ} (g2 : State b ss2 ds2 (set cs z 3) seen2 r2 (column b x 3 (pair 2 (z_at b p i) 3 (products b p i)))) where
      pub product-second : ColumnAsks b ss2 ds2 (set cs z 3) seen2 r2 y 3 (column b x 3 (pair 2 (z_at b p i) 3 (products b p i)))
      product-second = two-asks product-held 3 num-low den-low product-fits g2

      pub product-end :
          {ss3 ds3 seen3 : List ℕ} {r3 : ℕ} → State b ss3 ds3 (set cs z 3) seen3 r3 (column b y 3 (column b x 3 (pair 2 (z_at b p i) 3 (products b p i))))
          → State b ss3 ds3 (set cs z 3) seen3 r3 (products b p (i + 1))
      product-end {ss3} {ds3} {seen3} {r3} g3 = subst (λ (k : Mapping). State b ss3 ds3 (set cs z 3) seen3 r3 k) (products-next b p i) (two-end product-held 3 num-low den-low product-fits g2 g3)

-- ---- a part, from one mapping on to the next

pub state-at : {b ss ds cs seen : List ℕ} {n i j : ℕ} (to : ℕ → Mapping) → State b ss ds cs seen n (to i) → i ≡ j → State b ss ds cs seen n (to j)
state-at {b} {ss} {ds} {cs} {seen} {n} to s e = subst (λ (k : ℕ). State b ss ds cs seen n (to k)) e s

pub begun-at :
    {b : List ℕ} {t : Tables} {rank : ℕ → ℕ} {table ss ds cs seen ss' ds' cs' seen' : List ℕ} {n n' : ℕ} {m m' : Mapping} → Begun b t rank table ss ds cs seen n m
    → State b ss' ds' cs' seen' n' m' → Begun b t rank table ss' ds' cs' seen' n' m'
begun-at a s = record { ready = a.ready; tabling = a.tabling; state = s }
