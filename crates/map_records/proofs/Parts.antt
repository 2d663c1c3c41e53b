-- One step of each part of a plan, over plain variables. Assumes nothing.
use Prim.Native.Nat.{ℕ, ◌+◌, ◌*◌, ◌<◌}
use mathlib.Core.Path.{◌≡◌, sym, ◌∙◌, ap, subst}
use mathlib.Core.List.{List}
use native.Mathlib.Omega.{arith}
use native.Mathlib.Numerals.{add-one}
use lib.ListN.{set}
use Rattle.pool.specs.Pool.{Pool}
use Rattle.pool.specs.Tabled.{Tables, tabled}
use Rattle.pool.specs.Admission.{Ranked}
use Rattle.pool.specs.Ranking.{Starts}
use Rattle.exp_dims.specs.Dimension.{exp_dim}
use Rattle.plans.specs.Plan.{cm1, cm2, cm3, q_deg, im_count, im_of}
use Rattle.plans.specs.Columns.{record_limit}
use Rattle.map_records.specs.Mapping.{Mapping, pair, twin, fresh, cm1s, z_at, dim_in, intermediates, quotient_dim, quotients}
use Rattle.map_records.specs.Tables.{Holds, Planned, DimAsks, ImAsks, QuotientAsks}
use Rattle.map_records.specs.Held.{holds-pair}
use Rattle.plans.specs.Passed.{names-there}
use Rattle.map_records.specs.Sizes.{size, pair_size, intermediates-fit, quotients-fit}

-- the two records of a cm, as they were written
pub pair-next :
    {ss ds cs ss' ds' : List ℕ} {n n' : ℕ} {m m' : Mapping} → Holds ss ds cs n m → (s k d : ℕ) → n + 1 < record_limit
    → ss' ≡ set (set ss n s) (n + 1) (twin s) → ds' ≡ set (set ds n d) (n + 1) d → n + 2 ≡ n' → pair s k d m ≡ m' → Holds ss' ds' (set cs k d) n' m'
pair-next {ss} {ds} {cs} {ss'} {ds'} {n} {n'} {m} {m'} h s k d l e f g q =
    subst (λ j. Holds ss' ds' (set cs k d) j m') g
    (subst (λ (z : Mapping). Holds ss' ds' (set cs k d) (n + 2) z) q
    (subst (λ (z : List ℕ). Holds z ds' (set cs k d) (n + 2) (pair s k d m)) (sym e)
    (subst (λ (z : List ℕ). Holds (set (set ss n s) (n + 1) (twin s)) z (set cs k d) (n + 2) (pair s k d m)) (sym f) (holds-pair h s k d l))))

-- a mapping by its number
pub held_at : {ss ds cs : List ℕ} {n r i j : ℕ} (to : ℕ → Mapping) → Holds ss ds cs n (to i) → i ≡ j → n ≡ r → Holds ss ds cs r (to j)
held_at {ss} {ds} {cs} {n} {r} {i} {j} to h e g = subst (λ (k : ℕ). Holds ss ds cs k (to j)) g (subst (λ (k : ℕ). Holds ss ds cs n (to k)) e h)

-- ---- the first columns

pub cm1s-none : {ss ds cs : List ℕ} (b : List ℕ) (p : Pool) → Holds ss ds cs 0 (fresh b p) → Holds ss ds cs (2 * 0) (cm1s b p 0)
unfolding cm1s
cm1s-none b p h = h

pub cm1s-next : (b : List ℕ) (p : Pool) (i : ℕ) → pair 0 i 1 (cm1s b p i) ≡ cm1s b p (i + 1)
unfolding cm1s
cm1s-next b p i = ap (cm1s b p) (sym (add-one i))

-- ---- the intermediates

intermediates-next : (b : List ℕ) (p : Pool) (i : ℕ) → pair 2 (z_at b p i) (dim_in b p (intermediates b p i) (im_of b i)) (intermediates b p i) ≡ intermediates b p (i + 1)
unfolding intermediates
intermediates-next b p i = ap (intermediates b p) (sym (add-one i))

module _ {b : List ℕ} {t : Tables} {rank : ℕ → ℕ} {table ss0 ds0 cs0 : List ℕ} {n0 : ℕ} (a : ImAsks b t rank table ss0 ds0 cs0 n0) (i : ℕ) (l : i < im_count b) where
  module _ {k : ℕ} (ke : k ≡ im_of b i) where
    pub im-asks : DimAsks t table rank k
    im-asks =
        let r = a.ready in
        record {
          starts = subst (λ z. Starts t z) (sym a.tabling) r.starts;
          ranked = subst (λ z. Ranked (tabled t) z rank) (sym a.tabling) r.ranked;
          there = subst (λ z. z < t.expression_count) (sym ke) ((names-there b t.expression_count r.names).im i l);
        }

    module _ {ss ds cs : List ℕ} (h : Holds ss ds cs (n0 + 2 * i) (intermediates b (tabled t) i)) where
      pub im-room : n0 + 2 * i + 1 < record_limit
      im-room =
          let f = intermediates-fit b (tabled t) a.ready.planned.fits (i + 1) (omega (arith, l)) in
          let s = ap size (sym (intermediates-next b (tabled t) i)) ∙ pair_size 2 (z_at b (tabled t) i) (dim_in b (tabled t) (intermediates b (tabled t) i) (im_of b i)) (intermediates b (tabled t) i) in
          let c = h.count in
          omega arith

      module _ {d : ℕ} (de : d ≡ exp_dim cs table (tabled t) k) {z : ℕ} (ze : z ≡ z_at b (tabled t) i) where
        dim-is : d ≡ dim_in b (tabled t) (intermediates b (tabled t) i) (im_of b i)
        dim-is = de ∙ rw (h.cm_dims, a.tabling, ke)

        pub im-next :
            {ss' ds' : List ℕ} → ss' ≡ set (set ss (n0 + 2 * i) 2) (n0 + 2 * i + 1) (twin 2) → ds' ≡ set (set ds (n0 + 2 * i) d) (n0 + 2 * i + 1) d
            → Holds ss' ds' (set cs z d) (n0 + 2 * (i + 1)) (intermediates b (tabled t) (i + 1))
        im-next e f =
            pair-next h 2 z d im-room e f (omega arith)
            (rw (dim-is, ze) (intermediates-next b (tabled t) i))

-- ---- the pieces of the quotient

quotients-next : (b : List ℕ) (p : Pool) (i : ℕ) → pair 3 (cm1 b + cm2 b + cm3 b + i) (quotient_dim b p) (quotients b p i) ≡ quotients b p (i + 1)
unfolding quotients
quotients-next b p i = ap (quotients b p) (sym (add-one i))

module _ {b ss0 ds0 cs0 : List ℕ} {n0 d : ℕ} {p : Pool} (planned : Planned b) (a : QuotientAsks b ss0 ds0 cs0 n0 d p) (i : ℕ) (l : i < q_deg b) {ss ds cs : List ℕ} (h : Holds ss ds cs (n0 + 2 * i) (quotients b p i)) where
  pub quotient-room : n0 + 2 * i + 1 < record_limit
  quotient-room = let f = quotients-fit b p planned.fits i (omega (arith, l)) in let c = h.count in omega arith

  pub quotient-next :
      {k : ℕ} → k ≡ cm1 b + cm2 b + cm3 b + i → {ss' ds' : List ℕ} → ss' ≡ set (set ss (n0 + 2 * i) 3) (n0 + 2 * i + 1) (twin 3) → ds' ≡ set (set ds (n0 + 2 * i) d) (n0 + 2 * i + 1) d
      → Holds ss' ds' (set cs k d) (n0 + 2 * (i + 1)) (quotients b p (i + 1))
  quotient-next {k} ke e f = pair-next h 3 k d quotient-room e f (omega arith) (rw (a.dim, ke) (quotients-next b p i))
