-- The full degree of a node's tree from its parts, and what the table holds after it.
-- Assumes nothing.
use Prim.Native.Nat.{ℕ, ◌+◌, ◌-◌, ◌*◌, ◌<◌, ◌≤◌, max}
use mathlib.Core.Path.{◌≡◌, refl, sym, ◌∙◌, ap, ap₂, subst}
use mathlib.Core.Bool.{Bool, true, false}
use mathlib.Core.Option.{Option, some}
use mathlib.Core.List.{List}
use mathlib.Core.Logic.{◌⊎◌, inl, inr}
use native.Mathlib.Omega.{arith}
use lib.Dec.{eqb}
use lib.ListN.{get_or, set, length-set, replicate, length-replicate, get_or-replicate}
use lib.Seq.{get_or-set_same, get_or-set_other}
use borrow.Author.Tests.{eqb-true, eqb-false}
use Rattle.meaning.specs.Trees.{Expr}
use Rattle.search_meaning.specs.Degrees.{map₂, sum_degree, full_leaf, full}
use Rattle.kinds.specs.KindBytes as kind
use Rattle.frames.specs.Order.{node_limit, expression_limit}
use Rattle.frames.specs.Tables.{kind_in, id_in}
use Rattle.pool.specs.Words.{c0_in, c1_in, c2_in, root_in}
use Rattle.pool.specs.Shaped.{Shaped}
use Rattle.pool.specs.Tabled.{Tables, tabled}
use Rattle.pool.specs.Ranking.{Tabling}
use Rattle.full_degrees.specs.Coded.{unknown, coded, times_code, leaf_code}
use Rattle.full_degrees.specs.Shapes.{Sum, plus, minus, Single, with_lit, negated, class_by, sum_is, mul_is, muladd-is, single-is, leaf-at}
use Rattle.full_degrees.specs.Table.{World, F, full_at, Fulls, Sound, Later}
use Rattle.full_degrees.specs.Parts.{room, Part, left, right, only, first, second, third, named-room, lower, body, leaf-full, all-levels}
use Rattle.full_degrees.specs.Filling.{Asks, Gives, Stores}
use Rattle.full_degrees.proofs.Codes.{max-is, sum-code, one_code, times-is, leaf-code}

-- ── the full degree of a tree, by its form ───────────────────────────────────
sum-full : (f : ℕ → Option ℕ) {x a b : Expr} → Sum x a b → full f x ≡ map₂ sum_degree (full f a) (full f b)
sum-full f plus = refl
sum-full f minus = refl

single-full : (f : ℕ → Option ℕ) {x a : Expr} → Single x a → full f x ≡ map₂ max (some 1) (full f a)
single-full f with_lit = refl
single-full f negated = refl

-- ── a node ───────────────────────────────────────────────────────────────────
module _ {v l x : List ℕ} {n m : ℕ} {rank : ℕ → ℕ} {w : List ℕ} {levels i : ℕ} (a : Asks (Tabling v l x n m) rank w levels i) where
  abbrev t : Tables
  t = Tabling v l x n m

  abbrev shape : Shaped (tabled t)
  shape = a.stands.world.starts.shaped

  abbrev C : ℕ → ℕ
  C j = coded (full_at t j)

  pub inside : i < node_limit
  inside = room a.stands

  -- a part, after what is known by then
  pub part-asks : {w1 : List ℕ} → Sound t w1 → {j : ℕ} → Part a.stands j → Asks t rank w1 levels j
  part-asks s b = record { stands = b.stands; sound = s }

  pub part_less : {j : ℕ} → Part a.stands j → levels * 8200 + (2 * j + 2) < levels * 8200 + (2 * i + 1)
  part_less b = omega (arith, b.before)

  module _ {k : ℕ} (ke : k ≡ kind_in v i) where
    -- ── leaves ───────────────────────────────────────────────────────────────
    pub leaf-gives : (k < 1) ⊎ (kind.neg < k) → (k ≡ kind.exp → ⊥) → {r : ℕ} → r ≡ leaf_code k → Gives t w w i r
    leaf-gives h u q =
        let y = leaf-at t shape a.stands.there (subst (λ c. (c < 1) ⊎ (kind.neg < c)) ke h) in
        record {
          is =
              q ∙ leaf-code k (F t) (id_in v i) u ∙ ap (λ c. coded (full_leaf (F t) (class_by c (id_in v i)))) ke
              ∙ sym (ap (λ c. coded (full (F t) c)) y.1 ∙ ap (λ c. coded (full_leaf (F t) c)) y.2);
          sound = a.sound;
          later = λ j h g. g;
        }

    module _ (h : k ≡ kind.exp) {e : ℕ} (q : e ≡ id_in v i) where
      pub exp-room : e < expression_limit
      exp-room = named-room a.stands (sym ke ∙ h) q

      pub some-levels : 1 ≤ levels
      some-levels = let z = lower a.stands (sym ke ∙ h) q in omega (arith, z)

      module _ {r : ℕ} (g : r ≡ root_in x e) where
        pub body-asks : Asks t rank w (levels - 1) r
        body-asks = record { stands = body a.stands (sym ke ∙ h) q g; sound = a.sound }

        pub body_less : (levels - 1) * 8200 + (2 * r + 2) < levels * 8200 + (2 * i + 1)
        body_less = let z = room body-asks.stands in omega (arith, z, some-levels)

        pub body-gives : {w1 : List ℕ} {d : ℕ} → Stores t w w1 r d → Gives t w w1 i d
        body-gives s = record { is = s.gives.is ∙ ap coded (sym (leaf-full a.stands (sym ke ∙ h) q g)); sound = s.gives.sound; later = s.gives.later }

    -- ── operations ───────────────────────────────────────────────────────────
    pub left-part : 1 ≤ k → k ≤ kind.mul → {j : ℕ} → j ≡ c0_in v i → Part a.stands j
    left-part y z = left a.stands (omega (arith, ke)) (omega (arith, ke))

    pub right-part : 1 ≤ k → k ≤ kind.mul → {j : ℕ} → j ≡ c1_in v i → Part a.stands j
    right-part y z = right a.stands (omega (arith, ke)) (omega (arith, ke))

    pub only_part : kind.addc ≤ k → k ≤ kind.neg → {j : ℕ} → j ≡ c0_in v i → Part a.stands j
    only_part y z = only a.stands (omega (arith, ke)) (omega (arith, ke))

    pub first_part : k ≡ kind.muladd → {j : ℕ} → j ≡ c0_in v i → Part a.stands j
    first_part h = first a.stands (sym ke ∙ h)

    pub second-part : k ≡ kind.muladd → {j : ℕ} → j ≡ c1_in v i → Part a.stands j
    second-part h = second a.stands (sym ke ∙ h)

    pub third-part : k ≡ kind.muladd → {j : ℕ} → j ≡ c2_in v i → Part a.stands j
    third-part h = third a.stands (sym ke ∙ h)

    pub single-gives : kind.addc ≤ k → k ≤ kind.neg → {j : ℕ} → j ≡ c0_in v i → {w1 : List ℕ} {d : ℕ} → Stores t w w1 j d → {r : ℕ} → r ≡ max 1 d → Gives t w w1 i r
    single-gives y z {j} q s e =
        record {
          is =
              e ∙ ap (max 1) (s.gives.is ∙ ap C q) ∙ one_code (full_at t (c0_in v i))
              ∙ ap coded (sym (single-full (F t) (single-is t shape a.stands.there (omega (arith, ke)) (omega (arith, ke)))));
          sound = s.gives.sound;
          later = s.gives.later;
        }

    module _ {j0 j1 : ℕ} (q0 : j0 ≡ c0_in v i) (q1 : j1 ≡ c1_in v i) {w1 w2 : List ℕ} {d0 d1 : ℕ} (s0 : Stores t w w1 j0 d0) (s1 : Stores t w1 w2 j1 d1) where
      is0 : d0 ≡ C (c0_in v i)
      is0 = s0.gives.is ∙ ap C q0

      is1 : d1 ≡ C (c1_in v i)
      is1 = s1.gives.is ∙ ap C q1

      then-later : Later t w w2
      then-later j h g = s1.gives.later j h (s0.gives.later j h g)

      pub sum-gives : 1 ≤ k → k ≤ kind.sub → {b r : ℕ} → b ≡ max d0 d1 → r ≡ max 1 b → Gives t w w2 i r
      sum-gives y z {b} e f =
          record {
            is =
                f ∙ ap (max 1) (e ∙ ap₂ max is0 is1) ∙ sum-code (full_at t (c0_in v i)) (full_at t (c1_in v i))
                ∙ ap coded (sym (sum-full (F t) (sum_is t shape a.stands.there (omega (arith, ke)) (omega (arith, ke)))));
            sound = s1.gives.sound;
            later = then-later;
          }

      times-two : times_code d0 d1 ≡ coded (map₂ ◌+◌ (full_at t (c0_in v i)) (full_at t (c1_in v i)))
      times-two = ap₂ times_code is0 is1 ∙ times-is (full_at t (c0_in v i)) (full_at t (c1_in v i))

      pub mul-gives : k ≡ kind.mul → {r : ℕ} → r ≡ times_code d0 d1 → Gives t w w2 i r
      mul-gives h e =
          record {
            is = e ∙ times-two ∙ ap (λ y. coded (full (F t) y)) (sym (mul_is t shape a.stands.there (sym ke ∙ h)));
            sound = s1.gives.sound;
            later = then-later;
          }

      pub muladd-gives :
          k ≡ kind.muladd → {j2 : ℕ} → j2 ≡ c2_in v i → {w3 : List ℕ} {d2 : ℕ} → Stores t w2 w3 j2 d2 → {b r : ℕ} → b ≡ times_code d0 d1 → r ≡ max b d2 → Gives t w w3 i r
      muladd-gives h q2 s2 e f =
          record {
            is =
                f ∙ ap₂ max (e ∙ times-two) (s2.gives.is ∙ ap C q2) ∙ max-is (map₂ ◌+◌ (full_at t (c0_in v i)) (full_at t (c1_in v i))) (full_at t (c2_in v i))
                ∙ ap (λ y. coded (full (F t) y)) (sym (muladd-is t shape a.stands.there (sym ke ∙ h)));
            sound = s2.gives.sound;
            later = λ j g u. s2.gives.later j g (then-later j g u);
          }

  -- ── the table ──────────────────────────────────────────────────────────────
  pub seen-gives : {s : ℕ} → s ≡ get_or w i 0 → (s ≡ unknown → ⊥) → Stores t w w i s
  seen-gives {s} q h = go (a.sound.right i a.stands.there)
    where
      go : (get_or w i 0 ≡ unknown) ⊎ (get_or w i 0 ≡ C i) → Stores t w w i s
      go (inl z) = absurd (h (q ∙ z))
      go (inr z) = record { gives = record { is = q ∙ z; sound = a.sound; later = λ j b g. g }; known = z }

  pub store-gives : {w1 : List ℕ} {d : ℕ} → Gives t w w1 i d → Stores t w (set w1 i d) i d
  store-gives {w1} {d} g =
      record {
        gives = record {
          is = g.is;
          sound = record { size = length-set w1 i d ∙ g.sound.size; right = λ j h. right j h (eqb j i) refl };
          later = λ j h u. stays j h (g.later j h u) (eqb j i) refl;
        };
        known = here ∙ g.is;
      }
    where
      here : get_or (set w1 i d) i 0 ≡ d
      here = get_or-set_same w1 i d 0 (rw g.sound.size inside)

      right : (j : ℕ) → j < n → (b : Bool) → eqb j i ≡ b → (get_or (set w1 i d) j 0 ≡ unknown) ⊎ (get_or (set w1 i d) j 0 ≡ C j)
      right j h true q = let z : j ≡ i = eqb-true j i q in inr (rw z (here ∙ g.is))
      right j h false q = rw (get_or-set_other w1 i j d 0 (eqb-false j i q)) (g.sound.right j h)

      stays : (j : ℕ) → j < n → get_or w1 j 0 ≡ C j → (b : Bool) → eqb j i ≡ b → get_or (set w1 i d) j 0 ≡ C j
      stays j h u true q = let z : j ≡ i = eqb-true j i q in rw z (here ∙ g.is)
      stays j h u false q = get_or-set_other w1 i j d 0 (eqb-false j i q) ∙ u

-- ── all nodes ────────────────────────────────────────────────────────────────
module _ {v l x : List ℕ} {n m : ℕ} {rank : ℕ → ℕ} (world : World (Tabling v l x n m) rank) where
  abbrev T : Tables
  T = Tabling v l x n m

  -- known up to i
  pub record Upto (w : List ℕ) (i : ℕ) : Type 0 where
    pub sound : Sound T w
    pub known : (j : ℕ) → j < i → j < n → get_or w j 0 ≡ coded (full_at T j)

  pub upto-none : {w : List ℕ} → w ≡ replicate node_limit unknown → Upto w 0
  upto-none q =
      rw q (record {
        sound = record {
          size = length-replicate {A = ℕ} node_limit unknown;
          right = λ i h. inl (get_or-replicate {A = ℕ} node_limit i unknown 0 (omega (arith, h, world.starts.few_nodes)));
        };
        known = λ j h g. absurd (omega arith);
      })

  pub upto-asks : {w : List ℕ} {i : ℕ} → Upto w i → i < n → Asks T rank w m i
  upto-asks u h = record { stands = all-levels world h; sound = u.sound }

  pub upto-more : {w w1 : List ℕ} {i d : ℕ} → Upto w i → i < n → Stores T w w1 i d → Upto w1 (i + 1)
  upto-more {w} {w1} {i} u h s = record { sound = s.gives.sound; known = λ j b g. go j b g (eqb j i) refl }
    where
      go : (j : ℕ) → j < i + 1 → j < n → (c : Bool) → eqb j i ≡ c → get_or w1 j 0 ≡ coded (full_at T j)
      go j b g true q = let z : j ≡ i = eqb-true j i q in rw z s.known
      go j b g false q = let z : j ≡ i → ⊥ = eqb-false j i q in s.gives.later j g (u.known j (omega arith) g)

  pub upto_all : {w : List ℕ} {i : ℕ} → Upto w i → n ≤ i → Fulls T w
  upto_all u h = record { size = u.sound.size; right = λ j g. u.known j (omega arith) g }
