-- Tests, marks byte by byte, and a result put in. No word of the code.
-- Assumes nothing.
use Prim.Native.Nat.{ℕ, suc, ◌+◌, ◌*◌, ◌/◌, ◌%◌, ◌<◌, ◌≤◌}
use mathlib.Core.Path.{◌≡◌, refl, sym, ◌∙◌, ap}
use mathlib.Core.Bool.{Bool, true, false, ◌||◌, cond}
use mathlib.Core.List.{List, [], ◌∷◌, ◌++◌, append-nil}
use native.Mathlib.Omega.{arith}
use lib.ListN.{length, get_or, set, drop}
use lib.Seq.{drop-cons, drop-length, get_or_at, set_at}
use lib.Dec.{ltb, eqb}
use borrow.Author.Tests.{eq-eqb, ne_eqb, lt-ltb, le-ltb, le-leb, lt-leb}
use Rattle.kinds.specs.Kinds.{is_result}
use Rattle.kinds.specs.Steps.{step_size}
use Rattle.kinds.specs.declared.reference.Reference.{Reference}
use Rattle.frames.specs.Tables.{first}
use Rattle.frames.specs.Packing.{first-length}
use Rattle.starkinfo_codegen.specs.Ordering.{marks_of}
use Rattle.builds.specs.Raw.{start_of}
use Rattle.builds.specs.Starts.{start-next}
use Rattle.builds.specs.Results.{inserted, StartAsks, GrowAsks, InsertAsks}
use Rattle.context.specs.Context.{cells}
use Rattle.codegen.specs.Results.{result_good}
use Rattle.codegen.specs.Written.{fits, mark_byte, mark_bytes}
use Rattle.codegen.specs.Committing.{PutAsked}

-- ── a result that is well formed ─────────────────────────────────────────────
module _ (kind id n : ℕ) where
  pub none-asked : kind ≡ 0 → eqb id 0 ≡ result_good kind id n
  unfolding result_good
  none-asked h = rw (eq-eqb kind 0 h)

  pub bad_kind : (kind ≡ 0 → ⊥) → is_result kind ≡ false → false ≡ result_good kind id n
  unfolding result_good
  bad_kind h g = rw (ne_eqb kind 0 h, g)

  pub good-kind : (kind ≡ 0 → ⊥) → is_result kind ≡ true → ltb 0 n ≡ result_good kind id n
  unfolding result_good
  good-kind h g = rw (ne_eqb kind 0 h, g)

-- ── room ─────────────────────────────────────────────────────────────────────
module _ (room steps counter : ℕ) where
  pub no-list : room < step_size * steps → false ≡ fits room steps counter
  unfolding fits
  no-list h = rw (lt-leb (step_size * steps) room h)

  pub no_number : step_size * steps ≤ room → 65536 ≤ steps → false ≡ fits room steps counter
  unfolding fits
  no_number h g = rw (le-leb (step_size * steps) room h, le-ltb steps 65536 g)

  pub counter-decides : step_size * steps ≤ room → steps < 65536 → ltb counter 65536 ≡ fits room steps counter
  unfolding fits
  counter-decides h g = rw (le-leb (step_size * steps) room h, lt-ltb steps 65536 g)

-- ── marks ────────────────────────────────────────────────────────────────────
pub is-marked : (b : ℕ) → 0 < b → ◌≡◌ {A = ℕ} 1 (cond (ltb 0 b) 1 0)
is-marked b h = rw (lt-ltb 0 b h)

pub is-unmarked : (b : ℕ) → b ≤ 0 → ◌≡◌ {A = ℕ} 0 (cond (ltb 0 b) 1 0)
is-unmarked b h = rw (le-ltb 0 b h)

byte-is : (s : List ℕ) (c : ℕ) → mark_byte (marks_of s) c ≡ cond (ltb 0 (get_or s c 0)) 1 0
unfolding marks_of
byte-is s c =
    let e : 2 * (c / 2) + c % 2 ≡ c = omega arith in
    rw (lt-ltb (c % 2) 2 (omega arith), e)

module _ (s : List ℕ) (size : length s ≡ cells) where
  abbrev byte : ℕ → ℕ
  byte = mark_byte (marks_of s)

  -- the bytes before c are settled
  pub record Settled (l : List ℕ) (c : ℕ) : Type 0 where
    pub below : c ≤ cells
    pub list : l ≡ first byte c ++ drop c s

  pub none-settled : Settled s 0
  unfolding first
  none-settled = record { below = omega arith; list = refl }

  module _ {l : List ℕ} {c : ℕ} (p : Settled l c) (h : c < cells) where
    rest : drop c s ≡ get_or s c 0 ∷ drop (suc c) s
    rest = drop-cons s c 0 (omega (arith, size))

    at_c : get_or l c 0 ≡ get_or s c 0
    at_c =
        ap (λ (z : List ℕ). get_or z c 0) (p.list ∙ ap (λ (z : List ℕ). first byte c ++ z) rest)
        ∙ get_or_at (first byte c) (get_or s c 0) (drop (suc c) s) 0 c (first-length byte c)

    pub one-settled : {v : ℕ} → v ≡ cond (ltb 0 (get_or l c 0)) 1 0 → Settled (set l c v) (c + 1)
    unfolding first
    one-settled {v} e =
        let z : c + 1 ≡ suc c = omega arith in
        let w : v ≡ byte c = e ∙ rw at_c (sym (byte-is s c)) in
        let r : set l c v ≡ first byte (suc c) ++ drop (suc c) s
        = rw (p.list, rest, w) (set_at (first byte c) (get_or s c 0) (drop (suc c) s) (byte c) c (first-length byte c)) ∙ snoc (first byte c) (byte c) (drop (suc c) s) in
        record { below = omega arith; list = rw z r }
      where
        snoc : (xs : List ℕ) (y : ℕ) (ys : List ℕ) → xs ++ y ∷ ys ≡ (xs ++ (y ∷ [])) ++ ys
        snoc [] y ys = refl
        snoc (x ∷ xs) y ys = ap (λ (q : List ℕ). x ∷ q) (snoc xs y ys)

  pub all_settled : {l : List ℕ} {c : ℕ} → Settled l c → cells ≤ c → l ≡ mark_bytes (marks_of s)
  unfolding mark_bytes
  all_settled {l} {c} p h =
      let e : c ≡ cells = omega (arith, p.below) in
      let f : drop c s ≡ [] = ap (λ n. drop n s) (e ∙ sym size) ∙ drop-length s in
      p.list ∙ rw (f, append-nil, e)

-- ── a result put in ──────────────────────────────────────────────────────────
module _ {t l : List ℕ} {k end : ℕ} (a : PutAsked t l k end) where
  pub start-asks : StartAsks t (k + 1)
  start-asks = let e : k + 1 ≡ suc k = omega arith in record { few = omega (arith, a.there); steps = rw e (omega (arith, a.inside, a.few)) }

  pub insert-asks : {pos room : ℕ} → pos ≡ start_of t (k + 1) → room ≡ length l → InsertAsks room pos end
  insert-asks {pos} {room} h g =
      let e : k + 1 ≡ suc k = omega arith in
      let q : pos ≡ start_of t (suc k) = rw e at h in
      record { after = omega (arith, q, start-next t k, a.some); inside = omega (arith, q, a.inside); fits = omega (arith, g, a.fits) }

  pub grow-asks : GrowAsks t k
  grow-asks = record { there = a.there; steps = omega (arith, start-next t k, a.inside, a.few) }

pub next-inserted :
    {l' : List ℕ} {pos : ℕ} (l t : List ℕ) (k end : ℕ) (d : Reference) → l' ≡ inserted l pos end d → pos ≡ start_of t (k + 1) → l' ≡ inserted l (start_of t (suc k)) end d
next-inserted l t k end d h g = let e : k + 1 ≡ suc k = omega arith in h ∙ ap (λ p. inserted l p end d) (rw e at g)

-- ── a result allowed ─────────────────────────────────────────────────────────
pub not-marked : (b : Bool) (p : ℕ) → b ≡ false → eqb p 0 ≡ (b || eqb p 0)
not-marked b p h = rw h
