-- Members one by one: marked, and looked at; and the answers of `mark`. No word of the code.
-- Assumes nothing.
use Prim.Native.Nat.{ℕ, suc, ◌+◌, ◌*◌, ◌<◌, ◌≤◌}
use mathlib.Core.Path.{◌≡◌, refl, sym, ◌∙◌, ap, subst}
use mathlib.Core.Bool.{Bool, true, false, cond, ◌&&◌}
use mathlib.Core.Option.{none}
use mathlib.Core.List.{List, [], ◌∷◌}
use native.Mathlib.Omega.{arith}
use lib.Dec.{ltb}
use lib.ListN.{length, get_or, set, drop}
use lib.Seq.{drop-cons, drop-length}
use borrow.Author.Tests.{le-leb, lt-leb}
use Rattle.std.specs.Prelude.{Ok}
use Rattle.std.specs.List.{list_all}
use Rattle.kinds.specs.Answers.{refusing}
use Rattle.kinds.specs.declared.refusal.Refusal.TheVariants as refusal
use Rattle.meaning.specs.Refusals.{Refusal, Answer, done, refused}
use Rattle.frames.specs.Order.{expression_limit}
use Rattle.context.specs.Context.{Good, Exactly}
use Rattle.context.specs.Tables.{marks_in, with_marks, MarksAsk}
use Rattle.context.specs.Stored as stored
use Rattle.codegen.specs.Said.{Said, said}
use Rattle.constraint_pieces.specs.Marks.{AllBelow, all_below, mark_one, mark_all, all-size, below_true}
use Rattle.constraint_pieces.specs.Marking.{marked_said, OrRefused, MarkAnswered, MarkGiven, MarkGoodAsks, marked_context}

-- ── marked one by one ────────────────────────────────────────────────────────
pub one-is : (e : ℕ) (s : List ℕ) → set (set s (2 * e) 1) (2 * e + 1) 1 ≡ mark_one e s
unfolding mark_one
one-is e s = refl

pub none-marked : (es s : List ℕ) → mark_all (drop 0 es) s ≡ mark_all es s
none-marked es s = refl

pub one-marked : (es X s s' : List ℕ) (k : ℕ) → mark_all (drop k es) s ≡ X → k < length es → s' ≡ mark_one (get_or es k 0) s → mark_all (drop (k + 1) es) s' ≡ X
unfolding mark_all
one-marked es X s s' k h g e =
    let z : k + 1 ≡ suc k = omega arith in
    rw (z, e) (rw (drop-cons es k 0 g) at h)

pub all-marked : (es X s : List ℕ) (k : ℕ) → mark_all (drop k es) s ≡ X → k ≤ length es → length es ≤ k → s ≡ X
unfolding mark_all
all-marked es X s k h g l =
    let z : k ≡ length es = omega arith in
    rw (z, drop-length es) at h

-- ── looked at one by one ─────────────────────────────────────────────────────
pub all-below-is : (m : ℕ) (es : List ℕ) → list_all (λ x. ltb x m) es ≡ all_below m es
all-below-is m [] = refl
all-below-is m (e ∷ es) = ap (λ v. ltb e m && v) (all-below-is m es)

-- ── a context marked ─────────────────────────────────────────────────────────
module _ {es x : List ℕ} (a : MarkGoodAsks es x) where
  pub store_asks : {s s' : List ℕ} → s ≡ marks_in x → s' ≡ mark_all es s → MarksAsk x s'
  store_asks {s} {s'} h g = record { size = a.size; full = ap length g ∙ all-size es s ∙ ap length h ∙ stored.marks-full x a.size }

  pub context-marked : {s s' x' : List ℕ} → s ≡ marks_in x → s' ≡ mark_all es s → x' ≡ with_marks x s' → x' ≡ marked_context es x
  context-marked h g e = e ∙ rw (g, h)

-- ── the answers ──────────────────────────────────────────────────────────────
module _ (es : List ℕ) (m : ℕ) (x l : List ℕ) where
  abbrev Rest : Answer Said → Type 0
  Rest a = (g : Bool) × Exactly g (Good x m (length l)) × OrRefused g Refusal.malformed a (a ≡ cond (all_below m es) (done (marked_said es (said x l))) (refused Refusal.not_there none))

  pub past-limit : expression_limit < m → MarkGiven es m x x l (refusing refusal.Full)
  past-limit h =
      let a : Answer Said = refused Refusal.full none in
      (a, subst (λ b. OrRefused b Refusal.full a (Rest a)) (sym (lt-leb m expression_limit h)) refl, record { says = refl; stands = refl })

  module _ (few : m ≤ expression_limit) where
    within : (a : Answer Said) → Rest a → MarkAnswered es m x l a
    within a t = subst (λ b. OrRefused b Refusal.full a (Rest a)) (sym (le-leb m expression_limit few)) t

    module _ {g : Bool} (ex : Exactly g (Good x m (length l))) where
      abbrev Last : Answer Said → Type 0
      Last a = a ≡ cond (all_below m es) (done (marked_said es (said x l))) (refused Refusal.not_there none)

      pub bad-context : g ≡ false → MarkGiven es m x x l (refusing refusal.Malformed)
      bad-context z =
          let a : Answer Said = refused Refusal.malformed none in
          (a, within a (g, ex, subst (λ b. OrRefused b Refusal.malformed a (Last a)) (sym z) refl), record { says = refl; stands = refl })

      module _ (z : g ≡ true) where
        checked : (a : Answer Said) → Last a → MarkAnswered es m x l a
        checked a t = within a (g, ex, subst (λ b. OrRefused b Refusal.malformed a (Last a)) (sym z) t)

        pub not_there : {r : Bool} → r ≡ all_below m es → r ≡ false → MarkGiven es m x x l (refusing refusal.NotThere)
        not_there h q =
            let a : Answer Said = refused Refusal.not_there none in
            (a, checked a (rw (sym h ∙ q)), record { says = refl; stands = refl })

        module _ {r : Bool} (h : r ≡ all_below m es) (q : r ≡ true) where
          below : AllBelow m es
          below = below_true m es (sym h ∙ q)

          pub good-asks : MarkGoodAsks es x
          good-asks = record { size = (ex.0 z).head.size; there = λ k u. omega (arith, below k u, few) }

          pub all_done : {x' : List ℕ} → x' ≡ marked_context es x → MarkGiven es m x x' l (Ok tt)
          all_done e =
              let a : Answer Said = done (marked_said es (said x l)) in
              (a, checked a (rw (sym h ∙ q)), record { says = refl; stands = e })
