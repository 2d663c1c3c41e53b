-- The second list and the frames of the pool: by what each part answered. Over plain variables.
-- Assumes nothing.
use Prim.Native.Nat.{ℕ, zero, suc, ◌-◌}
use mathlib.Core.Path.{◌≡◌, refl, ◌∙◌, ap}
use mathlib.Core.Bool.{Bool, true, false, ◌&&◌, cond}
use mathlib.Core.Option.{none}
use mathlib.Core.List.{List, [], ◌∷◌}
use native.Mathlib.Omega.{arith}
use lib.ListN.{length}
use lib.Dec.{leb}
use Rattle.std.specs.Prelude.{Option, Some, None, Ok, Err}
use Rattle.meaning.specs.Refusals.{Refusal, Answer, done, refused, ◌then◌}
use Rattle.kinds.specs.Write.{write}
use Rattle.kinds.specs.Answers.{refusal_of, blame_of, blaming_none}
use Rattle.kinds.specs.declared.refusal.Refusal.TheVariants as told
use Rattle.kinds.specs.declared.refusal.Refused.{Refused}
use Rattle.frames.specs.Written.{frames_of}
use Rattle.pool.specs.Pool.{Pool}
use Rattle.pool.specs.Trees.{forest}
use Rattle.pool.specs.Tabled.{tabled}
use Rattle.starkinfo_codegen.specs.Emitting.{Rest, pool_of}
use Rattle.context.specs.Context.{cells}
use Rattle.codegen.specs.Said.{Said, said, segment_said}
use Rattle.codegen.specs.Committing.{no_words}
use Rattle.codegen.specs.Building as building
use Rattle.codegen.specs.declared.build.Sizes as steps
use Rattle.constraint_pieces.specs.Marks.{AllBelow}
use Rattle.constraint_frames.specs.Extension.{bytes_of}
use Rattle.constraint_lists.specs.Lists.{step42ns_said, room_for, Written as list_written}
use Rattle.constraint_lists.specs.Planned.{ListAsks}
use Rattle.constraint_lists.specs.Measuring.{final_said, Measured, measured_says}
use Rattle.constraint_lists.specs.Writing.{WriteAsks, WriteAsked, WriteGiven}
use Rattle.pool_frames.specs.Pools as pools
use Rattle.pool_frames.specs.Pools.{pool_in}
use Rattle.constraint_build.specs.Both.{Lent}
use Rattle.constraint_build.specs.Committing.{rest_of, FitAsked, Fitted, joined, SecondAsks, sizes_with, fitting_second, TellsSecond}
use Rattle.constraint_build.specs.declared.answer.Sizes.{Sizes}
use Rattle.constraint_build.proofs.Fits.{words-of, joined-full, joined-fit}

module _ (v : Lent) {w l x ms : List ℕ} {k m : ℕ} (a : SecondAsks w l x ms v k m) where
  abbrev b : Rest
  b = rest_of l x k m

  abbrev q : Pool
  q = pool_of w b

  pub asks : ListAsks w x b a.acyclic ms ((m - 1) ∷ []) v.context (length v.list) m
  asks = record {
    world = record { pool = record { shaped = a.shaped; few = a.nodes }; few = a.expressions; roots = refl };
    expressions = refl;
    rows = a.rows;
    good = a.good;
    marked = a.members;
    asked = below;
    few = omega arith;
  }
    where
      below : AllBelow 65536 ((m - 1) ∷ [])
      below zero h = let z = a.expressions in omega (arith, z)
      below (suc i) h = absurd (omega (arith, h))

  pub fit-asked : {s t j : List ℕ} → length s ≡ cells → t ≡ no_words → length j ≡ cells → FitAsked w x ms ((m - 1) ∷ []) v s t j m
  fit-asked e f g = (b, a.acyclic, asks, record { marks = e; words = f; jobs = g })

  module _ (out : List ℕ) (one : Measured) (fits : Bool) (z : steps.Sizes) (o : measured_says one ≡ cond fits (done z) (refused Refusal.full none)) where
    abbrev S : Answer Said
    S = step42ns_said (forest q) ms (m - 1) (said v.context v.list)

    abbrev on : Answer Said → Answer Said
    on y = y then λ t. fitting_second q fits v (length out) t

    pub refused-second : (f : Refused) → S ≡ refused (refusal_of f.refusal) (blame_of f.node) → TellsSecond q z (on S) v out v out (Err f)
    refused-second f e = rw e (record { says = refl; stands = (refl, refl) })

    module _ {s t j : List ℕ} {n : ℕ} {r : Measured} (f : Fitted w x b ms ((m - 1) ∷ []) v s t j m true n r) where
      abbrev T : Said
      T = final_said (forest q) f.jobs true s v.context v.list

      abbrev R : Bool
      R = room_for (forest q) (length v.list) v.lists T

      abbrev B : Bool
      B = leb (length (bytes_of q)) (length out)

      by : on S ≡ cond (fits && (R && B)) (done T) (refused Refusal.full none)
      by = ap on f.is

      no_room : {out' : List ℕ} → (fits && (R && B)) ≡ false → out' ≡ out → TellsSecond q z (on S) v out v out' (Err (blaming_none told.Full))
      no_room e h = rw (by ∙ ap (λ (c : Bool). cond c (done T) (refused Refusal.full none)) e) (record { says = refl; stands = (refl, h) })

      and-false : (c d e : Bool) → (c && d) ≡ false → (c && (d && e)) ≡ false
      and-false true true e h = absurd (let i : ◌≡◌ {A = ℕ} 0 1 = cc in omega arith)
      and-false true false e h = refl
      and-false false d e h = refl

      pub lists-full : joined one r ≡ None → TellsSecond q z (on S) v out v out (Err (blaming_none told.Full))
      lists-full e = no_room (and-false fits R B (joined-full one r fits R z _ o f.measures.says e)) refl

      module _ {y : Sizes} (e : joined one r ≡ Some y) where
        fit : (fits ≡ true) × (R ≡ true) × (y ≡ sizes_with z (building.sizes (segment_said (forest q) T)))
        fit = joined-fit one r fits R z _ o f.measures.says e

        write-asks : WriteAsks w x b f.jobs j s f.loaded t v.context v.list v.lists m n true
        write-asks = record {
          planned = f.planned;
          words = words-of r (f.measures.says ∙ ap (λ (c : Bool). cond c (done (building.sizes (segment_said (forest q) T))) (refused Refusal.full none)) fit.1) f.measures.words;
          room = fit.1;
        }

        pub write-asked : WriteAsked w x j s t v.context v.list v.lists m n true
        write-asked = (b, f.jobs, f.loaded, write-asks)

        module _ {out' : List ℕ} {c : Option ℕ} (h : pools.Writes (frames_of (pool_in w l x k m)) out c out') where
          writes : pools.Writes (bytes_of q) out c out'
          unfolding tabled
          writes = h

          pub frames-full : c ≡ None → TellsSecond q z (on S) v out v out' (Err (blaming_none told.Full))
          frames-full g = go B refl
            where
              go : (d : Bool) → B ≡ d → TellsSecond q z (on S) v out v out' (Err (blaming_none told.Full))
              go false i = let u : out' ≡ out = rw i at writes.after in no_room (rw (fit.0, fit.1, i)) u
              go true i =
                  let u : c ≡ Some (length (bytes_of q)) = rw i at writes.answer in
                  let y : ◌≡◌ {A = ℕ} 0 1 = cc in
                  absurd (omega arith)

          pub all-written :
              {i : ℕ} → c ≡ Some i → {v' : Lent} → WriteGiven w x j s t v.context v'.context v.list v'.list v.lists v'.lists m n true →
              TellsSecond q z (on S) v out v' out' (Ok (record { sizes = y; bytes = i }))
          all-written {i} g {v'} d = go B refl
            where
              done_all : list_written (forest q) v.context v.list v.lists T v'.context v'.list v'.lists
              done_all = d b f.jobs f.loaded write-asks

              go : (d : Bool) → B ≡ d → TellsSecond q z (on S) v out v' out' (Ok (record { sizes = y; bytes = i }))
              go true h =
                  let u : c ≡ Some (length (bytes_of q)) = rw h at writes.answer in
                  let n : i ≡ length (bytes_of q) = cc in
                  let all : (fits && (R && B)) ≡ true = rw (fit.0, fit.1, h) in
                  let p : out' ≡ write out 0 (bytes_of q) = rw h at writes.after in
                  rw (by ∙ ap (λ (c : Bool). cond c (done T) (refused Refusal.full none)) all) (record { says = rw (fit.2, n); stands = (done_all, p) })
              go false h =
                  let u : c ≡ None = rw h at writes.answer in
                  let y : ◌≡◌ {A = ℕ} 0 1 = cc in
                  absurd (omega arith)
