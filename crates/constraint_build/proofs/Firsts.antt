-- Both lists by the first, which is planned and measured, and the second, which is made: the whole answer. Over plain variables.
-- Assumes nothing.
use Prim.Native.Nat.{ℕ, ◌-◌}
use mathlib.Core.Path.{◌≡◌, refl, sym, ◌∙◌, ap, subst}
use mathlib.Core.Bool.{Bool, true, false, ◌&&◌, cond}
use mathlib.Core.Option.{none}
use mathlib.Core.List.{List, []}
use native.Mathlib.Omega.{arith}
use lib.ListN.{length}
use lib.Dec.{leb}
use Rattle.std.specs.Prelude.{Result, Ok, Err}
use Rattle.kinds.specs.Answers.{refusal_of, blame_of}
use Rattle.kinds.specs.declared.refusal.Refused.{Refused}
use Rattle.meaning.specs.Refusals.{Refusal, Answer, done, refused, ◌then◌}
use Rattle.meaning.proofs.Laws.Tests.{done-not-refused}
use Rattle.pool.specs.Pool.{Pool}
use Rattle.pool.specs.Trees.{forest}
use Rattle.starkinfo_codegen.specs.Emitting.{Rest, pool_of}
use Rattle.context.specs.Context.{cells}
use Rattle.codegen.specs.Said.{Said, said, segment_said}
use Rattle.codegen.specs.Committing.{no_words}
use Rattle.codegen.specs.Building as building
use Rattle.codegen.specs.declared.build.Sizes as steps
use Rattle.constraint_frames.specs.Extension.{bytes_of}
use Rattle.constraint_lists.specs.Lists.{step3_said, step42ns_said, room_for, Written}
use Rattle.constraint_lists.specs.Planned.{ListAsks}
use Rattle.constraint_lists.specs.Measuring.{final_said, Measured}
use Rattle.constraint_lists.specs.Writing.{WriteAsks, WriteAsked, WriteGiven}
use Rattle.constraint_build.specs.Both.{Lent, Both, fitting, Tells}
use Rattle.constraint_build.specs.Committing.{rest_of, FitAsked, Fitted, SecondAsks, SecondGiven, fitting_second, TellsSecond}
use Rattle.constraint_build.specs.Making.{MakeAsks}
use Rattle.constraint_build.specs.declared.answer.Made.{Made}
use Rattle.constraint_build.proofs.Fits.{words-of}

-- ---- both lists

module _ (u v : Lent) {w l x ms : List ℕ} {k m : ℕ} (a : MakeAsks w l x ms u v k m) where
  abbrev b : Rest
  b = rest_of l x k m

  abbrev q : Pool
  q = pool_of w b

  pub asks : ListAsks w x b a.acyclic [] ms u.context (length u.list) m
  asks = record {
    world = record { pool = record { shaped = a.shaped; few = a.nodes }; few = a.expressions; roots = refl };
    expressions = refl;
    rows = a.rows;
    good = a.good;
    marked = λ i h. absurd (omega (arith, h));
    asked = λ i h. omega (arith, a.members i h);
    few = omega (arith, a.few);
  }

  pub fit-asked : {s t j : List ℕ} → length s ≡ cells → t ≡ no_words → length j ≡ cells → FitAsked w x [] ms u s t j m
  fit-asked e f g = (b, a.acyclic, asks, record { marks = e; words = f; jobs = g })

  pub second-asks : SecondAsks w l x ms v k m
  second-asks = record {
    shaped = a.shaped;
    acyclic = a.acyclic;
    nodes = a.nodes;
    some = a.some;
    expressions = a.expressions;
    rows = a.rows;
    members = a.members;
    good = a.good_2ns;
  }

  module _ (out : List ℕ) where
    abbrev S3 : Answer Said
    S3 = step3_said (forest q) ms (said u.context u.list)

    abbrev S4 : Answer Said
    S4 = step42ns_said (forest q) ms (m - 1) (said v.context v.list)

    abbrev on : Answer Said → Answer Both
    on y = y then λ s. S4 then λ t. fitting q (record { step3 = s; step42ns = t }) u v (length out)

    pub refused-first : (f : Refused) → S3 ≡ refused (refusal_of f.refusal) (blame_of f.node) → Tells q (on S3) u v out u v out (Err f)
    refused-first f e = rw e (record { says = refl; stands = (refl, refl, refl) })

    module _ {s t j : List ℕ} {n : ℕ} {r : Measured} (f : Fitted w x b [] ms u s t j m false n r) where
      abbrev T : Said
      T = final_said (forest q) f.jobs false s u.context u.list

      abbrev fits : Bool
      fits = room_for (forest q) (length u.list) u.lists T

      abbrev z : steps.Sizes
      z = building.sizes (segment_said (forest q) T)

      -- room for the second list and the frames
      abbrev R : Said → Bool
      R y = room_for (forest q) (length v.list) v.lists y && leb (length (bytes_of q)) (length out)

      abbrev second : Answer Said → Answer Said
      second y = y then λ c. fitting_second q fits v (length out) c

      abbrev all : Answer Said → Answer Both
      all y = y then λ c. fitting q (record { step3 = T; step42ns = c }) u v (length out)

      by : on S3 ≡ all S4
      by = ap on f.is

      module _ {v' : Lent} {out' : List ℕ} {y : Result Made Refused} (g : SecondGiven w l x ms r v v' k m out out' y) where
        told : {o : Result Made Refused} → y ≡ o → TellsSecond q z (second S4) v out v' out' o
        told e = subst (TellsSecond q z (second S4) v out v' out') e (g fits z f.measures.says)

        module _ {d : Refused} (e : y ≡ Err d) where
          of-refused : (c : Answer Said) → TellsSecond q z (second c) v out v' out' (Err d) → Tells q (all c) u v out u v' out' (Err d)
          of-refused (refused i o) g = record { says = g.says; stands = (refl, g.stands.0, g.stands.1) }
          of-refused (done c) g = go (fits && R c) g
            where
              go :
                  (b : Bool) → TellsSecond q z (cond b (done c) (refused Refusal.full none)) v out v' out' (Err d) →
                  Tells q (cond b (done (record { step3 = T; step42ns = c })) (refused Refusal.full none)) u v out u v' out' (Err d)
              go true g = absurd (done-not-refused (sym g.says))
              go false g = record { says = g.says; stands = (refl, g.stands.0, g.stands.1) }

          -- the second is refused, or there is no room
          pub not_made : Tells q (on S3) u v out u v' out' (Err d)
          not_made = rw by (of-refused S4 (told e))

        module _ {d : Made} (e : y ≡ Ok d) where
          room : (c : Answer Said) → TellsSecond q z (second c) v out v' out' (Ok d) → fits ≡ true
          room (refused i o) g = absurd (done-not-refused g.says)
          room (done c) g = go fits g
            where
              go : (b : Bool) → TellsSecond q z (cond (b && R c) (done c) (refused Refusal.full none)) v out v' out' (Ok d) → b ≡ true
              go true g = refl
              go false g = absurd (done-not-refused g.says)

          fit : fits ≡ true
          fit = room S4 (told e)

          write-asks : WriteAsks w x b f.jobs j s f.loaded t u.context u.list u.lists m n false
          write-asks = record {
            planned = f.planned;
            words = words-of r (f.measures.says ∙ ap (λ (c : Bool). cond c (done z) (refused Refusal.full none)) fit) f.measures.words;
            room = fit;
          }

          pub write-asked : WriteAsked w x j s t u.context u.list u.lists m n false
          write-asked = (b, f.jobs, f.loaded, write-asks)

          of-done : (c : Answer Said) → TellsSecond q z (second c) v out v' out' (Ok d) → {u' : Lent} →
              Written (forest q) u.context u.list u.lists T u'.context u'.list u'.lists → Tells q (all c) u v out u' v' out' (Ok d)
          of-done (refused i o) g e = absurd (done-not-refused g.says)
          of-done (done c) g {u'} e = go (fits && R c) g
            where
              go :
                  (b : Bool) → TellsSecond q z (cond b (done c) (refused Refusal.full none)) v out v' out' (Ok d) →
                  Tells q (cond b (done (record { step3 = T; step42ns = c })) (refused Refusal.full none)) u v out u' v' out' (Ok d)
              go true g = record { says = g.says; stands = record { step3 = e; step42ns = g.stands.0; frames = g.stands.1 } }
              go false g = absurd (done-not-refused g.says)

          -- both are made
          pub both-made : {u' : Lent} → WriteGiven w x j s t u.context u'.context u.list u'.list u.lists u'.lists m n false → Tells q (on S3) u v out u' v' out' (Ok d)
          both-made {u'} h = rw by (of-done S4 (told e) {u' = u'} (h b f.jobs f.loaded write-asks))
