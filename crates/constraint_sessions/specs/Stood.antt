-- THE LISTS AND THE CONTEXTS AFTER THEM STAND FOR THE DEFINITION'S: where a context's bytes hold a context of `meaning`, what is planned is `step3`, or `step42ns`, of
-- it; and after it was written the three lists are the segment's, and the context holds the definition's.
-- Assumes nothing.
use Rattle.std.specs.Prelude.{ℕ, ◌≤◌, ◌≡◌, refl, List, [], ◌∷◌, length}
use Rattle.std.proofs.Common.{sym, ◌∙◌, ap, subst, arith}
use Rattle.std.proofs.Math.Option.{Option}
use Rattle.meaning.specs.Refusals.{Refusal, Answer, done, refused, ◌then◌}
use Rattle.meaning.specs.Trees.{Forest}
use Rattle.meaning.specs.Generation.{State, serve, serve_all}
use Rattle.meaning.specs.Building.{after_build}
use Rattle.meaning.specs.Holding.{mapped}
use Rattle.meaning.proofs.Laws.Tests.{done-same, done-not-refused}
use Rattle.kinds.specs.Steps.{steps-none}
use Rattle.frames.specs.Order.{expression_limit}
use Rattle.builds.specs.RawOf.{raw_lists}
use Rattle.context.specs.Context.{context_size}
use Rattle.codegen.specs.Said.{Said, said, said_of, segment-said}
use Rattle.codegen.specs.Building.{Lists, lists_with}
use Rattle.codegen.specs.Sessions.{Bounded, Holds, said-again}
use Rattle.constraint_meaning.specs.Constraint.{Built, built_from, plain_request, plain_requests, marked, closing, step42ns}
use Rattle.constraint_pieces.specs.Marks.{AllBelow}
use Rattle.constraint_pieces.specs.Marking.{marked-bounded}
use Rattle.constraint_lists.specs.Lists.{step3_said, step42ns_said, Written}
use Rattle.constraint_lists.specs.Meant.{step3-is, step42ns-is}
use Rattle.constraint_sessions.specs.Bounds.{served-bounded, built-bounded}

-- the three lists are those of what was built, and the context holds the one after it
pub record Stood (o : Lists) (b : Built) (x' l' : List ℕ) (o' : Lists) : Type 0 where
  pub lists : o' ≡ lists_with o (raw_lists b.segment)
  pub holds : Holds x' l' b.context

-- an answer over states, seen in what is said: it was done, or refused alike
pub of-done : (f : State → Said) (z : Answer State) (s : Said) → mapped f z ≡ done s → (u : State) × (z ≡ done u) × (f u ≡ s)
of-done f (done u) s h = (u, refl, done-same (f u) s h)
of-done f (refused k o) s h = absurd (done-not-refused (sym h))

pub of-refused : (f : State → Said) (z : Answer State) (k : Refusal) (o : Option ℕ) → mapped f z ≡ refused k o → z ≡ refused k o
of-refused f (done u) k o h = absurd (done-not-refused h)
of-refused f (refused k' o') k o h =
    let p : k' ≡ k = cc in
    let q : o' ≡ o = cc in
    rw (p, q)

module _ (E : Forest) (small : length E ≤ expression_limit) (x l : List ℕ) (size : length x ≡ context_size) where
  -- what was written of a context of `meaning`
  pub written_stood : (st : State) (o : Lists) (x' l' : List ℕ) (o' : Lists) → Bounded st.marks → Written E x l o (said_of st) x' l' o' → Stood o (built_from 2 E st) x' l' o'
  written_stood st o x' l' o' bounded w =
      let b : Bounded (after_build 2 E st).marks = built-bounded E small st bounded in
      record {
        lists = w.built ∙ ap (lists_with o) (segment-said E st);
        holds = record {
          says = said-again x l' x' l' (after_build 2 E st) size (omega arith) tt b w.context (record { size = refl; steps = steps-none l'; rest = refl });
          celled = tt;
          bounded = b;
        };
      }

  module _ (st : State) (holds : Holds x l st) (members : List ℕ) where
    -- ── step3 ──────────────────────────────────────────────────────────────────
    -- the theorems on step3 that stand on it are those of proofs/Step3.antt
    pub said3 : step3_said E members (said x l) ≡ mapped said_of (serve_all 2 E (plain_requests members) st)
    said3 = ap (step3_said E members) holds.says ∙ step3-is E members st

    -- ── step42ns ───────────────────────────────────────────────────────────────
    module _ (c : ℕ) where
      said42 : step42ns_said E members c (said x l) ≡ mapped (λ u. said_of (closing u)) (serve 2 E (plain_request c) (marked 2 members st))
      said42 = ap (step42ns_said E members c) holds.says ∙ step42ns-is E members c st

      pub step42ns-refused : (k : Refusal) (i : Option ℕ) → step42ns_said E members c (said x l) ≡ refused k i → step42ns 2 E members c st ≡ refused k i
      step42ns-refused k i h =
          ap (λ (z : Answer State). z then λ u. done (built_from 2 E (closing u)))
          (of-refused (λ u. said_of (closing u)) (serve 2 E (plain_request c) (marked 2 members st)) k i (sym said42 ∙ h))

      pub step42ns_stood :
          AllBelow expression_limit members → (s : Said) → step42ns_said E members c (said x l) ≡ done s → (o : Lists) (x' l' : List ℕ) (o' : Lists) → Written E x l o s x' l' o' →
          (b : Built) × (step42ns 2 E members c st ≡ done b) × Stood o b x' l' o'
      step42ns_stood below s h o x' l' o' w =
          let z = of-done (λ u. said_of (closing u)) (serve 2 E (plain_request c) (marked 2 members st)) s (sym said42 ∙ h) in
          let one : serve_all 2 E (plain_requests (c ∷ [])) (marked 2 members st) ≡ done z.0 = ap (λ (y : Answer State). y then λ u. done u) z.1 in
          let bounded = served-bounded E small (c ∷ []) (marked 2 members st) z.0 (marked-bounded members below st.marks holds.bounded) one in (
            built_from 2 E (closing z.0),
            ap (λ (y : Answer State). y then λ u. done (built_from 2 E (closing u))) z.1,
            written_stood (closing z.0) o x' l' o' bounded (subst (λ (u : Said). Written E x l o u x' l' o') (sym z.2) w),
          )
