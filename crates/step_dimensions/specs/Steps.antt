-- A STEP'S DIMENSIONS AS THE CODE FINDS THEM: a source by its place, whether the step needs it or not.
-- Assumes nothing: these are definitions.
use Rattle.std.specs.Prelude.{ℕ, max, cond, List, eqb, ltb}
use Rattle.std.proofs.Math.Option.{none}
use Rattle.kinds.specs.declared.reference.Reference.{Reference}
use Rattle.kinds.specs.declared.step.Step.{Step}
use Rattle.meaning.specs.Refusals.{Refusal, Answer, done, refused, ◌then◌}
use Rattle.step_dimensions.specs.Rules.{is_destination}
use Rattle.step_dimensions.specs.StepDimensions.{Given, source_dim, sized, met}

-- a source that the step does not need keeps what it brings; c sources are there
abbrev pub slot_dim : Given → List ℕ → ℕ → ℕ → ℕ → Reference → Answer ℕ
slot_dim g ts n c k r = cond (ltb k n) (source_dim g ts (met (ltb k c) r)) (done r.dim)

unfoldable pub largest_of : ℕ → ℕ → ℕ → ℕ → ℕ
largest_of n a b c = cond (eqb n 1) a (cond (eqb n 2) (max a b) (max a (max b c)))

abbrev pub built_step : ℕ → Step → ℕ → ℕ → ℕ → Step
built_step n s a b c =
    record {
      op = s.op;
      count = s.count;
      origin = s.origin;
      dest = sized s.dest (largest_of n a b c);
      s0 = sized s.s0 a;
      s1 = sized s.s1 b;
      s2 = sized s.s2 c;
    }

-- with the dimensions of all three
unfoldable pub ended_by : ℕ → Step → ℕ → ℕ → ℕ → Answer Step
ended_by n s a b c = cond (is_destination s.dest.kind) (done (built_step n s a b c)) (refused Refusal.no_rule none)

-- from the third on, from the second on, and from the first
unfoldable pub third_by : Given → List ℕ → ℕ → Step → ℕ → ℕ → Answer Step
third_by g ts n s a b = slot_dim g ts n s.count 2 s.s2 then λ c. ended_by n s a b c

unfoldable pub second_by : Given → List ℕ → ℕ → Step → ℕ → Answer Step
second_by g ts n s a = slot_dim g ts n s.count 1 s.s1 then λ b. third_by g ts n s a b

unfoldable pub step_by : Given → List ℕ → ℕ → Step → Answer Step
step_by g ts n s = slot_dim g ts n s.count 0 s.s0 then λ a. second_by g ts n s a
