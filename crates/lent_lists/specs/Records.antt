-- The lists of a segment: when they are well formed, which of a record's sources count, and a list with each of its records rewritten.
-- Assumes nothing: these are definitions.
use Rattle.std.specs.Prelude.{ℕ, Bool, true, cond, ◌&&◌, List, [], ◌∷◌, ◌++◌, leb, ltb}
use Rattle.kinds.specs.StepOps.{is_step, sources_needed}
use Rattle.kinds.specs.Write.{write}
use Rattle.kinds.specs.Steps.{steps_bytes}
use Rattle.kinds.specs.declared.reference.Reference.{Reference}
use Rattle.kinds.specs.declared.step.Step.{Step}
use Rattle.lists.specs.Records.{records_in, good_reference, good_list}

-- those of a segment's lists, in the order of the walk
abbrev pub segment_in : List ℕ → List ℕ → List ℕ → List Step
segment_in first i last = records_in first ++ (records_in i ++ records_in last)

-- ---- well formed

-- a source that does not count is not looked at
unfoldable pub good_used : Bool → Reference → Bool
good_used used r = cond used (good_reference r) true

unfoldable pub good_lists : List ℕ → List ℕ → List ℕ → Bool
good_lists first i last = good_list first && (good_list i && good_list last)

-- ---- a step

-- a step byte that is known, and as many sources as the step needs
abbrev pub runs_by : ℕ → ℕ → Bool
runs_by op count = is_step op && leb (sources_needed op) count

-- its step byte is known, and it has the sources that the step needs
unfoldable pub runs : Step → Bool
runs x = is_step x.op && leb (sources_needed x.op) x.count

-- ---- rewriting

-- each reference that counts rewritten by f, the others as they are
unfoldable pub used_by : (Reference → Reference) → Bool → Reference → Reference
used_by f used r = cond used (f r) r

unfoldable pub record_by : (Reference → Reference) → Step → Step
record_by f x =
    record {
      op = x.op;
      count = x.count;
      origin = x.origin;
      dest = f x.dest;
      s0 = used_by f (ltb 0 x.count) x.s0;
      s1 = used_by f (ltb 1 x.count) x.s1;
      s2 = used_by f (ltb 2 x.count) x.s2;
    }

unfoldable pub mapped : (Step → Step) → List Step → List Step
mapped f [] = []
mapped f (x ∷ xs) = f x ∷ mapped f xs

-- a list with each of its records rewritten by f
unfoldable pub rewritten : (Step → Step) → List ℕ → List ℕ
rewritten f l = write l 0 (steps_bytes (mapped f (records_in l)))
