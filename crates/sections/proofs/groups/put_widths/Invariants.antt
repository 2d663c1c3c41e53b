-- `sections::groups::put_widths` meets its contract: the widths of the sections before s are written.
-- Assumes nothing.
use Prim.Native.Nat.{◌≤◌, ◌-◌}
use mathlib.Core.Path.{◌≡◌}
use lib.ListN.{length}
use Rattle.kinds.specs.Write.{write}
use Rattle.sections.specs.Sums.{each}
use Rattle.sections.specs.Sections.{section_count}
use Rattle.sections.specs.Groups.{width_in}
use Rattle.sections.proofs.groups.put_widths.Given as goal

abbrev pub invariant-loop-s : goal.invariant-loop-s
invariant-loop-s l = (l.s ≤ section_count) × (l.widths ≡ write l.initial.widths l.at (each (width_in l.groups l.which) l.s)) × (length l.widths ≡ length l.initial.widths)

abbrev pub decreases-loop-s : goal.decreases-loop-s
decreases-loop-s l = section_count - l.s
