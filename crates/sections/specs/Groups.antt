-- THE GROUPS OF A SECTION, as the code holds them: for each section one number for each dimension up to 3, in a table.
-- Assumes nothing: these are definitions.
use Rattle.std.specs.Prelude.{ℕ, ◌+◌, ◌*◌, ◌/◌, ◌≤◌, ◌<◌, ◌≡◌, cond, ◌&&◌, List, length, get_or, set, eqb, leb}
use Rattle.sections.specs.Sums.{sum}
use Rattle.sections.specs.Sections.{section_count, record_limit}
use Rattle.sections.specs.declared.groups.Width.{Width}
use Rattle.sections.specs.declared.groups.Width.TheVariants as width

-- the dimensions 0 to 3 of each section
abbrev pub group_count : ℕ
group_count = 4 * section_count

abbrev pub group_at : ℕ → ℕ → ℕ
group_at s d = s * 4 + d

-- records that the code is asked to map: few enough, and of sections that are there
pub record Records (ss ds : List ℕ) : Type 0 where
  pub paired : length ss ≡ length ds
  pub few : length ds ≤ record_limit
  pub known : (k : ℕ) → k < length ss → get_or ss k 0 < section_count

-- what the records before i add to a group
abbrev pub taken : List ℕ → List ℕ → ℕ → ℕ → ℕ → ℕ
taken ss ds s d i = sum (λ j. cond (eqb (get_or ss j 0) s && eqb (get_or ds j 0) d) d 0) i

-- the table after the records before i
pub record Tallied (ss ds : List ℕ) (i : ℕ) (groups : List ℕ) : Type 0 where
  pub long : length groups ≡ group_count
  pub holds : (s d : ℕ) → s < section_count → d ≤ 3 → get_or groups (group_at s d) 0 ≡ taken ss ds s d i

-- no more than the dimensions of all records that a plan can have
abbrev pub Small : List ℕ → Type 0
Small groups = (s d : ℕ) → s < section_count → d ≤ 3 → get_or groups (group_at s d) 0 ≤ 3 * record_limit

-- a record's dimension added to its group
unfoldable pub added : List ℕ → ℕ → ℕ → List ℕ
added groups s d = cond (leb d 3) (set groups (group_at s d) (get_or groups (group_at s d) 0 + d)) groups

-- where the next record of a group goes, with the groups of all records and of those placed
unfoldable pub next_in : List ℕ → List ℕ → ℕ → ℕ → ℕ → ℕ
next_in all gone s d old =
    cond (eqb d 1) (get_or gone (group_at s 1) 0)
    (cond (eqb d 2) (get_or all (group_at s 1) 0 + get_or gone (group_at s 2) 0)
    (cond (eqb d 3) (get_or all (group_at s 1) 0 + get_or all (group_at s 2) 0 + get_or gone (group_at s 3) 0) old))

-- the widths of a section: N1, N, N3
abbrev pub width_in : List ℕ → Width → ℕ → ℕ
width_in groups width.First s = get_or groups (group_at s 1) 0
width_in groups width.Whole s = get_or groups (group_at s 1) 0 + get_or groups (group_at s 2) 0 + get_or groups (group_at s 3) 0
width_in groups width.Third s = (get_or groups (group_at s 2) 0 + get_or groups (group_at s 3) 0) / 3

-- how many records are read before one is past the limit
unfoldable pub count_to_read : ℕ → ℕ
count_to_read n = cond (leb n record_limit) n (record_limit + 1)
