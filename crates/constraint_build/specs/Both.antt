-- BOTH LISTS OF THE CONSTRAINT POLYNOMIAL AND THE FRAMES OF ITS POOL, over what the contexts' bytes say: step3 refused, step42ns refused, no room for all (9), or all
-- of them; and what stands in everything lent after it.
-- Assumes nothing: these are definitions.
use Rattle.std.specs.Prelude.{ℕ, ◌≡◌, Bool, ◌&&◌, cond, List, length, leb, Result, Ok, Err}
use Rattle.std.proofs.Math.Option.{none}
use Rattle.meaning.specs.Refusals.{Refusal, Answer, done, refused, ◌then◌}
use Rattle.kinds.specs.Write.{write}
use Rattle.kinds.specs.Answers.{refusal_of, blame_of}
use Rattle.kinds.specs.declared.refusal.Refused.{Refused}
use Rattle.pool.specs.Pool.{Pool}
use Rattle.pool.specs.Trees.{forest}
use Rattle.builds.specs.Raw.{RawSegment}
use Rattle.codegen.specs.Said.{Said, said, segment_said}
use Rattle.codegen.specs.Building.{Lists}
use Rattle.constraint_frames.specs.Extension.{bytes_of}
use Rattle.constraint_lists.specs.Lists.{step3_said, step42ns_said, room_for, Written}
use Rattle.constraint_build.specs.declared.answer.Sizes.{Sizes}
use Rattle.constraint_build.specs.declared.answer.Made.{Made}

-- ── the answer ───────────────────────────────────────────────────────────────
-- what is lent for one of them: a context with its list, and room for three lists
pub record Lent : Type 0 where
  pub context : List ℕ
  pub list : List ℕ
  pub lists : Lists

abbrev pub lent : List ℕ → List ℕ → Lists → Lent
lent x l o = record { context = x; list = l; lists = o }

-- what each context says before it is built from
pub record Both : Type 0 where
  pub step3 : Said
  pub step42ns : Said

-- room for everything, in `room` bytes for the frames
abbrev pub room_both : Pool → Both → Lent → Lent → ℕ → Bool
room_both q b u v room =
    room_for (forest q) (length u.list) u.lists b.step3
    && (room_for (forest q) (length v.list) v.lists b.step42ns && leb (length (bytes_of q)) room)

abbrev pub fitting : Pool → Both → Lent → Lent → ℕ → Answer Both
fitting q b u v room = cond (room_both q b u v room) (done b) (refused Refusal.full none)

-- THE ANSWER of a pool with its constraint, expression c, and its members
abbrev pub listing : Pool → ℕ → List ℕ → Lent → Lent → ℕ → Answer Both
listing q c ms u v room =
    step3_said (forest q) ms (said u.context u.list) then λ s.
    step42ns_said (forest q) ms c (said v.context v.list) then λ t.
    fitting q (record { step3 = s; step42ns = t }) u v room

-- ── what is told ─────────────────────────────────────────────────────────────
abbrev pub sizes_by : RawSegment → RawSegment → Sizes
sizes_by s t =
    record {
      first = length s.first;
      i = length s.i;
      last = length s.last;
      first_2ns = length t.first;
      i_2ns = length t.i;
      last_2ns = length t.last;
    }

abbrev pub sizes_of : Pool → Both → Sizes
sizes_of q b = sizes_by (segment_said (forest q) b.step3) (segment_said (forest q) b.step42ns)

-- steps and bytes
pub record Totals : Type 0 where
  pub sizes : Sizes
  pub bytes : ℕ

abbrev pub totals_of : Pool → Both → Totals
totals_of q b = record { sizes = sizes_of q b; bytes = length (bytes_of q) }

-- WHAT IS SAID
abbrev pub made_says : Result Made Refused → Answer Totals
made_says (Ok m) = done (record { sizes = m.sizes; bytes = m.bytes })
made_says (Err f) = refused (refusal_of f.refusal) (blame_of f.node)

-- ── what stands after it ─────────────────────────────────────────────────────
pub record After (q : Pool) (b : Both) (u v : Lent) (out : List ℕ) (u' v' : Lent) (out' : List ℕ) : Type 0 where
  pub step3 : Written (forest q) u.context u.list u.lists b.step3 u'.context u'.list u'.lists
  pub step42ns : Written (forest q) v.context v.list v.lists b.step42ns v'.context v'.list v'.lists
  pub frames : out' ≡ write out 0 (bytes_of q)

-- on a refusal every byte is what it was
abbrev pub Stands : Pool → Answer Both → Lent → Lent → List ℕ → Lent → Lent → List ℕ → Type 0
Stands q (done b) u v out u' v' out' = After q b u v out u' v' out'
Stands q (refused k o) u v out u' v' out' = (u' ≡ u) × (v' ≡ v) × (out' ≡ out)

-- AN ANSWER TOLD, and everything lent after it
pub record Tells (q : Pool) (a : Answer Both) (u v : Lent) (out : List ℕ) (u' v' : Lent) (out' : List ℕ) (r : Result Made Refused) : Type 0 where
  pub says : made_says r ≡ (a then λ b. done (totals_of q b))
  pub stands : Stands q a u v out u' v' out'
