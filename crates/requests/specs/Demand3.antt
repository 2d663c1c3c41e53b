-- DEMAND 3 FROM BYTES: whenever what was read is admitted, its requests are accepted and the list is built, running that list from top to bottom
-- leaves in each requested cell its expression's value. Assumes nothing.
use Rattle.std.specs.Prelude.{ℕ, ◌≤◌, ◌≡◌, refl, List}
use Rattle.std.proofs.Common.{subst}
use Rattle.meaning.specs.Refusals.{Answer, done, refused}
use Rattle.meaning.specs.Trees.{Acyclic}
use Rattle.meaning.specs.Values.{Algebra, Given}
use Rattle.meaning.specs.Models.{integers, modulo}
use Rattle.meaning.specs.Generation.{start, serve_all}
use Rattle.meaning.specs.Building.{Segment, whole}
use Rattle.meaning.specs.Demand3.{PlainLeaf, Throughout, AllGiven, Computes}
use Rattle.meaning.proofs.Proved.{demand3}
use Rattle.meaning.proofs.Laws.Tests.{then-done, done-same, done-not-refused}
use Rattle.frames.specs.Order.{Input}
use Rattle.frames.specs.Reading.{reading}
use Rattle.frames.specs.Text.{reading_text}
use Rattle.pool.specs.Trees.{forest}
use Rattle.pool.specs.Numbered.{pool_of}
use Rattle.requests.specs.Runs.{requests_of, Runs, BytesRun, TextRun}
use Rattle.requests.specs.Serving.{plain-requests, accepted}

-- ── the statement ────────────────────────────────────────────────────────────
-- the first list of a segment computes what the pool and the requests that were read say
abbrev pub ComputesInput : Algebra → Input → Segment → Type 0
ComputesInput 𝓐 i s =
    (G : Given 𝓐.A) → Throughout PlainLeaf (forest (pool_of i)) → AllGiven 2 G → Computes 𝓐 G (forest (pool_of i)) s.first (requests_of i)

-- of whatever reading answers: a segment is the answer only where something was read, and then its first list computes it
abbrev pub Demand3Read : Algebra → Answer Input → Type 0
Demand3Read 𝓐 x = (room : ℕ) (s : Segment) → Runs x room (done s) → (i : Input) × (x ≡ done i) × ComputesInput 𝓐 i s

-- ── the proof ────────────────────────────────────────────────────────────────
computes : (𝓐 : Algebra) (i : Input) (s : Segment) → Acyclic (forest (pool_of i)) → whole 2 (forest (pool_of i)) (requests_of i) ≡ done s → ComputesInput 𝓐 i s
computes 𝓐 i s acyclic e G plain given =
    let y = then-done (serve_all 2 (forest (pool_of i)) (requests_of i) start) _ e in
    subst (λ (z : Segment). Computes 𝓐 G (forest (pool_of i)) z.first (requests_of i)) (done-same _ _ y.2)
    (demand3 𝓐 2 G (forest (pool_of i)) acyclic plain given (requests_of i) (plain-requests i.requests) y.0 y.1)

-- DEMAND 3 over every algebra, from whatever was read
pub demand3-read : (𝓐 : Algebra) (x : Answer Input) → Demand3Read 𝓐 x
demand3-read 𝓐 (done i) room s r = let a = accepted (pool_of i) (requests_of i) room s (r.judged i refl) in (i, refl, computes 𝓐 i s a.acyclic a.run)
demand3-read 𝓐 (refused k o) room s r = absurd (done-not-refused (r.unread k o refl))

-- from a slice of frames, and from a text: over the integers, and modulo every number from 2 up
abbrev pub Demand3Bytes : Algebra → Type 0
Demand3Bytes 𝓐 = (b : List ℕ) (room : ℕ) (s : Segment) → BytesRun b room (done s) → (i : Input) × (reading b ≡ done i) × ComputesInput 𝓐 i s

abbrev pub Demand3Text : Algebra → Type 0
Demand3Text 𝓐 = (t : List ℕ) (room : ℕ) (s : Segment) → TextRun t room (done s) → (i : Input) × (reading_text t ≡ done i) × ComputesInput 𝓐 i s

pub demand3-bytes-integers : Demand3Bytes integers
demand3-bytes-integers b = demand3-read integers (reading b)

pub demand3-bytes-modulo : (n : ℕ) → 2 ≤ n → Demand3Bytes (modulo n)
demand3-bytes-modulo n h b = demand3-read (modulo n) (reading b)

pub demand3-text-integers : Demand3Text integers
demand3-text-integers t = demand3-read integers (reading_text t)

pub demand3-text-modulo : (n : ℕ) → 2 ≤ n → Demand3Text (modulo n)
demand3-text-modulo n h t = demand3-read (modulo n) (reading_text t)
