-- Laws of whole runs: as asking and then making, that room for 8,192 steps always suffices, that only one answer fits, and what is accepted.
-- Assumes nothing.
use Rattle.std.specs.Prelude.{ℕ, ◌*◌, ◌<◌, ◌≤◌, ◌≡◌, refl, Bool, true, false, ◌&&◌, cond, List, [], ◌∷◌, map, length, leb, ltb}
use Rattle.std.proofs.Common.{sym, ◌∙◌, ap, subst, arith, lt-ltb, le-leb, leb-true, ltb-true}
use Rattle.std.proofs.Math.Option.{none}
use Rattle.meaning.specs.Refusals.{Refusal, Answer, done, refused, ◌then◌}
use Rattle.meaning.specs.Trees.{Forest, Acyclic, Each}
use Rattle.meaning.specs.Order.{unmarked, Asked}
use Rattle.meaning.specs.Generation.{Request, start, make, adding}
use Rattle.meaning.specs.Building.{Segment, every, segment, whole}
use Rattle.meaning.specs.Demand3.{NoResult}
use Rattle.meaning.specs.Asking.{ask_all}
use Rattle.meaning.specs.Holding.{serve_all-asks}
use Rattle.meaning.proofs.Laws.Tests.{then-done, done-same, done-not-refused}
use Rattle.meaning.proofs.Laws.Once.{all_found}
use Rattle.kinds.specs.Steps.{step_size}
use Rattle.frames.specs.Order.{Input, node_limit}
use Rattle.frames.specs.declared.rest.Request as frame
use Rattle.pool.specs.Pool.{Pool}
use Rattle.pool.specs.Trees.{forest}
use Rattle.pool.specs.Shaped.{Shaped}
use Rattle.pool.specs.Verdict.{Verdict}
use Rattle.pool.specs.Exactly.{exactly_0, one_answer}
use Rattle.pool.specs.Numbered.{pool_of}
use Rattle.starkinfo_codegen.specs.Totals.{counter_is, room-suffices}
use Rattle.requests.specs.Planning.{request_of}
use Rattle.requests.specs.Generating.{number_limit}
use Rattle.requests.specs.Whole.{fitting, served, Answers}
use Rattle.requests.specs.Runs.{requests_of, Runs}

-- ── asking and then making ───────────────────────────────────────────────────
module _ (E : Forest) (qs : List Request) (h : Each NoResult qs) where
  pub whole-asks : whole 2 E qs ≡ (ask_all 2 E qs unmarked then λ a. done (segment E (adding E a start)))
  whole-asks = ap (λ (z : Answer _). z then λ st. done (segment E st)) (serve_all-asks 2 E qs h start) ∙ go (ask_all 2 E qs unmarked)
    where
      go : (z : Answer Asked) → ((z then λ a. done (adding E a start)) then λ st. done (segment E st)) ≡ (z then λ a. done (segment E (adding E a start)))
      go (done a) = refl
      go (refused k o) = refl

-- no request of a frame asks for a result
pub plain-requests : (qs : List frame.Request) → Each NoResult (map request_of qs)
plain-requests [] = tt
plain-requests (q ∷ qs) = (refl, plain-requests qs)

-- ── 8,192 steps always suffice ───────────────────────────────────────────────
abbrev pub step_room : ℕ
step_room = 8192

module _ (p : Pool) (shaped : Shaped p) (few : length p.nodes ≤ node_limit) (acyclic : Acyclic (forest p)) (qs : List Request) (plain : Each NoResult qs) (rows : Each (λ q. q.row < 2) qs) (room : ℕ) (enough : step_size * step_room ≤ room) where
  -- so the answer is document 01's whole run, and never 9
  pub served-whole : served (forest p) qs room ≡ whole 2 (forest p) qs
  served-whole = ap (λ (z : Answer Segment). z then fitting room) (whole-asks (forest p) qs plain) ∙ go (ask_all 2 (forest p) qs unmarked) refl ∙ sym (whole-asks (forest p) qs plain)
    where
      fits : (a : Asked) → ask_all 2 (forest p) qs unmarked ≡ done a → fitting room (segment (forest p) (adding (forest p) a start)) ≡ done (segment (forest p) (adding (forest p) a start))
      fits a e =
          let n = length (every (make (forest p) a.jobs 0).blocks) in
          let s = room-suffices p shaped few acyclic qs unmarked a 0 rows e in
          let c = counter_is (forest p) a.jobs 0 (all_found 2 (forest p) qs unmarked a e) in
          rw (le-leb (step_size * n) room (omega (arith, s, enough)), lt-ltb (make (forest p) a.jobs 0).counter number_limit (omega (arith, s, c)))

      go :
          (z : Answer Asked) → ask_all 2 (forest p) qs unmarked ≡ z →
          ((z then λ a. done (segment (forest p) (adding (forest p) a start))) then fitting room) ≡ (z then λ a. done (segment (forest p) (adding (forest p) a start)))
      go (done a) e = fits a e
      go (refused k o) e = refl

-- ── only one answer fits ─────────────────────────────────────────────────────
one-of-pool : (p : Pool) (qs : List Request) (room : ℕ) (a b : Answer Segment) → Answers p qs room a → Answers p qs room b → a ≡ b
one-of-pool p qs room a b x y =
    x.2 ∙ ap (λ (v : Answer (Unit {0})). v then λ _. served (forest p) qs room) (one_answer p [] x.0 y.0 x.1 y.1) ∙ sym y.2

pub one-run : (x : Answer Input) (room : ℕ) (a b : Answer Segment) → Runs x room a → Runs x room b → a ≡ b
one-run x room a b h k = go x refl
  where
    go : (z : Answer Input) → x ≡ z → a ≡ b
    go (done i) e = one-of-pool (pool_of i) (requests_of i) room a b (h.judged i e) (k.judged i e)
    go (refused f o) e = h.unread f o e ∙ sym (k.unread f o e)

-- ── what is accepted ─────────────────────────────────────────────────────────
-- the pool has its shape and no cycle, the segment is document 01's whole run, and it fits
pub record Accepted (p : Pool) (qs : List Request) (room : ℕ) (s : Segment) : Type 0 where
  pub shaped : Shaped p
  pub acyclic : Acyclic (forest p)
  pub run : whole 2 (forest p) qs ≡ done s
  pub list : step_size * length s.first ≤ room
  pub counter : s.counter < number_limit

pub accepted : (p : Pool) (qs : List Request) (room : ℕ) (s : Segment) → Answers p qs room (done s) → Accepted p qs room s
accepted p qs room s a = go a.0 a.1 a.2
  where
    fits : Shaped p → Acyclic (forest p) → (z : Segment) → whole 2 (forest p) qs ≡ done z → (u v : Bool) → leb (step_size * length z.first) room ≡ u → ltb z.counter number_limit ≡ v → cond (u && v) (done z) (refused Refusal.full none) ≡ done s → Accepted p qs room s
    fits h k z w true true x y e =
        subst (Accepted p qs room) (done-same z s e)
        (record { shaped = h; acyclic = k; run = w; list = leb-true (step_size * length z.first) room x; counter = ltb-true z.counter number_limit y })
    fits h k z w true false x y e = absurd (done-not-refused (sym e))
    fits h k z w false v x y e = absurd (done-not-refused (sym e))

    go : (v : Answer (Unit {0})) → Verdict p [] v → done s ≡ (v then λ _. served (forest p) qs room) → Accepted p qs room s
    go (done tt) v e =
        let x = then-done (whole 2 (forest p) qs) (fitting room) (sym e) in
        let k = (exactly_0 p (done tt) v).0 refl in
        fits k.0 k.1 x.0 x.1 (leb (step_size * length x.0.first) room) (ltb x.0.counter number_limit) refl refl x.2
    go (refused k o) v e = absurd (done-not-refused e)
