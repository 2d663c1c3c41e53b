-- Requests filled in one by one, and a list planned with them. No word of the code.
-- Assumes nothing.
use Prim.Native.Nat.{ℕ, zero, suc, ◌+◌, ◌*◌, ◌<◌, ◌≤◌}
use mathlib.Core.Path.{◌≡◌, refl, sym, ◌∙◌, ap, subst}
use mathlib.Core.Bool.{Bool, true, false}
use mathlib.Core.List.{List, [], ◌∷◌}
use mathlib.Core.Logic.{⊎_elim}
use native.Mathlib.Omega.{arith}
use native.Mathlib.Nat.{eq-or-lt_of_le}
use lib.ListN.{length, get_or, set, length-set}
use lib.Seq.{get_or-set_same, get_or-set_other, ext_get_or}
use lib.Dec.{eqb}
use borrow.Author.Tests.{eqb-true, eqb-false}
use Rattle.std.specs.Prelude.{Result, Ok, Err}
use Rattle.kinds.specs.declared.refusal.Refused.{Refused}
use Rattle.meaning.specs.Refusals.{Answer, done, ◌then◌}
use Rattle.meaning.specs.Trees.{Forest, Acyclic, Each}
use Rattle.meaning.specs.Order.{Asked}
use Rattle.meaning.specs.Generation.{Request}
use Rattle.meaning.specs.Demand3.{NoResult}
use Rattle.meaning.specs.Asking.{ask_all}
use Rattle.meaning.specs.Holding.{all-asks}
use Rattle.meaning.proofs.Laws.Tests.{each_map}
use Rattle.kinds.specs.Write.{write}
use Rattle.frames.specs.Order.{request_limit}
use Rattle.frames.specs.Tables.{request_in, request_word}
use Rattle.frames.specs.Packing.{request_read, request_kept, first-length, first-at}
use Rattle.pool.specs.Trees.{forest}
use Rattle.starkinfo_codegen.specs.Emitting.{Rest, pool_of}
use Rattle.starkinfo_codegen.specs.Ordering.{marks_of}
use Rattle.starkinfo_codegen.specs.Requests.{start-state}
use Rattle.requests.specs.Planning.{request_of, request_at, requests_in, Adds, Says, PlanAsks}
use Rattle.requests.specs.Making.{JobThere}
use Rattle.requests.specs.Jobs.{jobs-ask, jobs-there, jobs-once}
use Rattle.context.specs.Context.{cells, blocks_in, steps_in, Good}
use Rattle.context.specs.Tables.{marks_in, words_in}
use Rattle.context.specs.Held.{word_cell, Sound}
use Rattle.context.specs.Stored as stored
use Rattle.codegen.specs.Said.{Said, said, adding, sayings, sayings_lawful}
use Rattle.codegen.specs.Committing.{no_words, CommitAsks}
use Rattle.codegen.specs.Loads as loads
use Rattle.codegen.specs.Pigeons.{table-room}
use Rattle.constraint_meaning.specs.Constraint.{plain_request, plain_requests}
use Rattle.constraint_pieces.specs.Marks.{mark_one, mark_all, all-size, all-marks}
use Rattle.constraint_pieces.specs.Marking.{marked_said}
use Rattle.constraint_lists.specs.Lists.{closed_if, list_said}
use Rattle.constraint_lists.specs.Planned.{plain_frame, FillAsks, FillGives, ListAsks, PlanSays}

-- ── filled in ────────────────────────────────────────────────────────────────
-- the first k requests are those of the list
pub record Filled (es r : List ℕ) (k : ℕ) : Type 0 where
  pub below : k ≤ length es
  pub size : length r ≡ request_limit
  pub each : (i : ℕ) → i < k → request_in r i ≡ plain_frame (get_or es i 0)

pub none_filled : {es r : List ℕ} → FillAsks es r → Filled es r 0
none_filled a = record { below = omega arith; size = a.size; each = λ i l. absurd (omega arith) }

module _ {es r₀ r : List ℕ} {k : ℕ} (a : FillAsks es r₀) (p : Filled es r k) where
  pub one-filled : k < length es → {r' : List ℕ} → r' ≡ set r k (request_word (plain_frame (get_or es k 0))) → Filled es r' (k + 1)
  one-filled g {r'} e = record {
    below = omega arith;
    size = ap length e ∙ length-set r k (request_word (plain_frame (get_or es k 0))) ∙ p.size;
    each = λ i l. let z : i ≤ k = omega arith in ⊎_elim (here i) (before i) (eq-or-lt_of_le z);
  }
    where
      here : (i : ℕ) → i ≡ k → request_in r' i ≡ plain_frame (get_or es i 0)
      here i q = rw (e, q) (request_read r k (plain_frame (get_or es k 0)) (record { expression = a.small k g; prime = omega arith; muladd = omega arith }) (omega (arith, p.size, a.few)))

      before : (i : ℕ) → i < k → request_in r' i ≡ plain_frame (get_or es i 0)
      before i q = rw e (request_kept r k (plain_frame (get_or es k 0)) i (λ z. omega arith) ∙ p.each i q)

  pub all-filled : length es ≤ k → FillGives es r
  all-filled g = λ i l. p.each i (omega arith)

plain-length : (es : List ℕ) → length (plain_requests es) ≡ length es
plain-length [] = refl
plain-length (e ∷ es) = ap suc (plain-length es)

plain_at : (es : List ℕ) (k : ℕ) → k < length es → get_or (plain_requests es) k (plain_request 0) ≡ plain_request (get_or es k 0)
plain_at [] k h = absurd (omega arith)
plain_at (e ∷ es) zero h = refl
plain_at (e ∷ es) (suc k) h = plain_at es k (omega arith)

-- THE REQUESTS are those of the list
pub requests_are : (es r : List ℕ) → FillGives es r → requests_in r (length es) ≡ plain_requests es
requests_are es r h =
    ext_get_or (plain_request 0) (requests_in r (length es)) (plain_requests es) (first-length (request_at r) (length es) ∙ sym (plain-length es))
    (λ k g.
    let l : k < length es = omega (arith, first-length (request_at r) (length es)) in
    first-at (request_at r) k (length es) (plain_request 0) l ∙ ap request_of (h k l) ∙ sym (plain_at es k l))

no_results : (es : List ℕ) → Each NoResult (plain_requests es)
no_results [] = tt
no_results (e ∷ es) = (refl, no_results es)

-- ── marks' bytes ─────────────────────────────────────────────────────────────
module _ (s : List ℕ) (i c : ℕ) (low : c < length s) (h : get_or s c 0 ≤ 1) where
  set-low : get_or (set s i 1) c 0 ≤ 1
  set-low = go (eqb c i) refl
    where
      go : (v : Bool) → eqb c i ≡ v → get_or (set s i 1) c 0 ≤ 1
      go true q = let z = eqb-true c i q in rw z (omega (arith, get_or-set_same s i 1 0 (omega arith)))
      go false q = omega (arith, get_or-set_other s i c 1 0 (eqb-false c i q))

  set-one : get_or s c 0 ≡ 1 → get_or (set s i 1) c 0 ≡ 1
  set-one e = go (eqb c i) refl
    where
      go : (v : Bool) → eqb c i ≡ v → get_or (set s i 1) c 0 ≡ 1
      go true q = let z = eqb-true c i q in rw z (get_or-set_same s i 1 0 (omega arith))
      go false q = get_or-set_other s i c 1 0 (eqb-false c i q) ∙ e

all-low : (es s : List ℕ) (c : ℕ) → c < length s → get_or s c 0 ≤ 1 → (get_or (mark_all es s) c 0 ≤ 1) × (get_or s c 0 ≡ 1 → get_or (mark_all es s) c 0 ≡ 1)
unfolding mark_all mark_one
all-low [] s c l h = (h, λ e. e)
all-low (i ∷ es) s c l h =
    let a = set-low s (2 * i) c l h in
    let l₁ : c < length (set s (2 * i) 1) = rw length-set l in
    let b = set-low (set s (2 * i) 1) (2 * i + 1) c l₁ a in
    let ih = all-low es (set (set s (2 * i) 1) (2 * i + 1) 1) c (rw (length-set, length-set) l) b in
    (ih.0, λ e. ih.1 (set-one (set s (2 * i) 1) (2 * i + 1) c l₁ a (set-one s (2 * i) c l h e)))

pub loaded-words : (x : List ℕ) {t₀ t : List ℕ} → t ≡ write t₀ 0 (words_in x (blocks_in x)) → t₀ ≡ no_words → t ≡ write no_words 0 (words_in x (blocks_in x))
loaded-words x e h = e ∙ rw h

-- ── planned ──────────────────────────────────────────────────────────────────
module _ {w xs : List ℕ} {b : Rest} {A : Acyclic (forest (pool_of w b))} {ms qs x : List ℕ} {room m : ℕ} (a : ListAsks w xs b A ms qs x room m) (r : List ℕ) (fill : FillGives qs r) {s₁ s : List ℕ} (load : s₁ ≡ marks_in x) (mark : s ≡ mark_all ms s₁) where
  abbrev F : Forest
  F = forest (pool_of w b)

  size-x : length (marks_in x) ≡ cells
  size-x = stored.marks-full x a.good.head.size

  marks-is : s ≡ mark_all ms (marks_in x)
  marks-is = mark ∙ ap (mark_all ms) load

  size-s : length s ≡ cells
  size-s = ap length marks-is ∙ all-size ms (marks_in x) ∙ size-x

  pub plan-asks : (j : List ℕ) → length j ≡ cells → PlanAsks w xs b A r s j m (length qs)
  plan-asks j h = record {
    world = a.world;
    state = start-state s j size-s h;
    expressions = a.expressions;
    few = a.few;
    in_rows = λ k g. rw (fill k g) (omega arith);
  }

  asked_is : (l : List ℕ) → ask_all 2 F (plain_requests qs) (marked_said ms (said x l)).marks ≡ ask_all 2 F (requests_in r (length qs)) (marks_of s)
  asked_is l =
      ap (ask_all 2 F (plain_requests qs)) (sym (ap marks_of marks-is ∙ all-marks ms (marks_in x) size-x a.marked))
      ∙ ap (λ (z : List Request). ask_all 2 F z (marks_of s)) (sym (requests_are qs r fill))

  list-is :
      (l : List ℕ) (closes : Bool) →
      list_said F ms qs closes (said x l)
      ≡ ((ask_all 2 F (requests_in r (length qs)) (marks_of s) then λ z. done (adding F z (said x l))) then λ u. done (closed_if closes u))
  list-is l closes =
      ap (λ (z : Answer Said). z then λ u. done (closed_if closes u)) (all-asks 2 F (sayings F) (sayings_lawful F) (plain_requests qs) (no_results qs) (marked_said ms (said x l)))
      ∙ ap (λ (z : Answer Asked). (z then λ y. done (adding F y (said x l))) then λ u. done (closed_if closes u)) (asked_is l)

  module _ {t : List ℕ} (loaded : t ≡ write no_words 0 (words_in x (blocks_in x))) where
    -- the table's blocks and the marks with the members'
    sound : (l : List ℕ) → length l ≡ room → Sound s t (blocks_in x) (steps_in x) 512 (length l)
    sound l e =
        let g : Good x m (length l) = subst (Good x m) (sym e) a.good in
        let few : m ≤ 512 = omega (arith, a.expressions, a.world.few) in
        let o = loads.sound l few g loaded in
        record {
          few = o.few;
          in_room = o.in_room;
          marks01 = λ c h. record { marked01 = rw marks-is (all-low ms (marks_in x) c (omega (arith, size-x)) (o.marks01 c h).marked01).0; marked_there = λ z. absurd (omega arith) };
          each_word = λ k h.
              let v = o.each_word k h in
              let c = word_cell (get_or t k 0) in
              let low : c < cells = omega arith in
              record {
                there = omega arith;
                some_step = v.some_step;
                marked = rw marks-is ((all-low ms (marks_in x) c (omega (arith, size-x)) (o.marks01 c low).marked01).1 v.marked);
              };
          apart = o.apart;
          total = o.total;
        }

    ready :
        {s' j j' : List ℕ} {n : ℕ} → length j ≡ cells → (d : Adds (ask_all 2 F (requests_in r (length qs)) (marks_of s)) s' j j' 0 n) → (l : List ℕ) → length l ≡ room →
        CommitAsks w xs b d.jobs j' s' t x l n
    ready {j = j} size d l e =
        let p = plan-asks j size in
        let q = jobs-ask w xs b A p d in
        let there = each_map (JobThere b) (λ y. (y.expression < 512) × (y.row < 2)) (λ y h. (omega (arith, h.0, a.world.few), h.1)) d.jobs (jobs-there w xs b A p d) in
        let enough = table-room (sound l e) size-s (omega arith) d.jobs there (jobs-once w xs b A p d) in
        record {
          jobs = q;
          rows = a.rows;
          good = subst (λ i. Good x i (length l)) a.expressions (subst (Good x m) (sym e) a.good);
          marks = d.state.marks_size;
          loaded = loaded;
          room = omega (arith, enough, q.count);
        }

    -- WHAT A PLAN SAYS OF THE LIST
    pub plan-says :
        (s' j j' : List ℕ) (p : Result ℕ Refused) → length j ≡ cells → Says (ask_all 2 F (requests_in r (length qs)) (marks_of s)) s' j j' 0 p → PlanSays w xs b ms qs x s' t j' room p
    plan-says s' j j' (Ok n) size d = record {
      jobs = d.jobs;
      ready = ready size d;
      is = λ l closes. list-is l closes ∙ rw d.is;
    }
    plan-says s' j j' (Err f) size h = λ l closes. list-is l closes ∙ rw h.0
