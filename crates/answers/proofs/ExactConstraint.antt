-- EACH NUMBER EXACTLY WHEN one of its ways is open, of the exported pieces of the constraint.
-- Assumes nothing.
use Rattle.std.specs.Prelude.{ℕ, ◌+◌, ◌≡◌, Bool, true, false, List, [], ◌↔◌, length, leb, ltb}
use Rattle.std.proofs.Math.Path.{refl}
use Rattle.std.proofs.Common.{sym, ◌∙◌, ap, subst, inl, inr, arith, leb-true, leb-false, le-leb, ltb-true, ltb-false, lt-ltb, le-ltb}
use Rattle.std.proofs.lemmas.Bool.{lt-leb}
use Rattle.meaning.specs.Refusals.{Refusal, Answer, done, ◌then◌, answer_no}
use Rattle.meaning.proofs.Laws.Tests.{true-false}
use Rattle.frames.specs.Order.{Input}
use Rattle.frames.specs.Reading.{reading}
use Rattle.pool.specs.Numbered.{pool_of}
use Rattle.pool.specs.Verdict.{Verdict}
use Rattle.codegen.specs.Said.{Said, said}
use Rattle.search_meaning.specs.Search.{all_below}
use Rattle.constraint_meaning.specs.Constraint.{unless}
use Rattle.constraint_pieces.specs.Marking.{MarkAnswered}
use Rattle.constraint_pieces.specs.Closing.{CloseAnswered}
use Rattle.constraint_frames.specs.Listing.{set_good}
use Rattle.constraint_frames.specs.Extension.{Question, Extension, extension, extending, OrMalformed, Runs}
use Rattle.constraint_host.specs.Exactly.{MarkCase, mark-case, mark_9, mark_1, mark_3, SomeBlock, CloseCase, close-case, close_1, close_8, close_9}
use Rattle.answers.specs.Ways.{OfPool}
use Rattle.answers.specs.ConstraintWays as way
use Rattle.answers.proofs.Exact.{both, of-frames, of-pool}

-- ── enonkasse_mark ───────────────────────────────────────────────────────────
module _ (es : List ℕ) (m : ℕ) (x l : List ℕ) (a : Answer Said) (h : MarkAnswered es m x l a) where
  mark-way : way.MarkWay es m x l (answer_no a)
  mark-way = go (mark-case es m x l a h)
    where
      go : MarkCase es m x l a → way.MarkWay es m x l (answer_no a)
      go (MarkCase.past_limit f n) = subst (way.MarkWay es m x l) (sym n) (way.MarkWay.full f)
      go (MarkCase.bad_context f g n) = subst (way.MarkWay es m x l) (sym n) (way.MarkWay.bad_context f g)
      go (MarkCase.not_there f g d n) = subst (way.MarkWay es m x l) (sym n) (way.MarkWay.lost f g d)
      go (MarkCase.marked f g d n) = subst (way.MarkWay es m x l) (sym n) (way.MarkWay.marked f g d)

  mark-number : (k : ℕ) → way.MarkWay es m x l k → answer_no a ≡ k
  mark-number k (way.MarkWay.full f) = (mark_9 es m x l a h).1 f
  mark-number k (way.MarkWay.bad_context f g) = (mark_1 es m x l a h).1 (f, g)
  mark-number k (way.MarkWay.lost f g d) = (mark_3 es m x l a h).1 (f, g, d)
  mark-number k (way.MarkWay.marked f g d) = go (mark-case es m x l a h)
    where
      go : MarkCase es m x l a → answer_no a ≡ 0
      go (MarkCase.past_limit p n) = absurd (omega (arith, p, f))
      go (MarkCase.bad_context p q n) = absurd (q g)
      go (MarkCase.not_there p q r n) = absurd (omega (arith, r.beyond, d r.place r.inside))
      go (MarkCase.marked p q r n) = n

  pub of-mark : (k : ℕ) → (answer_no a ≡ k) ↔ way.MarkWay es m x l k
  of-mark = both (way.MarkWay es m x l) mark-way mark-number

-- ── enonkasse_close ──────────────────────────────────────────────────────────
module _ (m : ℕ) (x l : List ℕ) (a : Answer Said) (h : CloseAnswered m x l a) where
  close-way : way.CloseWay m x l (answer_no a)
  close-way = go (close-case m x l a h)
    where
      go : CloseCase m x l a → way.CloseWay m x l (answer_no a)
      go (CloseCase.past_limit f n) = subst (way.CloseWay m x l) (sym n) (way.CloseWay.past f)
      go (CloseCase.bad_context f g n) = subst (way.CloseWay m x l) (sym n) (way.CloseWay.bad_context f g)
      go (CloseCase.no_block f g b n) = subst (way.CloseWay m x l) (sym n) (way.CloseWay.no_block f g b)
      go (CloseCase.no_room f g b r n) = subst (way.CloseWay m x l) (sym n) (way.CloseWay.full f g b r)
      go (CloseCase.closed f g b r n) = subst (way.CloseWay m x l) (sym n) (way.CloseWay.closed f g b r)

  some-none : SomeBlock m x l (said x l).blocks → (said x l).blocks ≡ [] → ⊥
  some-none s e = rw e at s

  close-number : (k : ℕ) → way.CloseWay m x l k → answer_no a ≡ k
  close-number k (way.CloseWay.past f) = (close_9 m x l a h).1 (inl f)
  close-number k (way.CloseWay.bad_context f g) = (close_1 m x l a h).1 (f, g)
  close-number k (way.CloseWay.no_block f g b) = (close_8 m x l a h).1 (f, g, b)
  close-number k (way.CloseWay.full f g b r) = (close_9 m x l a h).1 (inr (f, g, b, r))
  close-number k (way.CloseWay.closed f g b r) = go (close-case m x l a h)
    where
      go : CloseCase m x l a → answer_no a ≡ 0
      go (CloseCase.past_limit p n) = absurd (omega (arith, p, f))
      go (CloseCase.bad_context p q n) = absurd (q g)
      go (CloseCase.no_block p q c n) = absurd (some-none b c)
      go (CloseCase.no_room p q c t n) = absurd (true-false r t)
      go (CloseCase.closed p q c t n) = n

  pub of-close : (k : ℕ) → (answer_no a ≡ k) ↔ way.CloseWay m x l k
  of-close = both (way.CloseWay m x l) close-way close-number

-- ── enonkasse_constraint_pool ────────────────────────────────────────────────
-- five tests, one after the other
abbrev tested : Bool → Bool → Bool → Bool → Bool → Extension → Answer Extension
tested some there within counted fits x =
    unless Refusal.no_identity some then λ _.
    unless Refusal.not_there there then λ _.
    (unless Refusal.full within then λ _. unless Refusal.counts counted) then λ _.
    unless Refusal.full fits then λ _.
    done x

module _ (q : Question) (room : ℕ) (i : Input) where
  abbrev before : ℕ
  before = q.columns.n_cm1 + q.columns.n_cm2

  abbrev answer : Answer Extension
  answer = extending (pool_of i) q room

  is-tested :
      answer
      ≡ tested (ltb 0 (length q.identities)) (all_below (length i.expressions) q.identities) (way.within_limits q room i) (leb before q.columns.commitments) (leb (way.frames_size q room i) room)
      (extension (pool_of i) q)
  unfolding extending
  is-tested = refl

  extend-way : way.Extended q room i (answer_no answer)
  extend-way =
      subst (way.Extended q room i) (sym (ap answer_no is-tested))
      (go (ltb 0 (length q.identities)) refl (all_below (length i.expressions) q.identities) refl (way.within_limits q room i) refl (leb before q.columns.commitments) refl (leb (way.frames_size q room i) room) refl)
    where
      go :
          (a : Bool) → ltb 0 (length q.identities) ≡ a → (b : Bool) → all_below (length i.expressions) q.identities ≡ b → (c : Bool) → way.within_limits q room i ≡ c →
          (d : Bool) → leb before q.columns.commitments ≡ d → (e : Bool) → leb (way.frames_size q room i) room ≡ e →
          way.Extended q room i (answer_no (tested a b c d e (extension (pool_of i) q)))
      go false p b r c s d t e u = way.Extended.no_identity (let n = ltb-false 0 (length q.identities) p in omega (arith, n))
      go true p false r c s d t e u = way.Extended.lost (ltb-true 0 (length q.identities) p) r
      go true p true r false s d t e u = way.Extended.past (record { some = ltb-true 0 (length q.identities) p; there = r }) s
      go true p true r true s false t e u =
          way.Extended.counts (record { some = ltb-true 0 (length q.identities) p; there = r }) s (leb-false before q.columns.commitments t)
      go true p true r true s true t false u =
          way.Extended.full (record { some = ltb-true 0 (length q.identities) p; there = r }) s (leb-true before q.columns.commitments t) (leb-false (way.frames_size q room i) room u)
      go true p true r true s true t true u =
          way.Extended.extended (record { some = ltb-true 0 (length q.identities) p; there = r }) s (leb-true before q.columns.commitments t) (leb-true (way.frames_size q room i) room u)

  extend-number : (k : ℕ) → way.Extended q room i k → answer_no answer ≡ k
  extend-number k (way.Extended.no_identity e) = ap answer_no is-tested ∙ rw (le-ltb 0 (length q.identities) (omega (arith, e)))
  extend-number k (way.Extended.lost s r) = ap answer_no is-tested ∙ rw (lt-ltb 0 (length q.identities) s, r)
  extend-number k (way.Extended.past o w) = ap answer_no is-tested ∙ rw (lt-ltb 0 (length q.identities) o.some, o.there, w)
  extend-number k (way.Extended.counts o w l) =
      ap answer_no is-tested ∙ rw (lt-ltb 0 (length q.identities) o.some, o.there, w, lt-leb before q.columns.commitments l)
  extend-number k (way.Extended.full o w l r) =
      ap answer_no is-tested ∙ rw (lt-ltb 0 (length q.identities) o.some, o.there, w, le-leb before q.columns.commitments l, lt-leb (way.frames_size q room i) room r)
  extend-number k (way.Extended.extended o w l r) =
      ap answer_no is-tested ∙ rw (lt-ltb 0 (length q.identities) o.some, o.there, w, le-leb before q.columns.commitments l, le-leb (way.frames_size q room i) room r)

module _ (w : List ℕ) (q : Question) (room : ℕ) (i : Input) (a : Answer Extension) where
  abbrev JudgedSet : Type 0
  JudgedSet = (v : Answer (Unit {0})) × Verdict (pool_of i) [] v × (a ≡ (v then λ _. extending (pool_of i) q room))

  abbrev on_set : JudgedSet → (k : ℕ) → (answer_no a ≡ k) ↔ OfPool (pool_of i) (λ c. way.Extended q room i) k
  on_set j = of-pool (pool_of i) (λ c. way.Extended q room i) (extending (pool_of i) q room) (λ v c. both (way.Extended q room i) (extend-way q room i) (extend-number q room i)) a j

  of-set : OrMalformed (set_good (length i.expressions) w) a JudgedSet → (k : ℕ) → (answer_no a ≡ k) ↔ way.ExtendRead w q room i k
  of-set h = both (way.ExtendRead w q room i) (to (set_good (length i.expressions) w) refl h) from
    where
      to : (t : Bool) → set_good (length i.expressions) w ≡ t → OrMalformed t a JudgedSet → way.ExtendRead w q room i (answer_no a)
      to true e j = way.ExtendRead.good_set e ((on_set j (answer_no a)).0 refl)
      to false e j = subst (way.ExtendRead w q room i) (sym (ap answer_no j)) (way.ExtendRead.bad_set e)

      from : (k : ℕ) → way.ExtendRead w q room i k → answer_no a ≡ k
      from k (way.ExtendRead.bad_set e) = go (set_good (length i.expressions) w) e h
        where
          go : (t : Bool) → t ≡ false → OrMalformed t a JudgedSet → answer_no a ≡ 1
          go true e j = absurd (true-false refl e)
          go false e j = ap answer_no j
      from k (way.ExtendRead.good_set e c) = go (set_good (length i.expressions) w) e h
        where
          go : (t : Bool) → t ≡ true → OrMalformed t a JudgedSet → answer_no a ≡ k
          go true e j = (on_set j k).1 c
          go false e j = absurd (true-false e refl)

pub of-extend : (s w : List ℕ) (q : Question) (room : ℕ) (a : Answer Extension) → Runs (reading s) w q room a → (k : ℕ) → (answer_no a ≡ k) ↔ way.ExtendWay s w q room k
of-extend s w q room a h = of-frames s (way.ExtendRead w q room) a h.unread (λ i e. of-set w q room i a (h.judged i e))
