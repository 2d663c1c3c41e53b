-- EXACTLY WHEN the exported pieces refuse, number by number; and that only one answer fits.
-- Assumes nothing.
use Rattle.std.specs.Prelude.{ℕ, zero, suc, ◌<◌, ◌≤◌, ◌≡◌, refl, Bool, true, false, ◌&&◌, cond, List, [], ◌∷◌, ◌⊎◌, ◌↔◌, length, get_or, leb, ltb}
use Rattle.std.proofs.Common.{sym, ◌∙◌, ap, inl, inr, arith, leb-true, leb-false, ltb-false}
use Rattle.std.proofs.Math.Option.{none}
use Rattle.meaning.specs.Refusals.{Refusal, Answer, done, refused, answer_no}
use Rattle.meaning.proofs.Laws.Tests.{true-false}
use Rattle.frames.specs.Order.{expression_limit}
use Rattle.builds.specs.Raw.{RawBlock}
use Rattle.context.specs.Context.{Good, Exactly}
use Rattle.codegen.specs.Said.{Said, said}
use Rattle.codegen.specs.Written.{step_count, fits, fitting}
use Rattle.constraint_pieces.specs.Marks.{AllBelow, all_below, below_true}
use Rattle.constraint_pieces.specs.Marking.{marked_said, OrRefused, MarkAnswered}
use Rattle.constraint_pieces.specs.Closed.{closed_said}
use Rattle.constraint_pieces.specs.Closing.{some_block, closed_on, CloseAnswered}

-- ── an answer behind two checks ──────────────────────────────────────────────
-- a pool within its limit, a context that is good, and then the end
abbrev Behind : Bool → Type 0 → Answer Said → Answer Said → Type 0
Behind w P end a = OrRefused w Refusal.full a ((g : Bool) × Exactly g P × OrRefused g Refusal.malformed a (a ≡ end))

data Case (w : Bool) (P : Type 0) (end a : Answer Said) : Type 0 where
  limit : w ≡ false → a ≡ refused Refusal.full none → Case w P end a
  context : w ≡ true → (P → ⊥) → a ≡ refused Refusal.malformed none → Case w P end a
  good : w ≡ true → P → a ≡ end → Case w P end a

case : (w : Bool) (P : Type 0) (end a : Answer Said) → Behind w P end a → Case w P end a
case false P end a h = Case.limit refl h
case true P end a h = go h.0 h.1 h.2
  where
    go : (g : Bool) → Exactly g P → OrRefused g Refusal.malformed a (a ≡ end) → Case true P end a
    go true x q = Case.good refl (x.0 refl) q
    go false x q = Case.context refl (λ p. true-false (x.1 p) refl) q

one-behind : (w : Bool) (P : Type 0) (end a b : Answer Said) → Behind w P end a → Behind w P end b → a ≡ b
one-behind w P end a b p q = go (case w P end a p) (case w P end b q)
  where
    go : Case w P end a → Case w P end b → a ≡ b
    go (Case.limit u x) (Case.limit v y) = x ∙ sym y
    go (Case.limit u x) (Case.context v n y) = absurd (true-false v u)
    go (Case.limit u x) (Case.good v g y) = absurd (true-false v u)
    go (Case.context u n x) (Case.limit v y) = absurd (true-false u v)
    go (Case.context u n x) (Case.context v k y) = x ∙ sym y
    go (Case.context u n x) (Case.good v g y) = absurd (n g)
    go (Case.good u g x) (Case.limit v y) = absurd (true-false u v)
    go (Case.good u g x) (Case.context v n y) = absurd (n g)
    go (Case.good u g x) (Case.good v k y) = x ∙ sym y

within : (m : ℕ) → leb m expression_limit ≡ true → m ≤ expression_limit
within m h = leb-true m expression_limit h

past : (m : ℕ) → leb m expression_limit ≡ false → expression_limit < m
past m h = leb-false m expression_limit h

-- ── members marked ───────────────────────────────────────────────────────────
-- some member is not there
pub record Absent (m : ℕ) (es : List ℕ) : Type 0 where
  pub place : ℕ
  pub inside : place < length es
  pub beyond : m ≤ get_or es place 0

absent : (m : ℕ) (es : List ℕ) → all_below m es ≡ false → Absent m es
absent m [] h = absurd (true-false refl h)
absent m (e ∷ es) h = go (ltb e m) refl h (absent m es)
  where
    go : (v : Bool) → ltb e m ≡ v → (v && all_below m es) ≡ false → (all_below m es ≡ false → Absent m es) → Absent m (e ∷ es)
    go true q p ih = let r = ih p in record { place = suc r.place; inside = omega (arith, r.inside); beyond = r.beyond }
    go false q p ih = record { place = zero; inside = omega arith; beyond = ltb-false e m q }

module _ (es : List ℕ) (m : ℕ) (x l : List ℕ) where
  abbrev G : Type 0
  G = Good x m (length l)

  abbrev mark_end : Answer Said
  mark_end = cond (all_below m es) (done (marked_said es (said x l))) (refused Refusal.not_there none)

  -- ONLY ONE ANSWER FITS
  pub one-marked : (a b : Answer Said) → MarkAnswered es m x l a → MarkAnswered es m x l b → a ≡ b
  one-marked a b p q = one-behind (leb m expression_limit) G mark_end a b p q

  -- a call of `mark` by its case
  pub data MarkCase (a : Answer Said) : Type 0 where
    past_limit : expression_limit < m → answer_no a ≡ 9 → MarkCase a
    bad_context : m ≤ expression_limit → (G → ⊥) → answer_no a ≡ 1 → MarkCase a
    not_there : m ≤ expression_limit → G → Absent m es → answer_no a ≡ 3 → MarkCase a
    marked : m ≤ expression_limit → G → AllBelow m es → answer_no a ≡ 0 → MarkCase a

  pub mark-case : (a : Answer Said) → MarkAnswered es m x l a → MarkCase a
  mark-case a p = go (case (leb m expression_limit) G mark_end a p)
    where
      end : m ≤ expression_limit → G → (v : Bool) → all_below m es ≡ v → a ≡ cond v (done (marked_said es (said x l))) (refused Refusal.not_there none) → MarkCase a
      end f g true e q = MarkCase.marked f g (below_true m es e) (ap answer_no q)
      end f g false e q = MarkCase.not_there f g (absent m es e) (ap answer_no q)

      go : Case (leb m expression_limit) G mark_end a → MarkCase a
      go (Case.limit u q) = MarkCase.past_limit (past m u) (ap answer_no q)
      go (Case.context u n q) = MarkCase.bad_context (within m u) n (ap answer_no q)
      go (Case.good u g q) = end (within m u) g (all_below m es) refl q

  module _ (a : Answer Said) (p : MarkAnswered es m x l a) where
    both : Absent m es → AllBelow m es → ⊥
    both d h = omega (arith, d.beyond, h d.place d.inside)

    pub mark_9 : (answer_no a ≡ 9) ↔ (expression_limit < m)
    mark_9 = (λ e. there e (mark-case a p), λ h. back h (mark-case a p))
      where
        there : answer_no a ≡ 9 → MarkCase a → expression_limit < m
        there e (MarkCase.past_limit f n) = f
        there e (MarkCase.bad_context f g n) = absurd (omega (arith, e, n))
        there e (MarkCase.not_there f g d n) = absurd (omega (arith, e, n))
        there e (MarkCase.marked f g d n) = absurd (omega (arith, e, n))

        back : expression_limit < m → MarkCase a → answer_no a ≡ 9
        back h (MarkCase.past_limit f n) = n
        back h (MarkCase.bad_context f g n) = absurd (omega (arith, h, f))
        back h (MarkCase.not_there f g d n) = absurd (omega (arith, h, f))
        back h (MarkCase.marked f g d n) = absurd (omega (arith, h, f))

    pub mark_1 : (answer_no a ≡ 1) ↔ ((m ≤ expression_limit) × (G → ⊥))
    mark_1 = (λ e. there e (mark-case a p), λ h. back h (mark-case a p))
      where
        there : answer_no a ≡ 1 → MarkCase a → (m ≤ expression_limit) × (G → ⊥)
        there e (MarkCase.past_limit f n) = absurd (omega (arith, e, n))
        there e (MarkCase.bad_context f g n) = (f, g)
        there e (MarkCase.not_there f g d n) = absurd (omega (arith, e, n))
        there e (MarkCase.marked f g d n) = absurd (omega (arith, e, n))

        back : (m ≤ expression_limit) × (G → ⊥) → MarkCase a → answer_no a ≡ 1
        back h (MarkCase.past_limit f n) = absurd (omega (arith, h.0, f))
        back h (MarkCase.bad_context f g n) = n
        back h (MarkCase.not_there f g d n) = absurd (h.1 g)
        back h (MarkCase.marked f g d n) = absurd (h.1 g)

    pub mark_3 : (answer_no a ≡ 3) ↔ ((m ≤ expression_limit) × G × Absent m es)
    mark_3 = (λ e. there e (mark-case a p), λ h. back h (mark-case a p))
      where
        there : answer_no a ≡ 3 → MarkCase a → (m ≤ expression_limit) × G × Absent m es
        there e (MarkCase.past_limit f n) = absurd (omega (arith, e, n))
        there e (MarkCase.bad_context f g n) = absurd (omega (arith, e, n))
        there e (MarkCase.not_there f g d n) = (f, g, d)
        there e (MarkCase.marked f g d n) = absurd (omega (arith, e, n))

        back : (m ≤ expression_limit) × G × Absent m es → MarkCase a → answer_no a ≡ 3
        back h (MarkCase.past_limit f n) = absurd (omega (arith, h.0, f))
        back h (MarkCase.bad_context f g n) = absurd (g h.1)
        back h (MarkCase.not_there f g d n) = n
        back h (MarkCase.marked f g d n) = absurd (both h.2 d)

-- ── the closing product ──────────────────────────────────────────────────────
module _ (m : ℕ) (x l : List ℕ) where
  abbrev H : Type 0
  H = Good x m (length l)

  abbrev Fits : Bool
  Fits = fits (length l) (step_count (closed_said (said x l))) (said x l).counter

  -- there is a block
  abbrev pub SomeBlock : List RawBlock → Type 0
  SomeBlock [] = ⊥
  SomeBlock (b ∷ bs) = Unit {0}

  -- ONLY ONE ANSWER FITS
  pub one-closed : (a b : Answer Said) → CloseAnswered m x l a → CloseAnswered m x l b → a ≡ b
  one-closed a b p q = one-behind (leb m expression_limit) H (closed_on (length l) (said x l)) a b p q

  -- a call of `close` by its case
  pub data CloseCase (a : Answer Said) : Type 0 where
    past_limit : expression_limit < m → answer_no a ≡ 9 → CloseCase a
    bad_context : m ≤ expression_limit → (H → ⊥) → answer_no a ≡ 1 → CloseCase a
    no_block : m ≤ expression_limit → H → (said x l).blocks ≡ [] → answer_no a ≡ 8 → CloseCase a
    no_room : m ≤ expression_limit → H → SomeBlock (said x l).blocks → Fits ≡ false → answer_no a ≡ 9 → CloseCase a
    closed : m ≤ expression_limit → H → SomeBlock (said x l).blocks → Fits ≡ true → answer_no a ≡ 0 → CloseCase a

  pub close-case : (a : Answer Said) → CloseAnswered m x l a → CloseCase a
  close-case a p = go (case (leb m expression_limit) H (closed_on (length l) (said x l)) a p)
    where
      room : m ≤ expression_limit → H → SomeBlock (said x l).blocks → (v : Bool) → Fits ≡ v → a ≡ cond v (done (closed_said (said x l))) (refused Refusal.full none) → CloseCase a
      room f g s true e q = CloseCase.closed f g s e (ap answer_no q)
      room f g s false e q = CloseCase.no_room f g s e (ap answer_no q)

      end : m ≤ expression_limit → H → (bs : List RawBlock) → (said x l).blocks ≡ bs → a ≡ some_block bs (fitting (length l) (closed_said (said x l))) → CloseCase a
      end f g [] e q = CloseCase.no_block f g e (ap answer_no q)
      end f g (b ∷ bs) e q = room f g (rw e tt) Fits refl q

      go : Case (leb m expression_limit) H (closed_on (length l) (said x l)) a → CloseCase a
      go (Case.limit u q) = CloseCase.past_limit (past m u) (ap answer_no q)
      go (Case.context u n q) = CloseCase.bad_context (within m u) n (ap answer_no q)
      go (Case.good u g q) = end (within m u) g (said x l).blocks refl q

  module _ (a : Answer Said) (p : CloseAnswered m x l a) where
    not-empty : SomeBlock (said x l).blocks → (said x l).blocks ≡ [] → ⊥
    not-empty s e = rw e at s

    pub close_1 : (answer_no a ≡ 1) ↔ ((m ≤ expression_limit) × (H → ⊥))
    close_1 = (λ e. there e (close-case a p), λ h. back h (close-case a p))
      where
        there : answer_no a ≡ 1 → CloseCase a → (m ≤ expression_limit) × (H → ⊥)
        there e (CloseCase.past_limit f n) = absurd (omega (arith, e, n))
        there e (CloseCase.bad_context f g n) = (f, g)
        there e (CloseCase.no_block f g b n) = absurd (omega (arith, e, n))
        there e (CloseCase.no_room f g b r n) = absurd (omega (arith, e, n))
        there e (CloseCase.closed f g b r n) = absurd (omega (arith, e, n))

        back : (m ≤ expression_limit) × (H → ⊥) → CloseCase a → answer_no a ≡ 1
        back h (CloseCase.past_limit f n) = absurd (omega (arith, h.0, f))
        back h (CloseCase.bad_context f g n) = n
        back h (CloseCase.no_block f g b n) = absurd (h.1 g)
        back h (CloseCase.no_room f g b r n) = absurd (h.1 g)
        back h (CloseCase.closed f g b r n) = absurd (h.1 g)

    pub close_8 : (answer_no a ≡ 8) ↔ ((m ≤ expression_limit) × H × ((said x l).blocks ≡ []))
    close_8 = (λ e. there e (close-case a p), λ h. back h (close-case a p))
      where
        there : answer_no a ≡ 8 → CloseCase a → (m ≤ expression_limit) × H × ((said x l).blocks ≡ [])
        there e (CloseCase.past_limit f n) = absurd (omega (arith, e, n))
        there e (CloseCase.bad_context f g n) = absurd (omega (arith, e, n))
        there e (CloseCase.no_block f g b n) = (f, g, b)
        there e (CloseCase.no_room f g b r n) = absurd (omega (arith, e, n))
        there e (CloseCase.closed f g b r n) = absurd (omega (arith, e, n))

        back : (m ≤ expression_limit) × H × ((said x l).blocks ≡ []) → CloseCase a → answer_no a ≡ 8
        back h (CloseCase.past_limit f n) = absurd (omega (arith, h.0, f))
        back h (CloseCase.bad_context f g n) = absurd (g h.1)
        back h (CloseCase.no_block f g b n) = n
        back h (CloseCase.no_room f g b r n) = absurd (not-empty b h.2)
        back h (CloseCase.closed f g b r n) = absurd (not-empty b h.2)

    -- past the pool's limit, or a block closed does not fit
    abbrev NoRoom : Type 0
    NoRoom = (m ≤ expression_limit) × H × SomeBlock (said x l).blocks × (Fits ≡ false)

    pub close_9 : (answer_no a ≡ 9) ↔ ((expression_limit < m) ⊎ NoRoom)
    close_9 = (λ e. there e (close-case a p), λ h. back h (close-case a p))
      where
        there : answer_no a ≡ 9 → CloseCase a → (expression_limit < m) ⊎ NoRoom
        there e (CloseCase.past_limit f n) = inl f
        there e (CloseCase.bad_context f g n) = absurd (omega (arith, e, n))
        there e (CloseCase.no_block f g b n) = absurd (omega (arith, e, n))
        there e (CloseCase.no_room f g b r n) = inr (f, g, b, r)
        there e (CloseCase.closed f g b r n) = absurd (omega (arith, e, n))

        back : (expression_limit < m) ⊎ NoRoom → CloseCase a → answer_no a ≡ 9
        back h (CloseCase.past_limit f n) = n
        back (inl h) (CloseCase.bad_context f g n) = absurd (omega (arith, h, f))
        back (inr h) (CloseCase.bad_context f g n) = absurd (g h.1)
        back (inl h) (CloseCase.no_block f g b n) = absurd (omega (arith, h, f))
        back (inr h) (CloseCase.no_block f g b n) = absurd (not-empty h.2 b)
        back h (CloseCase.no_room f g b r n) = n
        back (inl h) (CloseCase.closed f g b r n) = absurd (omega (arith, h, f))
        back (inr h) (CloseCase.closed f g b r n) = absurd (true-false r h.3)
