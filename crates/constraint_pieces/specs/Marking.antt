-- MEMBERS MARKED IN A LENT CONTEXT: the answer, and the context's bytes after it; that they say what the definition's `marked` says.
-- The order of refusals: 9 of the pool's limit, 1 of the context, 3 of a member.
-- Assumes nothing.
use Rattle.std.specs.Prelude.{ℕ, zero, suc, ◌<◌, ◌≡◌, refl, Bool, true, false, ◌&&◌, cond, List, [], ◌∷◌, length, leb, ltb, eqb, Result}
use Rattle.std.proofs.Common.{◌∙◌, ap, arith, ltb-true, eqb-true}
use Rattle.std.proofs.Math.Option.{none}
use Rattle.meaning.specs.Refusals.{Refusal, Answer, done, refused}
use Rattle.meaning.specs.Order.{Marks}
use Rattle.meaning.specs.Generation.{State}
use Rattle.search_meaning.specs.Search.{member}
use Rattle.kinds.specs.Answers.{answer_of}
use Rattle.kinds.specs.declared.refusal.Refused.{Refused}
use Rattle.frames.specs.Order.{expression_limit}
use Rattle.starkinfo_codegen.specs.Ordering.{marks_of}
use Rattle.builds.specs.Raw.{raw_blocks}
use Rattle.context.specs.Context.{cells, context_size, blocks_at, temporaries_at, blocks_in, temporaries_in, entry_in, Good, Exactly}
use Rattle.context.specs.Tables.{marks_in, words_in, with_marks}
use Rattle.context.specs.Stored as stored
use Rattle.codegen.specs.Said.{Said, said, said_of}
use Rattle.codegen.specs.Committing.{outcome}
use Rattle.codegen.specs.Sessions.{Bounded, Holds}
use Rattle.constraint_meaning.specs.Constraint as definition
use Rattle.constraint_pieces.specs.Marks.{AllBelow, all_below, mark_all, with_members, all-size, all-marks, below-tail}

-- ── the answer ───────────────────────────────────────────────────────────────
-- what is said, with the members marked
abbrev pub marked_said : List ℕ → Said → Said
marked_said es st = record { marks = with_members es st.marks; blocks = st.blocks; counter = st.counter }

-- where b does not hold, a is refused; else P says what it is
abbrev pub OrRefused : {A : Type 0} → Bool → Refusal → Answer A → Type 0 → Type 0
OrRefused true k a P = P
OrRefused false k a P = a ≡ refused k none

-- a is THE ANSWER to members of a pool of m expressions on context x and list l
abbrev pub MarkAnswered : List ℕ → ℕ → List ℕ → List ℕ → Answer Said → Type 0
MarkAnswered es m x l a =
    OrRefused (leb m expression_limit) Refusal.full a
    ((g : Bool) × Exactly g (Good x m (length l)) × OrRefused g Refusal.malformed a
    (a ≡ cond (all_below m es) (done (marked_said es (said x l))) (refused Refusal.not_there none)))

-- ── what stands after it ─────────────────────────────────────────────────────
-- the context with the members' marks set, and no other byte changed
abbrev pub marked_context : List ℕ → List ℕ → List ℕ
marked_context es x = with_marks x (mark_all es (marks_in x))

abbrev pub StandsMarked : List ℕ → Answer Said → List ℕ → List ℕ → Type 0
StandsMarked es (done st) x x' = x' ≡ marked_context es x
StandsMarked es (refused k o) x x' = x' ≡ x

-- that they are marked, or the refusal
abbrev pub Marking : Type 0
Marking = Result (Unit {0}) Refused

-- WHAT IT SAYS
abbrev pub marking_says : Marking → Answer (Unit {0})
marking_says r = answer_of r

pub record TellsMarked (es : List ℕ) (a : Answer Said) (x x' : List ℕ) (r : Marking) : Type 0 where
  pub says : marking_says r ≡ outcome a
  pub stands : StandsMarked es a x x'

-- THE CONTRACT
abbrev pub MarkGiven : List ℕ → ℕ → List ℕ → List ℕ → List ℕ → Marking → Type 0
MarkGiven es m x x' l r = (a : Answer Said) × MarkAnswered es m x l a × TellsMarked es a x x' r

-- ── of a context of its size ─────────────────────────────────────────────────
pub record MarkGoodAsks (es x : List ℕ) : Type 0 where
  pub size : length x ≡ context_size
  pub there : AllBelow expression_limit es

abbrev pub GoodMarked : List ℕ → List ℕ → List ℕ → Type 0
GoodMarked es x x' = x' ≡ marked_context es x

-- ── what it says ─────────────────────────────────────────────────────────────
words_same : (x y : List ℕ) (n : ℕ) → ((k : ℕ) → entry_in x k ≡ entry_in y k) → words_in x n ≡ words_in y n
unfolding words_in
words_same x y zero h = refl
words_same x y (suc n) h = rw (words_same x y n h, h n)

-- THE CONTEXT WITH THE MEMBERS MARKED says what it said, with them marked
pub marked-said : (es x l : List ℕ) → length x ≡ context_size → AllBelow expression_limit es → said (marked_context es x) l ≡ marked_said es (said x l)
marked-said es x l size below =
    let s = mark_all es (marks_in x) in
    let full : length s ≡ cells = all-size es (marks_in x) ∙ stored.marks-full x size in
    let y = marked_context es x in
    let marks : marks_of (marks_in y) ≡ with_members es (marks_of (marks_in x))
    = ap marks_of (stored.marks-stored x s size full) ∙ all-marks es (marks_in x) (stored.marks-full x size) below in
    let blocks : blocks_in y ≡ blocks_in x = stored.u16-before-marks x s size full blocks_at (omega arith) in
    let counter : temporaries_in y ≡ temporaries_in x = stored.u16-before-marks x s size full temporaries_at (omega arith) in
    let words : words_in y (blocks_in x) ≡ words_in x (blocks_in x) = words_same y x (blocks_in x) (stored.entry-past-marks x s size full) in
    ap (λ (m : Marks). record { marks = m; blocks = (said y l).blocks; counter = temporaries_in y }) marks
    ∙ ap (λ c. record { marks = with_members es (marks_of (marks_in x)); blocks = (said y l).blocks; counter = c }) counter
    ∙ ap (λ n. record { marks = with_members es (marks_of (marks_in x)); blocks = raw_blocks (words_in y n) l n; counter = temporaries_in x }) blocks
    ∙ ap (λ (t : List ℕ). record { marks = with_members es (marks_of (marks_in x)); blocks = raw_blocks t l (blocks_in x); counter = temporaries_in x }) words

-- of a context of `meaning` it is the definition's
pub marked-of : (es : List ℕ) (st : State) → marked_said es (said_of st) ≡ said_of (definition.marked 2 es st)
marked-of es st = refl

member_below : (m : ℕ) (es : List ℕ) (e : ℕ) → AllBelow m es → member e es ≡ true → e < m
member_below m [] e h p = absurd (let z : ◌≡◌ {A = ℕ} 0 1 = cc in omega arith)
member_below m (i ∷ es) e h p = go (eqb e i) refl p (member_below m es e (below-tail m i es h))
  where
    go : (v : Bool) → eqb e i ≡ v → cond v true (member e es) ≡ true → (member e es ≡ true → e < m) → e < m
    go true q p ih = let z = eqb-true e i q in omega (arith, h 0 (omega arith))
    go false q p ih = ih p

pub marked-bounded : (es : List ℕ) → AllBelow expression_limit es → (m : Marks) → Bounded m → Bounded (with_members es m)
marked-bounded es below m b e r n = rw (b e r n) (go (member e es) refl (ltb r 2) refl)
  where
    go : (u : Bool) → member e es ≡ u → (v : Bool) → ltb r 2 ≡ v → (u && v) ≡ false
    go true p true q = absurd (n (member_below expression_limit es e below p) (ltb-true r 2 q))
    go true p false q = refl
    go false p v q = refl

-- A CONTEXT THAT HOLDS ONE OF `meaning` holds, after it, the definition's `marked`
pub marked-holds : (es x l : List ℕ) (st : State) → length x ≡ context_size → AllBelow expression_limit es → Holds x l st → Holds (marked_context es x) l (definition.marked 2 es st)
marked-holds es x l st size below h = record {
  says = marked-said es x l size below ∙ ap (marked_said es) h.says;
  celled = h.celled;
  bounded = marked-bounded es below st.marks h.bounded;
}
