-- THE CLOSING PRODUCT IN A LENT CONTEXT: the answer, and what stands in the context and its list after it; that it is the definition's `closing`.
-- The order of refusals: 9 of the pool's limit, 1 of the context, 8 where there is no block, 9 where there is no room.
-- Assumes nothing.
use Rattle.std.specs.Prelude.{ℕ, suc, ◌≤◌, ◌≡◌, refl, Bool, true, false, cond, List, [], ◌∷◌, length, leb, Result}
use Rattle.std.proofs.Common.{sym, ◌∙◌, ap, subst, arith}
use Rattle.std.proofs.Math.Option.{none}
use Rattle.meaning.specs.Refusals.{Refusal, Answer, done, refused}
use Rattle.meaning.specs.Trees.{Each}
use Rattle.meaning.specs.Generation.{Block, State}
use Rattle.meaning.proofs.Laws.Tests.{done-same, done-not-refused}
use Rattle.kinds.specs.Answers.{answer_of}
use Rattle.kinds.specs.declared.refusal.Refused.{Refused}
use Rattle.frames.specs.Order.{expression_limit}
use Rattle.builds.specs.Raw.{RawBlock}
use Rattle.builds.specs.Held.{Celled}
use Rattle.context.specs.Context.{cells, context_size, Good, Exactly}
use Rattle.codegen.specs.Said.{Said, said, said_of}
use Rattle.codegen.specs.Written.{fits, step_count, fitting, context_with, ListWith, Stands}
use Rattle.codegen.specs.Committing.{outcome}
use Rattle.codegen.specs.Sessions.{Holds, said-again}
use Rattle.constraint_meaning.specs.Constraint as definition
use Rattle.constraint_pieces.specs.Closed.{closed_said, closed_said_lem}
use Rattle.constraint_pieces.specs.Marking.{OrRefused}

-- ── the answer ───────────────────────────────────────────────────────────────
-- 8 where there is no block
abbrev pub some_block : List RawBlock → Answer Said → Answer Said
some_block [] a = refused Refusal.no_block none
some_block (b ∷ bs) a = a

-- over what a good context says, with so many bytes of room for the list
abbrev pub closed_on : ℕ → Said → Answer Said
closed_on room st = some_block st.blocks (fitting room (closed_said st))

-- a is THE ANSWER of a pool of m expressions on context x and list l
abbrev pub CloseAnswered : ℕ → List ℕ → List ℕ → Answer Said → Type 0
CloseAnswered m x l a =
    OrRefused (leb m expression_limit) Refusal.full a
    ((g : Bool) × Exactly g (Good x m (length l)) × OrRefused g Refusal.malformed a (a ≡ closed_on (length l) (said x l)))

-- that the product stands, or the refusal
abbrev pub Closing : Type 0
Closing = Result (Unit {0}) Refused

-- WHAT IT SAYS
abbrev pub closing_says : Closing → Answer (Unit {0})
closing_says r = answer_of r

-- an answer told, and the bytes after it: on a refusal every byte is what it was
pub record TellsClosed (a : Answer Said) (x l x' l' : List ℕ) (r : Closing) : Type 0 where
  pub says : closing_says r ≡ outcome a
  pub stands : Stands a x l x' l'

-- THE CONTRACT
abbrev pub CloseGiven : ℕ → List ℕ → List ℕ → List ℕ → List ℕ → Closing → Type 0
CloseGiven m x x' l l' r = (a : Answer Said) × CloseAnswered m x l a × TellsClosed a x l x' l' r

-- ── of a good context ────────────────────────────────────────────────────────
pub record CloseAsks (x l : List ℕ) (m : ℕ) : Type 0 where
  pub few : m ≤ expression_limit
  pub good : Good x m (length l)

abbrev pub CloseAsked : List ℕ → List ℕ → Type 0
CloseAsked x l = (m : ℕ) × CloseAsks x l m

abbrev pub GoodClosed : List ℕ → List ℕ → List ℕ → List ℕ → Closing → Type 0
GoodClosed x x' l l' r = TellsClosed (closed_on (length l) (said x l)) x l x' l' r

-- ── what stands for a context of `meaning` ───────────────────────────────────
close-celled : (bs : List Block) → Each Celled bs → Each Celled (definition.close_last bs)
close-celled [] h = tt
close-celled (b ∷ []) h = (h.0, tt)
close-celled (b ∷ c ∷ bs) h = (h.0, close-celled (c ∷ bs) h.1)

close-length : (bs : List Block) → length (definition.close_last bs) ≡ length bs
close-length [] = refl
close-length (b ∷ []) = refl
close-length (b ∷ c ∷ bs) = ap suc (close-length (c ∷ bs))

-- an answer that was accepted is the definition's `closing`
accepted : (room : ℕ) (st : State) (a : Said) → closed_on room (said_of st) ≡ done a → said_of (definition.closing st) ≡ a
accepted room st a h = sym (closed_said_lem st) ∙ go (said_of st).blocks h
  where
    s : Said
    s = closed_said (said_of st)

    fit : (b : Bool) → cond b (done s) (refused Refusal.full none) ≡ done a → s ≡ a
    fit true e = done-same s a e
    fit false e = absurd (done-not-refused (sym e))

    go : (bs : List RawBlock) → some_block bs (fitting room s) ≡ done a → s ≡ a
    go [] e = absurd (done-not-refused (sym e))
    go (b ∷ bs) e = fit (fits room (step_count s) s.counter) e

-- A CONTEXT THAT HOLDS ONE OF `meaning` holds, after a call that was accepted, the definition's `closing`
pub closed-holds :
    (x l x' l' : List ℕ) (st : State) (a : Said) → length x ≡ context_size → length st.blocks ≤ cells → Holds x l st →
    closed_on (length l) (said x l) ≡ done a → Stands (done a) x l x' l' → Holds x' l' (definition.closing st)
closed-holds x l x' l' st a size few h e w =
    let is : said_of (definition.closing st) ≡ a = accepted (length l) st a (ap (closed_on (length l)) (sym h.says) ∙ e) in
    let celled = close-celled st.blocks h.celled in
    record {
      says =
          said-again x l x' l' (definition.closing st) size (omega (arith, few, close-length st.blocks)) celled h.bounded
          (subst (λ (s : Said). x' ≡ context_with x s) (sym is) w.0) (subst (λ (s : Said). ListWith l s l') (sym is) w.1);
      celled = celled;
      bounded = h.bounded;
    }
