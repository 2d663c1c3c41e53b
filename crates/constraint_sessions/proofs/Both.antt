-- BOTH LISTS ARE THE DEFINITION'S: where two contexts' bytes hold contexts of `meaning`, the first refusal of the two lists is that of the definition's `lists_with`, and
-- what was written of both is what it makes.
-- Assumes nothing.
use Rattle.std.specs.Prelude.{ℕ, ◌+◌, ◌-◌, ◌≤◌, ◌≡◌, List, length}
use Rattle.std.proofs.Common.{◌∙◌, ap}
use Rattle.std.proofs.Math.Option.{Option}
use Rattle.meaning.specs.Refusals.{Refusal, Answer, done, refused, ◌then◌}
use Rattle.meaning.specs.Trees.{Forest}
use Rattle.meaning.specs.Generation.{State}
use Rattle.search_meaning.specs.Search.{Choice}
use Rattle.frames.specs.Order.{expression_limit}
use Rattle.context.specs.Context.{context_size}
use Rattle.codegen.specs.Said.{Said, said}
use Rattle.codegen.specs.Building.{Lists}
use Rattle.codegen.specs.Sessions.{Holds}
use Rattle.constraint_meaning.specs.Tree.{Numbered, Intermediate, extended}
use Rattle.constraint_meaning.specs.Constraint.{Built, Asked, Made, up_from, step42ns, lists_with}
use Rattle.constraint_pieces.specs.Marks.{AllBelow}
use Rattle.constraint_lists.specs.Lists.{step3_said, step42ns_said, Written}
use Rattle.constraint_sessions.specs.Stood.{Stood, step42ns_stood, step42ns-refused}
use Rattle.constraint_sessions.proofs.Step3.{step3-refused, step3-done, step3_stood}

-- two contexts and their lists hold contexts of `meaning`
pub record Held (x l y r : List ℕ) (first second : State) : Type 0 where
  pub size : length x ≡ context_size
  pub holds : Holds x l first
  pub size' : length y ≡ context_size
  pub holds' : Holds y r second

module _ (E : Forest) (nodes : ℕ) (first second : State) (a : Asked) (c : Choice) (ms : List Intermediate) (t : Numbered) where
  abbrev F : Forest
  F = extended E t.tree

  -- what is made of two lists
  abbrev pub made_of : Built → Built → Made
  made_of s3 s4 =
      let k = a.commitments + length c.set in
      record {
        choice = c;
        intermediates = ms;
        constraint = t;
        n_cm3 = k - a.n_cm1 - a.n_cm2;
        n_cm4 = c.q;
        qs = up_from k c.q;
        commitments = k + c.q;
        step3 = s3;
        step42ns = s4;
      }

  abbrev made : Answer Made
  made = lists_with 2 E nodes first second a c ms t

  module _ (small : length F ≤ expression_limit) (x l y r : List ℕ) (h : Held x l y r first second) where
    -- the first list is refused
    pub first_refused : (k : Refusal) (i : Option ℕ) → step3_said F c.set (said x l) ≡ refused k i → made ≡ refused k i
    first_refused k i e =
        ap (λ (z : Answer Built). z then λ s3. step42ns 2 F c.set (length E) second then λ s4. done (made_of s3 s4))
        (step3-refused F small x l h.size first h.holds c.set k i e)

    -- it is not, and the second is
    pub second_refused :
        (s : Said) → step3_said F c.set (said x l) ≡ done s → (k : Refusal) (i : Option ℕ) → step42ns_said F c.set (length E) (said y r) ≡ refused k i → made ≡ refused k i
    second_refused s e k i f =
        let z = step3-done F small x l h.size first h.holds c.set s e in
        ap (λ (u : Answer Built). u then λ s3. step42ns 2 F c.set (length E) second then λ s4. done (made_of s3 s4)) z.1
        ∙ ap (λ (u : Answer Built). u then λ s4. done (made_of z.0 s4)) (step42ns-refused F small y r h.size' second h.holds' c.set (length E) k i f)

    module _ (s : Said) (e : step3_said F c.set (said x l) ≡ done s) (o : Lists) (x' l' : List ℕ) (o' : Lists) (w : Written F x l o s x' l' o') where
      -- BOTH ARE MADE
      pub both_stood :
          AllBelow expression_limit c.set → (s' : Said) → step42ns_said F c.set (length E) (said y r) ≡ done s' →
          (p : Lists) (y' r' : List ℕ) (p' : Lists) → Written F y r p s' y' r' p' →
          (b : Built) × (d : Built) × (made ≡ done (made_of b d)) × Stood o b x' l' o' × Stood p d y' r' p'
      both_stood below s' f p y' r' p' v =
          let z = step3_stood F small x l h.size first h.holds c.set s e o x' l' o' w in
          let u = step42ns_stood F small y r h.size' second h.holds' c.set (length E) below s' f p y' r' p' v in (
            z.0,
            u.0,
            ap (λ (q : Answer Built). q then λ s3. step42ns 2 F c.set (length E) second then λ s4. done (made_of s3 s4)) z.1
                ∙ ap (λ (q : Answer Built). q then λ s4. done (made_of z.0 s4)) u.1,
            z.2,
            u.2,
          )
