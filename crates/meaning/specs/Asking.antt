-- Asking for the blocks of requests, all of them in order, or the refusal; and blocks made one after another.
-- Assumes nothing.
use Rattle.std.specs.Prelude.{ℕ, ◌≡◌, refl, Bool, true, List, [], ◌∷◌, ◌++◌, length}
use Rattle.std.proofs.Common.{sym, ◌∙◌, ap, append_assoc, append-nil}
use Rattle.std.proofs.Math.Option.{Option, some, none-ne-some}
use Rattle.meaning.specs.Refusals.{Refusal, Answer, done, refused, ◌then◌}
use Rattle.meaning.specs.Trees.{Expression, Forest, nth}
use Rattle.meaning.specs.Order.{Marks, Job, Asked, nothing, there, ask_below, ask}
use Rattle.meaning.specs.Generation.{Block, State, Request, Made, make_one, make, adding}

-- what one asks for and then the other
abbrev pub both : Asked → Asked → Asked
both a b = record { jobs = a.jobs ++ b.jobs; marks = b.marks }

module _ (rows : ℕ) (E : Forest) where
  -- one request: 3, 5, or its blocks
  abbrev pub ask_one : Request → Marks → Answer Asked
  ask_one q m = there (nth E q.expression) then λ _. ask rows E q.fused q.expression q.row m

  -- all, in order
  abbrev pub ask_all : List Request → Marks → Answer Asked
  ask_all [] m = done (nothing m)
  ask_all (q ∷ qs) m = ask_one q m then λ a. ask_all qs a.marks then λ b. done (both a b)

-- ── blocks one after another ─────────────────────────────────────────────────
pub make-append :
    (E : Forest) (xs ys : List Job) (t : ℕ) →
    make E (xs ++ ys) t
    ≡ record { blocks = (make E xs t).blocks ++ (make E ys (make E xs t).counter).blocks; counter = (make E ys (make E xs t).counter).counter }
make-append E [] ys t = refl
make-append E (x ∷ xs) ys t =
    let u = make_one x (nth E x.expression) t in
    ap (λ (z : Made). record { blocks = u.blocks ++ z.blocks; counter = z.counter }) (make-append E xs ys u.counter)
    ∙ ap (λ (l : List Block). record { blocks = l; counter = (make E ys (make E xs u.counter).counter).counter })
    (sym (append_assoc u.blocks (make E xs u.counter).blocks (make E ys (make E xs u.counter).counter).blocks))

pub adding-both : (E : Forest) (a b : Asked) (st : State) → adding E b (adding E a st) ≡ adding E (both a b) st
adding-both E a b st =
    let x = make E a.jobs st.counter in
    let y = make E b.jobs x.counter in
    ap (λ (l : List Block). record { marks = b.marks; blocks = l; counter = y.counter }) (append_assoc st.blocks x.blocks y.blocks)
    ∙ ap (λ (z : Made). record { marks = b.marks; blocks = st.blocks ++ z.blocks; counter = z.counter }) (sym (make-append E a.jobs b.jobs st.counter))

pub adding-nothing : (E : Forest) (st : State) → adding E (nothing st.marks) st ≡ st
adding-nothing E st = ap (λ (l : List Block). record { marks = st.marks; blocks = l; counter = st.counter }) (append-nil st.blocks)

-- ── requests one after another ───────────────────────────────────────────────
module _ (rows : ℕ) (E : Forest) where
  -- where there is an expression, one that is marked asks for nothing
  pub ask-marked : (fused : Bool) (e r : ℕ) (m : Marks) (x : Expression) → nth E e ≡ some x → m e r ≡ true → ask rows E fused e r m ≡ done (nothing m)
  ask-marked fused e r m x f h = go E f
    where
      go : (F : Forest) → nth F e ≡ some x → ask_below rows E (length F) fused e r m ≡ done (nothing m)
      go [] f = absurd (none-ne-some x f)
      go (y ∷ F) f = rw h

  -- ── one request more ───────────────────────────────────────────────────────
  pub ask-snoc :
      (qs : List Request) (q : Request) (m : Marks) →
      ask_all rows E (qs ++ (q ∷ [])) m ≡ (ask_all rows E qs m then λ a. ask_one rows E q a.marks then λ b. done (both a b))
  ask-snoc [] q m = go (ask_one rows E q m)
    where
      go : (z : Answer Asked) → (z then λ a. done (record { jobs = a.jobs ++ []; marks = a.marks })) ≡ (z then λ b. done b)
      go (done a) = ap (λ js. done (record { jobs = js; marks = a.marks })) (append-nil a.jobs)
      go (refused k o) = refl
  ask-snoc (p ∷ qs) q m = go (ask_one rows E p m) (λ n. ask-snoc qs q n)
    where
      last : (a b : Asked) (z : Answer Asked) → ((z then λ c. done (both b c)) then λ d. done (both a d)) ≡ (z then λ c. done (both (both a b) c))
      last a b (done c) = ap (λ js. done (record { jobs = js; marks = c.marks })) (sym (append_assoc a.jobs b.jobs c.jobs))
      last a b (refused k o) = refl

      more :
          (a : Asked) (z : Answer Asked) →
          ((z then λ b. ask_one rows E q b.marks then λ c. done (both b c)) then λ d. done (both a d))
          ≡ ((z then λ b. done (both a b)) then λ d. ask_one rows E q d.marks then λ c. done (both d c))
      more a (done b) = last a b (ask_one rows E q b.marks)
      more a (refused k o) = refl

      go :
          (z : Answer Asked) →
          ((n : Marks) → ask_all rows E (qs ++ (q ∷ [])) n ≡ (ask_all rows E qs n then λ a. ask_one rows E q a.marks then λ b. done (both a b))) →
          (z then λ a. ask_all rows E (qs ++ (q ∷ [])) a.marks then λ b. done (both a b))
          ≡ ((z then λ a. ask_all rows E qs a.marks then λ b. done (both a b)) then λ d. ask_one rows E q d.marks then λ c. done (both d c))
      go (done a) ih = ap (λ (z : Answer Asked). z then λ b. done (both a b)) (ih a.marks) ∙ more a (ask_all rows E qs a.marks)
      go (refused k o) ih = refl

  -- and a refusal stays
  pub ask-refused :
      (qs : List Request) (q : Request) (m : Marks) {k : Refusal} {o : Option ℕ} → ask_all rows E qs m ≡ refused k o → ask_all rows E (qs ++ (q ∷ [])) m ≡ refused k o
  ask-refused qs q m h = ask-snoc qs q m ∙ rw h
