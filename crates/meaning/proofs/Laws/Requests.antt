-- Requests served one after another keep the blocks' invariant; each requested cell is then marked.
-- Assumes nothing.
use Rattle.std.specs.Prelude.{ℕ, ◌≡◌, refl, Bool, true, false, cond, List, [], ◌∷◌, ◌++◌}
use Rattle.std.proofs.Common.{sym, ◌∙◌, ap, subst, append_assoc}
use Rattle.std.proofs.Math.Option.{Option, none, some, some-ne-none}
use Rattle.meaning.specs.Refusals.{done}
use Rattle.meaning.specs.Trees.{Expression, Forest, nth, Each}
use Rattle.meaning.specs.Values.{Algebra, Given}
use Rattle.meaning.specs.Order.{Asked, there, ask}
use Rattle.meaning.specs.Generation.{Block, State, Request, Result, make, plain_result, adding, copy_out, generate, serve, serve_all}
use Rattle.meaning.specs.Building.{every}
use Rattle.meaning.specs.Demand3.{NoResult, Throughout, Fed}
use Rattle.meaning.proofs.Laws.Tests.{then-done, done-same}
use Rattle.meaning.proofs.Laws.Jobs.{Gives, grown, asks}
use Rattle.meaning.proofs.Laws.Blocks.{Inv, add-blocks}

pub every_append : (xs ys : List Block) → every (xs ++ ys) ≡ every xs ++ every ys
every_append [] ys = refl
every_append (x ∷ xs) ys = ap (λ l. x.steps ++ l) (every_append xs ys) ∙ sym (append_assoc x.steps (every xs) (every ys))

module _ (rows : ℕ) (E : Forest) where
  -- A MARKED EXPRESSION EMITS NOTHING where no result is asked
  pub marked_silent :
      (q : Request) (st : State) (x : Expression) → nth E q.expression ≡ some x → st.marks q.expression q.row ≡ true → NoResult q →
      serve rows E q st ≡ done st
  marked_silent q st x f m n = rw (f, m, n)

  copy-none : (e r : ℕ) (o : Option Result) → o ≡ none → (st st' : State) → copy_out e r o st ≡ done st' → st ≡ st'
  copy-none e r none n st st' h = done-same _ _ h
  copy-none e r (some k) n st st' h = absurd (some-ne-none k n)

  -- what is marked stays so
  abbrev pub Grows : State → State → Type 0
  Grows st st' = (e r : ℕ) → st.marks e r ≡ true → st'.marks e r ≡ true

  abbrev pub MarkedFor : State → Request → Type 0
  MarkedFor st q = st.marks q.expression q.row ≡ true

  module _ (𝓐 : Algebra) (G : Given 𝓐.A) (fed : Throughout (Fed rows G) E) where
    abbrev Good : State → Type 0
    Good st = Inv 𝓐 G E st.marks (every st.blocks)

    record Served (st st' : State) (q : Request) : Type 0 where
      inv : Good st'
      grows : Grows st st'
      marked : MarkedFor st' q

    adding-good : (st : State) (a : Asked) → Good st → Gives rows E st.marks a → Good (adding E a st)
    adding-good st a v g =
        let k = add-blocks 𝓐 G E rows fed a.jobs st.counter st.marks (every st.blocks) v g.fine in
        rw (g.marks, every_append st.blocks (make E a.jobs st.counter).blocks) k

    generate-good : (q : Request) (st st' : State) → Good st → generate rows E q st ≡ done st' → Served st st' q
    generate-good q st st' v h =
        let x = then-done (ask rows E q.fused q.expression q.row st.marks) _ h in
        let y = then-done (plain_result q.row q.result) _ x.2 in
        let g = asks rows E q.fused q.expression q.row st.marks x.0 x.1 in
        subst (λ z. Served st z q) (done-same _ _ y.2)
        (record { inv = adding-good st x.0 v g.0; grows = λ e r m. grown rows E g.0 e r m; marked = g.1 })

    serve-good : (q : Request) → NoResult q → (st st' : State) → Good st → serve rows E q st ≡ done st' → Served st st' q
    serve-good q n st st' v h =
        let x = then-done (there (nth E q.expression)) _ h in
        let y = then-done (cond (st.marks q.expression q.row) (done st) (generate rows E q st)) _ x.2 in
        subst (λ z. Served st z q) (copy-none q.expression q.row q.result n y.0 st' y.2) (go y.0 (st.marks q.expression q.row) refl y.1)
      where
        go : (s : State) (b : Bool) → st.marks q.expression q.row ≡ b → cond b (done st) (generate rows E q st) ≡ done s → Served st s q
        go s true m k = subst (λ z. Served st z q) (done-same _ _ k) (record { inv = v; grows = λ e r t. t; marked = m })
        go s false m k = generate-good q st s v k

    pub record ServedAll (st st' : State) (qs : List Request) : Type 0 where
      pub inv : Inv 𝓐 G E st'.marks (every st'.blocks)
      pub grows : Grows st st'
      pub marked : Each (MarkedFor st') qs

    pub serve_all-good : (qs : List Request) → Each NoResult qs → (st st' : State) → Good st → serve_all rows E qs st ≡ done st' → ServedAll st st' qs
    serve_all-good [] n st st' v h = subst (λ z. ServedAll st z []) (done-same _ _ h) (record { inv = v; grows = λ e r t. t; marked = tt })
    serve_all-good (q ∷ qs) n st st' v h =
        let x = then-done (serve rows E q st) _ h in
        let s : Served st x.0 q = serve-good q n.0 st x.0 v x.1 in
        let k : ServedAll x.0 st' qs = serve_all-good qs n.1 x.0 st' s.inv x.2 in
        record {
          inv = k.inv;
          grows = λ e r t. k.grows e r (s.grows e r t);
          marked = (k.grows q.expression q.row s.marked, k.marked);
        }
