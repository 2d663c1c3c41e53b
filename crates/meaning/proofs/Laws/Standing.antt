-- Blocks that stand: where a result is copied to, what the blocks of jobs are, and that each block of a context has a step, which requests keep.
-- Assumes nothing.
use Rattle.std.specs.Prelude.{ℕ, ◌≤◌, ◌≡◌, refl, Bool, true, false, ◌||◌, cond, List, [], ◌∷◌, ◌++◌, ◌↔◌, length, eqb}
use Rattle.std.proofs.Common.{sym, ◌∙◌, ap, subst, inl, inr, arith, length-append, eqb-true, eq-eqb}
use Rattle.std.proofs.Math.Option.{Option, none, some}
use Rattle.meaning.specs.Refusals.{done}
use Rattle.meaning.specs.Trees.{Expression, Forest, nth, Each, Member}
use Rattle.meaning.specs.Steps.{Cell, Ref, StepOp, Step, step}
use Rattle.meaning.specs.Order.{Job, Asked, there, ask}
use Rattle.meaning.specs.Generation.{Block, State, start, Request, Result, result, make_one, make, last_destination, is_block, copy_into, with_blocks, copy_out, plain_result, adding, generate, serve, serve_all}
use Rattle.meaning.specs.Building.{standing, after_build}
use Rattle.meaning.specs.Conditions.{Stands, HasStep, Stepped}
use Rattle.meaning.proofs.Laws.Tests.{true-false, and_left, and_right, then-done, done-same, done-not-refused, each-join}
use Rattle.meaning.proofs.Laws.Jobs.{asks}
use Rattle.meaning.proofs.Laws.Evaluations.{Among, new-among}

-- ── which block ──────────────────────────────────────────────────────────────
member_right : {A : Type 0} (xs ys : List A) (a : A) → Member a ys → Member a (xs ++ ys)
member_right [] ys a h = h
member_right (x ∷ xs) ys a h = inr (member_right xs ys a h)

module _ (e r : ℕ) where
  is_block_lem : (b : Block) → b.expression ≡ e → b.row ≡ r → is_block e r b ≡ true
  is_block_lem b p q = rw (eq-eqb e b.expression (sym p), eq-eqb r b.row (sym q))

  stands-first : (b : Block) (bs : List Block) → is_block e r b ≡ true → Stands e r (b ∷ bs)
  stands-first b bs q = record {
    block = b;
    member = inl refl;
    expression = sym (eqb-true e b.expression (and_left _ _ q));
    row = sym (eqb-true r b.row (and_right (eqb e b.expression) _ q));
  }

  stands-right : (xs ys : List Block) → Stands e r ys → Stands e r (xs ++ ys)
  stands-right xs ys s = record { block = s.block; member = member_right xs ys s.block s.member; expression = s.expression; row = s.row }

  -- it stands first or later
  stands-later : (b : Block) (bs : List Block) → is_block e r b ≡ false → Stands e r (b ∷ bs) → Stands e r bs
  stands-later b bs q s = go s.member
    where
      go : Member s.block (b ∷ bs) → Stands e r bs
      go (inl p) = absurd (true-false (is_block_lem b (ap (λ (z : Block). z.expression) p ∙ s.expression) (ap (λ (z : Block). z.row) p ∙ s.row)) q)
      go (inr k) = record { block = s.block; member = k; expression = s.expression; row = s.row }

  -- the same by the test
  pub standing-is : (bs : List Block) → (standing e r bs ≡ true) ↔ Stands e r bs
  standing-is [] = (λ h. absurd (true-false h refl), λ s. absurd s.member)
  standing-is (b ∷ bs) = go (standing-is bs) (is_block e r b) refl
    where
      go : (standing e r bs ≡ true) ↔ Stands e r bs → (t : Bool) → is_block e r b ≡ t → ((t || standing e r bs) ≡ true) ↔ Stands e r (b ∷ bs)
      go ih true q = (λ h. stands-first b bs q, λ s. refl)
      go ih false q = (λ h. stands-right (b ∷ []) bs (ih.0 h), λ s. ih.1 (stands-later b bs q s))

  -- ── copies ─────────────────────────────────────────────────────────────────
  last-there : (xs : List Step) → 1 ≤ length xs → (d : Ref) × (last_destination xs ≡ some d)
  last-there [] h = absurd (omega arith)
  last-there (x ∷ []) h = (x.destination, refl)
  last-there (x ∷ y ∷ ys) h = last-there (y ∷ ys) (omega arith)

  -- a result is copied to a block that stands, or none does
  pub data Copying (d : Ref) (bs : List Block) : Type 0 where
    copies : Stands e r bs → (cs : List Block) → copy_into e r d bs ≡ some cs → Each HasStep cs → Copying d bs
    lacks : (Stands e r bs → ⊥) → copy_into e r d bs ≡ none → Copying d bs

  pub copying : (d : Ref) (bs : List Block) → Each HasStep bs → Copying d bs
  copying d [] h = Copying.lacks (λ s. s.member) refl
  copying d (b ∷ bs) h = go (copying d bs h.1) (is_block e r b) refl
    where
      here : is_block e r b ≡ true → (w : Ref) → last_destination b.steps ≡ some w → Copying d (b ∷ bs)
      here q w p =
          let c : Block = record { expression = b.expression; row = b.row; steps = b.steps ++ (step StepOp.copy d (w ∷ []) ∷ []) } in
          Copying.copies (stands-first b bs q) (c ∷ bs) (rw (q, p)) (simp length-append (omega arith), h.1)

      go : Copying d bs → (t : Bool) → is_block e r b ≡ t → Copying d (b ∷ bs)
      go ih true q = let l = last-there b.steps h.0 in here q l.0 l.1
      go (Copying.copies s cs p k) false q = Copying.copies (stands-right (b ∷ []) bs s) (b ∷ cs) (rw (q, p)) (h.0, k)
      go (Copying.lacks n p) false q = Copying.lacks (λ s. n (stands-later b bs q s)) (rw (q, p))

-- ── the blocks of jobs ───────────────────────────────────────────────────────
module _ (E : Forest) where
  one-stepped : (j : Job) (o : Option Expression) (t : ℕ) → Each HasStep (make_one j o t).blocks
  one-stepped j none t = tt
  one-stepped j (some x) t = (simp length-append (omega arith), tt)

  make-stepped : (js : List Job) (t : ℕ) → Each HasStep (make E js t).blocks
  make-stepped [] t = tt
  make-stepped (j ∷ js) t =
      let x = make_one j (nth E j.expression) t in
      each-join HasStep x.blocks (make E js x.counter).blocks (one-stepped j (nth E j.expression) t) (make-stepped js x.counter)

  -- the block of a cell among the jobs stands
  make-stands : (e r : ℕ) (x : Expression) → nth E e ≡ some x → (js : List Job) (t : ℕ) → Among e r js → Stands e r (make E js t).blocks
  make-stands e r x f [] t k = absurd k
  make-stands e r x f (j ∷ js) t (inl q) =
      let p : nth E j.expression ≡ some x = ap (nth E) q.0 ∙ f in
      rw p (record { block = _; member = inl refl; expression = q.0; row = q.1 })
  make-stands e r x f (j ∷ js) t (inr k) =
      let y = make_one j (nth E j.expression) t in
      stands-right e r y.blocks (make E js y.counter).blocks (make-stands e r x f js y.counter k)

  pub adding-stepped : (a : Asked) (st : State) → Stepped st → Stepped (adding E a st)
  adding-stepped a st s = each-join HasStep st.blocks (make E a.jobs st.counter).blocks s (make-stepped a.jobs st.counter)

-- ── requests ─────────────────────────────────────────────────────────────────
module _ (rows : ℕ) (E : Forest) where
  -- THE BLOCK OF A REQUEST THAT GENERATES STANDS
  pub generated-stands :
      (fused : Bool) (e r : ℕ) (x : Expression) → nth E e ≡ some x → (st : State) → st.marks e r ≡ false →
      (a : Asked) → ask rows E fused e r st.marks ≡ done a → Stands e r (adding E a st).blocks
  generated-stands fused e r x f st u a h =
      let g = asks rows E fused e r st.marks a h in
      let k = new-among st.marks a.jobs e r u (sym (ap (λ z. z e r) g.0.marks) ∙ g.1) in
      stands-right e r st.blocks (make E a.jobs st.counter).blocks (make-stands E e r x f a.jobs st.counter k)

  copy-stepped : (e r : ℕ) (o : Option Result) (st st' : State) → Stepped st → copy_out e r o st ≡ done st' → Stepped st'
  copy-stepped e r none st st' s h = subst Stepped (done-same _ _ h) s
  copy-stepped e r (some (result k i)) st st' s h = go (copying e r (Ref.var (Cell.cell k i r)) st.blocks s)
    where
      go : Copying e r (Ref.var (Cell.cell k i r)) st.blocks → Stepped st'
      go (Copying.copies w cs p z) = subst Stepped (done-same _ _ (sym (ap (with_blocks st) p) ∙ h)) z
      go (Copying.lacks w p) = absurd (done-not-refused (sym h ∙ ap (with_blocks st) p))

  generate-stepped : (q : Request) (st st' : State) → Stepped st → generate rows E q st ≡ done st' → Stepped st'
  generate-stepped q st st' s h =
      let x = then-done (ask rows E q.fused q.expression q.row st.marks) _ h in
      let y = then-done (plain_result q.row q.result) _ x.2 in
      subst Stepped (done-same _ _ y.2) (adding-stepped E x.0 st s)

  pub serve-stepped : (q : Request) (st st' : State) → Stepped st → serve rows E q st ≡ done st' → Stepped st'
  serve-stepped q st st' s h =
      let x = then-done (there (nth E q.expression)) _ h in
      let y = then-done (cond (st.marks q.expression q.row) (done st) (generate rows E q st)) _ x.2 in
      copy-stepped q.expression q.row q.result y.0 st' (go y.0 (st.marks q.expression q.row) y.1) y.2
    where
      go : (t : State) (b : Bool) → cond b (done st) (generate rows E q st) ≡ done t → Stepped t
      go t true k = subst Stepped (done-same _ _ k) s
      go t false k = generate-stepped q st t s k

  -- REQUESTS KEEP A STEP IN EACH BLOCK
  pub serve_all-stepped : (qs : List Request) (st st' : State) → Stepped st → serve_all rows E qs st ≡ done st' → Stepped st'
  serve_all-stepped [] st st' s h = subst Stepped (done-same _ _ h) s
  serve_all-stepped (q ∷ qs) st st' s h =
      let x = then-done (serve rows E q st) _ h in
      serve_all-stepped qs x.0 st' (serve-stepped q st x.0 s x.1) x.2

-- at the start there is none
pub start-stepped : Stepped start
start-stepped = tt

-- nor after a build
pub build-stepped : (rows : ℕ) (E : Forest) (st : State) → Stepped (after_build rows E st)
build-stepped rows E st = tt
