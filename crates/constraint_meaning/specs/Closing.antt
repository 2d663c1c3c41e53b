-- THE LAST STEP OF STEP42NS: q is the constraint's cell times Zi.
-- Assumes nothing.
use Rattle.std.specs.Prelude.{ℕ, zero, suc, ◌<◌, ◌≡◌, refl, false, cond, List, [], ◌∷◌, ◌++◌, length}
use Rattle.std.proofs.Common.{sym, ◌∙◌, ap, subst, append_assoc, append-nil, arith, ne_eqb}
use Rattle.std.proofs.Math.Option.{some}
use Rattle.meaning.specs.Refusals.{done}
use Rattle.meaning.specs.Trees.{Expr, Expression, Forest, nth, leaves, Each}
use Rattle.meaning.specs.Steps.{Ref, StepOp, Step, step, exp_cell}
use Rattle.meaning.specs.Emission.{Own, emit, root_step}
use Rattle.meaning.specs.Order.{Marks, Job, Asked, there, own, ask_leaves, fresh, ask_below, ask}
use Rattle.meaning.specs.Generation.{Block, State, make_one, make, last_destination, adding, block_of, generate, serve}
use Rattle.meaning.specs.Building.{every}
use Rattle.meaning.proofs.Laws.Tests.{then-done, done-same}
use Rattle.meaning.proofs.Laws.Requests.{every_append}
use Rattle.search_meaning.specs.Search.{member}
use Rattle.constraint_meaning.specs.Tree.{extended}
use Rattle.constraint_meaning.specs.Constraint.{Built, plain_request, marked, quotient_ref, zi_ref, product, closed, close_last, closing, step42ns}
use Rattle.constraint_meaning.specs.Ranks.{unflagged, nth-constraint}

-- ── lists ────────────────────────────────────────────────────────────────────
last_snoc : (xs : List Step) (x : Step) → last_destination (xs ++ (x ∷ [])) ≡ some x.destination
last_snoc [] x = refl
last_snoc (a ∷ []) x = refl
last_snoc (a ∷ b ∷ xs) x = last_snoc (b ∷ xs) x

close-snoc : (bs : List Block) (b : Block) → close_last (bs ++ (b ∷ [])) ≡ bs ++ (closed b ∷ [])
close-snoc [] b = refl
close-snoc (a ∷ []) b = refl
close-snoc (a ∷ c ∷ bs) b = ap (◌∷◌ a) (close-snoc (c ∷ bs) b)

-- ── blocks ───────────────────────────────────────────────────────────────────
make-snoc :
    (E : Forest) (js : List Job) (j : Job) (t : ℕ) →
    (make E (js ++ (j ∷ [])) t).blocks ≡ (make E js t).blocks ++ (make_one j (nth E j.expression) (make E js t).counter).blocks
make-snoc E [] j t = append-nil _
make-snoc E (i ∷ js) j t =
    let x = make_one i (nth E i.expression) t in
    ap (λ l. x.blocks ++ l) (make-snoc E js j x.counter) ∙ sym (append_assoc x.blocks _ _)

-- a block's last destination is its own cell
root-destination : (o : Own) (d : Ref) → (root_step o d).destination ≡ d
root-destination (Own.ref r) d = refl
root-destination (Own.operation o rs) d = refl

closed-steps : (b : Block) (xs : List Step) (x : Step) (d : Ref) → b.steps ≡ xs ++ (x ∷ []) → x.destination ≡ d → (closed b).steps ≡ b.steps ++ product (some d)
closed-steps b xs x d h q = ap (λ o. b.steps ++ product o) (ap last_destination h ∙ last_snoc xs x ∙ ap some q)

-- ── the request for the constraint ───────────────────────────────────────────
module _ (rows : ℕ) (E : Forest) (x : Expression) where
  -- an expression without a mark comes last among its blocks
  asked-last :
      (e : ℕ) → nth E e ≡ some x → (m : Marks) (a : Asked) → m e 0 ≡ false → ask rows E false e 0 m ≡ done a →
      (js : List Job) × (a.jobs ≡ js ++ (record { expression = e; row = 0; fused = false } ∷ []))
  asked-last e f m a u h = go (length E) h
    where
      go :
          (n : ℕ) → ask_below rows E n false e 0 m ≡ done a →
          (js : List Job) × (a.jobs ≡ js ++ (record { expression = e; row = 0; fused = false } ∷ []))
      go zero q = absurd (let z : ◌≡◌ {A = ℕ} 0 1 = cc in omega arith)
      go (suc n) q =
          let k : fresh rows E (ask_below rows E n false) false e 0 m ≡ done a = sym (rw u refl) ∙ q in
          let y = then-done (there (nth E e)) _ k in
          let z = then-done (ask_leaves rows (ask_below rows E n false) (leaves y.0.tree) 0 m) _ y.2 in
          let w = then-done (own rows (leaves y.0.tree) 0) _ z.2 in
          (z.0.jobs, ap (λ v. v.jobs) (sym (done-same _ _ w.2)))

  -- its block closed: what stood before, and the closing product
  closed-adding :
      (e : ℕ) → nth E e ≡ some x → (st : State) (a : Asked) (js : List Job) → a.jobs ≡ js ++ (record { expression = e; row = 0; fused = false } ∷ []) →
      every (closing (adding E a st)).blocks ≡ every (adding E a st).blocks ++ product (some (Ref.var (exp_cell e 0)))
  closed-adding e f st a js h =
      let j : Job = record { expression = e; row = 0; fused = false } in
      let t = make E js st.counter in
      let y = emit x.tree 0 t.counter in
      let b = block_of j y in
      let d = Ref.var (exp_cell e 0) in
      let old = st.blocks ++ t.blocks in
      let made : (make E a.jobs st.counter).blocks ≡ t.blocks ++ (b ∷ []) =
      ap (λ l. (make E l st.counter).blocks) h ∙ make-snoc E js j st.counter ∙ ap (λ o. t.blocks ++ (make_one j o t.counter).blocks) f in
      let all : (adding E a st).blocks ≡ old ++ (b ∷ []) = ap (λ l. st.blocks ++ l) made ∙ sym (append_assoc st.blocks t.blocks (b ∷ [])) in
      let end : (closed b).steps ≡ b.steps ++ product (some d) = closed-steps b y.steps (root_step y.own d) d refl (root-destination y.own d) in
      let left : every (close_last (adding E a st).blocks) ≡ every old ++ ((closed b).steps ++ []) =
      ap (λ l. every (close_last l)) all ∙ ap every (close-snoc old b) ∙ every_append old (closed b ∷ []) in
      let right : every (adding E a st).blocks ≡ every old ++ (b.steps ++ []) = ap every all ∙ every_append old (b ∷ []) in
      left ∙ ap (λ l. every old ++ l) (append-nil (closed b).steps ∙ end)
      ∙ sym (append_assoc (every old) b.steps (product (some d)))
      ∙ ap (λ l. l ++ product (some d)) (ap (λ l. every old ++ l) (sym (append-nil b.steps)) ∙ sym right)

  -- a request that makes it is served by that
  pub served-adding :
      (e : ℕ) → nth E e ≡ some x → (st st' : State) → st.marks e 0 ≡ false → serve rows E (plain_request e) st ≡ done st' →
      (a : Asked) × (ask rows E false e 0 st.marks ≡ done a) × (adding E a st ≡ st')
  served-adding e f st st' u h =
      let y = then-done (there (nth E e)) _ h in
      let z = then-done (cond (st.marks e 0) (done st) (generate rows E (plain_request e) st)) _ y.2 in
      let k : generate rows E (plain_request e) st ≡ done z.0 = sym (rw u refl) ∙ z.1 in
      let w = then-done (ask rows E false e 0 st.marks) _ k in
      (w.0, w.1, done-same _ _ w.2 ∙ done-same _ _ z.2)

-- ── step42ns ─────────────────────────────────────────────────────────────────
pub not-member : (n : ℕ) (s : List ℕ) → Each (λ e. e < n) s → member n s ≡ false
not-member n [] h = refl
not-member n (i ∷ s) h = rw (ne_eqb n i (λ q. let b = h.0 in omega arith)) (not-member n s h.1)

-- what generation gave in the second context, and the list with its last step
pub record Closes (rows : ℕ) (E : Forest) (members : List ℕ) (c : ℕ) (st : State) (b : Built) : Type 0 where
  pub state : State
  pub served : serve rows E (plain_request c) (marked rows members st) ≡ done state
  pub first : b.segment.first ≡ every state.blocks ++ (step StepOp.mul quotient_ref (Ref.var (exp_cell c 0) ∷ zi_ref ∷ []) ∷ [])

-- THE CLOSING PRODUCT, where no mark of the second context is beyond the pool
pub closing-product :
    (rows : ℕ) (E : Forest) (t : Expr) (members : List ℕ) (st : State) (b : Built) →
    Each (λ e. e < length E) members → st.marks (length E) 0 ≡ false →
    step42ns rows (extended E t) members (length E) st ≡ done b → Closes rows (extended E t) members (length E) st b
closing-product rows E t members st b there-all unmarked h =
    let E' = extended E t in
    let c = length E in
    let f = nth-constraint E t in
    let st₀ = marked rows members st in
    let u : st₀.marks c 0 ≡ false = rw (unmarked, not-member c members there-all) refl in
    let y = then-done (serve rows E' (plain_request c) st₀) _ h in
    let z = served-adding rows E' (unflagged t) c f st₀ y.0 u y.1 in
    let j = asked-last rows E' (unflagged t) c f st₀.marks z.0 u z.1 in
    let k = closed-adding rows E' (unflagged t) c f st₀ z.0 j.0 j.1 in
    record {
      state = y.0;
      served = y.1;
      first =
          ap (λ w. w.segment.first) (sym (done-same _ _ y.2))
          ∙ subst (λ s. every (closing s).blocks ≡ every s.blocks ++ product (some (Ref.var (exp_cell c 0)))) z.2 k;
    }
