-- Blocks added to a list that runs: it still runs, and each marked cell holds its expression's value.
-- Assumes nothing.
use Rattle.std.specs.Prelude.{ℕ, ◌+◌, ◌≡◌, refl, Bool, true, false, ◌&&◌, ◌||◌, cond, List, [], ◌∷◌, ◌++◌, eqb}
use Rattle.std.proofs.Common.{sym, ◌∙◌, subst₂, append_assoc, append-nil, arith, eqb-true, ltb-true}
use Rattle.std.proofs.Math.Option.{none, some}
use Rattle.meaning.specs.Trees.{RowKind, FlatKind, XKind, Leaf, Expr, Forest, Placed, ◌at◌, leaves, Each}
use Rattle.meaning.specs.Steps.{Kind, Cell, same, place, Ref, Step, exp_cell}
use Rattle.meaning.specs.Values.{Algebra, Given, Has, Value}
use Rattle.meaning.specs.Running.{Store, empty, set, before, read, run}
use Rattle.meaning.specs.Emission.{emit, block_steps}
use Rattle.meaning.specs.Order.{Marks, unmarked, marking, Job, asked}
use Rattle.meaning.specs.Generation.{make}
use Rattle.meaning.specs.Building.{every}
use Rattle.meaning.specs.Demand3.{Throughout, Fed, Held}
use Rattle.meaning.proofs.Laws.Tests.{true-false, and_left, and_right}
use Rattle.meaning.proofs.Laws.Cells.{same_not, exp-under}
use Rattle.meaning.proofs.Laws.Runs.{run-then}
use Rattle.meaning.proofs.Laws.Tree.{Ready, Valued, planned, block_runs}
use Rattle.meaning.proofs.Laws.Fuse.{asked-leaves, asked-value}
use Rattle.meaning.proofs.Laws.Jobs.{after, InRows, DepMarked, Fine, AllFine}

-- no temporary and no exp cell
pub record Other (c : Cell) : Type 0 where
  pub no_tmp : (i : ℕ) → c ≡ Cell.cell Kind.tmp i 0 → ⊥
  pub no_exp : (e r : ℕ) → c ≡ exp_cell e r → ⊥

other_row : (k : RowKind) (i r : ℕ) → Other (Cell.cell (Kind.row k) i r)
other_row k i r = record {
  no_tmp = λ j q. let z : ◌≡◌ {A = ℕ} 0 1 = cc in omega arith;
  no_exp = λ e r' q. let z : ◌≡◌ {A = ℕ} 0 1 = cc in omega arith;
}

other-flat : (k : FlatKind) (i r : ℕ) → Other (Cell.cell (Kind.flat k) i r)
other-flat k i r = record {
  no_tmp = λ j q. let z : ◌≡◌ {A = ℕ} 0 1 = cc in omega arith;
  no_exp = λ e r' q. let z : ◌≡◌ {A = ℕ} 0 1 = cc in omega arith;
}

other-x : (k : XKind) (i r : ℕ) → Other (Cell.cell (Kind.x k) i r)
other-x k i r = record {
  no_tmp = λ j q. let z : ◌≡◌ {A = ℕ} 0 1 = cc in omega arith;
  no_exp = λ e r' q. let z : ◌≡◌ {A = ℕ} 0 1 = cc in omega arith;
}

module _ (𝓐 : Algebra) (G : Given 𝓐.A) (E : Forest) where
  -- the list runs, writes temporaries and exp cells alone, and each marked cell holds its expression's value
  pub record Inv (m : Marks) (xs : List Step) : Type 0 where
    pub end : Store 𝓐.A
    pub runs : run 𝓐 G xs empty ≡ some end
    pub bare : (c : Cell) → Other c → end c ≡ none
    pub holds : (e r : ℕ) → m e r ≡ true → Held 𝓐 G E end e r

  -- a cell that is given and not written is read as it is given
  read-given : (s : Store 𝓐.A) (k : Kind) (i r : ℕ) → place (Cell.cell k i r) ≡ Cell.cell k i r → s (Cell.cell k i r) ≡ none → read 𝓐 G s (Ref.var (Cell.cell k i r)) ≡ before G (Cell.cell k i r)
  read-given s k i r p h = rw (p, h)

  module _ (rows : ℕ) (fed : Throughout (Fed rows G) E) where
    leaf-ready :
        (m : Marks) (xs : List Step) (v : Inv m xs) (r : ℕ) (p : Placed) → Fed rows G p → InRows rows r p → DepMarked rows m r p →
        Ready 𝓐 G E r v.end p
    leaf-ready m xs v r (Leaf.cell k i a at n) f w d =
        let g = f r (ltb-true _ _ w) in
        (g.0, read-given v.end (Kind.row k) i (r + a) refl (v.bare _ (other_row k i (r + a))) ∙ g.1, Has.cell g.1)
    leaf-ready m xs v r (Leaf.exp i a at n) f w d =
        let h = v.holds i (r + a) d in
        (h.0, rw h.1, Has.exp h.2.0 h.2.1 h.2.2)
    leaf-ready m xs v r (Leaf.number l at n) f w d = (𝓐.of_lit l, refl, Has.number refl)
    leaf-ready m xs v r (Leaf.flat k i at n) f w d =
        (f.0, read-given v.end (Kind.flat k) i 0 refl (v.bare _ (other-flat k i 0)) ∙ f.1, Has.flat f.1)
    leaf-ready m xs v r (Leaf.x k at n) f w d =
        (f.0, read-given v.end (Kind.x k) 0 0 refl (v.bare _ (other-x k 0 0)) ∙ f.1 0, Has.x (f.1 r))

    leaves-ready :
        (m : Marks) (xs : List Step) (v : Inv m xs) (r : ℕ) (ls : List Placed) →
        Each (Fed rows G) ls → Each (InRows rows r) ls → Each (DepMarked rows m r) ls → Each (Ready 𝓐 G E r v.end) ls
    leaves-ready m xs v r [] f w d = tt
    leaves-ready m xs v r (p ∷ ls) f w d =
        (leaf-ready m xs v r p f.0 w.0 d.0, leaves-ready m xs v r ls f.1 w.1 d.1)

    -- one block more
    module _ (m : Marks) (xs : List Step) (v : Inv m xs) (j : Job) (fine : Fine rows E m j) (t : ℕ) where
      abbrev T : Expr
      T = asked j.fused fine.expression.tree

      abbrev e : ℕ
      e = j.expression

      abbrev r : ℕ
      r = j.row

      tree : Valued 𝓐 G E r v.end t T
      tree =
          planned 𝓐 G E r T t v.end
          ((asked-leaves (Ready 𝓐 G E r v.end) j.fused fine.expression.tree).1
          (leaves-ready m xs v r (leaves fine.expression.tree) (fed e fine.expression fine.found) fine.rows_there fine.deps_marked))

      abbrev after_block : Store 𝓐.A
      after_block = set tree.good.mid (exp_cell e r) tree.value

      block-holds :
          (e' r' : ℕ) (b : Bool) → (eqb e e' && eqb r r') ≡ b → (b || m e' r') ≡ true →
          (w : 𝓐.A) × (cond b (some tree.value) (tree.good.mid (exp_cell e' r')) ≡ some w) × Value 𝓐 G E e' r' w
      block-holds e' r' true q h =
          let qe : e ≡ e' = eqb-true e e' (and_left (eqb e e') (eqb r r') q) in
          let qr : r ≡ r' = eqb-true r r' (and_right (eqb e e') (eqb r r') q) in
          let k : Value 𝓐 G E e r tree.value = (fine.expression, fine.found, asked-value 𝓐 G E r j.fused fine.expression.tree tree.has) in
          (tree.value, refl, subst₂ (λ a b. Value 𝓐 G E a b tree.value) qe qr k)
      block-holds e' r' false q h =
          let d = v.holds e' r' h in
          (d.0, tree.good.agree.kept (exp_cell e' r') (exp-under e' r' t) ∙ d.1, d.2)

      block-bare : (c : Cell) → Other c → after_block c ≡ none
      block-bare c o =
          let z : same (exp_cell e r) c ≡ false = same_not (exp_cell e r) c (λ q. o.no_exp e r (sym q)) in
          rw z (tree.good.agree.kept c (λ i q. absurd (o.no_tmp i q)) ∙ v.bare c o)

      pub add-block : Inv (marking m e r) (xs ++ block_steps (emit T r t) (Ref.var (exp_cell e r)))
      add-block = record {
        end = after_block;
        runs = run-then 𝓐 G xs (block_steps (emit T r t) (Ref.var (exp_cell e r))) empty v.runs (block_runs 𝓐 G (emit T r t) (Ref.var (exp_cell e r)) tree.good refl);
        bare = block-bare;
        holds = λ e' r' h. block-holds e' r' (eqb e e' && eqb r r') refl h;
      }

    -- THE BLOCKS OF JOBS
    pub add-blocks :
        (js : List Job) (t : ℕ) (m : Marks) (xs : List Step) → Inv m xs → AllFine rows E m js →
        Inv (after m js) (xs ++ every (make E js t).blocks)
    add-blocks [] t m xs v h = rw (append-nil xs) v
    add-blocks (j ∷ js) t m xs v h =
        let x = h.0.expression in
        let y = emit (asked j.fused x.tree) j.row t in
        let B = block_steps y (Ref.var (exp_cell j.expression j.row)) in
        let k = add-blocks js y.free (marking m j.expression j.row) (xs ++ B) (add-block m xs v j h.0 t) h.1 in
        rw (h.0.found, ← append_assoc xs B (every (make E js y.free).blocks)) k

  pub start-inv : Inv unmarked []
  start-inv = record { end = empty; runs = refl; bare = λ c o. refl; holds = λ e r h. absurd (true-false h refl) }
