-- Identities and members added one after the other, and all of the constraint. Over plain variables.
-- Assumes nothing.
use Prim.Native.Nat.{ℕ, ◌+◌, ◌-◌, ◌*◌, ◌≤◌, ◌<◌}
use mathlib.Core.Path.{◌≡◌, sym, ◌∙◌, ap, subst}
use mathlib.Core.List.{List, [], ◌∷◌, ◌++◌}
use native.Mathlib.Omega.{arith}
use native.Mathlib.Numerals.{add-one}
use lib.ListN.{length, get_or, take, drop, set, length-take, length-append, length-drop, take-append-drop}
use lib.Seq.{take-suc, take_all, get_or-drop}
use Rattle.kinds.specs.KindBytes as kind
use Rattle.frames.specs.Order.{node_limit, expression_limit}
use Rattle.frames.specs.Tables.{expression_word}
use Rattle.frames.specs.declared.rest.Expression.{Expression}
use Rattle.pool.specs.Words.{root_in}
use Rattle.pool.specs.Pool.{Pool, node}
use Rattle.pool.specs.Trees.{tree}
use Rattle.pool.specs.Shaped.{Shaped}
use Rattle.pool.specs.Tabled.{tabled}
use Rattle.pool.specs.Ranking.{Tabling}
use Rattle.pool.specs.Laws.Tabled.{node-count, root-at}
use Rattle.pool.specs.Laws.Nodes.{root-there}
use Rattle.constraint_meaning.specs.Numbers.{size}
use Rattle.constraint_pool.specs.Nodes.{leaf_node, identity_nodes, identities_nodes, member_nodes, body_of, members_nodes, constraint_nodes}
use Rattle.constraint_pool.specs.Asked.{Appends, IdentityAsks, MemberAsks}
use Rattle.constraint_pool.specs.Copies.{appends_none, appends_next, pool-kept}
use Rattle.constraint_pool.specs.Lists.{identities-length, identities-append, identities-one, member-length, members-one, members-append, constraint-length}
use Rattle.constraint_pool.specs.Whole.{IdentitiesAsk, MembersAsk, ConstraintAsks, Adds}

taken : (es : List ℕ) (k : ℕ) → k ≤ length es → length (take k es) ≡ k
taken es k h = simp length-take (omega arith)

one_more : (es : List ℕ) (k : ℕ) → k < length es → take (k + 1) es ≡ take k es ++ (get_or es k 0 ∷ [])
one_more es k h = rw (add-one k) (take-suc es k 0 h)

-- ---- identities

pub identities-none : (vc at : ℕ) (w l : List ℕ) → Appends w l at (identities_nodes vc at []) w l at
unfolding identities_nodes
identities-none vc at w l = appends_none w l at

module _ (vc at : ℕ) (es : List ℕ) where
  module _ {w₀ l₀ w l : List ℕ} {next : ℕ} (k : ℕ) (p : Appends w₀ l₀ at (identities_nodes vc at (take k es)) w l next) (h : k < length es) where
    here : next ≡ at + 4 * k
    here = omega (arith, p.next, identities-length vc at (take k es), taken es k (omega arith))

    pub identity-asks : IdentitiesAsk es at → IdentityAsks next
    identity-asks a = record { some = omega (arith, here, a.some); room = omega (arith, here, a.room) }

    pub identities-more :
        {w' l' : List ℕ} {r : ℕ} → Appends w l next (identity_nodes vc next (get_or es k 0)) w' l' r → Appends w₀ l₀ at (identities_nodes vc at (take (k + 1) es)) w' l' r
    identities-more {w'} {l'} {r} q =
        let A = identities_nodes vc at (take k es) in
        let e : at + 4 * length (take k es) ≡ next = omega (arith, here, taken es k (omega arith)) in
        let f : identities_nodes vc at (take (k + 1) es) ≡ A ++ identity_nodes vc next (get_or es k 0) =
        ap (identities_nodes vc at) (one_more es k h) ∙ identities-append vc at (take k es) (get_or es k 0 ∷ [])
        ∙ ap (λ z. A ++ z) (identities-one vc (at + 4 * length (take k es)) (get_or es k 0) ∙ ap (λ z. identity_nodes vc z (get_or es k 0)) e) in
        subst (λ ns. Appends w₀ l₀ at ns w' l' r) (sym f) (appends_next p q)

  pub identities-all :
      {w₀ l₀ w l : List ℕ} {next : ℕ} (k : ℕ) → Appends w₀ l₀ at (identities_nodes vc at (take k es)) w l next → length es ≤ k → Appends w₀ l₀ at (identities_nodes vc at es) w l next
  identities-all {w₀} {l₀} {w} {l} {next} k p h = subst (λ z. Appends w₀ l₀ at (identities_nodes vc at z) w l next) (take_all k es h) p

-- ---- members

pub members-none : (p : Pool) (vc at cm : ℕ) (w l : List ℕ) → Appends w l at (members_nodes p vc at cm []) w l at
unfolding members_nodes
members-none p vc at cm w l = appends_none w l at

pub members-all :
    {w₀ l₀ w l : List ℕ} {next : ℕ} (p : Pool) (vc at cm : ℕ) (es : List ℕ) (k : ℕ) →
    Appends w₀ l₀ at (members_nodes p vc at cm (take k es)) w l next → length es ≤ k → Appends w₀ l₀ at (members_nodes p vc at cm es) w l next
members-all {w₀} {l₀} {w} {l} {next} p vc at cm es k q h = subst (λ z. Appends w₀ l₀ at (members_nodes p vc at cm z) w l next) (take_all k es h) q

module _ {w₀ l₀ x : List ℕ} {n m : ℕ} {es : List ℕ} {at vc cm : ℕ} (a : MembersAsk w₀ l₀ x n m es at vc cm) where
  abbrev P : Pool
  P = tabled (Tabling w₀ l₀ x n m)

  module _ {k : ℕ} (h : k < length es) where
    pub member-root : get_or es k 0 < expression_limit
    member-root = omega (arith, a.few, a.there k h)

  module _ {w l : List ℕ} {next k : ℕ} (p : Appends w₀ l₀ at (members_nodes P vc at cm (take k es)) w l next) (h : k < length es) where
    kept : tabled (Tabling w l x n m) ≡ P
    kept = pool-kept x n m p a.after

    further : at + length (members_nodes P vc at cm (take k es)) ≡ next
    further = sym p.next

    grows : members_nodes P vc at cm (take (k + 1) es) ≡ members_nodes P vc at cm (take k es) ++ member_nodes (node P) vc next (body_of P (get_or es k 0)) (cm + k)
    grows =
        let A = members_nodes P vc at cm (take k es) in
        let e = get_or es k 0 in
        let c : length (take k es) ≡ k = taken es k (omega arith) in
        ap (members_nodes P vc at cm) (one_more es k h) ∙ members-append P vc at cm (take k es) (e ∷ [])
        ∙ ap (λ z. A ++ z)
        (members-one P vc (at + length A) (cm + length (take k es)) e ∙ ap (λ z. member_nodes (node P) vc z (body_of P e) (cm + length (take k es))) further
        ∙ ap (λ z. member_nodes (node P) vc next (body_of P e) (cm + z)) c)

    fits : next + (size (body_of P (get_or es k 0)) + 5) ≤ at + length (members_nodes P vc at cm es)
    fits =
        let B = take (k + 1) es in
        let C = drop (k + 1) es in
        let A = members_nodes P vc at cm (take k es) in
        let M = member_nodes (node P) vc next (body_of P (get_or es k 0)) (cm + k) in
        let R = members_nodes P vc (at + length (members_nodes P vc at cm B)) (cm + length B) C in
        let e : length (members_nodes P vc at cm es) ≡ length (members_nodes P vc at cm B) + length R =
        ap (λ z. length (members_nodes P vc at cm z)) (sym (take-append-drop (k + 1) es)) ∙ ap length (members-append P vc at cm B C) ∙ length-append (members_nodes P vc at cm B) R in
        let f : length (members_nodes P vc at cm B) ≡ length A + length M = ap length grows ∙ length-append A M in
        omega (arith, further, member-length (node P) vc next (body_of P (get_or es k 0)) (cm + k))

    module _ {r : ℕ} (q : r ≡ root_in x (get_or es k 0)) where
      body_is : tree P r ≡ body_of P (get_or es k 0)
      body_is = ap (tree P) (q ∙ sym (root-at (Tabling w₀ l₀ x n m) (get_or es k 0) (a.there k h)))

      pub member-asks : MemberAsks w l x n m next r
      member-asks =
          record {
            shaped = subst Shaped (sym kept) a.shaped;
            there = root-there (Tabling w₀ l₀ x n m) a.shaped (a.there k h) q;
            after = omega (arith, further, a.after);
            some = omega (arith, further, a.some);
            room = rw (kept, body_is) (omega (arith, fits, a.room));
          }

      pub members-more :
          {w' l' : List ℕ} {o : ℕ} → Appends w l next (member_nodes (node (tabled (Tabling w l x n m))) vc next (tree (tabled (Tabling w l x n m)) r) (cm + k)) w' l' o
          → Appends w₀ l₀ at (members_nodes P vc at cm (take (k + 1) es)) w' l' o
      members-more {w'} {l'} {o} b =
          let f : member_nodes (node (tabled (Tabling w l x n m))) vc next (tree (tabled (Tabling w l x n m)) r) (cm + k) ≡ member_nodes (node P) vc next (body_of P (get_or es k 0)) (cm + k) =
          ap (λ z. member_nodes (node z) vc next (tree z r) (cm + k)) kept ∙ ap (λ z. member_nodes (node P) vc next z (cm + k)) body_is in
          subst (λ ns. Appends w₀ l₀ at ns w' l' o) (sym grows) (appends_next p (subst (λ ns. Appends w l next ns w' l' o) f b))

-- ---- all of it

module _ {w l x ids es : List ℕ} {vc cm n m : ℕ} (a : ConstraintAsks w l x ids es vc cm n m) where
  abbrev Q : Pool
  Q = tabled (Tabling w l x n m)

  count : length Q.nodes ≡ n
  count = node-count (Tabling w l x n m)

  others : length (drop 1 ids) + 1 ≡ length ids
  others = simp length-drop (omega (arith, a.some))

  total : n + 1 + 4 * length (drop 1 ids) + length (members_nodes Q vc (n + 1 + 4 * length (drop 1 ids)) cm es) ≤ node_limit
  total =
      let e = constraint-length Q vc cm (get_or ids 0 0) (drop 1 ids) es in
      omega (arith, a.room, rw count at e)

  pub first-room : n < node_limit
  first-room = omega (arith, total)

  pub first_small : get_or ids 0 0 < 65536
  first_small = omega (arith, a.few, a.identities 0 a.some)

  -- all but the first, as a part of the slice
  rest-is : take (length ids - 1) (drop 1 ids) ≡ drop 1 ids
  rest-is = take_all (length ids - 1) (drop 1 ids) (omega (arith, others))

  module _ {w₁ l₁ : List ℕ} {j : ℕ} (p : Appends w l n (leaf_node kind.exp (get_or ids 0 0) ∷ []) w₁ l₁ j) where
    pub identities-ask : IdentitiesAsk (take (length ids - 1) (drop 1 ids)) j
    identities-ask =
        subst (λ z. IdentitiesAsk z j) (sym rest-is)
        (record {
          some = omega (arith, p.next);
          small = λ k h. rw (get_or-drop 1 ids k 0) (omega (arith, a.few, a.identities (1 + k) (omega (arith, others))));
          room = omega (arith, p.next, total);
        })

    module _ {w₂ l₂ : List ℕ} {k : ℕ} (q : Appends w₁ l₁ j (identities_nodes vc j (take (length ids - 1) (drop 1 ids))) w₂ l₂ k) where
      identities : Appends w₁ l₁ j (identities_nodes vc (n + 1) (drop 1 ids)) w₂ l₂ k
      identities =
          subst (λ ns. Appends w₁ l₁ j ns w₂ l₂ k)
          (ap (identities_nodes vc j) rest-is ∙ ap (λ z. identities_nodes vc z (drop 1 ids)) p.next) q

      sums : k ≡ n + 1 + 4 * length (drop 1 ids)
      sums = omega (arith, p.next, identities.next, identities-length vc (n + 1) (drop 1 ids))

      fold : Appends w l n (leaf_node kind.exp (get_or ids 0 0) ∷ identities_nodes vc (n + 1) (drop 1 ids)) w₂ l₂ k
      fold = appends_next p identities

      kept-pool : tabled (Tabling w₂ l₂ x n m) ≡ Q
      kept-pool = pool-kept x n m fold (omega arith)

      pub members-ask : MembersAsk w₂ l₂ x n m es k vc cm
      members-ask =
          record {
            shaped = subst Shaped (sym kept-pool) a.shaped;
            few = omega (arith, a.few);
            there = a.members;
            after = omega (arith, sums);
            some = omega (arith, sums);
            columns = a.columns;
            room = rw (kept-pool, sums) total;
          }

      module _ {w₃ l₃ : List ℕ} {o : ℕ} (b : Appends w₂ l₂ k (members_nodes (tabled (Tabling w₂ l₂ x n m)) vc k cm es) w₃ l₃ o) where
        members : Appends w₂ l₂ k (members_nodes Q vc (n + 1 + 4 * length (drop 1 ids)) cm es) w₃ l₃ o
        members =
            subst (λ ns. Appends w₂ l₂ k ns w₃ l₃ o)
            (ap (λ z. members_nodes z vc k cm es) kept-pool ∙ ap (λ z. members_nodes Q vc z cm es) sums) b

        pub end-number : (0 < o) × (o < 65536)
        end-number = (omega (arith, sums, members.next), omega (arith, sums, members.next, total))

        pub constraint-added : {x' : List ℕ} {y : Expression} {c : ℕ} → c ≡ o - 1 → y ≡ record { root = c; flags = 0 } → x' ≡ set x m (expression_word y) → Adds w l x ids es vc cm n m w₃ l₃ x' o
        unfolding constraint_nodes
        constraint-added {x'} {y} {c} d e f =
            record {
              nodes = rw count (appends_next p (appends_next identities members));
              expressions = f ∙ ap (λ z. set x m (expression_word z)) (e ∙ ap (λ z. record { root = z; flags = 0 }) d);
            }
