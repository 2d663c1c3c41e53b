-- What reading comes to, frame by frame: the step after frames that were read, by the conditions of rows 1 and 9.
-- Assumes nothing.
use Rattle.std.proofs.Math.Path.{◌≡◌}
use Rattle.std.specs.Prelude.{refl, Bool, true, false, cond, ◌&&◌, ℕ, ◌≤◌, ◌<◌, eqb, ltb}
use Rattle.std.proofs.Common.{ap, sym, ◌∙◌, inl, inr, eqb-true, ltb-true, ltb-false, eq-eqb, ne_eqb}
use mathlib.Core.List.{List, [], ◌∷◌, ◌++◌, map-append, append_assoc, append-nil}
use Rattle.std.proofs.Math.Option.{Option, none}
use native.Mathlib.Omega.{arith}
use Rattle.std.proofs.Math.ListN.{length}
use Rattle.std.proofs.lemmas.List.{length-map}
use Rattle.std.proofs.lemmas.Bool.{eqb-false}
use Rattle.meaning.specs.Refusals.{Answer, done, refused, malformed, full, ◌then◌}
use Rattle.frames.specs.Nodes.{type_byte, node_from}
use Rattle.frames.specs.Rest.{expression_from, request_from}
use Rattle.frames.specs.Frames.{Item, node, expression, request, frame_of}
use Rattle.frames.specs.Order.{node_limit, expression_limit, request_limit, place_node, place_expression, place_request, place, at_fault, blaming, Input, counts_of, add, step}
use Rattle.frames.specs.Taking.{more}
use Rattle.frames.specs.Reading.{read_from}
use Rattle.frames.specs.Faults.{of_type, OutOfOrder, node_after_expression, node_after_request, expression_after_request, PastLimit, nodes, expressions, requests, Wrong, Past, Fine, AllFine, input_from}
use Rattle.frames.specs.Views.{View, bad, is_node, is_expression, is_request, view, malformed-refused}
use Rattle.frames.specs.declared.count.Counts.{Counts}

-- ---- frames of a type

type_more : (k : ℕ) (fs : List (List ℕ)) (f : List ℕ) → type_byte f ≡ k → of_type k (fs ++ (f ∷ [])) ≡ of_type k fs ++ (f ∷ [])
unfolding of_type
type_more k [] f e = simp (eq-eqb _ _ e)
type_more k (g ∷ fs) f e = rw (type_more k fs f e) (by (eqb (type_byte g) k))
  where
    by : (b : Bool) → cond b (g ∷ (of_type k fs ++ (f ∷ []))) (of_type k fs ++ (f ∷ [])) ≡ cond b (g ∷ of_type k fs) (of_type k fs) ++ (f ∷ [])
    by true = refl
    by false = refl

type_same : (k : ℕ) (fs : List (List ℕ)) (f : List ℕ) → (type_byte f ≡ k → ⊥) → of_type k (fs ++ (f ∷ [])) ≡ of_type k fs
unfolding of_type
type_same k [] f e = simp (ne_eqb _ _ e)
type_same k (g ∷ fs) f e = rw (type_same k fs f e)

-- what frames bring, and one more
module _ (before : List (List ℕ)) (f : List ℕ) where
  input-node : type_byte f ≡ 1 → input_from (before ++ (f ∷ [])) ≡ add (input_from before) (node (node_from f))
  unfolding input_from
  input-node t =
      rw (type_more 1 before f t, type_same 2 before f (λ e. omega arith), type_same 3 before f (λ e. omega arith), map-append node_from (of_type 1 before) (f ∷ []))

  input-expression : type_byte f ≡ 2 → input_from (before ++ (f ∷ [])) ≡ add (input_from before) (expression (expression_from f))
  unfolding input_from
  input-expression t =
      rw (type_same 1 before f (λ e. omega arith), type_more 2 before f t, type_same 3 before f (λ e. omega arith), map-append expression_from (of_type 2 before) (f ∷ []))

  input-request : type_byte f ≡ 3 → input_from (before ++ (f ∷ [])) ≡ add (input_from before) (request (request_from f))
  unfolding input_from
  input-request t =
      rw (type_same 1 before f (λ e. omega arith), type_same 2 before f (λ e. omega arith), type_more 3 before f t, map-append request_from (of_type 3 before) (f ∷ []))

abbrev pub counts_from : List (List ℕ) → Counts
counts_from fs = record { nodes = length (of_type 1 fs); expressions = length (of_type 2 fs); requests = length (of_type 3 fs) }

counts-from : (fs : List (List ℕ)) → counts_of (input_from fs) ≡ counts_from fs
unfolding counts_of input_from
counts-from fs = simp length-map

nodes-from : (fs : List (List ℕ)) → length (input_from fs).nodes ≡ length (of_type 1 fs)
unfolding input_from
nodes-from fs = simp length-map

positive : {n : ℕ} → (n ≡ 0 → ⊥) → 0 < n
positive h = omega arith

-- ---- one frame

abbrev pub blamed : List (List ℕ) → List ℕ → Option ℕ
blamed before f = at_fault (length (of_type 1 before)) f

pub data Verdict (before : List (List ℕ)) (f : List ℕ) (a : Answer Input) : Type 0 where
  is_wrong : Wrong before f → a ≡ refused malformed (blamed before f) → Verdict before f a
  is_past : Past before f → a ≡ refused full (blamed before f) → Verdict before f a
  is_fine : Fine before f → a ≡ done (input_from (before ++ (f ∷ []))) → Verdict before f a

module _ (before : List (List ℕ)) (f : List ℕ) where
  -- a frame that brings something is not wrong, unless it is out of order
  well : (x : Item) → frame_of f ≡ done x → (OutOfOrder before f → ⊥) → Wrong before f → ⊥
  well x e o (inl m) = let g : frame_of f ≡ refused malformed none = malformed-refused f m in let z : ◌≡◌ {A = ℕ} 0 1 = cc in omega arith
  well x e o (inr w) = o w

  step_is : (x : Item) → frame_of f ≡ done x → step (input_from before) f ≡ blaming (blamed before f) (place (counts_from before) x then λ c. done (add (input_from before) x))
  unfolding step
  step_is x e = rw (e, counts-from before, nodes-from before)

  verdict_node : type_byte f ≡ 1 → frame_of f ≡ done (node (node_from f)) → Verdict before f (step (input_from before) f)
  unfolding place_node
  verdict_node t e =
      rw (step_is (node (node_from f)) e)
      (by (eqb (length (of_type 2 before)) 0) (eqb-true _ _) (eqb-false _ _) (eqb (length (of_type 3 before)) 0) (eqb-true _ _) (eqb-false _ _) (ltb (length (of_type 1 before)) node_limit) (ltb-true _ _) (ltb-false _ _))
    where
      in_order : length (of_type 2 before) ≡ 0 → length (of_type 3 before) ≡ 0 → OutOfOrder before f → ⊥
      in_order p q (node_after_expression a h) = omega arith
      in_order p q (node_after_request a h) = omega arith
      in_order p q (expression_after_request a h) = omega arith

      within : length (of_type 1 before) < node_limit → PastLimit before f → ⊥
      within h (nodes a g) = omega arith
      within h (expressions a g) = omega arith
      within h (requests a g) = omega arith

      by :
          (a : Bool) → (a ≡ true → length (of_type 2 before) ≡ 0) → (a ≡ false → length (of_type 2 before) ≡ 0 → ⊥)
          → (b : Bool) → (b ≡ true → length (of_type 3 before) ≡ 0) → (b ≡ false → length (of_type 3 before) ≡ 0 → ⊥)
          → (d : Bool) → (d ≡ true → length (of_type 1 before) < node_limit) → (d ≡ false → node_limit ≤ length (of_type 1 before))
          → Verdict before f
          (blaming (blamed before f)
          (cond (a && b) (cond d (done (more (counts_from before) (node (node_from f)))) (refused full none)) (refused malformed none)
          then λ c. done (add (input_from before) (node (node_from f)))))
      by true p q true r s true u v = is_fine (well _ e (in_order (p refl) (r refl)), within (u refl)) (ap done (sym (input-node before f t)))
      by true p q true r s false u v = is_past (well _ e (in_order (p refl) (r refl)), nodes t (v refl)) refl
      by true p q false r s d u v = is_wrong (inr (node_after_request t (positive (s refl)))) refl
      by false p q b r s d u v = is_wrong (inr (node_after_expression t (positive (q refl)))) refl

  verdict_expression : type_byte f ≡ 2 → frame_of f ≡ done (expression (expression_from f)) → Verdict before f (step (input_from before) f)
  unfolding place_expression
  verdict_expression t e =
      rw (step_is (expression (expression_from f)) e)
      (by (eqb (length (of_type 3 before)) 0) (eqb-true _ _) (eqb-false _ _) (ltb (length (of_type 2 before)) expression_limit) (ltb-true _ _) (ltb-false _ _))
    where
      in_order : length (of_type 3 before) ≡ 0 → OutOfOrder before f → ⊥
      in_order q (node_after_expression a h) = omega arith
      in_order q (node_after_request a h) = omega arith
      in_order q (expression_after_request a h) = omega arith

      within : length (of_type 2 before) < expression_limit → PastLimit before f → ⊥
      within h (nodes a g) = omega arith
      within h (expressions a g) = omega arith
      within h (requests a g) = omega arith

      by :
          (b : Bool) → (b ≡ true → length (of_type 3 before) ≡ 0) → (b ≡ false → length (of_type 3 before) ≡ 0 → ⊥)
          → (d : Bool) → (d ≡ true → length (of_type 2 before) < expression_limit) → (d ≡ false → expression_limit ≤ length (of_type 2 before))
          → Verdict before f
          (blaming (blamed before f)
          (cond b (cond d (done (more (counts_from before) (expression (expression_from f)))) (refused full none)) (refused malformed none)
          then λ c. done (add (input_from before) (expression (expression_from f)))))
      by true r s true u v = is_fine (well _ e (in_order (r refl)), within (u refl)) (ap done (sym (input-expression before f t)))
      by true r s false u v = is_past (well _ e (in_order (r refl)), expressions t (v refl)) refl
      by false r s d u v = is_wrong (inr (expression_after_request t (positive (s refl)))) refl

  verdict_request : type_byte f ≡ 3 → frame_of f ≡ done (request (request_from f)) → Verdict before f (step (input_from before) f)
  unfolding place_request
  verdict_request t e = rw (step_is (request (request_from f)) e) (by (ltb (length (of_type 3 before)) request_limit) (ltb-true _ _) (ltb-false _ _))
    where
      in_order : OutOfOrder before f → ⊥
      in_order (node_after_expression a h) = omega arith
      in_order (node_after_request a h) = omega arith
      in_order (expression_after_request a h) = omega arith

      within : length (of_type 3 before) < request_limit → PastLimit before f → ⊥
      within h (nodes a g) = omega arith
      within h (expressions a g) = omega arith
      within h (requests a g) = omega arith

      by :
          (d : Bool) → (d ≡ true → length (of_type 3 before) < request_limit) → (d ≡ false → request_limit ≤ length (of_type 3 before))
          → Verdict before f
          (blaming (blamed before f)
          (cond d (done (more (counts_from before) (request (request_from f)))) (refused full none)
          then λ c. done (add (input_from before) (request (request_from f)))))
      by true u v = is_fine (well _ e in_order, within (u refl)) (ap done (sym (input-request before f t)))
      by false u v = is_past (well _ e in_order, requests t (v refl)) refl

  step_bad : frame_of f ≡ refused malformed none → step (input_from before) f ≡ refused malformed (blamed before f)
  unfolding step
  step_bad e = rw (e, nodes-from before)

  pub verdict : Verdict before f (step (input_from before) f)
  verdict = by (view f)
    where
      by : View f (frame_of f) → Verdict before f (step (input_from before) f)
      by (bad m e) = is_wrong (inl m) (step_bad e)
      by (is_node t k e) = verdict_node t e
      by (is_expression t k e) = verdict_expression t e
      by (is_request t k e) = verdict_request t e

-- ---- all frames

-- what is done after frames that are fine
module _ (before : List (List ℕ)) where
  first_fine : (f : List ℕ) (fs : List (List ℕ)) → AllFine before (f ∷ fs) → Fine before f
  unfolding AllFine
  first_fine f fs h = rw (append-nil before) at (h [] f fs refl)

  rest_fine : (f : List ℕ) (fs : List (List ℕ)) → AllFine before (f ∷ fs) → AllFine (before ++ (f ∷ [])) fs
  unfolding AllFine
  rest_fine f fs h m g r e = rw (append_assoc before (f ∷ []) m) (h (f ∷ m) g r (ap (λ (l : List (List ℕ)). f ∷ l) e))

  both_fine : (f : List ℕ) (fs : List (List ℕ)) → Fine before f → AllFine (before ++ (f ∷ [])) fs → AllFine before (f ∷ fs)
  unfolding AllFine
  both_fine f fs a h [] g r e =
      let p : f ≡ g = cc in
      rw (append-nil before, ← p) a
  both_fine f fs a h (x ∷ m) g r e =
      let p : x ≡ f = cc in
      let q : fs ≡ m ++ g ∷ r = cc in
      rw p (rw (append_assoc before (f ∷ []) m) at (h m g r q))

  none_fine : AllFine before []
  unfolding AllFine
  none_fine [] g r e = let z : ◌≡◌ {A = ℕ} 0 1 = cc in absurd (omega arith)
  none_fine (x ∷ m) g r e = let z : ◌≡◌ {A = ℕ} 0 1 = cc in absurd (omega arith)

  pub step_wrong : (f : List ℕ) → Wrong before f → step (input_from before) f ≡ refused malformed (blamed before f)
  step_wrong f w = by (verdict before f)
    where
      by : Verdict before f (step (input_from before) f) → step (input_from before) f ≡ refused malformed (blamed before f)
      by (is_wrong v e) = e
      by (is_past p e) = absurd (p.0 w)
      by (is_fine g e) = absurd (g.0 w)

  pub step_past : (f : List ℕ) → Past before f → step (input_from before) f ≡ refused full (blamed before f)
  step_past f w = by (verdict before f)
    where
      by : Verdict before f (step (input_from before) f) → step (input_from before) f ≡ refused full (blamed before f)
      by (is_wrong v e) = absurd (w.0 v)
      by (is_past p e) = e
      by (is_fine g e) = absurd (g.1 w.1)

  pub step_fine : (f : List ℕ) → Fine before f → step (input_from before) f ≡ done (input_from (before ++ (f ∷ [])))
  step_fine f w = by (verdict before f)
    where
      by : Verdict before f (step (input_from before) f) → step (input_from before) f ≡ done (input_from (before ++ (f ∷ [])))
      by (is_wrong v e) = absurd (w.0 v)
      by (is_past p e) = absurd (w.1 p.1)
      by (is_fine g e) = e

-- frames that are fine are read, and reading goes on after them
pub read-fine : (before m fs : List (List ℕ)) → AllFine before m → read_from (input_from before) (m ++ fs) ≡ read_from (input_from (before ++ m)) fs
unfolding read_from
read-fine before [] fs h = rw (append-nil before)
read-fine before (f ∷ m) fs h =
    rw (step_fine before f (first_fine before f m h))
    (read-fine (before ++ (f ∷ [])) m fs (rest_fine before f m h) ∙ rw (append_assoc before (f ∷ []) m))

-- reading stops at a frame that is wrong or past a limit, and nowhere else
pub data Ends (before fs : List (List ℕ)) (a : Answer Input) : Type 0 where
  at_wrong :
      (m : List (List ℕ)) (f : List ℕ) (r : List (List ℕ)) → fs ≡ m ++ f ∷ r → AllFine before m → Wrong (before ++ m) f
      → a ≡ refused malformed (blamed (before ++ m) f) → Ends before fs a
  at_past :
      (m : List (List ℕ)) (f : List ℕ) (r : List (List ℕ)) → fs ≡ m ++ f ∷ r → AllFine before m → Past (before ++ m) f
      → a ≡ refused full (blamed (before ++ m) f) → Ends before fs a
  nowhere : AllFine before fs → a ≡ done (input_from (before ++ fs)) → Ends before fs a

pub ends : (before fs : List (List ℕ)) → Ends before fs (read_from (input_from before) fs)
unfolding read_from
ends before [] = nowhere (none_fine before) (rw (append-nil before))
ends before (f ∷ fs) = by (verdict before f) (ends (before ++ (f ∷ [])) fs)
  where
    on :
        Fine before f → Ends (before ++ (f ∷ [])) fs (read_from (input_from (before ++ (f ∷ []))) fs)
        → Ends before (f ∷ fs) (read_from (input_from (before ++ (f ∷ []))) fs)
    on g (at_wrong m x r e h w q) = at_wrong (f ∷ m) x r (ap (λ (l : List (List ℕ)). f ∷ l) e) (both_fine before f m g h) (rw (append_assoc before (f ∷ []) m) at w) (rw (append_assoc before (f ∷ []) m) at q)
    on g (at_past m x r e h w q) = at_past (f ∷ m) x r (ap (λ (l : List (List ℕ)). f ∷ l) e) (both_fine before f m g h) (rw (append_assoc before (f ∷ []) m) at w) (rw (append_assoc before (f ∷ []) m) at q)
    on g (nowhere h q) = nowhere (both_fine before f fs g h) (rw (append_assoc before (f ∷ []) fs) at q)

    by :
        Verdict before f (step (input_from before) f) → Ends (before ++ (f ∷ [])) fs (read_from (input_from (before ++ (f ∷ []))) fs)
        → Ends before (f ∷ fs) (step (input_from before) f then λ j. read_from j fs)
    by (is_wrong w e) t = rw e (at_wrong [] f fs refl (none_fine before) (rw (append-nil before) w) (rw (append-nil before)))
    by (is_past w e) t = rw e (at_past [] f fs refl (none_fine before) (rw (append-nil before) w) (rw (append-nil before)))
    by (is_fine g e) t = rw e (on g t)
