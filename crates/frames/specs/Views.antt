-- The computed test of a frame and the conditions of row 1 say the same.
-- Assumes nothing.
use Rattle.std.specs.Prelude.{◌≡◌, refl, Bool, cond, not, ◌&&◌, ◌||◌, List, ◌⊎◌, ℕ, ◌-◌, ◌^◌, ◌≤◌, ◌<◌, length}
use Rattle.std.proofs.Math.Bool.{true, false}
use Rattle.std.proofs.Common.{inl, inr}
use Rattle.std.proofs.Math.Option.{none}
use native.Mathlib.Omega.{arith}
use Rattle.std.proofs.Math.Dec.{eqb, leb}
use borrow.Author.Tests.{eqb-true, eqb-false, leb-true, leb-false, eq-eqb, ne_eqb, lt-leb}
use Rattle.kinds.specs.Kinds.{is_node_kind, carries_id, takes_i64}
use Rattle.kinds.specs.Literals.{is_minus_zero, fits_i64, is_allowed}
use Rattle.meaning.specs.Refusals.{Answer, done, refused, malformed}
use Rattle.frames.specs.Nodes.{type_byte, kind_byte, next_byte, id_field, count_byte, sign_field, magnitude_field, node_size, head_ok, literal_from, literal_ok, node_ok, node_from, node_of}
use Rattle.frames.specs.Rest.{flags_byte, prime_byte, muladd_byte, expression_ok, expression_from, expression_of, request_ok, request_from, request_of}
use Rattle.frames.specs.Frames.{Item, node, expression, request, frame_of, from_node, from_expression, from_request}
use Rattle.frames.specs.Faults.{Malformed, empty, unknown_type, no_head, unknown_kind, wrong_next, unused_id, wrong_length, wrong_sign, minus_zero, too_large, too_small, expression_length, wrong_flags, request_length, wrong_prime, wrong_muladd}

-- ---- tests

-- the first of two tests that fails
and-false : (a b : Bool) → (a && b) ≡ false → (a ≡ false) ⊎ ((a ≡ true) × (b ≡ false))
and-false true b e = inr (refl, e)
and-false false b e = inl refl

or-false : (a b : Bool) → (a || b) ≡ false → (a ≡ false) × (b ≡ false)
or-false true b e = let z : ◌≡◌ {A = ℕ} 0 1 = cc in absurd (omega arith)
or-false false b e = (refl, e)

not_is : (a : Bool) → not a ≡ false → a ≡ true
not_is true e = refl
not_is false e = let z : ◌≡◌ {A = ℕ} 0 1 = cc in absurd (omega arith)

and-true : (a b : Bool) → (a && b) ≡ true → (a ≡ true) × (b ≡ true)
and-true true b e = (refl, e)
and-true false b e = let z : ◌≡◌ {A = ℕ} 0 1 = cc in absurd (omega arith)

left : (a b : Bool) → a ≡ false → (a && b) ≡ false
left a b e = simp e

right : (a b : Bool) → b ≡ false → (a && b) ≡ false
right true b e = e
right false b e = refl

-- ---- a node frame that fails the test, and why

module _ (f : List ℕ) (t : type_byte f ≡ 1) where
  why_literal : literal_ok (kind_byte f) (sign_field f) (magnitude_field f) ≡ false → Malformed f
  unfolding literal_ok is_allowed is_minus_zero fits_i64
  why_literal e = sign (and-false _ _ e)
    where
      range : (b : Bool) → eqb (sign_field f) 1 ≡ b → sign_field f ≤ 1 → takes_i64 (kind_byte f) ≡ true → leb (magnitude_field f) (cond b (2 ^ 63) (2 ^ 63 - 1)) ≡ false → Malformed f
      range true q h k e = too_small t k (eqb-true _ _ q) (leb-false _ _ e)
      range false q h k e =
          let n : (sign_field f ≡ 1 → ⊥) = eqb-false _ _ q in
          let z : sign_field f ≡ 0 = omega arith in
          let m : 2 ^ 63 - 1 < magnitude_field f = leb-false _ _ e in
          too_large t k z (omega arith)

      allowed :
          (sign_field f ≤ 1)
          → (not (eqb (sign_field f) 1 && eqb (magnitude_field f) 0) ≡ false)
          ⊎ ((not (eqb (sign_field f) 1 && eqb (magnitude_field f) 0) ≡ true) × ((not (takes_i64 (kind_byte f)) || leb (magnitude_field f) (cond (eqb (sign_field f) 1) (2 ^ 63) (2 ^ 63 - 1))) ≡ false))
          → Malformed f
      allowed h (inl e) =
          let p : (eqb (sign_field f) 1 ≡ true) × (eqb (magnitude_field f) 0 ≡ true) = and-true _ _ (not_is _ e) in
          minus_zero t (eqb-true _ _ p.0) (eqb-true _ _ p.1)
      allowed h (inr e) =
          let p : (not (takes_i64 (kind_byte f)) ≡ false) × (leb (magnitude_field f) (cond (eqb (sign_field f) 1) (2 ^ 63) (2 ^ 63 - 1)) ≡ false) = or-false _ _ e.1 in
          range (eqb (sign_field f) 1) refl h (not_is _ p.0) p.1

      sign : (leb (sign_field f) 1 ≡ false) ⊎ ((leb (sign_field f) 1 ≡ true) × (is_allowed (literal_from (sign_field f) (magnitude_field f)) (kind_byte f) ≡ false)) → Malformed f
      sign (inl e) = wrong_sign t (leb-false _ _ e)
      sign (inr e) = allowed (leb-true _ _ e.0) (and-false _ _ e.1)

  why_head : head_ok (kind_byte f) (next_byte f) (id_field f) ≡ false → Malformed f
  unfolding head_ok
  why_head e = kind (and-false _ _ e)
    where
      next : (leb (next_byte f) 1 ≡ false) ⊎ ((leb (next_byte f) 1 ≡ true) × ((carries_id (kind_byte f) || eqb (id_field f) 0) ≡ false)) → Malformed f
      next (inl e) = wrong_next t (leb-false _ _ e)
      next (inr e) =
          let p : (carries_id (kind_byte f) ≡ false) × (eqb (id_field f) 0 ≡ false) = or-false _ _ e.1 in
          unused_id t p.0 (eqb-false _ _ p.1)

      kind :
          (is_node_kind (kind_byte f) ≡ false) ⊎ ((is_node_kind (kind_byte f) ≡ true) × ((leb (next_byte f) 1 && (carries_id (kind_byte f) || eqb (id_field f) 0)) ≡ false))
          → Malformed f
      kind (inl e) = unknown_kind t e
      kind (inr e) = next (and-false _ _ e.1)

  why_node : node_ok f ≡ false → Malformed f
  unfolding node_ok
  why_node e = short (and-false _ _ e)
    where
      size :
          (eqb (length f) (node_size (kind_byte f) (count_byte f)) ≡ false)
          ⊎ ((eqb (length f) (node_size (kind_byte f) (count_byte f)) ≡ true) × (literal_ok (kind_byte f) (sign_field f) (magnitude_field f) ≡ false))
          → Malformed f
      size (inl e) = wrong_length t (eqb-false _ _ e)
      size (inr e) = why_literal e.1

      head :
          (head_ok (kind_byte f) (next_byte f) (id_field f) ≡ false)
          ⊎ ((head_ok (kind_byte f) (next_byte f) (id_field f) ≡ true) × ((eqb (length f) (node_size (kind_byte f) (count_byte f)) && literal_ok (kind_byte f) (sign_field f) (magnitude_field f)) ≡ false))
          → Malformed f
      head (inl e) = why_head e
      head (inr e) = size (and-false _ _ e.1)

      short :
          (leb 6 (length f) ≡ false)
          ⊎ ((leb 6 (length f) ≡ true) × ((head_ok (kind_byte f) (next_byte f) (id_field f) && (eqb (length f) (node_size (kind_byte f) (count_byte f)) && literal_ok (kind_byte f) (sign_field f) (magnitude_field f))) ≡ false))
          → Malformed f
      short (inl e) = no_head t (leb-false _ _ e)
      short (inr e) = head (and-false _ _ e.1)

why_expression : (f : List ℕ) → type_byte f ≡ 2 → expression_ok f ≡ false → Malformed f
unfolding expression_ok
why_expression f t e = by (and-false _ _ e)
  where
    by : (eqb (length f) 4 ≡ false) ⊎ ((eqb (length f) 4 ≡ true) × (leb (flags_byte f) 7 ≡ false)) → Malformed f
    by (inl e) = expression_length t (eqb-false _ _ e)
    by (inr e) = wrong_flags t (leb-false _ _ e.1)

why_request : (f : List ℕ) → type_byte f ≡ 3 → request_ok f ≡ false → Malformed f
unfolding request_ok
why_request f t e = by (and-false _ _ e)
  where
    bits : (leb (prime_byte f) 1 ≡ false) ⊎ ((leb (prime_byte f) 1 ≡ true) × (leb (muladd_byte f) 1 ≡ false)) → Malformed f
    bits (inl e) = wrong_prime t (leb-false _ _ e)
    bits (inr e) = wrong_muladd t (leb-false _ _ e.1)

    by : (eqb (length f) 5 ≡ false) ⊎ ((eqb (length f) 5 ≡ true) × ((leb (prime_byte f) 1 && leb (muladd_byte f) 1) ≡ false)) → Malformed f
    by (inl e) = request_length t (eqb-false _ _ e)
    by (inr e) = bits (and-false _ _ e.1)

-- ---- a frame, by what it brings

pub data View (f : List ℕ) (a : Answer Item) : Type 0 where
  bad : Malformed f → a ≡ refused malformed none → View f a
  is_node : type_byte f ≡ 1 → node_ok f ≡ true → a ≡ done (node (node_from f)) → View f a
  is_expression : type_byte f ≡ 2 → expression_ok f ≡ true → a ≡ done (expression (expression_from f)) → View f a
  is_request : type_byte f ≡ 3 → request_ok f ≡ true → a ≡ done (request (request_from f)) → View f a

pub view : (f : List ℕ) → View f (frame_of f)
unfolding frame_of node_of expression_of request_of
view f =
    by (eqb (length f) 0) (eqb-true _ _) (eqb (type_byte f) 1) (eqb-true _ _) (eqb-false _ _) (eqb (type_byte f) 2) (eqb-true _ _) (eqb-false _ _) (eqb (type_byte f) 3) (eqb-true _ _) (eqb-false _ _)
    (node_ok f) refl (expression_ok f) refl (request_ok f) refl
  where
    by :
        (e : Bool) → (e ≡ true → length f ≡ 0)
        → (t₁ : Bool) → (t₁ ≡ true → type_byte f ≡ 1) → (t₁ ≡ false → type_byte f ≡ 1 → ⊥)
        → (t₂ : Bool) → (t₂ ≡ true → type_byte f ≡ 2) → (t₂ ≡ false → type_byte f ≡ 2 → ⊥)
        → (t₃ : Bool) → (t₃ ≡ true → type_byte f ≡ 3) → (t₃ ≡ false → type_byte f ≡ 3 → ⊥)
        → (n : Bool) → node_ok f ≡ n → (x : Bool) → expression_ok f ≡ x → (r : Bool) → request_ok f ≡ r
        → View f
        (cond e (refused malformed none)
        (cond t₁ (from_node (cond n (done (node_from f)) (refused malformed none)))
        (cond t₂ (from_expression (cond x (done (expression_from f)) (refused malformed none)))
        (cond t₃ (from_request (cond r (done (request_from f)) (refused malformed none)))
        (refused malformed none)))))
    by true h t₁ h₁ g₁ t₂ h₂ g₂ t₃ h₃ g₃ n p x q r s = bad (empty (h refl)) refl
    by false h true h₁ g₁ t₂ h₂ g₂ t₃ h₃ g₃ true p x q r s = is_node (h₁ refl) p refl
    by false h true h₁ g₁ t₂ h₂ g₂ t₃ h₃ g₃ false p x q r s = bad (why_node f (h₁ refl) p) refl
    by false h false h₁ g₁ true h₂ g₂ t₃ h₃ g₃ n p true q r s = is_expression (h₂ refl) q refl
    by false h false h₁ g₁ true h₂ g₂ t₃ h₃ g₃ n p false q r s = bad (why_expression f (h₂ refl) q) refl
    by false h false h₁ g₁ false h₂ g₂ true h₃ g₃ n p x q true s = is_request (h₃ refl) s refl
    by false h false h₁ g₁ false h₂ g₂ true h₃ g₃ n p x q false s = bad (why_request f (h₃ refl) s) refl
    by false h false h₁ g₁ false h₂ g₂ false h₃ g₃ n p x q r s = bad (unknown_type (g₁ refl) (g₂ refl) (g₃ refl)) refl

-- ---- a malformed frame fails the test

fails-node : (f : List ℕ) → type_byte f ≡ 1 → node_ok f ≡ false → frame_of f ≡ refused malformed none
unfolding frame_of node_of
fails-node f t e = by (eqb (length f) 0)
  where
    by : (b : Bool) → cond b (refused malformed none) (cond (eqb (type_byte f) 1) (from_node (cond (node_ok f) (done (node_from f)) (refused malformed none))) (cond (eqb (type_byte f) 2) (from_expression (expression_of f)) (cond (eqb (type_byte f) 3) (from_request (request_of f)) (refused malformed none)))) ≡ refused malformed none
    by true = refl
    by false = simp (t, e)

fails-expression : (f : List ℕ) → type_byte f ≡ 2 → expression_ok f ≡ false → frame_of f ≡ refused malformed none
unfolding frame_of expression_of
fails-expression f t e = by (eqb (length f) 0)
  where
    by : (b : Bool) → cond b (refused malformed none) (cond (eqb (type_byte f) 1) (from_node (node_of f)) (cond (eqb (type_byte f) 2) (from_expression (cond (expression_ok f) (done (expression_from f)) (refused malformed none))) (cond (eqb (type_byte f) 3) (from_request (request_of f)) (refused malformed none)))) ≡ refused malformed none
    by true = refl
    by false = simp (t, e)

fails-request : (f : List ℕ) → type_byte f ≡ 3 → request_ok f ≡ false → frame_of f ≡ refused malformed none
unfolding frame_of request_of
fails-request f t e = by (eqb (length f) 0)
  where
    by : (b : Bool) → cond b (refused malformed none) (cond (eqb (type_byte f) 1) (from_node (node_of f)) (cond (eqb (type_byte f) 2) (from_expression (expression_of f)) (cond (eqb (type_byte f) 3) (from_request (cond (request_ok f) (done (request_from f)) (refused malformed none))) (refused malformed none)))) ≡ refused malformed none
    by true = refl
    by false = simp (t, e)

fails_type : (f : List ℕ) → (type_byte f ≡ 1 → ⊥) → (type_byte f ≡ 2 → ⊥) → (type_byte f ≡ 3 → ⊥) → frame_of f ≡ refused malformed none
unfolding frame_of
fails_type f a b d = by (eqb (length f) 0)
  where
    by : (e : Bool) → cond e (refused malformed none) (cond (eqb (type_byte f) 1) (from_node (node_of f)) (cond (eqb (type_byte f) 2) (from_expression (expression_of f)) (cond (eqb (type_byte f) 3) (from_request (request_of f)) (refused malformed none)))) ≡ refused malformed none
    by true = refl
    by false = simp (ne_eqb _ _ a, ne_eqb _ _ b, ne_eqb _ _ d)

fails-empty : (f : List ℕ) → length f ≡ 0 → frame_of f ≡ refused malformed none
unfolding frame_of
fails-empty f h = simp (eq-eqb _ _ h)

module _ (f : List ℕ) (t : type_byte f ≡ 1) where
  -- the first, second, third and last test of a node frame
  fails-first : leb 6 (length f) ≡ false → frame_of f ≡ refused malformed none
  unfolding node_ok
  fails-first e = fails-node f t (left _ _ e)

  fails-head : head_ok (kind_byte f) (next_byte f) (id_field f) ≡ false → frame_of f ≡ refused malformed none
  unfolding node_ok
  fails-head e = fails-node f t (right (leb 6 (length f)) _ (left _ _ e))

  fails-size : eqb (length f) (node_size (kind_byte f) (count_byte f)) ≡ false → frame_of f ≡ refused malformed none
  unfolding node_ok
  fails-size e = fails-node f t (right (leb 6 (length f)) _ (right (head_ok (kind_byte f) (next_byte f) (id_field f)) _ (left _ _ e)))

  fails-literal : literal_ok (kind_byte f) (sign_field f) (magnitude_field f) ≡ false → frame_of f ≡ refused malformed none
  unfolding node_ok
  fails-literal e =
      fails-node f t
      (right (leb 6 (length f)) _
      (right (head_ok (kind_byte f) (next_byte f) (id_field f)) _ (right (eqb (length f) (node_size (kind_byte f) (count_byte f))) _ e)))

  fails-kind : is_node_kind (kind_byte f) ≡ false → frame_of f ≡ refused malformed none
  unfolding head_ok
  fails-kind e = fails-head (left _ _ e)

  fails-next : 1 < next_byte f → frame_of f ≡ refused malformed none
  unfolding head_ok
  fails-next h = fails-head (right (is_node_kind (kind_byte f)) _ (left _ _ (lt-leb _ _ h)))

  fails-id : carries_id (kind_byte f) ≡ false → (id_field f ≡ 0 → ⊥) → frame_of f ≡ refused malformed none
  unfolding head_ok
  fails-id e h = fails-head (right (is_node_kind (kind_byte f)) _ (right (leb (next_byte f) 1) _ (simp (e, ne_eqb _ _ h))))

  fails-sign : 1 < sign_field f → frame_of f ≡ refused malformed none
  unfolding literal_ok
  fails-sign h = fails-literal (left _ _ (lt-leb _ _ h))

  fails-zero : sign_field f ≡ 1 → magnitude_field f ≡ 0 → frame_of f ≡ refused malformed none
  unfolding literal_ok is_allowed is_minus_zero
  fails-zero s m =
      fails-literal (right (leb (sign_field f) 1) _ (left (not (eqb (sign_field f) 1 && eqb (magnitude_field f) 0)) _ (simp (s, m))))

  fails-range :
      (b : Bool) → eqb (sign_field f) 1 ≡ b → takes_i64 (kind_byte f) ≡ true → cond b (2 ^ 63) (2 ^ 63 - 1) < magnitude_field f
      → frame_of f ≡ refused malformed none
  unfolding literal_ok is_allowed fits_i64
  fails-range b q k h =
      fails-literal
      (right (leb (sign_field f) 1) _ (right (not (is_minus_zero (literal_from (sign_field f) (magnitude_field f)))) _ (simp (k, q, lt-leb _ _ h))))

fails-length : (f : List ℕ) → (length f ≡ 4 → ⊥) → expression_ok f ≡ false
unfolding expression_ok
fails-length f h = left _ _ (ne_eqb _ _ h)

fails-flags : (f : List ℕ) → 7 < flags_byte f → expression_ok f ≡ false
unfolding expression_ok
fails-flags f h = right (eqb (length f) 4) _ (lt-leb _ _ h)

fails-ask : (f : List ℕ) → (length f ≡ 5 → ⊥) → request_ok f ≡ false
unfolding request_ok
fails-ask f h = left _ _ (ne_eqb _ _ h)

fails-prime : (f : List ℕ) → 1 < prime_byte f → request_ok f ≡ false
unfolding request_ok
fails-prime f h = right (eqb (length f) 5) _ (left _ _ (lt-leb _ _ h))

fails-muladd : (f : List ℕ) → 1 < muladd_byte f → request_ok f ≡ false
unfolding request_ok
fails-muladd f h = right (eqb (length f) 5) _ (right (leb (prime_byte f) 1) _ (lt-leb _ _ h))

-- THE SAME: a frame is malformed by one of the conditions exactly when the computed test refuses it
pub malformed-refused : (f : List ℕ) → Malformed f → frame_of f ≡ refused malformed none
malformed-refused f (empty h) = fails-empty f h
malformed-refused f (unknown_type a b d) = fails_type f a b d
malformed-refused f (no_head t h) = fails-first f t (lt-leb _ _ h)
malformed-refused f (unknown_kind t e) = fails-kind f t e
malformed-refused f (wrong_next t h) = fails-next f t h
malformed-refused f (unused_id t e h) = fails-id f t e h
malformed-refused f (wrong_length t h) = fails-size f t (ne_eqb _ _ h)
malformed-refused f (wrong_sign t h) = fails-sign f t h
malformed-refused f (minus_zero t s m) = fails-zero f t s m
malformed-refused f (too_large t k s h) = fails-range f t false (rw s refl) k (omega arith)
malformed-refused f (too_small t k s h) = fails-range f t true (eq-eqb _ _ s) k h
malformed-refused f (expression_length t h) = fails-expression f t (fails-length f h)
malformed-refused f (wrong_flags t h) = fails-expression f t (fails-flags f h)
malformed-refused f (request_length t h) = fails-request f t (fails-ask f h)
malformed-refused f (wrong_prime t h) = fails-request f t (fails-prime f h)
malformed-refused f (wrong_muladd t h) = fails-request f t (fails-muladd f h)

pub refused-malformed : (f : List ℕ) → frame_of f ≡ refused malformed none → Malformed f
refused-malformed f e = by (view f)
  where
    by : View f (frame_of f) → Malformed f
    by (bad m g) = m
    by (is_node t k g) = let z : ◌≡◌ {A = ℕ} 0 1 = cc in absurd (omega arith)
    by (is_expression t k g) = let z : ◌≡◌ {A = ℕ} 0 1 = cc in absurd (omega arith)
    by (is_request t k g) = let z : ◌≡◌ {A = ℕ} 0 1 = cc in absurd (omega arith)
