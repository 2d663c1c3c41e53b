-- Emission from a node to its operands and back, with no word of the code: each operand's steps are written after the last, then the node's own.
-- Assumes nothing.
use Prim.Native.Nat.{ℕ, ◌+◌, ◌*◌, ◌<◌, ◌≤◌}
use mathlib.Core.Path.{◌≡◌, refl, sym, ◌∙◌, ap}
use mathlib.Core.Bool.{Bool}
use mathlib.Core.List.{List, [], ◌++◌, append_assoc}
use native.Mathlib.Omega.{arith}
use native.Mathlib.Nat.{add_assoc}
use lib.ListN.{length, length-append}
use Rattle.meaning.specs.Emission.{settled, emit}
use Rattle.kinds.specs.Write.{write, write-none, write-next, write-length}
use Rattle.kinds.specs.Steps.{step_size, step_bytes}
use Rattle.kinds.specs.declared.step.Step as bytes
use Rattle.starkinfo_codegen.specs.Words.{node_of_words}
use Rattle.starkinfo_codegen.specs.Encoding.{encoded, encoded-length, encoded-none}
use Rattle.starkinfo_codegen.specs.Operations.{operation_at}
use Rattle.starkinfo_codegen.specs.Sources as sources
use Rattle.starkinfo_codegen.specs.Sources.{OwnAsked, own_in}
use Rattle.starkinfo_codegen.specs.Plans.{Plan, plan, part_steps, plan_step, plan_bytes, plan-bytes}
use Rattle.starkinfo_codegen.specs.Emitting.{Rest, tree_of, part_of, taken, There, Asks, Gives, Given}
use Rattle.starkinfo_codegen.specs.declared.operation.Operation.{Operation}
use Rattle.starkinfo_codegen.proofs.Planned.{Operand, Planned, part-under}
use Rattle.starkinfo_codegen.proofs.Bare.{bare-op}
use Rattle.starkinfo_codegen.proofs.Calls.{taken-past, steps-past, part_length, leaf-tree, leaf-taken, does, total, under-there, source_is}

module _ (w : List ℕ) (b : Rest) (f : Bool) (row at t i : ℕ) (l0 : List ℕ) (a : Asks w b f row at t i (length l0)) where
  abbrev T : ℕ → ℕ
  T = taken w b f

  -- the bytes of an operand from a temporary on
  abbrev E : ℕ → ℕ → List ℕ
  E c t = encoded (part_steps row (part_of w b f c) t)

  E-size : (c t : ℕ) → length (E c t) ≡ step_size * T c
  E-size c t = encoded-length (part_steps row (part_of w b f c) t) ∙ ap (λ n. step_size * n) (part_length w b f row t (part_of w b f c))

  -- nothing is written where there is no step
  still : part_steps row (part_of w b f i) t ≡ [] → T i ≡ 0 → Gives w b f row at t i l0 l0 0
  still e z = record { list = sym (rw (e, encoded-none) (write-none l0 (step_size * at))); count = sym z }

  -- what is no node takes none
  pub past-gives : 4096 ≤ i → Gives w b f row at t i l0 l0 0
  past-gives h = still (steps-past w b f row i t h) (taken-past w b f i h)

  module _ (few : i < 4096) (o : Operation) (eo : o ≡ operation_at w f i) where
    -- nor does a leaf
    pub leaf-gives : o.op ≡ 0 → Gives w b f row at t i l0 l0 0
    leaf-gives z =
        still
        (ap (λ p. part_steps row p t) (part-under w b f i few) ∙ ap (λ e. (settled (emit e row t)).steps) (leaf-tree w b f a.pool i few a.there o eo z))
        (leaf-taken w b f a.pool i few a.there o eo z)

    module _ (n : o.op ≡ 0 → ⊥) where
      abbrev K : Planned w b f i o
      K = does w b f a.pool i few a.there o eo n

      all : T i ≡ T o.a + T o.b + T o.c + 1
      all = total w b f a.pool i few a.there o eo n

      child-there : (c : ℕ) → Operand i c → There w b f c
      child-there = under-there w b f a.pool i few a.there o eo n

      -- the operand c, after so many steps
      child-asks : (x c : ℕ) (l : List ℕ) → Operand i c → length l ≡ length l0 → x + T c < T i → Asks w b f row (at + x) (t + x) c (length l)
      child-asks x c l k e h =
          record {
            pool = a.pool;
            rows = a.rows;
            there = child-there c k;
            fits = omega (arith, a.fits, e, h);
            temporaries = omega (arith, a.temporaries, h);
          }

      pub first-asks : Asks w b f row at t o.a (length l0)
      first-asks =
          record {
            pool = a.pool;
            rows = a.rows;
            there = child-there o.a K.first;
            fits = omega (arith, a.fits, all);
            temporaries = omega (arith, a.temporaries, all);
          }

      -- each call keeps the list's length
      kept : {l l' : List ℕ} {at' t' c r : ℕ} → Gives w b f row at' t' c l l' r → length l' ≡ length l
      kept {l} g = ap length g.list ∙ write-length l _ _

      module _ {l1 : List ℕ} {x : ℕ} (G1 : Given w f row at t o.a l0 l1 x) where
        g1 : Gives w b f row at t o.a l0 l1 x
        g1 = G1 b first-asks

        pub second-asks : Asks w b f row (at + x) (t + x) o.b (length l1)
        second-asks = child-asks x o.b l1 K.second (kept g1) (omega (arith, all, g1.count))

        module _ {l2 : List ℕ} {y : ℕ} (G2 : Given w f row (at + x) (t + x) o.b l1 l2 y) where
          g2 : Gives w b f row (at + x) (t + x) o.b l1 l2 y
          g2 = G2 b second-asks

          pub third-asks : Asks w b f row (at + x + y) (t + x + y) o.c (length l2)
          third-asks =
              rw (add_assoc, add_assoc)
              (child-asks (x + y) o.c l2 K.third (kept g2 ∙ kept g1) (omega (arith, all, g1.count, g2.count)))

          module _ {l3 : List ℕ} {z : ℕ} (G3 : Given w f row (at + x + y) (t + x + y) o.c l2 l3 z) where
            g3 : Gives w b f row (at + x + y) (t + x + y) o.c l2 l3 z
            g3 = G3 b third-asks

            -- the sums of the code
            pub ends : (step_size * (at + x + y + z + 1) ≤ length l0) × (t + x + y + z + 1 ≤ 65536)
            ends = let e1 = g1.count in let e2 = g2.count in let e3 = g3.count in (omega (arith, a.fits, all), omega (arith, a.temporaries, all))

            pub put-room : step_size * (at + (x + y + z)) + step_size ≤ length l3
            put-room = omega (arith, ends.0, kept g3, kept g2, kept g1)

            operand : (c : ℕ) → Operand i c → sources.Operand w row c
            operand c k = record { row_fits = λ h. a.rows c (child-there c k h); known = k.known }

            pub own-asks : OwnAsked w row o t x y z
            own-asks =
                record {
                  first = operand o.a K.first;
                  second = operand o.b K.second;
                  third = operand o.c K.third;
                  fits = omega (arith, ends.1);
                }

            abbrev q : Plan
            q = plan K.op (part_of w b f o.a) (part_of w b f o.b) (part_of w b f o.c)

            -- the step that the code makes is the plan's
            own_is : own_in w row i o t (T o.a) (T o.b) (T o.c) ≡ plan_step row i q t
            unfolding own_in
            own_is =
                let sa = source_is w b f a.pool row i t o.a (child-there o.a K.first) K.first.known in
                let sb = source_is w b f a.pool row i (t + T o.a) o.b (child-there o.b K.second) K.second.known in
                let sc = source_is w b f a.pool row i (t + T o.a + T o.b) o.c (child-there o.c K.third) K.third.known in
                rw (sa, sb, sc, K.byte)

            abbrev parts : ℕ → ℕ → bytes.Step → List ℕ
            parts x y s = E o.a t ++ (E o.b (t + x) ++ (E o.c (t + x + y) ++ step_bytes s))

            -- THE BYTES OF A NODE, as they are written
            node-bytes : E i t ≡ parts x y (own_in w row i o t x y z)
            node-bytes =
                ap (λ p. encoded (part_steps row p t)) (part-under w b f i few)
                ∙ plan-bytes row (tree_of w b f i) t K.plans
                ∙ ap (λ n. plan_bytes row n q t) K.node
                ∙ sym (ap (parts (T o.a) (T o.b)) own_is)
                ∙ sym
                (ap (λ v. parts v y (own_in w row i o t v y z)) g1.count
                ∙ ap (λ v. parts (T o.a) v (own_in w row i o t (T o.a) v z)) g2.count
                ∙ ap (λ v. parts (T o.a) (T o.b) (own_in w row i o t (T o.a) (T o.b) v)) g3.count)

            pub does-gives :
                {l4 : List ℕ} {s : bytes.Step} → s ≡ own_in w row i o t x y z → l4 ≡ write l3 (step_size * (at + (x + y + z))) (step_bytes s) →
                Gives w b f row at t i l0 l4 (x + y + z + 1)
            does-gives {s = s} es e4 =
                let A = E o.a t in
                let B = E o.b (t + x) in
                let C = E o.c (t + x + y) in
                let p = step_size * at in
                let s1 = E-size o.a t in
                let s2 = E-size o.b (t + x) in
                let s3 = E-size o.c (t + x + y) in
                let e1 = g1.count in
                let e2 = g2.count in
                let e3 = g3.count in
                let w2 = write-next l0 p A B (step_size * (at + x)) g1.list g2.list (omega (arith, s1, e1)) in
                let w3 = write-next l0 p (A ++ B) C (step_size * (at + x + y)) w2 g3.list (omega (arith, s1, s2, e1, e2, length-append A B)) in
                let w4 = write-next l0 p ((A ++ B) ++ C) (step_bytes s) (step_size * (at + (x + y + z))) w3 e4 (omega (arith, s1, s2, s3, e1, e2, e3, length-append A B, length-append (A ++ B) C)) in
                let e5 : ((A ++ B) ++ C) ++ step_bytes s ≡ parts x y (own_in w row i o t x y z) = ap (λ v. ((A ++ B) ++ C) ++ step_bytes v) es ∙ (simp append_assoc) in
                record { list = w4 ∙ ap (write l0 p) (e5 ∙ sym node-bytes); count = omega (arith, all, e1, e2, e3) }

  -- a node without children is a leaf
  pub bare-gives : i < 4096 → (node_of_words w i).count ≡ 0 → Gives w b f row at t i l0 l0 0
  bare-gives few z = leaf-gives few (operation_at w f i) refl (bare-op w b f a.pool i (a.there few) z)
