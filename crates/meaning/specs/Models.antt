-- The algebras of demand 3: the integers, and the numbers modulo n.
-- Assumes nothing.
use Rattle.std.specs.Prelude.{ℕ, ◌+◌, ◌*◌, ◌-◌, ◌%◌, true, false, ℤ, pos, neg_ℤ, ◌+ℤ◌, ◌*ℤ◌, ◌-ℤ◌}
use Rattle.std.proofs.Common.{◌∙◌, ap, add_comm, zero-add}
use Rattle.std.proofs.Math.Nat.{zero-mod}
use Rattle.std.proofs.Math.IntN as Z
use Rattle.meaning.specs.Trees.{Lit, lit}
use Rattle.meaning.specs.Values.{Algebra}

abbrev pub litℤ : Lit → ℤ
litℤ (lit false m) = pos m
litℤ (lit true m) = neg_ℤ (pos m)

abbrev pub integers : Algebra
integers = record {
  A = ℤ;
  plus = ◌+ℤ◌;
  minus = ◌-ℤ◌;
  times = ◌*ℤ◌;
  negated = neg_ℤ;
  of_lit = litℤ;
  plus_comm = Z.+ℤ_comm;
  zero_minus = λ a. Z.+ℤ_idl (neg_ℤ a);
}

-- a negative literal is its residue
abbrev pub lit_mod : ℕ → Lit → ℕ
lit_mod n (lit false m) = m % n
lit_mod n (lit true m) = (n - m % n) % n

abbrev pub modulo : ℕ → Algebra
modulo n = record {
  A = ℕ;
  plus = λ a b. (a + b) % n;
  minus = λ a b. (a + (n - b % n)) % n;
  times = λ a b. (a * b) % n;
  negated = λ a. (n - a % n) % n;
  of_lit = lit_mod n;
  plus_comm = λ a b. ap (λ x. x % n) (add_comm a b);
  zero_minus = λ a. ap (λ x. (x + (n - a % n)) % n) (zero-mod n) ∙ ap (λ x. x % n) (zero-add (n - a % n));
}
