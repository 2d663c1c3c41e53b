-- Laws of numbers modulo m.
-- Assumes nothing.
use Rattle.std.specs.Prelude.{ℕ, ◌+◌, ◌*◌, ◌-◌, ◌%◌, ◌<◌, ◌≤◌, ◌≡◌, Bool, true, false}
use Rattle.std.proofs.Common.{mul-le-mul, mod-lt, mod-eq_of_lt, arith}
use Rattle.meaning.specs.Trees.{Lit, lit}
use Rattle.meaning.specs.Models.{lit_mod}
use Rattle.evaluator_cells.specs.Numbers.{Modulus, Residues}

pub product-fits : (a b m : ℕ) → Residues a b m → a * b < 0x10000000000000000
product-fits a b m r =
    let h : a * b ≤ 0xffffffff * 0xffffffff = mul-le-mul {n₁ = a} {m₁ = b} {n₂ = 0xffffffff} {m₂ = 0xffffffff} (omega (arith, r.small, r.first)) (omega (arith, r.small, r.second)) in
    omega arith

pub mod_below : (x m : ℕ) → Modulus m → x % m < m
mod_below x m h = mod-lt x (omega (arith, h.from))

pub lit-below : (m : ℕ) (l : Lit) → Modulus m → lit_mod m l < m
lit-below m (lit false x) h = mod_below x m h
lit-below m (lit true x) h = mod_below (m - x % m) m h

pub minus_is : (a b m r : ℕ) → b < m → r ≡ (a + (m - b)) % m → r ≡ (a + (m - b % m)) % m
minus_is a b m r h e = rw (mod-eq_of_lt {n = b} {m = m} h) e

pub lit-minus : (m x r : ℕ) (n : Bool) → n ≡ true → r ≡ (m - x % m) % m → r ≡ lit_mod m (lit n x)
lit-minus m x r n h e = rw h e

pub lit-plus : (m x r : ℕ) (n : Bool) → n ≡ false → r ≡ x % m → r ≡ lit_mod m (lit n x)
lit-plus m x r n h e = rw h e
