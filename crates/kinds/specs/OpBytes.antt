-- The step bytes, named as in document 01, module 1: `op.add` and so on, after `use .. as op`.
-- Assumes nothing: these are definitions.
use Rattle.std.specs.Prelude.{ℕ}

abbrev pub add : ℕ
add = 0x01

abbrev pub sub : ℕ
sub = 0x02

abbrev pub mul : ℕ
mul = 0x03

abbrev pub muladd : ℕ
muladd = 0x04

abbrev pub copy : ℕ
copy = 0x08
