-- The kind bytes, named as in document 01, module 1: `kind.add` and so on, after `use .. as kind`.
-- Assumes nothing: these are definitions.
use Rattle.std.specs.Prelude.{ℕ}

-- ---- operations
abbrev pub add : ℕ
add = 0x01

abbrev pub sub : ℕ
sub = 0x02

abbrev pub mul : ℕ
mul = 0x03

abbrev pub muladd : ℕ
muladd = 0x04

abbrev pub addc : ℕ
addc = 0x05

abbrev pub mulc : ℕ
mulc = 0x06

abbrev pub neg : ℕ
neg = 0x07

-- ---- leaves
abbrev pub cm : ℕ
cm = 0x10

abbrev pub const : ℕ
const = 0x11

abbrev pub exp : ℕ
exp = 0x12

abbrev pub q : ℕ
q = 0x13

abbrev pub number : ℕ
number = 0x14

abbrev pub public : ℕ
public = 0x15

abbrev pub challenge : ℕ
challenge = 0x16

abbrev pub eval : ℕ
eval = 0x17

abbrev pub x_div_x_sub_xi : ℕ
x_div_x_sub_xi = 0x18

abbrev pub x_div_x_sub_w_xi : ℕ
x_div_x_sub_w_xi = 0x19

abbrev pub x : ℕ
x = 0x1a

-- ---- of references alone
abbrev pub tmp : ℕ
tmp = 0x20

abbrev pub f : ℕ
f = 0x21

abbrev pub tmp_exp : ℕ
tmp_exp = 0x22

abbrev pub Zi : ℕ
Zi = 0x23

abbrev pub tree1 : ℕ
tree1 = 0x24

abbrev pub tree2 : ℕ
tree2 = 0x25

abbrev pub tree3 : ℕ
tree3 = 0x26

abbrev pub tree4 : ℕ
tree4 = 0x27

abbrev pub Z : ℕ
Z = 0x28
