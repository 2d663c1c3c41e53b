-- A context that is good for a pool is good for a pool with more expressions: that with the constraint.
-- Assumes nothing.
use Rattle.std.specs.Prelude.{ℕ, ◌≤◌, List}
use Rattle.std.proofs.Common.{arith}
use Rattle.context.specs.Context.{Good}

pub good-larger : (x : List ℕ) (m n room : ℕ) → m ≤ n → Good x m room → Good x n room
good-larger x m n room h g = record {
  head = g.head;
  marks = λ c l. record { marked01 = (g.marks c l).marked01; marked_there = λ z. (g.marks c l).marked_there (omega (arith, h, z)) };
  blocks = λ k l.
      let b = g.blocks k l in
      record { there = omega (arith, b.there, h); in_row = b.in_row; some_step = b.some_step; marked = b.marked };
  apart = g.apart;
  total = g.total;
}
