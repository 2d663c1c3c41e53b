-- The five functions of the degree rule meet their contracts: each need is one lemma of proofs/Visits.antt or proofs/Splits.antt. The measure is the levels that are
-- left, then the node, then which function it is. Assumes nothing.
use mathlib.Core.Path.{refl, sym, ap, ◌∙◌}
use Rattle.degree_rule.proofs.Readings.{no-degree, degree-is}
use mathlib.Core.Logic.{⊎_elim, inl, inr}
use native.Mathlib.Omega.{arith}
use Rattle.full_degrees.specs.Parts.{room}
use Rattle.degree_rule.specs.Readings.{reading_of, is_degree}
use Rattle.degree_rule.specs.Laws.{no-low, to-code, as_read}
use Rattle.degree_rule.proofs.Visits.{five, twenty, enter-asks, enter-over, lift, read-constant, read-bad, read-late, read-rest, sum-asks, read-sum, one-part, one-asks, read_one, exp-asks, read-exp, product-asks, pair-room, left-part, left-asks, pair-none, right-part, right-asks, second_none, sum_fits, times-code, larger-code, exp-room, some-levels, ref-low, ref-member, body-asks, ref-none, ref-kept, ref-cut, product-room, factor_left, factor_right, asks-left, asks-right, made-right, made-left, made_none, made_code, made-splits}
use Rattle.degree_rule.proofs.Splits.{going_first, turn-asks, turn-refused, turn-settled, going_on, end-as}
use Rattle.degree_rule.proofs.rule.+pair_product_reference_splits_visit.Goals as goal
use Rattle.degree_rule.proofs.rule.+pair_product_reference_splits_visit.Goals.{splits-else-loop-l-test, splits-then-loop-l-test+in-Ok+else-settled+else-l-m, visit-in_default-via-then-this-lt1, visit-in_default-via-else-this-lt1+else-this-lt3+else-this-lt8+then-this-lt18, visit-in_default-via-else-this-lt1+else-this-lt3+else-this-lt8+else-this-lt18+else-this-lt23+else-this-lt26}

pub pair-child-left-requires : goal.pair-child-left-requires
pair-child-left-requires t c = pair-room c.requires.4

pub pair-visit-first-requires : goal.pair-visit-first-requires
pair-visit-first-requires t c = let z = c.requires.0 in let n = c.requires.1 in let o = c.requires.2 in let rank = c.requires.3 in let a = c.requires.4 in (omega (arith, (left-part a c.child-left.ensures).before), (z, n, o, rank, left-asks a c.child-left.ensures))

pub pair-passed-requires : goal.pair-passed-requires
pair-passed-requires t c = let z = c.requires.0 in let n = c.requires.1 in let o = c.requires.2 in let rank = c.requires.3 in let a = c.requires.4 in (c.visit-first.ensures z n o rank (left-asks a c.child-left.ensures)).held.whole

pub pair-encode-requires : goal.pair-encode-requires
pair-encode-requires t c = no-low c.passed.result 17 (c.passed.ensures.none (ap is_degree c.decode.ensures ∙ no-degree (reading_of c.visit-first.result) (sym c.degree.ensures ∙ c.in_default.is)))

pub pair-returns-in_default : goal.pair-returns-in_default
pair-returns-in_default t c = λ z n o rank a. to-code c.encode.result c.encode.ensures (pair-none a c.child-left.ensures (as_read c.visit-first.result c.decode.ensures (c.visit-first.ensures z n o rank (left-asks a c.child-left.ensures))) (ap is_degree c.decode.ensures ∙ no-degree (reading_of c.visit-first.result) (sym c.degree.ensures ∙ c.in_default.is)) c.passed.ensures)

pub pair-child-right-requires : goal.pair-child-right-requires
pair-child-right-requires t c = pair-room c.requires.4

pub pair-visit-second-requires : goal.pair-visit-second-requires
pair-visit-second-requires t c = let z = c.requires.0 in let n = c.requires.1 in let o = c.requires.2 in let rank = c.requires.3 in let a = c.requires.4 in (omega (arith, (right-part a c.child-left.ensures (c.visit-first.ensures z n o rank (left-asks a c.child-left.ensures)) (degree-is (reading_of c.visit-first.result) (sym c.degree.ensures ∙ c.in-Some.is)) c.child-right.ensures).before), (z, n, o, rank, right-asks a c.child-left.ensures (c.visit-first.ensures z n o rank (left-asks a c.child-left.ensures)) (degree-is (reading_of c.visit-first.result) (sym c.degree.ensures ∙ c.in-Some.is)) c.child-right.ensures))

pub pair-returns-in_default-degree : goal.pair-returns-in_default-degree
pair-returns-in_default-degree t c = λ z n o rank a. second_none a c.child-left.ensures (c.visit-first.ensures z n o rank (left-asks a c.child-left.ensures)) (degree-is (reading_of c.visit-first.result) (sym c.degree.ensures ∙ c.in-Some.is)) c.child-right.ensures (c.visit-second.ensures z n o rank (right-asks a c.child-left.ensures (c.visit-first.ensures z n o rank (left-asks a c.child-left.ensures)) (degree-is (reading_of c.visit-first.result) (sym c.degree.ensures ∙ c.in-Some.is)) c.child-right.ensures)) (no-degree (reading_of c.visit-second.result) (sym c.degree-2.ensures ∙ c.in_default-degree.is))

pub pair-kind_at-requires : goal.pair-kind_at-requires
pair-kind_at-requires t c = pair-room c.requires.4

pub pair-overflow_add-result : goal.pair-overflow_add-result
pair-overflow_add-result t c = let z = c.requires.0 in let n = c.requires.1 in let o = c.requires.2 in let rank = c.requires.3 in let a = c.requires.4 in omega (arith, sum_fits a c.child-left.ensures (c.visit-first.ensures z n o rank (left-asks a c.child-left.ensures)) (degree-is (reading_of c.visit-first.result) (sym c.degree.ensures ∙ c.in-Some.is)) c.child-right.ensures (c.visit-second.ensures z n o rank (right-asks a c.child-left.ensures (c.visit-first.ensures z n o rank (left-asks a c.child-left.ensures)) (degree-is (reading_of c.visit-first.result) (sym c.degree.ensures ∙ c.in-Some.is)) c.child-right.ensures)) (degree-is (reading_of c.visit-second.result) (sym c.degree-2.ensures ∙ c.in-Some-degree.is)) c.kind_at.ensures c.if-kind_at-eq-MUL.true)

pub pair-returns-then-kind_at-eq-MUL : goal.pair-returns-then-kind_at-eq-MUL
pair-returns-then-kind_at-eq-MUL t c = λ z n o rank a. times-code a c.child-left.ensures (c.visit-first.ensures z n o rank (left-asks a c.child-left.ensures)) (degree-is (reading_of c.visit-first.result) (sym c.degree.ensures ∙ c.in-Some.is)) c.child-right.ensures (c.visit-second.ensures z n o rank (right-asks a c.child-left.ensures (c.visit-first.ensures z n o rank (left-asks a c.child-left.ensures)) (degree-is (reading_of c.visit-first.result) (sym c.degree.ensures ∙ c.in-Some.is)) c.child-right.ensures)) (degree-is (reading_of c.visit-second.result) (sym c.degree-2.ensures ∙ c.in-Some-degree.is)) c.kind_at.ensures c.if-kind_at-eq-MUL.true

pub pair-returns : goal.pair-returns
pair-returns t c = λ z n o rank a. larger-code a c.child-left.ensures (c.visit-first.ensures z n o rank (left-asks a c.child-left.ensures)) (degree-is (reading_of c.visit-first.result) (sym c.degree.ensures ∙ c.in-Some.is)) c.child-right.ensures (c.visit-second.ensures z n o rank (right-asks a c.child-left.ensures (c.visit-first.ensures z n o rank (left-asks a c.child-left.ensures)) (degree-is (reading_of c.visit-first.result) (sym c.degree.ensures ∙ c.in-Some.is)) c.child-right.ensures)) (degree-is (reading_of c.visit-second.result) (sym c.degree-2.ensures ∙ c.in-Some-degree.is)) c.kind_at.ensures c.if-kind_at-eq-MUL.false c.max.ensures

pub product-child-left-requires : goal.product-child-left-requires
product-child-left-requires t c = product-room c.requires.4

pub product-child-right-requires : goal.product-child-right-requires
product-child-right-requires t c = product-room c.requires.4

pub product-kind_at-requires : goal.product-kind_at-requires
product-kind_at-requires t c = let z = c.requires.0 in let n = c.requires.1 in let o = c.requires.2 in let rank = c.requires.3 in let a = c.requires.4 in room (factor_left a c.child-left.ensures c.child-right.ensures).stands

pub product-visit-requires : goal.product-visit-requires
product-visit-requires t c = let z = c.requires.0 in let n = c.requires.1 in let o = c.requires.2 in let rank = c.requires.3 in let a = c.requires.4 in (omega (arith, (factor_right a c.child-left.ensures c.child-right.ensures).before), (z, n, o, rank, asks-right a c.child-left.ensures c.child-right.ensures))

pub product-returns-then-is_constant : goal.product-returns-then-is_constant
product-returns-then-is_constant t c = λ z n o rank a. made-right a c.child-left.ensures c.child-right.ensures c.kind_at.ensures c.is_constant.ensures c.if-is_constant.true (c.visit.ensures z n o rank (asks-right a c.child-left.ensures c.child-right.ensures))

pub product-kind_at-requires-2 : goal.product-kind_at-requires-2
product-kind_at-requires-2 t c = let z = c.requires.0 in let n = c.requires.1 in let o = c.requires.2 in let rank = c.requires.3 in let a = c.requires.4 in room (factor_right a c.child-left.ensures c.child-right.ensures).stands

pub product-visit-requires-then-is_constant-2 : goal.product-visit-requires-then-is_constant-2
product-visit-requires-then-is_constant-2 t c = let z = c.requires.0 in let n = c.requires.1 in let o = c.requires.2 in let rank = c.requires.3 in let a = c.requires.4 in (omega (arith, (factor_left a c.child-left.ensures c.child-right.ensures).before), (z, n, o, rank, asks-left a c.child-left.ensures c.child-right.ensures))

pub product-returns-then-is_constant-2 : goal.product-returns-then-is_constant-2
product-returns-then-is_constant-2 t c = λ z n o rank a. made-left a c.child-left.ensures c.child-right.ensures c.kind_at.ensures c.is_constant.ensures c.if-is_constant.false c.kind_at-2.ensures c.is_constant-2.ensures c.if-is_constant-2.true (c.visit-then-is_constant-2.ensures z n o rank (asks-left a c.child-left.ensures c.child-right.ensures))

pub product-bounds-full-i : goal.product-bounds-full-i
product-bounds-full-i t c = product-room c.requires.4

pub product-returns-then-full-i : goal.product-returns-then-full-i
product-returns-then-full-i t c = λ z n o rank a. made_none a c.child-left.ensures c.child-right.ensures c.kind_at.ensures c.is_constant.ensures c.if-is_constant.false c.kind_at-2.ensures c.is_constant-2.ensures c.if-is_constant-2.false refl c.if-full-i.true

pub product-bounds-full-i-2 : goal.product-bounds-full-i-2
product-bounds-full-i-2 t c = product-room c.requires.4

pub product-returns-then-high-m : goal.product-returns-then-high-m
product-returns-then-high-m t c = λ z n o rank a. made_code a c.child-left.ensures c.child-right.ensures c.kind_at.ensures c.is_constant.ensures c.if-is_constant.false c.kind_at-2.ensures c.is_constant-2.ensures c.if-is_constant-2.false refl refl c.if-high-m.true

pub product-splits-requires : goal.product-splits-requires
product-splits-requires t c = let z = c.requires.0 in let n = c.requires.1 in let o = c.requires.2 in let rank = c.requires.3 in let a = c.requires.4 in (omega (arith), (z, n, o, rank, a))

pub product-returns : goal.product-returns
product-returns t c = λ z n o rank a. made-splits a c.child-left.ensures c.child-right.ensures c.kind_at.ensures c.is_constant.ensures c.if-is_constant.false c.kind_at-2.ensures c.is_constant-2.ensures c.if-is_constant-2.false refl c.if-full-i.false refl c.if-high-m.false (c.splits.ensures z n o rank a)

pub reference-returns-then-m-lt1 : goal.reference-returns-then-m-lt1
reference-returns-then-m-lt1 t c = λ z n o rank a. ref-low a c.if-m-lt1.true

pub reference-has-requires : goal.reference-has-requires
reference-has-requires t c = exp-room c.requires.4

pub reference-returns-then-has : goal.reference-returns-then-has
reference-returns-then-has t c = λ z n o rank a. ref-member a c.if-m-lt1.false (sym c.has.ensures ∙ c.if-has.true)

pub reference-root-body-requires : goal.reference-root-body-requires
reference-root-body-requires t c = exp-room c.requires.4

pub reference-overflow_sub-levels : goal.reference-overflow_sub-levels
reference-overflow_sub-levels t c = some-levels c.requires.4

pub reference-visit-read-requires : goal.reference-visit-read-requires
reference-visit-read-requires t c = let z = c.requires.0 in let n = c.requires.1 in let o = c.requires.2 in let rank = c.requires.3 in let a = c.requires.4 in (omega (arith, room (body-asks a c.if-m-lt1.false (sym c.has.ensures ∙ c.if-has.false) refl c.root-body.ensures).stands, some-levels a), (z, n, o, rank, (body-asks a c.if-m-lt1.false (sym c.has.ensures ∙ c.if-has.false) refl c.root-body.ensures)))

pub reference-returns-in_default : goal.reference-returns-in_default
reference-returns-in_default t c = λ z n o rank a. ref-none a c.if-m-lt1.false (sym c.has.ensures ∙ c.if-has.false) refl c.root-body.ensures (c.visit-read.ensures z n o rank (body-asks a c.if-m-lt1.false (sym c.has.ensures ∙ c.if-has.false) refl c.root-body.ensures)) (no-degree (reading_of c.visit-read.result) (sym c.degree.ensures ∙ c.in_default.is))

pub reference-returns-then-high-m : goal.reference-returns-then-high-m
reference-returns-then-high-m t c = λ z n o rank a. to-code c.visit-read.result (degree-is (reading_of c.visit-read.result) (sym c.degree.ensures ∙ c.in-Some.is)) (ref-kept a c.if-m-lt1.false (sym c.has.ensures ∙ c.if-has.false) refl c.root-body.ensures (c.visit-read.ensures z n o rank (body-asks a c.if-m-lt1.false (sym c.has.ensures ∙ c.if-has.false) refl c.root-body.ensures)) (degree-is (reading_of c.visit-read.result) (sym c.degree.ensures ∙ c.in-Some.is)) c.if-high-m.true)

pub reference-put-requires : goal.reference-put-requires
reference-put-requires t c = let z = c.requires.0 in let n = c.requires.1 in let o = c.requires.2 in let rank = c.requires.3 in let a = c.requires.4 in (exp-room a, (c.visit-read.ensures z n o rank (body-asks a c.if-m-lt1.false (sym c.has.ensures ∙ c.if-has.false) refl c.root-body.ensures)).good)

pub reference-cut_at-requires : goal.reference-cut_at-requires
reference-cut_at-requires t c = let z = c.requires.0 in let n = c.requires.1 in let o = c.requires.2 in let rank = c.requires.3 in let a = c.requires.4 in (c.visit-read.ensures z n o rank (body-asks a c.if-m-lt1.false (sym c.has.ensures ∙ c.if-has.false) refl c.root-body.ensures)).held.whole

pub reference-returns : goal.reference-returns
reference-returns t c = λ z n o rank a. ref-cut a c.if-m-lt1.false (sym c.has.ensures ∙ c.if-has.false) refl c.root-body.ensures (c.visit-read.ensures z n o rank (body-asks a c.if-m-lt1.false (sym c.has.ensures ∙ c.if-has.false) refl c.root-body.ensures)) (degree-is (reading_of c.visit-read.result) (sym c.degree.ensures ∙ c.in-Some.is)) c.if-high-m.false c.put.ensures c.cut_at.ensures

pub splits-loop-l-init : goal.splits-loop-l-init
splits-loop-l-init t c = (refl, λ z n o rank a. going_first a)

pub splits-pair-both-requires : goal.splits-pair-both-requires
splits-pair-both-requires t c = let z = c.requires.0 in let n = c.requires.1 in let o = c.requires.2 in let rank = c.requires.3 in let a = c.requires.4 in (omega (arith), (z, n, o, rank, turn-asks a (c.loop-l.invariant.1 z n o rank a) c.loop-l-test.true))

pub splits-returns-in_default : goal.splits-returns-in_default
splits-returns-in_default t c = λ z n o rank a. to-code c.pair-both.result (sym c.decode.ensures) (turn-refused a (c.loop-l.invariant.1 z n o rank a) c.loop-l-test.true (as_read c.pair-both.result c.decode.ensures (c.pair-both.ensures z n o rank (turn-asks a (c.loop-l.invariant.1 z n o rank a) c.loop-l-test.true))) c.in_default.is)

pub splits-better-kept-requires : goal.splits-better-kept-requires
splits-better-kept-requires t c = let z = c.requires.0 in let n = c.requires.1 in let o = c.requires.2 in let rank = c.requires.3 in let a = c.requires.4 in ((c.loop-l.invariant.1 z n o rank a).good, (as_read c.pair-both.result c.decode.ensures (c.pair-both.ensures z n o rank (turn-asks a (c.loop-l.invariant.1 z n o rank a) c.loop-l-test.true))).good)

pub splits-settled-requires : goal.splits-settled-requires
splits-settled-requires t c = let z = c.requires.0 in let n = c.requires.1 in let o = c.requires.2 in let rank = c.requires.3 in let a = c.requires.4 in (c.better-kept.ensures.good, a.asks.holds.good)

pub splits-encode-requires : goal.splits-encode-requires
splits-encode-requires t c = let z = c.requires.0 in let n = c.requires.1 in let o = c.requires.2 in let rank = c.requires.3 in let a = c.requires.4 in let g = turn-settled a (c.loop-l.invariant.1 z n o rank a) c.loop-l-test.true (as_read c.pair-both.result c.decode.ensures (c.pair-both.ensures z n o rank (turn-asks a (c.loop-l.invariant.1 z n o rank a) c.loop-l-test.true))) c.in-Ok.is c.better-kept.ensures (sym c.settled.ensures ∙ c.if-settled.true) in omega (arith, g.low, a.asks.holds.within, a.asks.holds.low)

pub splits-returns-then-settled : goal.splits-returns-then-settled
splits-returns-then-settled t c = λ z n o rank a. to-code c.encode.result c.encode.ensures (turn-settled a (c.loop-l.invariant.1 z n o rank a) c.loop-l-test.true (as_read c.pair-both.result c.decode.ensures (c.pair-both.ensures z n o rank (turn-asks a (c.loop-l.invariant.1 z n o rank a) c.loop-l-test.true))) c.in-Ok.is c.better-kept.ensures (sym c.settled.ensures ∙ c.if-settled.true))

pub splits-loop-l-smaller : goal.splits-loop-l-smaller
splits-loop-l-smaller t c = omega (arith, c.loop-l-test.true)

pub splits-loop-l-preserved : goal.splits-loop-l-preserved
splits-loop-l-preserved t c = (c.loop-l.invariant.0, λ z n o rank a. going_on a (c.loop-l.invariant.1 z n o rank a) c.loop-l-test.true (as_read c.pair-both.result c.decode.ensures (c.pair-both.ensures z n o rank (turn-asks a (c.loop-l.invariant.1 z n o rank a) c.loop-l-test.true))) c.in-Ok.is c.better-kept.ensures (sym c.settled.ensures ∙ c.if-settled.false))

pub splits-encode-requires-2 : goal.splits-encode-requires-2
splits-encode-requires-2 t c = let z = c.requires.0 in let n = c.requires.1 in let o = c.requires.2 in let rank = c.requires.3 in let a = c.requires.4 in elim c.loop-l-test.branch [
  | splits-else-loop-l-test w ↦ let g = end-as a (c.loop-l.invariant.1 z n o rank a) w.best-is w.kept-is w.tally-is w.loop-l-test.false in omega (arith, g.low, a.asks.holds.within, a.asks.holds.low)
  | splits-then-loop-l-test+in-Ok+else-settled+else-l-m w ↦ let g = end-as a (going_on a (c.loop-l.invariant.1 z n o rank a) w.loop-l-test.true (as_read w.pair-both.result w.decode.ensures (w.pair-both.ensures z n o rank (turn-asks a (c.loop-l.invariant.1 z n o rank a) w.loop-l-test.true))) w.in-Ok.is w.better-kept.ensures (sym w.settled.ensures ∙ w.if-settled.false)) w.best-is w.kept-is w.tally-is (omega arith) in omega (arith, g.low, a.asks.holds.within, a.asks.holds.low)
]

pub splits-returns : goal.splits-returns
splits-returns t c = λ z n o rank a. to-code c.encode-2.result c.encode-2.ensures (elim c.loop-l-test.branch [
  | splits-else-loop-l-test w ↦ end-as a (c.loop-l.invariant.1 z n o rank a) w.best-is w.kept-is w.tally-is w.loop-l-test.false
  | splits-then-loop-l-test+in-Ok+else-settled+else-l-m w ↦ end-as a (going_on a (c.loop-l.invariant.1 z n o rank a) w.loop-l-test.true (as_read w.pair-both.result w.decode.ensures (w.pair-both.ensures z n o rank (turn-asks a (c.loop-l.invariant.1 z n o rank a) w.loop-l-test.true))) w.in-Ok.is w.better-kept.ensures (sym w.settled.ensures ∙ w.if-settled.false)) w.best-is w.kept-is w.tally-is (omega arith)
])

pub visit-enter-requires : goal.visit-enter-requires
visit-enter-requires t c = c.requires.4.holds.whole

pub visit-returns-then-not-enter : goal.visit-returns-then-not-enter
visit-returns-then-not-enter t c = λ z n o rank a. enter-over a c.enter.ensures c.if-not-enter.true

pub visit-kind_at-requires : goal.visit-kind_at-requires
visit-kind_at-requires t c = room c.requires.4.stands

pub visit-product-requires : goal.visit-product-requires
visit-product-requires t c = let z = c.requires.0 in let n = c.requires.1 in let o = c.requires.2 in let rank = c.requires.3 in let a = c.requires.4 in (omega (arith), (z, n, o, rank, product-asks (enter-asks a c.enter.ensures) c.kind_at.ensures c.in-3.is))

pub visit-id-requires : goal.visit-id-requires
visit-id-requires t c = room c.requires.4.stands

pub visit-reference-requires : goal.visit-reference-requires
visit-reference-requires t c = let z = c.requires.0 in let n = c.requires.1 in let o = c.requires.2 in let rank = c.requires.3 in let a = c.requires.4 in (omega (arith), (z, n, o, rank, exp-asks (enter-asks a c.enter.ensures) c.kind_at.ensures c.in-18.is c.id.ensures))

pub visit-pair-requires : goal.visit-pair-requires
visit-pair-requires t c = let z = c.requires.0 in let n = c.requires.1 in let o = c.requires.2 in let rank = c.requires.3 in let a = c.requires.4 in (omega (arith), (z, n, o, rank, sum-asks (enter-asks a c.enter.ensures) c.kind_at.ensures c.in-1-to-2.if-this-lt1-own.false (omega (arith, c.in-1-to-2.if-this-lt3-own.true))))

pub visit-child-only-requires : goal.visit-child-only-requires
visit-child-only-requires t c = room c.requires.4.stands

pub visit-visit-requires : goal.visit-visit-requires
visit-visit-requires t c = let z = c.requires.0 in let n = c.requires.1 in let o = c.requires.2 in let rank = c.requires.3 in let a = c.requires.4 in (omega (arith, (one-part (enter-asks a c.enter.ensures) c.kind_at.ensures (five _ c.in-5-to-7.if-this-lt3-own.false c.in-5-to-7.in_default-own.rest.0.0.1 c.in-5-to-7.in_default-own.rest.1) (omega (arith, c.in-5-to-7.if-this-lt8-own.true)) c.child-only.ensures).before), (z, n, o, rank, one-asks (enter-asks a c.enter.ensures) c.kind_at.ensures (five _ c.in-5-to-7.if-this-lt3-own.false c.in-5-to-7.in_default-own.rest.0.0.1 c.in-5-to-7.in_default-own.rest.1) (omega (arith, c.in-5-to-7.if-this-lt8-own.true)) c.child-only.ensures))

pub visit-returns-in-3 : goal.visit-returns-in-3
visit-returns-in-3 t c = λ z n o rank a. lift a c.enter.ensures c.if-not-enter.false (c.product.ensures z n o rank (product-asks (enter-asks a c.enter.ensures) c.kind_at.ensures c.in-3.is))

pub visit-returns-in-18 : goal.visit-returns-in-18
visit-returns-in-18 t c = λ z n o rank a. lift a c.enter.ensures c.if-not-enter.false (read-exp (enter-asks a c.enter.ensures) c.kind_at.ensures c.in-18.is c.id.ensures (c.reference.ensures z n o rank (exp-asks (enter-asks a c.enter.ensures) c.kind_at.ensures c.in-18.is c.id.ensures)))

pub visit-returns-in-4 : goal.visit-returns-in-4
visit-returns-in-4 t c = λ z n o rank a. lift a c.enter.ensures c.if-not-enter.false (read-bad (enter-asks a c.enter.ensures) c.kind_at.ensures c.in-4.is)

pub visit-returns-in-1-to-2 : goal.visit-returns-in-1-to-2
visit-returns-in-1-to-2 t c = λ z n o rank a. lift a c.enter.ensures c.if-not-enter.false (read-sum (enter-asks a c.enter.ensures) c.kind_at.ensures c.in-1-to-2.if-this-lt1-own.false (omega (arith, c.in-1-to-2.if-this-lt3-own.true)) (c.pair.ensures z n o rank (sum-asks (enter-asks a c.enter.ensures) c.kind_at.ensures c.in-1-to-2.if-this-lt1-own.false (omega (arith, c.in-1-to-2.if-this-lt3-own.true)))))

pub visit-returns-in-5-to-7 : goal.visit-returns-in-5-to-7
visit-returns-in-5-to-7 t c = λ z n o rank a. lift a c.enter.ensures c.if-not-enter.false (read_one (enter-asks a c.enter.ensures) c.kind_at.ensures (five _ c.in-5-to-7.if-this-lt3-own.false c.in-5-to-7.in_default-own.rest.0.0.1 c.in-5-to-7.in_default-own.rest.1) (omega (arith, c.in-5-to-7.if-this-lt8-own.true)) c.child-only.ensures (c.visit.ensures z n o rank (one-asks (enter-asks a c.enter.ensures) c.kind_at.ensures (five _ c.in-5-to-7.if-this-lt3-own.false c.in-5-to-7.in_default-own.rest.0.0.1 c.in-5-to-7.in_default-own.rest.1) (omega (arith, c.in-5-to-7.if-this-lt8-own.true)) c.child-only.ensures)))

pub visit-returns-in-20-to-22 : goal.visit-returns-in-20-to-22
visit-returns-in-20-to-22 t c = λ z n o rank a. lift a c.enter.ensures c.if-not-enter.false (read-constant (enter-asks a c.enter.ensures) c.kind_at.ensures (twenty _ c.in-20-to-22.if-this-lt18-own.false c.in-20-to-22.in_default-own.rest.0.1 c.in-20-to-22.in_default-own.rest.1) (omega (arith, c.in-20-to-22.if-this-lt23-own.true)))

pub visit-returns-in-23-to-25 : goal.visit-returns-in-23-to-25
visit-returns-in-23-to-25 t c = λ z n o rank a. lift a c.enter.ensures c.if-not-enter.false (read-late (enter-asks a c.enter.ensures) c.kind_at.ensures c.in-23-to-25.if-this-lt23-own.false (omega (arith, c.in-23-to-25.if-this-lt26-own.true)))

pub visit-returns-in_default : goal.visit-returns-in_default
visit-returns-in_default t c = λ z n o rank a. elim c.in_default.branch [
  | visit-in_default-via-then-this-lt1 w ↦ lift a c.enter.ensures c.if-not-enter.false (read-rest (enter-asks a c.enter.ensures) c.kind_at.ensures (inl (omega arith)) (omega arith) (⊎_elim (λ e. omega arith) (λ e. omega arith)) c.column.ensures)
  | visit-in_default-via-else-this-lt1+else-this-lt3+else-this-lt8+then-this-lt18 w ↦ lift a c.enter.ensures c.if-not-enter.false (read-rest (enter-asks a c.enter.ensures) c.kind_at.ensures (inr (inl (omega arith, omega arith))) (omega arith) (⊎_elim (λ e. omega arith) (λ e. omega arith)) c.column.ensures)
  | visit-in_default-via-else-this-lt1+else-this-lt3+else-this-lt8+else-this-lt18+else-this-lt23+else-this-lt26 w ↦ lift a c.enter.ensures c.if-not-enter.false (read-rest (enter-asks a c.enter.ensures) c.kind_at.ensures (inr (inr (omega arith))) (omega arith) (⊎_elim (λ e. omega arith) (λ e. omega arith)) c.column.ensures)
]
