-- WHAT IS KNOWN WHERE THERE IS A PLAN: it is that of the pool that was read, it fits, and its counts agree.
-- Assumes nothing.
use Rattle.std.specs.Prelude.{ℕ, ◌≡◌, refl, Bool, true, false, cond, List}
use Rattle.std.proofs.Common.{sym, ◌∙◌, ap}
use Rattle.std.proofs.Math.Option.{none}
use Rattle.meaning.specs.Refusals.{Refusal, Answer, done, refused}
use Rattle.meaning.proofs.Laws.Tests.{then-done, done-same, done-not-refused}
use Rattle.frames.specs.Order.{Input}
use Rattle.pool.specs.Pool.{Pool}
use Rattle.pool.specs.Numbered.{pool_of}
use Rattle.plans.specs.Plan.{is_plan}
use Rattle.plans.specs.Columns.{fits}
use Rattle.plans.specs.Agreement.{bits_good, counts_agree}
use Rattle.map_records.specs.Mapping.{Mapping, mapped, some_none}
use Rattle.planning.specs.Planning.{Planned, planned, argued, columned, Plans}
use Rattle.planning.specs.Laws.Argued.{no-plan, too_many_lem}

pub record Known (b : List ℕ) (x : Answer Input) (z : Planned) : Type 0 where
  pub input : Input
  pub read : x ≡ done input
  pub fitting : fits b ≡ true
  pub agreeing : counts_agree b ≡ true
  pub is : z ≡ planned (pool_of input) (mapped b (pool_of input))

argued-fits : (b : List ℕ) (own : Bool) → argued b own ≡ done tt → fits b ≡ true
argued-fits b own h = by (is_plan b) refl (fits b) refl
  where
    by : (t : Bool) → is_plan b ≡ t → (u : Bool) → fits b ≡ u → fits b ≡ true
    by t p true q = q
    by true p false q = absurd (done-not-refused (sym h ∙ too_many_lem b own p q))
    by false p false q = absurd (done-not-refused (sym h ∙ no-plan b own p))

columned_so : (b : List ℕ) (p : Pool) (m : Mapping) → columned b p ≡ done m → (counts_agree b ≡ true) × (m ≡ mapped b p)
unfolding columned
columned_so b p m h = by (bits_good b) (counts_agree b) (some_none (mapped b p).dims) refl h
  where
    by :
        (t u v : Bool) → counts_agree b ≡ u →
        cond t (cond u (cond v (refused Refusal.no_dimension none) (done (mapped b p))) (refused Refusal.counts none)) (refused Refusal.bits none) ≡ done m →
        (counts_agree b ≡ true) × (m ≡ mapped b p)
    by true true true q e = absurd (done-not-refused (sym e))
    by true true false q e = (q, sym (done-same (mapped b p) m e))
    by true false v q e = absurd (done-not-refused (sym e))
    by false u v q e = absurd (done-not-refused (sym e))

pub known : (b : List ℕ) (own : Bool) (x : Answer Input) (z : Planned) → Plans b own x (done z) → Known b x z
known b own x z h = go x refl
  where
    by : (i : Input) → x ≡ done i → (a : Answer (Unit {0})) → argued b own ≡ a → Known b x z
    by i q (refused k o) e = absurd (done-not-refused (h.unfit i q k o e))
    by i q (done u) e =
        let j = h.judged i q e in
        let v = then-done j.0 _ (sym j.2) in
        let m = then-done (columned b (pool_of i)) _ v.2 in
        let c = columned_so b (pool_of i) m.0 m.1 in
        record {
          input = i;
          read = q;
          fitting = argued-fits b own e;
          agreeing = c.0;
          is = sym (done-same (planned (pool_of i) m.0) z m.2) ∙ ap (planned (pool_of i)) c.1;
        }

    go : (y : Answer Input) → x ≡ y → Known b x z
    go (refused k o) q = absurd (done-not-refused (h.unread k o q))
    go (done i) q = by i q (argued b own) refl
