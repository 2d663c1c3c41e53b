-- What was read: the refusal of an argument, or what comes of the pool.
-- Assumes nothing.
use Prim.Native.Nat.{ℕ}
use mathlib.Core.Path.{◌≡◌, refl, sym, ◌∙◌, ap, subst}
use mathlib.Core.Bool.{Bool, true, false}
use mathlib.Core.Option.{Option}
use mathlib.Core.List.{List}
use Rattle.meaning.specs.Refusals.{Refusal, Answer, done, refused, ◌then◌}
use Rattle.meaning.proofs.Laws.Tests.{done-same, done-not-refused}
use Rattle.std.specs.Prelude.{Result, Ok, Err}
use Rattle.kinds.specs.Answers.{blaming_none, refusing}
use Rattle.kinds.specs.declared.refusal.Refusal.TheVariants as refusal
use Rattle.kinds.specs.declared.refusal.Refused.{Refused}
use Rattle.frames.specs.Order.{Input}
use Rattle.frames.specs.Tables as frames
use Rattle.frames.specs.Tables.{input_in}
use Rattle.frames.specs.Reading.{reading, held, Fills}
use Rattle.frames.specs.Limits.{read-within}
use Rattle.frames.specs.declared.count.Counts.{Counts}
use Rattle.pool.specs.Pool.{Pool}
use Rattle.pool.specs.Numbered.{pool_of}
use Rattle.pool.specs.Tabled.{Tables, tabled}
use Rattle.pool.specs.Ranking.{Tabling}
use Rattle.plans.specs.Plan.{Whole, is_plan}
use Rattle.plans.specs.Columns.{fits}
use Rattle.plans.specs.Passed.{plan-whole, few-records}
use Rattle.map_records.specs.Mapping.{Mapping, mapped}
use Rattle.planning.specs.Laws.Argued.{no-plan, too_many_lem, ill-formed, well_formed_lem, refused-both, unplanned-then}
use Rattle.planning.specs.Planning.{argued, Verdict, columned, Planned, planned, Judged}
use Rattle.planning.specs.Answers.{Unplanned, Planning, unplanned_says, Fitting, ReadAsked, PoolAsked, Ruled, Tells, Told, Argued, ReadGiven, FramesAsked, FramesGiven}

-- ---- the arguments

pub whole : (b : List ℕ) {x : Bool} → x ≡ is_plan b → x ≡ true → Whole b
whole b e h = plan-whole b (sym e ∙ h)

pub fitting : (b : List ℕ) {x : Bool} → x ≡ is_plan b → x ≡ true → {y : Bool} → y ≡ fits b → y ≡ true → Fitting b
fitting b e h f k = record { whole = whole b e h; fits = few-records b (sym f ∙ k) }

module _ (b : List ℕ) (own : Bool) (t : Tables) {ss ds cs : List ℕ} where
  unfit : {k : Refusal} {o : Option ℕ} (u : Unplanned) → argued b own ≡ refused k o → refused k o ≡ unplanned_says {A = Planned} u → Argued b own t ss ds cs (Err u)
  unfit {k} {o} u e q = record {
    answer = refused k o;
    unfit = λ k o z. refused-both (sym e ∙ z);
    judged = λ z. absurd (done-not-refused (sym z ∙ e));
    told = q;
  }

  module _ {x : Bool} (e : x ≡ is_plan b) where
    pub no-plan-told : x ≡ false → Argued b own t ss ds cs (refusing refusal.Malformed)
    no-plan-told h = unfit (blaming_none refusal.Malformed) (no-plan b own (sym e ∙ h)) refl

    module _ (h : x ≡ true) where
      module _ {y : Bool} (f : y ≡ fits b) where
        pub too_many-told : y ≡ false → Argued b own t ss ds cs (refusing refusal.Full)
        too_many-told k = unfit (blaming_none refusal.Full) (too_many_lem b own (sym e ∙ h) (sym f ∙ k)) refl

        module _ (k : y ≡ true) where
          pub ill-formed-told : own ≡ false → Argued b own t ss ds cs (refusing refusal.Malformed)
          ill-formed-told q = unfit (blaming_none refusal.Malformed) (ill-formed b own (sym e ∙ h) (sym f ∙ k) q) refl

          pub pool-told : own ≡ true → {r : Planning} → Ruled (Verdict b (tabled t)) b t ss ds cs r → Argued b own t ss ds cs r
          pool-told q {r} g = record {
            answer = g.verdict then λ _. columned b (tabled t) then λ m. done (planned (tabled t) m);
            unfit = λ k o z. absurd (done-not-refused (sym fine ∙ z));
            judged = λ z. (g.verdict, g.judged, refl);
            told = lifted r g.verdict g.tells;
          }
            where
              fine : argued b own ≡ done tt
              fine = well_formed_lem b own (sym e ∙ h) (sym f ∙ k) q

              onward : Answer Mapping → Answer Planned
              onward z = z then λ m. done (planned (tabled t) m)

              both : (v : Answer (Unit {0})) → onward (v then λ _. columned b (tabled t)) ≡ (v then λ _. columned b (tabled t) then λ m. done (planned (tabled t) m))
              both (done u) = refl
              both (refused k o) = refl

              lifted :
                  (r : Planning) (v : Answer (Unit {0})) → Tells b t ss ds cs (mapped b (tabled t)) (v then λ _. columned b (tabled t)) r
                  → Told b t ss ds cs (v then λ _. columned b (tabled t) then λ m. done (planned (tabled t) m)) r
              lifted (Err u) v z = sym (both v) ∙ ap onward z ∙ unplanned-then u (λ m. done (planned (tabled t) m))
              lifted (Ok k) v z = (sym (both v) ∙ ap onward z.0, z.1)

pub pool-asked : {b : List ℕ} {c : Counts} {ss ds cs : List ℕ} → Fitting b → ReadAsked c ss ds cs → PoolAsked b c ss ds cs
pool-asked f a = record { fitting = f; read = a }

-- ---- frames

module _ {s : List ℕ} {u : frames.Tables} {r : Result Counts Refused} (g : Fills s r u) {c : Counts} (q : r ≡ Ok c) where
  read_is : done (input_in u c) ≡ reading s
  read_is = ap (held u) (sym q) ∙ g.answer

  pub read_asked : {x y ss ds cs : List ℕ} → FramesAsked x y ss ds cs → ReadAsked c ss ds cs
  read_asked a = let w = read-within s u c read_is in record { nodes = w.nodes; expressions = w.expressions; blank = a.blank }

pool-is : (u : frames.Tables) (c : Counts) → pool_of (input_in u c) ≡ tabled (Tabling u.nodes u.literals u.expressions c.nodes c.expressions)
unfolding input_in tabled
pool-is u c = refl

module _ {s : List ℕ} {u : frames.Tables} {r : Result Counts Refused} (g : Fills s r u) (b : List ℕ) (own : Bool) {ss ds cs : List ℕ} where
  unread :
      {k : Refusal} {o : Option ℕ} (v : Unplanned) → refused k o ≡ reading s → refused k o ≡ unplanned_says {A = Planned} v
      → FramesGiven s b own u.nodes u.expressions ss ds cs (Err v)
  unread {k} {o} v h e = record {
    answer = refused k o;
    plans = record {
      unread = λ l p q. refused-both (h ∙ q);
      unfit = λ i q. absurd (done-not-refused (sym q ∙ sym h));
      judged = λ i q. absurd (done-not-refused (sym q ∙ sym h));
    };
    literals = u.literals;
    node_count = 0;
    expression_count = 0;
    told = e;
  }

  pub refused-told : {f : Refused} → r ≡ Err f → FramesGiven s b own u.nodes u.expressions ss ds cs (Err f)
  refused-told {f} q = unread f (ap (held u) (sym q) ∙ g.answer) refl

  module _ {c : Counts} (q : r ≡ Ok c) where
    pub read_told : {p : Planning} → ReadGiven b own u.nodes u.expressions c ss ds cs p → FramesGiven s b own u.nodes u.expressions ss ds cs p
    read_told h =
        let k = h u.literals in
        record {
          answer = k.answer;
          plans = record {
            unread = λ l o e. absurd (done-not-refused (read_is g q ∙ e));
            unfit = λ i e l o f. k.unfit l o f;
            judged = λ i e f.
                let j : input_in u c ≡ i = done-same _ _ (read_is g q ∙ e) in
                subst (λ (y : Input). Judged b own (pool_of y) k.answer) j (subst (λ (p : Pool). Judged b own p k.answer) (sym (pool-is u c)) (k.judged f));
          };
          literals = u.literals;
          node_count = c.nodes;
          expression_count = c.expressions;
          told = k.told;
        }
