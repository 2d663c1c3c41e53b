-- What was read, judged: both contexts, the pool, and the choice of an admitted one. Over plain variables.
-- Assumes nothing.
use Prim.Native.Nat.{ℕ, ◌<◌}
use mathlib.Core.Path.{◌≡◌, refl, sym, ◌∙◌, ap, subst}
use mathlib.Core.Bool.{Bool, true, false}
use mathlib.Core.Option.{none}
use mathlib.Core.List.{List, []}
use lib.ListN.{length}
use Rattle.meaning.specs.Refusals.{Refusal, Answer, done, refused, ◌then◌}
use Rattle.meaning.proofs.Laws.Tests.{done-same, done-not-refused}
use Rattle.std.specs.Prelude.{Result, Ok, Err}
use Rattle.kinds.specs.Answers.{blaming_none}
use Rattle.kinds.specs.declared.refusal.Refusal.TheVariants as refusal
use Rattle.kinds.specs.declared.refusal.Refused.{Refused}
use Rattle.frames.specs.Tables as frames
use Rattle.frames.specs.Tables.{input_in}
use Rattle.frames.specs.Reading.{reading, held, Fills}
use Rattle.frames.specs.Limits.{read-within}
use Rattle.frames.specs.Written.{WellFormed}
use Rattle.frames.specs.declared.count.Counts.{Counts}
use Rattle.pool.specs.Pool.{Pool}
use Rattle.pool.specs.Trees.{forest}
use Rattle.pool.specs.Shaped.{Shaped}
use Rattle.pool.specs.Verdict.{Verdict}
use Rattle.pool.specs.Exactly.{exactly_0}
use Rattle.pool.specs.Admitting.{Admits, verdict_says}
use Rattle.pool.specs.Tabled.{tabled}
use Rattle.pool.specs.Ranking.{Tabling}
use Rattle.pool.specs.Numbered.{pool_of}
use Rattle.pool.specs.Laws.Tabled.{node-count, expression-count}
use Rattle.pool.specs.Laws.Forest.{forest-size}
use Rattle.degree_search.proofs.Questions.{judged_as}
use Rattle.search_meaning.specs.Search.{Choice}
use Rattle.context.specs.Context.{Exactly, Good}
use Rattle.constraint_meaning.specs.Constraint.{Asked}
use Rattle.constraint_meaning.specs.Members.{members-there, identities-there}
use Rattle.constraint_pool.specs.Whole.{AllBelow}
use Rattle.constraint_pool.specs.Sizes.{WholeSizeAsks}
use Rattle.constraint_pool.specs.Judging.{judged as judged-by}
use Rattle.constraint_pool.proofs.Verdicts.{constraint-asks}
use Rattle.pool_frames.specs.Writable.{read-formed}
use Rattle.constraint_frames.specs.Formed.{input_of}
use Rattle.constraint_frames.specs.Unique.{columns_of}
use Rattle.constraint_frames.specs.Extension.{Back}
use Rattle.constraint_frames.specs.Backward.{shaped-few, back-asks}
use Rattle.constraint_choice.specs.Below.{each_at, some_one, refused_as}
use Rattle.constraint_choice.specs.Choosing.{question_of, Contexts, deciding, Accepts, OrMalformed, Chooses, why_of, Left, Ready, Tells, TellsRead, DecideIs, ReadAsks, AdmittedAsks, Decided}

module _ {w l x : List ℕ} {k : Counts} (a : ReadAsks w l x k) (q : Asked) (c : Contexts) where
  abbrev P : Pool
  P = tabled (Tabling w l x k.nodes k.expressions)

  -- what was read is refused so
  abbrev Untold : Refused → Type 0
  Untold d = (z : Answer Choice) × Chooses P q c z × (z ≡ refused (why_of d).kind (why_of d).node)

  expressions_are : length P.expressions ≡ k.expressions
  expressions_are = expression-count (Tabling w l x k.nodes k.expressions)

  -- of the pool's own number of expressions
  own : {g : Bool} {y : List ℕ} {room : ℕ} → Exactly g (Good y k.expressions room) → Exactly g (Good y (length P.expressions) room)
  own {g} {y} {room} h = subst (λ i. Exactly g (Good y i room)) (sym expressions_are) h

  -- one context is not good for it
  abbrev malformed_context : Refused
  malformed_context = blaming_none refusal.Malformed

  module _ {g : Bool} (gh : Exactly g (Good c.first k.expressions c.bytes)) where
    or_malformed : (b : Bool) → g ≡ b → (z : Answer Choice) (R : Type 0) → OrMalformed b z R → OrMalformed g z R
    or_malformed b e z R h = subst (λ i. OrMalformed i z R) (sym e) h

    pub bad-first : g ≡ false → Untold malformed_context
    bad-first e = (refused Refusal.malformed none, (g, own gh, or_malformed false e _ _ refl), refl)

    module _ (ge : g ≡ true) {h : Bool} (hh : Exactly h (Good c.second k.expressions c.bytes_2ns)) where
      rest : (z : Answer Choice) (b : Bool) → h ≡ b → OrMalformed b z ((y : Answer (Unit {0})) × Verdict P [] y × (z ≡ (y then λ _. deciding P q))) → Chooses P q c z
      rest z b e o =
          (g, own gh, or_malformed true ge z _ (h, own hh, subst (λ i. OrMalformed i z ((y : Answer (Unit {0})) × Verdict P [] y × (z ≡ (y then λ _. deciding P q)))) (sym e) o))

      pub bad-second : h ≡ false → Untold malformed_context
      bad-second e = (refused Refusal.malformed none, rest _ false e refl, refl)

      module _ (he : h ≡ true) where
        pub judged : {y : List ℕ} {d : Result (List ℕ) Refused} → Admits (Tabling w l x k.nodes k.expressions) y d → y ≡ [] → {o : Result (List ℕ) Refused} → d ≡ o → Verdict P [] (verdict_says o)
        judged = judged_as w x k (record { nodes = a.nodes; expressions = a.expressions }) l

        pub refused-pool : (d : Refused) → Verdict P [] (refused (why_of d).kind (why_of d).node) → Untold d
        refused-pool d y = (refused (why_of d).kind (why_of d).node, rest _ true he (refused (why_of d).kind (why_of d).node, y, refl), refl)

        module _ (y : Verdict P [] (done tt)) where
          pub admitted-asks : AdmittedAsks w l x k
          admitted-asks = let s = (exactly_0 P (done tt) y).0 refl in record { read = a; shaped = s.0; acyclic = s.1 }

          pub admitted : Chooses P q c (deciding P q)
          admitted = rest _ true he (done tt, y, refl)

-- ---- of what was read

module _ {s : List ℕ} {f : frames.Tables} {r : Result Counts Refused} (fills : Fills s r f) (q : Asked) (v16 : q.vc < 65536) (c : Contexts) where
  unread : (d : Refused) → refused (why_of d).kind (why_of d).node ≡ reading s → (t : Left) → DecideIs s q c t (Err d)
  unread d h t =
      record {
        answer = refused (why_of d).kind (why_of d).node;
        unread = λ k o e. refused_as (h ∙ e);
        judged = λ i e. absurd (done-not-refused (sym e ∙ sym h));
        tells = refl;
        back = λ i e. absurd (done-not-refused (sym e ∙ sym h));
      }

  pub unread-told : {d : Refused} → r ≡ Err d → (t : Left) → DecideIs s q c t (Err d)
  unread-told {d} e t = unread d (ap (held f) (sym e) ∙ fills.answer) t

  module _ {k : Counts} (e : r ≡ Ok k) where
    read_is : done (input_in f k) ≡ reading s
    read_is = ap (held f) (sym e) ∙ fills.answer

    abbrev R : Pool
    R = tabled (Tabling f.nodes f.literals f.expressions k.nodes k.expressions)

    pool-is : pool_of (input_in f k) ≡ R
    unfolding input_in tabled
    pool-is = refl

    formed : Shaped R → WellFormed (input_of R)
    unfolding input_in tabled
    formed a = read-formed s (input_in f k) (sym read_is) (shaped-few R a)

    pub read-asks : ReadAsks f.nodes f.literals f.expressions k
    read-asks =
        let z = read-within s f k read_is in
        record {
          nodes = z.nodes;
          expressions = z.expressions;
          wide = record { nodes = fills.sized.nodes; literals = fills.sized.literals; expressions = fills.sized.expressions };
          formed = formed;
        }

    back_in : Verdict R [] (done tt) → (x : Choice) → Accepts R q x → Back R (question_of q x)
    back_in y x o =
        let a = (exactly_0 R (done tt) y).0 refl in
        let size : length (forest R) ≡ k.expressions = forest-size R ∙ expression-count (Tabling f.nodes f.literals f.expressions k.nodes k.expressions) in
        let ids = subst (λ n. AllBelow n q.identities) size (each_at (length (forest R)) q.identities (identities-there (forest R) q.limit q.identities q.vc q.n_bits q.n_bits_ext x o.chose)) in
        let set = subst (λ n. AllBelow n x.set) size (each_at (length (forest R)) x.set (members-there (forest R) q.limit q.identities q.vc q.n_bits q.n_bits_ext x o.chose)) in
        let whole : WholeSizeAsks f.nodes f.literals f.expressions q.identities x.set k.nodes k.expressions = record {
          members = record { shaped = a.0; nodes = read-asks.nodes; expressions = read-asks.expressions; there = set };
          some = some_one (forest R) q.identities q.vc q.n_bits q.n_bits_ext q.limit x o.chose;
        } in
        let fine : judged-by (forest R) k.nodes q.vc (columns_of q x.q) q.identities x.set ≡ done tt =
        ap (λ n. judged-by (forest R) n q.vc (columns_of q x.q) q.identities x.set) (sym (node-count (Tabling f.nodes f.literals f.expressions k.nodes k.expressions))) ∙ o.fine in
        back-asks f.nodes f.literals f.expressions q.identities x.set k.nodes k.expressions q.vc v16 (columns_of q x.q)
        (constraint-asks whole (columns_of q x.q) q.vc ids (sym fine)) (formed a.0) a.1

    tells-read : (z : Answer Choice) (t : Left) (d : Decided) → Tells R q z t d → TellsRead s q z t d
    tells-read z t (Err d) h = h
    tells-read z t (Ok n) h = (input_in f k, sym read_is, subst (λ p. Ready p q z t n) (sym pool-is) h)

    pub read : (t : Left) (d : Decided) → (z : Answer Choice) × Chooses R q c z × Tells R q z t d → DecideIs s q c t d
    read t d g =
        record {
          answer = g.0;
          unread = λ k o z. absurd (done-not-refused (read_is ∙ z));
          judged = λ i z. subst (λ p. Chooses p q c g.0) (sym pool-is ∙ ap pool_of (done-same _ _ (read_is ∙ z))) g.1;
          tells = tells-read g.0 t d g.2;
          back = λ i z y x o.
              let e = sym pool-is ∙ ap pool_of (done-same _ _ (read_is ∙ z)) in
              subst (λ p. Back p (question_of q x)) e (back_in (subst (λ p. Verdict p [] (done tt)) (sym e) y) x (subst (λ p. Accepts p q x) (sym e) o));
        }
