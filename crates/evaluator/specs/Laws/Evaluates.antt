-- THE ANSWER, by the way that the code comes to it: each is what Answer.antt says.
-- Assumes nothing.
use Rattle.std.specs.Prelude.{Result, Ok, Err, ℕ, ◌≤◌, ◌≡◌, refl, Bool, true, false, ◌&&◌, List, [], length, replicate, leb}
use Rattle.std.proofs.Common.{sym, ◌∙◌, ap, subst}
use Rattle.std.proofs.Math.Option.{Option, none}
use borrow.Author.Tests.{leb-true}
use Rattle.meaning.specs.Refusals.{Refusal, Answer, done, refused}
use Rattle.meaning.proofs.Laws.Tests.{and_left, and_right, done-same, done-not-refused, true-false}
use Rattle.kinds.specs.Answers.{refusal_of, blame_of, refusing}
use Rattle.kinds.specs.declared.refusal.Refusal as code
use Rattle.kinds.specs.declared.refusal.Refusal.TheVariants as refusal
use Rattle.kinds.specs.declared.refusal.Refused.{Refused}
use Rattle.frames.specs.Order.{Input, node_limit}
use Rattle.frames.specs.Tables.{Tables, input_in}
use Rattle.frames.specs.Reading.{held}
use Rattle.frames.specs.declared.count.Counts.{Counts}
use Rattle.pool.specs.Pool.{Pool}
use Rattle.pool.specs.Verdict.{Verdict}
use Rattle.pool.specs.Numbered.{pool_of}
use Rattle.pool.specs.Ranking.{Tabling}
use Rattle.pool.specs.Tabled.{tabled}
use Rattle.requests.specs.Whole.{pool_in}
use Rattle.requests.specs.Reads.{ReadInto, read_is, pool-is}
use Rattle.lists.specs.Records.{good_list}
use Rattle.evaluator_cells.specs.Numbers.{Modulus}
use Rattle.evaluator_cells.specs.Given.{lent, good_values}
use Rattle.evaluator_cells.specs.Literals.{brought_at, NumbersAre, NumbersOf, FillAsks}
use Rattle.evaluator_cells.specs.Laws.Literals.{numbers_of, numbers-below}
use Rattle.evaluator_run.specs.Evaluation.{Valued, well_formed, ruling}
use Rattle.evaluator_run.specs.Computing.{ComputeAsks, ComputeGiven, computed_says}
use Rattle.evaluator.specs.Answer.{Evaluation, Judged, Evaluates, answer_says, Tells, PoolAsks, PoolEvaluated, ReadEvaluated}

-- ---- an admitted pool

-- what is well formed, part by part
module _ (list : List ℕ) (m : ℕ) (ws : List ℕ) (h : well_formed ws m list ≡ true) where
  rest : (good_list list && good_values ws) ≡ true
  unfolding well_formed
  rest = and_right (leb 2 m) (good_list list && good_values ws) h

  pub formed-modulus : 2 ≤ m
  unfolding well_formed
  formed-modulus = leb-true 2 m (and_left (leb 2 m) (good_list list && good_values ws) h)

  pub formed-list : good_list list ≡ true
  formed-list = and_left (good_list list) (good_values ws) rest

  pub formed-values : good_values ws ≡ true
  formed-values = and_right (good_list list) (good_values ws) rest

module _ {count : ℕ} {list : List ℕ} {m : ℕ} {ws : List ℕ} (a : PoolAsks count list m ws) where
  pub modulus : Modulus m
  modulus = record { from = formed-modulus list m ws a.formed; small = a.small }

  pub fill-asks : (ns : List ℕ) → ns ≡ replicate node_limit 0 → FillAsks count m ns
  fill-asks ns e = record { few = a.few; modulus = modulus; zeros = e }

  module _ {nodes literals ns : List ℕ} (f : NumbersAre nodes literals m count ns) where
    brought : (e : List ℕ) (k : ℕ) → NumbersOf (brought_at (tabled (Tabling nodes literals e count k))) m ns
    brought e k = numbers_of (Tabling nodes literals e count k) m modulus ns a.few f

    pub compute-asks : ComputeAsks ns ws m list
    compute-asks =
        record {
          lends = record { good = formed-values list m ws a.formed; modulus = modulus };
          reduced = numbers-below (brought_at (tabled (Tabling nodes literals [] count 0))) m ns modulus (brought [] 0) f.size;
          good = formed-list list m ws a.formed;
        }

    -- the answer is what was computed
    pub pool-told :
        {out out' : List ℕ} {c : Result ℕ code.Refusal} {r : Evaluation} → ComputeGiven ns ws m list out out' c → answer_says r ≡ computed_says c
        → PoolEvaluated nodes literals count list m ws out out' r
    pool-told g q e k =
        let z = g (brought_at (tabled (Tabling nodes literals e count k))) (brought e k) in
        record { says = q ∙ z.says; bytes = z.bytes }

pub told_as : {c d : Result ℕ code.Refusal} {x : Answer ℕ} → c ≡ d → x ≡ computed_says d → x ≡ computed_says c
told_as e h = h ∙ ap computed_says (sym e)

-- ---- what was read

module _ (nodes literals expressions : List ℕ) (c : Counts) (list : List ℕ) (m : ℕ) (ws out : List ℕ) {b : Bool} (e : b ≡ well_formed ws m list) where
  pub ill-formed : b ≡ false → ReadEvaluated nodes literals expressions c list m ws out out (refusing refusal.Malformed)
  ill-formed h =
      record {
        answer = refused Refusal.malformed none;
        malformed = λ q. refl;
        judged = λ q. absurd (true-false q (sym e ∙ h));
        tells = record { says = refl; bytes = refl };
      }

  module _ (h : b ≡ true) where
    pub pool-refused :
        {k : Refusal} {o : Option ℕ} {r : Evaluation} → Verdict (pool_in nodes literals expressions c) [] (refused k o) → answer_says r ≡ refused k o
        → ReadEvaluated nodes literals expressions c list m ws out out r
    pool-refused {k} {o} v q =
        record {
          answer = refused k o;
          malformed = λ z. absurd (true-false (sym e ∙ h) z);
          judged = λ z. (refused k o, v, refl);
          tells = record { says = q; bytes = refl };
        }

    pub pool-admitted :
        {out' : List ℕ} {r : Evaluation} → Verdict (pool_in nodes literals expressions c) [] (done tt)
        → PoolEvaluated nodes literals c.nodes list m ws out out' r → ReadEvaluated nodes literals expressions c list m ws out out' r
    pool-admitted v p =
        record {
          answer = ruling (brought_at (pool_in nodes literals expressions c)) (lent ws) m list (length out);
          malformed = λ z. absurd (true-false (sym e ∙ h) z);
          judged = λ z. (done tt, v, refl);
          tells = p expressions c.expressions;
        }

-- ---- frames

refused-both : {A B : Type 0} {k l : Refusal} {o p : Option ℕ} → ◌≡◌ {A = Answer A} (refused k o) (refused l p) → ◌≡◌ {A = Answer B} (refused k o) (refused l p)
refused-both {k = k} {l = l} {o = o} {p = p} e =
    let a : k ≡ l = cc in
    let b : o ≡ p = cc in
    rw (a, b)

module _ {u : Tables} {x : Answer Input} {r : Result Counts Refused} (a : ReadInto u r x) (list : List ℕ) (m : ℕ) (ws : List ℕ) (out : List ℕ) where
  unread : {k : Refusal} {o : Option ℕ} → refused k o ≡ x → Evaluates list m ws (length out) x (refused k o)
  unread h =
      record {
        unread = λ k o q. refused-both (h ∙ q);
        malformed = λ i q. absurd (done-not-refused (sym q ∙ sym h));
        judged = λ i q. absurd (done-not-refused (sym q ∙ sym h));
      }

  abbrev Is : List ℕ → Evaluation → Type 0
  Is out' g = (z : Answer (List Valued)) × Evaluates list m ws (length out) x z × Tells z out out' g

  pub unread-told : {f : Refused} → r ≡ Err f → Is out (Err f)
  unread-told {f} q = (refused (refusal_of f.refusal) (blame_of f.node), unread (ap (held u) (sym q) ∙ a.answer), record { says = refl; bytes = refl })

  pub read_told : {c : Counts} {out' : List ℕ} {g : Evaluation} → r ≡ Ok c → ReadEvaluated u.nodes u.literals u.expressions c list m ws out out' g → Is out' g
  read_told {c} q h = (
    h.answer,
    record {
      unread = λ k o e. absurd (done-not-refused (read_is a q ∙ e));
      malformed = λ i e w. h.malformed w;
      judged = λ i e w.
          let j : input_in u c ≡ i = done-same _ _ (read_is a q ∙ e) in
          subst (λ (y : Input). Judged list m ws (length out) (pool_of y) h.answer) j
          (subst (λ (p : Pool). Judged list m ws (length out) p h.answer) (sym (pool-is a q)) (h.judged w));
    },
    h.tells,
  )
