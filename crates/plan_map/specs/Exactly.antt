-- WHAT `map` ANSWERS, exactly when: why there is no plan; 9 where the bytes of one do not fit; and else the bytes. And only one outcome fits what it promises.
-- Assumes nothing.
use Rattle.std.specs.Prelude.{ℕ, ◌<◌, ◌≤◌, ◌≡◌, refl, Bool, true, false, List, ◌++◌, ◌↔◌, length, drop, leb}
use Rattle.std.proofs.Common.{sym, ◌∙◌, ap, le-leb, leb-true, leb-false}
use Rattle.std.proofs.Math.Option.{Option, none}
use Rattle.std.proofs.lemmas.Bool.{lt-leb}
use Rattle.meaning.specs.Refusals.{Refusal, Answer, done, refused, ◌then◌}
use Rattle.meaning.proofs.Laws.Tests.{done-not-refused}
use Rattle.frames.specs.Reading.{reading}
use Rattle.planning.specs.Planning.{Planned, Plans}
use Rattle.planning.specs.Exactly.{one-plan, one-gone}
use Rattle.plan_map.specs.Numbers.{map_bytes}
use Rattle.plan_map.specs.Whole.{map_by, Mapping, map_says, out_after, MapIs}

-- ---- of a plan

module _ (b : List ℕ) (room : ℕ) (z : Planned) where
  pub by-no-room : room < length (map_bytes b z) → map_by b room z ≡ refused Refusal.full none
  unfolding map_by
  by-no-room h = rw (lt-leb (length (map_bytes b z)) room h)

  pub by_room : length (map_bytes b z) ≤ room → map_by b room z ≡ done (map_bytes b z)
  unfolding map_by
  by_room h = rw (le-leb (length (map_bytes b z)) room h)

-- ---- of what is promised

abbrev told : Answer (List ℕ) → Answer ℕ
told a = a then λ bytes. done (length bytes)

module _ {s b out out' : List ℕ} {r : Mapping} (h : MapIs s b out out' r) where
  -- NO PLAN: the same refusal, and the room as it was
  pub no-plan : {k : Refusal} {o : Option ℕ} → Plans b true (reading s) (refused k o) → (map_says r ≡ refused k o) × (out' ≡ out)
  no-plan {k} {o} g =
      let e : h.goes.0 ≡ refused k o = one-plan b true (reading s) h.goes.0 (refused k o) h.goes.1 g in
      let a : h.answer ≡ refused k o = h.goes.2 ∙ ap (λ (z : Answer Planned). z then map_by b (length out)) e in
      (h.does.says ∙ ap told a, h.does.room ∙ ap (out_after out) a)

  module _ {z : Planned} (g : Plans b true (reading s) (done z)) where
    answers : h.answer ≡ map_by b (length out) z
    answers = h.goes.2 ∙ ap (λ (y : Answer Planned). y then map_by b (length out)) (one-plan b true (reading s) h.goes.0 (done z) h.goes.1 g)

    abbrev bytes : List ℕ
    bytes = map_bytes b z

    -- THE BYTES at the front, all else as it was
    pub written : length bytes ≤ length out → (map_says r ≡ done (length bytes)) × (out' ≡ bytes ++ drop (length bytes) out)
    written l =
        let a : h.answer ≡ done bytes = answers ∙ by_room b (length out) z l in
        (h.does.says ∙ ap told a, h.does.room ∙ ap (out_after out) a)

    -- OR 9, and the room as it was
    pub unwritten : length out < length bytes → (map_says r ≡ refused Refusal.full none) × (out' ≡ out)
    unwritten l =
        let a : h.answer ≡ refused Refusal.full none = answers ∙ by-no-room b (length out) z l in
        (h.does.says ∙ ap told a, h.does.room ∙ ap (out_after out) a)

    -- 9 EXACTLY WHEN THEY DO NOT FIT
    pub exactly-full : (map_says r ≡ refused Refusal.full none) ↔ (length out < length bytes)
    exactly-full = (λ e. by e (leb (length bytes) (length out)) refl, λ l. (unwritten l).0)
      where
        by : map_says r ≡ refused Refusal.full none → (t : Bool) → leb (length bytes) (length out) ≡ t → length out < length bytes
        by e true q = absurd (done-not-refused (sym (written (leb-true (length bytes) (length out) q)).0 ∙ e))
        by e false q = leb-false (length bytes) (length out) q

    -- THE BYTES EXACTLY WHEN THEY FIT
    pub exactly-done : (map_says r ≡ done (length bytes)) ↔ (length bytes ≤ length out)
    exactly-done = (λ e. by e (leb (length bytes) (length out)) refl, λ l. (written l).0)
      where
        by : map_says r ≡ done (length bytes) → (t : Bool) → leb (length bytes) (length out) ≡ t → length bytes ≤ length out
        by e true q = leb-true (length bytes) (length out) q
        by e false q = absurd (done-not-refused (sym e ∙ (unwritten (leb-false (length bytes) (length out) q)).0))

-- ONLY ONE OUTCOME FITS
pub one_map : {s b out o₁ o₂ : List ℕ} {r₁ r₂ : Mapping} → MapIs s b out o₁ r₁ → MapIs s b out o₂ r₂ → (map_says r₁ ≡ map_says r₂) × (o₁ ≡ o₂)
one_map {s} {b} {out} g h =
    let e : g.answer ≡ h.answer = one-gone b true (map_by b (length out)) (reading s) g.answer h.answer g.goes h.goes in
    (g.does.says ∙ ap told e ∙ sym h.does.says, g.does.room ∙ ap (out_after out) e ∙ sym h.does.room)
