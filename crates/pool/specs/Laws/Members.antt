-- What holds of each member of a list.
-- Assumes nothing.
use Rattle.std.specs.Prelude.{refl, List, [], ◌∷◌}
use Rattle.std.proofs.Common.{subst, inl, inr}
use Rattle.meaning.specs.Trees.{Each, Member}

pub each_member : {A : Type 0} (P : A → Type 0) (l : List A) → ((a : A) → Member a l → P a) → Each P l
each_member P [] h = tt
each_member P (b ∷ l) h = (h b (inl refl), each_member P l (λ a m. h a (inr m)))

pub member-each : {A : Type 0} (P : A → Type 0) (l : List A) → Each P l → (a : A) → Member a l → P a
member-each P [] h a m = absurd m
member-each P (b ∷ l) h a (inl e) = subst P e h.0
member-each P (b ∷ l) h a (inr m) = member-each P l h.1 a m
