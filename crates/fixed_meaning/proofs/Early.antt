-- A list that reads nothing early, renamed, reads nothing early; and so a fixed list, where an intermediate's column counts as having no value.
-- Assumes nothing.
use Rattle.std.specs.Prelude.{◌≡◌, ℕ, zero, suc, List, [], ◌∷◌}
use Rattle.std.proofs.Common.{inl, inr}
use Rattle.meaning.specs.Trees.{RowKind, Each, Member, up_to}
use Rattle.meaning.specs.Steps.{Kind, Cell, place, Ref, Step}
use Rattle.meaning.specs.Demand3.{Ungiven, Written, needs, writing, NoEarlyRead}
use Rattle.fixed_meaning.specs.Fixing.{Plan, Map, rename_ref, fix_cell}
use Rattle.fixed_meaning.specs.Demand3Fixed.{Unset, WrittenOf, NoEarlyReadOf}
use Rattle.fixed_meaning.specs.Renaming.{rename_refs, rename, InRef, In}
use Rattle.fixed_meaning.proofs.OneToOne.{Occurs}

-- `together`: cells of one place have one place renamed
module _ (P N : Cell → Type 0) (f : Cell → Cell) (together : (c d : Cell) → P c → P d → place c ≡ place d → place (f c) ≡ place (f d)) (back : (c : Cell) → P c → N (f c) → Ungiven c) where
  -- the cells written, renamed: each is the place of a cell of P
  record Follow (ds ds' : List Cell) : Type 0 where
    goes : (c : Cell) → P c → Member (place c) ds → Member (place (f c)) ds'

  ref_written : (ds ds' : List Cell) → Follow ds ds' → (x : Ref) → InRef P x → Written ds x → WrittenOf N ds' (rename_ref f x)
  ref_written ds ds' k (Ref.var c) p h = λ u. k.goes c p (h (back c p u))
  ref_written ds ds' k (Ref.number l n) p h = tt

  refs-written :
      (ds ds' : List Cell) → Follow ds ds' → (n : ℕ) (xs : List Ref) → Each (InRef P) xs → Each (Written ds) (up_to n xs) →
      Each (WrittenOf N ds') (up_to n (rename_refs f xs))
  refs-written ds ds' k zero xs p h = tt
  refs-written ds ds' k (suc n) [] p h = tt
  refs-written ds ds' k (suc n) (x ∷ xs) p h = (ref_written ds ds' k x p.0 h.0, refs-written ds ds' k n xs p.1 h.1)

  writing_follow : (ds ds' : List Cell) → Follow ds ds' → (d : Ref) → InRef P d → Follow (writing d ds) (writing (rename_ref f d) ds')
  writing_follow ds ds' k (Ref.var d) p = record { goes = go }
    where
      go : (c : Cell) → P c → Member (place c) (place d ∷ ds) → Member (place (f c)) (place (f d) ∷ ds')
      go c q (inl e) = inl (together d c p q e)
      go c q (inr m) = inr (k.goes c q m)
  writing_follow ds ds' k (Ref.number l n) p = k

  early_renamed : (ds ds' : List Cell) → Follow ds ds' → (xs : List Step) → In P xs → NoEarlyRead ds xs → NoEarlyReadOf N ds' (rename f xs)
  early_renamed ds ds' k [] p h = tt
  early_renamed ds ds' k (x ∷ xs) p h = (
    refs-written ds ds' k (needs x.op) x.sources p.0.1 h.0,
    early_renamed (writing x.destination ds) (writing (rename_ref f x.destination) ds') (writing_follow ds ds' k x.destination p.0.0) xs p.1 h.1,
  )

  pub nothing-early : (xs : List Step) → In P xs → NoEarlyRead [] xs → NoEarlyReadOf N [] (rename f xs)
  nothing-early xs p h = early_renamed [] [] (record { goes = λ c q m. m }) xs p h

-- a cell that occurs and without a value of its own when fixed had none before
pub unset_back : (L : Plan) (n : ℕ) (m : Map) (c : Cell) → Occurs L n c → Unset L (fix_cell L m c) → Ungiven c
unset_back L n m (Cell.cell (Kind.row RowKind.cm) i r) o h = o h.0 h.1
unset_back L n m (Cell.cell (Kind.row RowKind.const) i r) o h = h
unset_back L n m (Cell.cell (Kind.row RowKind.q) i r) o h = h
unset_back L n m (Cell.cell (Kind.flat k) i r) o h = h
unset_back L n m (Cell.cell (Kind.x k) i r) o h = h
unset_back L n m (Cell.cell Kind.exp i r) o h = tt
unset_back L n m (Cell.cell Kind.tmp i r) o h = tt
unset_back L n m (Cell.cell Kind.f i r) o h = tt
unset_back L n m (Cell.cell Kind.tmp_exp i r) o h = tt
unset_back L n m (Cell.cell (Kind.bare k) i r) o h = tt
