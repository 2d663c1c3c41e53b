-- Laws of what a reference becomes by the tables: what each way through the code makes.
-- Assumes nothing.
use Rattle.std.specs.Prelude.{ℕ, ◌+◌, ◌-◌, ◌≡◌, refl, false, List, get_or, eqb}
use Rattle.std.proofs.Common.{sym, ◌∙◌, ap, arith}
use borrow.Author.Tests.{eq-eqb, ne_eqb}
use Rattle.kinds.specs.KindBytes as kind
use Rattle.kinds.specs.Write.{write}
use Rattle.kinds.specs.BigEndian.{u16_bytes}
use Rattle.kinds.specs.References.{ref_at, ref_bytes}
use Rattle.kinds.specs.declared.reference.Reference.{Reference}
use Rattle.lists.specs.Parts.{Bytes, ref-there, put-p}
use Rattle.fixing.specs.ProverCode.{rule_kind, rule_id, rule_dim, rule_for}
use Rattle.fixing.specs.Machine.{temporary_in, expression_in, reference_in}

-- a reference of kind k, with this id, dimension and extra
abbrev pub as_kind : ℕ → ℕ → ℕ → ℕ → Reference → Reference
as_kind k id d x r = record { kind = k; prime = r.prime; id = id; dim = d; p = r.p; tree_pos = r.tree_pos; extra = x }

module _ (rules plain primed : List ℕ) (r : Reference) (rule : ℕ) (q : rule ≡ rule_for rules r.id) (k : ℕ) (p : k ≡ rule_kind rule) where
  kind-is : k ≡ rule_kind (rule_for rules r.id)
  kind-is = p ∙ ap rule_kind q

  pub becomes-cm : k ≡ kind.cm → (i : ℕ) → i ≡ rule_id rule → as_kind kind.cm i r.dim r.extra r ≡ expression_in rules plain primed r
  unfolding expression_in
  becomes-cm h i e = rw (eq-eqb (rule_kind (rule_for rules r.id)) kind.cm (sym kind-is ∙ h), e, q)

  module _ (no : k ≡ kind.cm → ⊥) where
    not-cm : eqb (rule_kind (rule_for rules r.id)) kind.cm ≡ false
    not-cm = ne_eqb (rule_kind (rule_for rules r.id)) kind.cm (λ z. no (kind-is ∙ z))

    pub becomes-column : k ≡ kind.tmp_exp → (i : ℕ) → i ≡ rule_id rule → (d : ℕ) → d ≡ rule_dim rule → as_kind kind.tmp_exp i d r.extra r ≡ expression_in rules plain primed r
    unfolding expression_in
    becomes-column h i e d f = rw (not-cm, eq-eqb (rule_kind (rule_for rules r.id)) kind.tmp_exp (sym kind-is ∙ h), e, f, q)

    module _ (neither : k ≡ kind.tmp_exp → ⊥) (t : ℕ) (e : t ≡ temporary_in plain primed r.prime r.id) where
      not-column : eqb (rule_kind (rule_for rules r.id)) kind.tmp_exp ≡ false
      not-column = ne_eqb (rule_kind (rule_for rules r.id)) kind.tmp_exp (λ z. neither (kind-is ∙ z))

      pub stays-exp : t ≡ 0 → r ≡ expression_in rules plain primed r
      unfolding expression_in
      stays-exp h = rw (not-cm, not-column, eq-eqb (temporary_in plain primed r.prime r.id) 0 (sym e ∙ h))

      pub becomes-tmp : (t ≡ 0 → ⊥) → as_kind kind.tmp (t - 1) r.dim r.id r ≡ expression_in rules plain primed r
      unfolding expression_in
      becomes-tmp h = rw (not-cm, not-column, ne_eqb (temporary_in plain primed r.prime r.id) 0 (λ z. h (e ∙ z)), e)

module _ (rules cms plain primed : List ℕ) where
  pub reference-cm :
      (r : Reference) → r.kind ≡ kind.cm → (p : ℕ) → p ≡ get_or cms r.id 0 →
      record { kind = kind.cm; prime = r.prime; id = r.id; dim = r.dim; p = p; tree_pos = r.tree_pos; extra = r.extra } ≡ reference_in rules cms plain primed r
  unfolding reference_in
  reference-cm r h p e = rw (eq-eqb r.kind kind.cm h, e)

  pub reference-exp : (r : Reference) → r.kind ≡ kind.exp → (x : Reference) → x ≡ expression_in rules plain primed r → x ≡ reference_in rules cms plain primed r
  unfolding reference_in
  reference-exp r h x e = rw (ne_eqb r.kind kind.cm (λ z. omega arith), eq-eqb r.kind kind.exp h) e

  pub reference-other : (r : Reference) → (r.kind ≡ kind.cm → ⊥) → (r.kind ≡ kind.exp → ⊥) → r ≡ reference_in rules cms plain primed r
  unfolding reference_in
  reference-other r h k = rw (ne_eqb r.kind kind.cm h, ne_eqb r.kind kind.exp k)

  -- ---- in place
  module _ (l : List ℕ) (i : ℕ) where
    abbrev puts : Reference → List ℕ
    puts x = write l i (ref_bytes x)

    pub put-cm :
        Bytes l → (ref_at l i).kind ≡ kind.cm → (id : ℕ) → id ≡ (ref_at l i).id → (p : ℕ) → p ≡ get_or cms id 0 → (l₁ : List ℕ) → l₁ ≡ write l (i + 6) (u16_bytes p) →
        l₁ ≡ puts (reference_in rules cms plain primed (ref_at l i))
    put-cm b h id is p e l₁ w =
        let r = ref_at l i in
        let f : p ≡ get_or cms r.id 0 = e ∙ ap (λ n. get_or cms n 0) is in
        w ∙ put-p l i p b r refl
        ∙ ap (λ k. puts (record { kind = k; prime = r.prime; id = r.id; dim = r.dim; p = p; tree_pos = r.tree_pos; extra = r.extra })) h
        ∙ ap puts (reference-cm r h p f)

    pub put-exp :
        (ref_at l i).kind ≡ kind.exp → (r : Reference) → r ≡ ref_at l i → (x : Reference) → x ≡ expression_in rules plain primed r → (l₁ : List ℕ) → l₁ ≡ puts x →
        l₁ ≡ puts (reference_in rules cms plain primed (ref_at l i))
    put-exp h r is x e l₁ w = w ∙ ap puts (reference-exp (ref_at l i) h x (e ∙ ap (expression_in rules plain primed) is))

    pub put_other : Bytes l → ((ref_at l i).kind ≡ kind.cm → ⊥) → ((ref_at l i).kind ≡ kind.exp → ⊥) → l ≡ puts (reference_in rules cms plain primed (ref_at l i))
    put_other b h k = sym (ref-there l i b) ∙ ap puts (reference-other (ref_at l i) h k)
