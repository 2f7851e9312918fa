-- What a variable of a typed text is declared as, and so each copy of it.
use Rattle.std.proofs.Common.{◌≡◌, ℕ, ◌≤◌, pos, Option, Some, true, refl, sym, ap, ◌∙◌, subst}
use Rattle.std.specs.Prelude.{⊤, ℤ, All, option_map}
use Rattle.std.proofs.lemmas.Bool.{false≢true}
use Rattle.jz_words.specs.declared.size.Size.{Size}
use Rattle.jz_tree.specs.declared.expr.Storage.{Storage}
use Rattle.jz_tree.specs.declared.expr.Storage.TheVariants as storage
use Rattle.jz_tree.specs.declared.expr.Decl.{Decl}
use Rattle.jz_tree.specs.declared.expr.Expr.{Expr}
use Rattle.jz_tree.specs.declared.expr.Ty.{Ty}
use Rattle.jz_tree.specs.declared.expr.Access.{Access}
use Rattle.jz_tree.specs.declared.expr.Var.{Var}
use Rattle.jz_tree.specs.declared.expr.Expr.TheOpen.{Var-F}
use Rattle.jz_tree.specs.declared.expr.Expr.TheViews.{out-Var, out-roll-Var}
use Rattle.jz_tree.specs.declared.program.Fun.{Fun}
use Rattle.jz_tree.specs.declared.program.Program.{Program}
use Rattle.jz_type_names.specs.declared.kinds.Kind as known
use Rattle.jz_type_names.specs.declared.kinds.Kind.TheVariants as scope
use Rattle.jz_type_names.specs.Kinds.{kind_of, written_length}
use Rattle.jz_type_names.specs.Scopes.{variables_of}
use Rattle.jz_type_storage.specs.Declarations.{may_keep}
use Rattle.jz_judgement.proofs.Nothing.{same_some}
use Rattle.jz_meaning.specs.declared.access.Kind.{Kind}
use Rattle.jz_meaning.specs.declared.access.Kind.TheVariants as kind
use Rattle.jz_meaning.specs.Values.{Ref, ref_of, array_kind, declared_kind, kind_or}
use Rattle.jz_bodies.proofs.Refs.{ref_kind, kind_from, decl_kind}
use Rattle.jz_bodies.proofs.Variables.{IsVariable}
use Rattle.jz_bodies.proofs.Whole.{IsKnown, own_variables}
use Rattle.jz_inline.specs.Names.{Names, var_in}
use Rattle.jz_inline.proofs.Reading.{ref_so}
use Rattle.jz_inline_laws.proofs.ClearVars.{IsClear, clear_own}

-- ---- kinds by storage
abbrev pub HasCells : ℕ → Type 0
HasCells n = (1 ≤ n) × (n ≤ 65536)

abbrev pub InRegisters : Kind → Type 0
InRegisters (kind.Word z) = ⊤
InRegisters kind.Bool = ⊤
InRegisters (kind.Array z n) = HasCells n
InRegisters kind.Int = ⊥
InRegisters kind.Undeclared = ⊥

abbrev pub OnStack : Kind → Type 0
OnStack (kind.Word z) = ⊤
OnStack kind.Bool = ⊥
OnStack (kind.Array z n) = HasCells n
OnStack kind.Int = ⊥
OnStack kind.Undeclared = ⊥

abbrev pub Fits : Storage → Kind → Type 0
Fits storage.Reg k = InRegisters k
Fits storage.Stack k = OnStack k
Fits storage.Inline k = ⊤

-- ---- variables
pub record IsFit (v : Var) : Type 0 where
  pub decl : Decl
  pub is : (out-Var v).decl ≡ Some decl
  pub fits : Fits decl.storage (ref_of v).kind

-- a length that is written
pub record IsLength (l : Option ℤ) : Type 0 where
  pub count : ℕ
  pub least : 1 ≤ count
  pub most : count ≤ 65536
  pub written : l ≡ Some (pos count)

array_fits : (s : Storage) (z : Size) (l : Option ℤ) → ((n : ℕ) → HasCells n → Fits s (kind.Array z n)) → IsLength l → Fits s (array_kind z l)
array_fits s z l f h = subst (λ m. Fits s (array_kind z m)) (sym h.written) (f h.count (h.least, h.most))

fits_from : (s : Storage) (k : known.Kind) (l : Option ℤ) → may_keep s k ≡ true → ((z : Size) → k ≡ scope.Array z → IsLength l) → Fits s (kind_from k l)
fits_from storage.Inline k l e c = tt
fits_from storage.Reg scope.Int l e c = absurd (false≢true e)
fits_from storage.Reg scope.Truth l e c = tt
fits_from storage.Reg (scope.Word z) l e c = tt
fits_from storage.Reg (scope.Array z) l e c = array_fits storage.Reg z l (λ n h. h) (c z refl)
fits_from storage.Stack scope.Int l e c = absurd (false≢true e)
fits_from storage.Stack scope.Truth l e c = absurd (false≢true e)
fits_from storage.Stack (scope.Word z) l e c = tt
fits_from storage.Stack (scope.Array z) l e c = array_fits storage.Stack z l (λ n h. h) (c z refl)

-- ---- of a typed text
module _ (p : Program) (f : Fun) where
  one_fit : (v : Var) → IsClear f v → IsVariable p f v → IsFit v
  one_fit v a b =
      let same : a.decl ≡ b.decl = same_some a.decl b.decl (sym a.is ∙ b.is) in
      let kept : may_keep b.decl.storage (kind_of b.decl.ty) ≡ true = subst (λ (d : Decl). may_keep d.storage (kind_of d.ty) ≡ true) same a.kept in
      let is : (ref_of v).kind ≡ kind_from (kind_of b.decl.ty) (written_length b.decl) = ref_kind v ∙ (ap (λ o. kind_or (option_map declared_kind o)) b.is ∙ decl_kind b.decl) in
      record {
        decl = b.decl;
        is = b.is;
        fits = subst (Fits b.decl.storage) (sym is)
            (fits_from b.decl.storage (kind_of b.decl.ty) (written_length b.decl) kept
            (λ z e. (let h = b.counted z e in record { count = h.count; least = h.least; most = h.most; written = h.written })));
      }

  pub all_fit : IsKnown p f → All IsFit (variables_of f)
  all_fit k =
      let clear = clear_own p f k in
      let own = own_variables p f k in
      λ i v l. one_fit _ (clear i v l) (own i v l)

-- ---- of a copy
module _ (names : Names) where
  decl_in : (v : Var) → (out-Var (var_in names v)).decl ≡ (out-Var v).decl
  decl_in v = ap (λ (x : Var-F Expr Ty Access Decl Var). x.decl) (out-roll-Var _)

  pub copied_fit : (v : Var) → IsFit v → IsFit (var_in names v)
  copied_fit v h = record {
    decl = h.decl;
    is = decl_in v ∙ h.is;
    fits = subst (Fits h.decl.storage) (sym (ap (λ (r : Ref). r.kind) (ref_so names v))) h.fits;
  }
