-- What is declared of a variable, as its reference has it.
use Rattle.std.proofs.Common.{◌≡◌, Option, Some, None, refl, sym, ap, ◌∙◌}
use Rattle.std.specs.Prelude.{ℤ, pos, negsuc, option_map}
use Rattle.jz_words.specs.declared.size.Size.{Size}
use Rattle.jz_words.specs.Sizes.{modulus}
use Rattle.jz_tree.specs.declared.expr.Expr.{Expr}
use Rattle.jz_tree.specs.declared.expr.Ty.{Ty}
use Rattle.jz_tree.specs.declared.expr.Access.{Access}
use Rattle.jz_tree.specs.declared.expr.Decl.{Decl}
use Rattle.jz_tree.specs.declared.expr.Var.{Var}
use Rattle.jz_tree.specs.declared.expr.Expr.TheOpen.{Ty-F, Var-F}
use Rattle.jz_tree.specs.declared.expr.Expr.TheViews.{out-Ty, roll-out-Ty, out-Decl, roll-out-Decl, out-Var, roll-out-Var}
use Rattle.jz_tree.specs.declared.expr.Expr.TheFolds.{fold-Ty, fold-roll-Ty, fold-roll-Decl, fold-roll-Var, map-Ty, map-Var}
use Rattle.jz_type_names.specs.declared.kinds.Kind.TheVariants as scope
use Rattle.jz_type_names.specs.Kinds.{kind_step, kind_of, declared_of, known_of}
use Rattle.jz_meaning.specs.declared.access.Kind.{Kind}
use Rattle.jz_meaning.specs.declared.access.Kind.TheVariants as kind
use Rattle.jz_meaning.specs.Values.{Meaning, MemoryAccess, Ref, meaning_of, ref_of, access_of, declared_kind, expr_step, ty_step, access_step, decl_step, var_step, array_kind, kind_or}
use Rattle.jz_preconditions.specs.Naming.{values_of, values_of_kind}

abbrev ty_meant : Ty → Kind
ty_meant = fold-Ty Meaning Kind MemoryAccess Kind Ref expr_step ty_step access_step decl_step var_step

-- ---- a variable
abbrev opened : Var-F Expr Ty Access Decl Var → Ref
opened x = var_step (map-Var _ _ _ _ _ Meaning Kind MemoryAccess Kind Ref meaning_of ty_meant access_of declared_kind ref_of x)

ref_is : (v : Var) → ref_of v ≡ opened (out-Var v)
ref_is v = ap ref_of (sym (roll-out-Var v)) ∙ fold-roll-Var Meaning Kind MemoryAccess Kind Ref expr_step ty_step access_step decl_step var_step (out-Var v)

pub name_is : (v : Var) → (ref_of v).name ≡ (out-Var v).name
name_is v = ap (λ r. r.name) (ref_is v)

pub copy_is : (v : Var) → (ref_of v).copy ≡ (out-Var v).copy
copy_is v = ap (λ r. r.copy) (ref_is v)

kind_opened : (x : Var-F Expr Ty Access Decl Var) → (opened x).kind ≡ kind_or (option_map declared_kind x.decl)
kind_opened x = elim x.decl as (λ d. (opened (record x { decl = d })).kind ≡ kind_or (option_map declared_kind d)) [ None ↦ refl | Some d ↦ refl ]

pub kind_is : (v : Var) → (ref_of v).kind ≡ kind_or (option_map declared_kind (out-Var v).decl)
kind_is v = ap (λ r. r.kind) (ref_is v) ∙ kind_opened (out-Var v)

-- ---- a word
no_array : (s : Size) (o : Option ℤ) (z : Size) → array_kind s o ≡ kind.Word z → ⊥
no_array s None z e = cc
no_array s (Some (pos n)) z e = cc
no_array s (Some (negsuc n)) z e = cc

word_layer : (x : Ty-F Expr Ty Access Decl Var) (z : Size) → ty_step (map-Ty _ _ _ _ _ Meaning Kind MemoryAccess Kind Ref meaning_of ty_meant access_of declared_kind ref_of x) ≡ kind.Word z → kind_step x ≡ scope.Word z
word_layer Ty-F.Int z e = cc
word_layer Ty-F.Ty::Bool z e = cc
word_layer (Ty-F.Word y) z e = cc
word_layer (Ty-F.Array y n) z e = absurd (no_array y (meaning_of n).literal z e)

word_type : (t : Ty) (z : Size) → ty_meant t ≡ kind.Word z → kind_of t ≡ scope.Word z
word_type t z e =
    word_layer (out-Ty t) z
    (sym (ap ty_meant (sym (roll-out-Ty t)) ∙ fold-roll-Ty Meaning Kind MemoryAccess Kind Ref expr_step ty_step access_step decl_step var_step (out-Ty t)) ∙ e)

declared_is : (d : Decl) → declared_kind d ≡ ty_meant (out-Decl d).ty
declared_is d = ap declared_kind (sym (roll-out-Decl d)) ∙ fold-roll-Decl Meaning Kind MemoryAccess Kind Ref expr_step ty_step access_step decl_step var_step (out-Decl d)

by_declaration : (d : Option Decl) (z : Size) → kind_or (option_map declared_kind d) ≡ kind.Word z → values_of (option_map declared_of d) ≡ modulus z
by_declaration None z e = cc
by_declaration (Some d) z e = ap values_of_kind (word_type (out-Decl d).ty z (sym (declared_is d) ∙ e))

-- a word of this size has as many values
pub word_values : (v : Var) (z : Size) → (ref_of v).kind ≡ kind.Word z → values_of (known_of v) ≡ modulus z
word_values v z e = by_declaration (out-Var v).decl z (sym (kind_is v) ∙ e)
