-- With words in place of cells of register arrays an expression has its types.
use Rattle.std.proofs.Common.{◌≡◌, ℕ, Option, Some, None, Bool, true, false, refl, sym, ap, ◌∙◌, subst, inr, if◌then◌else◌}
use Rattle.std.specs.Prelude.{option_map}
use Rattle.jz_tree.specs.Size.{Size}
use Rattle.jz_tree.specs.declared.expr.Storage.TheVariants as storage
use Rattle.jz_tree.specs.declared.expr.Expr.{Expr}
use Rattle.jz_tree.specs.declared.expr.Ty.{Ty}
use Rattle.jz_tree.specs.declared.expr.Ty.TheVariants as ty
use Rattle.jz_tree.specs.declared.expr.Access.{Access}
use Rattle.jz_tree.specs.declared.expr.Decl.{Decl}
use Rattle.jz_tree.specs.declared.expr.Var.{Var}
use Rattle.jz_tree.specs.declared.expr.Expr.TheOpen.{Expr-F, Access-F, Ty-F, Var-F}
use Rattle.jz_tree.specs.declared.expr.Expr.TheViews.{out-Expr, out-Access, out-Var, out-Ty, roll-Expr, out-roll-Expr, out-roll-Access, out-roll-Var, out-roll-Ty, roll-out-Expr, roll-out-Access}
use Rattle.jz_tree.specs.declared.stmt.Lval.{Lval}
use Rattle.jz_tree.specs.declared.stmt.Lval.TheVariants as lval
use Rattle.jz_type_names.specs.declared.kinds.Kind.TheVariants as kind
use Rattle.jz_type_names.specs.Kinds.{kind_step, kind_of, declared_of, known_of}
use Rattle.jz_judgement.specs.Places.{ArrayKind, IsArrayOf, IsWordOf, WordKind}
use Rattle.jz_judgement.specs.HasType.{Layer}
use Rattle.jz_arrays.specs.Cells.{is_register, cells_of_ty, cells_of_decl, size_at, cell_in, scalar, cell_or, with_scalars, access_with_scalars, left_or, left_with_scalars}
use Rattle.jz_arrays.proofs.Reading.{rolled, in_is, access_in_is}
use Rattle.jz_kept_types.proofs.Turning.{AccessTurns, Turns, t_number, t_truth, t_variable, t_cell, t_scalar, t_load, t_minus, t_denial, t_cast, t_two, LeftTurns, l_nothing, l_variable, l_cell, l_scalar, l_store, IsTurning}

abbrev T : Expr → Expr
T = with_scalars

-- ---- the word of a cell
same_size : (y z : Size) → Some y ≡ Some z → y ≡ z
same_size y z e = cc

array_ty : (t : Ty-F Expr Ty Access Decl Var) (z : Size) → cells_of_ty t ≡ Some z → ArrayKind z (kind_step t)
array_ty (Ty-F.Array y n) z e = same_size y z e
array_ty Ty-F.Int z e = absurd cc
array_ty Ty-F.Ty::Bool z e = absurd cc
array_ty (Ty-F.Word y) z e = absurd cc

array_decl : (d : Option Decl) (z : Size) → cells_of_decl d ≡ Some z → IsArrayOf z (option_map declared_of d)
array_decl None z e = absurd cc
array_decl (Some d) z e = by (is_register d.storage) e
  where
    by : (b : Bool) → (if b then cells_of_ty (out-Ty d.ty) else None) ≡ Some z → ArrayKind z (kind_of d.ty)
    by true q = array_ty (out-Ty d.ty) z q
    by false q = absurd cc

array_at : (v : Var) (z : Size) → size_at v ≡ Some z → IsArrayOf z (known_of v)
array_at v z e = array_decl (out-Var v).decl z e

pub word_ty : (z : Size) → kind_of (ty.Word z) ≡ kind.Word z
word_ty z = ap (λ t. kind_of t) (sym (ty.rolls-Word z)) ∙ ap kind_step (out-roll-Ty (Ty-F.Word z))

pub known_scalar : (v : Var) (z : Size) (n : ℕ) → known_of (scalar v z n) ≡ Some (record { storage = storage.Reg; kind = kind_of (ty.Word z) })
known_scalar v z n = ap (λ (x : Var-F Expr Ty Access Decl Var). option_map declared_of x.decl) (out-roll-Var _)

scalar_word : (v : Var) (z : Size) (n : ℕ) → IsWordOf z (known_of (scalar v z n))
scalar_word v z n = subst (IsWordOf z) (sym (known_scalar v z n)) (subst (WordKind z) (sym (word_ty z)) refl)

-- ---- forms
access_out : (a : Access) → out-Access (access_with_scalars a) ≡ record { size = (out-Access a).size; at = with_scalars (out-Access a).at; unaligned = (out-Access a).unaligned; span = (out-Access a).span }
access_out a =
    ap (λ x. out-Access (access_with_scalars x)) (sym (roll-out-Access a)) ∙ ap out-Access (access_in_is (out-Access a))
    ∙ out-roll-Access _

pub access_turns : (a : Access) → AccessTurns T a (access_with_scalars a)
access_turns a = record {
  size = ap (λ (x : Access-F Expr Ty Access Decl Var). x.size) (access_out a);
  at = ap (λ (x : Access-F Expr Ty Access Decl Var). x.at) (access_out a);
}

turns_rolled : (x y : Layer) → Turns T x y → Turns T x (out-Expr (roll-Expr y))
turns_rolled x y t = subst (Turns T x) (sym (out-roll-Expr y)) t

cell_turns : (v : Var) (i : Expr) (z : Option Size) (n : Option ℕ) → size_at v ≡ z → Turns T (Expr-F.Cell v i) (out-Expr (cell_or v (with_scalars i) z n))
cell_turns v i (Some z) (Some n) e = turns_rolled (Expr-F.Cell v i) (Expr-F.Var (scalar v z n)) (t_scalar z (array_at v z e) (scalar_word v z n))
cell_turns v i (Some z) None e = turns_rolled (Expr-F.Cell v i) (Expr-F.Cell v (with_scalars i)) (t_cell refl)
cell_turns v i None (Some n) e = turns_rolled (Expr-F.Cell v i) (Expr-F.Cell v (with_scalars i)) (t_cell refl)
cell_turns v i None None e = turns_rolled (Expr-F.Cell v i) (Expr-F.Cell v (with_scalars i)) (t_cell refl)

layer_turns : (x : Layer) → Turns T x (out-Expr (rolled x))
layer_turns (Expr-F.Num n at) = turns_rolled (Expr-F.Num n at) (Expr-F.Num n at) t_number
layer_turns (Expr-F.Expr::Bool b at) = turns_rolled (Expr-F.Expr::Bool b at) (Expr-F.Expr::Bool b at) t_truth
layer_turns (Expr-F.Var v) = turns_rolled (Expr-F.Var v) (Expr-F.Var v) (t_variable refl)
layer_turns (Expr-F.Cell v i) = cell_turns v i (size_at v) (cell_in v i) refl
layer_turns (Expr-F.Load a) = turns_rolled (Expr-F.Load a) (Expr-F.Load (access_with_scalars a)) (t_load (access_turns a))
layer_turns (Expr-F.Neg a at) = turns_rolled (Expr-F.Neg a at) (Expr-F.Neg (with_scalars a) at) t_minus
layer_turns (Expr-F.Not a at) = turns_rolled (Expr-F.Not a at) (Expr-F.Not (with_scalars a) at) t_denial
layer_turns (Expr-F.Cast z s a at) = turns_rolled (Expr-F.Cast z s a at) (Expr-F.Cast z s (with_scalars a) at) t_cast
layer_turns (Expr-F.Bin o a b at) = turns_rolled (Expr-F.Bin o a b at) (Expr-F.Bin o (with_scalars a) (with_scalars b) at) t_two

pub out_is : (e : Expr) → out-Expr (with_scalars e) ≡ out-Expr (rolled (out-Expr e))
out_is e = ap (λ x. out-Expr (with_scalars x)) (sym (roll-out-Expr e)) ∙ ap out-Expr (in_is (out-Expr e))

left_cell : (v : Var) (i : Expr) (z : Option Size) (n : Option ℕ) → size_at v ≡ z → LeftTurns T (lval.Cell v i) (left_or v i z n)
left_cell v i (Some z) (Some n) e = l_scalar z (array_at v z e) (scalar_word v z n)
left_cell v i (Some z) None e = l_cell refl
left_cell v i None (Some n) e = l_cell refl
left_cell v i None None e = l_cell refl

left_turns : (d : Lval) → LeftTurns T d (left_with_scalars d)
left_turns (lval.Skip at) = l_nothing
left_turns (lval.Var v) = l_variable refl
left_turns (lval.Cell v i) = left_cell v i (size_at v) (cell_in v i) refl
left_turns (lval.Store a) = l_store (access_turns a)

pub scalars_turn : IsTurning with_scalars left_with_scalars
scalars_turn = record { expressions = λ e. inr (subst (Turns T (out-Expr e)) (sym (out_is e)) (layer_turns (out-Expr e))); lefts = left_turns }
