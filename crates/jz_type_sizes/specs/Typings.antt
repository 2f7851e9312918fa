-- What expressions are, and where one has not the type that its place wants.
use Rattle.std.specs.Prelude.{true, false, not, ◌&&◌, if◌then◌else◌, List, [], ◌++◌, Some, None}
use Rattle.jz_tree.specs.Span.{Span}
use Rattle.jz_tree.specs.Size.{Size}
use Rattle.jz_tree.specs.declared.expr.BinOp.{BinOp}
use Rattle.jz_tree.specs.declared.expr.Expr.{Expr}
use Rattle.jz_tree.specs.declared.expr.Access.{Access}
use Rattle.jz_tree.specs.declared.expr.Expr.TheOpen.{Expr-F, Access-F}
use Rattle.jz_tree.specs.declared.expr.Expr.TheFolds.{fold-Expr, fold-Access}
use Rattle.jz_type_names.specs.Order.{unless}
use Rattle.jz_type_names.specs.declared.kinds.Kind.{Kind}
use Rattle.jz_type_names.specs.declared.kinds.Declared.{Declared}
use Rattle.jz_type_names.specs.Kinds.{Known, kind_step, declared_step}
use Rattle.jz_type_sizes.specs.declared.wants.Want.{Want}
use Rattle.jz_type_sizes.specs.declared.wants.Want.TheVariants as want
use Rattle.jz_type_sizes.specs.declared.wants.Form.{Form}
use Rattle.jz_type_sizes.specs.Wants.{fits_int, fits_truth, fits_word, fits_access, fits_known, fits_cell, cell_size, cast_want, index_want, form_of_size, number_form, bool_form, var_form}
use Rattle.jz_type_sizes.specs.Operators.{group_of, gives, stops, compared_size, bin_form, left_of, right_of, takes_carry}

-- what an expression is by itself, and its wrong places by what its own place wants
pub record Typing : Type 0 where
  pub form : Form
  pub wrong : Want → List Span

-- ---- operations
abbrev pub left_want : BinOp → Form → Form → Want → Want
left_want o a b w =
    left_of (group_of o) o (b.inline && a.inline) (compared_size (group_of o) a.size b.size) w

abbrev pub right_want : BinOp → Form → Form → Want → Want
right_want o a b w =
    right_of (group_of o) (takes_carry o w && b.truth) (compared_size (group_of o) a.size b.size) w

-- a and b are the operands, at is the first token
abbrev pub bin_wrong : BinOp → Typing → Typing → Span → Want → List Span
bin_wrong o a b at w =
    unless (gives (group_of o) w) at
    ++ (if stops (group_of o) w then [] else
    b.wrong (right_want o a.form b.form w) ++ a.wrong (left_want o a.form b.form w))

abbrev pub bin_typing : BinOp → Typing → Typing → Span → Typing
bin_typing o a b at =
    record { form = bin_form (group_of o) a.form b.form; wrong = bin_wrong o a b at }

-- ---- the layers of an expression
abbrev pub var_typing : Known → Span → Typing
var_typing k at = record { form = var_form k; wrong = λ w. unless (fits_known k w) at }

abbrev pub cell_wrong : Known → Span → Typing → Want → List Span
cell_wrong k at i w = unless (fits_cell (cell_size k) w) at ++ i.wrong index_want

abbrev pub cell_typing : Known → Span → Typing → Typing
cell_typing k at i = record { form = form_of_size (cell_size k); wrong = cell_wrong k at i }

abbrev pub AccessLayer : Type 0
AccessLayer = Access-F Typing Kind Typing Declared (Known × Span)

abbrev pub access_wrong : AccessLayer → Want → List Span
access_wrong a w = unless (fits_access a.size w) a.span ++ a.at.wrong index_want

abbrev pub access_typing : AccessLayer → Typing
access_typing a = record { form = form_of_size a.size; wrong = access_wrong a }

abbrev pub neg_form : Form → Form
neg_form f = record { size = f.size; truth = false; inline = f.inline }

abbrev pub neg_wrong : Typing → Span → Want → List Span
neg_wrong a at w = unless (not (fits_truth w)) at ++ (if fits_truth w then [] else a.wrong w)

abbrev pub cast_wrong : Size → Typing → Span → Want → List Span
cast_wrong z a at w = unless (fits_word z w) at ++ a.wrong (cast_want a.form.size)

abbrev pub typing_step : Expr-F Typing Kind Typing Declared (Known × Span) → Typing
typing_step (Expr-F.Num n at) = record { form = number_form; wrong = λ w. unless (fits_int w) at }
typing_step (Expr-F.Expr::Bool b at) =
    record { form = bool_form; wrong = λ w. unless (fits_truth w) at }
typing_step (Expr-F.Var v) = var_typing v.0 v.1
typing_step (Expr-F.Cell v i) = cell_typing v.0 v.1 i
typing_step (Expr-F.Load a) = a
typing_step (Expr-F.Neg a at) = record { form = neg_form a.form; wrong = neg_wrong a at }
typing_step (Expr-F.Not a at) = a
typing_step (Expr-F.Cast z s a at) =
    record { form = form_of_size (Some z); wrong = cast_wrong z a at }
typing_step (Expr-F.Bin o a b at) = bin_typing o a b at

abbrev pub typing : Expr → Typing
typing =
    fold-Expr Typing Kind Typing Declared (Known × Span)
    typing_step kind_step access_typing declared_step (λ v. (v.decl, v.span))

abbrev pub typing_of_access : Access → Typing
typing_of_access =
    fold-Access Typing Kind Typing Declared (Known × Span)
    typing_step kind_step access_typing declared_step (λ v. (v.decl, v.span))
