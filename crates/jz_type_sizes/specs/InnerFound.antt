-- What private contracts say of earliest wrong places: of expressions, and of items beside others.
use Rattle.std.specs.Prelude.{Bool, true, false, not, ◌&&◌, if◌then◌else◌, List, [], ◌∷◌, Option, Some, None}
use Rattle.jz_tree.specs.Span.{Span}
use Rattle.jz_tree.specs.Size.{Size}
use Rattle.jz_tree.specs.declared.expr.BinOp.{BinOp}
use Rattle.jz_tree.specs.declared.expr.Expr.{Expr}
use Rattle.jz_tree.specs.declared.expr.Expr.TheOpen.{Expr-F, Access-F}
use Rattle.jz_tree.specs.declared.expr.Expr.TheFolds.{fold-Expr, fold-Access}
use Rattle.jz_tree.specs.declared.expr.Expr.TheViews.{out-Expr, out-Access, out-Var}
use Rattle.jz_tree.specs.declared.expr.Ty.{Ty}
use Rattle.jz_tree.specs.declared.expr.Access.{Access}
use Rattle.jz_tree.specs.declared.expr.Decl.{Decl}
use Rattle.jz_tree.specs.declared.expr.Var.{Var}
use Rattle.jz_type_names.specs.Order.{unless, earlier, earliest}
use Rattle.jz_type_names.specs.declared.kinds.Kind.{Kind}
use Rattle.jz_type_names.specs.declared.kinds.Declared.{Declared}
use Rattle.jz_type_names.specs.Kinds.{Known, known_of, kind_step, declared_step}
use Rattle.jz_type_sizes.specs.declared.wants.Want.{Want}
use Rattle.jz_type_sizes.specs.declared.wants.Want.TheVariants as want
use Rattle.jz_type_sizes.specs.declared.wants.Form.{Form}
use Rattle.jz_type_sizes.specs.Wants.{fits_int, fits_truth, fits_word, fits_access, fits_known, fits_cell, cell_size, cast_want, index_want, form_of_size, number_form, bool_form, var_form}
use Rattle.jz_type_sizes.specs.Operators.{group_of, gives, stops, compared_size, bin_form, left_of}
use Rattle.jz_type_sizes.specs.Typings.{neg_form, right_want}

-- what it is by itself, and its earliest wrong place: by whether it is inline, which is known on
-- the way down, and by what its place wants
pub record Found : Type 0 where
  pub form : Form
  pub first : Bool → Want → Option Span

-- whether the left operand is inline, where it is known of the whole, and of both operands
abbrev pub left_inline : Bool → Bool → Bool → Bool
left_inline whole left right = if whole then true else if right then false else left

abbrev pub bin_first : BinOp → Found → Found → Span → Bool → Want → Option Span
bin_first o a b at k w =
    earlier (earliest (unless (gives (group_of o) w) at))
    (if stops (group_of o) w then None else
    earlier
    (b.first b.form.inline (right_want o a.form b.form w))
    (a.first
    (left_inline k a.form.inline b.form.inline)
    (left_of (group_of o) o k (compared_size (group_of o) a.form.size b.form.size) w)))

abbrev pub cell_first : Known → Span → Found → Want → Option Span
cell_first v at i w =
    earlier (earliest (unless (fits_cell (cell_size v) w) at)) (i.first i.form.inline index_want)

abbrev pub AccessLayer : Type 0
AccessLayer = Access-F Found Kind Found Declared (Known × Span)

abbrev pub access_first : AccessLayer → Bool → Want → Option Span
access_first a k w =
    earlier
    (earliest (unless (fits_access a.size w) a.span))
    (a.at.first a.at.form.inline index_want)

abbrev pub access_found : AccessLayer → Found
access_found a = record { form = form_of_size a.size; first = access_first a }

abbrev pub neg_first : Found → Span → Bool → Want → Option Span
neg_first a at k w =
    earlier
    (earliest (unless (not (fits_truth w)) at))
    (if fits_truth w then None else a.first k w)

abbrev pub cast_first : Size → Found → Span → Bool → Want → Option Span
cast_first z a at k w =
    earlier
    (earliest (unless (fits_word z w) at))
    (a.first a.form.inline (cast_want a.form.size))

abbrev pub found_step : Expr-F Found Kind Found Declared (Known × Span) → Found
found_step (Expr-F.Num n at) =
    record { form = number_form; first = λ k w. earliest (unless (fits_int w) at) }
found_step (Expr-F.Expr::Bool b at) =
    record { form = bool_form; first = λ k w. earliest (unless (fits_truth w) at) }
found_step (Expr-F.Var v) =
    record { form = var_form v.0; first = λ k w. earliest (unless (fits_known v.0 w) v.1) }
found_step (Expr-F.Cell v i) =
    record { form = form_of_size (cell_size v.0); first = λ k w. cell_first v.0 v.1 i w }
found_step (Expr-F.Load a) = a
found_step (Expr-F.Neg a at) = record { form = neg_form a.form; first = neg_first a at }
found_step (Expr-F.Not a at) = a
found_step (Expr-F.Cast z s a at) =
    record { form = form_of_size (Some z); first = cast_first z a at }
found_step (Expr-F.Bin o a b at) =
    record { form = bin_form (group_of o) a.form b.form; first = bin_first o a b at }

abbrev pub found_of : Expr → Found
found_of =
    fold-Expr Found Kind Found Declared (Known × Span)
    found_step kind_step access_found declared_step (λ v. (v.decl, v.span))

abbrev pub found_in_access : Access → Found
found_in_access =
    fold-Access Found Kind Found Declared (Known × Span)
    found_step kind_step access_found declared_step (λ v. (v.decl, v.span))

-- the place of an expression itself, where its own type is not what is wanted
abbrev pub own_layer : Expr-F Expr Ty Access Decl Var → Want → Option Span
own_layer (Expr-F.Num n at) w = earliest (unless (fits_int w) at)
own_layer (Expr-F.Expr::Bool b at) w = earliest (unless (fits_truth w) at)
own_layer (Expr-F.Var v) w = earliest (unless (fits_known (known_of v) w) (out-Var v).span)
own_layer (Expr-F.Cell v i) w =
    earliest (unless (fits_cell (cell_size (known_of v)) w) (out-Var v).span)
own_layer (Expr-F.Load a) w =
    earliest (unless (fits_access (out-Access a).size w) (out-Access a).span)
own_layer (Expr-F.Neg a at) w = earliest (unless (not (fits_truth w)) at)
own_layer (Expr-F.Not a at) w = None
own_layer (Expr-F.Cast z s a at) w = earliest (unless (fits_word z w) at)
own_layer (Expr-F.Bin o a b at) w = earliest (unless (gives (group_of o) w) at)

abbrev pub own_first : Expr → Want → Option Span
own_first e w = own_layer (out-Expr e) w

-- the earliest of the places of items beside others, and of those that are more
abbrev pub first_beside : {A B : Type 0}
    → (A → B → List Span) → (B → List Span) → List A → List B → Option Span
first_beside f more as' [] = None
first_beside f more [] (b ∷ bs) = earlier (earliest (more b)) (first_beside f more [] bs)
first_beside f more (a ∷ as') (b ∷ bs) = earlier (earliest (f a b)) (first_beside f more as' bs)
