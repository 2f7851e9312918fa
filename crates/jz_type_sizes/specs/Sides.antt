-- Left sides: what they are, what is wrong within them, and what they take.
use Rattle.std.specs.Prelude.{Bool, true, false, not, ◌&&◌, ◌||◌, is_some, if◌then◌else◌, List, [], ◌++◌, Option, Some, None}
use Rattle.jz_tree.specs.Span.{Span}
use Rattle.jz_tree.specs.Size.{Size}
use Rattle.jz_tree.specs.Size.TheVariants as sizes
use Rattle.jz_tree.specs.declared.expr.Expr.TheViews.{out-Access}
use Rattle.jz_tree.specs.declared.stmt.Lval.{Lval}
use Rattle.jz_tree.specs.declared.stmt.Lval.TheVariants as lval
use Rattle.jz_type_names.specs.Order.{unless}
use Rattle.jz_type_names.specs.Scopes.{name_of}
use Rattle.jz_type_names.specs.Kinds.{known_of, is_array, same_size}
use Rattle.jz_type_names.specs.Parts.{is_skip}
use Rattle.jz_type_sizes.specs.declared.wants.Want.{Want}
use Rattle.jz_type_sizes.specs.declared.wants.Want.TheVariants as want
use Rattle.jz_type_sizes.specs.declared.wants.Form.{Form}
use Rattle.jz_type_sizes.specs.Wants.{fits_known, fits_access, cell_size, sized_want, index_want, no_form, form_of_size, var_form, own_want}
use Rattle.jz_type_sizes.specs.Typings.{Typing, typing, cell_wrong}

-- `_` is nothing by itself
abbrev pub left_form : Lval → Form
left_form (lval.Skip at) = no_form
left_form (lval.Var v) = var_form (known_of v)
left_form (lval.Cell v i) = form_of_size (cell_size (known_of v))
left_form (lval.Store a) = form_of_size a.size

-- nothing is asked of `_`, nor of an array as a whole, of which another rule speaks
abbrev pub left_wrong : Lval → Want → List Span
left_wrong (lval.Skip at) w = []
left_wrong (lval.Var v) w =
    if is_array (known_of v) then [] else unless (fits_known (known_of v) w) (name_of v).1
left_wrong (lval.Cell v i) w = cell_wrong (known_of v) (name_of v).1 (typing i) w
left_wrong (lval.Store a) w =
    unless (fits_access a.size w) a.span ++ (typing (out-Access a).at).wrong index_want

abbrev pub left_typing : Lval → Typing
left_typing d = record { form = left_form d; wrong = left_wrong d }

abbrev pub left_span : Lval → Span
left_span (lval.Skip at) = at
left_span (lval.Var v) = (name_of v).1
left_span (lval.Cell v i) = (name_of v).1
left_span (lval.Store a) = a.span

-- what a left side wants of a value; one without a size takes the value's own
abbrev pub set_want : Form → Form → Want
set_want d f =
    if d.truth then want.Truth else
    if d.inline then want.Int else
    if is_some d.size then sized_want false d.size else
    own_want f

-- what is wrong within a left side that is set to a word of that size
abbrev pub within : Option Size → Lval → List Span
within z d = left_wrong d (set_want (left_form d) (form_of_size z))

-- the same, whatever it is set to
abbrev pub any_size : Option Size
any_size = Some sizes.S8

abbrev pub has_size : Option Size → Option Size → Bool
has_size (Some y) (Some z) = same_size y z
has_size _ _ = true

-- a word of that size is what it has; one without a size takes any
abbrev pub takes_word : Option Size → Form → Bool
takes_word z d = not (d.truth || d.inline) && has_size z d.size

abbrev pub takes_form : Want → Form → Bool
takes_form want.Truth d = d.truth
takes_form (want.Word z) d = takes_word (Some z) d
takes_form w d = takes_word None d

-- a value that is what the place wants may go there
abbrev pub takes : Want → Lval → Bool
takes w d = is_skip d || takes_form w (left_form d)
