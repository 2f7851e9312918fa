-- What is declared of the variables in an expression, and what is known when the text is compiled.
use Rattle.std.specs.Prelude.{ℤ, Bool, true, false, not, ◌&&◌, nat_eq, if◌then◌else◌, Option, Some, None, option_map}
use Rattle.jz_tree.specs.Size.{Size}
use Rattle.jz_tree.specs.Sizes.{bits_of}
use Rattle.jz_tree.specs.declared.expr.Storage.{Storage}
use Rattle.jz_tree.specs.declared.expr.Storage.TheVariants as storage
use Rattle.jz_tree.specs.declared.expr.Expr.{Expr}
use Rattle.jz_tree.specs.declared.expr.Ty.{Ty}
use Rattle.jz_tree.specs.declared.expr.Access.{Access}
use Rattle.jz_tree.specs.declared.expr.Decl.{Decl}
use Rattle.jz_tree.specs.declared.expr.Var.{Var}
use Rattle.jz_tree.specs.declared.expr.Expr.TheOpen.{Expr-F, Ty-F, Decl-F, Var-F}
use Rattle.jz_tree.specs.declared.expr.Expr.TheViews.{out-Expr, out-Ty, out-Var}
use Rattle.jz_tree.specs.declared.expr.Expr.TheFolds.{fold-Expr}
use Rattle.jz_tree.specs.declared.stmt.Lval.{Lval}
use Rattle.jz_tree.specs.declared.stmt.Lval.TheVariants as lval
use Rattle.jz_type_names.specs.declared.kinds.Kind.{Kind}
use Rattle.jz_type_names.specs.declared.kinds.Kind.TheVariants as kind
use Rattle.jz_type_names.specs.declared.kinds.Declared.{Declared}

-- what is declared of a variable; nothing, where its name is unknown
abbrev pub Known : Type 0
Known = Option Declared

-- ---- declarations
abbrev pub kind_step : {A B C D E : Type 0} → Ty-F A B C D E → Kind
kind_step Ty-F.Int = kind.Int
kind_step Ty-F.Ty::Bool = kind.Truth
kind_step (Ty-F.Word z) = kind.Word z
kind_step (Ty-F.Array z n) = kind.Array z

abbrev pub kind_of : Ty → Kind
kind_of t = kind_step (out-Ty t)

abbrev pub declared_of : Decl → Declared
declared_of d = record { storage = d.storage; kind = kind_of d.ty }

abbrev pub known_of : Var → Known
known_of v = option_map declared_of (out-Var v).decl

-- the length of an array, where it is written as a number
abbrev pub number_layer : {A B C D E : Type 0} → Expr-F A B C D E → Option ℤ
number_layer (Expr-F.Num n at) = Some n
number_layer _ = None

abbrev pub length_written : Ty-F Expr Ty Access Decl Var → Option ℤ
length_written (Ty-F.Array z e) = number_layer (out-Expr e)
length_written _ = None

abbrev pub written_length : Decl → Option ℤ
written_length d = length_written (out-Ty d.ty)

-- ---- equal parts
abbrev pub same_size : Size → Size → Bool
same_size y z = nat_eq (bits_of y) (bits_of z)

abbrev pub same_storage : Storage → Storage → Bool
same_storage storage.Reg storage.Reg = true
same_storage storage.Stack storage.Stack = true
same_storage storage.Inline storage.Inline = true
same_storage _ _ = false

abbrev pub same_kind : Kind → Kind → Bool
same_kind kind.Int kind.Int = true
same_kind kind.Truth kind.Truth = true
same_kind (kind.Word y) (kind.Word z) = same_size y z
same_kind (kind.Array y) (kind.Array z) = same_size y z
same_kind _ _ = false

-- ---- kinds of variables
abbrev pub inline_int : Storage → Kind → Bool
inline_int storage.Inline kind.Int = true
inline_int _ _ = false

-- an inline integer; an unknown name counts as one
abbrev pub is_inline_int : Known → Bool
is_inline_int None = true
is_inline_int (Some d) = inline_int d.storage d.kind

abbrev pub is_array_kind : Kind → Bool
is_array_kind (kind.Array z) = true
is_array_kind _ = false

abbrev pub is_word_kind : Kind → Bool
is_word_kind (kind.Word z) = true
is_word_kind _ = false

abbrev pub is_array : Known → Bool
is_array None = false
is_array (Some d) = is_array_kind d.kind

abbrev pub is_register_array : Known → Bool
is_register_array None = false
is_register_array (Some d) = same_storage d.storage storage.Reg && is_array_kind d.kind

abbrev pub is_register_word : Known → Bool
is_register_word None = false
is_register_word (Some d) = same_storage d.storage storage.Reg && is_word_kind d.kind

-- a word in a register or in the frame
abbrev pub is_word : Known → Bool
is_word None = false
is_word (Some d) = not (same_storage d.storage storage.Inline) && is_word_kind d.kind

-- ---- expressions
abbrev pub inline_step : Expr-F Bool Kind Bool Declared Known → Bool
inline_step (Expr-F.Num n at) = true
inline_step (Expr-F.Expr::Bool b at) = true
inline_step (Expr-F.Var k) = is_inline_int k
inline_step (Expr-F.Cell k i) = false
inline_step (Expr-F.Load a) = false
inline_step (Expr-F.Neg a at) = a
inline_step (Expr-F.Not a at) = a
inline_step (Expr-F.Cast z signed a at) = false
inline_step (Expr-F.Bin o a b at) = a && b

abbrev pub declared_step : {A B C E : Type 0} → Decl-F A Kind B C E → Declared
declared_step d = record { storage = d.storage; kind = d.ty }

abbrev pub known_step : {A B C E : Type 0} → Var-F A B C Declared E → Known
known_step v = v.decl

-- it has numbers, bools and inline variables alone, so that its value is known when the text is
-- compiled
abbrev pub is_inline : Expr → Bool
is_inline =
    fold-Expr Bool Kind Bool Declared Known
    inline_step kind_step (λ a. a.at) declared_step known_step

abbrev pub array_layer : Expr-F Expr Ty Access Decl Var → Option Var
array_layer (Expr-F.Var v) = if is_array (known_of v) then Some v else None
array_layer _ = None

-- the array that an argument is
abbrev pub array_of : Expr → Option Var
array_of e = array_layer (out-Expr e)

-- the array that a left side is as a whole
abbrev pub whole_array : Lval → Option Var
whole_array (lval.Var v) = if is_array (known_of v) then Some v else None
whole_array _ = None
