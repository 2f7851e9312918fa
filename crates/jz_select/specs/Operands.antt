-- The class of an operand and of a result.
use Rattle.std.specs.Prelude.{ℤ, pos, Bool, true, false, Option, None, Some, if◌then◌else◌}
use Rattle.std.specs.Ordering.{int_eq}
use Rattle.jz_words.specs.declared.size.Size.{Size}
use Rattle.jz_words.specs.declared.size.Size.TheVariants as sizes
use Rattle.jz_tree.specs.declared.expr.Storage.{Storage}
use Rattle.jz_tree.specs.declared.expr.Storage.TheVariants as storage
use Rattle.jz_tree.specs.declared.expr.BinOp.{BinOp}
use Rattle.jz_tree.specs.declared.expr.BinOp.TheVariants as op
use Rattle.jz_tree.specs.declared.expr.Expr.{Expr}
use Rattle.jz_tree.specs.declared.expr.Var.{Var}
use Rattle.jz_tree.specs.declared.expr.Expr.TheOpen.{Expr-F}
use Rattle.jz_tree.specs.declared.expr.Expr.TheViews.{out-Expr, out-Access}
use Rattle.jz_tree.specs.declared.stmt.Lval.{Lval}
use Rattle.jz_tree.specs.declared.stmt.Lval.TheVariants as lval
use Rattle.jz_integers.specs.Integers.{written_number}
use Rattle.jz_type_names.specs.declared.kinds.Kind.{Kind}
use Rattle.jz_type_names.specs.declared.kinds.Kind.TheVariants as kind
use Rattle.jz_type_names.specs.Kinds.{Known, known_of}
use Rattle.jz_select.specs.declared.class.Mask.TheVariants as mask
use Rattle.jz_select.specs.declared.class.Class.{Class}
use Rattle.jz_select.specs.declared.class.Class.TheVariants as class
use Rattle.jz_select.specs.declared.class.Operand.{Operand}
use Rattle.jz_select.specs.Sums.{is_address, is_index}
use Rattle.jz_select.specs.Look.{look_of, terms_of, bin_inline}
use Rattle.jz_select.specs.Places.{Layer, Answers, meeting_of}

abbrev pub class_at : Storage → Kind → Class
class_at storage.Reg (kind.Word z) = class.Reg z
class_at storage.Stack (kind.Word z) = class.Mem (Some z)
class_at storage.Reg kind.Truth = class.Flag
class_at storage.Inline kind.Int = class.Inline
class_at _ _ = class.Other

abbrev pub var_class : Known → Class
var_class None = class.Other
var_class (Some d) = class_at d.storage d.kind

abbrev pub class_if : Bool → Class → Class
class_if b c = if b then c else class.Other

-- the index of a register array is inline
abbrev pub cell_at : Storage → Kind → Bool → Bool → Class
cell_at storage.Reg (kind.Array z) inline index = class_if inline (class.Reg z)
cell_at storage.Stack (kind.Array z) inline index = class_if index (class.Mem (Some z))
cell_at _ _ inline index = class.Other

abbrev pub cell_class : Known → Bool → Bool → Class
cell_class None inline index = class.Other
cell_class (Some d) inline index = cell_at d.storage d.kind inline index

abbrev pub cell_of : Var → Expr → Class
cell_of v at = cell_class (known_of v) (look_of at).inline (is_index (terms_of at))

abbrev pub mem_of : Option Size → Expr → Class
mem_of z at = class_if (is_address (terms_of at)) (class.Mem z)

abbrev pub inline_or : Bool → Class → Class
inline_or b c = if b then class.Inline else c

-- a mask is built of numbers alone, and its value is 31 or 63
abbrev pub mask_of : Option ℤ → Class
mask_of None = class.Other
mask_of (Some k) =
    if int_eq k (pos 31) then class.Masked mask.Five
    else if int_eq k (pos 63) then class.Masked mask.Six
    else class.Other

abbrev pub is_byte : Class → Bool
is_byte (class.Reg sizes.S8) = true
is_byte _ = false

abbrev pub register_layer : Layer → Class
register_layer (Expr-F.Var v) = var_class (known_of v)
register_layer (Expr-F.Cell v at) = cell_of v at
register_layer _ = class.Other

-- `v & k`, v a byte in a register
abbrev pub masked_class : BinOp → Expr → Expr → Class
masked_class op.And a b = class_if (is_byte (register_layer (out-Expr a))) (mask_of (written_number b))
masked_class _ a b = class.Other

abbrev pub class_layer : Layer → Class
class_layer (Expr-F.Num n at) = class.Inline
class_layer (Expr-F.Expr::Bool b at) = class.Other
class_layer (Expr-F.Var v) = var_class (known_of v)
class_layer (Expr-F.Cell v at) = cell_of v at
class_layer (Expr-F.Load a) = mem_of (out-Access a).size (out-Access a).at
class_layer (Expr-F.Neg a at) = inline_or (look_of a).inline class.Other
class_layer (Expr-F.Not a at) = inline_or (look_of a).inline class.Other
class_layer (Expr-F.Cast size signed a at) = class.Other
class_layer (Expr-F.Bin o a b at) = inline_or (bin_inline o (look_of a) (look_of b)) (masked_class o a b)

abbrev pub class_of : Expr → Class
class_of e = class_layer (out-Expr e)

abbrev pub dest_of : Lval → Class
dest_of (lval.Skip at) = class.Skip
dest_of (lval.Var v) = var_class (known_of v)
dest_of (lval.Cell v at) = cell_of v at
dest_of (lval.Store a) = mem_of (out-Access a).size (out-Access a).at

abbrev pub operand_of : Answers → Lval → Expr → Operand
operand_of answers d e = record { class = class_of e; meeting = meeting_of answers d e }
