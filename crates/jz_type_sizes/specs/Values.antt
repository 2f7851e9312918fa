-- Values that are assigned.
use Rattle.std.specs.Prelude.{Bool, true, false, ◌&&◌, if◌then◌else◌, List, [], ◌∷◌, ◌++◌, flat_map, Option, Some, None}
use Rattle.std.specs.Option.{option_or}
use Rattle.jz_tree.specs.Span.{Span}
use Rattle.jz_tree.specs.Size.{Size}
use Rattle.jz_tree.specs.declared.expr.BinOp.{BinOp}
use Rattle.jz_tree.specs.declared.expr.BinOp.TheVariants as op
use Rattle.jz_tree.specs.declared.expr.Expr.{Expr}
use Rattle.jz_tree.specs.declared.expr.Expr.TheOpen.{Expr-F}
use Rattle.jz_tree.specs.declared.expr.Expr.TheViews.{out-Expr}
use Rattle.jz_tree.specs.declared.stmt.Lval.{Lval}
use Rattle.jz_type_names.specs.Order.{unless}
use Rattle.jz_type_names.specs.Parts.{span_of}
use Rattle.jz_type_sizes.specs.declared.wants.Want.TheVariants as want
use Rattle.jz_type_sizes.specs.Wants.{own_size}
use Rattle.jz_type_sizes.specs.Typings.{Typing, typing, bin_typing}
use Rattle.jz_type_sizes.specs.Sides.{left_form, left_wrong, left_typing, left_span, set_want, within, any_size, takes}

-- `d = e`, or with an operation `d = d op e`
abbrev pub value_typing : Option BinOp → Lval → Expr → Typing
value_typing None d e = typing e
value_typing (Some o) d e = bin_typing o (left_typing d) (typing e) (left_span d)

abbrev pub single : Lval → Typing → List Span
single d t = left_wrong d (set_want (left_form d) t.form) ++ t.wrong (set_want (left_form d) t.form)

abbrev pub product_layer : {A B C D E : Type 0} → Expr-F A B C D E → Bool
product_layer (Expr-F.Bin op.Mul a b at) = true
product_layer _ = false

abbrev pub is_mul : BinOp → Bool
is_mul op.Mul = true
is_mul _ = false

abbrev pub is_product : Option BinOp → Expr → Bool
is_product None e = product_layer (out-Expr e)
is_product (Some o) e = is_mul o

-- the high and the low word of a product have one size: that of the high one, else of the low one,
-- else of the operands
abbrev pub product_size : Lval → Lval → Typing → Option Size
product_size h l t = option_or (left_form h).size (option_or (left_form l).size t.form.size)

abbrev pub product_of : Option Size → Lval → Lval → Typing → Span → List Span
product_of z h l t at =
    within z h
    ++ within z l
    ++ t.wrong (own_size z)
    ++ unless (takes (own_size z) h && takes (own_size z) l) at

-- both words of a product
abbrev pub product_wrong : Option BinOp → Lval → Lval → Expr → List Span
product_wrong o h l e =
    product_of (product_size h l (value_typing o l e)) h l (value_typing o l e) (span_of e)

-- a flag and a value
abbrev pub with_flag : Lval → Lval → Typing → Span → List Span
with_flag c d t at = within any_size c ++ unless (takes want.Truth c) at ++ single d t

abbrev pub flag_wrong : Option BinOp → Lval → Lval → Expr → List Span
flag_wrong o c d e = with_flag c d (value_typing o d e) (span_of e)

-- one value; or a flag and a value, or both words of a product; more are told at the value
abbrev pub value_wrong : List Lval → Option BinOp → Expr → List Span
value_wrong [] o e = []
value_wrong (d ∷ []) o e = single d (value_typing o d e)
value_wrong (c ∷ d ∷ []) o e =
    if is_product o e then product_wrong o c d e else flag_wrong o c d e
value_wrong ds o e = flat_map (within any_size) ds ++ (span_of e ∷ [])
