-- The rows of the pattern table and the intrinsics, by the classes of their operands. R is a
-- register, M memory, I an inline integer; d is R or M.
use Rattle.std.specs.Prelude.{Bool, true, false, ◌&&◌, ◌||◌, not, nat_lt, Option, Some, None, if◌then◌else◌}
use Rattle.std.specs.Option.{option_or}
use Rattle.jz_words.specs.declared.size.Size.{Size}
use Rattle.jz_words.specs.declared.size.Size.TheVariants as sizes
use Rattle.jz_words.specs.Sizes.{bits_of}
use Rattle.jz_tree.specs.Operators.{is_shift, divides}
use Rattle.jz_tree.specs.declared.expr.BinOp.{BinOp}
use Rattle.jz_tree.specs.declared.expr.BinOp.TheVariants as op
use Rattle.jz_select.specs.declared.class.Mask.{Mask}
use Rattle.jz_select.specs.declared.class.Mask.TheVariants as mask
use Rattle.jz_select.specs.declared.class.Class.{Class}
use Rattle.jz_select.specs.declared.class.Class.TheVariants as class
use Rattle.jz_select.specs.declared.class.Meeting.{Meeting}
use Rattle.jz_select.specs.declared.class.Meeting.TheVariants as meeting
use Rattle.jz_select.specs.declared.class.Operand.{Operand}
use Rattle.jz_tree.specs.declared.intrinsic.Intrinsic.{Intrinsic}
use Rattle.jz_tree.specs.declared.intrinsic.Intrinsic.TheVariants as name
use Rattle.jz_select.specs.declared.shape.Value.TheVariants as values
use Rattle.jz_select.specs.declared.shape.Shape.{Shape}
use Rattle.jz_select.specs.declared.shape.Shape.TheVariants as shapes

-- ---- operands
abbrev pub is_r : Class → Bool
is_r (class.Reg z) = true
is_r _ = false

abbrev pub is_m : Class → Bool
is_m (class.Mem z) = true
is_m _ = false

abbrev pub is_i : Class → Bool
is_i class.Inline = true
is_i _ = false

abbrev pub is_rm : Class → Bool
is_rm c = is_r c || is_m c

abbrev pub is_rmi : Class → Bool
is_rmi c = is_r c || is_m c || is_i c

abbrev pub is_flag : Class → Bool
is_flag class.Flag = true
is_flag _ = false

abbrev pub is_skip : Class → Bool
is_skip class.Skip = true
is_skip _ = false

-- a flag result: a bool variable, or `_`
abbrev pub is_flag_result : Class → Bool
is_flag_result c = is_flag c || is_skip c

-- a value with a fixed register: R, or `_`
abbrev pub is_pinned : Class → Bool
is_pinned c = is_r c || is_skip c

abbrev pub is_same_place : Meeting → Bool
is_same_place meeting.Same = true
is_same_place _ = false

abbrev pub is_apart_from : Meeting → Bool
is_apart_from meeting.Apart = true
is_apart_from _ = false

-- the operand is the destination; the destination does not stand in it
abbrev pub is_same : Operand → Bool
is_same o = is_same_place o.meeting

abbrev pub is_apart : Operand → Bool
is_apart o = is_apart_from o.meeting

-- ---- sizes
abbrev pub class_size : Class → Option Size
class_size (class.Reg z) = Some z
class_size (class.Mem z) = z
class_size _ = None

-- 16, 32 or 64 bits
abbrev pub is_wide : Option Size → Bool
is_wide None = false
is_wide (Some sizes.S8) = false
is_wide (Some z) = true

-- 32 or 64 bits
abbrev pub is_long : Option Size → Bool
is_long (Some sizes.S32) = true
is_long (Some sizes.S64) = true
is_long _ = false

abbrev pub is_longest : Option Size → Bool
is_longest (Some sizes.S64) = true
is_longest _ = false

-- 8 bits, where a size is known
abbrev pub is_byte_size : Option Size → Bool
is_byte_size None = true
is_byte_size (Some sizes.S8) = true
is_byte_size _ = false

-- a known size below another one
abbrev pub is_below : Option Size → Size → Bool
is_below None z = false
is_below (Some y) z = nat_lt (bits_of y) (bits_of z)

-- ---- operations
abbrev pub adds : BinOp → Bool
adds op.Add = true
adds op.Sub = true
adds _ = false

abbrev pub joins_bits : BinOp → Bool
joins_bits op.And = true
joins_bits op.Or = true
joins_bits op.Xor = true
joins_bits _ = false

abbrev pub multiplies : BinOp → Bool
multiplies op.Mul = true
multiplies _ = false

-- the operands may be swapped
abbrev pub swaps : BinOp → Bool
swaps op.Sub = false
swaps p = adds p || joins_bits p

-- ---- the destination as first operand
-- an instruction `OP d, o` has its first operand where its result goes. Either the first operand a
-- is d; or the operands may be swapped and o is d; or d is a register that the rest does not have,
-- and a is copied to it first. Then one instruction has at most one M.
abbrev pub computes : Bool → Class → Operand → Operand → Bool
computes swapped d a o = is_rm d && (is_rmi a.class &&
    ((is_same a && not (is_m d && is_m o.class))
    || ((swapped && (is_same o && not (is_m d && is_m a.class)))
    || (is_r d && is_apart o))))

-- the same without a second operand that is a place
abbrev pub changes : Class → Operand → Bool
changes d a = is_rm d && (is_rmi a.class && (is_same a || is_r d))

abbrev pub are_inline : Operand → Operand → Bool
are_inline a o = is_i a.class && is_i o.class

-- ---- what rows and intrinsics have in common
-- what leads is nothing or a flag result
abbrev pub may_lead : Option Class → Bool
may_lead None = true
may_lead (Some c) = is_flag_result c

abbrev pub is_alone : Option Class → Bool
is_alone None = true
is_alone (Some c) = false

-- a sum, a difference or an operation on bits, perhaps with a flag before; two inline operands are
-- one
abbrev pub sums : Option Class → Bool → Class → Operand → Operand → Bool
sums lead swapped d a o =
    may_lead lead && (is_rmi o.class && (not (are_inline a o) && computes swapped d a o))

-- a quotient or remainder in a register that the divisor does not have
abbrev pub is_quotient : Class → Operand → Operand → Bool
is_quotient d a b =
    is_r d && (is_long (class_size d) && (is_rmi a.class && (is_rm b.class && is_apart b)))

-- a product in a register; the operands are not swapped where the first is I
abbrev pub times : Class → Operand → Operand → Bool
times d a o =
    is_r d && (is_wide (class_size d) && (is_rm o.class && computes (not (is_i a.class)) d a o))

-- a product of R or M and I
abbrev pub times_inline : Class → Operand → Operand → Bool
times_inline d a o = is_r d && (is_wide (class_size d) && (is_rm a.class && is_i o.class))

-- the size that a name says, else that of a result or operand
abbrev pub product_size : Option Size → Class → Class → Operand → Operand → Option Size
product_size z h l a b =
    option_or z
    (option_or (class_size h)
    (option_or (class_size l) (option_or (class_size a.class) (class_size b.class))))

-- both halves of a product
abbrev pub is_product : Option Size → Class → Class → Operand → Operand → Bool
is_product z h l a b =
    is_pinned h && (is_long (product_size z h l a b) && (is_rmi a.class && (is_rm b.class
    && (is_skip l || (is_r l && computes (not (is_i a.class)) l a b)))))

abbrev pub shifts_inline : Class → Operand → Operand → Bool
shifts_inline d a o = is_i o.class && changes d a

-- what the mask of a count keeps: six bits of a count for 64 bits, else five
abbrev pub keeps : Mask → Bool → Bool
keeps mask.Five longest = not longest
keeps mask.Six longest = longest

abbrev pub masks : Bool → Class → Bool
masks longest (class.Masked m) = keeps m longest
masks longest _ = false

abbrev pub shifts_masked : Option Size → Class → Operand → Operand → Bool
shifts_masked z d a o =
    masks (is_longest (option_or z (option_or (class_size d) (class_size a.class)))) o.class
    && computes false d a o

-- ---- the rows
-- `d = o`
abbrev pub copy_row : Shape → Bool
copy_row (shapes.Assign None d o v) = is_rm d && (is_rmi o && not (is_m d && is_m o))
copy_row _ = false

-- `d = a op o`, op `+ - & | ^`; a flag may lead for `+` and `-`
abbrev pub arithmetic_row : Shape → Bool
arithmetic_row (shapes.Assign lead d w (values.Two p a o)) =
    (adds p || (joins_bits p && is_alone lead)) && sums lead (swaps p) d a o
arithmetic_row _ = false

-- `d = a + o + c`, `d = a - o - c`, c a flag; a flag may lead
abbrev pub carrying_row : Shape → Bool
carrying_row (shapes.Assign lead d w (values.Carry p a o)) = sums lead (swaps p) d a o
carrying_row _ = false

-- `d = -a`, `d = !a`
abbrev pub unary_row : Shape → Bool
unary_row (shapes.Assign None d w (values.One a)) = changes d a
unary_row _ = false

-- `r = a * o`, o R or M
abbrev pub times_row : Shape → Bool
times_row (shapes.Assign None d w (values.Two p a o)) = multiplies p && times d a o
times_row _ = false

-- `r = a * c`, c I, a R or M
abbrev pub times_inline_row : Shape → Bool
times_inline_row (shapes.Assign None d w (values.Two p a o)) = multiplies p && times_inline d a o
times_inline_row _ = false

-- `h, l = a * b`, b R or M; 32 and 64 bits
abbrev pub wide_product_row : Shape → Bool
wide_product_row (shapes.Assign (Some h) l w (values.Two p a b)) =
    multiplies p && is_product None h l a b
wide_product_row _ = false

-- `r = a / b`, `a % b`, signed or not, b R or M without r; 32 and 64 bits
abbrev pub quotient_row : Shape → Bool
quotient_row (shapes.Assign None d w (values.Two p a b)) = divides p && is_quotient d a b
quotient_row _ = false

-- `d = a sh c`, c I
abbrev pub inline_shift_row : Shape → Bool
inline_shift_row (shapes.Assign None d w (values.Two p a o)) = is_shift p && shifts_inline d a o
inline_shift_row _ = false

-- `d = a sh (v & k)`, v a byte in a register
abbrev pub masked_shift_row : Shape → Bool
masked_shift_row (shapes.Assign None d w (values.Two p a o)) =
    is_shift p && shifts_masked None d a o
masked_shift_row _ = false

-- `r = (tu)o`, o R or M, smaller
abbrev pub zero_extension_row : Shape → Bool
zero_extension_row (shapes.Assign None d w (values.Cast z signed o)) =
    not signed && (is_r d && (is_rm o && is_below (class_size o) z))
zero_extension_row _ = false

-- `r = (ts)o`, the same
abbrev pub sign_extension_row : Shape → Bool
sign_extension_row (shapes.Assign None d w (values.Cast z signed o)) =
    signed && (is_r d && (is_rm o && is_below (class_size o) z))
sign_extension_row _ = false

-- `r = (tu)a`, a R of the same size or a larger one
abbrev pub truncation_row : Shape → Bool
truncation_row (shapes.Assign None d w (values.Cast z signed a)) =
    not signed && (is_r d && (is_r a && not (is_below (class_size a) z)))
truncation_row _ = false

-- `r = o if c`, o R or M; 16, 32 and 64 bits
abbrev pub conditional_row : Shape → Bool
conditional_row (shapes.Conditional d o c) = is_r d && (is_wide (class_size d) && (is_rm o && c))
conditional_row _ = false

-- the condition of an `if` or `while`
abbrev pub condition : Shape → Bool
condition (shapes.Test c) = c
condition _ = false

-- ---- the intrinsics
abbrev pub one_fits : Intrinsic → Option Size → Class → Operand → Bool
one_fits name.Neg z d a = changes d a
one_fits name.Inc z d a = changes d a
one_fits name.Dec z d a = changes d a
one_fits name.Not z d a = changes d a
one_fits name.Bswap z d a = is_r d && (is_long (option_or z (class_size d)) && changes d a)
one_fits _ z d a = false

abbrev pub two_fits : Intrinsic → Option Size → Class → Operand → Operand → Bool
two_fits name.Add z d a o = is_rmi o.class && computes true d a o
two_fits name.And z d a o = is_rmi o.class && computes true d a o
two_fits name.Or z d a o = is_rmi o.class && computes true d a o
two_fits name.Xor z d a o = is_rmi o.class && computes true d a o
two_fits name.Sub z d a o = is_rmi o.class && computes false d a o
two_fits name.Imul z d a o = times d a o || times_inline d a o
two_fits name.Shl z d a o = shifts_inline d a o || shifts_masked z d a o
two_fits name.Shr z d a o = shifts_inline d a o || shifts_masked z d a o
two_fits name.Sar z d a o = shifts_inline d a o || shifts_masked z d a o
two_fits name.Rol z d a o = shifts_inline d a o || shifts_masked z d a o
two_fits name.Ror z d a o = shifts_inline d a o || shifts_masked z d a o
two_fits _ z d a o = false

abbrev pub three_fits : Intrinsic → Class → Operand → Operand → Class → Bool
three_fits name.Adc d a o c = is_flag c && (is_rmi o.class && computes true d a o)
three_fits name.Sbb d a o c = is_flag c && (is_rmi o.class && computes false d a o)
three_fits _ d a o c = false

-- the size that the name of a division says, else that of a result or operand
abbrev pub division_size : Option Size → Class → Class → Class → Class → Class → Option Size
division_size z q r hi lo b =
    option_or z
    (option_or (class_size q)
    (option_or (class_size r)
    (option_or (class_size hi) (option_or (class_size lo) (class_size b)))))

-- the quotient is written before the high word and the divisor are read, the remainder before the
-- divisor is
abbrev pub divides_long : Option Size → Class → Class → Class → Class → Class → Bool → Bool
divides_long z q r hi lo b apart =
    is_pinned q && (is_pinned r && (is_rmi hi && (is_rmi lo && (is_rm b && (apart
    && is_long (division_size z q r hi lo b))))))

-- a byte, R or M
abbrev pub sets : Option Size → Class → Bool
sets z d = is_byte_size z && (is_rm d && is_byte_size (class_size d))

-- the intrinsic that a statement is
abbrev pub named_if : Intrinsic → Bool → Option Intrinsic
named_if n fits = if fits then Some n else None

abbrev pub intrinsic_of : Shape → Option Intrinsic
intrinsic_of (shapes.One n z d a) = named_if n (one_fits n z d a)
intrinsic_of (shapes.Two n z d a o) = named_if n (two_fits n z d a o)
intrinsic_of (shapes.Three n d a o c) = named_if n (three_fits n d a o c)
intrinsic_of (shapes.Address z d sum) =
    named_if name.Lea (is_r d && (is_longest (option_or z (class_size d)) && sum))
intrinsic_of (shapes.Compare n a o) = named_if n (is_rm a && (is_r o || is_i o))
intrinsic_of (shapes.Product z h l a b) = named_if name.Mul (is_product z h l a b)
intrinsic_of (shapes.Division z q r hi lo b apart) =
    named_if name.Div (divides_long z q r hi lo b apart)
intrinsic_of (shapes.Set z d c) = named_if name.Setcc (sets z d && c)
intrinsic_of _ = None
