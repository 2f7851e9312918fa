-- What an operator gives, and what it wants of its operands.
use Rattle.std.specs.Prelude.{Bool, true, false, not, ◌&&◌, if◌then◌else◌, Option, None}
use Rattle.std.specs.Option.{option_or}
use Rattle.jz_tree.specs.Size.{Size}
use Rattle.jz_tree.specs.Size.TheVariants as sizes
use Rattle.jz_tree.specs.declared.expr.BinOp.{BinOp}
use Rattle.jz_tree.specs.declared.expr.BinOp.TheVariants as op
use Rattle.jz_type_sizes.specs.declared.operators.Group.{Group}
use Rattle.jz_type_sizes.specs.declared.operators.Group.TheVariants as group
use Rattle.jz_type_sizes.specs.declared.wants.Want.{Want}
use Rattle.jz_type_sizes.specs.declared.wants.Want.TheVariants as want
use Rattle.jz_type_sizes.specs.declared.wants.Form.{Form}
use Rattle.jz_type_sizes.specs.Wants.{fits_truth, sized_want}

abbrev pub group_of : BinOp → Group
group_of op.OrElse = group.Logic
group_of op.AndThen = group.Logic
group_of op.Eq = group.Compare
group_of op.Ne = group.Compare
group_of op.Lt = group.Compare
group_of op.Le = group.Compare
group_of op.Gt = group.Compare
group_of op.Ge = group.Compare
group_of op.LtS = group.Compare
group_of op.LeS = group.Compare
group_of op.GtS = group.Compare
group_of op.GeS = group.Compare
group_of op.Shl = group.Shift
group_of op.Shr = group.Shift
group_of op.Sar = group.Shift
group_of op.Rol = group.Shift
group_of op.Ror = group.Shift
group_of _ = group.Arith

-- those that only words have: the signed ones and the rotations
abbrev pub is_of_words : BinOp → Bool
is_of_words op.LtS = true
is_of_words op.LeS = true
is_of_words op.GtS = true
is_of_words op.GeS = true
is_of_words op.Sar = true
is_of_words op.Rol = true
is_of_words op.Ror = true
is_of_words op.DivS = true
is_of_words op.RemS = true
is_of_words _ = false

-- ---- what it gives
-- the result is what the place wants
abbrev pub gives : Group → Want → Bool
gives group.Logic w = fits_truth w
gives group.Compare w = fits_truth w
gives group.Shift w = not (fits_truth w)
gives group.Arith w = not (fits_truth w)

-- its operands are asked nothing, as they would be asked for what the whole of it is not
abbrev pub stops : Group → Want → Bool
stops group.Logic w = false
stops group.Compare w = false
stops group.Shift w = fits_truth w
stops group.Arith w = fits_truth w

-- the size that the operands of a comparison share, that of the left one where it has one
abbrev pub compared_size : Group → Option Size → Option Size → Option Size
compared_size group.Compare a b = option_or a b
compared_size _ a b = None

abbrev pub group_size : Group → Option Size → Option Size → Option Size
group_size group.Shift a b = a
group_size group.Arith a b = option_or a b
group_size _ a b = None

abbrev pub is_test : Group → Bool
is_test group.Logic = true
is_test group.Compare = true
is_test _ = false

abbrev pub bin_form : Group → Form → Form → Form
bin_form g a b = record {
  size = group_size g a.size b.size;
  truth = is_test g;
  inline = b.inline && a.inline;
}

-- ---- what it wants
-- where both operands are inline, an operation that only words have wants a word
abbrev pub word_or : Bool → Want → Want
word_or words w = if words then want.AnyWord else w

-- the left operand; inline: both are inline
abbrev pub left_of : Group → BinOp → Bool → Option Size → Want → Want
left_of group.Logic o inline z w = want.Truth
left_of group.Compare o inline z w = sized_want (is_of_words o && inline) z
left_of group.Shift o inline z w = word_or (is_of_words o && inline) w
left_of group.Arith o inline z w = word_or (is_of_words o && inline) w

-- a bool may be added and taken away where no integer is wanted
abbrev pub is_word_place : Want → Bool
is_word_place want.Int = false
is_word_place want.Truth = false
is_word_place w = true

abbrev pub takes_carry : BinOp → Want → Bool
takes_carry op.Add w = is_word_place w
takes_carry op.Sub w = is_word_place w
takes_carry _ w = false

-- the count of a shift is a byte, in an integer an integer
abbrev pub count_want : Want → Want
count_want want.Int = want.Int
count_want _ = want.Word sizes.S8

-- the right operand; carry: it is a bool, and may be one
abbrev pub right_of : Group → Bool → Option Size → Want → Want
right_of group.Logic carry z w = want.Truth
right_of group.Compare carry z w = sized_want false z
right_of group.Shift carry z w = count_want w
right_of group.Arith carry z w = if carry then want.Truth else w
