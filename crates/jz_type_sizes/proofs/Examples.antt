-- Examples of what the definitions say.
use Rattle.std.specs.Prelude.{◌≡◌, ℕ, suc, pos, false, [], ◌∷◌, Option, Some, None}
use mathlib.Core.Path.{refl}
use Rattle.jz_tree.specs.Span.{Span}
use Rattle.jz_tree.specs.Size.{Size}
use Rattle.jz_tree.specs.Size.TheVariants as sizes
use Rattle.jz_tree.specs.declared.expr.Storage.{Storage}
use Rattle.jz_tree.specs.declared.expr.Storage.TheVariants as storage
use Rattle.jz_tree.specs.declared.expr.BinOp.{BinOp}
use Rattle.jz_tree.specs.declared.expr.BinOp.TheVariants as op
use Rattle.jz_tree.specs.declared.expr.Expr.TheOpen.{Expr-F}
use Rattle.jz_type_names.specs.declared.kinds.Kind.{Kind}
use Rattle.jz_type_names.specs.declared.kinds.Kind.TheVariants as kind
use Rattle.jz_type_sizes.specs.declared.wants.Want.TheVariants as want
use Rattle.jz_type_sizes.specs.Wants.{index_want}
use Rattle.jz_type_sizes.specs.Typings.{Typing, typing_step, access_typing}

abbrev at : ℕ → Span
at c = record { line = 1; col = c }

abbrev v : Storage → Kind → ℕ → Typing
v s k c = typing_step (Expr-F.Var (Some (record { storage = s; kind = k }), at c))

abbrev x : Size → ℕ → Typing
x z c = v storage.Reg (kind.Word z) c

abbrev flag : ℕ → Typing
flag c = v storage.Reg kind.Truth c

abbrev i : ℕ → Typing
i c = v storage.Inline kind.Int c

abbrev num : ℕ → Typing
num c = typing_step (Expr-F.Num (pos 3) (at c))

abbrev load : Option Size → ℕ → Typing
load z c = access_typing (record { size = z; at = x sizes.S64 (suc c); unaligned = false; span = at c })

abbrev bin : BinOp → Typing → Typing → Typing
bin o a b = typing_step (Expr-F.Bin o a b (at 1))

abbrev cast : Size → Typing → Typing
cast z a = typing_step (Expr-F.Cast z false a (at 1))

-- x64 + y32 in a place of 64 bits
sum_of_two_sizes : (bin op.Add (x sizes.S64 1) (x sizes.S32 2)).wrong (want.Word sizes.S64) ≡ (at 2 ∷ [])
sum_of_two_sizes = refl

-- x64 + c
sum_with_a_bool : (bin op.Add (x sizes.S64 1) (flag 2)).wrong (want.Word sizes.S64) ≡ []
sum_with_a_bool = refl

-- x64 * c
product_with_a_bool : (bin op.Mul (x sizes.S64 1) (flag 2)).wrong (want.Word sizes.S64) ≡ (at 2 ∷ [])
product_with_a_bool = refl

-- (64u)3, (64u)[p], (64u)x8
cast_of_a_number : (cast sizes.S64 (num 2)).wrong (want.Word sizes.S64) ≡ (at 2 ∷ [])
cast_of_a_number = refl

cast_of_an_access : (cast sizes.S64 (load None 2)).wrong (want.Word sizes.S64) ≡ (at 2 ∷ [])
cast_of_an_access = refl

cast_of_a_byte : (cast sizes.S64 (x sizes.S8 2)).wrong (want.Word sizes.S64) ≡ []
cast_of_a_byte = refl

-- 3 <s 3, 3 < i, [p] < x32, [p] < 3, 3 <s x32
signed_test_of_numbers : (bin op.LtS (num 1) (num 2)).wrong want.Truth ≡ (at 1 ∷ [])
signed_test_of_numbers = refl

test_of_numbers : (bin op.Lt (num 1) (i 2)).wrong want.Truth ≡ []
test_of_numbers = refl

test_of_an_access : (bin op.Lt (load None 1) (x sizes.S32 3)).wrong want.Truth ≡ []
test_of_an_access = refl

test_of_an_access_by_a_number : (bin op.Lt (load None 1) (num 3)).wrong want.Truth ≡ (at 1 ∷ [])
test_of_an_access_by_a_number = refl

signed_test_of_a_word : (bin op.LtS (num 1) (x sizes.S32 3)).wrong want.Truth ≡ []
signed_test_of_a_word = refl

-- 3 <<r 3 in a place of 64 bits, 3 << 3 there, x64 << x64, 3 >>s c8
rotation_of_a_number : (bin op.Rol (num 1) (num 2)).wrong (want.Word sizes.S64) ≡ (at 1 ∷ [])
rotation_of_a_number = refl

shift_of_a_number : (bin op.Shl (num 1) (num 2)).wrong (want.Word sizes.S64) ≡ []
shift_of_a_number = refl

count_of_a_wide_word : (bin op.Shl (x sizes.S64 1) (x sizes.S64 2)).wrong (want.Word sizes.S64) ≡ (at 2 ∷ [])
count_of_a_wide_word = refl

signed_shift_by_a_byte : (bin op.Sar (num 1) (x sizes.S8 2)).wrong (want.Word sizes.S64) ≡ []
signed_shift_by_a_byte = refl

-- 3 + c and i + c as an index, x64 + c there
number_and_bool_as_index : (bin op.Add (num 1) (flag 2)).wrong index_want ≡ []
number_and_bool_as_index = refl

word_and_bool_as_index : (bin op.Add (x sizes.S64 1) (flag 2)).wrong index_want ≡ []
word_and_bool_as_index = refl

-- 3 + c in the place of an integer, of a word, and where nothing gives a size; 3 * c there
number_and_bool_as_integer : (bin op.Add (num 1) (flag 2)).wrong want.Int ≡ (at 2 ∷ [])
number_and_bool_as_integer = refl

number_and_bool_as_word : (bin op.Add (num 1) (flag 2)).wrong (want.Word sizes.S64) ≡ []
number_and_bool_as_word = refl

number_and_bool_without_size : (bin op.Add (num 1) (flag 2)).wrong want.Unsized ≡ []
number_and_bool_without_size = refl

number_times_bool_without_size : (bin op.Mul (num 1) (flag 2)).wrong want.Unsized ≡ (at 2 ∷ [])
number_times_bool_without_size = refl

-- 3 << c8, 3 << x64 and [p] where nothing gives a size
shift_by_a_byte_without_size : (bin op.Shl (num 1) (x sizes.S8 2)).wrong want.Unsized ≡ []
shift_by_a_byte_without_size = refl

shift_by_a_wide_word_without_size : (bin op.Shl (num 1) (x sizes.S64 2)).wrong want.Unsized ≡ (at 2 ∷ [])
shift_by_a_wide_word_without_size = refl

access_without_size : (load None 1).wrong want.Unsized ≡ (at 1 ∷ [])
access_without_size = refl

-- (64u)(3 << c8): a number has no size, whatever the count is
cast_of_a_shifted_number : (cast sizes.S64 (bin op.Shl (num 1) (x sizes.S8 2))).wrong (want.Word sizes.S64) ≡ (at 1 ∷ [])
cast_of_a_shifted_number = refl

-- (32u)(q ^ [p]): an access without a size has none under a cast, whatever stands beside it
cast_of_an_access_beside_a_word : (cast sizes.S32 (bin op.Xor (x sizes.S64 2) (load None 3))).wrong (want.Word sizes.S32) ≡ (at 3 ∷ [])
cast_of_an_access_beside_a_word = refl
