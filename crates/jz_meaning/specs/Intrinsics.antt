-- Intrinsics: what each instruction leaves of words, flags and value, by its own formulas. A flag
-- that it leaves undefined is unset.
use Rattle.std.specs.Prelude.{ℕ, Bool, true, false, List, [], ◌∷◌, ◌++◌, map, drop, take, Option, Some, None, pos}
use Rattle.std.specs.Option.{option_or}
use Rattle.jz_tree.specs.Span.{Span}
use Rattle.x64_insn.specs.Size.{Size}
use Rattle.x64_insn.specs.Size.TheVariants.{S8, S64}
use Rattle.x64_insn.specs.Words.{carried, swapped_of}
use Rattle.x64_insn.specs.declared.types.FlagVal.{FlagVal}
use Rattle.x64_insn.specs.declared.types.FlagVal.TheVariants.{True, False, Undefined}
use Rattle.x64_insn.specs.declared.types.Alu.{Alu}
use Rattle.x64_insn.specs.declared.types.Alu.TheVariants as alu
use Rattle.x64_insn.specs.declared.types.One.{One}
use Rattle.x64_insn.specs.declared.types.One.TheVariants as one
use Rattle.x64_insn.specs.declared.types.Shift.{Shift}
use Rattle.x64_insn.specs.declared.types.Shift.TheVariants as shift
use Rattle.x64_insn.specs.Answers.{alu_answer, one_answer}
use Rattle.x64_insn.specs.Shifts.{masked, shifted, shift_answer}
use Rattle.x64_insn.specs.declared.products.DoubleAnswer.{DoubleAnswer}
use Rattle.x64_insn.specs.Products.{no_flags, product_answer, low_product_answer, quotient_answer}
use Rattle.jz_tree.specs.declared.expr.Expr.{Expr}
use Rattle.jz_tree.specs.declared.stmt.Lval.{Lval}
use Rattle.jz_tree.specs.declared.intrinsic.Intrinsic.{Intrinsic}
use Rattle.jz_tree.specs.declared.intrinsic.Instance.{Instance}
use Rattle.jz_tree.specs.declared.intrinsic.Intrinsic.TheVariants as name
use Rattle.jz_runs.specs.Rules.{went}
use Rattle.jz_meaning.specs.declared.value.Why.TheVariants.{Init, Divide}
use Rattle.jz_meaning.specs.Attempts.{Evaluation, stuck_at, and_then}
use Rattle.jz_meaning.specs.States.{Value, word, boolean, integer, State}
use Rattle.jz_meaning.specs.Values.{own_size, evaluated}
use Rattle.jz_meaning.specs.Assignments.{Results, left_sizes, word_in, bool_in, all_written}

-- ---- flags and values

abbrev pub flag_result : FlagVal → Option Value
flag_result True = Some (boolean true)
flag_result False = Some (boolean false)
flag_result Undefined = None

-- OF, CF, SF, PF, ZF
abbrev pub all_flags : List FlagVal → Results
all_flags fs = map flag_result fs

-- OF, CF
abbrev pub first_two : List FlagVal → Results
first_two fs = take 2 (all_flags fs)

-- OF, SF, PF, ZF: CF is kept, and no result
abbrev pub all_but_carry : List FlagVal → Results
all_but_carry fs = take 1 (all_flags fs) ++ drop 2 (all_flags fs)

abbrev pub before_value : Results → Size → ℕ → Results
before_value fs z v = fs ++ Some (word z v) ∷ []

-- ---- by the number of operands, which are evaluated from left to right

abbrev pub of_one : (ℕ → Results) → Span → Size → List Expr → State → Evaluation Results
of_one f at z (a ∷ []) s = and_then (word_in at z a s) (λ x. went [] (f x))
of_one f at z _ s = stuck_at at Init

abbrev pub of_two : (ℕ → ℕ → Results) → Span → Size → List Expr → State → Evaluation Results
of_two f at z (a ∷ b ∷ []) s = and_then (word_in at z a s) (λ x. and_then (word_in at z b s) (λ y. went [] (f x y)))
of_two f at z _ s = stuck_at at Init

-- two words and a flag
abbrev pub of_carry : (ℕ → ℕ → Bool → Results) → Span → Size → List Expr → State → Evaluation Results
of_carry f at z (a ∷ b ∷ c ∷ []) s =
    and_then (word_in at z a s) (λ x. and_then (word_in at z b s) (λ y. and_then (bool_in at c s) (λ k. went [] (f x y k))))
of_carry f at z _ s = stuck_at at Init

-- a word and a count: flags are set by a count that is constant and not 0 alone
abbrev pub shift_results : (List FlagVal → Results) → Shift → Span → Size → ℕ → Value → Evaluation Results
shift_results flags kind at z a (integer (pos n)) =
    let r = shift_answer kind z a (masked z n) no_flags in went [] (before_value (flags r.flags) z r.value)
shift_results flags kind at z a (word y n) = went [] (before_value (flags no_flags) z (shifted kind z a (masked z n)))
shift_results flags kind at z a _ = stuck_at at Init

abbrev pub of_count : (List FlagVal → Results) → Shift → Span → Size → List Expr → State → Evaluation Results
of_count flags kind at z (a ∷ n ∷ []) s =
    and_then (word_in at z a s) (λ x. and_then (evaluated n (Some S8) s) (λ v. shift_results flags kind at z x v))
of_count flags kind at z _ s = stuck_at at Init

abbrev pub divided_by : Span → Size → List ℕ → Option DoubleAnswer → Evaluation Results
divided_by at z ns None = stuck_at at Divide
divided_by at z ns (Some r) = went ns (all_flags r.flags ++ Some (word z r.low) ∷ Some (word z r.high) ∷ [])

-- the quotient before the remainder, where a word holds the quotient; a division shows the high
-- word, the low word and the divisor
abbrev pub division_results : Span → Size → ℕ → ℕ → ℕ → Evaluation Results
division_results at z high low d = divided_by at z (high ∷ low ∷ d ∷ []) (quotient_answer z high low d)

abbrev pub of_division : Span → Size → List Expr → State → Evaluation Results
of_division at z (a ∷ b ∷ d ∷ []) s =
    and_then (word_in at z a s) (λ high. and_then (word_in at z b s) (λ low. and_then (word_in at z d s) (division_results at z high low)))
of_division at z _ s = stuck_at at Init

-- a condition as a byte
abbrev pub of_condition : Span → List Expr → State → Evaluation Results
of_condition at (c ∷ []) s = and_then (bool_in at c s) (λ k. went [] (Some (word S8 (carried k)) ∷ []))
of_condition at _ s = stuck_at at Init

-- ---- each instruction

abbrev pub alu_results : Alu → Size → ℕ → ℕ → Bool → Results
alu_results op z a b c = let r = alu_answer op z a b c in before_value (all_flags r.flags) z r.value

-- INC and DEC keep CF
abbrev pub one_results : (List FlagVal → Results) → One → Size → ℕ → Results
one_results flags op z a = let r = one_answer op z a no_flags in before_value (flags r.flags) z r.value

-- the low word of a signed product, and both words of an unsigned one
abbrev pub low_product_results : Size → ℕ → ℕ → Results
low_product_results z a b = let r = low_product_answer z a b in before_value (all_flags r.flags) z r.value

abbrev pub product_results : Size → ℕ → ℕ → Results
product_results z a b = let r = product_answer z a b in all_flags r.flags ++ Some (word z r.high) ∷ Some (word z r.low) ∷ []

abbrev pub no_results : List FlagVal → Results
no_results fs = []

abbrev pub intrinsic_results : Intrinsic → Span → Size → List Expr → State → Evaluation Results
intrinsic_results name.Add at z = of_two (λ a b. alu_results alu.Add z a b false) at z
intrinsic_results name.Sub at z = of_two (λ a b. alu_results alu.Sub z a b false) at z
intrinsic_results name.And at z = of_two (λ a b. alu_results alu.And z a b false) at z
intrinsic_results name.Or at z = of_two (λ a b. alu_results alu.Or z a b false) at z
intrinsic_results name.Xor at z = of_two (λ a b. alu_results alu.Xor z a b false) at z
intrinsic_results name.Adc at z = of_carry (alu_results alu.Adc z) at z
intrinsic_results name.Sbb at z = of_carry (alu_results alu.Sbb z) at z
intrinsic_results name.Neg at z = of_one (one_results all_flags one.Neg z) at z
intrinsic_results name.Inc at z = of_one (one_results all_but_carry one.Inc z) at z
intrinsic_results name.Dec at z = of_one (one_results all_but_carry one.Dec z) at z
intrinsic_results name.Not at z = of_one (one_results no_results one.Not z) at z
intrinsic_results name.Bswap at z = of_one (λ a. before_value [] z (swapped_of z a)) at z
intrinsic_results name.Lea at z = of_one (λ a. before_value [] S64 a) at S64
intrinsic_results name.Cmp at z = of_two (λ a b. all_flags (alu_answer alu.Cmp z a b false).flags) at z
intrinsic_results name.Test at z = of_two (λ a b. all_flags (alu_answer alu.Test z a b false).flags) at z
intrinsic_results name.Shl at z = of_count all_flags shift.Shl at z
intrinsic_results name.Shr at z = of_count all_flags shift.Shr at z
intrinsic_results name.Sar at z = of_count all_flags shift.Sar at z
intrinsic_results name.Rol at z = of_count first_two shift.Rol at z
intrinsic_results name.Ror at z = of_count first_two shift.Ror at z
intrinsic_results name.Imul at z = of_two (low_product_results z) at z
intrinsic_results name.Mul at z = of_two (product_results z) at z
intrinsic_results name.Div at z = of_division at z
intrinsic_results name.Setcc at z = of_condition at

-- the size that the name says, or that of the value, or that of the first operand that has one;
-- SETcc gives a byte, LEA a word of 64 bits
abbrev pub first_size : List Expr → Option Size
first_size [] = None
first_size (e ∷ es) = option_or (own_size e) (first_size es)

abbrev pub intrinsic_size : Intrinsic → Option Size → List Lval → List Expr → Option Size
intrinsic_size name.Setcc z to args = Some S8
intrinsic_size name.Lea z to args = Some S64
intrinsic_size i z to args = option_or z (option_or (left_sizes to) (first_size args))

abbrev pub sized_results : Intrinsic → Span → Option Size → List Expr → State → Evaluation Results
sized_results i at None args s = stuck_at at Init
sized_results i at (Some z) args s = intrinsic_results i at z args s

-- the instruction of that name, at the place of its name; then the left sides
abbrev pub instruction_done : Option Instance → List Lval → List Expr → Span → State → Evaluation State
instruction_done None to args at s = stuck_at at Init
instruction_done (Some i) to args at s =
    let z = intrinsic_size i.name i.size to args in and_then (sized_results i.name at z args s) (λ vs. all_written at z to vs s)
