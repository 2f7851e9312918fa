-- What each instruction gives its left sides, by their roles: flags, a word of its size, a byte.
use Rattle.std.proofs.Common.{◌≡◌, ◌==◌, ℕ, Bool, true, false, List, [], ◌∷◌, ◌++◌, Option, Some, None, refl, if◌then◌else◌, pos, negsuc}
use Rattle.jz_tree.specs.Span.{Span}
use Rattle.jz_tree.specs.Size.{Size}
use Rattle.jz_tree.specs.Size.TheVariants.{S8, S64}
use Rattle.jz_tree.specs.Words.{carried, swapped_of}
use Rattle.x64_insn.specs.declared.types.FlagVal.{FlagVal}
use Rattle.x64_insn.specs.declared.types.FlagVal.TheVariants.{True, False, Undefined}
use Rattle.x64_insn.specs.declared.types.Alu.{Alu}
use Rattle.x64_insn.specs.declared.types.Alu.TheVariants as alu
use Rattle.x64_insn.specs.declared.types.One.TheVariants as one
use Rattle.x64_insn.specs.declared.types.Shift.{Shift}
use Rattle.x64_insn.specs.declared.types.Shift.TheVariants as shift
use Rattle.x64_insn.specs.declared.answer.Answer.{Answer}
use Rattle.x64_insn.specs.declared.products.DoubleAnswer.{DoubleAnswer}
use Rattle.x64_insn.specs.Answers.{flags_of, sum_answer, difference_answer, and_answer, or_answer, xor_answer, alu_answer, one_answer}
use Rattle.x64_insn.specs.Shifts.{masked, shifted, shift_flags, shift_answer}
use Rattle.x64_insn.specs.Products.{no_flags, product_answer, low_product_answer, quotient_answer}
use Rattle.jz_tree.specs.declared.expr.Expr.{Expr}
use Rattle.jz_tree.specs.declared.intrinsic.Intrinsic.{Intrinsic}
use Rattle.jz_tree.specs.declared.intrinsic.Intrinsic.TheVariants as name
use Rattle.jz_type_sizes.specs.declared.signatures.Role.{Role}
use Rattle.jz_type_sizes.specs.declared.signatures.Role.TheVariants as role
use Rattle.jz_type_sizes.specs.Signatures.{five, four, results_of}
use Rattle.jz_meaning.specs.Rules.{went}
use Rattle.jz_meaning.specs.Attempts.{and_then}
use Rattle.jz_meaning.specs.States.{Value, word, boolean, integer, State}
use Rattle.jz_meaning.specs.Values.{evaluated}
use Rattle.jz_meaning.specs.Assignments.{Results, word_in, bool_in}
use Rattle.jz_meaning.specs.Intrinsics.{flag_result, all_flags, first_two, all_but_carry, before_value, of_one, of_two, of_carry, shift_results, of_count, divided_by, division_results, of_division, of_condition, alu_results, one_results, low_product_results, product_results, no_results, intrinsic_results}
use Rattle.jz_run_laws.specs.Kept.{IfWent}
use Rattle.jz_run_laws.proofs.Parts.{AnyOf, went_then, went_any}

-- ---- by roles
abbrev IsFlagValue : Option Value → Type 0
IsFlagValue None = Unit {0}
IsFlagValue (Some (boolean c)) = Unit {0}
IsFlagValue (Some (word x a)) = ⊥
IsFlagValue (Some (integer i)) = ⊥

abbrev IsWordOf : Size → Option Value → Type 0
IsWordOf z None = ⊥
IsWordOf z (Some (boolean c)) = ⊥
IsWordOf z (Some (word x a)) = x ≡ z
IsWordOf z (Some (integer i)) = ⊥

-- z is the size of values
abbrev pub ResultOf : Size → Role → Option Value → Type 0
ResultOf z role.Flag v = IsFlagValue v
ResultOf z role.Value v = IsWordOf z v
ResultOf z role.Byte v = IsWordOf S8 v
ResultOf z r v = ⊥

abbrev pub AreOf : Size → List Role → Results → Type 0
AreOf z [] [] = Unit {0}
AreOf z (r ∷ rs) (v ∷ vs) = ResultOf z r v × AreOf z rs vs
AreOf z rs vs = ⊥

-- ---- flags
abbrev IsFive : List FlagVal → Type 0
IsFive (a ∷ b ∷ c ∷ d ∷ e ∷ []) = Unit {0}
IsFive fs = ⊥

flag_of : (f : FlagVal) → IsFlagValue (flag_result f)
flag_of True = tt
flag_of False = tt
flag_of Undefined = tt

five_flags : (z : Size) (fs : List FlagVal) (rs : List Role) (vs : Results) → IsFive fs → AreOf z rs vs → AreOf z (five ++ rs) (all_flags fs ++ vs)
five_flags z (a ∷ b ∷ c ∷ d ∷ e ∷ []) rs vs h k = (flag_of a, (flag_of b, (flag_of c, (flag_of d, (flag_of e, k)))))
five_flags z fs rs vs h k = absurd h

two_flags : (z : Size) (fs : List FlagVal) (rs : List Role) (vs : Results) → IsFive fs → AreOf z rs vs → AreOf z (role.Flag ∷ role.Flag ∷ rs) (first_two fs ++ vs)
two_flags z (a ∷ b ∷ c ∷ d ∷ e ∷ []) rs vs h k = (flag_of a, (flag_of b, k))
two_flags z fs rs vs h k = absurd h

four_flags : (z : Size) (fs : List FlagVal) (rs : List Role) (vs : Results) → IsFive fs → AreOf z rs vs → AreOf z (four ++ rs) (all_but_carry fs ++ vs)
four_flags z (a ∷ b ∷ c ∷ d ∷ e ∷ []) rs vs h k = (flag_of a, (flag_of c, (flag_of d, (flag_of e, k))))
four_flags z fs rs vs h k = absurd h

alu_five : (p : Alu) (z : Size) (a b : ℕ) (c : Bool) → IsFive (alu_answer p z a b c).flags
unfolding sum_answer difference_answer and_answer or_answer xor_answer flags_of
alu_five alu.Add z a b c = tt
alu_five alu.Or z a b c = tt
alu_five alu.Adc z a b c = tt
alu_five alu.Sbb z a b c = tt
alu_five alu.And z a b c = tt
alu_five alu.Sub z a b c = tt
alu_five alu.Xor z a b c = tt
alu_five alu.Cmp z a b c = tt
alu_five alu.Test z a b c = tt

neg_five : (z : Size) (a : ℕ) → IsFive (one_answer one.Neg z a no_flags).flags
unfolding one_answer difference_answer flags_of
neg_five z a = tt

inc_five : (z : Size) (a : ℕ) → IsFive (one_answer one.Inc z a no_flags).flags
unfolding one_answer sum_answer flags_of
inc_five z a = tt

dec_five : (z : Size) (a : ℕ) → IsFive (one_answer one.Dec z a no_flags).flags
unfolding one_answer difference_answer flags_of
dec_five z a = tt

flags_five : (k : Shift) (z : Size) (a n : ℕ) → IsFive (shift_flags k z a n no_flags)
flags_five shift.Rol z a n = tt
flags_five shift.Ror z a n = tt
flags_five shift.Shl z a n = tt
flags_five shift.Shr z a n = tt
flags_five shift.Sar z a n = tt

abbrev HasFive : Answer → Type 0
HasFive r = IsFive r.flags

shift_by : (c : Bool) (k : Shift) (z : Size) (a n : ℕ) → HasFive (if c then record { value = a; flags = no_flags } else record { value = shifted k z a n; flags = shift_flags k z a n no_flags })
shift_by true k z a n = tt
shift_by false k z a n = flags_five k z a n

shift_five : (k : Shift) (z : Size) (a n : ℕ) → HasFive (shift_answer k z a n no_flags)
unfolding shift_answer
shift_five k z a n = shift_by (n == 0) k z a n

low_five : (z : Size) (a b : ℕ) → IsFive (low_product_answer z a b).flags
unfolding low_product_answer
low_five z a b = tt

product_five : (z : Size) (a b : ℕ) → IsFive (product_answer z a b).flags
unfolding product_answer
product_five z a b = tt

abbrev IfFive : Option DoubleAnswer → Type 0
IfFive None = Unit {0}
IfFive (Some r) = IsFive r.flags

quotient_by : (c e : Bool) (x y : ℕ) → IfFive (if c then None else if e then Some (record { high = x; low = y; flags = no_flags }) else None)
quotient_by true e x y = tt
quotient_by false true x y = tt
quotient_by false false x y = tt

quotient_five : (z : Size) (high low d : ℕ) → IfFive (quotient_answer z high low d)
unfolding quotient_answer
quotient_five z high low d = quotient_by (d == 0) _ _ _

-- ---- by the number of operands
one_went : (P : Results → Type 0) (f : ℕ → Results) (at : Span) (z : Size) (args : List Expr) (s : State) → ((x : ℕ) → P (f x)) → IfWent P (of_one f at z args s)
one_went P f at z [] s k = tt
one_went P f at z (a ∷ []) s k = went_then (AnyOf {A = ℕ}) P (word_in at z a s) (λ x. went [] (f x)) (went_any (word_in at z a s)) (λ x t. k x)
one_went P f at z (a ∷ b ∷ es) s k = tt

two_went : (P : Results → Type 0) (f : ℕ → ℕ → Results) (at : Span) (z : Size) (args : List Expr) (s : State) → ((x y : ℕ) → P (f x y)) → IfWent P (of_two f at z args s)
two_went P f at z [] s k = tt
two_went P f at z (a ∷ []) s k = tt
two_went P f at z (a ∷ b ∷ []) s k =
    went_then (AnyOf {A = ℕ}) P (word_in at z a s) (λ x. and_then (word_in at z b s) (λ y. went [] (f x y))) (went_any (word_in at z a s))
    (λ x t. went_then (AnyOf {A = ℕ}) P (word_in at z b s) (λ y. went [] (f x y)) (went_any (word_in at z b s)) (λ y u. k x y))
two_went P f at z (a ∷ b ∷ c ∷ es) s k = tt

carry_went : (P : Results → Type 0) (f : ℕ → ℕ → Bool → Results) (at : Span) (z : Size) (args : List Expr) (s : State) → ((x y : ℕ) (c : Bool) → P (f x y c)) → IfWent P (of_carry f at z args s)
carry_went P f at z [] s k = tt
carry_went P f at z (a ∷ []) s k = tt
carry_went P f at z (a ∷ b ∷ []) s k = tt
carry_went P f at z (a ∷ b ∷ c ∷ []) s k =
    went_then (AnyOf {A = ℕ}) P (word_in at z a s) (λ x. and_then (word_in at z b s) (λ y. and_then (bool_in at c s) (λ q. went [] (f x y q)))) (went_any (word_in at z a s))
    (λ x t. went_then (AnyOf {A = ℕ}) P (word_in at z b s) (λ y. and_then (bool_in at c s) (λ q. went [] (f x y q))) (went_any (word_in at z b s))
    (λ y u. went_then (AnyOf {A = Bool}) P (bool_in at c s) (λ q. went [] (f x y q)) (went_any (bool_in at c s)) (λ q v. k x y q)))
carry_went P f at z (a ∷ b ∷ c ∷ d ∷ es) s k = tt

shift_went : (P : Results → Type 0) (flags : List FlagVal → Results) (k : Shift) (at : Span) (z : Size) (a : ℕ) (v : Value) → ((fs : List FlagVal) (b : ℕ) → IsFive fs → P (before_value (flags fs) z b)) → IfWent P (shift_results flags k at z a v)
shift_went P flags k at z a (integer (pos n)) g = let r = shift_answer k z a (masked z n) no_flags in g r.flags r.value (shift_five k z a (masked z n))
shift_went P flags k at z a (integer (negsuc n)) g = tt
shift_went P flags k at z a (word y n) g = g no_flags (shifted k z a (masked z n)) tt
shift_went P flags k at z a (boolean c) g = tt

count_went : (P : Results → Type 0) (flags : List FlagVal → Results) (k : Shift) (at : Span) (z : Size) (args : List Expr) (s : State) → ((fs : List FlagVal) (b : ℕ) → IsFive fs → P (before_value (flags fs) z b)) → IfWent P (of_count flags k at z args s)
count_went P flags k at z [] s g = tt
count_went P flags k at z (a ∷ []) s g = tt
count_went P flags k at z (a ∷ n ∷ []) s g =
    went_then (AnyOf {A = ℕ}) P (word_in at z a s) (λ x. and_then (evaluated n (Some S8) s) (λ v. shift_results flags k at z x v)) (went_any (word_in at z a s))
    (λ x t. went_then (AnyOf {A = Value}) P (evaluated n (Some S8) s) (λ v. shift_results flags k at z x v) (went_any (evaluated n (Some S8) s)) (λ v u. shift_went P flags k at z x v g))
count_went P flags k at z (a ∷ b ∷ c ∷ es) s g = tt

divided_went : (at : Span) (z : Size) (ns : List ℕ) (r : Option DoubleAnswer) → IfFive r → IfWent (AreOf z (results_of name.Div)) (divided_by at z ns r)
divided_went at z ns None h = tt
divided_went at z ns (Some r) h = five_flags z r.flags (role.Value ∷ role.Value ∷ []) (Some (word z r.low) ∷ Some (word z r.high) ∷ []) h (refl, (refl, tt))

division_went : (at : Span) (z : Size) (args : List Expr) (s : State) → IfWent (AreOf z (results_of name.Div)) (of_division at z args s)
division_went at z [] s = tt
division_went at z (a ∷ []) s = tt
division_went at z (a ∷ b ∷ []) s = tt
division_went at z (a ∷ b ∷ d ∷ []) s =
    let P : Results → Type 0 = AreOf z (results_of name.Div) in
    went_then (AnyOf {A = ℕ}) P (word_in at z a s) (λ high. and_then (word_in at z b s) (λ low. and_then (word_in at z d s) (division_results at z high low))) (went_any (word_in at z a s))
    (λ high t. went_then (AnyOf {A = ℕ}) P (word_in at z b s) (λ low. and_then (word_in at z d s) (division_results at z high low)) (went_any (word_in at z b s))
    (λ low u. went_then (AnyOf {A = ℕ}) P (word_in at z d s) (division_results at z high low) (went_any (word_in at z d s))
    (λ n v. divided_went at z (high ∷ low ∷ n ∷ []) (quotient_answer z high low n) (quotient_five z high low n))))
division_went at z (a ∷ b ∷ c ∷ d ∷ es) s = tt

condition_went : (z : Size) (at : Span) (args : List Expr) (s : State) → IfWent (AreOf z (results_of name.Setcc)) (of_condition at args s)
condition_went z at [] s = tt
condition_went z at (c ∷ []) s =
    went_then (AnyOf {A = Bool}) (AreOf z (results_of name.Setcc)) (bool_in at c s) (λ k. went [] (Some (word S8 (carried k)) ∷ [])) (went_any (bool_in at c s)) (λ k t. (refl, tt))
condition_went z at (c ∷ d ∷ es) s = tt

-- ---- each instruction
value_last : (z : Size) (v : ℕ) → AreOf z (role.Value ∷ []) (Some (word z v) ∷ [])
value_last z v = (refl, tt)

alu_of : (p : Alu) (z : Size) (a b : ℕ) (c : Bool) → AreOf z (five ++ role.Value ∷ []) (alu_results p z a b c)
alu_of p z a b c = let r = alu_answer p z a b c in five_flags z r.flags (role.Value ∷ []) (Some (word z r.value) ∷ []) (alu_five p z a b c) (value_last z r.value)

flags_only : (p : Alu) (z : Size) (a b : ℕ) → AreOf z five (all_flags (alu_answer p z a b false).flags)
flags_only p z a b = by_flags (alu_answer p z a b false).flags (alu_five p z a b false)
  where
    by_flags : (fs : List FlagVal) → IsFive fs → AreOf z five (all_flags fs)
    by_flags (a ∷ b ∷ c ∷ d ∷ e ∷ []) h = (flag_of a, (flag_of b, (flag_of c, (flag_of d, (flag_of e, tt)))))
    by_flags fs h = absurd h

all_shift : (z : Size) (fs : List FlagVal) (b : ℕ) → IsFive fs → AreOf z (five ++ role.Value ∷ []) (before_value (all_flags fs) z b)
all_shift z fs b h = five_flags z fs (role.Value ∷ []) (Some (word z b) ∷ []) h (value_last z b)

two_shift : (z : Size) (fs : List FlagVal) (b : ℕ) → IsFive fs → AreOf z (role.Flag ∷ role.Flag ∷ role.Value ∷ []) (before_value (first_two fs) z b)
two_shift z fs b h = two_flags z fs (role.Value ∷ []) (Some (word z b) ∷ []) h (value_last z b)

neg_of : (z : Size) (a : ℕ) → AreOf z (five ++ role.Value ∷ []) (one_results all_flags one.Neg z a)
neg_of z a = let r = one_answer one.Neg z a no_flags in five_flags z r.flags (role.Value ∷ []) (Some (word z r.value) ∷ []) (neg_five z a) (value_last z r.value)

inc_of : (z : Size) (a : ℕ) → AreOf z (four ++ role.Value ∷ []) (one_results all_but_carry one.Inc z a)
inc_of z a = let r = one_answer one.Inc z a no_flags in four_flags z r.flags (role.Value ∷ []) (Some (word z r.value) ∷ []) (inc_five z a) (value_last z r.value)

dec_of : (z : Size) (a : ℕ) → AreOf z (four ++ role.Value ∷ []) (one_results all_but_carry one.Dec z a)
dec_of z a = let r = one_answer one.Dec z a no_flags in four_flags z r.flags (role.Value ∷ []) (Some (word z r.value) ∷ []) (dec_five z a) (value_last z r.value)

low_of : (z : Size) (a b : ℕ) → AreOf z (five ++ role.Value ∷ []) (low_product_results z a b)
low_of z a b = let r = low_product_answer z a b in five_flags z r.flags (role.Value ∷ []) (Some (word z r.value) ∷ []) (low_five z a b) (value_last z r.value)

product_of : (z : Size) (a b : ℕ) → AreOf z (five ++ role.Value ∷ role.Value ∷ []) (product_results z a b)
product_of z a b =
    let r = product_answer z a b in
    five_flags z r.flags (role.Value ∷ role.Value ∷ []) (Some (word z r.high) ∷ Some (word z r.low) ∷ []) (product_five z a b) (refl, (refl, tt))

-- LEA gives a word of 64 bits
abbrev pub value_size : Intrinsic → Size → Size
value_size name.Lea z = S64
value_size i z = z

pub given_of : (i : Intrinsic) (at : Span) (z : Size) (args : List Expr) (s : State) → IfWent (AreOf (value_size i z) (results_of i)) (intrinsic_results i at z args s)
given_of name.Add at z args s = two_went (AreOf (value_size name.Add z) (results_of name.Add)) (λ a b. alu_results alu.Add z a b false) at z args s (λ x y. alu_of alu.Add z x y false)
given_of name.Sub at z args s = two_went (AreOf (value_size name.Sub z) (results_of name.Sub)) (λ a b. alu_results alu.Sub z a b false) at z args s (λ x y. alu_of alu.Sub z x y false)
given_of name.And at z args s = two_went (AreOf (value_size name.And z) (results_of name.And)) (λ a b. alu_results alu.And z a b false) at z args s (λ x y. alu_of alu.And z x y false)
given_of name.Or at z args s = two_went (AreOf (value_size name.Or z) (results_of name.Or)) (λ a b. alu_results alu.Or z a b false) at z args s (λ x y. alu_of alu.Or z x y false)
given_of name.Xor at z args s = two_went (AreOf (value_size name.Xor z) (results_of name.Xor)) (λ a b. alu_results alu.Xor z a b false) at z args s (λ x y. alu_of alu.Xor z x y false)
given_of name.Adc at z args s = carry_went (AreOf (value_size name.Adc z) (results_of name.Adc)) (alu_results alu.Adc z) at z args s (λ x y c. alu_of alu.Adc z x y c)
given_of name.Sbb at z args s = carry_went (AreOf (value_size name.Sbb z) (results_of name.Sbb)) (alu_results alu.Sbb z) at z args s (λ x y c. alu_of alu.Sbb z x y c)
given_of name.Neg at z args s = one_went (AreOf (value_size name.Neg z) (results_of name.Neg)) (one_results all_flags one.Neg z) at z args s (λ x. neg_of z x)
given_of name.Inc at z args s = one_went (AreOf (value_size name.Inc z) (results_of name.Inc)) (one_results all_but_carry one.Inc z) at z args s (λ x. inc_of z x)
given_of name.Dec at z args s = one_went (AreOf (value_size name.Dec z) (results_of name.Dec)) (one_results all_but_carry one.Dec z) at z args s (λ x. dec_of z x)
given_of name.Not at z args s = one_went (AreOf (value_size name.Not z) (results_of name.Not)) (one_results no_results one.Not z) at z args s (λ x. (refl, tt))
given_of name.Bswap at z args s = one_went (AreOf (value_size name.Bswap z) (results_of name.Bswap)) (λ a. before_value [] z (swapped_of z a)) at z args s (λ x. (refl, tt))
given_of name.Lea at z args s = one_went (AreOf (value_size name.Lea z) (results_of name.Lea)) (λ a. before_value [] S64 a) at S64 args s (λ x. (refl, tt))
given_of name.Cmp at z args s = two_went (AreOf (value_size name.Cmp z) (results_of name.Cmp)) (λ a b. all_flags (alu_answer alu.Cmp z a b false).flags) at z args s (λ x y. flags_only alu.Cmp z x y)
given_of name.Test at z args s = two_went (AreOf (value_size name.Test z) (results_of name.Test)) (λ a b. all_flags (alu_answer alu.Test z a b false).flags) at z args s (λ x y. flags_only alu.Test z x y)
given_of name.Shl at z args s = count_went (AreOf (value_size name.Shl z) (results_of name.Shl)) all_flags shift.Shl at z args s (all_shift z)
given_of name.Shr at z args s = count_went (AreOf (value_size name.Shr z) (results_of name.Shr)) all_flags shift.Shr at z args s (all_shift z)
given_of name.Sar at z args s = count_went (AreOf (value_size name.Sar z) (results_of name.Sar)) all_flags shift.Sar at z args s (all_shift z)
given_of name.Rol at z args s = count_went (AreOf (value_size name.Rol z) (results_of name.Rol)) first_two shift.Rol at z args s (two_shift z)
given_of name.Ror at z args s = count_went (AreOf (value_size name.Ror z) (results_of name.Ror)) first_two shift.Ror at z args s (two_shift z)
given_of name.Imul at z args s = two_went (AreOf (value_size name.Imul z) (results_of name.Imul)) (low_product_results z) at z args s (λ x y. low_of z x y)
given_of name.Mul at z args s = two_went (AreOf (value_size name.Mul z) (results_of name.Mul)) (product_results z) at z args s (λ x y. product_of z x y)
given_of name.Div at z args s = division_went at z args s
given_of name.Setcc at z args s = condition_went z at args s
