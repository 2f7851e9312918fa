-- Instructions leave values of the kinds that are declared of their left sides.
use Rattle.std.proofs.Common.{◌<◌, ℕ, List, ◌∷◌, [], Bool, false, Option, Some, None, All, pos, negsuc}
use Rattle.jz_tree.specs.Span.{Span}
use Rattle.jz_tree.specs.Size.{Size}
use Rattle.jz_tree.specs.Size.TheVariants.{S8, S64}
use Rattle.jz_tree.specs.Sizes.{modulus}
use Rattle.jz_tree.specs.Words.{carried, swapped_of}
use Rattle.x64_insn.specs.declared.types.FlagVal.{FlagVal}
use Rattle.x64_insn.specs.declared.types.Alu.{Alu}
use Rattle.x64_insn.specs.declared.types.Alu.TheVariants as alu
use Rattle.x64_insn.specs.declared.types.One.TheVariants as one
use Rattle.x64_insn.specs.declared.types.Shift.{Shift}
use Rattle.x64_insn.specs.declared.types.Shift.TheVariants as shift
use Rattle.x64_insn.specs.declared.products.DoubleAnswer.{DoubleAnswer}
use Rattle.x64_insn.specs.Answers.{alu_answer}
use Rattle.x64_insn.specs.Shifts.{masked, shifted, shift_answer}
use Rattle.x64_insn.specs.Products.{no_flags, quotient_answer}
use Rattle.jz_tree.specs.declared.expr.Expr.{Expr}
use Rattle.jz_tree.specs.declared.stmt.Lval.{Lval}
use Rattle.jz_tree.specs.declared.intrinsic.Intrinsic.{Intrinsic}
use Rattle.jz_tree.specs.declared.intrinsic.Instance.{Instance}
use Rattle.jz_tree.specs.declared.intrinsic.Intrinsic.TheVariants as name
use Rattle.jz_meaning.specs.Rules.{went}
use Rattle.jz_meaning.specs.Attempts.{and_then}
use Rattle.jz_meaning.specs.States.{Value, word, boolean, integer, State}
use Rattle.jz_meaning.specs.Values.{evaluated}
use Rattle.jz_meaning.specs.Assignments.{Results, word_in, bool_in, all_written}
use Rattle.jz_meaning.specs.Intrinsics.{all_flags, first_two, all_but_carry, before_value, of_one, of_two, of_carry, shift_results, of_count, divided_by, division_results, of_division, of_condition, alu_results, one_results, low_product_results, product_results, no_results, intrinsic_results, intrinsic_size, sized_results, instruction_done}
use Rattle.jz_run_laws.specs.Kinds.{Kinds, IsOfKinds}
use Rattle.jz_run_laws.specs.DeclaredKinds.{LeftDeclared}
use Rattle.jz_run_laws.specs.Kept.{IfWent}
use Rattle.jz_run_laws.proofs.Parts.{AnyOf, IfThere, went_then, went_any}
use Rattle.jz_run_laws.proofs.Bounds.{IsBelow, swapped_below, bit_below}
use Rattle.jz_run_laws.proofs.Operators.{MayFit}
use Rattle.jz_run_laws.proofs.Expressions.{StateFits, word_in_below}
use Rattle.jz_run_laws.proofs.Stores.{state_fits}
use Rattle.jz_run_laws.proofs.LeftSides.{all_written_keeps}
use Rattle.jz_run_laws.proofs.RightSides.{ResultsFit, one_fits}
use Rattle.jz_run_laws.proofs.Results.{flags_fit, first_fit, but_carry_fit, none_fit, before_fits, alu_fits, one_fit, shifted_below, shift_below, low_product_fits, BothBelow, both_fit, product_fits, quotient_fits}
use Rattle.std.proofs.lemmas.List.Elements.{All-nil}

-- ---- by the number of operands

one_operand : (f : ℕ → Results) (at : Span) (z : Size) (args : List Expr) (s : State) → StateFits s → ((x : ℕ) → x < modulus z → ResultsFit (f x)) → IfWent ResultsFit (of_one f at z args s)
one_operand f at z [] s h k = tt
one_operand f at z (a ∷ []) s h k = went_then (IsBelow z) ResultsFit (word_in at z a s) (λ x. went [] (f x)) (word_in_below at z a s h) k
one_operand f at z (a ∷ b ∷ es) s h k = tt

two_operands : (f : ℕ → ℕ → Results) (at : Span) (z : Size) (args : List Expr) (s : State) → StateFits s → ((x y : ℕ) → x < modulus z → y < modulus z → ResultsFit (f x y)) → IfWent ResultsFit (of_two f at z args s)
two_operands f at z [] s h k = tt
two_operands f at z (a ∷ []) s h k = tt
two_operands f at z (a ∷ b ∷ []) s h k =
    went_then (IsBelow z) ResultsFit (word_in at z a s) (λ x. and_then (word_in at z b s) (λ y. went [] (f x y))) (word_in_below at z a s h)
    (λ x lx. went_then (IsBelow z) ResultsFit (word_in at z b s) (λ y. went [] (f x y)) (word_in_below at z b s h) (λ y ly. k x y lx ly))
two_operands f at z (a ∷ b ∷ c ∷ es) s h k = tt

carry_operands : (f : ℕ → ℕ → Bool → Results) (at : Span) (z : Size) (args : List Expr) (s : State) → StateFits s → ((x y : ℕ) (c : Bool) → x < modulus z → y < modulus z → ResultsFit (f x y c)) → IfWent ResultsFit (of_carry f at z args s)
carry_operands f at z [] s h k = tt
carry_operands f at z (a ∷ []) s h k = tt
carry_operands f at z (a ∷ b ∷ []) s h k = tt
carry_operands f at z (a ∷ b ∷ c ∷ []) s h k =
    went_then (IsBelow z) ResultsFit (word_in at z a s) (λ x. and_then (word_in at z b s) (λ y. and_then (bool_in at c s) (λ q. went [] (f x y q)))) (word_in_below at z a s h)
    (λ x lx. went_then (IsBelow z) ResultsFit (word_in at z b s) (λ y. and_then (bool_in at c s) (λ q. went [] (f x y q))) (word_in_below at z b s h)
    (λ y ly. went_then (AnyOf {A = Bool}) ResultsFit (bool_in at c s) (λ q. went [] (f x y q)) (went_any (bool_in at c s)) (λ q t. k x y q lx ly)))
carry_operands f at z (a ∷ b ∷ c ∷ d ∷ es) s h k = tt

shift_fits : (flags : List FlagVal → Results) (kind : Shift) (at : Span) (z : Size) (a : ℕ) (v : Value) → ((fs : List FlagVal) → ResultsFit (flags fs)) → a < modulus z → IfWent ResultsFit (shift_results flags kind at z a v)
shift_fits flags kind at z a (integer (pos n)) f lt =
    let r = shift_answer kind z a (masked z n) no_flags in
    before_fits (flags r.flags) z r.value (f r.flags) (shift_below kind z a (masked z n) no_flags lt)
shift_fits flags kind at z a (integer (negsuc n)) f lt = tt
shift_fits flags kind at z a (word y n) f lt = before_fits (flags no_flags) z (shifted kind z a (masked z n)) (f no_flags) (shifted_below kind z a (masked z n) lt)
shift_fits flags kind at z a (boolean c) f lt = tt

count_operands : (flags : List FlagVal → Results) (kind : Shift) (at : Span) (z : Size) (args : List Expr) (s : State) → StateFits s → ((fs : List FlagVal) → ResultsFit (flags fs)) → IfWent ResultsFit (of_count flags kind at z args s)
count_operands flags kind at z [] s h f = tt
count_operands flags kind at z (a ∷ []) s h f = tt
count_operands flags kind at z (a ∷ n ∷ []) s h f =
    went_then (IsBelow z) ResultsFit (word_in at z a s) (λ x. and_then (evaluated n (Some S8) s) (λ v. shift_results flags kind at z x v)) (word_in_below at z a s h)
    (λ x lx. went_then (AnyOf {A = Value}) ResultsFit (evaluated n (Some S8) s) (λ v. shift_results flags kind at z x v) (went_any (evaluated n (Some S8) s))
    (λ v t. shift_fits flags kind at z x v f lx))
count_operands flags kind at z (a ∷ b ∷ c ∷ es) s h f = tt

divided_fits : (at : Span) (z : Size) (ns : List ℕ) (p : Option DoubleAnswer) → IfThere (BothBelow z) p → IfWent ResultsFit (divided_by at z ns p)
divided_fits at z ns None h = tt
divided_fits at z ns (Some r) h = both_fit r.flags z r.low r.high h.1 h.0

division_operands : (at : Span) (z : Size) (args : List Expr) (s : State) → StateFits s → IfWent ResultsFit (of_division at z args s)
division_operands at z [] s h = tt
division_operands at z (a ∷ []) s h = tt
division_operands at z (a ∷ b ∷ []) s h = tt
division_operands at z (a ∷ b ∷ d ∷ []) s h =
    went_then (AnyOf {A = ℕ}) ResultsFit (word_in at z a s) (λ high. and_then (word_in at z b s) (λ low. and_then (word_in at z d s) (division_results at z high low))) (went_any (word_in at z a s))
    (λ high t. went_then (AnyOf {A = ℕ}) ResultsFit (word_in at z b s) (λ low. and_then (word_in at z d s) (division_results at z high low)) (went_any (word_in at z b s))
    (λ low u. went_then (IsBelow z) ResultsFit (word_in at z d s) (division_results at z high low) (word_in_below at z d s h)
    (λ n lt. divided_fits at z (high ∷ low ∷ n ∷ []) (quotient_answer z high low n) (quotient_fits z high low n lt))))
division_operands at z (a ∷ b ∷ c ∷ d ∷ es) s h = tt

condition_operand : (at : Span) (args : List Expr) (s : State) → IfWent ResultsFit (of_condition at args s)
condition_operand at [] s = tt
condition_operand at (c ∷ []) s =
    went_then (AnyOf {A = Bool}) ResultsFit (bool_in at c s) (λ k. went [] (Some (word S8 (carried k)) ∷ [])) (went_any (bool_in at c s)) (λ k t. one_fits (Some (word S8 (carried k))) (bit_below S8 k))
condition_operand at (c ∷ d ∷ es) s = tt

-- ---- each instruction

alu_operands : (op : Alu) (at : Span) (z : Size) (args : List Expr) (s : State) → StateFits s → IfWent ResultsFit (of_two (λ a b. alu_results op z a b false) at z args s)
alu_operands op at z args s h = two_operands (λ a b. alu_results op z a b false) at z args s h (λ x y lx ly. alu_fits op z x y false lx ly)

flags_alone : (op : Alu) (at : Span) (z : Size) (args : List Expr) (s : State) → StateFits s → IfWent ResultsFit (of_two (λ a b. all_flags (alu_answer op z a b false).flags) at z args s)
flags_alone op at z args s h = two_operands (λ a b. all_flags (alu_answer op z a b false).flags) at z args s h (λ x y lx ly. flags_fit (alu_answer op z x y false).flags)

computed : (i : Intrinsic) (at : Span) (z : Size) (args : List Expr) (s : State) → StateFits s → IfWent ResultsFit (intrinsic_results i at z args s)
computed name.Add at z args s h = alu_operands alu.Add at z args s h
computed name.Sub at z args s h = alu_operands alu.Sub at z args s h
computed name.And at z args s h = alu_operands alu.And at z args s h
computed name.Or at z args s h = alu_operands alu.Or at z args s h
computed name.Xor at z args s h = alu_operands alu.Xor at z args s h
computed name.Adc at z args s h = carry_operands (alu_results alu.Adc z) at z args s h (λ x y c lx ly. alu_fits alu.Adc z x y c lx ly)
computed name.Sbb at z args s h = carry_operands (alu_results alu.Sbb z) at z args s h (λ x y c lx ly. alu_fits alu.Sbb z x y c lx ly)
computed name.Neg at z args s h = one_operand (one_results all_flags one.Neg z) at z args s h (λ x lx. one_fit all_flags one.Neg z x flags_fit)
computed name.Inc at z args s h = one_operand (one_results all_but_carry one.Inc z) at z args s h (λ x lx. one_fit all_but_carry one.Inc z x but_carry_fit)
computed name.Dec at z args s h = one_operand (one_results all_but_carry one.Dec z) at z args s h (λ x lx. one_fit all_but_carry one.Dec z x but_carry_fit)
computed name.Not at z args s h = one_operand (one_results no_results one.Not z) at z args s h (λ x lx. one_fit no_results one.Not z x none_fit)
computed name.Bswap at z args s h = one_operand (λ a. before_value [] z (swapped_of z a)) at z args s h (λ x lx. before_fits [] z (swapped_of z x) (All-nil MayFit) (swapped_below z x lx))
computed name.Lea at z args s h = one_operand (λ a. before_value [] S64 a) at S64 args s h (λ x lx. before_fits [] S64 x (All-nil MayFit) lx)
computed name.Cmp at z args s h = flags_alone alu.Cmp at z args s h
computed name.Test at z args s h = flags_alone alu.Test at z args s h
computed name.Shl at z args s h = count_operands all_flags shift.Shl at z args s h flags_fit
computed name.Shr at z args s h = count_operands all_flags shift.Shr at z args s h flags_fit
computed name.Sar at z args s h = count_operands all_flags shift.Sar at z args s h flags_fit
computed name.Rol at z args s h = count_operands first_two shift.Rol at z args s h first_fit
computed name.Ror at z args s h = count_operands first_two shift.Ror at z args s h first_fit
computed name.Imul at z args s h = two_operands (low_product_results z) at z args s h (λ x y lx ly. low_product_fits z x y)
computed name.Mul at z args s h = two_operands (product_results z) at z args s h (λ x y lx ly. product_fits z x y lx ly)
computed name.Div at z args s h = division_operands at z args s h
computed name.Setcc at z args s h = condition_operand at args s

pub sized_fit : (i : Intrinsic) (at : Span) (z : Option Size) (args : List Expr) (s : State) → StateFits s → IfWent ResultsFit (sized_results i at z args s)
sized_fit i at None args s h = tt
sized_fit i at (Some z) args s h = computed i at z args s h

pub instruction_keeps : (kinds : Kinds) (i : Option Instance) (to : List Lval) (args : List Expr) (at : Span) (s : State) → All (LeftDeclared kinds) to → IsOfKinds kinds s → IfWent (IsOfKinds kinds) (instruction_done i to args at s)
instruction_keeps kinds None to args at s d h = tt
instruction_keeps kinds (Some i) to args at s d h =
    let z = intrinsic_size i.name i.size to args in
    went_then ResultsFit (IsOfKinds kinds) (sized_results i.name at z args s) (λ vs. all_written at z to vs s) (sized_fit i.name at z args s (state_fits kinds s h))
    (λ vs q. all_written_keeps kinds at z to vs s d q h)
