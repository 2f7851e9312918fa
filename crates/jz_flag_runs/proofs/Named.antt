-- What an intrinsic is, by its name.
use Rattle.std.proofs.Common.{◌≡◌, ℕ, ◌<◌, Bool, true, false, List, Some, None, refl, subst}
use Rattle.jz_io.specs.declared.span.Span.{Span}
use Rattle.jz_words.specs.declared.size.Size.{Size}
use Rattle.jz_words.specs.Sizes.{modulus}
use Rattle.x64_insn.specs.declared.types.FlagVal.{FlagVal}
use Rattle.x64_insn.specs.declared.types.Alu.{Alu}
use Rattle.x64_insn.specs.declared.types.Alu.TheVariants as alu
use Rattle.x64_insn.specs.declared.types.One.{One}
use Rattle.x64_insn.specs.declared.types.One.TheVariants as one
use Rattle.x64_insn.specs.declared.types.Shift.{Shift}
use Rattle.x64_insn.specs.declared.types.Shift.TheVariants as shift
use Rattle.x64_insn.specs.Answers.{alu_answer, one_answer}
use Rattle.x64_insn.specs.Products.{no_flags}
use Rattle.x64_insn.specs.Rows.{writes_operand}
use Rattle.jz_tree.specs.declared.intrinsic.Intrinsic.{Intrinsic}
use Rattle.jz_tree.specs.declared.intrinsic.Intrinsic.TheVariants as name
use Rattle.jz_tree.specs.declared.expr.BinOp.TheVariants as o
use Rattle.jz_tree.specs.declared.expr.Expr.{Expr}
use Rattle.jz_tree.specs.declared.stmt.Lval.{Lval}
use Rattle.jz_meaning.specs.States.{State}
use Rattle.jz_meaning.specs.Intrinsics.{all_flags, first_two, all_but_carry, alu_results, one_results, of_one, of_two, of_carry, of_count, intrinsic_results}
use Rattle.jz_meaning.specs.Assignments.{Results}
use Rattle.jz_operations.specs.declared.operation.Pinned.{Pinned}
use Rattle.jz_operations.specs.declared.operation.Flags.{Flags}
use Rattle.jz_operations.specs.Values as over
use Rattle.jz_operations.specs.Rows.{truth, carry_in, all_five, one_changes, shift_changes, flags_of}
use Rattle.jz_operations.proofs.Somes.{same_some}
use Rattle.jz_homes.specs.Homes.{Homes}
use Rattle.jz_flag_rows.specs.Instructions.{two_of, carry_of, compare_of, step_of, shift_named, rotation_named}
use Rattle.jz_flag_runs.proofs.FlagLefts.{AreFlags}
use Rattle.jz_flag_runs.proofs.Results.{answer_commutes, adc_commutes}
use Rattle.jz_flag_runs.proofs.LastIntrinsics.{FourTo, inc_flags, dec_flags, inc_small, dec_small}
use Rattle.jz_flag_runs.proofs.Counts.{first_of_five}

-- of two operands; where they may be swapped all is the same
pub record IsTwo (i : Intrinsic) (k : Alu × Bool) : Type 0 where
  pub results : (at : Span) (z : Size) (args : List Expr) (s : State) → intrinsic_results i at z args s ≡ of_two (λ a b. alu_results k.0 z a b false) at z args s
  pub writes : writes_operand k.0 ≡ true
  pub asks : (σ : over.State) → carry_in k.0 None σ ≡ Some false
  pub swaps : k.1 ≡ true → (z : Size) (a b : ℕ) → alu_answer k.0 z b a false ≡ alu_answer k.0 z a b false

pub is_two : (i : Intrinsic) (k : Alu × Bool) → two_of i ≡ Some k → IsTwo i k
is_two name.Add k e = subst (IsTwo name.Add) (same_some (alu.Add, true) k e) (record { results = λ at z args s. refl; writes = refl; asks = λ σ. refl; swaps = λ h z a b. answer_commutes o.Add z a b refl })
is_two name.Sub k e = subst (IsTwo name.Sub) (same_some (alu.Sub, false) k e) (record { results = λ at z args s. refl; writes = refl; asks = λ σ. refl; swaps = λ h z a b. absurd cc })
is_two name.And k e = subst (IsTwo name.And) (same_some (alu.And, true) k e) (record { results = λ at z args s. refl; writes = refl; asks = λ σ. refl; swaps = λ h z a b. answer_commutes o.And z a b refl })
is_two name.Or k e = subst (IsTwo name.Or) (same_some (alu.Or, true) k e) (record { results = λ at z args s. refl; writes = refl; asks = λ σ. refl; swaps = λ h z a b. answer_commutes o.Or z a b refl })
is_two name.Xor k e = subst (IsTwo name.Xor) (same_some (alu.Xor, true) k e) (record { results = λ at z args s. refl; writes = refl; asks = λ σ. refl; swaps = λ h z a b. answer_commutes o.Xor z a b refl })
is_two _ k e = absurd cc

-- with a flag that is read
pub record IsCarry (i : Intrinsic) (k : Alu × Bool) : Type 0 where
  pub results : (at : Span) (z : Size) (args : List Expr) (s : State) → intrinsic_results i at z args s ≡ of_carry (alu_results k.0 z) at z args s
  pub writes : writes_operand k.0 ≡ true
  pub asks : (c : Pinned) (σ : over.State) (b : Bool) → truth (σ.vars c.variable) ≡ Some b → carry_in k.0 (Some c) σ ≡ Some b
  pub swaps : k.1 ≡ true → (z : Size) (a b : ℕ) (c : Bool) → alu_answer k.0 z b a c ≡ alu_answer k.0 z a b c

pub is_carry : (i : Intrinsic) (k : Alu × Bool) → carry_of i ≡ Some k → IsCarry i k
is_carry name.Adc k e = subst (IsCarry name.Adc) (same_some (alu.Adc, true) k e) (record { results = λ at z args s. refl; writes = refl; asks = λ c σ b t. t; swaps = λ h z a b c. adc_commutes z a b c })
is_carry name.Sbb k e = subst (IsCarry name.Sbb) (same_some (alu.Sbb, false) k e) (record { results = λ at z args s. refl; writes = refl; asks = λ c σ b t. t; swaps = λ h z a b c. absurd cc })
is_carry _ k e = absurd cc

-- those that write no operand
pub record IsComparing (i : Intrinsic) (k : Alu) : Type 0 where
  pub results : (at : Span) (z : Size) (args : List Expr) (s : State) → intrinsic_results i at z args s ≡ of_two (λ a b. all_flags (alu_answer k z a b false).flags) at z args s
  pub writes : writes_operand k ≡ false
  pub asks : (σ : over.State) → carry_in k None σ ≡ Some false

pub is_comparing : (i : Intrinsic) (k : Alu) → compare_of i ≡ Some k → IsComparing i k
is_comparing name.Cmp k e = subst (IsComparing name.Cmp) (same_some alu.Cmp k e) (record { results = λ at z args s. refl; writes = refl; asks = λ σ. refl })
is_comparing name.Test k e = subst (IsComparing name.Test) (same_some alu.Test k e) (record { results = λ at z args s. refl; writes = refl; asks = λ σ. refl })
is_comparing _ k e = absurd cc

-- INC and DEC
pub record IsStep (i : Intrinsic) (k : One) : Type 0 where
  pub results : (at : Span) (z : Size) (args : List Expr) (s : State) → intrinsic_results i at z args s ≡ of_one (one_results all_but_carry k z) at z args s
  pub flags : (home : Homes) (ls : List Lval) (fl : Flags) (z : Size) (a : ℕ) → FourTo home ls fl → AreFlags home ls (flags_of fl) (one_changes k) (one_answer k z a no_flags).flags (all_but_carry (one_answer k z a no_flags).flags)
  pub small : (z : Size) (a : ℕ) → (one_answer k z a no_flags).value < modulus z

pub is_step : (i : Intrinsic) (k : One) → step_of i ≡ Some k → IsStep i k
is_step name.Inc k e = subst (IsStep name.Inc) (same_some one.Inc k e) (record { results = λ at z args s. refl; flags = inc_flags; small = inc_small })
is_step name.Dec k e = subst (IsStep name.Dec) (same_some one.Dec k e) (record { results = λ at z args s. refl; flags = dec_flags; small = dec_small })
is_step _ k e = absurd cc

-- shifts write all flags, rotations OF and CF
pub record IsShift (i : Intrinsic) (k : Shift) (pick : List FlagVal → Results) (cs : List Bool) : Type 0 where
  pub results : (at : Span) (z : Size) (args : List Expr) (s : State) → intrinsic_results i at z args s ≡ of_count pick k at z args s
  pub changes : shift_changes k ≡ cs

pub is_shift : (i : Intrinsic) (k : Shift) → shift_named i ≡ Some k → IsShift i k all_flags all_five
is_shift name.Shl k e = subst (λ j. IsShift name.Shl j all_flags all_five) (same_some shift.Shl k e) (record { results = λ at z args s. refl; changes = refl })
is_shift name.Shr k e = subst (λ j. IsShift name.Shr j all_flags all_five) (same_some shift.Shr k e) (record { results = λ at z args s. refl; changes = refl })
is_shift name.Sar k e = subst (λ j. IsShift name.Sar j all_flags all_five) (same_some shift.Sar k e) (record { results = λ at z args s. refl; changes = refl })
is_shift _ k e = absurd cc

pub is_rotation : (i : Intrinsic) (k : Shift) → rotation_named i ≡ Some k → IsShift i k first_two first_of_five
is_rotation name.Rol k e = subst (λ j. IsShift name.Rol j first_two first_of_five) (same_some shift.Rol k e) (record { results = λ at z args s. refl; changes = refl })
is_rotation name.Ror k e = subst (λ j. IsShift name.Ror j first_two first_of_five) (same_some shift.Ror k e) (record { results = λ at z args s. refl; changes = refl })
is_rotation _ k e = absurd cc
