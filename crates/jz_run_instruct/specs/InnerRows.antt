-- Instructions by what they take, and what those of one kind leave.
use Rattle.std.specs.Prelude.{ℕ, false, List, []}
use Rattle.jz_tree.specs.Span.{Span}
use Rattle.x64_insn.specs.Size.{Size}
use Rattle.x64_insn.specs.Size.TheVariants.{S64}
use Rattle.x64_insn.specs.Words.{swapped_of}
use Rattle.x64_insn.specs.declared.types.FlagVal.{FlagVal}
use Rattle.x64_insn.specs.declared.types.Shift.{Shift}
use Rattle.x64_insn.specs.declared.types.Shift.TheVariants as shift
use Rattle.x64_insn.specs.Answers.{alu_answer}
use Rattle.jz_tree.specs.declared.expr.Expr.{Expr}
use Rattle.jz_meaning.specs.Attempts.{Evaluation}
use Rattle.jz_meaning.specs.States.{State}
use Rattle.jz_meaning.specs.Assignments.{Results}
use Rattle.jz_meaning.specs.Intrinsics.{all_flags, first_two, all_but_carry, no_results}
use Rattle.jz_meaning.specs.Intrinsics.{before_value, alu_results, one_results}
use Rattle.jz_meaning.specs.Intrinsics.{low_product_results, product_results}
use Rattle.jz_meaning.specs.Intrinsics.{of_one, of_two, of_carry, of_count}
use Rattle.jz_meaning.specs.Intrinsics.{of_division, of_condition}
use Rattle.jz_run_instruct.specs.declared.rows.Sets.{Sets}
use Rattle.jz_run_instruct.specs.declared.rows.Sets.TheVariants as sets
use Rattle.jz_run_instruct.specs.declared.rows.OneWord.{OneWord}
use Rattle.jz_run_instruct.specs.declared.rows.OneWord.TheVariants as one
use Rattle.jz_run_instruct.specs.declared.rows.TwoWords.{TwoWords}
use Rattle.jz_run_instruct.specs.declared.rows.TwoWords.TheVariants as two
use Rattle.jz_run_instruct.specs.declared.rows.Row.{Row}
use Rattle.jz_run_instruct.specs.declared.rows.Row.TheVariants as row

-- the flags that an instruction sets
abbrev pub flags_set_by : Sets → List FlagVal → Results
flags_set_by sets.Nothing = no_results
flags_set_by sets.All = all_flags
flags_set_by sets.FirstTwo = first_two
flags_set_by sets.AllButCarry = all_but_carry

-- those that a shift or a rotation sets
abbrev pub shift_flags : Shift → List FlagVal → Results
shift_flags shift.Rol = first_two
shift_flags shift.Ror = first_two
shift_flags _ = all_flags

abbrev pub one_word_results : OneWord → Size → ℕ → Results
one_word_results (one.Alu flags op) z a = one_results (flags_set_by flags) op z a
one_word_results one.Swapped z a = before_value [] z (swapped_of z a)
one_word_results one.Same z a = before_value [] z a

abbrev pub two_word_results : TwoWords → Size → ℕ → ℕ → Results
two_word_results (two.Alu op) z a b = alu_results op z a b false
two_word_results (two.Compare op) z a b = all_flags (alu_answer op z a b false).flags
two_word_results two.LowProduct z a b = low_product_results z a b
two_word_results two.Product z a b = product_results z a b

abbrev pub row_results : Row → Span → Size → List Expr → State → Evaluation Results
row_results (row.One r) at z = of_one (one_word_results r z) at z
row_results row.Address at z = of_one (one_word_results one.Same S64) at S64
row_results (row.Two r) at z = of_two (two_word_results r z) at z
row_results (row.Carry op) at z = of_carry (alu_results op z) at z
row_results (row.Count kind) at z = of_count (shift_flags kind) kind at z
row_results row.Division at z = of_division at z
row_results row.Condition at z = of_condition at
