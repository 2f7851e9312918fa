-- An operation on two words whose flags are results.
use Rattle.std.proofs.Common.{◌≡◌, ℕ, ◌+◌, ◌%◌, ◌<◌, Bool, true, false, List, [], ◌∷◌, ◌++◌, Option, Some, refl, ap, arith, ℤ, pos, ◌+ℤ◌}
use Rattle.std.specs.Prelude.{nat_le}
use Rattle.std.proofs.lemmas.Nat.{and_comm, or_comm, xor_comm, and_le_l, or_lt, xor_lt, mod_below}
use Rattle.std.proofs.Math.IntN.{+ℤ_comm}
use Rattle.jz_io.specs.declared.span.Span.{Span}
use Rattle.jz_words.specs.declared.size.Size.{Size}
use Rattle.jz_words.specs.Sizes.{bits_of, modulus, signed}
use Rattle.jz_words.specs.Words.{carried}
use Rattle.jz_words.proofs.Residues.{some_words}
use Rattle.x64_insn.specs.declared.answer.Answer.{Answer}
use Rattle.x64_insn.specs.declared.types.Alu.{Alu}
use Rattle.x64_insn.specs.declared.types.Alu.TheVariants as alu
use Rattle.x64_insn.specs.Answers.{overflows, flags_of as answer_flags, alu_answer, sum_answer, difference_answer, and_answer, or_answer, xor_answer}
use Rattle.x64_insn.specs.Rows.{writes_operand}
use Rattle.jz_tree.specs.declared.expr.BinOp.{BinOp}
use Rattle.jz_tree.specs.declared.expr.BinOp.TheVariants as o
use Rattle.jz_tree.specs.declared.stmt.Lval.{Lval}
use Rattle.jz_runs.specs.Rules.{went}
use Rattle.jz_meaning.specs.States.{Value, word, State}
use Rattle.jz_meaning.specs.Assignments.{all_written}
use Rattle.jz_operations.specs.declared.operation.Pinned.{Pinned}
use Rattle.jz_operations.specs.declared.operation.Arg.{Arg}
use Rattle.jz_operations.specs.declared.operation.Action.TheVariants as action
use Rattle.jz_operations.specs.declared.operation.Flags.{Flags}
use Rattle.jz_operations.specs.Values as over
use Rattle.jz_operations.specs.Rows.{Frame, carry_in, all_five, flags_of}
use Rattle.jz_operations.specs.Reading.{pinned_var, is_var, found_by}
use Rattle.jz_homes.specs.Homes.{Homes, IsHoming, IsRelated}
use Rattle.jz_homes.specs.Operands.{Leaks, IsDest, shown_of}
use Rattle.jz_homes.proofs.Reading.{word_itself}
use Rattle.jz_row_operations.specs.Rows.{alu_of, commutes}
use Rattle.jz_row_operations.proofs.Sums.{NoName}
use Rattle.jz_row_operations.proofs.Brought.{Row}
use Rattle.jz_row_operations.proofs.Alus.{alu_ends}
use Rattle.jz_flag_runs.proofs.FlagLefts.{AreFlags}
use Rattle.jz_flag_runs.proofs.FlagResults.{finishes_with}
use Rattle.jz_flag_runs.proofs.Words.{WordRead}

-- ---- answers have words, and some commute
pub alu_small : (op : Alu) (z : Size) (a b : ℕ) (k : Bool) → a < modulus z → b < modulus z → (alu_answer op z a b k).value < modulus z
unfolding sum_answer difference_answer and_answer or_answer xor_answer
alu_small alu.Add z a b k h l = mod_below _ (modulus z) (some_words z)
alu_small alu.Adc z a b k h l = mod_below _ (modulus z) (some_words z)
alu_small alu.Sub z a b k h l = mod_below _ (modulus z) (some_words z)
alu_small alu.Sbb z a b k h l = mod_below _ (modulus z) (some_words z)
alu_small alu.Cmp z a b k h l = mod_below _ (modulus z) (some_words z)
alu_small alu.And z a b k h l = let m = and_le_l a b in omega (arith, h, m)
alu_small alu.Test z a b k h l = let m = and_le_l a b in omega (arith, h, m)
alu_small alu.Or z a b k h l = or_lt (bits_of z) a b h l
alu_small alu.Xor z a b k h l = xor_lt (bits_of z) a b h l

sum_parts : (z : Size) (n m c : ℕ) (i j : ℤ) → n ≡ m → i ≡ j
    → ◌≡◌ {A = Answer} (record { value = (n + c) % modulus z; flags = answer_flags z (overflows z (i +ℤ pos c)) (nat_le (modulus z) (n + c)) ((n + c) % modulus z) }) (record { value = (m + c) % modulus z; flags = answer_flags z (overflows z (j +ℤ pos c)) (nat_le (modulus z) (m + c)) ((m + c) % modulus z) })
sum_parts z n m c i j e f = rw (e, f) refl

plus_swapped : (a b : ℕ) → b + a ≡ a + b
plus_swapped a b = omega arith

pub answer_commutes : (op : BinOp) (z : Size) (a b : ℕ) → commutes op ≡ true → alu_answer (alu_of op) z b a false ≡ alu_answer (alu_of op) z a b false
unfolding sum_answer and_answer or_answer xor_answer
answer_commutes o.Add z a b e = sum_parts z (b + a) (a + b) 0 (signed z b +ℤ signed z a) (signed z a +ℤ signed z b) (plus_swapped a b) (+ℤ_comm (signed z b) (signed z a))
answer_commutes o.And z a b e = ap (λ n. record { value = n; flags = answer_flags z false false n }) (and_comm b a)
answer_commutes o.Or z a b e = ap (λ n. record { value = n; flags = answer_flags z false false n }) (or_comm b a)
answer_commutes o.Xor z a b e = ap (λ n. record { value = n; flags = answer_flags z false false n }) (xor_comm b a)
answer_commutes _ z a b e = absurd cc

pub adc_commutes : (z : Size) (a b : ℕ) (k : Bool) → alu_answer alu.Adc z b a k ≡ alu_answer alu.Adc z a b k
unfolding sum_answer
adc_commutes z a b k = sum_parts z (b + a) (a + b) (carried k) (signed z b +ℤ signed z a) (signed z a +ℤ signed z b) (plus_swapped a b) (+ℤ_comm (signed z b) (signed z a))

module _ (frame : Frame) (home : Homes) (homing : IsHoming frame home) (s : State) (σ : over.State) (related : IsRelated home s σ) where
  -- ---- the row of an ALU operation whose flags are results
  pub alu_flag_row : (op : Alu) (c : Option Pinned) (k : Bool) (fl : Flags) {ls : List Lval} {vs : List (Option Value)} {z : Size} {d : Lval} {x y b : Arg} {p q r : Leaks} (at here : Span) (left right : ℕ) (first second third : List ℕ) (t : State) → writes_operand op ≡ true → carry_in op c σ ≡ Some k → NoName y
      → WordRead frame home homing s σ related z x p first left → WordRead frame home homing s σ related z y q second right → AreFlags home ls (flags_of fl) all_five (alu_answer op z left right k).flags vs → IsDest home z d b r
      → all_written here (Some z) (ls ++ (d ∷ [])) (vs ++ (Some (word z (alu_answer op z left right k).value) ∷ [])) s ≡ went third t
      → Row frame home homing s σ related (record { span = at; action = action.Alu op z b y c; flags = fl }) z x b p r ((is_var y ++ found_by y) ++ pinned_var c) (shown_of q second) first third t
  alu_flag_row op c k fl {ls} {vs} {z} {d} {x} {y} {b} {p} {q} {r} at here left right first second third t w asks nm rl rr flags id run = record {
    left = left;
    reads = rl.reads;
    small = rl.small;
    shows = rl.shows;
    n = (alu_answer op z left right k).value;
    fs = (alu_answer op z left right k).flags;
    ends = alu_ends frame op y c k at fl z b σ left right (shown_of q second) w asks nm rr.reads rr.shows;
    finish = finishes_with frame home homing (record { span = at; action = action.Alu op z b y c; flags = fl }) here (alu_answer op z left right k).flags (word z (alu_answer op z left right k).value) _ third s σ t related flags id (word_itself z _) (alu_small op z left right k rl.small rr.small) run;
  }
