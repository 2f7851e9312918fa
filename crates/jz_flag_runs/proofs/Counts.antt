-- SHL, SHR, SAR, ROL and ROR whose flags are results, by a number and by a variable.
use Rattle.std.proofs.Common.{◌≡◌, ℕ, Bool, true, false, List, [], ◌∷◌, ◌++◌, Some, refl, sym, ap, ◌∙◌, subst, arith, pos}
use Rattle.std.specs.Prelude.{◌==◌, if◌then◌else◌}
use Rattle.jz_io.specs.declared.span.Span.{Span}
use Rattle.jz_words.specs.declared.size.Size.{Size}
use Rattle.jz_words.specs.declared.size.Size.TheVariants.{S8, S16, S32, S64}
use Rattle.jz_words.specs.Sizes.{signed}
use Rattle.jz_words.specs.Words.{residue}
use Rattle.jz_words.proofs.Residues.{residue_below}
use Rattle.x64_insn.specs.declared.types.FlagVal.{FlagVal}
use Rattle.x64_insn.specs.declared.types.Alu.TheVariants as alu
use Rattle.x64_insn.specs.declared.types.Shift.{Shift}
use Rattle.x64_insn.specs.declared.types.Shift.TheVariants as shift
use Rattle.x64_insn.specs.Answers.{alu_answer}
use Rattle.x64_insn.specs.Shifts.{masked, shifted, shift_flags, shift_answer}
use Rattle.x64_insn.specs.Products.{no_flags}
use Rattle.jz_tree.specs.declared.expr.BinOp.TheVariants as o
use Rattle.jz_tree.specs.declared.expr.Expr.{Expr}
use Rattle.jz_tree.specs.declared.expr.Expr.TheVariants as expr
use Rattle.jz_tree.specs.declared.expr.Var.{Var}
use Rattle.jz_tree.specs.declared.stmt.Lval.{Lval}
use Rattle.jz_runs.specs.Rules.{went}
use Rattle.jz_meaning.specs.Attempts.{and_then}
use Rattle.jz_meaning.specs.States.{Value, word, integer, State}
use Rattle.jz_meaning.specs.Values.{key_of, ref_of, evaluated}
use Rattle.jz_meaning.specs.Intrinsics.{all_flags, first_two, before_value, shift_results, of_count}
use Rattle.jz_meaning.specs.Assignments.{Results, word_in, all_written}
use Rattle.jz_operations.specs.declared.operation.Pinned.{Pinned}
use Rattle.jz_operations.specs.declared.operation.Arg.{Arg}
use Rattle.jz_operations.specs.declared.operation.Arg.TheVariants as arg
use Rattle.jz_operations.specs.declared.operation.Action.TheVariants as action
use Rattle.jz_operations.specs.declared.operation.Flags.{Flags}
use Rattle.jz_operations.specs.Values as over
use Rattle.jz_operations.specs.Rows.{Frame, narrowed, all_five, shift_changes, flags_of}
use Rattle.jz_operations.proofs.Somes.{same_some}
use Rattle.jz_homes.specs.Homes.{Homes, IsHoming, in_register, IsRelated}
use Rattle.jz_homes.specs.Operands.{Leaks, IsArg, a_word, a_number, IsDest}
use Rattle.jz_homes.proofs.Parts.{both_went, went_same, defined_went, evaluated_num, evaluated_var}
use Rattle.jz_homes.proofs.Reading.{operand_read, word_itself, signed_itself}
use Rattle.jz_row_operations.specs.Rows.{mask_of}
use Rattle.jz_row_operations.proofs.Moves.{append_nil}
use Rattle.jz_row_operations.proofs.Sums.{of_size, combined_is, two_operands, not_numbers}
use Rattle.jz_row_operations.proofs.Brought.{Row}
use Rattle.jz_row_operations.proofs.Shifts.{shift_value, answer_small, masked_is, count_expr, shift_ends, shift_by_ends}
use Rattle.jz_flag_runs.proofs.FlagLefts.{AreFlags}
use Rattle.jz_flag_runs.proofs.FlagResults.{finishes_with}
use Rattle.jz_flag_runs.proofs.Words.{WordRead, word_read_in}
use Rattle.jz_flag_runs.proofs.Intrinsics.{FiveOf, FiveTo}
use Rattle.jz_flag_runs.proofs.LastIntrinsics.{TwoTo, two_flags, five_unset, two_unset}

-- ---- five flags, whatever the count
five_if : (b : Bool) (kind : Shift) (z : Size) (a n : ℕ) → FiveOf (if b then no_flags else shift_flags kind z a n no_flags)
five_if true kind z a n = (_, _, _, _, _, refl)
five_if false shift.Rol z a n = (_, _, _, _, _, refl)
five_if false shift.Ror z a n = (_, _, _, _, _, refl)
five_if false shift.Shl z a n = (_, _, _, _, _, refl)
five_if false shift.Shr z a n = (_, _, _, _, _, refl)
five_if false shift.Sar z a n = (_, _, _, _, _, refl)

flags_by : (b : Bool) (kind : Shift) (z : Size) (a n : ℕ) → (n == 0) ≡ b → (shift_answer kind z a n no_flags).flags ≡ (if b then no_flags else shift_flags kind z a n no_flags)
unfolding shift_answer
flags_by true kind z a n e = rw e refl
flags_by false kind z a n e = rw e refl

pub shift_five : (kind : Shift) (z : Size) (a n : ℕ) → FiveOf (shift_answer kind z a n no_flags).flags
shift_five kind z a n = subst FiveOf (sym (flags_by (n == 0) kind z a n refl)) (five_if (n == 0) kind z a n)

-- OF and CF of a rotation
abbrev pub first_of_five : List Bool
first_of_five = true ∷ true ∷ false ∷ false ∷ false ∷ []

pub rotation_flags : (home : Homes) (ls : List Lval) (fl : Flags) (fs : List FlagVal) → TwoTo home ls fl → FiveOf fs → AreFlags home ls (flags_of fl) first_of_five fs (first_two fs)
rotation_flags home ls fl fs k f = subst (λ gs. AreFlags home ls (flags_of fl) first_of_five gs (first_two gs)) (sym f.5) (two_flags home ls fl f.0 f.1 f.2 f.3 f.4 k)

-- what the source unsets
pub five_none : (home : Homes) (ls : List Lval) (fl : Flags) (fs : List FlagVal) → FiveTo home ls fl → FiveOf fs → AreFlags home ls (flags_of fl) all_five fs (all_flags no_flags)
five_none home ls fl fs k f = subst (λ gs. AreFlags home ls (flags_of fl) all_five gs (all_flags no_flags)) (sym f.5) (five_unset home ls fl f.0 f.1 f.2 f.3 f.4 k)

pub two_none : (home : Homes) (ls : List Lval) (fl : Flags) (fs : List FlagVal) → TwoTo home ls fl → FiveOf fs → AreFlags home ls (flags_of fl) first_of_five fs (first_two no_flags)
two_none home ls fl fs k f = subst (λ gs. AreFlags home ls (flags_of fl) first_of_five gs (first_two no_flags)) (sym f.5) (two_unset home ls fl f.0 f.1 f.2 f.3 f.4 k)

masked_twice : (z : Size) (n : ℕ) → masked z (masked z n) ≡ masked z n
masked_twice S8 n = omega arith
masked_twice S16 n = omega arith
masked_twice S32 n = omega arith
masked_twice S64 n = omega arith

no_numbers : (a b c ns : List ℕ) → ns ≡ a ++ (b ++ c) → a ≡ [] → b ≡ [] → c ≡ [] → ns ≡ []
no_numbers a b c ns h e f g = h ∙ ap (λ y. y ++ (b ++ c)) e ∙ ap (λ y. y ++ c) f ∙ g

count_nil : (a b c d ns : List ℕ) → ns ≡ (a ++ (b ++ c)) ++ d → b ≡ [] → c ≡ [] → ns ≡ a ++ d
count_nil a b c d ns h i j = h ∙ ap (λ y. (a ++ (y ++ c)) ++ d) i ∙ ap (λ y. (a ++ y) ++ d) j ∙ ap (λ y. y ++ d) (append_nil a)

module _ (frame : Frame) (home : Homes) (homing : IsHoming frame home) (s : State) (σ : over.State) (related : IsRelated home s σ) where
  -- ---- by a number
  pub record CountParts (kind : Shift) (n : ℕ) (pick : List FlagVal → Results) (z : Size) (x : Arg) (p : Leaks) (at : Span) (to : List Lval) (t : State) (ns : List ℕ) : Type 0 where
    pub first : List ℕ
    pub second : List ℕ
    pub left : ℕ
    pub numbers : ns ≡ first ++ second
    pub reads : WordRead frame home homing s σ related z x p first left
    pub wrote : all_written at (Some z) to (before_value (pick (shift_answer kind z left (masked z n) no_flags).flags) z (shift_answer kind z left (masked z n) no_flags).value) s ≡ went second t

  pub count_parts : (kind : Shift) (n : ℕ) (pick : List FlagVal → Results) {z : Size} {a : Expr} {x : Arg} {p : Leaks} (at there : Span) (to : List Lval) (t : State) (ns : List ℕ) → IsArg home z a x p
      → and_then (of_count pick kind at z (a ∷ expr.Num (pos n) there ∷ []) s) (λ vs. all_written at (Some z) to vs s) ≡ went ns t → CountParts kind n pick z x p at to t ns
  count_parts kind n pick {z} {a} at there to t ns ia run =
      let g = both_went (of_count pick kind at z (a ∷ expr.Num (pos n) there ∷ []) s) (λ vs. all_written at (Some z) to vs s) ns t run in
      let h = both_went (word_in at z a s) (λ x. and_then (evaluated (expr.Num (pos n) there) (Some S8) s) (λ v. shift_results pick kind at z x v)) g.first g.value g.came in
      let c = both_went (evaluated (expr.Num (pos n) there) (Some S8) s) (λ v. shift_results pick kind at z h.value v) h.second g.value h.went_on in
      let d = went_same [] c.first (integer (pos n)) c.value (sym (evaluated_num (pos n) there (Some S8) s) ∙ c.came) in
      let e : shift_results pick kind at z h.value (integer (pos n)) ≡ went c.second g.value = ap (shift_results pick kind at z h.value) d.1 ∙ c.went_on in
      let k = went_same [] c.second _ g.value e in
      record {
        first = h.first;
        second = g.second;
        left = h.value;
        numbers = count_nil h.first c.first c.second g.second ns (g.numbers ∙ ap (λ l. l ++ g.second) (h.numbers ∙ ap (λ l. h.first ++ l) c.numbers)) (sym d.0) (sym k.0);
        reads = word_read_in frame home homing s σ related at h.first h.value ia h.came;
        wrote = subst (λ vs. all_written at (Some z) to vs s ≡ went g.second t) (sym k.1) g.went_on;
      }

  -- given which flags are listed (five, or OF and CF of a rotation)
  pub count_row : (kind : Shift) (n : ℕ) (pick : List FlagVal → Results) (fl : Flags) {ls : List Lval} {z : Size} {d : Lval} {x b : Arg} {p r : Leaks} (sp at : Span) (t : State) (ns : List ℕ) → IsDest home z d b r
      → (k : CountParts kind n pick z x p at (ls ++ (d ∷ [])) t ns) → AreFlags home ls (flags_of fl) (shift_changes kind) (shift_answer kind z k.left (masked z n) no_flags).flags (pick (shift_answer kind z k.left (masked z n) no_flags).flags)
      → Row frame home homing s σ related (record { span = sp; action = action.Shift kind z b n; flags = fl }) z x b p r [] [] k.first k.second t
  count_row kind n pick fl {ls} {z} {d} {x} {b} sp at t ns id k flags = record {
    left = k.left;
    reads = k.reads.reads;
    small = k.reads.small;
    shows = k.reads.shows;
    n = (shift_answer kind z k.left (masked z n) no_flags).value;
    fs = (shift_answer kind z k.left (masked z n) no_flags).flags;
    ends = shift_ends frame kind n sp fl z b [] σ k.left;
    finish = finishes_with frame home homing (record { span = sp; action = action.Shift kind z b n; flags = fl }) at _ (word z (shift_answer kind z k.left (masked z n) no_flags).value) _ k.second s σ t related flags id (word_itself z _) (answer_small kind z k.left (masked z n) k.reads.small) k.wrote;
  }

  -- ---- by a variable
  -- what the count is, and what the variable holds
  count_read : (v : Var) (n : ℕ) (z : Size) (there here : Span) (ns : List ℕ) (u : Value) → home (key_of (ref_of v)) ≡ Some (in_register n S8) → evaluated (count_expr v z there here) (Some S8) s ≡ went ns u
      → (ns ≡ []) × (m : ℕ) × (u ≡ word S8 (masked z m)) × (narrowed S8 (σ.vars n) ≡ Some m)
  count_read v n z there here ns u hv run =
      let q = two_operands o.And S8 (expr.Var v) (expr.Num (pos (mask_of z)) there) here s ns u tt run in
      let m = operand_read frame home homing s σ related (a_word v n hv) q.first q.left q.evaluates in
      let c = operand_read frame home homing s σ related (a_number (pos (mask_of z)) there) q.second q.right q.and_this in
      let r = combined_is o.And q.at S8 q.left q.right m.bits c.bits q.last u tt (of_size S8 q.left m.bits m.word) (of_size S8 q.right c.bits c.word) (not_numbers (arg.Var n) (arg.Imm (signed S8 (residue S8 (pos (mask_of z))))) q.left q.right m.form c.form tt) q.gives in
      let cb : residue S8 (pos (mask_of z)) ≡ c.bits = same_some _ c.bits (ap (λ y. Some y) (sym (signed_itself S8 (residue S8 (pos (mask_of z))) (residue_below S8 (pos (mask_of z))))) ∙ c.value) in
      let first = defined_went (ref_of v).span (s.store (key_of (ref_of v))) q.first q.left (sym (evaluated_var v (Some S8) s) ∙ q.evaluates) in
      let second = went_same [] q.second (integer (pos (mask_of z))) q.right (sym (evaluated_num (pos (mask_of z)) there (Some S8) s) ∙ q.and_this) in (
        no_numbers q.first q.second q.last ns q.numbers first.1 (sym second.0) r.0,
        m.bits,
        sym r.1 ∙ ap (λ y. word S8 (alu_answer alu.And S8 m.bits y false).value) (sym cb) ∙ ap (word S8) (masked_is z m.bits),
        m.value,
      )

  pub record MaskedParts (kind : Shift) (n : ℕ) (pick : List FlagVal → Results) (z : Size) (x : Arg) (p : Leaks) (at : Span) (to : List Lval) (t : State) (ns : List ℕ) : Type 0 where
    pub first : List ℕ
    pub second : List ℕ
    pub left : ℕ
    pub count : ℕ
    pub numbers : ns ≡ first ++ second
    pub reads : WordRead frame home homing s σ related z x p first left
    pub held : narrowed S8 (σ.vars n) ≡ Some count
    pub wrote : all_written at (Some z) to (before_value (pick no_flags) z (shifted kind z left (masked z count))) s ≡ went second t

  pub masked_parts : (kind : Shift) (v : Var) (n : ℕ) (pick : List FlagVal → Results) {z : Size} {a : Expr} {x : Arg} {p : Leaks} (at there here : Span) (to : List Lval) (t : State) (ns : List ℕ) → home (key_of (ref_of v)) ≡ Some (in_register n S8) → IsArg home z a x p
      → and_then (of_count pick kind at z (a ∷ count_expr v z there here ∷ []) s) (λ vs. all_written at (Some z) to vs s) ≡ went ns t → MaskedParts kind n pick z x p at to t ns
  masked_parts kind v n pick {z} {a} at there here to t ns hv ia run =
      let count = count_expr v z there here in
      let g = both_went (of_count pick kind at z (a ∷ count ∷ []) s) (λ vs. all_written at (Some z) to vs s) ns t run in
      let h = both_went (word_in at z a s) (λ x. and_then (evaluated count (Some S8) s) (λ v. shift_results pick kind at z x v)) g.first g.value g.came in
      let c = both_went (evaluated count (Some S8) s) (λ v. shift_results pick kind at z h.value v) h.second g.value h.went_on in
      let m = count_read v n z there here c.first c.value hv c.came in
      let e : shift_results pick kind at z h.value (word S8 (masked z m.1)) ≡ went c.second g.value = ap (shift_results pick kind at z h.value) (sym m.2) ∙ c.went_on in
      let k = went_same [] c.second (before_value (pick no_flags) z (shifted kind z h.value (masked z (masked z m.1)))) g.value e in
      let made : g.value ≡ before_value (pick no_flags) z (shifted kind z h.value (masked z m.1)) = sym k.1 ∙ ap (λ i. before_value (pick no_flags) z (shifted kind z h.value i)) (masked_twice z m.1) in
      record {
        first = h.first;
        second = g.second;
        left = h.value;
        count = m.1;
        numbers = count_nil h.first c.first c.second g.second ns (g.numbers ∙ ap (λ l. l ++ g.second) (h.numbers ∙ ap (λ l. h.first ++ l) c.numbers)) m.0 (sym k.0);
        reads = word_read_in frame home homing s σ related at h.first h.value ia h.came;
        held = m.3;
        wrote = subst (λ vs. all_written at (Some z) to vs s ≡ went g.second t) made g.went_on;
      }

  pub masked_row : (kind : Shift) (c : Pinned) (pick : List FlagVal → Results) (fl : Flags) {ls : List Lval} {z : Size} {d : Lval} {x b : Arg} {p r : Leaks} (sp at : Span) (t : State) (ns : List ℕ) → IsDest home z d b r
      → (k : MaskedParts kind c.variable pick z x p at (ls ++ (d ∷ [])) t ns) → AreFlags home ls (flags_of fl) (shift_changes kind) (shift_answer kind z k.left (masked z k.count) no_flags).flags (pick no_flags)
      → Row frame home homing s σ related (record { span = sp; action = action.ShiftBy kind z b c; flags = fl }) z x b p r (c.variable ∷ []) [] k.first k.second t
  masked_row kind c pick fl {ls} {z} {d} {x} {b} sp at t ns id k flags =
      let wrote : all_written at (Some z) (ls ++ (d ∷ [])) (pick no_flags ++ (Some (word z (shift_answer kind z k.left (masked z k.count) no_flags).value) ∷ [])) s ≡ went k.second t =
      subst (λ v. all_written at (Some z) (ls ++ (d ∷ [])) (pick no_flags ++ (Some (word z v) ∷ [])) s ≡ went k.second t) (sym (shift_value kind z k.left (masked z k.count) k.reads.small)) k.wrote in
      record {
        left = k.left;
        reads = k.reads.reads;
        small = k.reads.small;
        shows = k.reads.shows;
        n = (shift_answer kind z k.left (masked z k.count) no_flags).value;
        fs = (shift_answer kind z k.left (masked z k.count) no_flags).flags;
        ends = shift_by_ends frame kind c k.count sp fl z b σ k.left k.held;
        finish = finishes_with frame home homing (record { span = sp; action = action.ShiftBy kind z b c; flags = fl }) at _ (word z (shift_answer kind z k.left (masked z k.count) no_flags).value) _ k.second s σ t related flags id (word_itself z _) (answer_small kind z k.left (masked z k.count) k.reads.small) wrote;
      }
