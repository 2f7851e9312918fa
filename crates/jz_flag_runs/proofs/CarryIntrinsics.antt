-- ADC and SBB with a flag variable.
use Rattle.std.proofs.Common.{◌≡◌, ℕ, Bool, true, List, [], ◌∷◌, ◌++◌, Some, sym, ap, ◌∙◌, subst}
use Rattle.jz_io.specs.declared.span.Span.{Span}
use Rattle.jz_words.specs.declared.size.Size.{Size}
use Rattle.x64_insn.specs.declared.types.Alu.{Alu}
use Rattle.x64_insn.specs.Answers.{alu_answer}
use Rattle.x64_insn.specs.Rows.{writes_operand}
use Rattle.jz_tree.specs.declared.expr.Expr.{Expr}
use Rattle.jz_tree.specs.declared.expr.Expr.TheVariants as expr
use Rattle.jz_tree.specs.declared.expr.Var.{Var}
use Rattle.jz_tree.specs.declared.stmt.Lval.{Lval}
use Rattle.jz_runs.specs.Rules.{went}
use Rattle.jz_meaning.specs.Attempts.{and_then}
use Rattle.jz_meaning.specs.States.{word, State}
use Rattle.jz_meaning.specs.Values.{key_of, ref_of}
use Rattle.jz_meaning.specs.Intrinsics.{all_flags, of_carry, alu_results}
use Rattle.jz_meaning.specs.Assignments.{Results, all_written}
use Rattle.jz_operations.specs.declared.operation.Pinned.{Pinned}
use Rattle.jz_operations.specs.declared.operation.Arg.{Arg}
use Rattle.jz_operations.specs.declared.operation.Action.TheVariants as action
use Rattle.jz_operations.specs.declared.operation.Flags.{Flags}
use Rattle.jz_operations.specs.Values as over
use Rattle.jz_operations.specs.Rows.{Frame, truth, carry_in, all_five, flags_of}
use Rattle.jz_operations.specs.Reading.{is_var, found_by}
use Rattle.jz_homes.specs.Homes.{Homes, IsHoming, in_flag, IsRelated}
use Rattle.jz_homes.specs.Operands.{Leaks, IsArg, IsDest, shown_of}
use Rattle.jz_homes.proofs.Parts.{both_went}
use Rattle.jz_row_operations.proofs.Sums.{NoName}
use Rattle.jz_row_operations.proofs.Brought.{Row}
use Rattle.jz_flag_runs.proofs.FlagLefts.{AreFlags}
use Rattle.jz_flag_runs.proofs.Words.{WordRead, three_read}
use Rattle.jz_flag_runs.proofs.Results.{alu_flag_row}
use Rattle.jz_flag_runs.proofs.Intrinsics.{FiveTo, five_flags, alu_five}

module _ (frame : Frame) (home : Homes) (homing : IsHoming frame home) (s : State) (σ : over.State) (related : IsRelated home s σ) where
  pub record ThreeParts (z : Size) (x y : Arg) (p q : Leaks) (n : ℕ) (f : ℕ → ℕ → Bool → Results) (at : Span) (to : List Lval) (t : State) (ns : List ℕ) : Type 0 where
    pub first : List ℕ
    pub second : List ℕ
    pub third : List ℕ
    pub left : ℕ
    pub right : ℕ
    pub carry : Bool
    pub numbers : ns ≡ (first ++ second) ++ third
    pub reads_left : WordRead frame home homing s σ related z x p first left
    pub reads_right : WordRead frame home homing s σ related z y q second right
    pub reads_carry : truth (σ.vars n) ≡ Some carry
    pub wrote : all_written at (Some z) to (f left right carry) s ≡ went third t

  pub three_parts : {z : Size} {a b : Expr} {x y : Arg} {p q : Leaks} (c : Var) (n : ℕ) (f : ℕ → ℕ → Bool → Results) (at : Span) (to : List Lval) (t : State) (ns : List ℕ) → IsArg home z a x p → IsArg home z b y q → home (key_of (ref_of c)) ≡ Some (in_flag n)
      → and_then (of_carry f at z (a ∷ b ∷ expr.Var c ∷ []) s) (λ vs. all_written at (Some z) to vs s) ≡ went ns t → ThreeParts z x y p q n f at to t ns
  three_parts {z} {a} {b} c n f at to t ns ia ib hc run =
      let g = both_went (of_carry f at z (a ∷ b ∷ expr.Var c ∷ []) s) (λ vs. all_written at (Some z) to vs s) ns t run in
      let u = three_read frame home homing s σ related c n at at f g.value g.first ia ib hc g.came in
      record {
        first = u.first;
        second = u.second;
        third = g.second;
        left = u.left;
        right = u.right;
        carry = u.carry;
        numbers = g.numbers ∙ ap (λ l. l ++ g.second) u.numbers;
        reads_left = u.reads_left;
        reads_right = u.reads_right;
        reads_carry = u.reads_carry;
        wrote = subst (λ vs. all_written at (Some z) to vs s ≡ went g.second t) u.results g.went_on;
      }

  -- ADC and SBB: those that read the flag
  pub carry_intrinsic : (op : Alu) (c : Pinned) (fl : Flags) {ls : List Lval} {z : Size} {d : Lval} {x y b : Arg} {p q r : Leaks} (sp at : Span) (t : State) (ns : List ℕ) → writes_operand op ≡ true → ((k : Bool) → truth (σ.vars c.variable) ≡ Some k → carry_in op (Some c) σ ≡ Some k) → NoName y → FiveTo home ls fl → IsDest home z d b r
      → (k : ThreeParts z x y p q c.variable (alu_results op z) at (ls ++ (d ∷ [])) t ns)
      → Row frame home homing s σ related (record { span = sp; action = action.Alu op z b y (Some c); flags = fl }) z x b p r ((is_var y ++ found_by y) ++ (c.variable ∷ [])) (shown_of q k.second) k.first k.third t
  carry_intrinsic op c fl {ls} {z} sp at t ns w asks nm five id k =
      alu_flag_row frame home homing s σ related op (Some c) k.carry fl sp at k.left k.right k.first k.second k.third t w (asks k.carry k.reads_carry) nm k.reads_left k.reads_right (five_flags home ls fl _ five (alu_five op z k.left k.right k.carry)) id k.wrote

  pub carry_intrinsic_swapped : (op : Alu) (c : Pinned) (fl : Flags) {ls : List Lval} {z : Size} {d : Lval} {x y b : Arg} {p q r : Leaks} (sp at : Span) (t : State) (ns : List ℕ) → writes_operand op ≡ true → ((k : Bool) → truth (σ.vars c.variable) ≡ Some k → carry_in op (Some c) σ ≡ Some k) → ((m n : ℕ) (k : Bool) → alu_answer op z n m k ≡ alu_answer op z m n k) → NoName x → FiveTo home ls fl → IsDest home z d b r
      → (k : ThreeParts z x y p q c.variable (alu_results op z) at (ls ++ (d ∷ [])) t ns)
      → Row frame home homing s σ related (record { span = sp; action = action.Alu op z b x (Some c); flags = fl }) z y b q r ((is_var x ++ found_by x) ++ (c.variable ∷ [])) (shown_of p k.first) k.second k.third t
  carry_intrinsic_swapped op c fl {ls} {z} {d} sp at t ns w asks swap nm five id k =
      let same = swap k.left k.right k.carry in
      alu_flag_row frame home homing s σ related op (Some c) k.carry fl sp at k.right k.left k.second k.first k.third t w (asks k.carry k.reads_carry) nm k.reads_right k.reads_left
      (subst (λ r. AreFlags home ls (flags_of fl) all_five r.flags (all_flags (alu_answer op z k.left k.right k.carry).flags)) (sym same) (five_flags home ls fl _ five (alu_five op z k.left k.right k.carry))) id
      (subst (λ r. all_written at (Some z) (ls ++ (d ∷ [])) (all_flags (alu_answer op z k.left k.right k.carry).flags ++ (Some (word z r.value) ∷ [])) s ≡ went k.third t) (sym same) k.wrote)
