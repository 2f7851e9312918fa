-- ADC and SBB, CMP and TEST, shifts and rotations by a number, INC and DEC, and LEA.
use Rattle.std.proofs.Common.{◌≡◌, ℕ, false, List, [], ◌∷◌, ◌++◌, Some, None, refl, sym, ap, ◌∙◌, subst}
use Rattle.jz_io.specs.declared.span.Span.{Span}
use Rattle.jz_words.specs.declared.size.Size.{Size}
use Rattle.x64_insn.specs.declared.types.Alu.{Alu}
use Rattle.x64_insn.specs.Answers.{alu_answer}
use Rattle.x64_insn.specs.Rows.{writes_operand}
use Rattle.jz_tree.specs.declared.stmt.Lval.{Lval}
use Rattle.jz_runs.specs.Rules.{went}
use Rattle.jz_meaning.specs.States.{State}
use Rattle.jz_meaning.specs.Intrinsics.{all_flags}
use Rattle.jz_meaning.specs.Assignments.{all_written}
use Rattle.jz_operations.specs.declared.operation.Arg.{Arg}
use Rattle.jz_operations.specs.declared.operation.Action.TheVariants as action
use Rattle.jz_operations.specs.declared.operation.Flags.{Flags}
use Rattle.jz_operations.specs.declared.operation.Operation.{Operation}
use Rattle.jz_operations.specs.Values as over
use Rattle.jz_operations.specs.Rows.{Frame, carry_in, all_five, value_of, step, with_flags, set_flags, flags_of}
use Rattle.jz_homes.specs.Homes.{Homes, IsHoming, IsRelated}
use Rattle.jz_homes.specs.Operands.{Leaks, shown_of}
use Rattle.jz_homes.proofs.Shown.{shown, read_shown}
use Rattle.jz_homes.proofs.Parts.{went_same}
use Rattle.jz_homes.proofs.Writing.{related_same}
use Rattle.jz_row_operations.proofs.Moves.{append_nil}
use Rattle.jz_row_operations.proofs.Sums.{RunsAs, one_ran}
use Rattle.jz_flag_runs.proofs.FlagResults.{flags_written}
use Rattle.jz_flag_runs.proofs.Intrinsics.{FiveTo, five_flags, alu_five, TwoParts}

pub nil_end : {A : Type 0} (xs : List A) → xs ++ [] ≡ xs
nil_end [] = refl
nil_end (x ∷ xs) = ap (λ y. x ∷ y) (nil_end xs)

module _ (frame : Frame) (home : Homes) (homing : IsHoming frame home) (s : State) (σ : over.State) (related : IsRelated home s σ) where
  -- ---- CMP and TEST: flags alone
  flags_by : (op : Alu) (sp : Span) (fl : Flags) (z : Size) (x y : Arg) (a c : ℕ) → writes_operand op ≡ false → carry_in op None σ ≡ Some false → value_of frame x z σ ≡ Some a → value_of frame y z σ ≡ Some c
      → step frame (record { span = sp; action = action.Alu op z x y None; flags = fl }) σ ≡ Some (record { shown = shown x σ ++ (shown y σ ++ []); division = []; state = with_flags (record { span = sp; action = action.Alu op z x y None; flags = fl }) (alu_answer op z a c false).flags σ })
  flags_by op sp fl z x y a c w asks e f = rw (asks, e, f) (rw (read_shown frame x z σ a e, read_shown frame y z σ c f) (rw w refl))

  pub flags_run : (op : Alu) (fl : Flags) {ls : List Lval} {z : Size} {x y : Arg} {p q : Leaks} (sp at : Span) (t : State) (ns : List ℕ) → writes_operand op ≡ false → carry_in op None σ ≡ Some false → FiveTo home ls fl
      → (k : TwoParts frame home homing s σ related z x y p q (λ a c. all_flags (alu_answer op z a c false).flags) at ls t ns)
      → RunsAs frame home homing s σ related (record { span = sp; action = action.Alu op z x y None; flags = fl } ∷ []) t ((shown_of p k.first ++ shown_of q k.second) ∷ []) × (k.third ≡ [])
  flags_run op fl {ls} {z} {x} {y} {p} {q} sp at t ns w asks five k =
      let fs = (alu_answer op z k.left k.right false).flags in
      let run : all_written at (Some z) (ls ++ []) (all_flags fs ++ []) s ≡ went k.third t = ap (λ l. all_written at (Some z) l (all_flags fs ++ []) s) (nil_end ls) ∙ ap (λ l. all_written at (Some z) ls l s) (nil_end (all_flags fs)) ∙ k.wrote in
      let g = flags_written frame home homing at (Some z) [] [] s σ k.third t (five_flags home ls fl fs five (alu_five op z k.left k.right false)) related run in
      let h = went_same [] k.third g.between t g.went_on in
      let o' : Operation = record { span = sp; action = action.Alu op z x y None; flags = fl } in (
        record {
          ran = _;
          goes = one_ran frame home homing s σ related o' (shown x σ ++ (shown y σ ++ [])) _ (flags_by op sp fl z x y k.left k.right w asks k.reads_left.reads k.reads_right.reads);
          agrees = related_same frame home homing t (record σ { vars = set_flags (flags_of fl) all_five fs σ.vars }) (with_flags o' fs σ) (subst (λ u. IsRelated home u (record σ { vars = set_flags (flags_of fl) all_five fs σ.vars })) h.1 g.related) (λ v. refl) refl refl;
          shows = ap (λ v. v ∷ []) (append_nil (shown x σ ++ (shown y σ ++ [])) ∙ ap (λ v. shown x σ ++ v) (append_nil (shown y σ)) ∙ ap (λ v. v ++ shown y σ) k.reads_left.shows ∙ ap (λ v. shown_of p k.first ++ v) k.reads_right.shows);
        },
        sym h.0,
      )
