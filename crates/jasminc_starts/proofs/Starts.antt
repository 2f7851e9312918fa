-- Where `exec` starts a function is a start of it.
use Rattle.std.proofs.Common.{◌≡◌, ℕ, zero, suc, ◌+◌, ◌-◌, ◌%◌, ◌^◌, ◌<◌, ◌≤◌, true, List, [], ◌∷◌, length, refl, sym, ap, ◌∙◌, arith, subst, lit<}
use Rattle.std.specs.Prelude.{All, IsSome, is_some, slice_index, slice_set, replicate, ⊤}
use Rattle.std.specs.List.{AllByRecursion, AllZip}
use Rattle.std.proofs.lemmas.List.{get_or-set_same, length-set}
use Rattle.jz_words.specs.Sizes.{modulus}
use Rattle.jz_words.specs.Memory.{Memory, loaded}
use Rattle.x64_insn.specs.declared.types.Reg.{Reg}
use Rattle.x64_insn.specs.declared.types.Reg.TheVariants as reg
use Rattle.x64_insn.specs.declared.types.State.{State}
use Rattle.x64_insn.specs.declared.types.FlagVal.TheVariants.{Undefined}
use Rattle.x64_insn.specs.Table.{number_of}
use Rattle.x64_insn.specs.Rows.{reg_value}
use Rattle.x64_insn.proofs.Registers.{number_small}
use Rattle.jz_tree.specs.declared.program.Fun.{Fun}
use Rattle.jz_tree.specs.declared.program.Param.{Param}
use Rattle.jz_tree.specs.declared.program.Program.{Program}
use Rattle.jz_meaning.specs.Rules.{End, Cut, Stuck}
use Rattle.jz_meaning.specs.Runs.{FunOutcome}
use Rattle.jz_preconditions.specs.Stating.{preconditions_of}
use Rattle.jz_inputs.specs.Held.{IsHeld}
use Rattle.jz_inputs.proofs.Meets.{meets_by}
use Rattle.jz_preconditions.specs.Meeting as declared
use Rattle.jz_items.specs.declared.item.Item.{Item}
use Rattle.jz_items.specs.Items.{words_of, ItemsFit}
use Rattle.jz_listing.specs.declared.compiled.Arg.{Arg}
use Rattle.jz_listing.specs.declared.compiled.Compiled.{Compiled}
use Rattle.jz_correct.specs.Registers.{argument_registers}
use Rattle.jz_correct.specs.Starts.{IsInOne, IsValid, IsStart, AreInRegisters, regions_for}
use Rattle.jz_compiled.specs.Lines.{AreArgumentLines, listed_preconditions}
use Rattle.jz_compiled.specs.Matching.{Matches}
use Rattle.jz_compiled.specs.Correct.{IsCompilation}
use Rattle.jz_compiled.proofs.Printed.{in_declared}
use Rattle.jz_correct.specs.Agreement.{NeverFaults}
use Rattle.x64_machine.specs.Steps.{Config}
use Rattle.jasminc_starts.specs.Starting.{IsSafe}
use Rattle.jasminc_steps.specs.Starting.{code_base, return_slot, with_numbers, bare_registers, start_state, exec_start}
use Rattle.jasminc_steps.proofs.Placing.{is_far, AreWords, placed-other, placed-length, placed-words, bare_words}
use Rattle.jasminc_starts.specs.Memories.{most_frame, StandApart, IsStartMemory}
use Rattle.jasminc_starts.specs.Starting.{AreLowBits}
use Rattle.jasminc_starts.proofs.Memories.{input_stays, stack_zero, start_bytes, valid_apart}

-- ---- arguments in their registers
-- the registers have numbers of their own
abbrev AreFar : List Reg → Type 0
AreFar [] = ⊤
AreFar (r ∷ rs) = (is_far (number_of r) rs ≡ true) × AreFar rs

arguments_far : AreFar argument_registers
arguments_far = (refl, (refl, (refl, (refl, (refl, (refl, tt))))))

abbrev at_regs : List ℕ → State
at_regs regs = record { regs = regs; rip = code_base; flags = replicate 5 Undefined }

stand : (ps : List Param) (rs : List Reg) (args : List Arg) → AreArgumentLines rs ps args → (ns words regs : List ℕ) → AreFar rs → AreLowBits args ns words → length regs ≡ 16
    → AreInRegisters args words (at_regs (with_numbers ns rs regs))
stand [] rs [] lines [] [] regs far low size = tt
stand [] rs [] lines [] (w ∷ words) regs far low size = absurd low
stand [] rs [] lines (n ∷ ns) words regs far low size = absurd low
stand [] [] (a ∷ args) lines ns words regs far low size = absurd lines
stand [] (r ∷ rs) (a ∷ args) lines ns words regs far low size = absurd lines
stand (p ∷ ps) [] args lines ns words regs far low size = absurd lines
stand (p ∷ ps) (r ∷ rs) [] lines ns words regs far low size = absurd lines
stand (p ∷ ps) (r ∷ rs) (a ∷ args) lines [] words regs far low size = absurd low
stand (p ∷ ps) (r ∷ rs) (a ∷ args) lines (n ∷ ns) [] regs far low size = absurd low
stand (p ∷ ps) (r ∷ rs) (a ∷ args) lines (n ∷ ns) (w ∷ words) regs far low size =
    let now = slice_set regs (number_of r) n in
    let small = number_small r in
    let here : slice_index (with_numbers ns rs now) (number_of r) ≡ n =
    placed-other (number_of r) ns rs now far.0 ∙ get_or-set_same regs (number_of r) n 0 (omega (arith, small, size)) in
    let there : slice_index (with_numbers ns rs now) (number_of a.reg) ≡ n =
    ap (λ (q : Reg). slice_index (with_numbers ns rs now) (number_of q)) lines.0.2 ∙ here in
    (ap (λ k. k % modulus a.size) there ∙ sym low.0, stand ps rs args lines.1 ns words now far.1 low.1 (length-set regs (number_of r) n ∙ size))

are_words : (ns : List ℕ) → AllByRecursion (λ n. n < 2 ^ 64) ns → AreWords ns
are_words [] h i = lit< tt
are_words (n ∷ ns) h zero = h.0
are_words (n ∷ ns) h (suc i) = are_words ns h.1 i

-- ---- the start
module _ (f : Fun) (c : Compiled) (words : List ℕ) (items : List Item) (m : Memory) (lines : AreArgumentLines argument_registers f.params c.args) (pre : c.pre ≡ listed_preconditions f)
    (fit : ItemsFit items) (low : AreLowBits c.args (words_of items) words) (apart : StandApart items) (small : c.frame ≤ most_frame) (fits : code_base + length c.code ≤ 2 ^ 64)
    (s : IsStartMemory c.frame f words items m) where
  in_input : (q : ℕ) → IsInOne (regions_for c words) q → declared.IsValid s.input q
  in_input q h = (s.holds.covered q).1 (in_declared f c words s.input lines pre q h)

  pub starts : IsStart c words s.input return_slot code_base (exec_start (words_of items) m)
  starts =
      let ns = words_of items in
      let are = are_words ns fit in
      let rsp : reg_value (start_state ns) reg.Rsp ≡ return_slot = placed-other 4 ns argument_registers bare_registers refl in
      record {
        machine = record {
          registers = placed-length ns argument_registers bare_registers;
          words = λ r. placed-words ns argument_registers bare_registers are bare_words (number_of r);
          flags = refl;
          bytes = start_bytes c.frame f words items m small apart s;
        };
        entry = refl;
        code_fits = fits;
        running = refl;
        entry_stack = rsp;
        entry_return = ap (λ a. loaded m a 8) rsp;
        stack = rsp;
        aligned = refl;
        room_below = omega (arith, small);
        room_above = omega arith;
        stack_valid = λ q h. ap is_some (stack_zero c.frame f words items m small apart s q h.0 h.1);
        stack_apart = λ q h inside. valid_apart f words items s.input s.holds apart q (in_input q inside) (omega (arith, small, h.0)) (omega (arith, small, h.1));
        arguments = stand f.params argument_registers c.args lines ns words bare_registers arguments_far low refl;
        region_valid = λ q inside. subst IsSome (sym (input_stays c.frame f words items m small apart s q (in_input q inside))) (in_input q inside);
        region_holds = λ q inside. input_stays c.frame f words items m small apart s q (in_input q inside);
      }

-- ---- runs of correct code
never : (c : Compiled) (words : List ℕ) (rsp0 base : ℕ) (start : Config) (n : ℕ) (o : FunOutcome) → Matches c words rsp0 base start n o → NeverFaults c.code base start
never c words rsp0 base start n (End r k l) h = h.ends.no_fault
never c words rsp0 base start n (Cut l) h = h.no_fault
never c words rsp0 base start n (Stuck w) h = absurd h

pub never_faults : (p : Program) (f : Fun) (c : Compiled) (words : List ℕ) (items : List Item) → IsCompilation p f c → ItemsFit items → AreLowBits c.args (words_of items) words → StandApart items
    → c.frame ≤ most_frame → code_base + length c.code ≤ 2 ^ 64 → AllZip declared.IsArgument f.params words → All (IsHeld f words items) (preconditions_of f) → IsSafe c f words items
never_faults p f c words items correct fit low apart small fits sizes held m s =
    let start = starts f c words items m correct.args correct.pre fit low apart small fits s in
    let meets = meets_by f words items s.input sizes held s.holds in
    let run = correct.carries.runs words s.input 0 meets in
    never c words return_slot code_base (exec_start (words_of items) m) 0 run.0
    (correct.carries.matches words s.input 0 run.0 meets run.1 return_slot code_base (exec_start (words_of items) m) start)
