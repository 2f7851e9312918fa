-- One operation in its place: what placing asks can be met.
use Rattle.std.proofs.Common.{◌≡◌, ℕ, false, IsTrue, [], ◌∷◌, refl, sym, ◌∙◌, arith}
use Rattle.std.specs.Prelude.{None, pos}
use Rattle.std.proofs.lemmas.Bool.Decides.{nat_tests}
use Rattle.jz_io.specs.declared.span.Span.{Span}
use Rattle.jz_words.specs.declared.size.Size.TheVariants.{S64}
use Rattle.x64_insn.specs.declared.types.Place.{Place}
use Rattle.x64_insn.specs.declared.types.Place.TheVariants as place
use Rattle.x64_insn.specs.declared.types.Reg.TheVariants as reg
use Rattle.x64_insn.specs.declared.types.Insn.TheVariants as insn
use Rattle.x64_insn.specs.declared.types.Operand.TheVariants as operand
use Rattle.jz_ir.specs.Paths.{among}
use Rattle.jz_ir.specs.Tree as ir
use Rattle.jz_live.specs.Lives.{live_before}
use Rattle.jz_live.proofs.Backward.{before_later}
use Rattle.jz_runs.specs.Trees.{done, op}
use Rattle.jz_operations.specs.declared.operation.Arg.TheVariants as arg
use Rattle.jz_operations.specs.declared.operation.Action.TheVariants as action
use Rattle.jz_operations.specs.declared.operation.Operation.{Operation}
use Rattle.jz_placing.specs.Placing.{code_of, AreMet}

abbrev here : Span
here = record { line = 1; col = 1 }

-- the variable 0 becomes 5
abbrev five : Operation
five = record { span = here; action = action.Mov S64 (arg.Var 0) (arg.Imm (pos 5)); flags = record { of = None; cf = None; sf = None; pf = None; zf = None } }

-- the return reads it
abbrev back : ir.Tree
back = ir.op (record { span = here; reads = 0 ∷ []; writes = []; fixed = []; needs = [] }) ir.done

abbrev places : ℕ → Place
places v = place.Reg reg.Rax

none_in : (v : ℕ) → IsTrue (among [] v) → ⊥
none_in v t = cc

only_zero : (v : ℕ) → IsTrue (among (0 ∷ []) v) → v ≡ 0
only_zero v t = grind (arith, nat_tests, t)

live_zero : (v : ℕ) → IsTrue (live_before v back false) → v ≡ 0
live_zero v t = grind (arith, nat_tests, t)

met : AreMet places (op five done) back (λ v. false)
met = (
  record {
    placed = record {
      reads = λ v t. absurd (none_in v t);
      others = λ v live out. before_later (among [] v) (among (0 ∷ []) v) (live_before v back false) out live;
      needs = tt;
      words = λ v t. (refl, λ e. absurd cc);
      stack = refl;
      apart = λ u v t live ne. absurd (ne (only_zero u t ∙ sym (live_zero v live)));
      kept = λ v live out t. absurd cc;
    };
    one = tt;
  },
  tt,
)

-- it is `mov rax, 5`
code_is : code_of places (λ v. 0) (op five done) ≡ op (insn.Mov S64 (operand.Reg reg.Rax) (operand.Imm (pos 5))) done
code_is = refl
