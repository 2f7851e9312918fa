-- A function as operations over variables.
use Rattle.std.specs.Prelude.{◌≡◌, ◌≤◌, ◌^◌, ◌⊎◌, ℕ, List, [], ◌∷◌, length, map}
use Rattle.x64_insn.specs.declared.types.Place.{Place}
use Rattle.x64_insn.specs.declared.types.Place.TheVariants as place
use Rattle.x64_insn.specs.declared.types.Reg.TheVariants as reg
use Rattle.x64_insn.specs.declared.types.Flag.TheVariants as flag
use Rattle.jz_tree.specs.Span.{Span}
use Rattle.jz_tree.specs.declared.program.Fun.{Fun}
use Rattle.jz_type_names.specs.Scopes.{variables_of}
use Rattle.jz_runs.specs.Trees.{done}
use Rattle.jz_runs.specs.Rules.{Goes}
use Rattle.jz_meaning.specs.Runs.{block}
use Rattle.jz_meaning.specs.Statements as statements
use Rattle.jz_meaning.specs.Statements.{Block}
use Rattle.jz_correct.specs.Registers.{argument_registers, result_registers}
use Rattle.jz_change.specs.Changes.{Change}
use Rattle.jz_change.specs.Views.{change_of}
use Rattle.jz_pass.specs.Laws.{Carries}
use Rattle.jz_pass.specs.Cases.{IsBetween, cases_of}
use Rattle.jz_placing.specs.Variables.{variables}
use Rattle.jz_place.specs.declared.tree.Passed.{Passed}
use Rattle.jz_place.specs.Bodies.{body_of}
use Rattle.jz_codable.specs.Ready.{IsReady, IsShort}
use Rattle.jz_homes.specs.Homes.{Homes}
use Rattle.jz_every_row.specs.Bodies.{beside, HasNeedsMet}
use Rattle.jz_lowered.specs.Functions.{ArePassed, IsLoweredFun}
use Rattle.jz_meaning.specs.Lengths.{statements_in}
use Rattle.jz_operands.specs.TableHomes.{homes_by}
use Rattle.jz_homing.specs.Tables.{Table, no_homes, with_vars, frame_of}
use Rattle.jz_homing.specs.Refusals.{IsHomeless}
use Rattle.jz_lowering.specs.declared.functions.LoweredFun.{LoweredFun}
use Rattle.jz_lowering.specs.Becoming.{no_callees}
use Rattle.jz_lowering.specs.Parts.{parts_in, IsFirstWithout}
use Rattle.jz_lowering.specs.Passing.{IsFirstUnpassed}

-- the body of a function in which no call is left
abbrev pub plain_body : Fun → Block
plain_body f = block no_callees f.body done

-- the homes of what a function declares
abbrev pub table_of : Fun → Table
table_of f = with_vars no_homes (variables_of f)

abbrev pub homes_for : Fun → Homes
homes_for f = homes_by (table_of f).entries

-- all registers but RSP, and the flags
abbrev pub all_places : List Place
all_places =
    place.Reg reg.Rax ∷ place.Reg reg.Rcx ∷ place.Reg reg.Rdx ∷ place.Reg reg.Rbx
    ∷ place.Reg reg.Rbp ∷ place.Reg reg.Rsi ∷ place.Reg reg.Rdi ∷ place.Reg reg.R8
    ∷ place.Reg reg.R9 ∷ place.Reg reg.R10 ∷ place.Reg reg.R11 ∷ place.Reg reg.R12
    ∷ place.Reg reg.R13 ∷ place.Reg reg.R14 ∷ place.Reg reg.R15 ∷ place.Flag flag.Cf
    ∷ place.Flag flag.Of ∷ place.Flag flag.Sf ∷ place.Flag flag.Pf ∷ place.Flag flag.Zf ∷ []

-- the parameters, the body and the results by the homes of what is declared
pub record IsFunctionLowered (f : Fun) (l : LoweredFun) (k : Change) : Type 0 where
  pub lowered :
      IsLoweredFun (homes_for f) argument_registers result_registers f (plain_body f) l.ir k
  pub kinds : l.ir.kinds ≡ (table_of f).kinds
  pub stack : l.stack ≡ (table_of f).stack
  pub in_use : l.ir.in_use ≡ all_places

-- each run of the body is followed by one of the operations, for each number of turns, where some
-- places meet all their needs
abbrev pub KeepsRuns : Fun → LoweredFun → Change → Type 0
KeepsRuns f l k =
    (places : ℕ → Place) → HasNeedsMet places (body_of l.ir.body)
    → Carries (beside (homes_for f)) (λ s n. Goes statements.source (plain_body f) n s)
    (λ σ n. Goes (variables (frame_of l.stack)) (body_of l.ir.body) n σ) k

abbrev pub KeepsCases : Fun → LoweredFun → Change → Type 0
KeepsCases f l k = IsBetween (cases_of (plain_body f)) (cases_of (body_of l.ir.body)) k

-- it is what machine code asks
abbrev pub IsReadyFun : LoweredFun → Type 0
IsReadyFun l = IsReady l.ir

-- ---- why a function is refused, where what comes before is there
pub data Refuses (f : Fun) : Span → Type 0 where
  no_home : {at : Span} → IsHomeless no_homes (variables_of f) at → Refuses f at
  no_argument :
      {at : Span}
      → IsFirstUnpassed (homes_for f) argument_registers (map (λ p. p.var) f.params) at
      → Refuses f at
  no_result :
      {at : Span} (ps : List Passed)
      → ArePassed (homes_for f) argument_registers (map (λ p. p.var) f.params) ps
      → IsFirstUnpassed (homes_for f) result_registers f.result at → Refuses f at
  no_operations :
      {at : Span} (ps rs : List Passed)
      → ArePassed (homes_for f) argument_registers (map (λ p. p.var) f.params) ps
      → ArePassed (homes_for f) result_registers f.result rs
      → IsFirstWithout (homes_for f) (parts_in (plain_body f)) at → Refuses f at
  -- it has 2^24 statements or more, those in branches and loops too, or 2^32 variables; and what it
  -- is as operations is too long
  too_long :
      (2 ^ 24 ≤ statements_in (plain_body f)) ⊎ (2 ^ 32 ≤ length (table_of f).kinds)
      → (l : LoweredFun) → IsFunctionLowered f l (change_of l.change) → (IsShort l.ir → ⊥)
      → Refuses f f.span
