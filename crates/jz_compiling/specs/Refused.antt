-- When an expanded function has no bytes.
use Rattle.std.specs.Prelude.{◌≡◌, ◌<◌, ◌≤◌, ◌⊎◌, ℕ, List, Some}
use Rattle.jz_tree.specs.Span.{Span}
use Rattle.jz_tree.specs.declared.program.Fun.{Fun}
use Rattle.jz_type_names.specs.Order.{earliest}
use Rattle.jz_preconditions.specs.Refusals.{refused_places}
use Rattle.jz_change.specs.Changes.{Change}
use Rattle.jz_change.specs.Views.{change_of}
use Rattle.jz_alloc.specs.declared.placing.NoPlace.{NoPlace}
use Rattle.jz_alloc.specs.Answers.{IsEvidence}
use Rattle.jz_place.specs.Bodies.{seen_code, LiveInWhole}
use Rattle.jz_codable.specs.Ready.{IsReady}
use Rattle.jz_lowering.specs.declared.functions.LoweredFun.{LoweredFun}
use Rattle.jz_lowering.specs.Functions.{table_of, IsFunctionLowered, Refuses}
use Rattle.jz_listing.specs.declared.compiled.Arg.{Arg}
use Rattle.jz_listing.specs.declared.compiled.Compiled.{Compiled}
use Rattle.jz_correct.specs.Registers.{argument_registers, result_registers}
use Rattle.jz_compiled.specs.Lines.{AreArgumentLines, AreResultLines}
use Rattle.jz_stack.specs.Laying.{end_from}
use Rattle.jz_code.specs.declared.code.NoCode.{NoCode}
use Rattle.jz_code.specs.declared.code.NoCode.TheVariants as no
use Rattle.jz_compiling.specs.declared.compiling.NotCompiled.{NotCompiled}
use Rattle.jz_compiling.specs.declared.compiling.NotCompiled.TheVariants as uncompiled
use Rattle.jz_compiling.specs.Made.{IsMadeOf}

-- where its stack variables end
abbrev pub stack_end : Fun → ℕ
stack_end g = end_from 0 (table_of g).stack

-- first fit leaves this variable of its operations without a place
pub record IsUnplacedFun (g : Fun) (n : NoPlace) : Type 0 where
  pub lowered : LoweredFun
  pub is_lowered : IsFunctionLowered g lowered (change_of lowered.change)
  pub ready : IsReady lowered.ir
  pub evidence : IsEvidence (seen_code lowered.ir) (LiveInWhole lowered.ir) n

-- its stack variables take more than 65,536 bytes; else a variable is left without a place
abbrev pub IsCodeless : Fun → NoCode → Type 0
IsCodeless g no.Frame = 65536 < stack_end g
IsCodeless g (no.Place n) = (stack_end g ≤ 65536) × IsUnplacedFun g n

-- its parameters or its results have no lines, or the annotation there is the first that is refused
pub data HasNoHead (g : Fun) : Span → Type 0 where
  no_arguments :
      {at : Span}
      → ((lines : List Arg) → AreArgumentLines argument_registers g.params lines → ⊥)
      → HasNoHead g at
  no_results :
      {at : Span}
      → ((lines : List Arg) → AreResultLines result_registers g.result g.rets lines → ⊥)
      → HasNoHead g at
  wrong_annotation : {at : Span} → earliest (refused_places g) ≡ Some at → HasNoHead g at

-- it has no bytes; or what comes before, its head or its operations, is refused at a place
abbrev pub IsNotCompiled : Fun → NotCompiled → Type 0
IsNotCompiled g (uncompiled.Code why) = IsCodeless g why
IsNotCompiled g (uncompiled.At place) = HasNoHead g place ⊎ Refuses g place

-- what is compiled has its bytes
abbrev pub MadeIsNotCodeless : Type 0
MadeIsNotCodeless =
    (g : Fun) (k : Change) (c : Compiled) (why : NoCode)
    → IsMadeOf g k c → IsCodeless g why → ⊥
