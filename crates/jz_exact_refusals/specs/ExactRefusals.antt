-- Which expansions are refused at no place.
use Rattle.std.specs.Prelude.{◌≤◌, ℕ}
use Rattle.jz_tree.specs.Span.{Span}
use Rattle.jz_tree.specs.declared.program.Fun.{Fun}
use Rattle.jz_tree.specs.declared.program.Program.{Program}
use Rattle.jz_change.specs.Changes.{Change}
use Rattle.jz_change.specs.Views.{change_of}
use Rattle.jz_alloc.specs.declared.placing.NoPlace.{NoPlace}
use Rattle.jz_codable.specs.Ready.{IsReady}
use Rattle.jz_lowering.specs.declared.functions.LoweredFun.{LoweredFun}
use Rattle.jz_lowering.specs.Functions.{IsFunctionLowered, Refuses}
use Rattle.jz_listing.specs.declared.compiled.Compiled.{Compiled}
use Rattle.jz_code.specs.declared.code.NoCode.TheVariants as no
use Rattle.jz_compiling.specs.Made.{IsMadeOf}
use Rattle.jz_compiling.specs.Refused.{stack_end, IsCodeless}
use Rattle.jz_safe_expansions.specs.SafeExpansions.{IsExpandedExport}

-- nothing of it is refused: neither a variable, a parameter, a result nor a statement
abbrev pub HasOperations : Fun → Type 0
HasOperations g = (at : Span) → Refuses g at → ⊥

-- what is as operations, ready for machine code and with stack variables within the limit
abbrev pub LoweredIsNotRefused : Type 0
LoweredIsNotRefused =
    (p : Program) (f g : Fun) (k : Change) (count : ℕ) (l : LoweredFun)
    → IsExpandedExport p f g k count → IsFunctionLowered g l (change_of l.change)
    → IsReady l.ir → stack_end g ≤ 65536 → HasOperations g

-- what is compiled
abbrev pub CompiledIsNotRefused : Type 0
CompiledIsNotRefused =
    (p : Program) (f g : Fun) (k j : Change) (count : ℕ) (c : Compiled)
    → IsExpandedExport p f g k count → IsMadeOf g j c → HasOperations g

-- and what lacks a place alone
abbrev pub UnplacedIsNotRefused : Type 0
UnplacedIsNotRefused =
    (p : Program) (f g : Fun) (k : Change) (count : ℕ) (n : NoPlace)
    → IsExpandedExport p f g k count → IsCodeless g (no.Place n) → HasOperations g
