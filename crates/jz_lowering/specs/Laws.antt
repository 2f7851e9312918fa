-- Which functions are refused at none of their statements.
use Rattle.jz_tree.specs.Span.{Span}
use Rattle.jz_tree.specs.declared.program.Fun.{Fun}
use Rattle.jz_change.specs.Changes.{Change}
use Rattle.jz_total_flags.specs.Bodies.{IsReadyBody, HavePatterns}
use Rattle.jz_lowering.specs.declared.functions.LoweredFun.{LoweredFun}
use Rattle.jz_lowering.specs.Parts.{parts_in, IsFirstWithout}
use Rattle.jz_lowering.specs.Functions.{plain_body, homes_for, IsFunctionLowered}

-- each of its parts that is expanded, well typed, within the limits and has a row has operations
abbrev pub ReadyFunctionsHaveCode : Type 0
ReadyFunctionsHaveCode =
    (f : Fun) (at : Span)
    → IsReadyBody (homes_for f) (plain_body f) → HavePatterns (plain_body f)
    → IsFirstWithout (homes_for f) (parts_in (plain_body f)) at → ⊥

-- and so has each of what is lowered
abbrev pub LoweredFunctionsHaveCode : Type 0
LoweredFunctionsHaveCode =
    (f : Fun) (l : LoweredFun) (k : Change) (at : Span)
    → IsFunctionLowered f l k → IsFirstWithout (homes_for f) (parts_in (plain_body f)) at → ⊥
