-- What compiled functions of typed texts show of the frame.
use Rattle.jz_tree.specs.declared.program.Fun.{Fun}
use Rattle.jz_tree.specs.declared.program.Program.{Program}
use Rattle.jz_meaning.specs.Runs.{body_of}
use Rattle.jz_inline.specs.Functions.{own_names}
use Rattle.jz_from_text.specs.Functions.{plain_body, homes_for}
use Rattle.jz_expansion_cases.specs.Expanded.{Expanded}
use Rattle.jz_listing.specs.declared.compiled.Compiled.{Compiled}
use Rattle.jz_compiled.specs.Layout.{layout_of}
use Rattle.jz_compiled.specs.Showing.{CasesStayIn}
use Rattle.jz_compiled.specs.Correct.{IsCompilation}
use Rattle.jz_from_text.specs.Laws.{IsCompiledFrom}
use Rattle.jz_lowering_cases.specs.Staying.{HasCellsInside}

-- each index of the expansion that is a number is one of a cell
abbrev pub IsIndexed : Fun → Type 0
IsIndexed g = HasCellsInside (homes_for g) (plain_body g)

-- a transformer shows of the frame the places of stack variables that the statement names
abbrev pub CompiledTextsStay : Type 0
CompiledTextsStay =
    (p : Program) (f : Fun) (e : Expanded) (c : Compiled)
    → IsCompiledFrom p f e c → IsIndexed e.fun
    → CasesStayIn (layout_of p f) c.frame own_names 1 (body_of p f) c.tr.body.cases

-- so it is correct compilation
abbrev pub CompiledTextsAreCompilations : Type 0
CompiledTextsAreCompilations =
    (p : Program) (f : Fun) (e : Expanded) (c : Compiled)
    → IsCompiledFrom p f e c → IsIndexed e.fun → IsCompilation p f c
