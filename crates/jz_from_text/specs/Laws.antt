-- What compiling gives of an export function of a typed text.
use Rattle.std.specs.Prelude.{◌≡◌, true, Contains}
use Rattle.jz_tree.specs.declared.program.Fun.{Fun}
use Rattle.jz_tree.specs.declared.program.Program.{Program}
use Rattle.jz_type_rows.specs.Exports.{is_exported}
use Rattle.jz_types.specs.TypedPrograms.{IsTypedProgram}
use Rattle.jz_texts.specs.Texts.{IsText}
use Rattle.jz_meaning.specs.Runs.{body_of}
use Rattle.jz_change.specs.Views.{change_of}
use Rattle.jz_inline.specs.Functions.{own_names}
use Rattle.jz_expanded_runs.specs.Expanded.{Expanded}
use Rattle.jz_expanded_runs.specs.Expansions.{IsExpansion}
use Rattle.jz_listing.specs.declared.compiled.Compiled.{Compiled}
use Rattle.jz_compiled.specs.Layout.{layout_of}
use Rattle.jz_compiled.specs.Showing.{CasesStayIn}
use Rattle.jz_compiled.specs.Matching.{CarriesOver}
use Rattle.jz_compiled.specs.Correct.{IsCompilation}
use Rattle.jz_compiling.specs.Making.{IsNeverStuck}
use Rattle.jz_compiling.specs.Made.{IsMadeOf}

-- the expansion of the export function f of a typed text is compiled to c
pub record IsCompiledFrom (p : Program) (f : Fun) (e : Expanded) (c : Compiled) : Type 0 where
  pub typed : IsTypedProgram p
  pub text : IsText p
  pub there : Contains p.funs f
  pub exported : is_exported f.kind ≡ true
  pub expansion : IsExpansion p f e.fun (change_of e.change) e.count
  pub made : IsMadeOf e.fun (change_of e.change) c
  -- no input that meets the preconditions is stuck in the expansion
  pub safe : IsNeverStuck f e.fun c

abbrev pub TypedFunctionsCarryOver : Type 0
TypedFunctionsCarryOver =
    (p : Program) (f : Fun) (e : Expanded) (c : Compiled)
    → IsCompiledFrom p f e c → CarriesOver p f c

-- and where its lists show of the frame what its statements name alone
abbrev pub TypedFunctionsAreCompiled : Type 0
TypedFunctionsAreCompiled =
    (p : Program) (f : Fun) (e : Expanded) (c : Compiled)
    → IsCompiledFrom p f e c
    → CasesStayIn (layout_of p f) c.frame own_names 1 (body_of p f) c.tr.body.cases
    → IsCompilation p f c
