-- That the variables of a function without calls differ.
use Rattle.std.specs.Prelude.{Bool, List, ◌++◌, Contains}
use Rattle.std.specs.List.{filter}
use Rattle.jz_tree.specs.declared.expr.Var.{Var}
use Rattle.jz_tree.specs.declared.program.Fun.{Fun}
use Rattle.jz_tree.specs.declared.program.Program.{Program}
use Rattle.jz_type_names.specs.Scopes.{variables_of}
use Rattle.jz_types.specs.TypedPrograms.{IsTypedProgram}
use Rattle.jz_texts.specs.Texts.{IsText}
use Rattle.jz_inlining.specs.Inlined.{inlined_function}
use Rattle.jz_declared.specs.Declared.{Differ}

abbrev pub CopiesDiffer : Type 0
CopiesDiffer =
    (p : Program) (f : Fun) → IsTypedProgram p → IsText p → Contains p.funs f
    → Differ (variables_of (inlined_function p f))

abbrev pub PartsDiffer : Type 0
PartsDiffer =
    (keep : Var → Bool) (xs ys : List Var) → Differ (xs ++ ys) → Differ (xs ++ filter keep ys)
