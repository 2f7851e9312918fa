-- Each assignment of the expansion of a function of a typed text, and each intrinsic, has a row of the
-- pattern table.
use Rattle.std.specs.Prelude.{ℕ, Contains}
use Rattle.jz_tree.specs.declared.program.Fun.{Fun}
use Rattle.jz_tree.specs.declared.program.Program.{Program}
use Rattle.jz_types.specs.TypedPrograms.{IsTypedProgram}
use Rattle.jz_texts.specs.Texts.{IsText}
use Rattle.jz_change.specs.Changes.{Change}
use Rattle.jz_function_runs.specs.FunctionRuns.{plain_body}
use Rattle.jz_expansion.specs.Expansions.{IsExpansion}
use Rattle.jz_total_flags.specs.Bodies.{HavePatterns}

abbrev pub ExpansionsHavePatterns : Type 0
ExpansionsHavePatterns =
    (p : Program) (f g : Fun) (k : Change) (count : ℕ)
    → IsTypedProgram p → IsText p → Contains p.funs f → IsExpansion p f g k count
    → HavePatterns (plain_body g)
