-- What holds of expansions.
use Rattle.std.specs.Prelude.{ℕ, Contains}
use Rattle.jz_tree.specs.declared.program.Fun.{Fun}
use Rattle.jz_tree.specs.declared.program.Program.{Program}
use Rattle.jz_types.specs.TypedPrograms.{IsTypedProgram}
use Rattle.jz_texts.specs.Texts.{IsText}
use Rattle.jz_meaning.specs.Runs.{body_of}
use Rattle.jz_change.specs.Changes.{Change}
use Rattle.jz_inline.specs.Functions.{own_names}
use Rattle.jz_function_runs.specs.FunctionRuns.{plain_body}
use Rattle.jz_expansion.specs.Expansions.{IsExpansion}
use Rattle.jz_case_names.specs.Items.{items_of, IsBetween}
use Rattle.jz_item_names.specs.Names.{plain, named_items, NamesOf}

-- what the expansion of a function of a typed text makes of a statement names no other variables
abbrev pub ExpansionsNameTheSame : Type 0
ExpansionsNameTheSame =
    (p : Program) (f g : Fun) (k : Change) (n : ℕ) → IsTypedProgram p → IsText p
    → Contains p.funs f → IsExpansion p f g k n
    → IsBetween NamesOf (named_items own_names 1 (body_of p f)) (items_of plain (plain_body g)) k
