-- What holds of the homes of declared variables.
use Rattle.std.specs.Prelude.{◌≡◌}
use Rattle.jz_tree.specs.declared.program.Fun.{Fun}
use Rattle.jz_type_names.specs.Scopes.{variables_of}
use Rattle.jz_operands.specs.TableHomes.{homes_by}
use Rattle.jz_homing.specs.Tables.{Table, no_homes, with_vars}
use Rattle.jz_declared.specs.Declared.{Differ, AreDeclared, held_of, kept_of, kinds_of, stack_of}

-- the homes, the kinds and the stack are those of the declarations
pub record IsOfDeclarations (f : Fun) (t : Table) : Type 0 where
  pub homes : AreDeclared (held_of f) (kept_of f) (homes_by t.entries)
  pub kinds : t.kinds ≡ kinds_of f
  pub stack : t.stack ≡ stack_of f

-- where the variables differ, a table that is made of them one after another says that
abbrev pub HomesAreDeclared : Type 0
HomesAreDeclared =
    (f : Fun) → Differ (variables_of f)
    → IsOfDeclarations f (with_vars no_homes (variables_of f))
