-- Lowering refuses the expansion of an export function of a typed text at none of its statements, and
-- for nothing but the number of its variables.
use Rattle.std.specs.Prelude.{ℕ, ◌≡◌, ◌≤◌, ◌^◌, ◌⊎◌, length, true, Contains}
use Rattle.jz_tree.specs.Span.{Span}
use Rattle.jz_tree.specs.declared.program.Fun.{Fun}
use Rattle.jz_tree.specs.declared.program.Program.{Program}
use Rattle.jz_type_rows.specs.Exports.{is_exported}
use Rattle.jz_types.specs.TypedPrograms.{IsTypedProgram}
use Rattle.jz_texts.specs.Texts.{IsText}
use Rattle.jz_change.specs.Changes.{Change}
use Rattle.jz_expansion.specs.Expansions.{IsExpansion}
use Rattle.jz_lowering.specs.Parts.{parts_in, IsFirstWithout}
use Rattle.jz_lowering.specs.Functions.{plain_body, table_of, homes_for, Refuses}

abbrev pub ExpansionsHaveCode : Type 0
ExpansionsHaveCode =
    (p : Program) (f g : Fun) (k : Change) (count : ℕ) (at : Span)
    → IsTypedProgram p → IsText p → Contains p.funs f → is_exported f.kind ≡ true
    → IsExpansion p f g k count
    → IsFirstWithout (homes_for g) (parts_in (plain_body g)) at → ⊥

-- ---- at all
-- 2^32 words and bools in registers, or 2^32 variables on the stack
abbrev pub IsTooLarge : Fun → Type 0
IsTooLarge g =
    (2 ^ 32 ≤ length (table_of g).kinds) ⊎ (2 ^ 32 ≤ length (table_of g).stack)

abbrev pub OnlyLargeAreRefused : Type 0
OnlyLargeAreRefused =
    (p : Program) (f g : Fun) (k : Change) (count : ℕ) (at : Span)
    → IsTypedProgram p → IsText p → Contains p.funs f → is_exported f.kind ≡ true
    → IsExpansion p f g k count → Refuses g at → IsTooLarge g
