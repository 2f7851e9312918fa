-- Compiled functions of a text can be listed.
use Rattle.std.specs.Prelude.{ℕ}
use Rattle.jz_tree.specs.declared.program.Fun.{Fun}
use Rattle.jz_tree.specs.declared.program.Program.{Program}
use Rattle.jz_change.specs.Changes.{Change}
use Rattle.jz_safe_expansions.specs.SafeExpansions.{IsExpandedExport}
use Rattle.jz_parse_laws.specs.Names.{AreNamed}
use Rattle.jz_compiled.specs.Correct.{IsCorrect}
use Rattle.jz_verdict.specs.Said.{IsSaid}
use Rattle.jz_listing.specs.declared.compiled.Compiled.{Compiled}
use Rattle.jz_listing.specs.Listable.{IsListable}
use Rattle.jz_listable.specs.Sizes.{HasSizes}

-- Correct compilation of an export function of a typed text whose names are identifiers can be
-- listed, where its numbers have their sizes.
abbrev pub CorrectIsListable : Type 0
CorrectIsListable =
    (p : Program) (f g : Fun) (k : Change) (count : ℕ) (c : Compiled)
    → AreNamed p → IsExpandedExport p f g k count → IsCorrect IsSaid p f c → HasSizes c
    → IsListable c
