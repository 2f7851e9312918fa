-- Expansions of export functions of typed texts.
use Rattle.jz_tree.specs.declared.program.Fun.{Fun}
use Rattle.jz_tree.specs.declared.program.Program.{Program}
use Rattle.jz_change.specs.Views.{change_of}
use Rattle.jz_one_expansion.specs.Expanded.{Expanded}
use Rattle.jz_safe_expansions.specs.SafeExpansions.{IsExpandedExport}

-- it is that of the export function f of a typed text
abbrev pub IsExpandedFrom : Program → Fun → Expanded → Type 0
IsExpandedFrom p f e = IsExpandedExport p f e.fun (change_of e.change) e.count

-- of some text
pub record IsOfText (e : Expanded) : Type 0 where
  pub program : Program
  pub source : Fun
  pub from : IsExpandedFrom program source e
