-- A function has one function over variables.
use Rattle.std.specs.Prelude.{◌≡◌, List}
use Rattle.x64_insn.specs.declared.types.Reg.{Reg}
use Rattle.jz_tree.specs.declared.program.Fun.{Fun}
use Rattle.jz_meaning.specs.Statements.{Block}
use Rattle.jz_change.specs.Changes.{Change}
use Rattle.jz_place.specs.declared.tree.Ir.{Ir}
use Rattle.jz_place.specs.Bodies.{body_of}
use Rattle.jz_homes.specs.Homes.{Homes}
use Rattle.jz_lowered.specs.Functions.{IsLoweredFun}

-- two functions over variables with the same entry, body and results
pub record AreOne (l m : Ir) : Type 0 where
  pub entry : l.entry ≡ m.entry
  pub body : body_of l.body ≡ body_of m.body
  pub results : l.results ≡ m.results

-- those of one function are one, with one change
abbrev pub OneFunction : Type 0
OneFunction =
    (home : Homes) (arguments results : List Reg) (f : Fun) (b : Block) (l m : Ir) (j k : Change)
    → IsLoweredFun home arguments results f b l j → IsLoweredFun home arguments results f b m k
    → AreOne l m × (j ≡ k)
