-- Parameters and results as far as a loop has come.
use Rattle.std.specs.Prelude.{◌≡◌, List, [], ◌∷◌, ◌++◌, length, Some, slice_get}
use Rattle.jz_words.specs.declared.size.Size.{Size}
use Rattle.x64_insn.specs.declared.types.Reg.{Reg}
use Rattle.jz_tree.specs.declared.expr.Var.{Var}
use Rattle.jz_meaning.specs.Values.{key_of, ref_of}
use Rattle.jz_place.specs.declared.tree.Passed.{Passed}
use Rattle.jz_homes.specs.Homes.{Homes, in_register}

-- the variable of a word in this register, where the text names it
pub record IsPassed (home : Homes) (x : Var) (r : Reg) (p : Passed) : Type 0 where
  pub size : Size
  pub at : home (key_of (ref_of x)) ≡ Some (in_register p.variable.variable size)
  pub span : p.variable.span ≡ (ref_of x).span
  pub reg : p.reg ≡ r

-- one more, in the next register
pub record PassesNext (home : Homes) (rs : List Reg) (x : Var) (before behind : List Passed) :
    Type 0 where
  pub reg : Reg
  pub passed : Passed
  pub next : slice_get rs (length before) ≡ Some reg
  pub is : IsPassed home x reg passed
  pub added : behind ≡ before ++ (passed ∷ [])
