-- Parameters and results, and the first of them that no register is for.
use Rattle.std.specs.Prelude.{◌≡◌, ◌⊎◌, ℕ, List, ◌∷◌, ◌++◌, length, Some, None, slice_get, Result, Ok, Err}
use Rattle.jz_words.specs.declared.size.Size.{Size}
use Rattle.x64_insn.specs.declared.types.Reg.{Reg}
use Rattle.jz_tree.specs.Span.{Span}
use Rattle.jz_tree.specs.declared.expr.Var.{Var}
use Rattle.jz_meaning.specs.Values.{key_of, ref_of}
use Rattle.jz_place.specs.declared.tree.Passed.{Passed}
use Rattle.jz_homes.specs.Homes.{Homes, in_register}
use Rattle.jz_lowered.specs.Functions.{ArePassed}

abbrev pub IsNoWord : Homes → Var → Type 0
IsNoWord home x =
    (n : ℕ) (z : Size) → home (key_of (ref_of x)) ≡ Some (in_register n z) → ⊥

-- behind so many others: there are no more registers, or it is no word in a variable
abbrev pub CannotPass : Homes → List Reg → ℕ → Var → Type 0
CannotPass home rs n x = (slice_get rs n ≡ None) ⊎ IsNoWord home x

-- the first that can not be passed stands there
pub record IsFirstUnpassed (home : Homes) (rs : List Reg) (xs : List Var) (at : Span) :
    Type 0 where
  pub front : List Var
  pub var : Var
  pub back : List Var
  pub split : xs ≡ front ++ (var ∷ back)
  pub passed : List Passed
  pub before : ArePassed home rs front passed
  pub none : CannotPass home rs (length front) var
  pub stands : (ref_of var).span ≡ at

abbrev pub PassedOr : Homes → List Reg → List Var → Result (List Passed) Span → Type 0
PassedOr home rs xs (Ok ps) = ArePassed home rs xs ps
PassedOr home rs xs (Err at) = IsFirstUnpassed home rs xs at
