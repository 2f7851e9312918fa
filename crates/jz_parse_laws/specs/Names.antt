-- The names in a program that was read from a text.
use Rattle.std.specs.Prelude.{ℕ, List, All}
use Rattle.jz_tree.specs.declared.expr.Var.{Var}
use Rattle.jz_tree.specs.declared.expr.Expr.TheViews.{out-Var}
use Rattle.jz_tree.specs.declared.program.Fun.{Fun}
use Rattle.jz_tree.specs.declared.program.Program.{Program}
use Rattle.jz_lex.specs.Identifiers.{IsIdentifier}
use Rattle.jz_lex.specs.Lexing.{IsLexed}
use Rattle.jz_lex.specs.declared.token.Token.{Token}
use Rattle.jz_parse.specs.Deriving.{DerivesProgram}
use Rattle.jz_type_names.specs.Scopes.{Name, variables_of}
use Rattle.jz_type_names.specs.Parts.{layer_of, statements_of, called_by}
use Rattle.jz_types.specs.Carried.{EachUsed}
use Rattle.jz_resolve.specs.Programs.{resolved_program}

-- a variable, and a place in the text, has an identifier as its name
abbrev pub IsCalled : Var → Type 0
IsCalled v = IsIdentifier (out-Var v).name

abbrev pub IsNamed : Name → Type 0
IsNamed n = IsIdentifier n.0

-- the names of a function, of what it declares, uses and returns, and of what it calls
pub record HasNames (f : Fun) : Type 0 where
  pub name : IsIdentifier f.name
  pub declared : All IsCalled (variables_of f)
  pub used : EachUsed IsCalled f
  pub called : All (λ s. All IsNamed (called_by (layer_of s))) (statements_of f.body)

-- of all functions, and of the constants
pub record AreNamed (p : Program) : Type 0 where
  pub consts : All (λ c. IsIdentifier c.name) p.consts
  pub funs : All HasNames p.funs

-- what is read is so, and what is resolved stays so
abbrev pub NamesLaw : Type 0
NamesLaw = (text : List ℕ) (tokens : List Token) (p : Program)
    → IsLexed text tokens → DerivesProgram tokens p → AreNamed p

abbrev pub ResolvedNamesLaw : Type 0
ResolvedNamesLaw = (p : Program) → AreNamed p → AreNamed (resolved_program p)
