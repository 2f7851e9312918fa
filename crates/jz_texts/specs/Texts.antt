-- What a program has that was read from a text: its variables belong to no copy and are no cells,
-- what is declared has a declaration, the variables of a function are declared one behind the
-- other, and nothing marks the head of a copied body.
use Rattle.std.specs.Prelude.{◌≡◌, ℕ, List, All, AllPairs, None, is_some, true}
use Rattle.jz_tree.specs.declared.expr.Var.{Var}
use Rattle.jz_tree.specs.declared.expr.Expr.TheViews.{out-Var}
use Rattle.jz_tree.specs.declared.stmt.StmtKind.TheOpen.{StmtKind-F}
use Rattle.jz_tree.specs.declared.program.Fun.{Fun}
use Rattle.jz_tree.specs.declared.program.Program.{Program}
use Rattle.jz_lex.specs.declared.token.Token.{Token}
use Rattle.jz_lex.specs.Lexing.{IsLexed}
use Rattle.jz_parse.specs.Deriving.{DerivesProgram}
use Rattle.jz_type_names.specs.Order.{Before}
use Rattle.jz_type_names.specs.Scopes.{variables_of}
use Rattle.jz_type_names.specs.Parts.{Layer, layer_of, statements_of}
use Rattle.jz_types.specs.ResolvePrograms.{resolved_program}
use Rattle.jz_types.specs.Carried.{EachUsed}

-- a variable as a text has it
abbrev pub IsPlain : Var → Type 0
IsPlain v = ((out-Var v).copy ≡ 0) × ((out-Var v).cell ≡ None)

abbrev pub HasDecl : Var → Type 0
HasDecl v = is_some (out-Var v).decl ≡ true

abbrev pub IsUnmarked : Layer → Type 0
IsUnmarked (StmtKind-F.Assign to o from cond) = Unit {0}
IsUnmarked (StmtKind-F.If c a b) = Unit {0}
IsUnmarked (StmtKind-F.While p c b) = Unit {0}
IsUnmarked (StmtKind-F.For i from down to b) = Unit {0}
IsUnmarked (StmtKind-F.Mark vs) = ⊥

abbrev pub StandsBefore : Var → Var → Type 0
StandsBefore v w = Before (out-Var v).span (out-Var w).span

pub record IsTextFun (f : Fun) : Type 0 where
  pub declared : All IsPlain (variables_of f)
  pub declarations : All HasDecl (variables_of f)
  pub ascending : AllPairs StandsBefore (variables_of f)
  pub used : EachUsed IsPlain f
  pub unmarked : All (λ s. IsUnmarked (layer_of s)) (statements_of f.body)

abbrev pub IsText : Program → Type 0
IsText p = All IsTextFun p.funs

-- what is read is so, and what is resolved stays so
abbrev pub ReadLaw : Type 0
ReadLaw = (text : List ℕ) (tokens : List Token) (p : Program)
    → IsLexed text tokens → DerivesProgram tokens p → IsText p

abbrev pub ResolvedLaw : Type 0
ResolvedLaw = (p : Program) → IsText p → IsText (resolved_program p)
