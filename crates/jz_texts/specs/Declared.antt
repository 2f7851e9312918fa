-- What the names of a typed program have that comes of a text.
use Rattle.std.specs.Prelude.{◌≡◌, ◌≤◌, ℕ, pos, All, AllPairs, Some, false, true, is_some}
use Rattle.std.specs.Str.{bytes_eq}
use Rattle.jz_tree.specs.Size.{Size}
use Rattle.jz_tree.specs.declared.expr.Decl.{Decl}
use Rattle.jz_tree.specs.declared.expr.Var.{Var}
use Rattle.jz_tree.specs.declared.expr.Expr.TheViews.{out-Var}
use Rattle.jz_tree.specs.declared.program.Fun.{Fun}
use Rattle.jz_tree.specs.declared.program.Program.{Program}
use Rattle.jz_type_names.specs.declared.kinds.Kind.TheVariants as kind
use Rattle.jz_type_names.specs.Kinds.{kind_of, written_length}
use Rattle.jz_type_names.specs.Scopes.{Name, variables_of, variable_named, function_named}
use Rattle.jz_type_names.specs.Parts.{layer_of, statements_of, called_by}
use Rattle.jz_type_names.specs.Names.{decls_of}
use Rattle.jz_types.specs.Carried.{EachUsed, Carries, declared_in}
use Rattle.jz_types.specs.TypedPrograms.{IsTypedProgram}
use Rattle.jz_judgement.specs.WellTyped.{IsWellTyped}
use Rattle.jz_texts.specs.Texts.{IsText}

-- two variables have different names, whichever is asked first
pub record AreApart (v w : Var) : Type 0 where
  pub one : bytes_eq (out-Var v).name (out-Var w).name ≡ false
  pub other : bytes_eq (out-Var w).name (out-Var v).name ≡ false

-- a variable of the function has that name
abbrev pub IsNamedIn : Fun → Var → Type 0
IsNamedIn f v = (w : Var) × (variable_named (out-Var v).name (variables_of f) ≡ Some w)

-- the length of an array is a number from 1 to 65,536
pub record HasLength (d : Decl) : Type 0 where
  pub count : ℕ
  pub least : 1 ≤ count
  pub most : count ≤ 65536
  pub written : written_length d ≡ Some (pos count)

abbrev pub IsCountedDecl : Decl → Type 0
IsCountedDecl d = (z : Size) → kind_of d.ty ≡ kind.Array z → HasLength d

abbrev pub IsFunction : Program → Name → Type 0
IsFunction q n = is_some (function_named n.0 q.funs) ≡ true

-- of a function: the variables that it declares have different names, each its own declaration, and
-- each that it uses or returns is one of them and carries what is declared of it
pub record HasDeclarations (q : Program) (f : Fun) : Type 0 where
  pub differ : AllPairs AreApart (variables_of f)
  pub own : All (Carries (declared_in q f)) (variables_of f)
  pub carried : EachUsed (Carries (declared_in q f)) f
  pub named : EachUsed (IsNamedIn f) f
  pub lengths : All IsCountedDecl (decls_of f)
  pub called : All (λ s. All (IsFunction q) (called_by (layer_of s))) (statements_of f.body)

abbrev pub DeclarationsLaw : Type 0
DeclarationsLaw = (q : Program) → IsTypedProgram q → IsText q → All (HasDeclarations q) q.funs

abbrev pub WellTypedLaw : Type 0
WellTypedLaw = (q : Program) → IsTypedProgram q → IsWellTyped q
