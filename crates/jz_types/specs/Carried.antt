-- Variables and the declarations that they carry.
use Rattle.std.specs.Prelude.{◌≡◌, ℕ, List, ◌++◌, flat_map, All, Option, option_map}
use Rattle.jz_tree.specs.declared.expr.Expr.{Expr}
use Rattle.jz_tree.specs.declared.expr.Ty.{Ty}
use Rattle.jz_tree.specs.declared.expr.Access.{Access}
use Rattle.jz_tree.specs.declared.expr.Decl.{Decl}
use Rattle.jz_tree.specs.declared.expr.Var.{Var}
use Rattle.jz_tree.specs.declared.expr.Expr.TheOpen.{Expr-F}
use Rattle.jz_tree.specs.declared.expr.Expr.TheViews.{out-Var}
use Rattle.jz_tree.specs.declared.expr.Expr.TheFolds.{para-Expr, map-Expr}
use Rattle.jz_tree.specs.declared.program.Fun.{Fun}
use Rattle.jz_tree.specs.declared.program.Program.{Program}
use Rattle.jz_type_names.specs.Scopes.{variables_of, constant_place}
use Rattle.jz_type_names.specs.Kinds.{Known, declared_of, known_of}
use Rattle.jz_type_names.specs.Parts.{Layer, layer_of, exprs_of, set_by, statements_of, leaves_step}
use Rattle.jz_resolve.specs.Numbering.{values_of, declaration_in}
use Rattle.jz_resolve.specs.Programs.{resolved_whole}

abbrev pub vars_step : Expr-F (Expr × List Var) (Ty × Unit {0}) (Access × List Var)
    (Decl × Unit {0}) (Var × Unit {0}) → List Var
vars_step x =
    leaves_step (map-Expr _ _ _ _ _ (List Var) (Unit {0}) (List Var) (Unit {0}) Var
    (λ e. e.1) (λ t. t.1) (λ a. a.1) (λ d. d.1) (λ v. v.0) x)

-- the variables in an expression, also those before an index
abbrev pub vars_in : Expr → List Var
vars_in = para-Expr (List Var) (Unit {0}) (List Var) (Unit {0}) (Unit {0}) vars_step
    (λ t. tt) (λ a. a.at.1) (λ d. tt) (λ v. tt)

-- the variables that a statement itself reads or sets
abbrev pub used_by : Layer → List Var
used_by k = flat_map vars_in (exprs_of k) ++ set_by k

-- P holds of each variable in the statements of a function, and of those that it returns
abbrev pub EachUsed : (Var → Type 0) → Fun → Type 0
EachUsed P f = All (λ s. All P (used_by (layer_of s))) (statements_of f.body) × All P f.result

-- a variable carries what is declared of its name
abbrev pub Carries : (List ℕ → Option Decl) → Var → Type 0
Carries declared v = (out-Var v).decl ≡ declared (out-Var v).name

abbrev pub IsKnownAs : (List ℕ → Known) → Var → Type 0
IsKnownAs declared v = known_of v ≡ declared (out-Var v).name

-- what is declared of a name in a function, as a variable or else a constant
abbrev pub declared_in : Program → Fun → List ℕ → Option Decl
declared_in p f n = declaration_in (constant_place p.consts) (variables_of f) n

-- its storage and type alone
abbrev pub known_in : Program → Fun → List ℕ → Known
known_in p f n = option_map declared_of (declared_in p f n)

-- the function of a resolved program that comes of this one of the text
abbrev pub resolved_of : Program → Fun → Fun
resolved_of p f = resolved_whole (constant_place p.consts) (values_of p.consts) f

-- in a resolved program each variable carries the declaration of its name among the variables of
-- its function and the constants
abbrev pub CarryingLaw : Type 0
CarryingLaw = (p : Program)
    → All (λ f. EachUsed (Carries (declared_in p (resolved_of p f))) (resolved_of p f)) p.funs

-- and it is known as what the text declares of the name: of the same storage and type
abbrev pub KnownLaw : Type 0
KnownLaw = (p : Program) → All (λ f. EachUsed (IsKnownAs (known_in p f)) (resolved_of p f)) p.funs
