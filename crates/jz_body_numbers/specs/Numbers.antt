-- The numbers of a body, those of a right operand before those of the left one.
use Rattle.std.specs.Prelude.{ℤ, pos, List, [], ◌∷◌, ◌++◌, flat_map}
use Rattle.jz_tree.specs.declared.expr.Expr.{Expr}
use Rattle.jz_tree.specs.declared.expr.Expr.TheOpen.{Expr-F}
use Rattle.jz_tree.specs.declared.expr.Expr.TheFolds.{fold-Expr, fold-Access}
use Rattle.jz_tree.specs.declared.expr.Access.{Access}
use Rattle.jz_tree.specs.declared.stmt.Stmt.{Stmt}
use Rattle.jz_type_names.specs.Parts.{exprs_of, layer_of, statements_of}
use Rattle.jz_annotations.specs.declared.precondition.Pre.{Pre}
use Rattle.jz_annotations.specs.declared.precondition.Pre.TheVariants as pre

abbrev pub Numbers : Type 0
Numbers = List ℤ

-- what is declared of a variable has none

abbrev pub expr_step : Expr-F Numbers (Unit {0}) Numbers (Unit {0}) (Unit {0}) → Numbers
expr_step (Expr-F.Num n at) = n ∷ []
expr_step (Expr-F.Expr::Bool b at) = []
expr_step (Expr-F.Var v) = []
expr_step (Expr-F.Cell v i) = i
expr_step (Expr-F.Load a) = a
expr_step (Expr-F.Neg a at) = a
expr_step (Expr-F.Not a at) = a
expr_step (Expr-F.Cast z s a at) = a
expr_step (Expr-F.Bin o a b at) = b ++ a

abbrev pub of_expr : Expr → Numbers
of_expr = fold-Expr Numbers (Unit {0}) Numbers (Unit {0}) (Unit {0}) expr_step (λ t. tt) (λ a. a.at) (λ d. tt) (λ v. tt)

abbrev pub of_access : Access → Numbers
of_access = fold-Access Numbers (Unit {0}) Numbers (Unit {0}) (Unit {0}) expr_step (λ t. tt) (λ a. a.at) (λ d. tt) (λ v. tt)

-- of a statement itself
abbrev pub of_statement : Stmt → Numbers
of_statement s = flat_map of_expr (exprs_of (layer_of s))

-- of statements and all that stand in them
abbrev pub of_body : List Stmt → Numbers
of_body ss = flat_map of_statement (statements_of ss)

-- ---- preconditions

abbrev pub of_pre : Pre → Numbers
of_pre (pre.Region p factor v constant) = pos factor ∷ pos constant ∷ []
of_pre (pre.Range n low high) = pos low ∷ pos high ∷ []
of_pre (pre.Align p multiple) = pos multiple ∷ []

abbrev pub of_pres : List Pre → Numbers
of_pres ps = flat_map of_pre ps

-- of a function, by its body and its preconditions
abbrev pub of_function : List Stmt → List Pre → Numbers
of_function ss ps = of_body ss ++ of_pres ps
