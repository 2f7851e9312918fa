-- What private contracts say of lists of references that grow, and of expressions taken apart.
use Rattle.std.specs.Prelude.{◌≡◌, ℕ, ◌+◌, List, [], ◌∷◌, ◌++◌, map, flat_map, Option, Some}
use Rattle.std.specs.Borrow.{Bor}
use Rattle.jz_tree.specs.declared.expr.Expr.{Expr}
use Rattle.jz_tree.specs.declared.expr.Expr.TheOpen.{Expr-F}
use Rattle.jz_tree.specs.declared.expr.Expr.TheFolds.{fold-Expr}
use Rattle.jz_tree.specs.declared.expr.Var.{Var}
use Rattle.jz_tree.specs.Span.{Span}
use Rattle.jz_type_names.specs.declared.exprs.Parts.{Parts}
use Rattle.jz_type_names.specs.Scopes.{Name, name_of}
use Rattle.jz_type_names.specs.Parts.{Cells, names_in, cells_in}
use Rattle.jz_type_names.specs.Lent.{these, this, paired_lists, var_names}

-- ---- lists that grow at their end
-- by what references refer to
abbrev pub Gains : {A : Type 0} → List (Bor A) → List (Bor A) → List A → Type 0
Gains old new more = these new ≡ these old ++ more

-- by variables of these names
abbrev pub GainsVars : List (Bor Var) → List (Bor Var) → List Name → Type 0
GainsVars old new more = var_names new ≡ var_names old ++ more

-- by these cells
abbrev pub GainsCells : List (Bor Var × Bor Expr) → List (Bor Var × Bor Expr) → Cells → Type 0
GainsCells old new more = paired_lists new ≡ paired_lists old ++ more

-- names that references refer to, each with its place
abbrev pub these_names : List (Bor (List ℕ) × Span) → List Name
these_names ns = map (λ n. (n.0.now, n.1)) ns

-- by these names
abbrev pub GainsNames : List (Bor (List ℕ) × Span) → List (Bor (List ℕ) × Span) → List Name → Type 0
GainsNames old new more = these_names new ≡ these_names old ++ more

-- ---- an expression taken apart
-- a variable and the first operand are a cell, where there are both
abbrev pub own_cell : Option (Bor Var) → Option (Bor Expr) → Cells
own_cell (Some v) (Some i) = (v.now, i.now) ∷ []
own_cell _ _ = []

-- how many expressions stand in one, itself among them
abbrev pub count_step : Expr-F ℕ (Unit {0}) ℕ (Unit {0}) (Unit {0}) → ℕ
count_step (Expr-F.Num n at) = 1
count_step (Expr-F.Expr::Bool b at) = 1
count_step (Expr-F.Var v) = 1
count_step (Expr-F.Cell v i) = i + 1
count_step (Expr-F.Load a) = a + 1
count_step (Expr-F.Neg a at) = a + 1
count_step (Expr-F.Not a at) = a + 1
count_step (Expr-F.Cast z s a at) = a + 1
count_step (Expr-F.Bin o a b at) = a + b + 1

abbrev pub count_in : Expr → ℕ
count_in =
    fold-Expr ℕ (Unit {0}) ℕ (Unit {0}) (Unit {0})
    count_step (λ t. tt) (λ a. a.at) (λ d. tt) (λ v. tt)

abbrev pub count_of : List Expr → ℕ
count_of [] = 0
count_of (e ∷ es) = count_in e + count_of es

-- the operands of what was taken apart
abbrev pub operands : Parts → List Expr
operands p = this p.first ++ this p.second

-- the names in what was taken apart, and the cells
abbrev pub part_names : Parts → List Name
part_names p = map name_of (this p.var) ++ flat_map names_in (operands p)

abbrev pub part_cells : Parts → Cells
part_cells p = own_cell p.var p.first ++ flat_map cells_in (operands p)
