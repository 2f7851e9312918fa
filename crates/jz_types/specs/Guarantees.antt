-- What statements of typed programs have: rows of the tables, and so the copies of their calls.
use Rattle.std.specs.Prelude.{◌≡◌, true, false, List, All, Option, Some}
use Rattle.std.specs.List.{zip}
use Rattle.jz_tree.specs.declared.expr.Expr.{Expr}
use Rattle.jz_tree.specs.declared.stmt.Lval.{Lval}
use Rattle.jz_tree.specs.declared.stmt.Rhs.TheVariants as rhs
use Rattle.jz_tree.specs.declared.stmt.Stmt.{Stmt}
use Rattle.jz_tree.specs.declared.stmt.StmtKind.TheOpen.{StmtKind-F}
use Rattle.jz_tree.specs.declared.program.Fun.{Fun}
use Rattle.jz_tree.specs.declared.program.Program.{Program}
use Rattle.jz_type_rows.specs.Pattern.{Pattern}
use Rattle.jz_type_rows.specs.Selected.{IsSelected, IsCopied}
use Rattle.jz_type_names.specs.Parts.{Layer, layer_of, statements_of, is_skip}
use Rattle.jz_type_rows.specs.declared.callee.Callee.{Callee}
use Rattle.jz_type_rows.specs.Callees.{callee_by}
use Rattle.jz_type_rows.specs.Matching.{needs_row, is_word_left, is_word_value}
use Rattle.jz_types.specs.Rules.{IsTyped}
use Rattle.jz_resolve.specs.Programs.{resolved_program}

-- a row is selected, where the statement needs one
abbrev pub HasRow : Stmt → Type 0
HasRow s = needs_row (layer_of s) ≡ true → (p : Pattern) × IsSelected s.kind (Some p)

-- a word that becomes the argument, and one that becomes what the callee gives back
abbrev pub Enters : Lval × Expr → Type 0
Enters a = is_word_left a.0 ≡ true → (p : Pattern) × IsCopied a.0 a.1 (Some p)

abbrev pub Leaves : Expr × Lval → Type 0
Leaves r =
    is_word_value r.0 ≡ true → is_skip r.1 ≡ false → (p : Pattern) × IsCopied r.1 r.0 (Some p)

abbrev pub HasCopies : Option Callee → Layer → Type 0
HasCopies (Some g) (StmtKind-F.Assign to op (rhs.Call n args at) cond) =
    All Enters (zip g.entered args) × All Leaves (zip g.left to)
HasCopies callee k = Unit {0}

abbrev pub HasRows : List Fun → Stmt → Type 0
HasRows fs s = HasRow s × HasCopies (callee_by fs (layer_of s)) (layer_of s)

-- all statements of a typed program, with the declarations of variables where they are used
abbrev pub RowsLaw : Type 0
RowsLaw = (p : Program) → IsTyped p
    → All (λ f. All (HasRows (resolved_program p).funs) (statements_of f.body)) (resolved_program p).funs
