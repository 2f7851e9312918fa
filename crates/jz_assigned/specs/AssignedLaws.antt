-- Assignments of one value where their conditions are met, as laws.
use Rattle.std.specs.Prelude.{◌≡◌, Bool, [], ◌∷◌, Option, None}
use Rattle.jz_tree.specs.Span.{Span}
use Rattle.jz_tree.specs.declared.expr.BinOp.{BinOp}
use Rattle.jz_tree.specs.declared.expr.Expr.{Expr}
use Rattle.jz_tree.specs.declared.expr.Var.{Var}
use Rattle.jz_tree.specs.declared.stmt.Lval.{Lval}
use Rattle.jz_tree.specs.declared.stmt.Lval.TheVariants as lval
use Rattle.jz_meaning.specs.States.{Key}
use Rattle.jz_meaning.specs.Statements as source
use Rattle.jz_meaning.specs.Statements.{assign}
use Rattle.jz_run_laws.specs.Kinds.{Kinds}
use Rattle.jz_facts.specs.Holding.{does}
use Rattle.jz_fact_laws.specs.Saying.{Yields}
use Rattle.jz_unstuck.specs.Conditions.{asks_operation}
use Rattle.jz_standing.specs.Typing.{IsWordAssigned, IsCellAssigned, IsStored, HasAnswer}
use Rattle.jz_standing.specs.ValueLaws.{Where}
use Rattle.jz_unstuck.specs.MetLaws.{IsOn}

-- one value to a variable, also under a condition, to a cell or to memory
abbrev pub IsOne :
    Kinds → (Key → Bool) → Lval → Option BinOp → Expr → Option Expr → Type 0
IsOne kinds in_frame (lval.Var x) op e c =
    IsWordAssigned kinds in_frame x op e × HasAnswer kinds in_frame c
IsOne kinds in_frame (lval.Cell x i) op e None = IsCellAssigned kinds in_frame x i op e
IsOne kinds in_frame (lval.Store a) op e None = IsStored kinds in_frame a op e
IsOne kinds in_frame d op e c = ⊥

abbrev pub AssignmentsGo : Type 0
AssignmentsGo = Where (λ g kinds in_frame There s st.
    (d : Lval) (o : Option BinOp) (e : Expr) (c : Option Expr) (at : Span)
    → IsOne kinds in_frame d o e c → asks_operation g (assign (d ∷ []) o e c at) s ≡ None
    → IsOn (source.does (assign (d ∷ []) o e c at) st))

abbrev pub AssignmentsStand : Type 0
AssignmentsStand = Where (λ g kinds in_frame There s st.
    (d : Lval) (o : Option BinOp) (e : Expr) (c : Option Expr) (at : Span)
    → IsOne kinds in_frame d o e c
    → Yields (There (does g (assign (d ∷ []) o e c at) s))
    (source.does (assign (d ∷ []) o e c at) st))
