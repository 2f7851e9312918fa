-- An assignment of one value that is typed and expanded, has the classes of a row and passes no limit
-- is of a form of which a run is stuck only where a condition is not met.
use Rattle.std.specs.Prelude.{◌≡◌, Bool, [], ◌∷◌, Option, Some, None, ⊤}
use Rattle.jz_tree.specs.Span.{Span}
use Rattle.jz_tree.specs.declared.expr.BinOp.{BinOp}
use Rattle.jz_tree.specs.declared.expr.Expr.{Expr}
use Rattle.jz_tree.specs.declared.stmt.Lval.{Lval}
use Rattle.jz_judgement.specs.Lefts.{Values}
use Rattle.jz_judgement.specs.WellTyped as well
use Rattle.jz_meaning.specs.States.{Key}
use Rattle.jz_meaning.specs.Statements.{assign}
use Rattle.jz_run_laws.specs.Kinds.{Kinds}
use Rattle.jz_limits.specs.Values.{no_numbers}
use Rattle.jz_limits.specs.Asked.{asked}
use Rattle.jz_assigned.specs.AssignedLaws.{IsOne}
use Rattle.jz_row_classes.specs.RowClasses.{AreClassed}
use Rattle.jz_plain_operands.specs.Plain.{IsPlainExpr, IsPlainLeft}

module _ (kinds : Kinds) (in_frame : Key → Bool) where
  abbrev pub IfPlain : Option Expr → Type 0
  IfPlain None = ⊤
  IfPlain (Some e) = IsPlainExpr kinds in_frame e

  pub record IsPrepared (d : Lval) (o : Option BinOp) (e : Expr) (c : Option Expr) (at : Span) :
      Type 0 where
    pub left : IsPlainLeft kinds in_frame d
    pub right : IsPlainExpr kinds in_frame e
    pub condition : IfPlain c
    pub typed : Values (d ∷ []) o e
    pub typed_condition : well.Condition c
    pub classes : AreClassed (d ∷ []) o e c
    pub within : asked no_numbers (assign (d ∷ []) o e c at) ≡ []

abbrev pub AssignmentsAreFine : Type 0
AssignmentsAreFine =
    (kinds : Kinds) (in_frame : Key → Bool) (d : Lval) (o : Option BinOp) (e : Expr)
    (c : Option Expr) (at : Span)
    → IsPrepared kinds in_frame d o e c at → IsOne kinds in_frame d o e c
