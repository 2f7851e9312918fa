-- What an operation makes of the value of an inline variable.
use Rattle.std.specs.Prelude.{Bool, ◌&&◌, if◌then◌else◌, Option}
use Rattle.jz_tree.specs.Operators.{carries}
use Rattle.jz_tree.specs.declared.expr.BinOp.{BinOp}
use Rattle.jz_tree.specs.declared.expr.Expr.{Expr}
use Rattle.jz_tree.specs.declared.expr.Expr.TheOpen.{Expr-F}
use Rattle.jz_tree.specs.declared.expr.Expr.TheViews.{out-Expr}
use Rattle.jz_integers.specs.Integers.{KnownNumbers, inline_value, joined}
use Rattle.jz_integers.specs.declared.constant.Constant.{Constant}
use Rattle.jz_meaning.specs.Assignments.{Layer, is_flag}

module _ (e : KnownNumbers) where
  abbrev pub updated_by : BinOp → Option Constant → Expr → Layer → Option Constant
  updated_by op v x (Expr-F.Bin p a c at) =
      if carries op p && is_flag c then joined p (joined op v (inline_value e a)) (inline_value e c)
      else joined op v (inline_value e x)
  updated_by op v x _ = joined op v (inline_value e x)

  abbrev pub updated_value : BinOp → Option Constant → Expr → Option Constant
  updated_value op v x = updated_by op v x (out-Expr x)
