-- The variables of a copied body: each has the name and the number of its copy, and stays as it is
-- otherwise.
use Rattle.std.specs.Prelude.{ℕ, List, map, option_map}
use Rattle.jz_tree.specs.declared.expr.Expr.{Expr}
use Rattle.jz_tree.specs.declared.expr.Ty.{Ty}
use Rattle.jz_tree.specs.declared.expr.Access.{Access}
use Rattle.jz_tree.specs.declared.expr.Decl.{Decl}
use Rattle.jz_tree.specs.declared.expr.Var.{Var}
use Rattle.jz_tree.specs.declared.expr.Expr.TheOpen.{Expr-F, Access-F}
use Rattle.jz_tree.specs.declared.expr.Expr.TheViews.{out-Var, roll-Expr, roll-Access, roll-Var}
use Rattle.jz_tree.specs.declared.expr.Expr.TheFolds.{para-Expr, para-Access}
use Rattle.jz_tree.specs.declared.stmt.Lval.{Lval}
use Rattle.jz_tree.specs.declared.stmt.Lval.TheVariants as lval
use Rattle.jz_meaning.specs.Statements.{Operation, assign, instruction, unset, meaningless, Condition, Counter}

-- what a variable of a function is in a copy: its name there, and the number of that copy
abbrev pub Names : Type 0
Names = List ℕ → List ℕ × ℕ

-- the parts of an expression, each with what it becomes; types and declarations are left alone
abbrev pub Pairs : Type 0
Pairs = Expr-F (Expr × Expr) (Ty × Unit {0}) (Access × Access) (Decl × Unit {0}) (Var × Unit {0})

abbrev pub AccessPairs : Type 0
AccessPairs =
    Access-F (Expr × Expr) (Ty × Unit {0}) (Access × Access) (Decl × Unit {0}) (Var × Unit {0})

abbrev pub access_step : AccessPairs → Access
access_step a =
    roll-Access (record { size = a.size; at = a.at.1; unaligned = a.unaligned; span = a.span })

module _ (names : Names) where
  -- the declaration and the place in the text stay
  abbrev pub var_in : Var → Var
  var_in v =
      roll-Var (record (out-Var v) {
        name = (names (out-Var v).name).0;
        copy = (names (out-Var v).name).1;
      })

  abbrev pub expr_step : Pairs → Expr
  expr_step (Expr-F.Num n at) = roll-Expr (Expr-F.Num n at)
  expr_step (Expr-F.Expr::Bool b at) = roll-Expr (Expr-F.Expr::Bool b at)
  expr_step (Expr-F.Var v) = roll-Expr (Expr-F.Var (var_in v.0))
  expr_step (Expr-F.Cell v i) = roll-Expr (Expr-F.Cell (var_in v.0) i.1)
  expr_step (Expr-F.Load a) = roll-Expr (Expr-F.Load a.1)
  expr_step (Expr-F.Neg a at) = roll-Expr (Expr-F.Neg a.1 at)
  expr_step (Expr-F.Not a at) = roll-Expr (Expr-F.Not a.1 at)
  expr_step (Expr-F.Cast z s a at) = roll-Expr (Expr-F.Cast z s a.1 at)
  expr_step (Expr-F.Bin o a b at) = roll-Expr (Expr-F.Bin o a.1 b.1 at)

  abbrev pub expr_in : Expr → Expr
  expr_in =
      para-Expr Expr (Unit {0}) Access (Unit {0}) (Unit {0}) expr_step (λ t. tt) access_step
      (λ d. tt) (λ v. tt)

  abbrev pub access_in : Access → Access
  access_in =
      para-Access Expr (Unit {0}) Access (Unit {0}) (Unit {0}) expr_step (λ t. tt) access_step
      (λ d. tt) (λ v. tt)

  abbrev pub lval_in : Lval → Lval
  lval_in (lval.Skip at) = lval.Skip at
  lval_in (lval.Var v) = lval.Var (var_in v)
  lval_in (lval.Cell v i) = lval.Cell (var_in v) (expr_in i)
  lval_in (lval.Store a) = lval.Store (access_in a)

  abbrev pub op_in : Operation → Operation
  op_in (assign to o e c at) =
      assign (map lval_in to) o (expr_in e) (option_map expr_in c) at
  op_in (instruction to n args at) = instruction (map lval_in to) n (map expr_in args) at
  op_in (unset vs) = unset (map var_in vs)
  op_in (meaningless at) = meaningless at

  abbrev pub test_in : Condition → Condition
  test_in c = record { cond = expr_in c.cond; at = c.at }

  abbrev pub counter_in : Counter → Counter
  counter_in f =
      record {
        counter = var_in f.counter;
        from = expr_in f.from;
        down = f.down;
        to = expr_in f.to;
        at = f.at;
      }
