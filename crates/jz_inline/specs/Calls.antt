-- A call that becomes a copy of the body that it calls. An array parameter is the array that is
-- passed; each other variable of the callee has the number of the copy. A parameter is set by an
-- assignment, and so is each left side from the variable that is returned.
use Rattle.std.specs.Prelude.{ℕ, zero, suc, ◌+◌, ◌&&◌, if◌then◌else◌, List, [], ◌∷◌, map, Option, Some, None}
use Rattle.std.specs.Str.{bytes_eq}
use Rattle.jz_tree.specs.Span.{Span}
use Rattle.jz_tree.specs.declared.expr.Expr.{Expr}
use Rattle.jz_tree.specs.declared.expr.Expr.TheVariants as expr
use Rattle.jz_tree.specs.declared.expr.Var.{Var}
use Rattle.jz_tree.specs.declared.stmt.Lval.{Lval}
use Rattle.jz_tree.specs.declared.stmt.Lval.TheVariants as lval
use Rattle.jz_tree.specs.declared.program.Param.{Param}
use Rattle.jz_meaning.specs.Values.{Ref, ref_of}
use Rattle.jz_meaning.specs.Assignments.{left_span}
use Rattle.jz_meaning.specs.Statements.{Operation, assign, unset, Condition, Counter, Call, array_of}
use Rattle.jz_change.specs.declared.change.Number.{Number}
use Rattle.jz_change.specs.declared.change.Number.TheVariants.{Nth}
use Rattle.jz_change.specs.declared.change.Numbers.{Numbers}
use Rattle.jz_change.specs.declared.change.Numbers.TheVariants.{These}
use Rattle.jz_pass.specs.Copying.{Copying}
use Rattle.jz_bodies.specs.Calls.{is_array}
use Rattle.jz_inline.specs.Widths.{width, left_width}
use Rattle.jz_inline.specs.Names.{Names, var_in, expr_in, lval_in, op_in, test_in, counter_in}

-- ---- names

abbrev pub name_or : List ℕ → Option Ref → List ℕ
name_or n None = n
name_or n (Some y) = y.name

-- the callee's names in the copy j: an array parameter is where the array that is passed is
abbrev pub callee_names : Names → ℕ → List Param → List Expr → Names
callee_names names j (p ∷ ps) (e ∷ es) n =
    if bytes_eq (ref_of p.var).name n && is_array (ref_of p.var).kind
    then names (name_or n (array_of e))
    else callee_names names j ps es n
callee_names names j _ _ n = (n, j)

-- ---- statements

abbrev pub set_one : Lval → Expr → Span → Operation
set_one d e at = assign (d ∷ []) None e None at

-- the place of a call's statement: that of its first left side, or of the name where nothing is set
abbrev pub call_place : List Lval → Span → Span
call_place [] at = at
call_place (d ∷ ds) at = left_span d

-- a copy for each argument that is no array
abbrev pub argument_ops : Names → Names → Span → List Param → List Expr → List Operation
argument_ops outer inner at (p ∷ ps) (e ∷ es) =
    if is_array (ref_of p.var).kind
    then argument_ops outer inner at ps es
    else (set_one (lval.Var (var_in inner p.var)) (expr_in outer e) at
    ∷ argument_ops outer inner at ps es)
argument_ops outer inner at _ _ = []

-- and for each result that is no array and is not dropped
abbrev pub result_op : Names → Names → Span → Lval → Var → List Operation → List Operation
result_op outer inner at (lval.Skip s) x rest = rest
result_op outer inner at d x rest =
    if is_array (ref_of x).kind then rest
    else (set_one (lval_in outer d) (expr.Var (var_in inner x)) at ∷ rest)

abbrev pub result_ops : Names → Names → Span → List Lval → List Var → List Operation
result_ops outer inner at (d ∷ ds) (x ∷ xs) =
    result_op outer inner at d x (result_ops outer inner at ds xs)
result_ops outer inner at _ _ = []

-- ---- numbers

-- so many numbers, from this one on
abbrev pub from : ℕ → ℕ → List Number
from i zero = []
from i (suc n) = Nth i ∷ from (suc i) n

-- what the copy of each argument leaks, of the numbers of the call from the one at i on
abbrev pub argument_items : ℕ → List Param → List Expr → List Numbers
argument_items i (p ∷ ps) (e ∷ es) =
    if is_array (ref_of p.var).kind then argument_items i ps es
    else (These (from i (width e)) ∷ argument_items (i + width e) ps es)
argument_items i _ _ = []

abbrev pub result_item : ℕ → Lval → Var → (ℕ → List Numbers) → List Numbers
result_item i (lval.Skip s) x rest = rest i
result_item i d x rest =
    if is_array (ref_of x).kind then rest i
    else (These (from i (left_width d)) ∷ rest (i + left_width d))

abbrev pub result_items : ℕ → List Lval → List Var → List Numbers
result_items i (d ∷ ds) (x ∷ xs) =
    result_item i d x (λ j. result_items j ds xs)
result_items i _ _ = []

-- ---- copies

-- the copy with these names
abbrev pub names_of_callee : Names → ℕ → Call → Names
names_of_callee names j q = callee_names names j q.callee.params q.args

abbrev pub inline_calls : Copying Operation Condition Counter Call Names
inline_calls =
    record {
      op_in = op_in;
      test_in = test_in;
      counter_in = counter_in;
      callee = names_of_callee;
      arguments = λ names j q.
          argument_ops names (names_of_callee names j q) (call_place q.to q.at) q.callee.params
          q.args;
      mark = λ names j q. unset (map (var_in (names_of_callee names j q)) q.callee.vars);
      results = λ names j q.
          result_ops names (names_of_callee names j q) (call_place q.to q.at) q.to
          q.callee.result;
      argument_items = λ names q. argument_items 0 q.callee.params q.args;
      result_items = λ names q. result_items 0 q.to q.callee.result;
    }
