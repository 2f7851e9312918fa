-- A program whose variables have their declarations where they are used, whose arrays have numbers
-- as lengths, and in whose expressions each constant stands as its number; one that has none as a
-- division by zero.
use Rattle.std.specs.Prelude.{ℤ, pos, List, [], map, Option, Some, None, option_map}
use Rattle.jz_tree.specs.Span.{Span}
use Rattle.jz_tree.specs.declared.expr.Expr.{Expr}
use Rattle.jz_tree.specs.declared.expr.Expr.TheVariants as expr
use Rattle.jz_tree.specs.declared.expr.Ty.{Ty}
use Rattle.jz_tree.specs.declared.expr.Access.{Access}
use Rattle.jz_tree.specs.declared.expr.Decl.{Decl}
use Rattle.jz_tree.specs.declared.expr.Var.{Var}
use Rattle.jz_tree.specs.declared.expr.Expr.TheOpen.{Ty-F}
use Rattle.jz_tree.specs.declared.expr.Expr.TheViews.{out-Ty, out-Var, roll-Ty, roll-Decl, roll-Var}
use Rattle.jz_tree.specs.declared.program.Program.{Program}
use Rattle.jz_tree.specs.declared.program.Const.{Const}
use Rattle.jz_tree.specs.declared.program.Fun.{Fun}
use Rattle.jz_tree.specs.declared.program.Param.{Param}
use Rattle.jz_tree.specs.declared.program.Ret.{Ret}
use Rattle.jz_type_names.specs.Scopes.{Name, PlacesByName, variables_of, constant_place, function_name}
use Rattle.jz_type_names.specs.Parts.{span_of, statements_of}
use Rattle.jz_resolve.specs.Resolving.{expr_with, var_with, stmt_with}
use Rattle.jz_resolve.specs.Numbering.{Values, value_with, values_of, known_among}

-- ---- lengths
-- a length is its value; one that has none is 0, which no array has as its length
abbrev pub counted_length : Option ℤ → Expr → Expr
counted_length None e = expr.Num (pos 0) (span_of e)
counted_length (Some n) e = expr.Num n (span_of e)

-- the same with these values of constants
abbrev pub counted_by : Values → Expr → Expr
counted_by values e = counted_length (value_with values e) e

module _ (values : Values) where
  abbrev pub counted_layer : Ty-F Expr Ty Access Decl Var → Ty
  counted_layer (Ty-F.Array z e) = roll-Ty (Ty-F.Array z (counted_by values e))
  counted_layer t = roll-Ty t

  abbrev pub counted_ty : Ty → Ty
  counted_ty t = counted_layer (out-Ty t)

  abbrev pub counted_decl : Decl → Decl
  counted_decl d = roll-Decl (record { storage = d.storage; ty = counted_ty d.ty })

  abbrev pub counted_var : Var → Var
  counted_var v = roll-Var (record (out-Var v) { decl = option_map counted_decl (out-Var v).decl })

  abbrev pub counted_param : Param → Param
  counted_param p = record p { var = counted_var p.var }

  abbrev pub counted_ret : Ret → Ret
  counted_ret r = record r { decl = counted_decl r.decl }

  -- its declarations with numbers as lengths
  abbrev pub counted_fun : Fun → Fun
  counted_fun f = record f {
    params = map counted_param f.params;
    rets = map counted_ret f.rets;
    vars = map counted_var f.vars;
  }

-- ---- with the places and values of the constants
module _ (places : PlacesByName) (values : Values) where
  -- each variable that stands in its statements or is returned has the declaration of its name,
  -- each constant is its number
  abbrev pub resolved_fun : Fun → Fun
  resolved_fun f = record f {
    body = map (stmt_with (known_among places values (variables_of f))) f.body;
    result = map (var_with (known_among places values (variables_of f))) f.result;
  }

  -- with numbers as lengths besides
  abbrev pub resolved_whole : Fun → Fun
  resolved_whole f = resolved_fun (counted_fun values f)

  abbrev pub resolved_const : Const → Const
  resolved_const c = record c { value = expr_with (known_among places values []) c.value }

  abbrev pub resolved_by : Program → Program
  resolved_by p = record p {
    consts = map resolved_const p.consts;
    funs = map resolved_whole p.funs;
  }

abbrev pub resolved_program : Program → Program
resolved_program p = resolved_by (constant_place p.consts) (values_of p.consts) p

-- ---- what stays
abbrev pub function_names : Program → List Name
function_names p = map function_name p.funs

-- the places of the statements of a function, and of all functions
abbrev pub statement_places : Fun → List Span
statement_places f = map (λ s. s.span) (statements_of f.body)

abbrev pub all_statement_places : Program → List (List Span)
all_statement_places p = map statement_places p.funs
