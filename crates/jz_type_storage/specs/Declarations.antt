-- What may be declared.
use Rattle.std.specs.Prelude.{Bool, true, false, List, [], ◌++◌, flat_map, Some, None}
use Rattle.jz_tree.specs.Span.{Span}
use Rattle.jz_tree.specs.declared.expr.Storage.{Storage}
use Rattle.jz_tree.specs.declared.expr.Storage.TheVariants as storage
use Rattle.jz_tree.specs.declared.expr.Var.{Var}
use Rattle.jz_tree.specs.declared.expr.Expr.TheViews.{out-Var}
use Rattle.jz_tree.specs.declared.program.Program.{Program}
use Rattle.jz_tree.specs.declared.program.Fun.{Fun}
use Rattle.jz_tree.specs.declared.program.Param.{Param}
use Rattle.jz_tree.specs.declared.program.Ret.{Ret}
use Rattle.jz_type_names.specs.declared.kinds.Kind.{Kind}
use Rattle.jz_type_names.specs.declared.kinds.Kind.TheVariants as kind
use Rattle.jz_type_names.specs.declared.kinds.Declared.{Declared}
use Rattle.jz_type_names.specs.Order.{unless}
use Rattle.jz_type_names.specs.Kinds.{Known, declared_of, known_of}

-- `int` and `inline` go together, and a bool is in a register
abbrev pub may_keep : Storage → Kind → Bool
may_keep storage.Inline kind.Int = true
may_keep storage.Inline _ = false
may_keep _ kind.Int = false
may_keep storage.Stack kind.Truth = false
may_keep _ _ = true

-- a parameter is no bool
abbrev pub may_pass : Storage → Kind → Bool
may_pass _ kind.Truth = false
may_pass s k = may_keep s k

-- a result is no bool, and is not inline
abbrev pub may_return : Storage → Kind → Bool
may_return storage.Inline _ = false
may_return s k = may_pass s k

abbrev pub is_kept : Declared → Bool
is_kept d = may_keep d.storage d.kind

abbrev pub is_passed : Declared → Bool
is_passed d = may_pass d.storage d.kind

abbrev pub is_returned : Declared → Bool
is_returned d = may_return d.storage d.kind

-- the place of a variable, unless its declaration is fine; a variable without a declaration has no
-- place here
abbrev pub unkept_by : (Declared → Bool) → Known → Span → List Span
unkept_by fine None at = []
unkept_by fine (Some d) at = unless (fine d) at

abbrev pub unkept : (Declared → Bool) → Var → List Span
unkept fine v = unkept_by fine (known_of v) (out-Var v).span

abbrev pub unkept_param : Param → List Span
unkept_param p = unkept is_passed p.var

-- of a result at the function's name
abbrev pub unkept_ret : Span → Ret → List Span
unkept_ret at r = unless (is_returned (declared_of r.decl)) at

-- at the name that is declared; of a result at the function's name
unfoldable pub unkept_in : Fun → List Span
unkept_in f =
    flat_map unkept_param f.params
    ++ (flat_map (unkept is_kept) f.vars ++ flat_map (unkept_ret f.span) f.rets)

abbrev pub wrongly_kept : Program → List Span
wrongly_kept p = flat_map unkept_in p.funs
