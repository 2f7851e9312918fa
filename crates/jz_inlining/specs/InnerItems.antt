-- What one copy leaks of the numbers of its call, and the place of the number behind them.
use Rattle.std.specs.Prelude.{ℕ, ◌+◌, if◌then◌else◌, List, [], ◌∷◌}
use Rattle.jz_tree.specs.declared.expr.Expr.{Expr}
use Rattle.jz_tree.specs.declared.expr.Var.{Var}
use Rattle.jz_tree.specs.declared.stmt.Lval.{Lval}
use Rattle.jz_tree.specs.declared.program.Param.{Param}
use Rattle.jz_meaning.specs.Values.{ref_of}
use Rattle.jz_change.specs.declared.change.Numbers.{Numbers}
use Rattle.jz_change.specs.declared.change.Numbers.TheVariants.{These}
use Rattle.jz_inline.specs.BodiesCalls.{is_array}
use Rattle.jz_inline.specs.Widths.{width, left_width}
use Rattle.jz_inline.specs.Calls.{from}
use Rattle.jz_inlining.specs.InnerCopies.{is_copied}

abbrev pub argument_item : ℕ → Param → Expr → List Numbers
argument_item i p e =
    if is_array (ref_of p.var).kind then [] else (These (from i (width e)) ∷ [])

abbrev pub behind_argument : ℕ → Param → Expr → ℕ
behind_argument i p e = if is_array (ref_of p.var).kind then i else i + width e

abbrev pub result_item : ℕ → Lval → Var → List Numbers
result_item i d x = if is_copied d x then These (from i (left_width d)) ∷ [] else []

abbrev pub behind_result : ℕ → Lval → Var → ℕ
behind_result i d x = if is_copied d x then i + left_width d else i
