use Rattle.std.proofs.Common.{◌≡◌, ◌++◌, drop, flat_map}
use Rattle.std.specs.Prelude.{option_to_list}
use Rattle.jz_tree.specs.declared.expr.Expr.TheViews.{out-Var}
use Rattle.jz_type_names.specs.Lent.{these}
use Rattle.jz_type_names.proofs.declarations.add_params.Given as goal

abbrev pub invariant-loop-param : goal.invariant-loop-param
invariant-loop-param l = these l.list.items ++ flat_map (λ p. option_to_list (out-Var p.var).decl) (drop l.param-index l.param-items) ≡ these l.initial.list.items ++ flat_map (λ p. option_to_list (out-Var p.var).decl) l.params
