use Rattle.std.proofs.Common.{◌≡◌, ◌++◌, drop, flat_map}
use Rattle.std.specs.Prelude.{option_to_list}
use Rattle.jz_tree.specs.declared.expr.Expr.TheViews.{out-Var}
use Rattle.jz_type_names.specs.Lent.{these}
use Rattle.jz_type_names.proofs.declarations.add_vars.Given as goal

abbrev pub invariant-loop-var : goal.invariant-loop-var
invariant-loop-var l = these l.list.items ++ flat_map (λ v. option_to_list (out-Var v).decl) (drop l.var-index l.var-items) ≡ these l.initial.list.items ++ flat_map (λ v. option_to_list (out-Var v).decl) l.vars
