use Rattle.std.proofs.Common.{◌≡◌, ◌≤◌}
use Rattle.std.specs.Option.{option_or}
use Rattle.jz_tree.specs.declared.expr.Expr.{size-Expr}
use Rattle.jz_type_sizes.specs.InnerFound.{found_of}
use Rattle.jz_type_sizes.proofs.forms.+size.Given as goal

abbrev pub invariant-loop-cur : goal.invariant-loop-cur
invariant-loop-cur l = (option_or (found_of l.cur).form.size l.rest ≡ (found_of l.e).form.size) × (size-Expr l.cur ≤ size-Expr l.e)
