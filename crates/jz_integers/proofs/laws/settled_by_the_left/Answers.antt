use Rattle.std.proofs.Common.{◌∙◌, ap}
use Rattle.jz_tree.specs.declared.expr.BinOp.TheVariants as operation
use Rattle.jz_integers.specs.Integers.{inline_value, joined}
use Rattle.jz_integers.proofs.LeftSideLemmas.{value_bin}
use Rattle.jz_integers.proofs.laws.settled_by_the_left.Goals as goal

pub returns-clause-false_and : goal.returns-clause-false_and
returns-clause-false_and c = λ numbers l r at e. value_bin numbers operation.AndThen l r at ∙ ap (λ x. joined operation.AndThen x (inline_value numbers r)) e

pub returns-clause-true_or : goal.returns-clause-true_or
returns-clause-true_or c = λ numbers l r at e. value_bin numbers operation.OrElse l r at ∙ ap (λ x. joined operation.OrElse x (inline_value numbers r)) e
