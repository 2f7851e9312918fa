-- Operations with two results, as the code has them.
use Rattle.std.specs.Prelude.{ℕ, false, Result, Ok, Err}
use Rattle.jz_tree.specs.Span.{Span}
use Rattle.jz_words.specs.declared.size.Size.{Size}
use Rattle.jz_tree.specs.declared.expr.BinOp.{BinOp}
use Rattle.jz_tree.specs.declared.expr.Expr.{Expr}
use Rattle.jz_meaning.specs.Rules.{stuck}
use Rattle.jz_meaning.specs.declared.value.Stuck.{Stuck}
use Rattle.jz_meaning.specs.Attempts.{Evaluation, and_then}
use Rattle.jz_meaning.specs.States.{State}
use Rattle.jz_meaning.specs.Assignments.{Results, word_in, bool_in, two_results}
use Rattle.jz_run_assign.specs.declared.pairs.Pair.{Pair}
use Rattle.jz_run_assign.specs.declared.pairs.Pair.TheVariants as pair
use Rattle.jz_run_assign.specs.InnerRights.{operand_of}

-- the first operand is this word
abbrev pub two_from : BinOp → Span → Size → ℕ → Expr → State → Evaluation Results
two_from op at s x b st = and_then (word_in at s b st) (λ y. two_results op at s x y false)

abbrev pub three_from : BinOp → Span → Size → ℕ → Expr → Expr → State → Evaluation Results
three_from op at s x b c st = and_then (word_in at s b st) (λ y. and_then (bool_in at c st) (two_results op at s x y))

abbrev pub results_of_pair : Pair → Size → State → Evaluation Results
results_of_pair (pair.Two op a b at) s st = and_then (word_in at s (operand_of a) st) (λ x. two_from op at s x b.now st)
results_of_pair (pair.Three op a b c at) s st = and_then (word_in at s (operand_of a) st) (λ x. three_from op at s x b.now c.now st)

abbrev pub results_or : Size → State → Result Pair Stuck → Evaluation Results
results_or s st (Ok p) = results_of_pair p s st
results_or s st (Err k) = stuck k
