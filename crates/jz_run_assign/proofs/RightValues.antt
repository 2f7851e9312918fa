-- The values of right sides, part by part.
use Rattle.std.proofs.Common.{◌≡◌, ℕ, List, Option, ap, sym, ◌∙◌}
use Rattle.jz_tree.specs.Span.{Span}
use Rattle.jz_words.specs.declared.size.Size.{Size}
use Rattle.jz_tree.specs.declared.expr.BinOp.{BinOp}
use Rattle.jz_tree.specs.declared.expr.Expr.{Expr}
use Rattle.jz_tree.specs.declared.expr.Expr.TheVariants as expr
use Rattle.jz_meaning.specs.Rules.{went}
use Rattle.jz_meaning.specs.Attempts.{Evaluation, numbers_first}
use Rattle.jz_meaning.specs.States.{Value, State}
use Rattle.jz_meaning.specs.Values.{left_wanted, with_right, run_binary, own_size, evaluated}
use Rattle.jz_meaning.proofs.AttemptLemmas.{gone_then}
use Rattle.jz_meaning.proofs.LeftSideLemmas.{evaluated_bin}

-- an operation, behind its left operand
pub operation_goes :
    (s : State) (ns ms : List ℕ) (op : BinOp) (a b : Expr) (at : Span) (w z : Option Size) (v : Value) (r : Evaluation Value) →
    z ≡ left_wanted op w (own_size a) (own_size b) → went ms v ≡ numbers_first ns (evaluated a z s) →
    r ≡ numbers_first ms (with_right op (evaluated b) at z s v) → r ≡ numbers_first ns (evaluated (expr.Bin op a b at) w s)
operation_goes s ns ms op a b at w z v r is h k =
    gone_then ns ms (evaluated a z s) (with_right op (evaluated b) at z s) v r h k
    ∙ ap (λ y. numbers_first ns (run_binary op (evaluated a) (evaluated b) at y s)) is
    ∙ ap (numbers_first ns) (sym (evaluated_bin op a b at w s))
