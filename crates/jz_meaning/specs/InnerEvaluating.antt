-- An expression by its left side, which may be as long as a text: the operations that wait for
-- their left operand, and the operand where it ends.
use Rattle.std.specs.Prelude.{List, [], ◌∷◌, Option, ◌≡◌}
use Rattle.std.specs.Option.{option_or}
use Rattle.x64_insn.specs.Size.{Size}
use Rattle.jz_tree.specs.declared.expr.Expr.{Expr}
use Rattle.jz_tree.specs.declared.expr.Expr.TheVariants.{Bin}
use Rattle.jz_meaning.specs.declared.left.Waiting.{Waiting}
use Rattle.jz_meaning.specs.Attempts.{Evaluation, and_then}
use Rattle.jz_meaning.specs.States.{Value, State}
use Rattle.jz_meaning.specs.Values.{own_size, evaluated, with_right, right_wanted}

-- nothing is wanted only where the expression has no size by itself; else what is wanted is settled
abbrev pub IsDetermined : Option Size → Expr → Type 0
IsDetermined wanted e = option_or wanted (own_size e) ≡ wanted

-- the operation, whose left operand has this value
abbrev pub go_on : Waiting → State → Value → Evaluation Value
go_on w s x = with_right w.op (evaluated w.right.now) w.span w.wanted s x

-- what the operations make of their first operand, the outermost of them at the head
abbrev pub gone_on : List Waiting → State → Evaluation Value → Evaluation Value
gone_on [] s g = g
gone_on (w ∷ ws) s g = and_then (gone_on ws s g) (go_on w s)

-- the expression that the operations make of what stands first
abbrev pub on_left : List Waiting → Expr → Expr
on_left [] e = e
on_left (w ∷ ws) e = Bin w.op (on_left ws e) w.right.now w.span

-- what is wanted of each right operand is settled
abbrev pub AllDetermined : List Waiting → Type 0
AllDetermined [] = Unit {0}
AllDetermined (w ∷ ws) = IsDetermined (right_wanted w.op w.wanted) w.right.now × AllDetermined ws

-- the left side of an expression of which a size is wanted
pub record IsLeftSide (wanted : Option Size) (e : Expr) (ws : List Waiting) (first : Expr) (inner : Option Size) : Type 0 where
  pub whole : on_left ws first ≡ e
  pub value : (s : State) → gone_on ws s (evaluated first inner s) ≡ evaluated e wanted s
  pub settled : IsDetermined inner first
  pub rights : AllDetermined ws
