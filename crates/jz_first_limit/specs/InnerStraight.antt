-- Statements without others in them, as the code takes them.
use Rattle.std.specs.Prelude.{◌≡◌, ℕ, Bool, true, false, List, ◌∷◌, Option, Some, None}
use Rattle.jz_tree.specs.Span.{Span}
use Rattle.jz_tree.specs.declared.expr.BinOp.{BinOp}
use Rattle.jz_tree.specs.declared.expr.Expr.{Expr}
use Rattle.jz_tree.specs.declared.stmt.Lval.{Lval}
use Rattle.jz_meaning.specs.Statements.{Operation, instruction, meaningless}
use Rattle.jz_limits.specs.declared.limit.Limit.{Limit}
use Rattle.jz_limits.specs.Limits.{one}
use Rattle.jz_limits.specs.InnerLooked.{first}
use Rattle.jz_limits.specs.Walks.{limits}
use Rattle.jz_first_limit.specs.declared.met.Met.{Met}
use Rattle.jz_first_limit.specs.InnerMet.{MeetsSteps}

-- one statement that has limits with this first one
abbrev pub MeetsOne : ℕ → Option Limit → Met → Type 0
MeetsOne n found r = (ls : List Limit) → found ≡ first ls → MeetsSteps n (one ∷ limits ls) r

abbrev pub is_true : Option Bool → Bool
is_true (Some true) = true
is_true _ = false

-- an instruction has neither an operation nor a condition
abbrev pub instructed_of :
    List Lval → Option BinOp → List ℕ → List Expr → Option Expr → Span → Operation
instructed_of to None n args None at = instruction to n args at
instructed_of to o n args c at = meaningless at
