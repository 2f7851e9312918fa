-- Bodies whose parts are as the expansion leaves them: inline parts are values, each variable is
-- where its declaration says, no `if` has a constant test, and no `for` and no call is left.
use Rattle.std.specs.Prelude.{◌≡◌, ◌⊎◌, Bool, All, [], ◌∷◌, None, ⊤}
use Rattle.jz_tree.specs.Span.{Span}
use Rattle.jz_tree.specs.declared.expr.Expr.{Expr}
use Rattle.jz_tree.specs.declared.expr.Expr.TheVariants as expr
use Rattle.jz_runs.specs.Trees.{done, op, quiet, choose, loop, each, call}
use Rattle.jz_meaning.specs.Statements.{Operation, assign, instruction, unset, meaningless, Block}
use Rattle.jz_homes.specs.Homes.{Homes}
use Rattle.jz_total_rows.specs.Expanded.{IsExpanded, IsExpandedLeft}
use Rattle.jz_total_rows.specs.Laws.{IfExpanded, IsTrueTest}

-- each assignment to one left side or to two, and each intrinsic
abbrev pub IsExpandedOperation : Homes → Operation → Type 0
IsExpandedOperation home (assign (d ∷ []) o e c at) =
    IsExpandedLeft home d × IsExpanded home e × IfExpanded home c
IsExpandedOperation home (assign (f ∷ d ∷ []) o e None at) =
    IsExpandedLeft home f × IsExpandedLeft home d × IsExpanded home e
IsExpandedOperation home (instruction to n args at) =
    All (IsExpandedLeft home) to × All (IsExpanded home) args
IsExpandedOperation home (unset vs) = ⊥
IsExpandedOperation home (meaningless at) = ⊥
IsExpandedOperation home _ = ⊤

abbrev pub IsNoTruth : Expr → Type 0
IsNoTruth c = (b : Bool) (at : Span) → c ≡ expr.Bool b at → ⊥

abbrev pub IsExpandedTest : Homes → Expr → Type 0
IsExpandedTest home c = IsExpanded home c × IsNoTruth c

-- that of a `while` may be `true`
abbrev pub IsExpandedLoopTest : Homes → Expr → Type 0
IsExpandedLoopTest home c = IsExpandedTest home c ⊎ IsTrueTest c

abbrev pub IsExpandedBody : Homes → Block → Type 0
IsExpandedBody home done = ⊤
IsExpandedBody home (op o r) = IsExpandedOperation home o × IsExpandedBody home r
IsExpandedBody home (quiet o r) = IsExpandedBody home r
IsExpandedBody home (choose c a b r) =
    IsExpandedTest home c.cond
    × IsExpandedBody home a × IsExpandedBody home b × IsExpandedBody home r
IsExpandedBody home (loop h q c b r) =
    IsExpandedLoopTest home c.cond
    × IsExpandedBody home q × IsExpandedBody home b × IsExpandedBody home r
IsExpandedBody home (each i b r) = ⊥
IsExpandedBody home (call c b r) = ⊥
