-- `r = o if c` where c is a bool variable has operations.
use Rattle.std.proofs.Common.{[], ◌∷◌, Some, None, sym, subst}
use Rattle.jz_io.specs.declared.span.Span.{Span}
use Rattle.jz_tree.specs.declared.expr.Expr.{Expr}
use Rattle.jz_tree.specs.declared.stmt.Lval.{Lval}
use Rattle.jz_meaning.specs.Statements.{assign}
use Rattle.jz_operations.specs.declared.operation.Action.TheVariants as action
use Rattle.jz_operations.specs.declared.operation.Condition.TheVariants as condition
use Rattle.jz_homes.specs.Homes.{Homes}
use Rattle.jz_flag_rows.specs.Rows.{choices}
use Rattle.jz_every_row.specs.Statements.{by_flags}
use Rattle.jz_total_rows.proofs.Bringing.{encode}
use Rattle.jz_total_rows.proofs.Fits.{cmov_spelled}
use Rattle.jz_total_rows.proofs.Whole.{IsChosen}
use Rattle.jz_total_flags.specs.Ready.{HasOperations}
use Rattle.jz_total_flags.proofs.Tests.{IsFlagOf}

pub flag_choice : (home : Homes) (d : Lval) (e k : Expr) (at : Span) → IsChosen home d e → IsFlagOf home k → HasOperations home (assign (d ∷ []) None e (Some k) at)
flag_choice home d e k at C f =
    let held = condition.Flag f.0 f.1 in
    subst (λ l. HasOperations home (assign (l ∷ []) None e (Some k) at)) (sym C.register.left_is) (
      _,
      _,
      by_flags (choices C.size C.wide C.register.kind_is C.register.there C.is C.no_number f.2
          (encode (action.Cmov held C.size C.register.number C.arg') (λ a b. cmov_spelled a held C.size C.register.number C.arg' C.wide C.in_place (C.fits a b)))),
    )
