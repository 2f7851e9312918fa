-- What passes the limits passes them too where values stand in place of its inline parts, and words
-- in place of the cells of register arrays. k: the numbers that stand there; e: those with which the
-- limits are asked.
use Rattle.std.specs.Prelude.{◌≡◌, true, []}
use Rattle.jz_tree.specs.declared.expr.Expr.{Expr}
use Rattle.jz_integers.specs.Integers.{KnownNumbers}
use Rattle.jz_meaning.specs.Statements.{Operation}
use Rattle.jz_unroll.specs.Values.{with_values, operation_with_values, InlineNames, has_values, operation_has_values}
use Rattle.jz_unroll.specs.Unrolling.{KnowsLess}
use Rattle.jz_unroll.specs.ValueLaws.{KnowsInline}
use Rattle.jz_arrays.specs.Cells.{with_scalars}
use Rattle.jz_kept_types.specs.Operations.{operation_with_scalars}
use Rattle.jz_limits.specs.declared.looked.Asking.{Asking}
use Rattle.jz_limits.specs.Values.{no_numbers}
use Rattle.jz_limits.specs.Asked.{asked, asked_condition}
use Rattle.jz_limits.specs.InnerLooked.{look_of}
use Rattle.jz_kept_limits.specs.Passing.{Passes}

-- at each place, for operations of each size
abbrev pub ExpressionsStayWithin : Type 0
ExpressionsStayWithin =
    (names : InlineNames) (k e : KnownNumbers) (x : Expr) (q : Asking)
    → KnowsLess k e → KnowsInline names e → has_values names k x ≡ true
    → Passes (look_of e q x) (look_of no_numbers q (with_scalars (with_values k x)))

abbrev pub OperationsStayWithin : Type 0
OperationsStayWithin =
    (names : InlineNames) (k e : KnownNumbers) (o : Operation)
    → KnowsLess k e → KnowsInline names e → operation_has_values names k o ≡ true
    → asked e o ≡ []
    → asked no_numbers (operation_with_scalars (operation_with_values k o)) ≡ []

abbrev pub ConditionsStayWithin : Type 0
ConditionsStayWithin =
    (names : InlineNames) (k e : KnownNumbers) (c : Expr)
    → KnowsLess k e → KnowsInline names e → has_values names k c ≡ true
    → asked_condition e c ≡ []
    → asked_condition no_numbers (with_scalars (with_values k c)) ≡ []
