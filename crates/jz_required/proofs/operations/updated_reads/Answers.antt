use Rattle.std.proofs.Common.{◌∙◌, ap, sym}
use Rattle.std.specs.Prelude.{option_map}
use Rattle.jz_tree.specs.Operators.{divides}
use Rattle.jz_meaning.specs.Assignments.{as_expr, left_span}
use Rattle.jz_required.specs.Readings.{operation_reading}
use Rattle.jz_required.specs.Kept.{reading_of}
use Rattle.jz_required.proofs.Rights.{updated_none, updated_some}
use Rattle.jz_required.proofs.operations.updated_reads.Goals as goal

pub returns-in-None : goal.returns-in-None
returns-in-None c =
    let d = c.args.left.now in
    updated_none (as_expr d) c.args.op c.args.value.now (left_span d) _ (sym (ap (option_map reading_of) c.in-None.is) ∙ c.in_ok-old.ensures) c.nothing.ensures

pub returns-in_ok-found-in-Some : goal.returns-in_ok-found-in-Some
returns-in_ok-found-in-Some c =
    let d = c.args.left.now in
    let x = reading_of c.in-Some.first in
    let y = reading_of c.in_ok-second-in-Some.second in
    updated_some (as_expr d) c.args.op c.args.value.now (left_span d) x y _ (sym (ap (option_map reading_of) c.in-Some.is) ∙ c.in_ok-old.ensures) c.in_ok-second-in-Some.ensures
    (c.in_ok-found-in-Some.ensures ∙ ap (λ q. operation_reading q c.left_span.result x y) c.divides.ensures ∙ ap (λ s. operation_reading (divides c.args.op) s x y) c.left_span.ensures)
