use Rattle.std.proofs.Common.{◌∙◌, ap}
use Rattle.jz_labels.specs.Operations.{read_if, with_condition}
use Rattle.jz_meaning.specs.Assignments.{whole_of}
use Rattle.jz_required.specs.Readings.{all_readings}
use Rattle.jz_required.proofs.Assigning.{assigned_is}
use Rattle.jz_required.proofs.operations.assignment_reads.Goals as goal

pub returns : goal.returns
returns c = λ at.
    assigned_is c.args.to.now c.args.op c.args.value.now c.args.cond.now at _ _ _ (c.in_ok-read.ensures ∙ ap (λ d. all_readings (read_if (whole_of d c.args.op c.args.value.now))) c.last_left-last.ensures)
    (c.in_ok-guard.ensures ∙ ap (λ d. all_readings (with_condition c.args.cond.now d)) c.last_left-last.ensures) c.in_ok-found.ensures
