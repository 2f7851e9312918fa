use Rattle.std.proofs.Common.{ap, ◌∙◌}
use Rattle.jz_type_names.specs.Order.{earliest}
use Rattle.jz_preconditions.specs.Stating.{stated_by}
use Rattle.jz_preconditions.specs.Refusals.{shapeless_places, shapeless_by}
use Rattle.jz_preconditions.specs.InnerTables.{parameter_in}
use Rattle.jz_preconditions.proofs.Joined.{first_next, kept_next}
use Rattle.jz_preconditions.proofs.judging.read_entries.Goals as goal

pub loop-note-preserved : goal.loop-note-preserved
loop-note-preserved c =
    let ps = parameter_in c.args.parameters.now
    in let notes = c.as_slice-note-items.result.now
    in let i = c.loop-note.note-index
    in let note = c.note-item.result
    in let within = c.loop-note-test.true
    in let is = c.note-item.is
    in let held = c.loop-note.invariant
    in (
      kept_next (stated_by ps) notes i note c.loop-note.stated _ _ c.in_ok-one.one within is c.in_ok-one.ensures c.in_ok-add.ensures held.0,
      first_next (shapeless_places ps) notes i note c.loop-note.first _ _ _ within is (c.shapeless.ensures ∙ ap (λ s. earliest (shapeless_by note s)) c.in_ok-one.ensures) c.earlier_of-first.ensures.is held.1,
    )
