use Rattle.std.proofs.Common.{[], ◌∙◌}
use Rattle.jz_type_names.specs.InnerLists.{these_names}
use Rattle.jz_type_names.proofs.RepeatedLaws.{repeated_is}
use Rattle.jz_type_names.proofs.repeats.repeated_names.Goals as goal

pub returns : goal.returns
returns c = c.repeated_among.ensures ∙ repeated_is _ (these_names c.args.names.now) (c.in_ok-add_places.ensures [] c.new-places.ensures.earliest)
