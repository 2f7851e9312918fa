use Rattle.std.proofs.Common.{false, Some, ap, ◌∙◌}
use Rattle.std.specs.Prelude.{◌||◌}
use Rattle.x64_insn.specs.Sizes.{bytes_of}
use Rattle.jz_wide.specs.Sums.{shown}
use Rattle.jz_meaning.specs.Values.{ref_of}
use Rattle.jz_alarms.specs.Conditions.{in_some_region}
use Rattle.jz_inside.specs.Said.{given_in, facts_in}
use Rattle.jz_inside.proofs.Reading.{either_of}
use Rattle.jz_inside.proofs.readings.in_either.Goals as goal

pub returns : goal.returns
returns c =
    c.one_of.ensures
    ∙ either_of c.in_some_region-first.result c.in_some_region-second.result
    ∙ ap (λ x. x || (c.in_some_region-second.result || false)) c.in_some_region-first.ensures
    ∙ ap (λ x. in_some_region (given_in c.args.says) (facts_in c.args.says) (bytes_of c.args.size) (record { base = ref_of c.args.first.now; index = Some (ref_of c.args.second.now, 1); more = shown c.args.more }) (given_in c.args.says).regions || (x || false)) c.in_some_region-second.ensures
