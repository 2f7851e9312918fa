use Rattle.std.proofs.Common.{◌∙◌, ap, sym}
use Rattle.std.specs.Option.{option_copied}
use Rattle.jz_scalars.proofs.Loops.{no_place, some_place}
use Rattle.jz_scalars.proofs.numbers.push_place.Goals as goal

pub returns-in-None : goal.returns-in-None
returns-in-None c = no_place c.args.mask.now c.args.place c.args.out.now (sym c.get.ensures.value ∙ ap option_copied c.in-None.is)

pub returns-in_ok-push_number-in-Some : goal.returns-in_ok-push_number-in-Some
returns-in_ok-push_number-in-Some c =
    some_place c.args.mask.now c.args.place _ c.args.out.now c.push_number.new.out (sym c.get.ensures.value ∙ ap option_copied c.in-Some.is) c.in_ok-push_number-in-Some.ensures
