use Rattle.std.proofs.Common.{◌∙◌, ap, sym}
use Rattle.std.specs.Prelude.{option_map}
use Rattle.std.specs.Option.{option_copied}
use Rattle.jz_required.specs.Kept.{reading_of}
use Rattle.jz_required.proofs.Rights.{kept_nothing, kept_none, kept_some}
use Rattle.jz_required.proofs.operations.kept_reads.Goals as goal

pub returns-in-None : goal.returns-in-None
returns-in-None c = kept_nothing (option_copied c.args.last) _ (ap option_copied c.in-None.is) c.nothing.ensures

pub returns-in-None-old : goal.returns-in-None-old
returns-in-None-old c =
    kept_none (option_copied c.args.last) c.in-Some.left.now _ (ap option_copied c.in-Some.is) (sym (ap (option_map reading_of) c.in-None-old.is) ∙ c.in_ok-old-in-Some.ensures) c.nothing-in-None-old.ensures

pub returns-in-Some-old : goal.returns-in-Some-old
returns-in-Some-old c =
    kept_some (option_copied c.args.last) c.in-Some.left.now _ (ap option_copied c.in-Some.is) (sym (ap (option_map reading_of) c.in-Some-old.is) ∙ c.in_ok-old-in-Some.ensures)
