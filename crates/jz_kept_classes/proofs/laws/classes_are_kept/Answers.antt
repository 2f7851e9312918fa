use Rattle.jz_kept_classes.proofs.Turned.{values_keep_classes, scalars_keep_classes}
use Rattle.jz_kept_classes.proofs.laws.classes_are_kept.Goals as goal

pub returns-clause-values : goal.returns-clause-values
returns-clause-values c = values_keep_classes

pub returns-clause-scalars : goal.returns-clause-scalars
returns-clause-scalars c = scalars_keep_classes
