use Rattle.jz_labels.specs.Operations.{plain_of, tested_by}
use Rattle.jz_labels.proofs.MoreLabels.{labels_monotone}
use Rattle.jz_labels.proofs.laws.more_public_makes_more_public.Goals as goal

pub returns : goal.returns
returns c = labels_monotone plain_of tested_by
