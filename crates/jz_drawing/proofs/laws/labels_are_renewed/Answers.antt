use Rattle.jz_drawing.proofs.Renewing.{nothing_renewed, one_renewed}
use Rattle.jz_drawing.proofs.laws.labels_are_renewed.Goals as goal

pub returns : goal.returns
returns c = record { none = nothing_renewed; one = λ s n v w k re old. one_renewed s n v w re k old }
