use Rattle.jz_ir.specs.Tree.{LiveInTree}
use Rattle.jz_place.proofs.Sorted.{suited}
use Rattle.jz_place.proofs.laws.sorted_bodies_are_suited.Goals as goal

pub returns : goal.returns
returns c = λ tree code list t p s. suited code (LiveInTree tree) list p t s
