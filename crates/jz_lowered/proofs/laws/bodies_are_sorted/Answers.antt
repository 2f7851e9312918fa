use Rattle.std.proofs.Common.{sym, subst}
use Rattle.jz_place.specs.Sorts.{AreSorted}
use Rattle.jz_lowered.proofs.SortedBodies.{bodies_sorted}
use Rattle.jz_lowered.proofs.laws.bodies_are_sorted.Goals as goal

pub returns : goal.returns
returns c = λ home kinds b u k are h. subst (AreSorted kinds) (sym h.body) (bodies_sorted home kinds are h.made tt)
