use Rattle.std.proofs.Common.{refl}
use Rattle.jz_drawn_bodies.specs.Bodies.{with_nodes}
use Rattle.jz_drawn_bodies.proofs.Looping.{loop_drawn}
use Rattle.jz_drawn_bodies.proofs.laws.loops_are_drawn.Goals as goal

pub returns : goal.returns
returns c = λ w q f g v vh vp vb ve out n re dp db back l s. loop_drawn w q f g v vh vp vb ve (with_nodes out ve) out n re dp db back refl l.is l.same s
