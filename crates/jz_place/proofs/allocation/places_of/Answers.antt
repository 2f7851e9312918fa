use Rattle.jz_place.proofs.Allocated.{within}
use Rattle.jz_place.proofs.allocation.places_of.Goals as goal

pub allocate-requires-clause-within : goal.allocate-requires-clause-within
allocate-requires-clause-within c = within c.args.ir.now c.in_ok-code.code c.in_ok-code.ensures.tree c.in_ok-code.ensures.kinds c.in_ok-code.ensures.in_use c.requires.within
