use Rattle.jz_meaning.specs.InnerEvaluating.{IsLeftSide}
use Rattle.jz_meaning.proofs.left.left_side.Given as goal

abbrev pub invariant-loop-first : goal.invariant-loop-first
invariant-loop-first l = IsLeftSide l.fn.wanted l.e l.waiting.items l.first l.inner
