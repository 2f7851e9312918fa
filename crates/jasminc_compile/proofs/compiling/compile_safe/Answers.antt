use Rattle.jasminc_compile.proofs.Making.{said_there}
use Rattle.jasminc_compile.proofs.compiling.compile_safe.Goals as goal

pub returns-clause-made : goal.returns-clause-made
returns-clause-made c = record {
  made = c.in_ok-compiled.ensures.made;
  correct = c.in_ok-compiled.ensures.correct;
  said = said_there c.args.safe.expanded c.expanded.result.now c.in_ok-ct.ct _ c.expanded.ensures c.in_ok-compiled.ensures.said c.in_ok-ct.ensures;
  placed = c.in_ok-compiled.ensures.placed;
  small = c.in_ok-compiled.ensures.small;
}
