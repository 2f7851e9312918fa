use Rattle.jz_meaning.specs.Statements.{source}
use Rattle.jz_pass.specs.Rewriting.{knowing_of}
use Rattle.jz_pass.proofs.Bodies.{unrolling_carries}
use Rattle.jz_run_laws.proofs.Stores.{kinds_sorted}
use Rattle.jz_run_laws.specs.Kinds.{sorts_of}
use Rattle.jz_arrays.specs.Arrays.{arrays}
use Rattle.jz_arrays.proofs.Reading.{scalars_so}
use Rattle.jz_arrays.proofs.Keeping.{arrays_known}
use Rattle.jz_arrays.proofs.laws.scalars_keep_runs.Goals as goal

pub returns-clause-expressions : goal.returns-clause-expressions
returns-clause-expressions c = λ kinds e w s h fixed. scalars_so (sorts_of kinds) s (kinds_sorted kinds s.store h.variables) e w fixed

pub returns-clause-bodies : goal.returns-clause-bodies
returns-clause-bodies c = λ kinds b u k h. unrolling_carries source source (knowing_of (arrays kinds)) (arrays_known kinds) tt tt b u k h
