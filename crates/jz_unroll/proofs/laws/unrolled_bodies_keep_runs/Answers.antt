use Rattle.jz_meaning.specs.Statements.{source}
use Rattle.jz_pass.specs.Cases.{no_case}
use Rattle.jz_pass.proofs.Bodies.{unrolling_carries}
use Rattle.jz_pass.proofs.CasesKept.{unrolled_cases}
use Rattle.jz_unroll.specs.Unrolling.{unrolling}
use Rattle.jz_unroll.proofs.Keeping.{unrolling_known, unrolling_items}
use Rattle.jz_unroll.proofs.laws.unrolled_bodies_keep_runs.Goals as goal

pub returns-clause-bodies : goal.returns-clause-bodies
returns-clause-bodies c = λ names e e1 b u k h. unrolling_carries source source (unrolling names) (unrolling_known names) e e1 b u k h

pub returns-clause-cases : goal.returns-clause-cases
returns-clause-cases c = λ names e e1 b u k h. unrolled_cases (unrolling names) (unrolling_items names) no_case h
