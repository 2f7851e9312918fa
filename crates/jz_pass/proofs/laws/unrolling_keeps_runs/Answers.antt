use Rattle.jz_pass.specs.Cases.{no_case}
use Rattle.jz_pass.proofs.Bodies.{unrolling_carries}
use Rattle.jz_pass.proofs.CasesKept.{unrolled_cases}
use Rattle.jz_pass.proofs.laws.unrolling_keeps_runs.Goals as goal

pub returns-clause-runs : goal.returns-clause-runs
returns-clause-runs g c = λ e e1 b u k h. unrolling_carries g.U.UnrolledTrees.parts g.U.UnrolledTrees.new_parts g.U.UnrolledTrees.knowing g.U.UnrolledTrees.known e e1 b u k h

pub returns-clause-cases : goal.returns-clause-cases
returns-clause-cases g c = λ e e1 b u k h. unrolled_cases g.U.UnrolledTrees.knowing g.U.UnrolledTrees.items no_case h
