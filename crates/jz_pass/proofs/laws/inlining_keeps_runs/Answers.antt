use Rattle.jz_runs.specs.Trees.{done}
use Rattle.jz_pass.specs.Cases.{no_case}
use Rattle.jz_pass.proofs.Bodies.{inlining_carries}
use Rattle.jz_pass.proofs.CasesKept.{inlined_cases}
use Rattle.jz_pass.proofs.laws.inlining_keeps_runs.Goals as goal

pub returns-clause-runs : goal.returns-clause-runs
returns-clause-runs g c = λ x i b of below. inlining_carries g.C.CopiedTrees.parts g.C.CopiedTrees.copying g.C.CopiedTrees.keeps x i b of below

pub returns-clause-cases : goal.returns-clause-cases
returns-clause-cases g c = λ x i b. inlined_cases g.C.CopiedTrees.copying g.C.CopiedTrees.items b x i done no_case
