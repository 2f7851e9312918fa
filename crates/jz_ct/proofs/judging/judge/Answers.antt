use Rattle.std.proofs.Common.{subst, sym}
use Rattle.jz_tree.specs.declared.program.Fun.{Fun}
use Rattle.jz_drawing.specs.Drawings.{IsFree}
use Rattle.jz_function_runs.specs.FunctionRuns.{plain_body}
use Rattle.jz_ct.specs.Told.{told_by, HasFirstBreach}
use Rattle.jz_ct.proofs.Judged.{free_of, yes_told}
use Rattle.jz_ct.proofs.judging.judge.Goals as goal

pub judge_function-requires : goal.judge_function-requires
judge_function-requires c = subst (λ (f : Fun). IsFree (plain_body f)) (sym c.fun.ensures) (free_of c.args.expanded.now.fun _ _ c.is_expanded.ensures)

pub returns-clause-yes : goal.returns-clause-yes
returns-clause-yes c = yes_told c.args.expanded.now.fun c.in_ok-ct.ct (subst (λ (f : Fun). HasFirstBreach f (told_by c.in_ok-ct.ct)) c.fun.ensures c.in_ok-ct.ensures)

pub returns-clause-breach : goal.returns-clause-breach
returns-clause-breach c = subst (λ (f : Fun). HasFirstBreach f (told_by c.in_ok-ct.ct)) c.fun.ensures c.in_ok-ct.ensures
