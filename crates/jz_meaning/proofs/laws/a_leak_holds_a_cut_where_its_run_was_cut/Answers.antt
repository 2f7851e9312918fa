use Rattle.jz_meaning.proofs.CutRuns.{bodies_hold_cuts, functions_hold_cuts}
use Rattle.jz_meaning.proofs.laws.a_leak_holds_a_cut_where_its_run_was_cut.Goals as goal

pub returns : goal.returns
returns c = record { statements = bodies_hold_cuts; functions = functions_hold_cuts }
