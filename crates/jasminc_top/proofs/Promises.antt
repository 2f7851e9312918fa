-- A run with its whole meaning keeps all that is promised of it.
use Rattle.jasminc_top.specs.Runs.{Run, Runs}
use Rattle.jasminc_top.specs.Promises.{KeepsPromises}
use Rattle.jasminc_top.proofs.Rows.{run_refused, run_completes, run_comes, run_write_fault, run_reads, run_source_quiet, run_sink_quiet, run_made}
use Rattle.jasminc_top.proofs.Headline.{run_compiles}
use Rattle.jasminc_top.proofs.InterpHeadline.{run_interprets}
use Rattle.jasminc_top.proofs.RunHeadline.{run_executes, run_leaks, run_cut, run_stuck}
use Rattle.jasminc_top.proofs.DisasmHeadline.{run_disassembles}
use Rattle.jasminc_top.proofs.CheckHeadline.{run_checks}
use Rattle.jasminc_top.proofs.CtHeadline.{run_judges}
use Rattle.jasminc_top.proofs.ProgramHeadline.{run_generates, run_sums}

pub keeps_promises : (run : Run) → Runs run → KeepsPromises run
keeps_promises run r = record {
  runs = r;
  compiles = run_compiles run r;
  executes = run_executes run r;
  leaks = run_leaks run r;
  interprets = run_interprets run r;
  stuck = run_stuck run r;
  cut = run_cut run r;
  disassembles = run_disassembles run r;
  checks = run_checks run r;
  judges = run_judges run r;
  generates = run_generates run r;
  sums_up = run_sums run r;
  comes_only = run_comes run r;
  write_fault = run_write_fault run r;
  refused = run_refused run r;
  complete = run_completes run r;
  read = run_reads run r;
  source_quiet = run_source_quiet run r;
  sink_quiet = run_sink_quiet run r;
  made = run_made run r;
}
