-- What is found to be safe has no alarm, so it is never stuck.
use Rattle.std.proofs.Common.{◌≡◌}
use Rattle.std.proofs.Math.Logic.{∥∥₁_elim}
use Rattle.jz_change.specs.Views.{change_of}
use Rattle.jz_function_runs.specs.FunctionRuns.{plain_body}
use Rattle.jz_safe_expansions.proofs.Heads.{heads_are_fine}
use Rattle.jz_never_stuck.proofs.Whole.{expanded_never}
use Rattle.jz_safe_expansions.proofs.Whole.{expansions_are_fine, safe_never, source_never}
use Rattle.jz_safe.specs.SafeRuns.{ExpandedRunsOn, SafeRunsOn, SourceRunsOn}

one_absurd : (x y : ⊥) → x ≡ y
one_absurd x y = absurd x

pub expanded_runs_on : ExpandedRunsOn
expanded_runs_on s p f words values memory n w x meets are run =
    ∥∥₁_elim s.rule one_absurd
    (λ none. expanded_never p f s.expanded.fun (plain_body s.expanded.fun) words values memory n run.out w x.there
    (heads_are_fine p f s.expanded.fun (change_of s.expanded.change) s.expanded.count x.typed x.text x.there x.exported x.expansion).1
    (expansions_are_fine p f s.expanded.fun (change_of s.expanded.change) s.expanded.count x) none meets are run.goes run.gives)

pub safe_runs_on : SafeRunsOn
safe_runs_on s p f c x lines = λ words memory n w meets run.
    ∥∥₁_elim s.rule one_absurd
    (λ none. safe_never p f s.expanded.fun (change_of s.expanded.change) s.expanded.count c x none lines words memory n w meets run)

pub source_runs_on : SourceRunsOn
source_runs_on s p f words values memory n w x meets are run =
    ∥∥₁_elim s.rule one_absurd
    (λ none. source_never p f s.expanded.fun (change_of s.expanded.change) s.expanded.count words values memory n w x none meets are run)
