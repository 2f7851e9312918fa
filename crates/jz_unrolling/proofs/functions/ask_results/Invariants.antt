use Rattle.std.proofs.Common.{◌≡◌, take, true}
use Rattle.std.specs.Prelude.{not}
use Rattle.std.specs.List.{list_all}
use Rattle.jz_unroll.specs.Values.{is_inline_var}
use Rattle.jz_unrolling_values.specs.InlineNames.{names_in}
use Rattle.jz_unrolling.proofs.functions.ask_results.Given as goal

abbrev pub invariant-loop-var : goal.invariant-loop-var
invariant-loop-var l = list_all (λ v. not (is_inline_var (names_in l.vars) v)) (take l.var-index l.results) ≡ true
