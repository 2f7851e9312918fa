use Rattle.std.proofs.Common.{◌≡◌, ◌++◌, map, take}
use Rattle.std.specs.List.{concat}
use Rattle.jasminc_steps.specs.Telling.{result_line}
use Rattle.jasminc_steps.proofs.telling.write_results.Given as goal

abbrev pub invariant-loop-ret : goal.invariant-loop-ret
invariant-loop-ret l = l.text.items ≡ l.initial.text.items ++ concat (map (result_line l.state) (take l.ret-index l.rets))
