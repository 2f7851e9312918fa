use Rattle.std.proofs.Common.{◌≡◌, ◌++◌, map, take}
use Rattle.std.specs.List.{concat}
use Rattle.jasminc_selfrun.specs.Summary.{value_line}
use Rattle.jasminc_selfrun.proofs.summing.write_values.Given as goal

abbrev pub invariant-loop-ret : goal.invariant-loop-ret
invariant-loop-ret l = l.text.items ≡ l.initial.text.items ++ concat (map (value_line l.state) (take l.ret-index l.rets))
