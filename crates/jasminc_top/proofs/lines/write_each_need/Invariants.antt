use Rattle.std.proofs.Common.{◌≡◌, ◌++◌, map, take}
use Rattle.std.specs.List.{concat}
use Rattle.jasminc_top.specs.Lines.{need_text}
use Rattle.jasminc_top.proofs.lines.write_each_need.Given as goal

abbrev pub invariant-loop-need : goal.invariant-loop-need
invariant-loop-need l = l.line.items ≡ l.initial.line.items ++ concat (map need_text (take l.need-index l.needs))
