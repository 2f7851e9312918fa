use Rattle.std.proofs.Common.{◌≡◌, ◌++◌, map, take}
use Rattle.std.specs.List.{concat}
use Rattle.jasminc_top.specs.CompileLines.{holder_text}
use Rattle.jasminc_top.proofs.compile_lines.write_each_holder.Given as goal

abbrev pub invariant-loop-holder : goal.invariant-loop-holder
invariant-loop-holder l = l.line.items ≡ l.initial.line.items ++ concat (map holder_text (take l.holder-index l.holders))
