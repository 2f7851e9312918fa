use Rattle.std.proofs.Common.{◌≡◌, drop}
use Rattle.std.specs.List.{list_all}
use Rattle.jz_type_rows.specs.Exports.{is_word_result}
use Rattle.jz_type_rows.proofs.exports.are_word_results.Given as goal

abbrev pub invariant-loop-ret : goal.invariant-loop-ret
invariant-loop-ret l = list_all is_word_result (drop l.ret-index l.ret-items) ≡ list_all is_word_result l.fn.rets
