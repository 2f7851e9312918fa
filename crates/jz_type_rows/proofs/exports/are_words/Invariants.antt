use Rattle.std.proofs.Common.{◌≡◌, drop}
use Rattle.std.specs.List.{list_all}
use Rattle.jz_type_rows.specs.Exports.{is_word_param}
use Rattle.jz_type_rows.proofs.exports.are_words.Given as goal

abbrev pub invariant-loop-param : goal.invariant-loop-param
invariant-loop-param l = list_all is_word_param (drop l.param-index l.param-items) ≡ list_all is_word_param l.fn.params
