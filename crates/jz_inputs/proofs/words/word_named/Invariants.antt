use Rattle.std.proofs.Common.{◌≡◌, map, length}
use Rattle.jz_type_names.specs.Scopes.{text_of_param}
use Rattle.jz_preconditions.specs.Meeting.{word_named}
use Rattle.jz_inputs.proofs.words.word_named.Given as goal

abbrev pub invariant-loop-left : goal.invariant-loop-left
invariant-loop-left l =
    word_named (map text_of_param l.left) l.values l.name ≡ word_named (map text_of_param l.fn.params) l.fn.words l.name

abbrev pub decreases-loop-left : goal.decreases-loop-left
decreases-loop-left l = length l.left
