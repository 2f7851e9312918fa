use Rattle.std.proofs.Common.{◌∙◌, map, ap}
use Rattle.jasminc_calls.specs.Calls.{argument_values, bits_of}
use Rattle.jasminc_calls.proofs.Bits.{bits_are}
use Rattle.jasminc_calls.proofs.calls.prepared.Goals as goal

pub returns : goal.returns
returns c =
    let words = c.in_ok-words.ensures ∙ ap (argument_values c.args.function.now.params) c.in_ok-numbers.ensures in
    record {
      words = words;
      bits = c.in_ok-bits.ensures ∙ bits_are c.in_ok-words.words ∙ ap (map bits_of) words;
      pres = c.in_ok-pres.ensures;
    }
