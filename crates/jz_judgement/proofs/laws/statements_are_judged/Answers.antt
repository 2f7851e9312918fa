use Rattle.jz_type_names.specs.Parts.{layer_of}
use Rattle.jz_judgement.proofs.Calling.{layer_holds, layer_right}
use Rattle.jz_judgement.proofs.laws.statements_are_judged.Goals as goal

pub returns : goal.returns
returns c = λ named s. (layer_holds named (layer_of s), layer_right named (layer_of s))
