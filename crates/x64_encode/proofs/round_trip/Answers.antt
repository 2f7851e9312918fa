use Rattle.x64_insn.specs.Chosen.{chosen_bytes}
use Rattle.x64_insn.proofs.ChosenSpelling.{chosen_spells, spelled_only}
use Rattle.x64_decode.proofs.DecodeExact.{read_again}
use Rattle.x64_encode.proofs.round_trip.Goals as goal

pub returns : goal.returns
returns c = λ i rest h. read_again (chosen_bytes i) rest i (chosen_spells i (spelled_only i h))
