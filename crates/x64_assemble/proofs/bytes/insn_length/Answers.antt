use Rattle.x64_insn.specs.Chosen.{chosen_bytes}
use Rattle.x64_insn.proofs.ChosenSpelling.{chosen_spells}
use Rattle.x64_assemble.proofs.bytes.insn_length.Goals as goal

pub encode-code-requires : goal.encode-code-requires
encode-code-requires c = (chosen_bytes c.args.insn.now, chosen_spells c.args.insn.now c.requires)
