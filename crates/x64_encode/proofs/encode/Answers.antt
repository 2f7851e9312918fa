-- What is chosen is a spelling.
use Rattle.std.proofs.Common.{ℕ, List, sym, subst}
use Rattle.x64_insn.specs.Encoding.{Spells}
use Rattle.x64_insn.proofs.ChosenSpelling.{chosen_spells, spelled_only}
use Rattle.x64_encode.proofs.encode.Goals as goal

pub returns-clause-spelling : goal.returns-clause-spelling
returns-clause-spelling c = let i = c.args.insn.now in subst (λ (bs : List ℕ). Spells bs i) (sym c.chosen.ensures) (chosen_spells i (spelled_only i c.requires))
