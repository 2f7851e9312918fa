-- The test says which instructions have a spelling.
use Rattle.std.proofs.Common.{◌∙◌, sym}
use Rattle.x64_insn.proofs.ChosenSpelling.{spelling_exists, spelled_only}
use Rattle.x64_encode.proofs.has_spelling.Goals as goal

pub returns-clause-spelling : goal.returns-clause-spelling
returns-clause-spelling c = let i = c.args.insn.now in (λ h. spelling_exists i (sym c.is_spelled.ensures ∙ h), λ h. c.is_spelled.ensures ∙ spelled_only i h)
