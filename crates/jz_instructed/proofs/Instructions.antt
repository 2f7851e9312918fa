-- The laws of instructions.
use Rattle.jz_tree.specs.Spellings.{spelled}
use Rattle.jz_meaning.specs.Statements as source
use Rattle.jz_meaning.specs.Statements.{instruction}
use Rattle.jz_assigned.proofs.Going.{goes}
use Rattle.jz_instructed.specs.InstructedLaws.{InstructionsGo, InstructionsStand}
use Rattle.jz_instructed.proofs.Outcomes.{instructed_stands, instructed_runs}

pub instructions_go : InstructionsGo
instructions_go g kinds in_frame entry s st nn H to n args at i q = goes (λ t. Unit {0}) (source.does (instruction to n args at) st) (instructed_runs g kinds in_frame entry s st H nn (spelled n) to args at i q)

pub instructions_stand : InstructionsStand
instructions_stand g kinds in_frame entry s st nn H to n args at i = instructed_stands g kinds in_frame entry s st H nn (spelled n) to args at i
