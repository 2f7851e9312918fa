use Rattle.jz_linear.proofs.Places.{linear_once}
use Rattle.x64_assemble.proofs.Named.{linear_named}
use Rattle.x64_assemble.proofs.Spellable.{linear_spelled}
use Rattle.x64_assemble.proofs.laws.lines_of_code_become_bytes.Goals as goal

pub returns-clause-once : goal.returns-clause-once
returns-clause-once c = linear_once

pub returns-clause-named : goal.returns-clause-named
returns-clause-named c = linear_named

pub returns-clause-spelled : goal.returns-clause-spelled
returns-clause-spelled c = linear_spelled
