-- Typed programs.
use Rattle.std.specs.Prelude.{◌≡◌}
use Rattle.jz_tree.specs.declared.program.Program.{Program}
use Rattle.jz_resolve.specs.Programs.{resolved_program}
use Rattle.jz_types.specs.Rules.{IsTyped}

-- it comes of a program as it is read, in which no rule fails
pub record IsTypedProgram (q : Program) : Type 0 where
  pub source : Program
  pub typed : IsTyped source
  pub same : q ≡ resolved_program source
