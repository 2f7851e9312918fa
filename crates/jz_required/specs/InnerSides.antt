-- Operations on what stands first, as the code keeps them.
use Rattle.std.specs.Prelude.{List, [], ◌∷◌}
use Rattle.jz_required.specs.declared.looking.Operand.{Operand}
use Rattle.jz_required.specs.Readings.{Reading, operation_reading}
use Rattle.jz_required.specs.Kept.{reading_of}

-- the outermost of them at the head
abbrev pub on_operands : List Operand → Reading → Reading
on_operands [] r = r
on_operands (x ∷ xs) r = operation_reading x.divides x.span (on_operands xs r) (reading_of x.right)
