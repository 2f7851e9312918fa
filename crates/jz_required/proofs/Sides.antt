-- Operations on the left side of an expression.
use Rattle.std.proofs.Common.{◌≡◌, List, [], ◌∷◌, ◌++◌, refl, ap}
use Rattle.jz_required.specs.declared.looking.Operand.{Operand}
use Rattle.jz_required.specs.Readings.{Reading, operation_reading}
use Rattle.jz_required.specs.Kept.{reading_of}
use Rattle.jz_required.specs.InnerSides.{on_operands}

pub last_operand : (xs : List Operand) (x : Operand) (r : Reading) → on_operands (xs ++ x ∷ []) r ≡ on_operands xs (operation_reading x.divides x.span r (reading_of x.right))
last_operand [] x r = refl
last_operand (y ∷ xs) x r = ap (λ z. operation_reading y.divides y.span z (reading_of y.right)) (last_operand xs x r)
