-- Faults of typing, and which of several is told.
use Rattle.std.specs.Prelude.{ℕ, ◌≡◌, ◌≤◌, ◌⊎◌}
use Rattle.jz_tree.specs.Span.{Span}
use Rattle.jz_type_names.specs.Order.{Before}
use Rattle.jz_types.specs.declared.fault.TypeRule.{TypeRule}
use Rattle.jz_types.specs.declared.fault.TypeRule.TheVariants.{Unknown, Duplicate, Mismatch, Storage, Recursion, NoInstruction, ArrayCopy, BadAnnotation, ExportShape, RegIndex}
use Rattle.jz_types.specs.declared.fault.TypeFault.{TypeFault}

-- the number of a rule
abbrev pub rule_number : TypeRule → ℕ
rule_number Unknown = 1
rule_number Duplicate = 2
rule_number Mismatch = 3
rule_number Storage = 4
rule_number Recursion = 5
rule_number NoInstruction = 6
rule_number ArrayCopy = 7
rule_number BadAnnotation = 8
rule_number ExportShape = 9
rule_number RegIndex = 10

-- f stands before the place, or at it with a rule of no higher number
abbrev pub IsToldBefore : TypeFault → TypeRule → Span → Type 0
IsToldBefore f rule at = Before f.span at ⊎ ((f.span ≡ at) × (rule_number f.rule ≤ rule_number rule))

-- of the failures of rules, which are given by their places, this one is told
pub record IsTold (Fails : TypeRule → Span → Type 0) (f : TypeFault) : Type 0 where
  pub fails : Fails f.rule f.span
  pub first : (rule : TypeRule) (at : Span) → Fails rule at → IsToldBefore f rule at
