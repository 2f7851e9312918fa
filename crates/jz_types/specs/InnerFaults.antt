-- The fault that is told, of what each rule finds first.
use Rattle.std.specs.Prelude.{if◌then◌else◌, Option, Some, None}
use Rattle.jz_tree.specs.Span.{Span}
use Rattle.jz_type_names.specs.Order.{is_before}
use Rattle.jz_types.specs.declared.fault.TypeRule.{TypeRule}
use Rattle.jz_types.specs.declared.fault.TypeRule.TheVariants.{Unknown, Duplicate, Mismatch, Storage, Recursion, NoInstruction, ArrayCopy, BadAnnotation, ExportShape, RegIndex}
use Rattle.jz_types.specs.declared.fault.TypeFault.{TypeFault}
use Rattle.jz_types.specs.declared.fault.Firsts.{Firsts}

-- the fault of the earlier of two, where the second has a rule of a higher number
abbrev pub told_of : Option TypeFault → TypeRule → Option Span → Option TypeFault
told_of best rule None = best
told_of None rule (Some at) = Some (record { rule = rule; span = at })
told_of (Some f) rule (Some at) =
    if is_before at f.span then Some (record { rule = rule; span = at }) else Some f

-- what each rule finds first, in the order of their numbers
abbrev pub first_told : Firsts → Option TypeFault
first_told p =
    told_of
    (told_of
    (told_of
    (told_of
    (told_of
    (told_of
    (told_of
    (told_of (told_of (told_of None Unknown p.unknown) Duplicate p.repeated) Mismatch p.mismatched)
    Storage
    p.misplaced)
    Recursion
    p.recursive)
    NoInstruction
    p.unmatched)
    ArrayCopy
    p.copied)
    BadAnnotation
    p.annotated)
    ExportShape
    p.misshapen)
    RegIndex
    p.indexed
