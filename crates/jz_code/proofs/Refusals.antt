-- A function that has machine code has none of what refuses it.
use Rattle.std.proofs.Common.{◌≡◌, ℕ, inl, inr, List, Option, arith}
use Rattle.jz_ir.specs.Places.{placed, refused}
use Rattle.jz_alloc.proofs.Seating.{one_out}
use Rattle.jz_operations.specs.declared.operation.Stacked.{Stacked}
use Rattle.jz_place.specs.declared.tree.Ir.{Ir}
use Rattle.jz_code.specs.declared.code.MachineCode.{MachineCode}
use Rattle.jz_code.specs.declared.code.NoCode.{NoCode}
use Rattle.jz_code.specs.declared.code.NoCode.TheVariants as no
use Rattle.jz_code.specs.Made.{IsCodeOf, IsTooLarge, IsUnplaced, HasNoCode}

apart : (ps : List (Option ℕ)) (v : ℕ) (qs : List (Option ℕ)) → placed ps ≡ refused v qs → ⊥
apart ps v qs e = cc

not_large : (f : Ir) (vs : List Stacked) (m : MachineCode) (c : NoCode) → IsCodeOf f vs m → IsTooLarge vs c → ⊥
not_large f vs m no.Frame code h = let k = code.within in omega (arith, h, k)
not_large f vs m (no.Place n) code h = h

not_unplaced : (f : Ir) (vs : List Stacked) (m : MachineCode) (c : NoCode) → IsCodeOf f vs m → IsUnplaced f c → ⊥
not_unplaced f vs m no.Frame code h = h
not_unplaced f vs m (no.Place n) code h = apart _ _ _ (one_out _ _ _ code.first h.is_first)

pub code_or_refusal : (f : Ir) (vs : List Stacked) (m : MachineCode) (c : NoCode) → IsCodeOf f vs m → HasNoCode f vs c → ⊥
code_or_refusal f vs m c code (inl h) = not_large f vs m c code h
code_or_refusal f vs m c code (inr h) = not_unplaced f vs m c code h.1
