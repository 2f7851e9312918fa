-- What private contracts alone say of answers.
use Rattle.std.specs.Prelude.{◌≡◌, ℕ, List, Option}
use Rattle.x64_insn.specs.declared.types.Place.{Place}
use Rattle.jz_ir.specs.declared.code.Kind.{Kind}
use Rattle.jz_ir.specs.declared.code.Op.{Op}
use Rattle.jz_ir.specs.Order.{number_of}
use Rattle.jz_ir.specs.Places.{placed, FirstFit, FirstHolder}
use Rattle.jz_alloc.specs.declared.evidence.Holder.{Holder}
use Rattle.jz_alloc.specs.declared.placing.Allocation.{Allocation}
use Rattle.jz_alloc.specs.declared.placing.Allocation.TheVariants as V
use Rattle.jz_alloc.specs.Answers.{Explained}

-- the holder is what first keeps the variable from the place
abbrev pub IsFirstHolder : List Op → (ℕ → ℕ → Type 0) → List (Option ℕ) → ℕ → ℕ → Holder → Type 0
IsFirstHolder ops Live places variable place holder =
    (number_of holder.place ≡ place)
    × FirstHolder ops Live places variable place holder.span holder.variable

-- places for all, or the first variable that is left and why
abbrev pub Allocated : List Op → List Kind → List Place → (ℕ → ℕ → Type 0) → Allocation → Type 0
Allocated ops kinds in_use Live (V.Places places) =
    FirstFit ops kinds in_use Live (placed places.items)
Allocated ops kinds in_use Live (V.NoPlace refusal) = Explained ops kinds in_use Live refusal
