-- What private contracts alone say of answers.
use Rattle.std.specs.Prelude.{◌≡◌, ◌<◌, ℕ, List, Option, length, IsTrue}
use Rattle.std.specs.List.{AllPairs}
use Rattle.jz_ir.specs.Places.{placed, order_of}
use Rattle.jz_alloc.specs.declared.needs.Needed.{Needed}
use Rattle.jz_alloc.specs.Answers.{Explained}
use Rattle.jz_alloc.specs.Needs.{need_before}
use Rattle.jz_fit.specs.declared.table.Table.{Table}
use Rattle.jz_fit.specs.declared.placing.Allocation.{Allocation}
use Rattle.jz_fit.specs.declared.placing.Allocation.TheVariants as V
use Rattle.jz_fit.specs.Branches.{LiveAt}
use Rattle.jz_fit.specs.InnerSeats.{ComesTo}

-- each need stands before those that follow it
abbrev pub Ascend : List Needed → Type 0
Ascend needs = AllPairs (λ first second. IsTrue (need_before first second)) needs

-- places for all, or the first variable that is left, and why
abbrev pub IsAnswer : Table → Allocation → Type 0
IsAnswer t (V.Places places) =
    ComesTo t (order_of t.ops (length t.code.now.kinds)) (placed places.items)
IsAnswer t (V.NoPlace refusal) =
    Explained t.ops t.code.now.kinds t.code.now.in_use (LiveAt t.code.now) refusal
