use Rattle.std.proofs.Common.{◌≡◌, ℕ, ◌<◌, length, take}
use Rattle.std.specs.List.{list_all}
use Rattle.jz_ir.specs.Places.{op_fits, has_need}
use Rattle.jz_fit.specs.InnerWants.{admits, is_needed, wanted_at}
use Rattle.jz_fit.proofs.wants.wants_of.Given as goal

abbrev pub invariant-loop-op : goal.invariant-loop-op
invariant-loop-op l =
    (length l.wants.items ≡ l.count)
    × ((v q : ℕ) → v < l.count → admits (wanted_at l.wants.items v) q ≡ list_all (op_fits v q) (take l.op-index l.ops))
    × ((v : ℕ) → v < l.count → is_needed (wanted_at l.wants.items v) ≡ has_need (take l.op-index l.ops) v)
