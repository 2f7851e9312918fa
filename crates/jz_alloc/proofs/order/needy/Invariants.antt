use Rattle.std.proofs.Common.{◌≡◌, ℕ, length, take, ◌/◌, ◌+◌, ◌||◌, nat_eq}
use Rattle.std.specs.List.{list_any}
use Rattle.jz_bits.specs.Has.{has}
use Rattle.jz_ir.specs.Places.{has_need}
use Rattle.jz_alloc.proofs.order.needy.Given as goal

abbrev pub invariant-loop-op : goal.invariant-loop-op
invariant-loop-op l = (length l.row ≡ l.count / 64 + 1) × ((v : ℕ) → has l.row v ≡ has_need (take l.op-index l.ops) v)

abbrev pub invariant-loop-need : goal.invariant-loop-need
invariant-loop-need l = (length l.row ≡ l.count / 64 + 1) × ((v : ℕ) → has l.row v ≡ (has l.initial.row v || list_any (λ k. nat_eq k.variable v) (take l.need-index l.need-items)))
