use Rattle.std.proofs.Common.{◌≡◌, ℕ, ◌&&◌, length, take}
use Rattle.std.specs.List.{list_all}
use Rattle.jz_bits.specs.Has.{has}
use Rattle.jz_ir.specs.Places.{need_fits}
use Rattle.jz_alloc.proofs.tables.leave_fit.Given as goal

abbrev pub invariant-loop-need : goal.invariant-loop-need
invariant-loop-need l = (length l.row ≡ length l.fn.row) × ((v : ℕ) → has l.row v ≡ (list_all (need_fits v l.place) (take l.need-index l.need-items) && has l.fn.row v))
