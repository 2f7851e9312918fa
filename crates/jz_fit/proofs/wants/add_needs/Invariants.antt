use Rattle.std.proofs.Common.{◌≡◌, ℕ, ◌<◌, ◌||◌, ◌&&◌, length, take, nat_eq}
use Rattle.std.specs.List.{list_all, list_any}
use Rattle.jz_ir.specs.Places.{need_fits}
use Rattle.jz_fit.specs.InnerWants.{admits, is_needed, wanted_at}
use Rattle.jz_fit.proofs.wants.add_needs.Given as goal

abbrev pub invariant-loop-need : goal.invariant-loop-need
invariant-loop-need l =
    (length l.wants.items ≡ length l.fn.wants.items)
    × ((v q : ℕ) → v < length l.fn.wants.items → admits (wanted_at l.wants.items v) q ≡ (list_all (need_fits v q) (take l.need-index l.need-items) && admits (wanted_at l.fn.wants.items v) q))
    × ((v : ℕ) → v < length l.fn.wants.items → is_needed (wanted_at l.wants.items v) ≡ (list_any (λ k. nat_eq k.variable v) (take l.need-index l.need-items) || is_needed (wanted_at l.fn.wants.items v)))
