use Rattle.std.proofs.Common.{sym, subst, ℕ, ◌<◌, length, ◌↔◌}
use Rattle.jz_alloc.specs.InnerHolding.{LiveIn as LiveInRows}
use Rattle.jz_ir.specs.Straight.{LiveIn}
use Rattle.jz_alloc.proofs.Meaning.{allocated_to}
use Rattle.jz_alloc.proofs.placing.allocate_straight.Goals as goal

pub returns : goal.returns
returns c =
    allocated_to c.args.ops.now c.args.kinds.now c.args.in_use.now (LiveInRows c.as_slice.result.now) (LiveIn c.args.ops.now)
    (subst (λ r. (i : ℕ) → i < length c.args.ops.now → (v : ℕ) → LiveInRows r i v ↔ LiveIn c.args.ops.now i v) (sym c.as_slice.ensures.value) c.in_ok-after.ensures.exact)
    c.in_ok-allocation.allocation c.in_ok-allocation.ensures
