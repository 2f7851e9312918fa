use Rattle.std.proofs.Common.{◌≡◌, ℕ, List, map, drop}
use Rattle.jz_type_names.specs.Order.{earlier, first_in}
use Rattle.jz_type_rows.specs.InnerPassing.{passed_of}
use Rattle.jz_type_rows.specs.InnerTables.{HasNumbers}
use Rattle.jz_type_rows.specs.Copies.{not_back}
use Rattle.jz_type_rows.proofs.copies.not_back_among.Given as goal

abbrev pub invariant-loop-one : goal.invariant-loop-one
invariant-loop-one l =
    (ns : List ℕ) → HasNumbers l.back ns
    → earlier l.first (first_in (not_back l.callee.written ns) (map passed_of (drop l.one-index l.passed))) ≡ first_in (not_back l.callee.written ns) (map passed_of l.fn.passed)
