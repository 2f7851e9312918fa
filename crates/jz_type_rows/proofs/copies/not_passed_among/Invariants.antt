use Rattle.std.proofs.Common.{◌≡◌, map, drop}
use Rattle.jz_type_names.specs.Order.{earlier, first_in}
use Rattle.jz_type_rows.specs.InnerPairs.{pair_of}
use Rattle.jz_type_rows.specs.Copies.{not_passed}
use Rattle.jz_type_rows.proofs.copies.not_passed_among.Given as goal

abbrev pub invariant-loop-pair : goal.invariant-loop-pair
invariant-loop-pair l = earlier l.first (first_in (not_passed l.args) (map pair_of (drop l.pair-index l.given))) ≡ first_in (not_passed l.args) (map pair_of l.fn.given)
