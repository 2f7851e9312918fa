use Rattle.std.proofs.Common.{◌≡◌, [], map, take, drop}
use Rattle.jz_type_names.specs.Order.{earlier, earliest}
use Rattle.jz_type_rows.specs.InnerPassing.{passed_of}
use Rattle.jz_type_rows.specs.InnerTables.{HasSeen}
use Rattle.jz_type_rows.specs.Copies.{passed_twice}
use Rattle.jz_type_rows.proofs.twice.passed_twice.Given as goal

abbrev pub invariant-loop-one : goal.invariant-loop-one
invariant-loop-one l =
    HasSeen l.seen l.callee.written (map passed_of (take l.one-index l.passed))
    × (earlier l.first (earliest (passed_twice l.callee.written (map passed_of (take l.one-index l.passed)) (map passed_of (drop l.one-index l.passed))))
    ≡ earliest (passed_twice l.callee.written [] (map passed_of l.fn.passed)))
