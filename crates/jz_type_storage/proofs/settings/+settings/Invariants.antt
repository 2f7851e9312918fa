use Rattle.std.proofs.Common.{◌≡◌, drop}
use Rattle.jz_type_names.specs.Order.{earlier}
use Rattle.jz_type_storage.specs.Settings.{around}
use Rattle.jz_type_storage.specs.InnerFirstSet.{first_set_all}
use Rattle.jz_type_storage.proofs.settings.+settings.Given as goal

abbrev pub invariant-set_in_all-loop-stmt : goal.invariant-set_in_all-loop-stmt
invariant-set_in_all-loop-stmt l =
    let w = around l.inside l.initial.counters.items in
    (earlier l.best (first_set_all (drop l.stmt-index l.stmt-items) w) ≡ first_set_all l.stmts w) × (l.counters.items ≡ l.initial.counters.items)
