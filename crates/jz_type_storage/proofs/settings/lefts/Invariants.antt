use Rattle.std.proofs.Common.{◌≡◌, drop}
use Rattle.jz_type_names.specs.Order.{earlier}
use Rattle.jz_type_storage.specs.Settings.{around}
use Rattle.jz_type_storage.specs.InnerFirstSet.{first_lefts}
use Rattle.jz_type_storage.proofs.settings.lefts.Given as goal

abbrev pub invariant-loop-lval : goal.invariant-loop-lval
invariant-loop-lval l =
    let w = around l.inside l.counters in
    earlier l.best (first_lefts (drop l.lval-index l.to) w) ≡ first_lefts l.to w
