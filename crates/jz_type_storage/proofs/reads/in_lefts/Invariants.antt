use Rattle.std.proofs.Common.{◌≡◌, drop, map}
use Rattle.jz_type_names.specs.Order.{earlier}
use Rattle.jz_type_storage.specs.Paths.{in_turn, reading_left}
use Rattle.jz_type_storage.specs.InnerSurely.{first}
use Rattle.jz_type_storage.specs.InnerWalks.{members}
use Rattle.jz_type_storage.proofs.reads.in_lefts.Given as goal

abbrev pub invariant-loop-lval : goal.invariant-loop-lval
invariant-loop-lval l =
    let a = members l.asked.keys in
    let s = members l.set.keys in
    earlier l.best (first a (in_turn (map reading_left (drop l.lval-index l.to))) s) ≡ first a (in_turn (map reading_left l.to)) s
