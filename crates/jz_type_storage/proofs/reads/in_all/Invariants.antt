use Rattle.std.proofs.Common.{◌≡◌, drop, map}
use Rattle.jz_type_names.specs.Order.{earlier}
use Rattle.jz_type_storage.specs.Paths.{in_turn, reading_expr}
use Rattle.jz_type_storage.specs.InnerSurely.{first}
use Rattle.jz_type_storage.specs.InnerWalks.{members}
use Rattle.jz_type_storage.proofs.reads.in_all.Given as goal

abbrev pub invariant-loop-expr : goal.invariant-loop-expr
invariant-loop-expr l =
    let a = members l.asked.keys in
    let s = members l.set.keys in
    earlier l.best (first a (in_turn (map reading_expr (drop l.expr-index l.exprs))) s) ≡ first a (in_turn (map reading_expr l.exprs)) s
