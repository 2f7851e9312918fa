use Rattle.std.proofs.Common.{rules, true, refl, sym, subst}
use Rattle.std.specs.Int.{w128}
use Rattle.std.proofs.lemmas.Int.{to_z-of_z}
use Rattle.jz_unrolling_values.specs.Numbers.{SetsIf}
use Rattle.jz_unrolling.proofs.statements.set_if.Goals as goal

pub returns-then-not-set : goal.returns-then-not-set
returns-then-not-set c =
    let k = c.args.known.now in
    subst (λ b. SetsIf b k k c.args.var.now c.args.number) (sym c.if-not-set.true) refl

pub returns : goal.returns
returns c =
    subst (λ b. SetsIf b c.args.known.now c.set.new.self c.args.var.now c.args.number) (sym c.if-not-set.false)
    (subst (λ m. SetsIf true c.args.known.now c.set.new.self c.args.var.now m) (to_z-of_z w128 c.args.number (search rules)) c.in_ok-set.ensures)
