use Rattle.std.specs.Int.{w128}
use Rattle.std.proofs.Common.{◌≡◌, ◌+◌, ◌-◌, ◌*◌, ◌/◌, ◌<◌, ◌≤◌, rules, ap, sym, ◌∙◌, arith}
use Rattle.jz_tree.specs.declared.expr.Expr.{size-Expr}
use Rattle.jz_meaning.specs.Values.{own_size}
use Rattle.std.proofs.lemmas.Int.{to_z-of_z}
use Rattle.x64_insn.specs.Words.{residue}
use Rattle.jz_intervals.specs.Intervals.{only}
use Rattle.jz_facts.specs.Intervals.{interval}
use Rattle.jz_terms.proofs.TermForms.{term_num, term_bool, term_var, term_cell, term_load, term_neg, term_not}
use Rattle.jz_fact_readings.proofs.LeftSides.{down_within}
use Rattle.jz_fact_readings.proofs.Walking.{one_up_is, cast_signed, cast_plain, start_below}
use Rattle.jz_fact_readings.proofs.walk.+interval.Goals as goal

pub climb-climb-middle-requires : goal.climb-climb-middle-requires
climb-climb-middle-requires g t c κs within =
    let n = c.args.steps in
    let h : n / 2 ≤ n = omega arith in
    let w = down_within (n / 2) c.args.e.now c.down-lower.result.now c.down-lower.ensures in
    let below : 8589934592 * size-Expr c.down-lower.result.now + (n - n / 2) < t = omega (arith, w, c.decreases, c.if-steps-eq0.false, c.if-steps-eq1.false) in
    let start = start_below (g.K.Knows.given c.args.set.now) (g.K.Knows.facts c.args.set.now) c.args.size (n / 2) n c.args.e.now c.down-lower.result.now c.args.start h c.down-lower.ensures c.requires.start in
    (below, (within, (omega (arith, c.requires.few), start)))

pub one_up-returns-in-Bin : goal.one_up-returns-in-Bin
one_up-returns-in-Bin g t c = c.operation.ensures ∙ one_up_is (g.K.Knows.given c.args.set.now) (g.K.Knows.facts c.args.set.now) c.args.size c.args.e.now c.in-Bin.op _ _ _ c.get.result.now c.args.left c.in-Bin.is c.get.ensures c.requires

pub single-returns-then-signed : goal.single-returns-then-signed
single-returns-then-signed g t c = c.each-then-signed.ensures ∙ cast_signed (g.K.Knows.given c.args.set.now) (g.K.Knows.facts c.args.set.now) c.args.size c.args.e.now _ _ _ _ c.in-Cast.is c.if-signed.true

pub single-returns-else-signed : goal.single-returns-else-signed
single-returns-else-signed g t c =
    c.fitted.ensures
    ∙ cast_plain (g.K.Knows.given c.args.set.now) (g.K.Knows.facts c.args.set.now) c.args.size c.args.e.now _ _ _ _ c.get-in-Cast.result.now c.own_size.result c.unwrap_or-own.result c.interval.result c.in-Cast.is c.if-signed.false c.get-in-Cast.ensures
    (c.own_size.ensures ∙ ap own_size (c.get.ensures ∙ sym c.get-in-Cast.ensures)) c.unwrap_or-own.ensures c.interval.ensures

pub single-returns-in-Num : goal.single-returns-in-Num
single-returns-in-Num g t c = c.only.ensures ∙ ap only (c.bits.ensures.value ∙ c.residue.ensures.bits ∙ ap (residue c.args.size) (to_z-of_z w128 c.in-Num.n (search rules))) ∙ sym (ap (interval (g.K.Knows.given c.args.set.now) (g.K.Knows.facts c.args.set.now) c.args.size) (term_num _ _ _ c.in-Num.is))

pub single-returns-in-Bool : goal.single-returns-in-Bool
single-returns-in-Bool g t c = c.each.ensures ∙ sym (ap (interval (g.K.Knows.given c.args.set.now) (g.K.Knows.facts c.args.set.now) c.args.size) (term_bool _ _ _ c.in-Bool.is))

pub single-returns-in-Var : goal.single-returns-in-Var
single-returns-in-Var g t c = c.interval_of.ensures ∙ sym (ap (interval (g.K.Knows.given c.args.set.now) (g.K.Knows.facts c.args.set.now) c.args.size) (term_var _ _ c.in-Var.is))

pub single-returns-in-Cell : goal.single-returns-in-Cell
single-returns-in-Cell g t c = c.each-in-Cell.ensures ∙ sym (ap (interval (g.K.Knows.given c.args.set.now) (g.K.Knows.facts c.args.set.now) c.args.size) (term_cell _ _ _ c.in-Cell.is))

pub single-returns-in-Load : goal.single-returns-in-Load
single-returns-in-Load g t c = c.each-in-Load.ensures ∙ sym (ap (interval (g.K.Knows.given c.args.set.now) (g.K.Knows.facts c.args.set.now) c.args.size) (term_load _ _ c.in-Load.is))

pub single-returns-in-Neg : goal.single-returns-in-Neg
single-returns-in-Neg g t c = c.each-in-Neg.ensures ∙ sym (ap (interval (g.K.Knows.given c.args.set.now) (g.K.Knows.facts c.args.set.now) c.args.size) (term_neg _ _ _ c.in-Neg.is))

pub single-returns-in-Not : goal.single-returns-in-Not
single-returns-in-Not g t c = c.each-in-Not.ensures ∙ sym (ap (interval (g.K.Knows.given c.args.set.now) (g.K.Knows.facts c.args.set.now) c.args.size) (term_not _ _ _ c.in-Not.is))
