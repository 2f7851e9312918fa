use Rattle.std.proofs.Common.{rules, sym, ◌∙◌}
use Rattle.jasminc_source.proofs.Finding.{found_here, not_here, none_left}
use Rattle.jasminc_source.proofs.exports.place_of.Goals as goal

pub returns-then-has_name-clause-found : goal.returns-then-has_name-clause-found
returns-then-has_name-clause-found c =
    found_here c.args.name.now c.args.funs.now c.loop-i.i c.loop-i.invariant c.fun-item.result (search rules) (search rules) (sym c.has_name.ensures ∙ c.if-has_name.true)

pub loop-i-preserved : goal.loop-i-preserved
loop-i-preserved c =
    not_here c.args.name.now c.args.funs.now c.loop-i.i c.loop-i.invariant c.fun-item.result (search rules) (search rules) (sym c.has_name.ensures ∙ c.if-has_name.false)

pub returns-clause-none : goal.returns-clause-none
returns-clause-none c = λ e. none_left c.args.name.now c.args.funs.now c.loop-i.i c.loop-i.invariant (search rules)
