use Rattle.std.proofs.Common.{refl, arith, ◌∙◌, ap}
use Rattle.jz_type_names.specs.Scopes.{name_of}
use Rattle.jz_type_storage.specs.Paths.{reads}
use Rattle.jz_type_storage.specs.InnerSurely.{first}
use Rattle.jz_type_storage.specs.InnerWalks.{members}
use Rattle.jz_type_storage.proofs.Walking.{turn_more, turn_ends, names_turn}
use Rattle.jz_type_storage.proofs.reads.among.Goals as goal

pub loop-var-preserved : goal.loop-var-preserved
loop-var-preserved c =
    turn_more (members c.args.asked.now.keys) (λ v. reads (name_of v.now)) (λ v s. refl) (members c.args.set.now.keys) c.args.vars.now c.loop-var.var-index c.var-item.result
    c.loop-var.best c.earlier_of-best.result c.missing.result _ c.loop-var-test.true c.var-item.is c.missing.ensures c.earlier_of-best.ensures.is c.loop-var.invariant

pub returns : goal.returns
returns c =
    let a = members c.args.asked.now.keys in
    let s = members c.args.set.now.keys in
    turn_ends a (λ v. reads (name_of v.now)) s c.args.vars.now c.loop-var.var-index c.loop-var.best _ (omega arith) c.loop-var.invariant
    ∙ ap (λ g. first a g s) (names_turn c.args.vars.now)
