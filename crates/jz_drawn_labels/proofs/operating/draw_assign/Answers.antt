use Rattle.std.proofs.Common.{refl}
use Rattle.jz_meaning.specs.Statements.{assign, instruction}
use Rattle.jz_labels.specs.Operations.{plain_of}
use Rattle.jz_drawn_labels.proofs.Operated.{operation_drew, value_drew, instruction_drew, call_drew, operated_drew, guarded_drew}
use Rattle.jz_drawn_labels.proofs.operating.draw_assign.Goals as goal

pub operate-requires : goal.operate-requires
operate-requires c = c.requires.low

pub operate-requires-in-None-cond : goal.operate-requires-in-None-cond
operate-requires-in-None-cond c = c.requires.low

pub returns-in_ok-operate-in-Value : goal.returns-in_ok-operate-in-Value
returns-in_ok-operate-in-Value c = λ at.
    let to = c.args.to.now in
    let d = c.args.drawing.now in
    let o = assign to c.args.op c.in-Value.value c.args.cond.now at in
    let e = c.in_ok-operate-in-Value.ensures in
    value_drew to c.args.op c.args.rhs.now c.args.cond.now at d c.operate.new.drawing c.in-Value.value c.in-Value.is
    (operation_drew o d c.operate.new.drawing e.low e.floor e.below (e.view (plain_of o) (c.in_ok-found-in-Value.ensures at) refl))

pub returns-in-Call : goal.returns-in-Call
returns-in-Call c = λ at. call_drew c.args.to.now c.args.op c.args.rhs.now c.args.cond.now at c.args.drawing.now c.requires _ _ _ c.in-Call.is

pub returns-in-Some : goal.returns-in-Some
returns-in-Some c = λ at.
    operated_drew c.args.to.now c.args.op c.args.rhs.now c.args.cond.now at c.args.drawing.now c.requires _ _ _ _ c.in-Intrinsic.is c.in-Some.is

pub returns-in-Some-cond : goal.returns-in-Some-cond
returns-in-Some-cond c = λ at.
    guarded_drew c.args.to.now c.args.op c.args.rhs.now c.args.cond.now at c.args.drawing.now c.requires _ _ _ _ c.in-Intrinsic.is c.in-None.is c.in-Some-cond.is

pub returns-in_ok-operate-in-None-cond : goal.returns-in_ok-operate-in-None-cond
returns-in_ok-operate-in-None-cond c = λ at.
    let to = c.args.to.now in
    let d = c.args.drawing.now in
    let o = instruction to c.in-Intrinsic.name c.in-Intrinsic.args c.in-Intrinsic.at in
    let e = c.in_ok-operate-in-None-cond.ensures in
    instruction_drew to c.args.op c.args.rhs.now c.args.cond.now at d c.operate-in-None-cond.new.drawing c.in-Intrinsic.name c.in-Intrinsic.args c.in-Intrinsic.at c.in-Intrinsic.is c.in-None.is c.in-None-cond.is
    (operation_drew o d c.operate-in-None-cond.new.drawing e.low e.floor e.below (e.view (plain_of o) c.in_ok-found-in-None-cond.ensures refl))
