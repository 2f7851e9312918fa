use Rattle.std.proofs.Common.{arith, drop}
use Rattle.std.proofs.lemmas.List.{drop_all}
use Rattle.jz_type_storage.specs.Paths.{setting}
use Rattle.jz_type_storage.specs.InnerWalks.{members}
use Rattle.jz_type_storage.proofs.Walking.{walking_begins, walking_on, walking_ends}
use Rattle.jz_type_storage.proofs.walk.set_lefts.Goals as goal

pub loop-lval-init : goal.loop-lval-init
loop-lval-init c = walking_begins (members c.args.asked.now.keys) setting c.args.to.now c.args.set.now.keys

pub loop-lval-preserved : goal.loop-lval-preserved
loop-lval-preserved c =
    walking_on (members c.args.asked.now.keys) setting c.args.to.now c.args.to.now c.loop-lval.lval-index c.lval-item.result c.args.set.now.keys c.loop-lval.set.keys c.set_left.new.set.keys
    c.loop-lval.best c.earlier_of-best.result c.in_ok-set_left.field-0 c.loop-lval-test.true c.lval-item.is c.loop-lval.invariant c.in_ok-set_left.ensures c.earlier_of-best.ensures.is

pub returns : goal.returns
returns c =
    walking_ends (members c.args.asked.now.keys) setting c.args.to.now (drop c.loop-lval.lval-index c.args.to.now) c.args.set.now.keys c.loop-lval.set.keys c.loop-lval.best
    (drop_all c.loop-lval.lval-index c.args.to.now (omega arith)) c.loop-lval.invariant
