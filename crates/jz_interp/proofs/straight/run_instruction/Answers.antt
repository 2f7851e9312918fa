use Rattle.jz_meaning.specs.Trees.{op}
use Rattle.jz_meaning.specs.Stores.{state_of}
use Rattle.jz_meaning.specs.Statements.{instruction}
use Rattle.jz_interp.specs.InnerParts.{named_instruction_tree}
use Rattle.jz_interp.specs.InnerEnds.{PieceGoes}
use Rattle.jz_meaning.proofs.AttemptLemmas.{handed_on}
use Rattle.jz_interp.proofs.Rules.{instruction_operates, instruction_conditioned, instruction_plain}
use Rattle.jz_interp.proofs.straight.run_instruction.Goals as goal

pub returns-in-Some : goal.returns-in-Some
returns-in-Some c =
    instruction_operates c.args.assignment.to.now c.args.named.name.now c.args.named.args.now
    c.args.named.span c.args.assignment.op c.args.assignment.cond.now c.args.fuel
    (state_of c.args.state.now) c.in-Some.field-0 c.missing.result c.in-Some.is c.missing.ensures

pub returns-in-Some-cond : goal.returns-in-Some-cond
returns-in-Some-cond c =
    instruction_conditioned c.args.assignment.to.now c.args.named.name.now c.args.named.args.now
    c.args.named.span c.args.assignment.op c.args.assignment.cond.now c.args.fuel
    (state_of c.args.state.now) c.in-Some-cond.field-0 c.missing-in-Some-cond.result
    c.in-None.is c.in-Some-cond.is c.missing-in-Some-cond.ensures
