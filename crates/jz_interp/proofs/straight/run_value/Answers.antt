use Rattle.std.proofs.Common.{◌≡◌}
use Rattle.jz_meaning.specs.Trees.{op}
use Rattle.jz_meaning.specs.Attempts.{changed, numbers_first}
use Rattle.jz_meaning.specs.Stores.{state_of}
use Rattle.jz_meaning.specs.Statements.{does}
use Rattle.jz_interp.specs.InnerParts.{value_assignment}
use Rattle.jz_interp.specs.InnerEnds.{PieceGoes}
use Rattle.jz_meaning.proofs.AttemptLemmas.{handed_on}
use Rattle.jz_interp.proofs.Rules.{operation_stuck, operation_leads}
use Rattle.jz_interp.proofs.straight.run_value.Goals as goal

pub returns-in_err-assign : goal.returns-in_err-assign
returns-in_err-assign c =
    let o = value_assignment c.args.assignment c.args.value.now in
    let s = state_of c.args.state.now in let t = state_of c.assign.new.state in
    handed_on c.from_residual.result c.in_err-assign.field-0.0
    (λ r. changed c.assign.new.out t r ≡ numbers_first c.new-numbers.result (does o s))
    (PieceGoes (op o) c.args.fuel s t) c.from_residual.ensures.1 c.in_err-assign.ensures
    (operation_stuck o c.args.fuel s c.new-numbers.result c.new-numbers.ensures)

pub returns : goal.returns
returns c =
    operation_leads (value_assignment c.args.assignment c.args.value.now) c.args.fuel
    (state_of c.args.state.now) (state_of c.assign.new.state) c.new-numbers.result c.assign.new.out
    c.in_ok-leaked.leaked c.new-numbers.ensures c.in_ok-assign.ensures c.in_ok-leaked.ensures
