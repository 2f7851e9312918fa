use Rattle.std.proofs.Common.{rules, sym, ◌∙◌}
use Rattle.jz_operands.specs.TableHomes.{homes_of}
use Rattle.jz_operands.proofs.SumLemmas.{none_or}
use Rattle.jz_pinned_rows.proofs.PartLemmas.{clash}
use Rattle.jz_instructions.specs.InnerRows.{IsByteRow}
use Rattle.jz_instructions.proofs.TestLemmas.{no_byte_dest, no_byte_condition, no_byte_code, byte_is}
use Rattle.jz_instructions.proofs.testing.byte_row.Goals as goal

pub returns : goal.returns
returns c = byte_is (homes_of c.args.homes.now) c.args.to.now c.args.condition.now c.in_ok-test.test c.in_ok-found.found c.in_ok-test.ensures c.in_ok-found.ensures c.told.result c.no_flags.result (sym c.can_encode.ensures ∙ c.if-not-can_encode.false) c.told.ensures c.no_flags.ensures

pub returns-in_err-found : goal.returns-in_err-found
returns-in_err-found c = none_or (IsByteRow (homes_of c.args.homes.now) c.args.to.now c.args.condition.now) c.from_residual.result (search rules) (no_byte_dest (homes_of c.args.homes.now) c.args.to.now c.args.condition.now c.in_err-found.ensures)

pub returns-in_err-test : goal.returns-in_err-test
returns-in_err-test c = none_or (IsByteRow (homes_of c.args.homes.now) c.args.to.now c.args.condition.now) c.from_residual-in_err-test.result (search rules) (no_byte_condition (homes_of c.args.homes.now) c.args.to.now c.args.condition.now c.in_err-test.ensures)

pub returns-then-not-can_encode : goal.returns-then-not-can_encode
returns-then-not-can_encode c = no_byte_code (homes_of c.args.homes.now) c.args.to.now c.args.condition.now c.in_ok-test.test c.in_ok-found.found c.in_ok-test.ensures c.in_ok-found.ensures (λ can. clash c.can_encode.result c.if-not-can_encode.true (c.can_encode.ensures ∙ can))
