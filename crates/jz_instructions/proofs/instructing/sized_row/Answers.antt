use Rattle.std.proofs.Common.{None, Some, rules}
use Rattle.jz_operands.specs.TableHomes.{homes_of}
use Rattle.jz_operands.proofs.SumLemmas.{none_or}
use Rattle.jz_pinned_rows.proofs.PartLemmas.{clash}
use Rattle.jz_instructions.specs.InnerRows.{IsSized}
use Rattle.jz_instructions.proofs.NamedLemmas.{formed_as, no_instruction_size, no_sized_row, no_sized_code}
use Rattle.jz_instructions.proofs.instructing.sized_row.Goals as goal

pub returns-in_err-size : goal.returns-in_err-size
returns-in_err-size c = none_or (IsSized (homes_of c.args.homes.now) c.args.instance c.args.to.now c.args.args.now) c.from_residual.result (search rules) (no_instruction_size (homes_of c.args.homes.now) c.args.instance c.args.to.now c.args.args.now (search rules))

pub returns-in_err-row : goal.returns-in_err-row
returns-in_err-row c = none_or (IsSized (homes_of c.args.homes.now) c.args.instance c.args.to.now c.args.args.now) c.from_residual-in_err-row.result (search rules) (no_sized_row (homes_of c.args.homes.now) c.args.instance c.args.to.now c.args.args.now c.in_ok-size.size (search rules)
    (formed_as (homes_of c.args.homes.now) c.in_ok-size.size c.args.instance.name c.as_slice-2.result.now c.args.to.now c.as_slice-3.result.now c.args.args.now None c.as_slice-2.ensures c.as_slice-3.ensures c.in_err-row.ensures))

pub returns-else-can_encode_all : goal.returns-else-can_encode_all
returns-else-can_encode_all c =
    no_sized_code (homes_of c.args.homes.now) c.args.instance c.args.to.now c.args.args.now c.in_ok-size.size c.in_ok-row.row (search rules)
    (formed_as (homes_of c.args.homes.now) c.in_ok-size.size c.args.instance.name c.as_slice-2.result.now c.args.to.now c.as_slice-3.result.now c.args.args.now (Some c.in_ok-row.row) c.as_slice-2.ensures c.as_slice-3.ensures c.in_ok-row.ensures) (λ can. clash c.can_encode_all.result c.if-can_encode_all.false (c.can_encode_all.ensures.1 can))

pub returns-then-can_encode_all : goal.returns-then-can_encode_all
returns-then-can_encode_all c = record {
  size = c.in_ok-size.size;
  is_size = search rules;
  row = formed_as (homes_of c.args.homes.now) c.in_ok-size.size c.args.instance.name c.as_slice-2.result.now c.args.to.now c.as_slice-3.result.now c.args.args.now (Some c.in_ok-row.row) c.as_slice-2.ensures c.as_slice-3.ensures c.in_ok-row.ensures;
  can = c.can_encode_all.ensures.0 c.if-can_encode_all.true;
}
