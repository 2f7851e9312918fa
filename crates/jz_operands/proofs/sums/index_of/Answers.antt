use Rattle.std.proofs.Common.{rules}
use Rattle.jz_operands.specs.TableHomes.{homes_of}
use Rattle.jz_operands.specs.declared.sums.Index.{Index}
use Rattle.jz_operands.specs.InnerSums.{IsIndexOf}
use Rattle.jz_operands.proofs.SumLemmas.{none_or}
use Rattle.jz_operands.proofs.SumRefusals.{no_offset, no_index_factor, no_index}
use Rattle.jz_operands.proofs.sums.index_of.Goals as goal

pub returns-in_err-offset : goal.returns-in_err-offset
returns-in_err-offset c =
    none_or {A = Index} (λ i. IsIndexOf (homes_of c.args.homes.now) c.args.at.now i.variable i.offset) c.from_residual-in_err-offset.result (search rules) (no_offset (homes_of c.args.homes.now) c.args.at.now c.in_ok-terms.terms c.in_ok-terms.ensures c.in_err-offset.ensures)

pub returns-else-term-eq1 : goal.returns-else-term-eq1
returns-else-term-eq1 c = no_index_factor (homes_of c.args.homes.now) c.args.at.now c.in_ok-terms.terms c.in-One.term c.in_ok-terms.ensures c.in-One.is c.if-term-eq1.false

pub returns-in-Two : goal.returns-in-Two
returns-in-Two c = no_index (homes_of c.args.homes.now) c.args.at.now c.in_ok-terms.terms c.in-Two.field-0 c.in-Two.field-1 c.in_ok-terms.ensures c.in-Two.is
