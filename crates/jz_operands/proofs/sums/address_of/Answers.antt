use Rattle.std.proofs.Common.{rules}
use Rattle.jz_operands.specs.TableHomes.{homes_of}
use Rattle.jz_operands.specs.InnerSums.{IsAddressOf}
use Rattle.jz_operands.proofs.SumLemmas.{none_or}
use Rattle.jz_operands.proofs.SumRefusals.{no_sum_address, no_displacement, no_base, no_factor, no_based}
use Rattle.jz_operands.proofs.sums.address_of.Goals as goal

pub returns-in_err-terms : goal.returns-in_err-terms
returns-in_err-terms c = none_or (IsAddressOf (homes_of c.args.homes.now) c.args.at.now) c.from_residual.result (search rules) (no_sum_address (homes_of c.args.homes.now) c.args.at.now c.in_err-terms.ensures)

pub returns-in_err-disp : goal.returns-in_err-disp
returns-in_err-disp c =
    none_or (IsAddressOf (homes_of c.args.homes.now) c.args.at.now) c.from_residual-in_err-disp.result (search rules) (no_displacement (homes_of c.args.homes.now) c.args.at.now c.in_ok-terms.terms c.in_ok-terms.ensures c.in_err-disp.ensures)

pub returns-in_err-base-in-Two : goal.returns-in_err-base-in-Two
returns-in_err-base-in-Two c =
    none_or (IsAddressOf (homes_of c.args.homes.now) c.args.at.now) c.from_residual-in_err-base-in-Two.result (search rules)
    (no_based (homes_of c.args.homes.now) c.args.at.now c.in_ok-terms.terms c.in-Two.first c.in-Two.second c.in_ok-terms.ensures c.in-Two.is c.in_err-base-in-Two.ensures)

pub returns-in-Nothing : goal.returns-in-Nothing
returns-in-Nothing c = no_base (homes_of c.args.homes.now) c.args.at.now c.in_ok-terms.terms c.in_ok-terms.ensures c.in-Nothing.is

pub returns-else-term-eq1 : goal.returns-else-term-eq1
returns-else-term-eq1 c = no_factor (homes_of c.args.homes.now) c.args.at.now c.in_ok-terms.terms c.in-One.term c.in_ok-terms.ensures c.in-One.is c.if-term-eq1.false
