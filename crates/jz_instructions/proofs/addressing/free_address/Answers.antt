use Rattle.std.proofs.Common.{rules, w32, ◌∙◌}
use Rattle.std.proofs.lemmas.Int.{to_z-of_z}
use Rattle.jz_operands.specs.TableHomes.{homes_of}
use Rattle.jz_operands.proofs.SumLemmas.{none_or}
use Rattle.jz_instructions.specs.InnerRows.{IsLeaOf}
use Rattle.jz_instructions.proofs.AddressLemmas.{number_address, index_address, no_sum_free, no_free_disp, no_free_base, no_free_scale, no_free_two}
use Rattle.jz_instructions.proofs.addressing.free_address.Goals as goal

pub returns-in_err-terms : goal.returns-in_err-terms
returns-in_err-terms c = none_or (IsLeaOf (homes_of c.args.homes.now) c.args.at.now) c.from_residual.result (search rules) (no_sum_free (homes_of c.args.homes.now) c.args.at.now c.in_err-terms.ensures)

pub returns-in_err-disp : goal.returns-in_err-disp
returns-in_err-disp c = none_or (IsLeaOf (homes_of c.args.homes.now) c.args.at.now) c.from_residual-in_err-disp.result (search rules) (no_free_disp (homes_of c.args.homes.now) c.args.at.now c.in_ok-terms.terms c.in_ok-terms.ensures c.in_err-disp.ensures)

pub returns-in-Nothing : goal.returns-in-Nothing
returns-in-Nothing c = number_address (homes_of c.args.homes.now) c.args.at.now c.in_ok-terms.terms _ c.in_ok-terms.ensures c.in-Nothing.is (to_z-of_z w32 c.in_ok-disp.disp (search rules) ∙ c.in_ok-disp.ensures)

pub returns-then-term-eq1 : goal.returns-then-term-eq1
returns-then-term-eq1 c = no_free_base (homes_of c.args.homes.now) c.args.at.now c.in_ok-terms.terms c.in_ok-terms.ensures c.in-One.term c.in-One.is c.if-term-eq1.true

pub returns-in_err-scale-in-One : goal.returns-in_err-scale-in-One
returns-in_err-scale-in-One c = none_or (IsLeaOf (homes_of c.args.homes.now) c.args.at.now) c.from_residual-in_err-scale-in-One.result (search rules) (no_free_scale (homes_of c.args.homes.now) c.args.at.now c.in_ok-terms.terms c.in_ok-terms.ensures c.in-One.term c.in-One.is c.in_err-scale-in-One.ensures)

pub returns-in_ok-scale-in-One : goal.returns-in_ok-scale-in-One
returns-in_ok-scale-in-One c = index_address (homes_of c.args.homes.now) c.args.at.now c.in_ok-terms.terms c.in-One.term c.in_ok-scale-in-One.scale _ c.in_ok-terms.ensures c.in-One.is c.if-term-eq1.false c.in_ok-scale-in-One.ensures (to_z-of_z w32 c.in_ok-disp.disp (search rules) ∙ c.in_ok-disp.ensures)

pub returns-in-Two : goal.returns-in-Two
returns-in-Two c = no_free_two (homes_of c.args.homes.now) c.args.at.now c.in_ok-terms.terms c.in_ok-terms.ensures c.in-Two.field-0 c.in-Two.field-1 c.in-Two.is
