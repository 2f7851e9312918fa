use Rattle.jz_operands.specs.TableHomes.{homes_of}
use Rattle.jz_instructions.specs.declared.forms.Form.TheVariants as form
use Rattle.jz_instructions.proofs.NamedLemmas.{of_form, of_byte}
use Rattle.jz_instructions.proofs.instructing.acts_of.Goals as goal

pub returns-in-Two : goal.returns-in-Two
returns-in-Two c = of_form (homes_of c.args.homes.now) c.args.size c.args.to.now c.args.args.now c.args.form (form.Two c.in-Two.alu c.in-Two.swaps) c.two_at.result c.in-Two.is c.two_at.ensures

pub returns-in-Carried : goal.returns-in-Carried
returns-in-Carried c = of_form (homes_of c.args.homes.now) c.args.size c.args.to.now c.args.args.now c.args.form (form.Carried c.in-Carried.alu c.in-Carried.swaps) c.carried_at.result c.in-Carried.is c.carried_at.ensures

pub returns-in-One : goal.returns-in-One
returns-in-One c = of_form (homes_of c.args.homes.now) c.args.size c.args.to.now c.args.args.now c.args.form (form.One c.in-One.kind) c.one_at.result c.in-One.is c.one_at.ensures

pub returns-in-Swap : goal.returns-in-Swap
returns-in-Swap c = of_form (homes_of c.args.homes.now) c.args.size c.args.to.now c.args.args.now c.args.form form.Swap c.swap_at.result c.in-Swap.is c.swap_at.ensures

pub returns-in-Address : goal.returns-in-Address
returns-in-Address c = of_form (homes_of c.args.homes.now) c.args.size c.args.to.now c.args.args.now c.args.form form.Address c.lea_at.result c.in-Address.is c.lea_at.ensures

pub returns-in-Compare : goal.returns-in-Compare
returns-in-Compare c = of_form (homes_of c.args.homes.now) c.args.size c.args.to.now c.args.args.now c.args.form (form.Compare c.in-Compare.alu) c.compare_at.result c.in-Compare.is c.compare_at.ensures

pub returns-in-Shift : goal.returns-in-Shift
returns-in-Shift c = of_form (homes_of c.args.homes.now) c.args.size c.args.to.now c.args.args.now c.args.form (form.Shift c.in-Shift.kind) c.count_at.result c.in-Shift.is c.count_at.ensures

pub returns-in-Times : goal.returns-in-Times
returns-in-Times c = of_form (homes_of c.args.homes.now) c.args.size c.args.to.now c.args.args.now c.args.form form.Times c.times_at.result c.in-Times.is c.times_at.ensures

pub returns-in-Wide : goal.returns-in-Wide
returns-in-Wide c = of_form (homes_of c.args.homes.now) c.args.size c.args.to.now c.args.args.now c.args.form form.Wide c.wide_at.result c.in-Wide.is c.wide_at.ensures

pub returns-in-Divide : goal.returns-in-Divide
returns-in-Divide c = of_form (homes_of c.args.homes.now) c.args.size c.args.to.now c.args.args.now c.args.form form.Divide c.divide_at.result c.in-Divide.is c.divide_at.ensures

pub returns-in-Byte : goal.returns-in-Byte
returns-in-Byte c = of_byte (homes_of c.args.homes.now) c.args.size c.args.to.now c.args.args.now c.args.form c.in-Byte.is
