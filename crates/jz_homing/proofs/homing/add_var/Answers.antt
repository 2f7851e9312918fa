use Rattle.jz_meaning.specs.Values.{ref_of}
use Rattle.jz_homing.specs.Tables.{table_in}
use Rattle.jz_homing.specs.Refusals.{NoVariable, NoStacked, HasNoHome}
use Rattle.jz_homing.proofs.HomelessLemmas.{At, refuses_as, in_registers, on_stack, undeclared}
use Rattle.jz_homing.proofs.homing.add_var.Goals as goal

pub returns-in-None-clause-refused : goal.returns-in-None-clause-refused
returns-in-None-clause-refused c = undeclared c.args.var.now (table_in c.args.table.now) c.in-None.is

pub returns-in-Reg-clause-refused : goal.returns-in-Reg-clause-refused
returns-in-Reg-clause-refused c =
    let x = c.args.var.now in
    let t = table_in c.args.table.now in
    refuses_as (At x (NoVariable t (ref_of x).kind)) (At x (HasNoHome t x)) c.add_register.result (λ s h. in_registers x t s c.in-Some.decl c.in-Some.is c.in-Reg.is h) c.add_register.ensures.refused

pub returns-in-Stack-clause-refused : goal.returns-in-Stack-clause-refused
returns-in-Stack-clause-refused c =
    let x = c.args.var.now in
    let t = table_in c.args.table.now in
    refuses_as (At x (NoStacked t (ref_of x).kind)) (At x (HasNoHome t x)) c.add_stacked.result (λ s h. on_stack x t s c.in-Some.decl c.in-Some.is c.in-Stack.is h) c.add_stacked.ensures.refused
