use Rattle.std.proofs.Common.{◌∙◌, ℕ, sym, subst}
use Rattle.std.specs.Prelude.{Option}
use Rattle.jz_inputs.specs.Held.{FindsUnmet}
use Rattle.jasminc_calls.proofs.Suiting.{breaks, suits}
use Rattle.jasminc_calls.proofs.fitting.called_on.Goals as goal

pub returns-then-len : goal.returns-then-len
returns-then-len c = λ e. c.if-len.true (c.len.ensures ∙ e ∙ sym c.len-2.ensures)

pub returns-in-Some : goal.returns-in-Some
returns-in-Some c =
    let f = c.args.function.now in
    let called = c.in_ok-called.called in
    let items = c.args.items.now in
    let many = sym c.len.ensures ∙ c.if-len.false ∙ c.len-2.ensures in
    let first = subst (λ (o : Option ℕ). FindsUnmet f called.bits items called.pres o) c.in-Some.is c.first_unmet.ensures in
    (many, breaks f items called c.in_ok-called.ensures c.in-Some.at c.taken.result first c.taken.ensures)

pub returns-in-None : goal.returns-in-None
returns-in-None c =
    let f = c.args.function.now in
    let called = c.in_ok-called.called in
    let items = c.args.items.now in
    let many = sym c.len.ensures ∙ c.if-len.false ∙ c.len-2.ensures in
    suits f items called c.in_ok-called.ensures many (subst (λ (o : Option ℕ). FindsUnmet f called.bits items called.pres o) c.in-None.is c.first_unmet.ensures)
