use Rattle.std.proofs.Common.{ap, sym, ◌∙◌}
use Rattle.jz_type_names.specs.Lent.{call_of}
use Rattle.jz_type_storage.proofs.Naming.{called_some, called_unknown, called_none}
use Rattle.jz_type_storage.proofs.graph.add_called.Goals as goal

pub returns-in_ok-push : goal.returns-in_ok-push
returns-in_ok-push c = λ fs held.
    called_some fs c.args.stmt.now (call_of c.called_by.result) c.in-Some.name.now c.in-Some.field-0-1 c.in-Some-number.number c.args.list.now.items c.push.new.self.items
    c.called_by.ensures (ap call_of c.in-Some.is) (sym (held.named c.in-Some.name.now) ∙ (sym c.number.ensures ∙ c.in-Some-number.is)) c.in_ok-push.ensures.items

pub returns-in_default-number : goal.returns-in_default-number
returns-in_default-number c = λ fs held.
    called_unknown fs c.args.stmt.now (call_of c.called_by.result) c.in-Some.name.now c.in-Some.field-0-1 c.args.list.now.items
    c.called_by.ensures (ap call_of c.in-Some.is) (sym (held.named c.in-Some.name.now) ∙ (sym c.number.ensures ∙ c.in_default-number.is))

pub returns-in_default : goal.returns-in_default
returns-in_default c = λ fs held.
    called_none fs c.args.stmt.now (call_of c.called_by.result) c.args.list.now.items c.called_by.ensures (ap call_of c.in_default.is)
