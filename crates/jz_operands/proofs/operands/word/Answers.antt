use Rattle.std.proofs.Common.{◌≡◌, Some, sym, ◌∙◌, subst}
use Rattle.jz_meaning.specs.Values.{key_of, ref_of}
use Rattle.jz_operands.specs.TableHomes.{scalar_home, homes_of}
use Rattle.jz_operands.proofs.OperandRefusals.{no_scalar, other_word, other_slot, never_word, never_word_dest}
use Rattle.jz_operands.proofs.operands.word.Goals as goal

pub returns-in-None-clause-read : goal.returns-in-None-clause-read
returns-in-None-clause-read c =
    let home = homes_of c.args.homes.now in
    never_word home c.args.size c.args.var.now (no_scalar c.args.size (home (key_of (ref_of c.args.var.now))) c.in-None.ensures)

pub returns-in-None-clause-written : goal.returns-in-None-clause-written
returns-in-None-clause-written c = λ k.
    let home = homes_of c.args.homes.now in
    never_word_dest home c.args.size c.args.var.now (no_scalar c.args.size (home (key_of (ref_of c.args.var.now))) c.in-None.ensures)

pub returns-else-same_size-clause-read : goal.returns-else-same_size-clause-read
returns-else-same_size-clause-read c =
    let home = homes_of c.args.homes.now in
    let h = home (key_of (ref_of c.args.var.now)) in
    never_word home c.args.size c.args.var.now
    (other_word c.args.size h c.in-Some-Word.n c.in-Some-Word.z (subst (λ f. h ≡ scalar_home (Some f)) c.in-Some-Word.field-0-is c.in-Some-Word.ensures) (sym c.same_size.ensures ∙ c.if-same_size.false))

pub returns-else-same_size-clause-written : goal.returns-else-same_size-clause-written
returns-else-same_size-clause-written c = λ k.
    let home = homes_of c.args.homes.now in
    let h = home (key_of (ref_of c.args.var.now)) in
    never_word_dest home c.args.size c.args.var.now
    (other_word c.args.size h c.in-Some-Word.n c.in-Some-Word.z (subst (λ f. h ≡ scalar_home (Some f)) c.in-Some-Word.field-0-is c.in-Some-Word.ensures) (sym c.same_size.ensures ∙ c.if-same_size.false))

pub returns-else-same_size-2-clause-read : goal.returns-else-same_size-2-clause-read
returns-else-same_size-2-clause-read c =
    let home = homes_of c.args.homes.now in
    let h = home (key_of (ref_of c.args.var.now)) in
    never_word home c.args.size c.args.var.now
    (other_slot c.args.size h c.in-Some-Slot.w c.in-Some-Slot.z (subst (λ f. h ≡ scalar_home (Some f)) c.in-Some-Slot.field-0-is c.in-Some-Slot.ensures) (sym c.same_size-in-Some-Slot.ensures ∙ c.if-same_size-2.false))

pub returns-else-same_size-2-clause-written : goal.returns-else-same_size-2-clause-written
returns-else-same_size-2-clause-written c = λ k.
    let home = homes_of c.args.homes.now in
    let h = home (key_of (ref_of c.args.var.now)) in
    never_word_dest home c.args.size c.args.var.now
    (other_slot c.args.size h c.in-Some-Slot.w c.in-Some-Slot.z (subst (λ f. h ≡ scalar_home (Some f)) c.in-Some-Slot.field-0-is c.in-Some-Slot.ensures) (sym c.same_size-in-Some-Slot.ensures ∙ c.if-same_size-2.false))
