use Rattle.std.proofs.Common.{◌∙◌, ap, sym, true}
use Rattle.jz_type_names.specs.Kinds.{is_inline_int}
use Rattle.jz_meaning.specs.States.{boolean}
use Rattle.jz_unrolling_values.proofs.NameLemmas.{added_inline, same_inline}
use Rattle.jz_unrolling_values.proofs.inline_vars.InlineVars.add.Goals as goal

pub returns-in_ok-put : goal.returns-in_ok-put
returns-in_ok-put c =
    λ vs h. added_inline c.args.self.now (record { marks = c.put.new.self }) vs c.args.var.now (boolean true)
    (sym (c.if-is_inline_int.ensures ∙ ap is_inline_int c.known.ensures)) c.in_ok-put.ensures h

pub returns-else-is_inline_int : goal.returns-else-is_inline_int
returns-else-is_inline_int c =
    λ vs h. same_inline c.args.self.now vs c.args.var.now (sym (c.if-is_inline_int.ensures ∙ ap is_inline_int c.known.ensures)) h
