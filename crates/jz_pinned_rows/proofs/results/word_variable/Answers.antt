use Rattle.std.proofs.Common.{rules, sym, ◌∙◌}
use Rattle.jz_operands.specs.TableHomes.{homes_of}
use Rattle.jz_rows.proofs.RowLemmas.{size_differs}
use Rattle.jz_pinned_rows.proofs.ResultLemmas.{no_word_kind, no_word_size}
use Rattle.jz_pinned_rows.proofs.results.word_variable.Goals as goal

pub returns-else-same_size : goal.returns-else-same_size
returns-else-same_size c =
    no_word_size (homes_of c.args.homes.now) c.args.size c.args.var.now c.in-Word.own (sym c.kind_of.ensures ∙ c.in-Word.is) (size_differs c.in-Word.own c.args.size (sym c.same_size.ensures ∙ c.if-same_size.false))

pub returns-in-Undeclared : goal.returns-in-Undeclared
returns-in-Undeclared c = no_word_kind (homes_of c.args.homes.now) c.args.size c.args.var.now (search rules)

pub returns-in-Int : goal.returns-in-Int
returns-in-Int c = no_word_kind (homes_of c.args.homes.now) c.args.size c.args.var.now (search rules)

pub returns-in-Bool : goal.returns-in-Bool
returns-in-Bool c = no_word_kind (homes_of c.args.homes.now) c.args.size c.args.var.now (search rules)

pub returns-in-Array : goal.returns-in-Array
returns-in-Array c = no_word_kind (homes_of c.args.homes.now) c.args.size c.args.var.now (search rules)
