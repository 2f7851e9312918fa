use Rattle.std.proofs.Common.{subst}
use Rattle.jz_grammar.specs.Gave.{Gave}
use Rattle.jz_parse.proofs.StmtReads.{stmts_is, ifs_is}
use Rattle.jz_parse.proofs.statement.+statements.Goals as goal

pub stmt-returns : goal.stmt-returns
stmt-returns t c = subst (λ z. Gave c.stmt_in.result c.stmt_in.new.c z) (stmts_is c.args.depth c.args.c.now) c.stmt_in.ensures

pub nested_if-returns : goal.nested_if-returns
nested_if-returns t c = subst (λ z. Gave c.if_rest.result c.if_rest.new.c z) (ifs_is c.args.depth c.args.c.now) c.if_rest.ensures
