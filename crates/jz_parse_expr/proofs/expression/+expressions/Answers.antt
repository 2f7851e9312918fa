use Rattle.std.proofs.Common.{subst}
use Rattle.jz_grammar.specs.Gave.{Gave}
use Rattle.jz_parse_expr.proofs.Laws.{unary_is}
use Rattle.jz_parse_expr.proofs.expression.+expressions.Goals as goal

pub unary-returns : goal.unary-returns
unary-returns t c = subst (λ z. Gave c.unary_form.result c.unary_form.new.c z) (unary_is c.args.depth c.args.c.now) c.unary_form.ensures
