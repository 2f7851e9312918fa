use Rattle.std.proofs.lemmas.Bool.Decides.{same_from_decides}
use Rattle.jz_tree.specs.Deciding.{same_expr_decides}
use Rattle.jz_tree.proofs.comparing.ExprPartialEq.eq.Goals as goal

pub returns-clause-value : goal.returns-clause-value
returns-clause-value c = same_from_decides _ _ c.same.ensures (same_expr_decides c.args.self.now c.args.other.now)
