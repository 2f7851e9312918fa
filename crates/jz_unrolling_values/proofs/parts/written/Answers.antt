use Rattle.std.proofs.Common.{◌∙◌, ap, sym, rules}
use Rattle.std.specs.Int.{w128}
use Rattle.std.proofs.lemmas.Int.{to_z-of_z}
use Rattle.jz_tree.specs.declared.expr.Expr.TheVariants as expr
use Rattle.jz_unrolling_values.specs.Parts.{written_at}
use Rattle.jz_unrolling_values.proofs.parts.written.Goals as goal

pub returns-in-Int : goal.returns-in-Int
returns-in-Int c = ap (λ m. expr.Num m c.args.span) (to_z-of_z w128 c.in-Int.n (search rules)) ∙ ap (written_at c.args.span) (sym c.in-Int.is)
