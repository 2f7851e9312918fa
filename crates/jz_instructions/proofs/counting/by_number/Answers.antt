use Rattle.std.proofs.Common.{rules, sym, ◌∙◌}
use Rattle.std.proofs.lemmas.Int.{to_z-of_z}
use Rattle.std.specs.Int.{w128}
use Rattle.jz_tree.specs.declared.expr.Expr.TheVariants as expr
use Rattle.jz_operands.specs.TableHomes.{homes_of}
use Rattle.jz_operands.proofs.SumLemmas.{none_or}
use Rattle.jz_instructions.specs.declared.counting.Count.{Count}
use Rattle.jz_instructions.specs.InnerRows.{places_in, number_in}
use Rattle.jz_flag_rows.specs.Instructions.{IsCount}
use Rattle.jz_instructions.proofs.CountLemmas.{number_count, no_number_count}
use Rattle.jz_instructions.proofs.counting.by_number.Goals as goal

pub returns : goal.returns
returns c = λ at. number_count (homes_of c.args.homes.now) c.args.size c.args.number c.in_ok-places.places at (sym (to_z-of_z w128 c.args.number c.ranges.number) ∙ c.in_ok-places.ensures.0) c.in_ok-places.ensures.1

pub returns-in_err-places : goal.returns-in_err-places
returns-in_err-places c = λ at.
    none_or {A = Count} (λ n. IsCount (homes_of c.args.homes.now) c.args.size (expr.Num c.args.number at) (places_in n) (number_in n)) c.from_residual.result (search rules)
    (no_number_count (homes_of c.args.homes.now) c.args.size c.args.number at (λ n e less. c.in_err-places.ensures n (to_z-of_z w128 c.args.number c.ranges.number ∙ e) less))
