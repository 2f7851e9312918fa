use Rattle.std.proofs.Common.{rules}
use Rattle.jz_operands.specs.TableHomes.{homes_of}
use Rattle.jz_operands.proofs.SumLemmas.{none_or}
use Rattle.jz_pinned_rows.specs.declared.row.Acts.{Acts}
use Rattle.jz_pinned_rows.specs.Rows.{actions_of, items_of}
use Rattle.jz_one_flag_row.specs.Forms.{IsComparison}
use Rattle.jz_one_flag_row.specs.Forms.{HasForm}
use Rattle.jz_one_flag_row.specs.Forms as forms
use Rattle.jz_instructions.proofs.ShapeLemmas.{none_two_never, none_two_finds}
use Rattle.jz_instructions.proofs.instructing.compare_at.Goals as goal

pub returns : goal.returns
returns c = none_two_finds (λ a b acts items. IsComparison (homes_of c.args.homes.now) c.args.size c.args.alu a b acts items) c.args.to.now c.args.args.now c.in_ok-parts.parts.0.now c.in_ok-parts.parts.1.now c.compare_row.result c.in_ok-parts.ensures.0 c.in_ok-parts.ensures.1 c.compare_row.ensures

pub returns-in_err-parts : goal.returns-in_err-parts
returns-in_err-parts c =
    none_or {A = Acts} (λ a. HasForm (homes_of c.args.homes.now) c.args.size (forms.f_compare c.args.alu) c.args.to.now c.args.args.now (actions_of a) (items_of a)) c.from_residual.result (search rules) (none_two_never (λ a b acts items. IsComparison (homes_of c.args.homes.now) c.args.size c.args.alu a b acts items) c.args.to.now c.args.args.now c.in_err-parts.ensures)
