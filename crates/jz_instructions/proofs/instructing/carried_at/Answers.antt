use Rattle.std.proofs.Common.{rules}
use Rattle.jz_operands.specs.TableHomes.{homes_of}
use Rattle.jz_operands.proofs.SumLemmas.{none_or}
use Rattle.jz_pinned_rows.specs.declared.row.Acts.{Acts}
use Rattle.jz_pinned_rows.specs.Rows.{actions_of, items_of}
use Rattle.jz_one_flag_row.specs.Forms.{IsCarried}
use Rattle.jz_one_flag_row.specs.Forms.{HasForm}
use Rattle.jz_one_flag_row.specs.Forms as forms
use Rattle.jz_instructions.proofs.ShapeLemmas.{one_three_never, one_three_finds}
use Rattle.jz_instructions.proofs.instructing.carried_at.Goals as goal

pub returns : goal.returns
returns c = one_three_finds (λ d a b e acts items. IsCarried (homes_of c.args.homes.now) c.args.size c.args.alu c.args.swaps d a b e acts items) c.args.to.now c.args.args.now c.in_ok-parts.parts.0.now c.in_ok-parts.parts.1.now c.in_ok-parts.parts.2.now c.in_ok-parts.parts.3.now c.carried_row.result c.in_ok-parts.ensures.0 c.in_ok-parts.ensures.1 c.carried_row.ensures

pub returns-in_err-parts : goal.returns-in_err-parts
returns-in_err-parts c =
    none_or {A = Acts} (λ a. HasForm (homes_of c.args.homes.now) c.args.size (forms.f_carried c.args.alu c.args.swaps) c.args.to.now c.args.args.now (actions_of a) (items_of a)) c.from_residual.result (search rules) (one_three_never (λ d a b e acts items. IsCarried (homes_of c.args.homes.now) c.args.size c.args.alu c.args.swaps d a b e acts items) c.args.to.now c.args.args.now c.in_err-parts.ensures)
