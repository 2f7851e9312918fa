use Rattle.std.proofs.Common.{rules}
use Rattle.jz_operands.specs.TableHomes.{homes_of}
use Rattle.jz_operands.proofs.SumLemmas.{none_or}
use Rattle.jz_pinned_rows.specs.declared.row.Acts.{Acts}
use Rattle.jz_pinned_rows.specs.Rows.{actions_of, items_of}
use Rattle.jz_one_flag_row.specs.Forms.{IsOne}
use Rattle.jz_one_flag_row.specs.Forms.{HasForm}
use Rattle.jz_one_flag_row.specs.Forms as forms
use Rattle.jz_instructions.proofs.ShapeLemmas.{one_one_never, one_one_finds}
use Rattle.jz_instructions.proofs.instructing.one_at.Goals as goal

pub returns : goal.returns
returns c = one_one_finds (λ d a acts items. IsOne (homes_of c.args.homes.now) c.args.size c.args.kind d a acts items) c.args.to.now c.args.args.now c.in_ok-parts.parts.0.now c.in_ok-parts.parts.1.now c.one_row.result c.in_ok-parts.ensures.0 c.in_ok-parts.ensures.1 c.one_row.ensures

pub returns-in_err-parts : goal.returns-in_err-parts
returns-in_err-parts c =
    none_or {A = Acts} (λ a. HasForm (homes_of c.args.homes.now) c.args.size (forms.f_one c.args.kind) c.args.to.now c.args.args.now (actions_of a) (items_of a)) c.from_residual.result (search rules) (one_one_never (λ d a acts items. IsOne (homes_of c.args.homes.now) c.args.size c.args.kind d a acts items) c.args.to.now c.args.args.now c.in_err-parts.ensures)
