use Rattle.std.proofs.Common.{rules}
use Rattle.jz_operands.specs.TableHomes.{homes_of}
use Rattle.jz_operands.proofs.SumLemmas.{none_or}
use Rattle.jz_pinned_rows.specs.declared.row.Acts.{Acts}
use Rattle.jz_pinned_rows.specs.Rows.{actions_of, items_of}
use Rattle.jz_one_flag_row.specs.Forms.{IsLongDivision}
use Rattle.jz_one_flag_row.specs.Forms.{HasForm}
use Rattle.jz_one_flag_row.specs.Forms as forms
use Rattle.jz_instructions.proofs.ShapeLemmas.{two_three_never, two_three_finds}
use Rattle.jz_instructions.proofs.instructing.divide_at.Goals as goal

pub returns : goal.returns
returns c = two_three_finds (λ q r hi lo by acts items. IsLongDivision (homes_of c.args.homes.now) c.args.size q r hi lo by acts items) c.args.to.now c.args.args.now c.in_ok-parts.parts.first.now c.in_ok-parts.parts.second.now c.in_ok-parts.parts.high.now c.in_ok-parts.parts.low.now c.in_ok-parts.parts.by.now c.division_row.result c.in_ok-parts.ensures.0 c.in_ok-parts.ensures.1 c.division_row.ensures

pub returns-in_err-parts : goal.returns-in_err-parts
returns-in_err-parts c =
    none_or {A = Acts} (λ a. HasForm (homes_of c.args.homes.now) c.args.size forms.f_divide c.args.to.now c.args.args.now (actions_of a) (items_of a)) c.from_residual.result (search rules) (two_three_never (λ q r hi lo by acts items. IsLongDivision (homes_of c.args.homes.now) c.args.size q r hi lo by acts items) c.args.to.now c.args.args.now c.in_err-parts.ensures)
