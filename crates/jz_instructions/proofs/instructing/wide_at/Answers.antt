use Rattle.std.proofs.Common.{rules}
use Rattle.jz_operands.specs.TableHomes.{homes_of}
use Rattle.jz_operands.proofs.SumLemmas.{none_or}
use Rattle.jz_pinned_rows.specs.declared.row.Acts.{Acts}
use Rattle.jz_pinned_rows.specs.Rows.{actions_of, items_of}
use Rattle.jz_one_flag_row.specs.Forms.{IsWideProduct}
use Rattle.jz_one_flag_row.specs.Forms.{HasForm}
use Rattle.jz_one_flag_row.specs.Forms as forms
use Rattle.jz_instructions.proofs.ShapeLemmas.{two_two_never, two_two_finds}
use Rattle.jz_instructions.proofs.instructing.wide_at.Goals as goal

pub returns : goal.returns
returns c = two_two_finds (λ d e a b acts items. IsWideProduct (homes_of c.args.homes.now) c.args.size d e a b acts items) c.args.to.now c.args.args.now c.in_ok-parts.parts.0.now c.in_ok-parts.parts.1.now c.in_ok-parts.parts.2.now c.in_ok-parts.parts.3.now c.product_row.result c.in_ok-parts.ensures.0 c.in_ok-parts.ensures.1 c.product_row.ensures

pub returns-in_err-parts : goal.returns-in_err-parts
returns-in_err-parts c =
    none_or {A = Acts} (λ a. HasForm (homes_of c.args.homes.now) c.args.size forms.f_wide c.args.to.now c.args.args.now (actions_of a) (items_of a)) c.from_residual.result (search rules) (two_two_never (λ d e a b acts items. IsWideProduct (homes_of c.args.homes.now) c.args.size d e a b acts items) c.args.to.now c.args.args.now c.in_err-parts.ensures)
