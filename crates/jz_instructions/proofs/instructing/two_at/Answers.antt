use Rattle.std.proofs.Common.{rules}
use Rattle.jz_operands.specs.TableHomes.{homes_of}
use Rattle.jz_operands.proofs.SumLemmas.{none_or}
use Rattle.jz_pinned_rows.specs.declared.row.Acts.{Acts}
use Rattle.jz_pinned_rows.specs.Rows.{actions_of, items_of}
use Rattle.jz_one_flag_row.specs.Forms.{IsTwo}
use Rattle.std.specs.Prelude.{None}
use Rattle.jz_one_flag_row.specs.Forms.{HasForm}
use Rattle.jz_one_flag_row.specs.Forms as forms
use Rattle.jz_instructions.proofs.ShapeLemmas.{one_two_never, one_two_finds}
use Rattle.jz_instructions.proofs.instructing.two_at.Goals as goal

pub returns : goal.returns
returns c = one_two_finds (λ d a b acts items. IsTwo (homes_of c.args.homes.now) c.args.size c.args.alu c.args.swaps None d a b acts items) c.args.to.now c.args.args.now c.in_ok-parts.parts.0.now c.in_ok-parts.parts.1.now c.in_ok-parts.parts.2.now c.two_row.result c.in_ok-parts.ensures.0 c.in_ok-parts.ensures.1 c.two_row.ensures

pub returns-in_err-parts : goal.returns-in_err-parts
returns-in_err-parts c =
    none_or {A = Acts} (λ a. HasForm (homes_of c.args.homes.now) c.args.size (forms.f_two c.args.alu c.args.swaps) c.args.to.now c.args.args.now (actions_of a) (items_of a)) c.from_residual.result (search rules) (one_two_never (λ d a b acts items. IsTwo (homes_of c.args.homes.now) c.args.size c.args.alu c.args.swaps None d a b acts items) c.args.to.now c.args.args.now c.in_err-parts.ensures)
