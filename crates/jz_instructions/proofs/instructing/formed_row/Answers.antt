use Rattle.std.proofs.Common.{rules}
use Rattle.jz_operands.specs.TableHomes.{homes_of}
use Rattle.jz_operands.proofs.SumLemmas.{none_or}
use Rattle.jz_one_flag_row.specs.Forms.{IsFormed}
use Rattle.jz_pinned_rows.specs.declared.row.PinnedRow.{PinnedRow}
use Rattle.jz_pinned_rows.specs.Rows.{actions_of, items_of}
use Rattle.jz_instructions.specs.InnerRows.{form_in, lead_in}
use Rattle.jz_instructions.proofs.NamedLemmas.{no_lead, no_form, formed_is}
use Rattle.jz_instructions.proofs.instructing.formed_row.Goals as goal

pub returns : goal.returns
returns c =
    formed_is (homes_of c.args.homes.now) c.args.size c.args.name c.args.to.now c.args.args.now (lead_in c.lead_of.result) (form_in c.form_of.result) c.in_ok-parts.parts.0 c.in_ok-parts.parts.1.now c.in_ok-acts.acts c.lead_of.ensures c.form_of.ensures c.in_ok-parts.ensures c.in_ok-acts.ensures

pub returns-in_err-parts : goal.returns-in_err-parts
returns-in_err-parts c = none_or {A = PinnedRow} (λ r. IsFormed (homes_of c.args.homes.now) c.args.size c.args.name c.args.to.now c.args.args.now r.flags (actions_of r.acts) (items_of r.acts)) c.from_residual.result (search rules) (no_lead (homes_of c.args.homes.now) c.args.size c.args.name c.args.to.now c.args.args.now (lead_in c.lead_of.result) c.lead_of.ensures c.in_err-parts.ensures)

pub returns-in_err-acts : goal.returns-in_err-acts
returns-in_err-acts c =
    none_or {A = PinnedRow} (λ r. IsFormed (homes_of c.args.homes.now) c.args.size c.args.name c.args.to.now c.args.args.now r.flags (actions_of r.acts) (items_of r.acts)) c.from_residual-in_err-acts.result (search rules)
    (no_form (homes_of c.args.homes.now) c.args.size c.args.name c.args.to.now c.args.args.now (lead_in c.lead_of.result) (form_in c.form_of.result) c.in_ok-parts.parts.0 c.in_ok-parts.parts.1.now c.lead_of.ensures c.form_of.ensures c.in_ok-parts.ensures c.in_err-acts.ensures)
