use Rattle.std.proofs.Common.{subst, sym}
use Rattle.std.proofs.lemmas.Result.{err_from_is_err_and}
use Rattle.jz_items.specs.Items.{AreItems}
use Rattle.jasminc_called.proofs.Answering.{made_fails}
use Rattle.jasminc_selfrun.specs.Calling.{main_name, main_items, SumsUpProgram}
use Rattle.jasminc_selfrun.proofs.OnItems.{are_main_items}
use Rattle.jasminc_selfrun.proofs.OfTexts.{sum_fails, sum_done}
use Rattle.jasminc_selfrun.proofs.making.selfrun_text.Goals as goal

pub returns-in_err-made : goal.returns-in_err-made
returns-in_err-made c =
    let p = err_from_is_err_and c.from_residual-in_err-made.result c.from_residual-in_err-made.ensures.1 in
    rw (p.1, p.2) (made_fails (SumsUpProgram c.args.seed c.args.size main_items c.args.fuel) c.args.text.now main_name main_items _ c.in_err-made.ensures)

pub sum_made-requires-clause-given : goal.sum_made-requires-clause-given
sum_made-requires-clause-given c = subst AreItems (sym c.in_ok-items.ensures) are_main_items

pub sum_made-requires-clause-made : goal.sum_made-requires-clause-made
sum_made-requires-clause-made c = (c.args.text.now, c.in_ok-made.ensures)

pub returns-in_err-ran : goal.returns-in_err-ran
returns-in_err-ran c =
    let p = err_from_is_err_and c.from_residual-in_err-ran.result c.from_residual-in_err-ran.ensures.1 in
    rw (p.1, p.2) (sum_fails c.args.seed c.args.size c.args.fuel c.args.text.now c.in_ok-made.made c.in_ok-made.ensures c.in_ok-items.items c.in_ok-items.ensures _ c.in_err-ran.ensures)

pub returns : goal.returns
returns c =
    sum_done c.args.seed c.args.size c.args.fuel c.args.text.now c.in_ok-made.made c.in_ok-made.ensures c.in_ok-items.items c.in_ok-items.ensures c.in_ok-ran.ran _ c.told_with.ensures c.in_ok-ran.ensures
