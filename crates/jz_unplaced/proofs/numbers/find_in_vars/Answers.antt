use Rattle.std.proofs.Common.{◌<◌, ◌≤◌, ◌∙◌, arith, ap, length, get_or, refl, subst, rules}
use Rattle.std.proofs.lemmas.Option.{slice_get_read}
use Rattle.jz_declared.specs.Declared.{held_for}
use Rattle.jz_unplaced.specs.declared.numbers.Found.{Found}
use Rattle.jz_unplaced.specs.InnerNumbers.{Finds}
use Rattle.jz_unplaced.proofs.Finding.{here_at, past_at, all_past}
use Rattle.jz_unplaced.proofs.numbers.find_in_vars.Goals as goal

pub returns-in-Here : goal.returns-in-Here
returns-in-Here c =
    let same = c.as_slice-var-items.ensures in
    let v = c.var-item.result in
    let i = c.loop-var.var-index in
    let lt : i < length c.args.vars.now = omega (arith, ap length same) in
    let ix = c.var-item.is ∙ ap (λ xs. get_or xs i v) same in
    here_at c.args.vars.now i c.args.number c.loop-var.rest v (slice_get_read c.args.vars.now (length c.args.vars.now) i v refl lt ix) c.loop-var.invariant
    c.in-Here.named (subst (λ (z : Found). Finds (held_for v) c.loop-var.rest z) c.in-Here.is c.in_ok-found.ensures)

pub loop-var-preserved : goal.loop-var-preserved
loop-var-preserved c =
    let same = c.as_slice-var-items.ensures in
    let v = c.var-item.result in
    let i = c.loop-var.var-index in
    let lt : i < length c.args.vars.now = omega (arith, ap length same) in
    let ix = c.var-item.is ∙ ap (λ xs. get_or xs i v) same in
    past_at c.args.vars.now i c.args.number c.loop-var.rest v (slice_get_read c.args.vars.now (length c.args.vars.now) i v refl lt ix) c.loop-var.invariant
    c.in-Past.past (subst (λ (z : Found). Finds (held_for v) c.loop-var.rest z) c.in-Past.is c.in_ok-found.ensures)

pub returns : goal.returns
returns c =
    let same = c.as_slice-var-items.ensures in
    let le : length c.args.vars.now ≤ c.loop-var.var-index = search rules in
    all_past c.args.vars.now c.loop-var.var-index c.args.number c.loop-var.rest le c.loop-var.invariant
