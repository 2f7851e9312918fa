use Rattle.std.proofs.Common.{◌<◌, ◌≤◌, ◌∙◌, arith, ap, length, map, get_or, refl, subst, rules}
use Rattle.std.proofs.lemmas.List.{length-map}
use Rattle.std.proofs.lemmas.Option.{slice_get_read}
use Rattle.jz_tree.specs.declared.program.Param.{Param}
use Rattle.jz_declared.specs.Declared.{held_for}
use Rattle.jz_unplaced.specs.declared.numbers.Found.{Found}
use Rattle.jz_unplaced.specs.InnerNumbers.{Finds}
use Rattle.jz_unplaced.proofs.Finding.{got_mapped, here_at, past_at, all_past}
use Rattle.jz_unplaced.proofs.numbers.find_in_params.Goals as goal

pub returns-in-Here : goal.returns-in-Here
returns-in-Here c =
    let same = c.as_slice-param-items.ensures in
    let q = c.param-item.result in
    let i = c.loop-param.param-index in
    let lt : i < length c.args.params.now = omega (arith, ap length same) in
    let ix = c.param-item.is ∙ ap (λ xs. get_or xs i q) same in
    here_at (map (λ (p : Param). p.var) c.args.params.now) i c.args.number c.loop-param.rest q.var
    (got_mapped (λ (p : Param). p.var) c.args.params.now i q (slice_get_read c.args.params.now (length c.args.params.now) i q refl lt ix)) c.loop-param.invariant
    c.in-Here.named (subst (λ (z : Found). Finds (held_for q.var) c.loop-param.rest z) c.in-Here.is c.in_ok-found.ensures)

pub loop-param-preserved : goal.loop-param-preserved
loop-param-preserved c =
    let same = c.as_slice-param-items.ensures in
    let q = c.param-item.result in
    let i = c.loop-param.param-index in
    let lt : i < length c.args.params.now = omega (arith, ap length same) in
    let ix = c.param-item.is ∙ ap (λ xs. get_or xs i q) same in
    past_at (map (λ (p : Param). p.var) c.args.params.now) i c.args.number c.loop-param.rest q.var
    (got_mapped (λ (p : Param). p.var) c.args.params.now i q (slice_get_read c.args.params.now (length c.args.params.now) i q refl lt ix)) c.loop-param.invariant
    c.in-Past.past (subst (λ (z : Found). Finds (held_for q.var) c.loop-param.rest z) c.in-Past.is c.in_ok-found.ensures)

pub returns : goal.returns
returns c =
    let same = c.as_slice-param-items.ensures in
    let le : length c.args.params.now ≤ c.loop-param.param-index = search rules in
    let many = length-map c.args.params.now (λ (p : Param). p.var) in
    all_past (map (λ (p : Param). p.var) c.args.params.now) c.loop-param.param-index c.args.number c.loop-param.rest (omega (arith, le, many)) c.loop-param.invariant
