use Rattle.std.proofs.Common.{◌∙◌, sym, ap, [], arith}
use Rattle.jz_bits.specs.Has.{has}
use Rattle.std.proofs.lemmas.List.{get_or_default}
use Rattle.jz_alloc.specs.Tables.{row_has}
use Rattle.jz_alloc.specs.InnerHolding.{LiveIn}
use Rattle.jz_alloc.proofs.Meaning.{one_holder, no_holder}
use Rattle.jz_alloc.proofs.placing.holders_of.Goals as goal
use Rattle.jz_alloc.proofs.placing.holders_of.Goals.{then-contains+in_ok-holder+in-Some+in_ok-push-in-Some, else-contains}

pub loop-place-preserved : goal.loop-place-preserved
loop-place-preserved c =
    let e = c.index-meets-place.is ∙ get_or_default c.args.meets.now c.loop-place.place c.index-meets-place.result [] (omega (arith, c.requires.meets)) in
    let row = ap (λ r. has r c.args.variable) (sym e) in
    elim c.if-contains.branch [
      | then-contains+in_ok-holder+in-Some+in_ok-push-in-Some w ↦
          one_holder c.args.ops.now (LiveIn c.args.after.now) c.args.places.now c.args.variable (λ q. row_has c.args.meets.now q c.args.variable) c.loop-place.place c.loop-place.holders.items _ w.in-Some.holder c.loop-place.invariant
          (row ∙ sym w.if-contains.ensures) (ap (λ x. x.items) w.holders-is ∙ w.in_ok-push-in-Some.ensures.items) (rw w.in-Some.is at w.in_ok-holder.ensures)
      | else-contains w ↦
          no_holder c.args.ops.now (LiveIn c.args.after.now) c.args.places.now c.args.variable (λ q. row_has c.args.meets.now q c.args.variable) c.loop-place.place c.loop-place.holders.items _ c.loop-place.invariant
          (row ∙ sym w.if-contains.ensures) (ap (λ x. x.items) w.holders-is)
    ]
