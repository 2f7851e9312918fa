use Rattle.std.proofs.Common.{◌≡◌, ◌∙◌, sym, ap, subst, arith}
use Rattle.jz_ir.specs.Places.{meets}
use Rattle.jz_alloc.specs.Answers.{HoldsEach}
use Rattle.jz_alloc.proofs.Meaning.{one_holder, no_holder}
use Rattle.jz_fit.specs.Branches.{LiveAt}
use Rattle.jz_fit.proofs.holders.holders_of.Goals as goal
use Rattle.jz_fit.proofs.holders.holders_of.Goals.{then-meets+in-Some+in_ok-push-in-Some, else-meets}

pub loop-place-preserved : goal.loop-place-preserved
loop-place-preserved c =
    let t = c.args.table.now in
    let test = meets t.code.now.kinds t.code.now.in_use t.ops c.args.variable in
    elim c.if-meets.branch [
      | then-meets+in-Some+in_ok-push-in-Some w ↦
          one_holder t.ops (LiveAt t.code.now) c.args.places.now c.args.variable test c.loop-place.place c.loop-place.holders.items _ w.in-Some.holder c.loop-place.invariant
          (sym c.meets.ensures ∙ w.if-meets.true) (ap (λ x. x.items) w.holders-is ∙ w.in_ok-push-in-Some.ensures.items) (rw w.in-Some.is at w.holder_of.ensures)
      | else-meets w ↦
          no_holder t.ops (LiveAt t.code.now) c.args.places.now c.args.variable test c.loop-place.place c.loop-place.holders.items _ c.loop-place.invariant
          (sym c.meets.ensures ∙ w.if-meets.false) (ap (λ x. x.items) w.holders-is)
    ]

pub returns : goal.returns
returns c =
    let t = c.args.table.now in
    let test = meets t.code.now.kinds t.code.now.in_use t.ops c.args.variable in
    let e : c.loop-place.place ≡ 20 = omega (arith, c.loop-place.auto.place-end, c.loop-place-test.false) in
    subst (HoldsEach t.ops (LiveAt t.code.now) c.args.places.now c.args.variable test 20) (sym c.from_vec.ensures)
    (subst (λ n. HoldsEach t.ops (LiveAt t.code.now) c.args.places.now c.args.variable test n c.loop-place.holders.items) e c.loop-place.invariant)
