use Rattle.std.proofs.Common.{◌≡◌, ◌∙◌, ◌<◌, [], Some, None, length, ap, arith}
use Rattle.std.proofs.lemmas.List.{get_or_default}
use Rattle.jz_ir.specs.declared.code.Op.{Op}
use Rattle.jz_ir.specs.Places.{op_at, no_op}
use Rattle.jz_fit.specs.Branches.{LiveAt}
use Rattle.jz_fit.specs.InnerSpots.{list_at}
use Rattle.jz_fit.proofs.HolderLemmas.{who_moved, held_there, no_var, no_fixed, none_more, not_held, holder}
use Rattle.jz_fit.proofs.holders.holder_of.Goals as goal

pub returns-in-Some : goal.returns-in-Some
returns-in-Some c =
    let t = c.args.table.now in
    let ls : c.loop-i.i < length c.as_slice-ops.result.now = c.loop-i-test.true in
    let lt : c.loop-i.i < length t.ops = omega (arith, ls, ap length c.as_slice-ops.ensures) in
    let la : c.loop-i.i < length c.args.after.now = omega (arith, lt, c.requires.tells.count) in
    let o : c.index-ops-i.result ≡ op_at t.ops c.loop-i.i = c.index-ops-i.is ∙ get_or_default c.as_slice-ops.result.now c.loop-i.i c.index-ops-i.result no_op ls ∙ ap (λ xs. op_at xs c.loop-i.i) c.as_slice-ops.ensures in
    let a : c.index-after-i.result ≡ list_at c.args.after.now c.loop-i.i = c.index-after-i.is ∙ get_or_default c.args.after.now c.loop-i.i c.index-after-i.result [] la in
    let s = ap (λ (x : Op). x.span) (get_or_default c.as_slice-ops.result.now c.loop-i.i c.index-ops-i-in-Some.result no_op ls ∙ ap (λ xs. op_at xs c.loop-i.i) c.as_slice-ops.ensures) in
    let w = who_moved c.index-ops-i.result (op_at t.ops c.loop-i.i) c.index-after-i.result (list_at c.args.after.now c.loop-i.i) c.args.places.now c.args.variable c.args.place (Some c.in-Some.holder) o a c.in-Some.ensures in (
      c.place_of.ensures,
      holder t.ops (LiveAt t.code.now) c.args.places.now c.args.variable c.args.place c.loop-i.i _ c.in-Some.holder lt s c.loop-i.invariant
          (held_there t.ops (LiveAt t.code.now) c.args.after.now c.args.places.now c.args.variable c.args.place c.requires.tells.own c.requires.tells.others c.loop-i.i lt c.in-Some.holder w),
    )

pub loop-i-preserved : goal.loop-i-preserved
loop-i-preserved c =
    let t = c.args.table.now in
    let ls : c.loop-i.i < length c.as_slice-ops.result.now = c.loop-i-test.true in
    let lt : c.loop-i.i < length t.ops = omega (arith, ls, ap length c.as_slice-ops.ensures) in
    let la : c.loop-i.i < length c.args.after.now = omega (arith, lt, c.requires.tells.count) in
    let o : c.index-ops-i.result ≡ op_at t.ops c.loop-i.i = c.index-ops-i.is ∙ get_or_default c.as_slice-ops.result.now c.loop-i.i c.index-ops-i.result no_op ls ∙ ap (λ xs. op_at xs c.loop-i.i) c.as_slice-ops.ensures in
    let a : c.index-after-i.result ≡ list_at c.args.after.now c.loop-i.i = c.index-after-i.is ∙ get_or_default c.args.after.now c.loop-i.i c.index-after-i.result [] la in
    let w = who_moved c.index-ops-i.result (op_at t.ops c.loop-i.i) c.index-after-i.result (list_at c.args.after.now c.loop-i.i) c.args.places.now c.args.variable c.args.place None o a c.in-None.ensures in
    none_more t.ops (LiveAt t.code.now) c.args.places.now c.args.variable c.args.place c.loop-i.i c.loop-i.invariant
    (no_var t.ops (LiveAt t.code.now) c.args.after.now c.args.places.now c.args.variable c.args.place c.requires.tells.own c.requires.tells.others c.loop-i.i lt w)
    (no_fixed t.ops (LiveAt t.code.now) c.args.after.now c.args.places.now c.args.variable c.args.place c.requires.tells.own c.requires.tells.others c.loop-i.i lt w)

pub returns : goal.returns
returns c = not_held c.args.table.now.ops (LiveAt c.args.table.now.code.now) c.args.places.now c.args.variable c.args.place c.loop-i.i (omega (arith, ap length c.as_slice-ops.ensures)) c.loop-i.invariant
