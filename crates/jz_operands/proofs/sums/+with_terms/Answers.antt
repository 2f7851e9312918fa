use Rattle.std.proofs.Common.{rules, ◌≡◌, ◌∙◌, ◌+◌, ◌-◌, ◌%◌, ◌^◌, ap, arith, subst, sym}
use Rattle.std.proofs.lemmas.Int.{to_z-of_z}
use Rattle.std.specs.Int.{w128}
use Rattle.jz_words.specs.declared.size.Size.TheVariants.{S64}
use Rattle.jz_words.specs.Words.{residue}
use Rattle.jz_tree.specs.declared.expr.BinOp.TheVariants as op
use Rattle.jz_tree.specs.declared.expr.Expr.{size-Expr}
use Rattle.jz_tree.specs.declared.expr.Expr.TheVariants.{Bin, Num}
use Rattle.jz_tree.proofs.Sides.{left_smaller}
use Rattle.jz_operands.specs.TableHomes.{homes_of}
use Rattle.jz_operands.specs.InnerSums.{SumsBefore, NeverBefore}
use Rattle.jz_operands.proofs.SumLemmas.{for_found, none_or, added_before, less_before}
use Rattle.jz_operands.proofs.SumRefusals.{first_never, second_never, no_number, less_never, other_op, other_form}
use Rattle.jz_operands.proofs.sums.+with_terms.Goals as goal

pub loop-left-preserved-in-Add : goal.loop-left-preserved-in-Add
loop-left-preserved-in-Add t c =
    let same : Bin c.in-Bin.op c.get-left.result.now c.get.result.now c.in-Bin.field-3 ≡ c.loop-left.left.now = rw (c.get-left.ensures, c.get.ensures) (sym c.in-Bin.is) in
    let whole : Bin op.Add c.get-left.result.now c.get.result.now c.in-Bin.field-3 ≡ c.loop-left.left.now = subst (λ o. Bin o c.get-left.result.now c.get.result.now c.in-Bin.field-3 ≡ c.loop-left.left.now) c.in-Add.is same in (
      λ all h. c.loop-left.invariant.0 all (subst (λ e. SumsBefore (homes_of c.args.homes.now) e c.loop-left.after all) whole
          (added_before c.in-Bin.field-3 c.loop-left.after c.in_ok-after-in-Add.after all h c.in_ok-after-in-Add.ensures)),
      omega (arith, left_smaller op.Add c.get-left.result.now c.get.result.now c.in-Bin.field-3, ap size-Expr whole, c.loop-left.invariant.1),
      λ none. c.loop-left.invariant.2 (subst (λ e. NeverBefore (homes_of c.args.homes.now) e c.loop-left.after) whole
          (first_never (homes_of c.args.homes.now) c.get-left.result.now c.get.result.now c.in-Bin.field-3 c.loop-left.after c.in_ok-after-in-Add.after c.in_ok-after-in-Add.ensures none)),
    )

pub loop-left-preserved : goal.loop-left-preserved
loop-left-preserved t c =
    let left = c.get-left-in-Sub.result.now in
    let right = c.get-in-Sub.result.now in
    let number = c.in_ok-number-in-Sub.number in
    let found = c.in_ok-number-in-Sub.ensures in
    let same : Bin c.in-Bin.op left right c.in-Bin.field-3 ≡ c.loop-left.left.now = rw (c.get-left-in-Sub.ensures, c.get-in-Sub.ensures) (sym c.in-Bin.is) in
    let made : Bin op.Sub left right c.in-Bin.field-3 ≡ c.loop-left.left.now = subst (λ o. Bin o left right c.in-Bin.field-3 ≡ c.loop-left.left.now) c.in-Sub.is same in
    let whole : Bin op.Sub left (Num number found.0) c.in-Bin.field-3 ≡ c.loop-left.left.now = subst (λ e. Bin op.Sub left e c.in-Bin.field-3 ≡ c.loop-left.left.now) found.1 made in (
      λ all h. c.loop-left.invariant.0 all (subst (λ e. SumsBefore (homes_of c.args.homes.now) e c.loop-left.after all) whole
          (less_before number found.0 c.in-Bin.field-3 c.loop-left.after c.without_number-after.result all h c.without_number-after.ensures.found (c.without_number-after.ensures.number ∙ ap (λ i. (c.loop-left.after.number + 2 ^ 64 - residue S64 i) % 2 ^ 64) (to_z-of_z w128 number (search rules))))),
      omega (arith, left_smaller op.Sub left right c.in-Bin.field-3, ap size-Expr made, c.loop-left.invariant.1),
      λ none. c.loop-left.invariant.2 (subst (λ e. NeverBefore (homes_of c.args.homes.now) e c.loop-left.after) whole
          (less_never (homes_of c.args.homes.now) left (Num number found.0) c.in-Bin.field-3 c.loop-left.after c.without_number-after.result c.without_number-after.ensures.found none)),
    )

pub returns-in-Mul : goal.returns-in-Mul
returns-in-Mul t c =
    let left = c.get-in-Mul.result.now in
    let right = c.get-in-Mul-2.result.now in
    let same : Bin c.in-Bin.op left right c.in-Bin.field-3 ≡ c.loop-left.left.now = rw (c.get-in-Mul.ensures, c.get-in-Mul-2.ensures) (sym c.in-Bin.is) in
    let whole : Bin op.Mul left right c.in-Bin.field-3 ≡ c.loop-left.left.now = subst (λ o. Bin o left right c.in-Bin.field-3 ≡ c.loop-left.left.now) c.in-Mul.is same in
    for_found c.with_product.result
    (λ all h. c.loop-left.invariant.0 all (subst (λ e. SumsBefore (homes_of c.args.homes.now) e c.loop-left.after all) whole h))
    (λ none. c.loop-left.invariant.2 (subst (λ e. NeverBefore (homes_of c.args.homes.now) e c.loop-left.after) whole none))
    (c.with_product.ensures c.in-Bin.field-3)

pub returns-in_err-after-in-Add : goal.returns-in_err-after-in-Add
returns-in_err-after-in-Add t c =
    let home = homes_of c.args.homes.now in
    let b = c.get.result.now in
    let same : Bin c.in-Bin.op c.in-Bin.a b c.in-Bin.field-3 ≡ c.loop-left.left.now = rw c.get.ensures (sym c.in-Bin.is) in
    let whole : Bin op.Add c.in-Bin.a b c.in-Bin.field-3 ≡ c.loop-left.left.now = subst (λ o. Bin o c.in-Bin.a b c.in-Bin.field-3 ≡ c.loop-left.left.now) c.in-Add.is same in
    none_or (SumsBefore home c.args.e.now c.args.rest) c.from_residual.result (search rules)
    (c.loop-left.invariant.2 (subst (λ e. NeverBefore home e c.loop-left.after) whole (second_never home c.in-Bin.a b c.in-Bin.field-3 c.loop-left.after c.in_err-after-in-Add.ensures)))

pub returns-in_err-number-in-Sub : goal.returns-in_err-number-in-Sub
returns-in_err-number-in-Sub t c =
    let home = homes_of c.args.homes.now in
    let b = c.get-in-Sub.result.now in
    let same : Bin c.in-Bin.op c.in-Bin.a b c.in-Bin.field-3 ≡ c.loop-left.left.now = rw c.get-in-Sub.ensures (sym c.in-Bin.is) in
    let whole : Bin op.Sub c.in-Bin.a b c.in-Bin.field-3 ≡ c.loop-left.left.now = subst (λ o. Bin o c.in-Bin.a b c.in-Bin.field-3 ≡ c.loop-left.left.now) c.in-Sub.is same in
    none_or (SumsBefore home c.args.e.now c.args.rest) c.from_residual-in_err-number-in-Sub.result (search rules)
    (c.loop-left.invariant.2 (subst (λ e. NeverBefore home e c.loop-left.after) whole (no_number home c.in-Bin.a b c.in-Bin.field-3 c.loop-left.after c.in_err-number-in-Sub.ensures)))

pub returns-in_default-op : goal.returns-in_default-op
returns-in_default-op t c =
    c.loop-left.invariant.2 (other_op (homes_of c.args.homes.now) c.loop-left.left.now c.in-Bin.op c.in-Bin.a c.in-Bin.b c.in-Bin.field-3 c.loop-left.after c.in-Bin.is (search rules) (search rules) (search rules))

pub returns-in-Var : goal.returns-in-Var
returns-in-Var t c =
    let home = homes_of c.args.homes.now in
    for_found c.with_variable.result
    (λ all h. c.loop-left.invariant.0 all (subst (λ e. SumsBefore home e c.loop-left.after all) (sym c.in-Var.is) h))
    (λ none. c.loop-left.invariant.2 (subst (λ e. NeverBefore home e c.loop-left.after) (sym c.in-Var.is) none))
    c.with_variable.ensures

pub returns-in_default : goal.returns-in_default
returns-in_default t c = c.loop-left.invariant.2 (other_form (homes_of c.args.homes.now) c.loop-left.left.now c.loop-left.after (search rules) (search rules) (search rules))
