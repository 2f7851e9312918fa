use Rattle.std.proofs.Common.{◌≡◌, ◌∙◌, Some, None, true, false, ap, sym, rules, arith}
use Rattle.std.specs.Int.{w128}
use Rattle.std.proofs.lemmas.Int.{to_z-of_z}
use Rattle.jz_tree.specs.declared.expr.Expr.{Expr, size-Expr}
use Rattle.jz_tree.specs.declared.expr.Expr.TheVariants.{Bin}
use Rattle.jz_tree.specs.declared.expr.Expr.TheViews.{out-Access, out-Var}
use Rattle.jz_tree.proofs.Sides.{left_smaller}
use Rattle.jz_integers.specs.Integers.{minus, opposite}
use Rattle.jz_integers.specs.declared.constant.Constant.TheVariants as constant
use Rattle.jz_meaning.specs.Values.{own_size}
use Rattle.jz_limits.specs.declared.looked.Asking.{Asking}
use Rattle.jz_limits.specs.InnerKnown.{numbers_of}
use Rattle.jz_limits.specs.InnerLooked.{Seen, seen_of, seen_as, no_part, inner_part, look_of, cell_found, load_found, operation_seen, seen_left}
use Rattle.jz_limits.proofs.Sides.{last_operand}
use Rattle.jz_limits.proofs.Layers.{look_num, look_bool, look_cell, look_load, look_neg, look_not, look_cast, look_bin}
use Rattle.jz_limits.proofs.looking.+look.Goals as goal

pub look_side-loop-rest-preserved : goal.look_side-loop-rest-preserved
look_side-loop-rest-preserved t c =
    let e = numbers_of c.args.numbers.now in
    let q = c.args.asking in
    let xs = c.loop-rest.operands.items in
    let rest = look_of e q c.get-rest.result.now in
    let whole : Bin c.in-Bin.op c.get-rest.result.now c.get.result.now c.in-Bin.span ≡ c.loop-rest.rest.now =
    rw (c.get-rest.ensures, c.get.ensures) (sym c.in-Bin.is) in (
      ap (λ ys. seen_left q ys rest) c.in_ok-push.ensures.items
          ∙ last_operand q xs (record { op = c.in-Bin.op; span = c.in-Bin.span; right = c.in_ok-look.field-0 }) rest
          ∙ ap (λ r. seen_left q xs (operation_seen q c.in-Bin.op c.in-Bin.span rest r)) c.in_ok-look.ensures
          ∙ ap (seen_left q xs) (sym (look_bin e q c.in-Bin.op c.get-rest.result.now c.get.result.now c.in-Bin.span) ∙ ap (look_of e q) whole)
          ∙ c.loop-rest.invariant.0,
      omega (arith, left_smaller c.in-Bin.op c.get-rest.result.now c.get.result.now c.in-Bin.span, ap size-Expr whole, c.loop-rest.invariant.1),
    )

pub look_single-returns-in-Num : goal.look_single-returns-in-Num
look_single-returns-in-Num t c =
    let e = numbers_of c.args.numbers.now in
    let q = c.args.asking in
    c.look_literal.ensures
    ∙ (ap (λ m. seen_as true (Some (constant.Int m)) c.in-Num.span q no_part) (to_z-of_z w128 c.in-Num.n (search rules))
    ∙ sym (ap (look_of e q) c.in-Num.is ∙ look_num e q c.in-Num.n c.in-Num.span))

pub look_single-returns-in-Bool : goal.look_single-returns-in-Bool
look_single-returns-in-Bool t c =
    let e = numbers_of c.args.numbers.now in
    let q = c.args.asking in
    c.look_literal-in-Bool.ensures ∙ sym (ap (look_of e q) c.in-Bool.is ∙ look_bool e q c.in-Bool.truth c.in-Bool.span)

pub look_single-returns-in-Var : goal.look_single-returns-in-Var
look_single-returns-in-Var t c =
    c.look_variable.ensures ∙ ap (look_of (numbers_of c.args.numbers.now) c.args.asking) (sym c.in-Var.is)

pub look_single-returns-in_ok-pieces-in-Cell : goal.look_single-returns-in_ok-pieces-in-Cell
look_single-returns-in_ok-pieces-in-Cell t c =
    let e = numbers_of c.args.numbers.now in
    let q = c.args.asking in
    let v = c.in-Cell.var in
    c.finished.ensures
    ∙ (ap (seen_as false None (out-Var v).span q) (c.in_ok-pieces-in-Cell.ensures ∙ ap (cell_found e v) c.get.ensures)
    ∙ sym (ap (look_of e q) c.in-Cell.is ∙ look_cell e q v c.in-Cell.index))

pub look_single-returns-in_ok-pieces-in-Load : goal.look_single-returns-in_ok-pieces-in-Load
look_single-returns-in_ok-pieces-in-Load t c =
    let e = numbers_of c.args.numbers.now in
    let q = c.args.asking in
    let a = c.in-Load.access in
    c.finished-in-Load.ensures
    ∙ (ap (seen_as false None (out-Access a).span q) (c.in_ok-pieces-in-Load.ensures ∙ ap (load_found e (out-Access a).span) c.get-in-Load.ensures)
    ∙ sym (ap (look_of e q) c.in-Load.is ∙ look_load e q a))

pub look_single-returns-in_ok-inner-in-Neg : goal.look_single-returns-in_ok-inner-in-Neg
look_single-returns-in_ok-inner-in-Neg t c =
    let e = numbers_of c.args.numbers.now in
    let q = c.args.asking in
    let inner = c.in_ok-inner-in-Neg.inner in
    c.finished-in-Neg.ensures
    ∙ (ap (seen_as inner.inline c.minus-value.result c.in-Neg.span q) c.inner_pieces.ensures
    ∙ (ap (λ v. seen_as inner.inline v c.in-Neg.span q (inner_part (seen_of inner))) c.minus-value.ensures
    ∙ (ap (λ (s : Seen). seen_as s.inline (minus s.value) c.in-Neg.span q (inner_part s)) (c.in_ok-inner-in-Neg.ensures ∙ ap (look_of e q) c.get-in-Neg.ensures)
    ∙ sym (ap (look_of e q) c.in-Neg.is ∙ look_neg e q c.in-Neg.e c.in-Neg.span))))

pub look_single-returns-in_ok-inner-in-Not : goal.look_single-returns-in_ok-inner-in-Not
look_single-returns-in_ok-inner-in-Not t c =
    let e = numbers_of c.args.numbers.now in
    let q = c.args.asking in
    let inner = c.in_ok-inner-in-Not.inner in
    c.finished-in-Not.ensures
    ∙ (ap (seen_as inner.inline c.opposite-value.result c.in-Not.span q) c.inner_pieces-in-Not.ensures
    ∙ (ap (λ v. seen_as inner.inline v c.in-Not.span q (inner_part (seen_of inner))) c.opposite-value.ensures
    ∙ (ap (λ (s : Seen). seen_as s.inline (opposite s.value) c.in-Not.span q (inner_part s)) (c.in_ok-inner-in-Not.ensures ∙ ap (look_of e q) c.get-in-Not.ensures)
    ∙ sym (ap (look_of e q) c.in-Not.is ∙ look_not e q c.in-Not.e c.in-Not.span))))

pub look_single-returns-in_ok-inner-in-Cast : goal.look_single-returns-in_ok-inner-in-Cast
look_single-returns-in_ok-inner-in-Cast t c =
    let e = numbers_of c.args.numbers.now in
    let q = c.args.asking in
    let x = c.in-Cast.e in
    c.finished-in-Cast.ensures
    ∙ (ap (seen_as false None c.in-Cast.span q) c.inner_pieces-in-Cast.ensures
    ∙ (ap (λ s. seen_as false None c.in-Cast.span q (inner_part s)) c.in_ok-inner-in-Cast.ensures
    ∙ (ap (λ z. seen_as false None c.in-Cast.span q (inner_part (look_of e (record { place = q.place; size = z }) c.get-in-Cast-2.result.now))) (c.own_size.ensures ∙ ap own_size c.get-in-Cast.ensures)
    ∙ (ap (λ y. seen_as false None c.in-Cast.span q (inner_part (look_of e (record { place = q.place; size = own_size x }) y))) c.get-in-Cast-2.ensures
    ∙ sym (ap (look_of e q) c.in-Cast.is ∙ look_cast e q c.in-Cast.size c.in-Cast.signed x c.in-Cast.span)))))
