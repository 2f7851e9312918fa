use Rattle.std.proofs.Common.{arith, rules, ap, sym, subst, ◌∙◌, Some, to_z, of_z, ◌≡◌, false}
use Rattle.std.specs.Int.{w128}
use Rattle.std.proofs.lemmas.Int.{to_z-of_z}
use Rattle.jz_tree.specs.declared.expr.Expr.TheVariants as expr
use Rattle.jz_tree.specs.declared.expr.Expr.TheViews.{roll-Access}
use Rattle.jz_integers.specs.declared.constant.Constant.TheVariants as constant
use Rattle.jz_unrolling_values.specs.InlineNames.{names_in}
use Rattle.jz_unrolling_values.specs.Numbers.{numbers_in}
use Rattle.jz_unrolling_values.specs.Parts.{IsValued, IsInlinePart, IsPlainPart, IsPart}
use Rattle.jz_unrolling_values.proofs.PartLemmas.{first_within, last_within, begins, goes_on, access_values, access_known, num_part, bool_part, cell_part, load_part}
use Rattle.jz_unrolling_values.proofs.RefusalLemmas.{handed, side_no_part, way_no_part, right_no_part, cell_no_array, cell_no_index, load_no_part, neg_no_part, not_no_part, cast_no_part, no_values}
use Rattle.jz_unrolling_values.specs.Refusals.{is_part}
use Rattle.jz_unrolling_values.proofs.expressions.+part.Goals as goal

pub boxed_with_values-returns : goal.boxed_with_values-returns
boxed_with_values-returns t c =
    let names = names_in c.args.values.now.vars.now in
    let e = numbers_in c.args.values.now.known.now in
    subst (λ k. IsValued names e c.args.expr.now k) (sym c.in_ok-boxed.ensures)
    (c.in_ok-whole.ensures names e c.args.expr.now
    (subst (λ k. IsPart names e k c.in_ok-part.part) c.get.ensures c.in_ok-part.ensures))

pub part_of-single_part-requires : goal.part_of-single_part-requires
part_of-single_part-requires t c =
    (omega (arith, first_within c.args.expr.now c.in_ok-waiting.field-0.first.now c.in_ok-waiting.field-0.waiting.items c.in_ok-waiting.ensures.whole, c.decreases), c.in_ok-waiting.ensures.single)

pub part_of-loop-op-init : goal.part_of-loop-op-init
part_of-loop-op-init t c =
    begins (names_in c.args.values.now.vars.now) (numbers_in c.args.values.now.known.now) c.args.expr.now c.in_ok-waiting.field-0.first.now c.in_ok-waiting.field-0.waiting.items c.in_ok-part.part c.in_ok-waiting.ensures.whole c.in_ok-part.ensures

pub part_of-part_of-requires : goal.part_of-part_of-requires
part_of-part_of-requires t c =
    (omega (arith, last_within (names_in c.args.values.now.vars.now) (numbers_in c.args.values.now.known.now) c.args.expr.now c.loop-op.waiting.items c.pop.new.self.items c.in-Some.field-0 c.loop-op.part c.in-Some.ensures.items c.loop-op.invariant, c.decreases), tt)

pub part_of-loop-op-preserved : goal.part_of-loop-op-preserved
part_of-loop-op-preserved t c =
    let names = names_in c.args.values.now.vars.now in
    let e = numbers_in c.args.values.now.known.now in
    goes_on names e c.args.expr.now c.loop-op.waiting.items c.pop.new.self.items c.in-Some.field-0 c.loop-op.part c.in_ok-part-2.part c.in-Some.ensures.items c.loop-op.invariant
    (c.in_ok-part-2.ensures names e c.loop-op.invariant.reached c.in-Some.field-0.right.now c.loop-op.invariant.so c.in_ok-right.ensures)

pub access_of-boxed_with_values-requires : goal.access_of-boxed_with_values-requires
access_of-boxed_with_values-requires t c = (omega (arith, c.decreases), tt)

pub access_of-returns-clause-copy : goal.access_of-returns-clause-copy
access_of-returns-clause-copy t c =
    let a = c.args.access.now in
    ap (λ at. roll-Access (record { size = a.size; at = at; unaligned = a.unaligned; span = a.span })) c.in_ok-at.ensures.copy
    ∙ sym (access_values (numbers_in c.args.values.now.known.now) a)

pub access_of-returns-clause-known : goal.access_of-returns-clause-known
access_of-returns-clause-known t c =
    access_known (names_in c.args.values.now.vars.now) (numbers_in c.args.values.now.known.now) c.args.access.now ∙ c.in_ok-at.ensures.known

pub single_part-returns-in-Num : goal.single_part-returns-in-Num
single_part-returns-in-Num t c =
    let names = names_in c.args.values.now.vars.now in
    let e = numbers_in c.args.values.now.known.now in
    let i = c.in-Num in
    subst (λ x. IsInlinePart names e x (Some (constant.Int (to_z w128 (of_z w128 i.n)))) i.span) (sym i.is)
    (subst (λ m. IsInlinePart names e (expr.Num i.n i.span) (Some (constant.Int m)) i.span) (sym (to_z-of_z w128 i.n (search rules)))
    (num_part names e i.n i.span))

pub single_part-returns-in-Bool : goal.single_part-returns-in-Bool
single_part-returns-in-Bool t c =
    let names = names_in c.args.values.now.vars.now in
    let e = numbers_in c.args.values.now.known.now in
    let i = c.in-Bool in
    subst (λ x. IsInlinePart names e x (Some (constant.Bool i.truth)) i.span) (sym i.is) (bool_part names e i.truth i.span)

pub single_part-returns-in_ok-at-in-Cell : goal.single_part-returns-in_ok-at-in-Cell
single_part-returns-in_ok-at-in-Cell t c =
    let names = names_in c.args.values.now.vars.now in
    let e = numbers_in c.args.values.now.known.now in
    let array = c.in_ok-array-in-Cell in
    let at = c.in_ok-at-in-Cell in
    subst (λ x. IsPlainPart names e x (expr.Cell array.array at.at)) (sym c.in-Cell.is)
    (cell_part names e c.in-Cell.var array.array c.in-Cell.at at.at array.ensures.copy array.ensures.plain at.ensures)

pub single_part-returns-in_ok-access-in-Load : goal.single_part-returns-in_ok-access-in-Load
single_part-returns-in_ok-access-in-Load t c =
    let names = names_in c.args.values.now.vars.now in
    let e = numbers_in c.args.values.now.known.now in
    let access = c.in_ok-access-in-Load in
    subst (λ x. IsPlainPart names e x (expr.Load access.access)) (sym c.in-Load.is)
    (load_part names e c.in-Load.access access.access access.ensures.copy access.ensures.known)

pub single_part-returns-in_ok-part-in-Neg : goal.single_part-returns-in_ok-part-in-Neg
single_part-returns-in_ok-part-in-Neg t c =
    let names = names_in c.args.values.now.vars.now in
    let e = numbers_in c.args.values.now.known.now in
    let operand = c.in_ok-operand-in-Neg in
    let part = c.in_ok-part-in-Neg in
    subst (λ x. IsPart names e x part.part) (sym c.in-Neg.is)
    (part.ensures names e c.in-Neg.e (subst (λ k. IsPart names e k operand.operand) c.get.ensures operand.ensures))

pub single_part-returns-in_ok-part-in-Not : goal.single_part-returns-in_ok-part-in-Not
single_part-returns-in_ok-part-in-Not t c =
    let names = names_in c.args.values.now.vars.now in
    let e = numbers_in c.args.values.now.known.now in
    let operand = c.in_ok-operand-in-Not in
    let part = c.in_ok-part-in-Not in
    subst (λ x. IsPart names e x part.part) (sym c.in-Not.is)
    (part.ensures names e c.in-Not.e (subst (λ k. IsPart names e k operand.operand) c.get-in-Not.ensures operand.ensures))

pub single_part-returns-in_ok-e-in-Cast : goal.single_part-returns-in_ok-e-in-Cast
single_part-returns-in_ok-e-in-Cast t c =
    let names = names_in c.args.values.now.vars.now in
    let e = numbers_in c.args.values.now.known.now in
    let i = c.in-Cast in
    let inner = c.in_ok-e-in-Cast in
    subst (λ x. IsPart names e x c.converted_part.result) (sym i.is)
    (c.converted_part.ensures names e i.e inner.ensures)

-- ---- refusals

pub part_of-returns-in_err-part : goal.part_of-returns-in_err-part
part_of-returns-in_err-part t c =
    let names = names_in c.args.values.now.vars.now in
    let e = numbers_in c.args.values.now.known.now in
    let side = c.in_ok-waiting.field-0 in
    handed _ _ c.from_residual-in_err-part.result c.in_err-part.field-0.0 c.from_residual-in_err-part.ensures.1 c.in_err-part.ensures
    (λ fails. subst (λ y. is_part names e y ≡ false) c.in_ok-waiting.ensures.whole (side_no_part names e side.waiting.items side.first.now fails))

pub part_of-returns-in_err-right : goal.part_of-returns-in_err-right
part_of-returns-in_err-right t c =
    let names = names_in c.args.values.now.vars.now in
    let e = numbers_in c.args.values.now.known.now in
    let w = c.in-Some.field-0 in
    let way = c.loop-op.invariant in
    handed _ _ c.from_residual-in_err-right.result c.in_err-right.field-0.0 c.from_residual-in_err-right.ensures.1 c.in_err-right.ensures
    (λ fails. way_no_part names e c.args.expr.now c.loop-op.waiting.items c.pop.new.self.items w c.loop-op.part c.in-Some.ensures.items way
    (right_no_part names e w.op way.reached w.right.now w.span fails))

pub part_of-returns-in_err-part-2 : goal.part_of-returns-in_err-part-2
part_of-returns-in_err-part-2 t c =
    let names = names_in c.args.values.now.vars.now in
    let e = numbers_in c.args.values.now.known.now in
    let w = c.in-Some.field-0 in
    let way = c.loop-op.invariant in
    handed _ _ c.from_residual-in_err-part-2.result c.in_err-part-2.field-0.0 c.from_residual-in_err-part-2.ensures.1
    (c.in_err-part-2.ensures names e way.reached w.right.now way.so c.in_ok-right.ensures)
    (λ fails. way_no_part names e c.args.expr.now c.loop-op.waiting.items c.pop.new.self.items w c.loop-op.part c.in-Some.ensures.items way fails)

pub boxed_with_values-returns-in_err-part : goal.boxed_with_values-returns-in_err-part
boxed_with_values-returns-in_err-part t c =
    let names = names_in c.args.values.now.vars.now in
    let e = numbers_in c.args.values.now.known.now in
    handed _ _ c.from_residual.result c.in_err-part.field-0.0 c.from_residual.ensures.1 c.in_err-part.ensures
    (λ fails. no_values names e c.args.expr.now (subst (λ k. is_part names e k ≡ false) c.get.ensures fails))

pub boxed_with_values-returns-in_err-whole : goal.boxed_with_values-returns-in_err-whole
boxed_with_values-returns-in_err-whole t c =
    let names = names_in c.args.values.now.vars.now in
    let e = numbers_in c.args.values.now.known.now in
    handed _ _ c.from_residual-in_err-whole.result c.in_err-whole.field-0.0 c.from_residual-in_err-whole.ensures.1
    (c.in_err-whole.ensures names e c.args.expr.now (subst (λ k. IsPart names e k c.in_ok-part.part) c.get.ensures c.in_ok-part.ensures))
    (λ fails. fails)

pub access_of-returns-in_err-at-clause-known : goal.access_of-returns-in_err-at-clause-known
access_of-returns-in_err-at-clause-known t c =
    handed _ _ c.from_residual.result c.in_err-at.field-0.0 c.from_residual.ensures.1 c.in_err-at.ensures
    (λ fails. access_known (names_in c.args.values.now.vars.now) (numbers_in c.args.values.now.known.now) c.args.access.now ∙ fails)

pub single_part-returns-in_err-part-in-Var : goal.single_part-returns-in_err-part-in-Var
single_part-returns-in_err-part-in-Var t c =
    let names = names_in c.args.values.now.vars.now in
    let e = numbers_in c.args.values.now.known.now in
    handed _ _ c.from_residual.result c.in_err-part-in-Var.field-0.0 c.from_residual.ensures.1 c.in_err-part-in-Var.ensures
    (λ fails. subst (λ x. is_part names e x ≡ false) (sym c.in-Var.is) fails)

pub single_part-returns-in_err-array-in-Cell : goal.single_part-returns-in_err-array-in-Cell
single_part-returns-in_err-array-in-Cell t c =
    let names = names_in c.args.values.now.vars.now in
    let e = numbers_in c.args.values.now.known.now in
    let i = c.in-Cell in
    handed _ _ c.from_residual-in_err-array-in-Cell.result c.in_err-array-in-Cell.field-0.0 c.from_residual-in_err-array-in-Cell.ensures.1 c.in_err-array-in-Cell.ensures.plain
    (λ fails. subst (λ x. is_part names e x ≡ false) (sym i.is) (cell_no_array names e i.var i.at fails))

pub single_part-returns-in_err-at-in-Cell : goal.single_part-returns-in_err-at-in-Cell
single_part-returns-in_err-at-in-Cell t c =
    let names = names_in c.args.values.now.vars.now in
    let e = numbers_in c.args.values.now.known.now in
    let i = c.in-Cell in
    handed _ _ c.from_residual-in_err-at-in-Cell.result c.in_err-at-in-Cell.field-0.0 c.from_residual-in_err-at-in-Cell.ensures.1 c.in_err-at-in-Cell.ensures
    (λ fails. subst (λ x. is_part names e x ≡ false) (sym i.is) (cell_no_index names e i.var i.at fails))

pub single_part-returns-in_err-access-in-Load : goal.single_part-returns-in_err-access-in-Load
single_part-returns-in_err-access-in-Load t c =
    let names = names_in c.args.values.now.vars.now in
    let e = numbers_in c.args.values.now.known.now in
    let i = c.in-Load in
    handed _ _ c.from_residual-in_err-access-in-Load.result c.in_err-access-in-Load.field-0.0 c.from_residual-in_err-access-in-Load.ensures.1 c.in_err-access-in-Load.ensures.known
    (λ fails. subst (λ x. is_part names e x ≡ false) (sym i.is) (load_no_part names e i.access fails))

pub single_part-returns-in_err-operand-in-Neg : goal.single_part-returns-in_err-operand-in-Neg
single_part-returns-in_err-operand-in-Neg t c =
    let names = names_in c.args.values.now.vars.now in
    let e = numbers_in c.args.values.now.known.now in
    let i = c.in-Neg in
    handed _ _ c.from_residual-in_err-operand-in-Neg.result c.in_err-operand-in-Neg.field-0.0 c.from_residual-in_err-operand-in-Neg.ensures.1 c.in_err-operand-in-Neg.ensures
    (λ fails. subst (λ x. is_part names e x ≡ false) (sym i.is) (neg_no_part names e i.e i.span (subst (λ k. is_part names e k ≡ false) c.get.ensures fails)))

pub single_part-returns-in_err-operand-in-Not : goal.single_part-returns-in_err-operand-in-Not
single_part-returns-in_err-operand-in-Not t c =
    let names = names_in c.args.values.now.vars.now in
    let e = numbers_in c.args.values.now.known.now in
    let i = c.in-Not in
    handed _ _ c.from_residual-in_err-operand-in-Not.result c.in_err-operand-in-Not.field-0.0 c.from_residual-in_err-operand-in-Not.ensures.1 c.in_err-operand-in-Not.ensures
    (λ fails. subst (λ x. is_part names e x ≡ false) (sym i.is) (not_no_part names e i.e i.span (subst (λ k. is_part names e k ≡ false) c.get-in-Not.ensures fails)))

pub single_part-returns-in_err-e-in-Cast : goal.single_part-returns-in_err-e-in-Cast
single_part-returns-in_err-e-in-Cast t c =
    let names = names_in c.args.values.now.vars.now in
    let e = numbers_in c.args.values.now.known.now in
    let i = c.in-Cast in
    handed _ _ c.from_residual-in_err-e-in-Cast.result c.in_err-e-in-Cast.field-0.0 c.from_residual-in_err-e-in-Cast.ensures.1 c.in_err-e-in-Cast.ensures
    (λ fails. subst (λ x. is_part names e x ≡ false) (sym i.is) (cast_no_part names e i.size i.signed i.e i.span fails))
