use Rattle.std.proofs.Common.{◌≡◌, ap, sym, ◌∙◌}
use Rattle.jz_tree.specs.declared.expr.Expr.TheVariants.{Bin}
use Rattle.jz_meaning.specs.Rules.{stuck}
use Rattle.jz_meaning.specs.Attempts.{seen, numbers_first}
use Rattle.jz_meaning.specs.States.{as_value}
use Rattle.jz_meaning.specs.Stores.{state_of}
use Rattle.jz_meaning.specs.Values.{left_wanted, own_size, evaluated, with_right}
use Rattle.jz_meaning.proofs.AttemptLemmas.{handed_on}
use Rattle.jz_meaning.proofs.LeftSideLemmas.{size_bin}
use Rattle.jz_run_assign.specs.InnerRights.{read_of, right_side}
use Rattle.jz_run_assign.proofs.RightValues.{operation_goes}
use Rattle.jz_run_assign.proofs.reading.right_value.Goals as goal

pub returns-in_err-sum-in-Carry : goal.returns-in_err-sum-in-Carry
returns-in_err-sum-in-Carry c =
    let ns = c.args.out.now in
    let ms = c.update-in-Carry.new.out in
    let s = state_of c.args.state.now in
    let op = c.in-Carry.op in
    let at = c.in-Carry.span in
    let a = read_of c.in-Carry.left in
    let b = c.in-Carry.right.now in
    let flag = c.in-Carry.flag.now in
    let left = Bin c.in-Carry.inner a b at in
    let z = c.left_wanted-wanted.result in
    let v = as_value c.in_ok-value-in-Carry.value in
    let size : c.update_size-size.result ≡ own_size left = c.update_size-size.ensures ∙ sym (size_bin c.in-Carry.inner a b at) in
    let wanted : z ≡ left_wanted op c.args.wanted (own_size left) (own_size flag) =
    c.left_wanted-wanted.ensures ∙ ap (λ y. left_wanted op c.args.wanted y c.own_size.result) size ∙ ap (left_wanted op c.args.wanted (own_size left)) c.own_size.ensures
    in
    handed_on c.from_residual-in_err-sum-in-Carry.result c.in_err-sum-in-Carry.field-0.0 (λ r. seen c.with_right.new.out r ≡ numbers_first ms (with_right op (evaluated flag) at z s v))
    (λ r. seen c.with_right.new.out r ≡ numbers_first ns (evaluated (right_side c.args.right) c.args.wanted s)) c.from_residual-in_err-sum-in-Carry.ensures.1 c.in_err-sum-in-Carry.ensures
    (λ k h. operation_goes s ns ms op left flag at c.args.wanted z v (stuck k) wanted c.in_ok-value-in-Carry.ensures h ∙ ap (λ r. numbers_first ns (evaluated (right_side r) c.args.wanted s)) (sym c.in-Carry.is))

pub returns-in_ok-sum-in-Carry : goal.returns-in_ok-sum-in-Carry
returns-in_ok-sum-in-Carry c =
    let ns = c.args.out.now in
    let ms = c.update-in-Carry.new.out in
    let s = state_of c.args.state.now in
    let op = c.in-Carry.op in
    let at = c.in-Carry.span in
    let a = read_of c.in-Carry.left in
    let b = c.in-Carry.right.now in
    let flag = c.in-Carry.flag.now in
    let left = Bin c.in-Carry.inner a b at in
    let z = c.left_wanted-wanted.result in
    let v = as_value c.in_ok-value-in-Carry.value in
    let size : c.update_size-size.result ≡ own_size left = c.update_size-size.ensures ∙ sym (size_bin c.in-Carry.inner a b at) in
    let wanted : z ≡ left_wanted op c.args.wanted (own_size left) (own_size flag) =
    c.left_wanted-wanted.ensures ∙ ap (λ y. left_wanted op c.args.wanted y c.own_size.result) size ∙ ap (left_wanted op c.args.wanted (own_size left)) c.own_size.ensures
    in
    operation_goes s ns ms op left flag at c.args.wanted z v _ wanted c.in_ok-value-in-Carry.ensures c.in_ok-sum-in-Carry.ensures
    ∙ ap (λ r. numbers_first ns (evaluated (right_side r) c.args.wanted s)) (sym c.in-Carry.is)
