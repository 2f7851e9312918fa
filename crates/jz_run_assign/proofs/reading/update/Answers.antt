use Rattle.std.proofs.Common.{◌≡◌, ap, sym, ◌∙◌}
use Rattle.jz_tree.specs.declared.expr.Expr.TheVariants.{Bin}
use Rattle.jz_meaning.specs.Rules.{stuck}
use Rattle.jz_meaning.specs.Attempts.{seen, numbers_first}
use Rattle.jz_meaning.specs.States.{as_value}
use Rattle.jz_meaning.specs.Stores.{state_of}
use Rattle.jz_meaning.specs.Values.{left_wanted, own_size, evaluated, with_right}
use Rattle.jz_meaning.proofs.AttemptLemmas.{handed_on}
use Rattle.jz_run_assign.specs.InnerRights.{read_of}
use Rattle.jz_run_assign.proofs.RightValues.{operation_goes}
use Rattle.jz_run_assign.proofs.reading.update.Goals as goal

pub returns-in_err-value : goal.returns-in_err-value
returns-in_err-value c =
    let s = state_of c.args.state.now in
    let ns = c.args.out.now in
    let ms = c.read.new.out in
    let op = c.args.op in
    let at = c.args.span in
    let left = read_of c.args.left in
    let b = c.args.right.now in
    let z = c.left_wanted-inner.result in
    let v = as_value c.in_ok-left.left in
    let inner : z ≡ left_wanted op c.args.wanted (own_size left) (own_size b) =
    c.left_wanted-inner.ensures ∙ ap (λ y. left_wanted op c.args.wanted y c.own_size.result) c.place_size.ensures ∙ ap (left_wanted op c.args.wanted (own_size left)) c.own_size.ensures
    in
    handed_on c.from_residual-in_err-value.result c.in_err-value.field-0.0 (λ r. seen c.with_right.new.out r ≡ numbers_first ms (with_right op (evaluated b) at z s v))
    (λ r. seen c.with_right.new.out r ≡ numbers_first ns (evaluated (Bin op left b at) c.args.wanted s)) c.from_residual-in_err-value.ensures.1 c.in_err-value.ensures
    (λ k h. operation_goes s ns ms op left b at c.args.wanted z v (stuck k) inner c.in_ok-left.ensures h)

pub returns : goal.returns
returns c =
    let left = read_of c.args.left in
    let inner : c.left_wanted-inner.result ≡ left_wanted c.args.op c.args.wanted (own_size left) (own_size c.args.right.now) =
    c.left_wanted-inner.ensures ∙ ap (λ z. left_wanted c.args.op c.args.wanted z c.own_size.result) c.place_size.ensures ∙ ap (left_wanted c.args.op c.args.wanted (own_size left)) c.own_size.ensures
    in
    operation_goes (state_of c.args.state.now) c.args.out.now c.read.new.out c.args.op left c.args.right.now c.args.span c.args.wanted c.left_wanted-inner.result (as_value c.in_ok-left.left) _ inner
    c.in_ok-left.ensures c.in_ok-value.ensures
