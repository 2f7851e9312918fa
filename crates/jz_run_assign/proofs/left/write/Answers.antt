use Rattle.std.proofs.Common.{◌≡◌, ap, sym, ◌∙◌}
use Rattle.std.specs.Prelude.{option_map, Ok, Err}
use Rattle.jz_tree.specs.declared.stmt.Lval.TheVariants.{Cell}
use Rattle.jz_meaning.specs.Rules.{stuck}
use Rattle.jz_meaning.specs.Assignments.{written}
use Rattle.jz_meaning.specs.Attempts.{changed, numbers_first}
use Rattle.jz_meaning.specs.States.{as_value}
use Rattle.jz_meaning.specs.Stores.{state_of}
use Rattle.jz_meaning.specs.Values.{access_of, store_at}
use Rattle.jz_meaning.proofs.AttemptLemmas.{handed_on}
use Rattle.jz_run_assign.specs.InnerParts as parts
use Rattle.jz_run_assign.proofs.Writing.{cell_written, store_written}
use Rattle.jz_run_assign.proofs.left.write.Goals as goal

pub returns-in_err-write_variable-in-Var : goal.returns-in_err-write_variable-in-Var
returns-in_err-write_variable-in-Var c =
    let ns = c.args.out.now in
    let v = option_map as_value c.args.value in
    let s = state_of c.args.state.now in
    let t = state_of c.write_variable.new.state in
    handed_on c.from_residual.result c.in_err-write_variable-in-Var.field-0.0 (λ r. changed ns t r ≡ numbers_first ns (parts.variable_written c.in-Var.var v s))
    (λ r. changed ns t r ≡ numbers_first ns (written c.args.size c.args.to.now v s)) c.from_residual.ensures.1 (c.in_err-write_variable-in-Var.ensures ns)
    (λ k h. h ∙ ap (λ d. numbers_first ns (written c.args.size d v s)) (sym c.in-Var.is))

pub returns-in_ok-write_variable-in-Var : goal.returns-in_ok-write_variable-in-Var
returns-in_ok-write_variable-in-Var c =
    let ns = c.args.out.now in
    c.in_ok-write_variable-in-Var.ensures ns ∙ ap (λ d. numbers_first ns (written c.args.size d (option_map as_value c.args.value) (state_of c.args.state.now))) (sym c.in-Var.is)

pub returns-in_err-write_at-in-Cell : goal.returns-in_err-write_at-in-Cell
returns-in_err-write_at-in-Cell c =
    let ns = c.args.out.now in
    let ms = c.evaluate.new.out in
    let ks = c.write_at.new.out in
    let x = c.in-Cell.var in
    let j = as_value c.in_ok-index-in-Cell.index in
    let v = option_map as_value c.args.value in
    let s = state_of c.args.state.now in
    let t = state_of c.write_at.new.state in
    let whole : Cell x c.get.result.now ≡ c.args.to.now = rw c.get.ensures (sym c.in-Cell.is) in
    handed_on c.from_residual-in_err-write_at-in-Cell.result c.in_err-write_at-in-Cell.field-0.0 (λ r. changed ks t r ≡ numbers_first ms (parts.cell_written x j v s))
    (λ r. changed ks t r ≡ numbers_first ns (written c.args.size c.args.to.now v s)) c.from_residual-in_err-write_at-in-Cell.ensures.1 c.in_err-write_at-in-Cell.ensures
    (λ k h. cell_written s ns ms c.args.to.now x c.get.result.now c.args.size v j (stuck k) whole c.in_ok-index-in-Cell.ensures h)

pub returns-in_ok-write_at-in-Cell : goal.returns-in_ok-write_at-in-Cell
returns-in_ok-write_at-in-Cell c =
    let whole : Cell c.in-Cell.var c.get.result.now ≡ c.args.to.now = rw c.get.ensures (sym c.in-Cell.is) in
    cell_written (state_of c.args.state.now) c.args.out.now c.evaluate.new.out c.args.to.now c.in-Cell.var c.get.result.now c.args.size (option_map as_value c.args.value) (as_value c.in_ok-index-in-Cell.index) _ whole
    c.in_ok-index-in-Cell.ensures c.in_ok-write_at-in-Cell.ensures

pub returns-in_err-write-in-Store : goal.returns-in_err-write-in-Store
returns-in_err-write-in-Store c =
    let ns = c.args.out.now in
    let ms = c.evaluate-in-Store.new.out in
    let ks = c.write.new.out in
    let a = c.in-Store.access in
    let j = as_value c.in_ok-address-in-Store.address in
    let v = option_map as_value c.args.value in
    let s = state_of c.args.state.now in
    let m = c.write.new.memory in
    handed_on c.from_residual-in_err-write-in-Store.result c.in_err-write-in-Store.field-0.0 (λ r. changed ks m r ≡ numbers_first ms (store_at (access_of a) c.args.size j v s.memory))
    (λ r. changed ks (record s { memory = m }) r ≡ numbers_first ns (written c.args.size c.args.to.now v s)) c.from_residual-in_err-write-in-Store.ensures.1 c.in_err-write-in-Store.ensures
    (λ k h. store_written {A = Unit {0}} s ns ms ks c.args.to.now a c.get-in-Store.result.now c.args.size v j m (Err k) (sym c.in-Store.is) c.get-in-Store.ensures c.in_ok-address-in-Store.ensures h)

pub returns-in_ok-write-in-Store : goal.returns-in_ok-write-in-Store
returns-in_ok-write-in-Store c =
    store_written (state_of c.args.state.now) c.args.out.now c.evaluate-in-Store.new.out c.write.new.out c.args.to.now c.in-Store.access c.get-in-Store.result.now c.args.size (option_map as_value c.args.value) (as_value c.in_ok-address-in-Store.address)
    c.write.new.memory (Ok c.in_ok-write-in-Store.field-0) (sym c.in-Store.is) c.get-in-Store.ensures c.in_ok-address-in-Store.ensures c.in_ok-write-in-Store.ensures
