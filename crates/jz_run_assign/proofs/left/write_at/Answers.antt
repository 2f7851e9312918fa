use Rattle.std.proofs.Common.{◌≡◌, ap, ◌∙◌}
use Rattle.std.specs.Prelude.{option_map}
use Rattle.jz_meaning.specs.Rules.{stuck}
use Rattle.jz_meaning.specs.Assignments.{in_cell}
use Rattle.jz_meaning.specs.Attempts.{changed, numbers_first}
use Rattle.jz_meaning.specs.States.{as_value}
use Rattle.jz_meaning.specs.Stores.{state_of}
use Rattle.jz_meaning.specs.Values.{size_of, ref_of, index_at}
use Rattle.jz_meaning.proofs.AttemptLemmas.{gone_then, handed_on}
use Rattle.jz_run_assign.specs.InnerParts.{cell_written}
use Rattle.jz_run_assign.proofs.left.write_at.Goals as goal

pub returns-in_err-write_cell : goal.returns-in_err-write_cell
returns-in_err-write_cell c =
    let ns = c.args.out.now in
    let ms = c.index.new.out in
    let x = ref_of c.args.var.now in
    let at = as_value c.args.at in
    let v = option_map as_value c.args.value in
    let s = state_of c.args.state.now in
    let t = state_of c.write_cell.new.state in
    let n = c.in_ok-index.index in
    let size : c.size_of.result ≡ size_of x.kind = c.size_of.ensures ∙ ap size_of c.kind_of.ensures in
    handed_on c.from_residual-in_err-write_cell.result c.in_err-write_cell.field-0.0 (λ r. changed ms t r ≡ numbers_first ms (in_cell x n c.size_of.result v s))
    (λ r. changed ms t r ≡ numbers_first ns (cell_written c.args.var.now at v s)) c.from_residual-in_err-write_cell.ensures.1 (c.in_err-write_cell.ensures ms)
    (λ k h. gone_then ns ms (index_at x at) (λ i. in_cell x i (size_of x.kind) v s) n (stuck k) c.in_ok-index.ensures (h ∙ ap (λ z. numbers_first ms (in_cell x n z v s)) size))

pub returns : goal.returns
returns c =
    let ns = c.args.out.now in
    let ms = c.index.new.out in
    let x = ref_of c.args.var.now in
    let v = option_map as_value c.args.value in
    let s = state_of c.args.state.now in
    let n = c.in_ok-index.index in
    let size : c.size_of.result ≡ size_of x.kind = c.size_of.ensures ∙ ap size_of c.kind_of.ensures in
    gone_then ns ms (index_at x (as_value c.args.at)) (λ i. in_cell x i (size_of x.kind) v s) n _ c.in_ok-index.ensures (c.in_ok-write_cell.ensures ms ∙ ap (λ z. numbers_first ms (in_cell x n z v s)) size)
