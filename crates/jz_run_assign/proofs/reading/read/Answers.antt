use Rattle.std.proofs.Common.{ap, sym, ◌≡◌}
use Rattle.jz_meaning.specs.Rules.{stuck}
use Rattle.jz_meaning.specs.Attempts.{seen, numbers_first}
use Rattle.jz_meaning.specs.States.{as_value}
use Rattle.jz_meaning.specs.Stores.{state_of}
use Rattle.jz_meaning.specs.Values.{ref_of, access_of, cell_value, load_at, evaluated}
use Rattle.jz_meaning.proofs.AttemptLemmas.{handed_on}
use Rattle.jz_meaning.proofs.LeftSideLemmas.{cell_goes, load_goes}
use Rattle.jz_run_assign.specs.InnerRights.{read_of}
use Rattle.jz_run_assign.proofs.reading.read.Goals as goal

pub returns-in_err-value-in-Cell : goal.returns-in_err-value-in-Cell
returns-in_err-value-in-Cell c =
    let s = state_of c.args.state.now in
    let ns = c.args.out.now in
    let ms = c.evaluate.new.out in
    let x = c.in-Cell.var.now in
    let v = as_value c.in_ok-index-in-Cell.index in
    handed_on c.from_residual-in_err-value-in-Cell.result c.in_err-value-in-Cell.field-0.0 (λ r. seen c.cell.new.out r ≡ numbers_first ms (cell_value (ref_of x) v s.store))
    (λ r. seen c.cell.new.out r ≡ numbers_first ns (evaluated (read_of c.args.place) c.args.wanted s)) c.from_residual-in_err-value-in-Cell.ensures.1 c.in_err-value-in-Cell.ensures
    (λ k h. cell_goes s ns ms (read_of c.args.place) c.in-Cell.at.now x c.args.wanted v (stuck k) (ap read_of (sym c.in-Cell.is)) c.in_ok-index-in-Cell.ensures h)

pub returns-in_ok-value-in-Cell : goal.returns-in_ok-value-in-Cell
returns-in_ok-value-in-Cell c =
    cell_goes (state_of c.args.state.now) c.args.out.now c.evaluate.new.out (read_of c.args.place) c.in-Cell.at.now c.in-Cell.var.now c.args.wanted (as_value c.in_ok-index-in-Cell.index) _ (ap read_of (sym c.in-Cell.is))
    c.in_ok-index-in-Cell.ensures c.in_ok-value-in-Cell.ensures

pub returns-in_err-value-in-Memory : goal.returns-in_err-value-in-Memory
returns-in_err-value-in-Memory c =
    let s = state_of c.args.state.now in
    let ns = c.args.out.now in
    let ms = c.evaluate-in-Memory.new.out in
    let a = c.in-Memory.access.now in
    let v = as_value c.in_ok-address-in-Memory.address in
    handed_on c.from_residual-in_err-value-in-Memory.result c.in_err-value-in-Memory.field-0.0 (λ r. seen c.load.new.out r ≡ numbers_first ms (load_at (access_of a) c.args.wanted v s.memory))
    (λ r. seen c.load.new.out r ≡ numbers_first ns (evaluated (read_of c.args.place) c.args.wanted s)) c.from_residual-in_err-value-in-Memory.ensures.1 c.in_err-value-in-Memory.ensures
    (λ k h. load_goes s ns ms (read_of c.args.place) c.get.result.now a c.args.wanted v (stuck k) (ap read_of (sym c.in-Memory.is)) c.get.ensures c.in_ok-address-in-Memory.ensures h)

pub returns-in_ok-value-in-Memory : goal.returns-in_ok-value-in-Memory
returns-in_ok-value-in-Memory c =
    load_goes (state_of c.args.state.now) c.args.out.now c.evaluate-in-Memory.new.out (read_of c.args.place) c.get.result.now c.in-Memory.access.now c.args.wanted (as_value c.in_ok-address-in-Memory.address) _ (ap read_of (sym c.in-Memory.is)) c.get.ensures
    c.in_ok-address-in-Memory.ensures c.in_ok-value-in-Memory.ensures
