use Rattle.std.proofs.Common.{◌≡◌, ◌≤◌, length, true, false, ap, sym, ◌∙◌, arith, rules}
use Rattle.std.specs.Prelude.{slice_get, is_none}
use Rattle.jz_layers.specs.Spots.{Spot, cell_spot, spot_of, same_spot, variable_key}
use Rattle.jz_layers.proofs.SpotLemmas.{same_spot-true}
use Rattle.jz_layers.proofs.Covering.{entry_at}
use Rattle.jz_fact_sets.specs.Kept.{known_at}
use Rattle.jz_fact_sets.specs.declared.knowledge.Knowledge.{Knowledge}
use Rattle.jz_asked.proofs.Looking.{none_first, next_none, not_known, cells_are_not_plain}
use Rattle.jz_asked.proofs.cells.is_noted_set.Goals as goal

pub loop-i-init : goal.loop-i-init
loop-i-init c = none_first c.args.says.set.now.noted.entries (cell_spot c.args.var.now c.args.index)

pub loop-i-preserved : goal.loop-i-preserved
loop-i-preserved c =
    let s = c.args.says.set.now in
    let o = c.in-Some.other in
    let e = entry_at (slice_get s.noted.entries c.loop-i.i) o c.in-Some.ensures in
    let other : same_spot (cell_spot c.args.var.now c.args.index) (spot_of o) ≡ false = search rules in
    next_none s.noted.entries c.loop-i.i (cell_spot c.args.var.now c.args.index) o e.0 c.loop-i.invariant e.1 other

pub returns-then-is_that : goal.returns-then-is_that
returns-then-is_that c =
    let s = c.args.says.set.now in
    let here : same_spot (cell_spot c.args.var.now c.args.index) (spot_of c.in-Some.other) ≡ true = search rules in
    ap (λ (x : Knowledge). x.set) (c.known_at.ensures ∙ ap (known_at s) (sym (same_spot-true (cell_spot c.args.var.now c.args.index) (spot_of c.in-Some.other) here)))

pub returns : goal.returns
returns c =
    let s = c.args.says.set.now in
    let l : length s.noted.entries ≤ c.loop-i.i = omega (arith, c.loop-i-test.false, c.noted-count.ensures.count) in
    not_known s (cell_spot c.args.var.now c.args.index) c.loop-i.i (cells_are_not_plain (is_none (variable_key c.args.var.now).cell)) c.noted-count.ensures.listed l c.loop-i.invariant
