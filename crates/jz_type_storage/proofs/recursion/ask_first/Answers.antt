use Rattle.std.proofs.Common.{arith, ◌<◌, ◌∙◌, sym, subst, length}
use Rattle.jz_type_storage.specs.InnerNumbers.{IsClosed}
use Rattle.jz_type_storage.proofs.Bridge.{closed}
use Rattle.jz_type_storage.proofs.Spread.{mark_is}
use Rattle.jz_type_storage.proofs.Steep.{candidate_within, first_recursive}
use Rattle.jz_type_storage.proofs.recursion.ask_first.Goals as goal

pub reach-requires-clause-closed : goal.reach-requires-clause-closed
reach-requires-clause-closed c = subst IsClosed (sym c.requires.graph) (closed c.args.program.now.funs)

pub index-requires : goal.index-requires
index-requires c =
    let lt = candidate_within c.args.program.now c.args.graph.now c.args.first c.requires.graph c.requires.stands in
    omega (arith, lt, c.in_ok-found.ensures.same)

pub returns-then-index : goal.returns-then-index
returns-then-index c =
    let p = c.args.program.now in
    let g = c.args.graph.now in
    let first = c.args.first in
    let marks = c.in_ok-found.found.marks.items in
    let lt = candidate_within p g first c.requires.graph c.requires.stands in
    let within : first.number < length marks = omega (arith, lt, c.in_ok-found.ensures.same) in
    let marked = mark_is marks first.number c.index.result.now within c.index.ensures ∙ c.if-index.true in
    first_recursive p g first c.requires.graph c.requires.stands ((c.in_ok-found.ensures.reached first.number).0 marked) c.requires.least
