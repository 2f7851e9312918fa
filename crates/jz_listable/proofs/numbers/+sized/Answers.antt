use Rattle.std.proofs.Common.{rules}
use Rattle.jz_listing.specs.Listable.{case_fits, tr_fits}
use Rattle.jz_listable.proofs.Sized.{part_more, part_all}
use Rattle.jz_listable.proofs.numbers.+sized.Goals as goal

pub cases_are_sized-loop-case-preserved : goal.cases_are_sized-loop-case-preserved
cases_are_sized-loop-case-preserved n c =
    part_more case_fits c.as_slice-case-items.result.now c.loop-case.case-index c.case-item.result (search rules) c.case-item.is c.loop-case.invariant c.case_is_sized.ensures

pub cases_are_sized-returns : goal.cases_are_sized-returns
cases_are_sized-returns n c = part_all case_fits c.args.cases.now c.as_slice-case-items.result.now c.loop-case.case-index c.as_slice-case-items.ensures (search rules) c.loop-case.invariant

pub trees_are_sized-loop-tr-preserved : goal.trees_are_sized-loop-tr-preserved
trees_are_sized-loop-tr-preserved n c =
    part_more tr_fits c.as_slice-tr-items.result.now c.loop-tr.tr-index c.tr-item.result (search rules) c.tr-item.is c.loop-tr.invariant c.tree_is_sized.ensures

pub trees_are_sized-returns : goal.trees_are_sized-returns
trees_are_sized-returns n c = part_all tr_fits c.args.trs.now c.as_slice-tr-items.result.now c.loop-tr.tr-index c.as_slice-tr-items.ensures (search rules) c.loop-tr.invariant
