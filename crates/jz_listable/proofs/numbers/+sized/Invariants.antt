use Rattle.std.proofs.Common.{◌≡◌, map, take, true}
use Rattle.jz_listing.specs.Listable.{case_fits, tr_fits, parts_fit}
use Rattle.jz_listable.proofs.numbers.+sized.Given as goal

abbrev pub invariant-cases_are_sized-loop-case : goal.invariant-cases_are_sized-loop-case
invariant-cases_are_sized-loop-case l = parts_fit (map case_fits (take l.case-index l.case-items)) ≡ true

abbrev pub invariant-trees_are_sized-loop-tr : goal.invariant-trees_are_sized-loop-tr
invariant-trees_are_sized-loop-tr l = parts_fit (map tr_fits (take l.tr-index l.tr-items)) ≡ true
