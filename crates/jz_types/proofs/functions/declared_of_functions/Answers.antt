use Rattle.std.proofs.Common.{ap, arith}
use Rattle.jz_type_names.specs.Order.{first_in}
use Rattle.jz_type_names.specs.Tables.{place_in, function_in}
use Rattle.jz_type_sizes.specs.Mismatches.{body_wrong}
use Rattle.jz_type_storage.specs.Declarations.{unkept_in}
use Rattle.jz_type_storage.specs.Settings.{wrongly_set_in}
use Rattle.jz_type_storage.specs.Paths.{IsReadUnset}
use Rattle.jz_type_storage.proofs.FunctionLaws.{none_among, more_taken, all_taken, unset_in_program}
use Rattle.jz_type_rows.specs.Copies.{copied_by}
use Rattle.jz_type_rows.specs.Indexes.{indexed_by}
use Rattle.jz_type_rows.specs.Programs.{in_body}
use Rattle.jz_types.specs.Rows.{unmatched_in_fun}
use Rattle.jz_types.proofs.Joins.{first_more}
use Rattle.jz_types.proofs.functions.declared_of_functions.Goals as goal

pub loop-fun-init : goal.loop-fun-init
loop-fun-init c =
    let funs = c.as_slice-fun-items.ensures
    in let places = place_in c.args.constants.now
    in let functions = function_in c.args.functions.now
    in (
      ap (first_in (body_wrong functions)) funs,
      ap (first_in unkept_in) funs,
      ap (first_in (λ f. wrongly_set_in f.body)) funs,
      none_among IsReadUnset,
      λ fs h. ap (first_in (unmatched_in_fun places functions fs)) funs,
      λ fs h. ap (first_in (in_body (copied_by fs))) funs,
      ap (first_in (in_body indexed_by)) funs,
    )

pub loop-fun-preserved : goal.loop-fun-preserved
loop-fun-preserved c =
    let places = place_in c.args.constants.now
    in let functions = function_in c.args.functions.now
    in let funs = c.as_slice-fun-items.result.now
    in let i = c.loop-fun.fun-index
    in let fun = c.fun-item.result
    in let first = c.loop-fun.first
    in let within = c.loop-fun-test.true
    in let is = c.fun-item.is
    in let held = c.loop-fun.invariant
    in (
      first_more (body_wrong functions) funs i fun first.mismatched _ _ _ within is c.in_ok-mismatched.ensures c.earlier_of.ensures.is held.0,
      first_more unkept_in funs i fun first.kept _ _ _ within is c.wrongly_kept.ensures c.earlier_of-in-loop-fun.ensures.is held.1,
      first_more (λ f. wrongly_set_in f.body) funs i fun first.set _ _ _ within is c.in_ok-set.ensures c.earlier_of-in-loop-fun-2.ensures.is held.2,
      more_taken IsReadUnset funs i fun first.read _ _ within is held.3 c.in_ok-read.ensures c.earlier_of-in-loop-fun-3.ensures.is,
      λ fs h. first_more (unmatched_in_fun places functions fs) funs i fun first.unmatched _ _ _ within is (c.in_ok-unmatched.ensures fs h) c.earlier_of-in-loop-fun-4.ensures.is (held.4 fs h),
      λ fs h. first_more (in_body (copied_by fs)) funs i fun first.copied _ _ _ within is (c.in_ok-copied.ensures fs h) c.earlier_of-in-loop-fun-5.ensures.is (held.5 fs h),
      first_more (in_body indexed_by) funs i fun first.indexed _ _ _ within is c.in_ok-indexed.ensures c.earlier_of-in-loop-fun-6.ensures.is held.6,
    )

pub returns-clause-read : goal.returns-clause-read
returns-clause-read c =
    unset_in_program c.args.declared.now _
    (all_taken IsReadUnset c.as_slice-fun-items.result.now c.args.declared.now.funs c.loop-fun.fun-index _ c.as_slice-fun-items.ensures (omega arith) c.loop-fun.invariant.3)
