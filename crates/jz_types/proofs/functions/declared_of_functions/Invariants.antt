use Rattle.std.proofs.Common.{◌≡◌, List, take, drop}
use Rattle.jz_tree.specs.declared.program.Fun.{Fun}
use Rattle.jz_type_names.specs.Order.{earlier, first_in, IsEarliest}
use Rattle.jz_type_names.specs.Tables.{place_in, function_in}
use Rattle.jz_type_sizes.specs.Mismatches.{body_wrong}
use Rattle.jz_type_storage.specs.Declarations.{unkept_in}
use Rattle.jz_type_storage.specs.Settings.{wrongly_set_in}
use Rattle.jz_type_storage.specs.Paths.{IsReadUnset}
use Rattle.jz_type_storage.proofs.FunctionLaws.{InOneOf}
use Rattle.jz_type_rows.specs.Copies.{copied_by}
use Rattle.jz_type_rows.specs.Indexes.{indexed_by}
use Rattle.jz_type_rows.specs.Programs.{in_body}
use Rattle.jz_type_rows.specs.Tables.{HasCallees}
use Rattle.jz_types.specs.Rows.{unmatched_in_fun}
use Rattle.jz_types.proofs.functions.declared_of_functions.Given as goal

abbrev pub invariant-loop-fun : goal.invariant-loop-fun
invariant-loop-fun l =
    let places = place_in l.fn.constants
    in let functions = function_in l.fn.functions
    in let rest = drop l.fun-index l.fun-items
    in let all = l.fn.declared.funs
    in (earlier l.first.mismatched (first_in (body_wrong functions) rest) ≡ first_in (body_wrong functions) all)
    × (earlier l.first.kept (first_in unkept_in rest) ≡ first_in unkept_in all)
    × (earlier l.first.set (first_in (λ f. wrongly_set_in f.body) rest) ≡ first_in (λ f. wrongly_set_in f.body) all)
    × IsEarliest (InOneOf IsReadUnset (take l.fun-index l.fun-items)) l.first.read
    × ((fs : List Fun) → HasCallees l.callees fs → earlier l.first.unmatched (first_in (unmatched_in_fun places functions fs) rest) ≡ first_in (unmatched_in_fun places functions fs) all)
    × ((fs : List Fun) → HasCallees l.callees fs → earlier l.first.copied (first_in (in_body (copied_by fs)) rest) ≡ first_in (in_body (copied_by fs)) all)
    × (earlier l.first.indexed (first_in (in_body indexed_by) rest) ≡ first_in (in_body indexed_by) all)
