use Rattle.std.proofs.Common.{ap₂, ◌∙◌}
use Rattle.std.specs.Prelude.{flat_map}
use Rattle.jz_type_names.specs.Order.{earliest}
use Rattle.jz_type_names.specs.Tables.{place_in, function_in}
use Rattle.jz_type_names.proofs.Earliest.{first_over}
use Rattle.jz_type_names.proofs.UnknownLaws.{constants_are, functions_are}
use Rattle.jz_type_sizes.proofs.Whole.{declared_whole}
use Rattle.jz_type_storage.specs.Declarations.{unkept_in}
use Rattle.jz_type_storage.specs.Settings.{wrongly_set_in}
use Rattle.jz_type_rows.specs.Copies.{copied_by}
use Rattle.jz_type_rows.specs.Indexes.{indexed_by}
use Rattle.jz_type_rows.specs.Programs.{in_body}
use Rattle.jz_types.specs.Rows.{unmatched_in_fun}
use Rattle.jz_types.proofs.checking.of_declared.Goals as goal

pub returns : goal.returns
returns c =
    let q = c.args.declared.now
    in let constants = c.in_ok-constants.constants
    in let functions = c.in_ok-functions.functions
    in let callees = c.in_ok-callees.ensures
    in let first = c.in_ok-first.ensures
    in record {
      mismatched = first.mismatched ∙ declared_whole q functions c.in_ok-functions.ensures;
      kept = first.kept ∙ first_over unkept_in q.funs;
      set = first.set ∙ first_over (λ f. wrongly_set_in f.body) q.funs;
      read = first.read;
      unmatched = first.unmatched q.funs callees
          ∙ (first_over (unmatched_in_fun (place_in constants) (function_in functions) q.funs) q.funs
          ∙ ap₂ (λ cs ns. earliest (flat_map (unmatched_in_fun cs ns q.funs) q.funs))
          (constants_are constants q.consts c.in_ok-constants.ensures)
          (functions_are functions q.funs c.in_ok-functions.ensures));
      copied = first.copied q.funs callees ∙ first_over (in_body (copied_by q.funs)) q.funs;
      indexed = first.indexed ∙ first_over (in_body indexed_by) q.funs;
    }
