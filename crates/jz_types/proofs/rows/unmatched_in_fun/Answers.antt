use Rattle.std.proofs.Common.{ap, sym, ◌∙◌}
use Rattle.std.specs.Prelude.{flat_map}
use Rattle.jz_type_names.specs.Order.{earliest}
use Rattle.jz_type_names.specs.Parts.{statements_of}
use Rattle.jz_type_names.specs.Tables.{place_in, function_in}
use Rattle.jz_type_names.proofs.UnknownLaws.{variables_are}
use Rattle.jz_types.specs.Rows.{unmatched_at, unmatched_in_fun}
use Rattle.jz_type_names.proofs.Earliest.{first_in-is}
use Rattle.jz_types.proofs.rows.unmatched_in_fun.Goals as goal

pub returns : goal.returns
unfolding unmatched_in_fun
returns c =
    let f = c.args.fun.now
    in let constants = place_in c.args.constants.now
    in let functions = function_in c.args.functions.now
    in let variables = c.in_ok-variables.variables
    in λ fs h. c.in_ok-first.ensures fs h
    ∙ (sym (first_in-is (unmatched_at constants (place_in variables) functions fs) (statements_of f.body))
    ∙ ap (λ vs. earliest (flat_map (unmatched_at constants vs functions fs) (statements_of f.body))) (variables_are variables f c.in_ok-variables.ensures))
