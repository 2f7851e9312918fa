use Rattle.std.proofs.Common.{sym, ap, ◌∙◌}
use Rattle.jz_type_names.specs.Lent.{these}
use Rattle.jz_type_names.specs.Tables.{place_in}
use Rattle.jz_type_names.proofs.UnknownLaws.{variables_are}
use Rattle.jz_type_sizes.proofs.Whole.{lengths_are, no_lengths}
use Rattle.jz_type_sizes.proofs.lengths.lengths_fault.Goals as goal

pub returns-then-not-declares_array : goal.returns-then-not-declares_array
returns-then-not-declares_array g c =
    no_lengths (place_in c.args.constants.now) (g.L.Lengths.length_of c.args.lengths.now) c.args.fun.now (these c.as_slice.result.now)
    (ap these c.as_slice.ensures.value ∙ c.in_ok-decls.ensures) (sym c.declares_array.ensures ∙ c.if-not-declares_array.true)

pub returns : goal.returns
returns g c =
    let variables = c.in_ok-variables.variables
    in lengths_are (place_in c.args.constants.now) (place_in variables) (g.L.Lengths.length_of c.args.lengths.now) c.args.fun.now (these c.as_slice-2.result.now) _
    (ap these c.as_slice-2.ensures.value ∙ c.in_ok-decls.ensures) (variables_are variables c.args.fun.now c.in_ok-variables.ensures) c.in_ok-found.ensures
