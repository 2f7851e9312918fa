use Rattle.std.proofs.Common.{sym, ◌∙◌}
use Rattle.jz_meaning.specs.Values.{ref_of}
use Rattle.jz_unplaced.proofs.Finding.{counted}
use Rattle.jz_unplaced.proofs.numbers.count_in_registers.Goals as goal

pub returns-in-Array : goal.returns-in-Array
returns-in-Array c =
    let v = c.args.var.now in
    counted (ref_of v).kind (ref_of v) _ c.in-Array.count (sym c.kind_of.ensures ∙ c.in-Array.is)
