-- What constant time says of the runs of a text, where `ct` answers with a line for each export
-- function.
use Rattle.std.specs.Prelude.{◌≡◌, true, List, ℕ, Contains}
use Rattle.jz_tree.specs.declared.program.Fun.{Fun}
use Rattle.jz_type_rows.specs.Exports.{is_exported}
use Rattle.jasminc_ct.specs.Answers.{Gives}
use Rattle.jz_source_leaks.specs.SourceLeaks.{SourcesLeakTheSame}

-- two inputs of an export function that are equal at its public parameters leak the same in it
abbrev pub JudgedSourcesLeakTheSame : Type 0
JudgedSourcesLeakTheSame =
    (text output : List ℕ) (g : Gives text output) (f : Fun)
    → Contains g.program.funs f → is_exported f.kind ≡ true → SourcesLeakTheSame g.program f
