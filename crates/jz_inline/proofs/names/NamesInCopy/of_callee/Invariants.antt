use Rattle.std.proofs.Common.{◌≡◌, ℕ, List, drop}
use Rattle.jz_type_names.specs.Tables.{item_in}
use Rattle.jz_inline.specs.Calls.{callee_names}
use Rattle.jz_inline.specs.CopiedNames.{names_of, renamed_or}
use Rattle.jz_inline.proofs.names.NamesInCopy.of_callee.Given as goal

abbrev pub invariant-loop-i : goal.invariant-loop-i
invariant-loop-i l =
    (n : List ℕ)
    → renamed_or (item_in l.arrays n) (callee_names (names_of l.self) l.copy (drop l.i l.params) (drop l.i l.args) n)
    ≡ callee_names (names_of l.self) l.copy l.params l.args n
