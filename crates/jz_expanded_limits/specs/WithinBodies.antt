-- Bodies without calls of which each statement is within the limits.
use Rattle.std.specs.Prelude.{◌≡◌, [], ⊤}
use Rattle.jz_runs.specs.Trees.{done, op, quiet, choose, loop, each, call}
use Rattle.jz_meaning.specs.Statements.{Operation, Condition, Block}
use Rattle.jz_limits.specs.Values.{no_numbers}
use Rattle.jz_limits.specs.Asked.{asked, asked_condition}

-- no number of an inline variable is wanted
abbrev pub IsWithin : Operation → Type 0
IsWithin o = asked no_numbers o ≡ []

abbrev pub IsWithinTest : Condition → Type 0
IsWithinTest c = asked_condition no_numbers c.cond ≡ []

abbrev pub IsWithinBody : Block → Type 0
IsWithinBody done = ⊤
IsWithinBody (op o r) = IsWithin o × IsWithinBody r
IsWithinBody (quiet o r) = IsWithinBody r
IsWithinBody (choose c a b r) =
    IsWithinTest c × IsWithinBody a × IsWithinBody b × IsWithinBody r
IsWithinBody (loop h q c b r) =
    IsWithinTest c × IsWithinBody q × IsWithinBody b × IsWithinBody r
IsWithinBody (each i b r) = IsWithinBody b × IsWithinBody r
IsWithinBody (call c b r) = ⊥
