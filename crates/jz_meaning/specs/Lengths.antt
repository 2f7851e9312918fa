-- How many statements a block has.
use Rattle.std.specs.Prelude.{ℕ, ◌+◌}
use Rattle.jz_runs.specs.Trees.{done, op, quiet, choose, loop, each, call}
use Rattle.jz_meaning.specs.Statements.{Block}

-- those in branches and loops too; a mark is none
abbrev pub statements_in : Block → ℕ
statements_in done = 0
statements_in (op o r) = 1 + statements_in r
statements_in (quiet o r) = statements_in r
statements_in (choose c a b r) = 1 + statements_in a + statements_in b + statements_in r
statements_in (loop q p c b r) = 1 + statements_in p + statements_in b + statements_in r
statements_in (each f b r) = 1 + statements_in b + statements_in r
statements_in (call c b r) = 1 + statements_in b + statements_in r
